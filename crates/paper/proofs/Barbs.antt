-- Source 001, section 4: two configurations satisfy the same barbs exactly when they have the same store.
use Rattle.std.specs.Prelude.{◌≡◌, ◌↔◌, ℕ}
use Rattle.std.proofs.Common.{sym, subst}
use Rattle.comparison_laws.specs.FactSets.{Within}
use Rattle.comparison_laws.specs.FactSetLaws.{within_refl, within_antisym}
use Rattle.comparison_laws.specs.Sheet.{Sheet}
use Rattle.paper.specs.Terms.{Conf}
use Rattle.paper.specs.Bisimulations.{Con, KeepsBarbs, Symmetric}

module _ (s : Sheet) where
  pub barbs_stores : (d e : ℕ) → Con s d → Con s e → ((c : ℕ) → Con s c → Within c d ↔ Within c e) ↔ (d ≡ e)
  barbs_stores d e cd ce = (
    (λ f. within_antisym ((f d cd).0 (within_refl d)) ((f e ce).1 (within_refl e))),
    (λ q c cc. ((λ h. subst (λ (x : ℕ). Within c x) q h), (λ h. subst (λ (x : ℕ). Within c x) (sym q) h))),
  )

  -- so a symmetric relation that keeps barbs relates configurations with the same store only
  pub same_stores : (R : Conf → Conf → Type 0) → Symmetric s R → KeepsBarbs s R → (x y : Conf) → R x y → x.store ≡ y.store
  same_stores R sym-R keeps x y r =
      (barbs_stores x.store y.store (sym-R.over x y r).0 (sym-R.over x y r).1).0
      (λ c cc. (keeps x y r c cc, keeps y x (sym-R.symmetric x y r) c cc))
