-- Whether a move has a label strictly below another's and a target whose store is inside that of the other's, as it is tested.
use Rattle.std.specs.Prelude.{◌≡◌, refl, Bool, true, false, not, ◌&&◌, ℕ, eqb}
use Rattle.std.proofs.Common.{sym, ap, ◌∙◌, eq-eqb, ne_eqb}
use Rattle.std.specs.Int.Bits.{bit_and}
use Rattle.work_layout.specs.Stores.{strictly_below, includes}

and_none : (s x : Bool) → ((s && false) && x) ≡ false
and_none true x = refl
and_none false x = refl

-- equal labels
pub equal_not_below : (a b : ℕ) (x : Bool) → a ≡ b → false ≡ (strictly_below a b && x)
equal_not_below a b x e =
    sym (ap (λ (t : Bool). (includes b a && not t) && x) (eq-eqb a b e) ∙ and_none (includes b a) x)

-- a label that is not inside the other
pub outside_not_below : (a b : ℕ) (x : Bool) → (bit_and a b ≡ a → ⊥) → false ≡ (strictly_below a b && x)
outside_not_below a b x d = sym (ap (λ (t : Bool). (t && not (eqb a b)) && x) (ne_eqb (bit_and a b) a d))

-- a label that is inside the other and is not the other: the stores decide
pub below_by_stores : (a b s t s' t' : ℕ) (r : Bool) → (a ≡ b → ⊥) → bit_and a b ≡ a → s ≡ s' → t ≡ t' → r ≡ eqb (bit_and s t) s
    → r ≡ (strictly_below a b && includes t' s')
below_by_stores a b s t s' t' r d h es et e =
    e ∙ ap (λ (x : ℕ). eqb (bit_and x t) x) es ∙ ap (λ (y : ℕ). eqb (bit_and s' y) s') et
    ∙ sym (ap (λ (x : Bool). (x && not (eqb a b)) && includes t' s') (eq-eqb (bit_and a b) a h)
    ∙ ap (λ (x : Bool). not x && includes t' s') (ne_eqb a b d))
