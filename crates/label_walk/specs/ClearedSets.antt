-- The sets that include one of the numbers of a part are no longer marked: the numbers taken one after the other.
use Rattle.std.specs.Prelude.{◌≡◌, refl, Bool, true, false, cond, not, ◌&&◌, ◌||◌, List, [], ◌∷◌, ◌++◌, ℕ, ◌+◌, ◌*◌, ◌≤◌, ◌<◌, length, get_or, take, drop}
use Rattle.std.proofs.Common.{sym, ap, ◌∙◌, inr, add-one, arith, length-drop, take-suc, get_or-drop}
use Rattle.set_digits.specs.TestLaws.{Tested, passes, fails, tested}
use Rattle.set_digits.specs.Frames.{outside_same, outside_again}
use Rattle.digit_lists.specs.Stores.{includes}
use Rattle.set_digits.specs.FactSetLaws.{within_le}
use Rattle.digit_lists.specs.StoreLaws.{includes_within}
use Rattle.set_digits.specs.SheetLimits.{max_facts}
use Rattle.set_digits.specs.OrderedSearch.{is_covered}
use Rattle.set_digits.specs.SetDigits.{words_of, mark, Marked}
use Rattle.label_walk.specs.LabelWalk.{numbers_at}
use Rattle.label_walk.specs.SelectLaws.{any_append}

-- v is w with the digits of the sets cleared that include one of the n numbers from `at` on
abbrev pub Cleared : ℕ → ℕ → ℕ → ℕ → List ℕ → List ℕ → Type 0
Cleared left words at n w v = Marked left words w v (λ s. cond (is_covered (numbers_at w at n) s) 0 (mark w left s))

-- one number more
pub numbers_next : (w : List ℕ) (at i : ℕ) → at + i < length w → numbers_at w at (i + 1) ≡ numbers_at w at i ++ (get_or w (at + i) 0 ∷ [])
numbers_next w at i h =
    let l : i < length (drop at w) = simp length-drop (omega arith) in
    ap (λ (n : ℕ). take n (drop at w)) (add-one i) ∙ take-suc (drop at w) i 0 l
    ∙ ap (λ (x : ℕ). numbers_at w at i ++ (x ∷ [])) (get_or-drop at w i 0)

-- one number alone
pub numbers_one : (w : List ℕ) (at : ℕ) → at < length w → numbers_at w at 1 ≡ get_or w at 0 ∷ []
numbers_one w at h = let e : at + 0 ≡ at = omega arith in rw e at (numbers_next w at 0 (omega arith))

-- a digit cleared by one test and then by another
pub cond_both : (p q : Bool) (x : ℕ) → cond q 0 (cond p 0 x) ≡ cond (p || q) 0 x
cond_both true true x = refl
cond_both true false x = refl
cond_both false q x = refl

-- no set has fact 16
no_fact : (s : ℕ) → s < 65536 → includes s 65536 ≡ false
no_fact s h = go (tested (includes s 65536))
  where
    go : Tested (includes s 65536) → includes s 65536 ≡ false
    go (passes e) = absurd (omega (arith, within_le (includes_within s 65536 e)))
    go (fails e) = e

module _ (left words at : ℕ) (w : List ℕ) where
  -- with no number nothing is cleared
  pub cleared_none : Cleared left words at 0 w w
  cleared_none = record { digits = λ s h. refl; same = outside_same left (left + words) w }

  -- with one number more the sets that include it are
  pub cleared_next : (i : ℕ) (v u : List ℕ) → words ≤ words_of max_facts → left + words ≤ at → at + i < length w → Cleared left words at i w v
      → Marked left words v u (λ s. cond (includes s (get_or v (at + i) 0) && not (includes s 65536)) 0 (mark v left s))
      → Cleared left words at (i + 1) w u
  cleared_next i v u few apart h f g = record { digits = digits; same = outside_again f.same g.same }
    where
      alone : (t : Bool) → (t && true) ≡ (t || false)
      alone true = refl
      alone false = refl

      digits : (s : ℕ) → s < 32 * words → mark u left s ≡ cond (is_covered (numbers_at w at (i + 1)) s) 0 (mark w left s)
      digits s l =
          let one : includes s (get_or v (at + i) 0) && not (includes s 65536) ≡ is_covered (get_or w (at + i) 0 ∷ []) s =
          ap (λ (t : Bool). includes s (get_or v (at + i) 0) && not t) (no_fact s (omega arith))
          ∙ ap (λ (x : ℕ). includes s x && true) (f.same.at (at + i) (inr (omega arith)))
          ∙ alone (includes s (get_or w (at + i) 0)) in
          g.digits s l
          ∙ ap (λ (t : Bool). cond t 0 (mark v left s)) one
          ∙ ap (cond (is_covered (get_or w (at + i) 0 ∷ []) s) 0) (f.digits s l)
          ∙ cond_both (is_covered (numbers_at w at i) s) (is_covered (get_or w (at + i) 0 ∷ []) s) (mark w left s)
          ∙ ap (λ (t : Bool). cond t 0 (mark w left s))
          (sym (any_append (λ b. includes s b) (numbers_at w at i) (get_or w (at + i) 0 ∷ []))
          ∙ ap (λ (l : List ℕ). is_covered l s) (sym (numbers_next w at i h)))
