-- How many sets are marked: as many as the words have digits 1.
use Rattle.std.specs.Prelude.{◌≡◌, refl, Bool, true, false, cond, List, ◌∷◌, ℕ, zero, suc, ◌+◌, ◌*◌, ◌/◌, ◌%◌, ◌^◌, ◌<◌, eqb, length, get_or}
use Rattle.std.proofs.Common.{sym, ap, ap₂, ◌∙◌, pow-suc, arith, length-append, eqb-true}
use Rattle.std.specs.Int.Count.{ones, ones_step}
use Rattle.std.proofs.lemmas.Nat.{ones-le}
use Rattle.std.proofs.lemmas.Bool.{eqb-false}
use Rattle.search_laws.specs.Lists.{select}
use Rattle.search_laws.specs.FactSets.{digit}
use Rattle.search_laws.specs.FactSetLaws.{digit_zero, digit_half}
use Rattle.search_laws.specs.Moves.{count_up}
use Rattle.search_laws.specs.SupersetLaws.{count_up_append, select_append}
use Rattle.set_digits.specs.SetDigits.{mark, marked_sets}

-- as many places of a word as are marked
pub ones_counted : (n b x : ℕ) (p : ℕ → Bool) → x < 2 ^ n → ((j : ℕ) → j < n → p (b + j) ≡ eqb (digit x j) 1)
    → length (select p (count_up b n)) ≡ ones x
ones_counted zero b x p h f = omega (arith, ones-le 0 x h)
ones_counted (suc n) b x p h f =
    more (eqb (x % 2) 1) (ap p (omega arith) ∙ f 0 (omega arith) ∙ ap (λ (d : ℕ). eqb d 1) (digit_zero x)) refl
    ∙ ap (λ (m : ℕ). x % 2 + m)
    (ones_counted n (suc b) (x / 2) p (omega (arith, pow-suc 2 n))
    (λ j l. ap p (omega arith) ∙ f (suc j) (omega arith) ∙ ap (λ (d : ℕ). eqb d 1) (sym (digit_half x j))))
    ∙ sym (ones_step x)
  where
    others : List ℕ
    others = select p (count_up (suc b) n)

    more : (t : Bool) → p b ≡ t → eqb (x % 2) 1 ≡ t → length (cond (p b) (b ∷ others) others) ≡ x % 2 + length others
    more true e k = rw e (omega (arith, eqb-true (x % 2) 1 k))
    more false e k = rw e (omega (arith, eqb-false (x % 2) 1 k))

-- one word more
pub counted_next : (w : List ℕ) (at k : ℕ) → get_or w (at + k) 0 < 2 ^ 32
    → length (marked_sets w at (k + 1)) ≡ length (marked_sets w at k) + ones (get_or w (at + k) 0)
counted_next w at k h =
    let p : ℕ → Bool = λ s. eqb (mark w at s) 1 in
    let e : 32 * (k + 1) ≡ 32 * k + 32 = omega arith in
    ap (λ (n : ℕ). length (select p (count_up 0 n))) e
    ∙ ap (λ (l : List ℕ). length (select p l)) (count_up_append (32 * k) 32 0)
    ∙ ap length (select_append p (count_up 0 (32 * k)) (count_up (0 + 32 * k) 32))
    ∙ length-append (select p (count_up 0 (32 * k))) (select p (count_up (0 + 32 * k) 32))
    ∙ ap (λ (n : ℕ). length (select p (count_up 0 (32 * k))) + n)
    (ones_counted 32 (0 + 32 * k) (get_or w (at + k) 0) p h
    (λ j l. ap₂ (λ (i r : ℕ). eqb (digit (get_or w (at + i) 0) r) 1) (omega arith) (omega arith)))
