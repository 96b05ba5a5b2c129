-- Laws of the digits of sets in words: no mark, the same marks, as many words as the sets need.
use Rattle.std.specs.Prelude.{◌≡◌, true, List, ℕ, ◌+◌, ◌-◌, ◌*◌, ◌/◌, ◌%◌, ◌^◌, ◌≤◌, ◌<◌, eqb, ltb, length, get_or, take, drop}
use Rattle.std.proofs.Common.{sym, ap, ◌∙◌, arith, pow_mono, pow-add, length-take, length-drop, get_or-take, get_or-drop, ltb-true, ltb-false, lt-ltb, eqb-true}
use Rattle.search_laws.specs.TestLaws.{Tested, passes, fails, tested}
use Rattle.search_laws.specs.Members.{all_yes}
use Rattle.search_laws.specs.ListPlaces.{get_d_in}
use Rattle.search_laws.specs.FactSets.{digit}
use Rattle.search_laws.specs.FactSetLaws.{zero_digit}
use Rattle.set_digits.specs.SetDigits.{bit, words_of, mark, none_marked, FirstWord}

-- marks agree where the words do
pub marked_agree : (v w : List ℕ) (at words : ℕ) → ((i : ℕ) → i < words → get_or v (at + i) 0 ≡ get_or w (at + i) 0)
    → (s : ℕ) → s < 32 * words → mark v at s ≡ mark w at s
marked_agree v w at words h s l = ap (λ (x : ℕ). digit x (s % 32)) (h (s / 32) (omega arith))

-- no set is marked where no word has a digit
pub none_marked_lem : (w : List ℕ) (at words : ℕ) → at + words ≤ length w → none_marked w at words ≡ true → (s : ℕ) → s < 32 * words → mark w at s ≡ 0
none_marked_lem w at words h e s l =
    let i : s / 32 < words = omega arith in
    let p : s / 32 < length (take words (drop at w)) = simp (length-take, length-drop) (omega arith) in
    let z : get_or (take words (drop at w)) (s / 32) 0 ≡ 0 =
    eqb-true _ 0 (all_yes (λ x. eqb x 0) (take words (drop at w)) e (get_d_in (take words (drop at w)) (s / 32) 0 p)) in
    let y : get_or w (at + s / 32) 0 ≡ 0 = sym (get_or-take words (drop at w) (s / 32) 0 i ∙ get_or-drop at w (s / 32) 0) ∙ z in
    ap (λ (x : ℕ). digit x (s % 32)) y ∙ zero_digit (s % 32)

-- ---- how many words
-- with less than five facts one word is enough
pub words_one : (facts : ℕ) → facts < 5 → words_of facts ≡ 1
words_one facts h = let e : facts - 5 ≡ 0 = omega arith in rw e

-- with five or more every digit of the words belongs to a set
pub words_exact : (facts : ℕ) → 5 ≤ facts → 2 ^ facts ≡ 32 * words_of facts
words_exact facts h = ap (λ (n : ℕ). 2 ^ n) (omega arith) ∙ pow-add 2 5 (facts - 5)

-- each set has a digit
pub words_sets : (facts : ℕ) → 2 ^ facts ≤ 32 * words_of facts
words_sets facts = go (tested (ltb facts 5))
  where
    go : Tested (ltb facts 5) → 2 ^ facts ≤ 32 * words_of facts
    go (passes p) =
        let h : facts ≤ 5 = omega (arith, ltb-true facts 5 p) in
        omega (arith, words_one facts (ltb-true facts 5 p), pow_mono h)
    go (fails p) = omega (arith, words_exact facts (ltb-false facts 5 p))

-- the first word has the digits of every word
pub first_word_digit : (facts x : ℕ) → FirstWord facts x → (s : ℕ) → s < 32 * words_of facts → digit x (s % 32) ≡ bit (ltb s (2 ^ facts))
first_word_digit facts x f s h = f.digits (s % 32) (omega arith) ∙ go (tested (ltb facts 5))
  where
    go : Tested (ltb facts 5) → bit (ltb (s % 32) (2 ^ facts)) ≡ bit (ltb s (2 ^ facts))
    go (passes p) = ap (λ (n : ℕ). bit (ltb n (2 ^ facts))) (omega (arith, words_one facts (ltb-true facts 5 p)))
    go (fails p) =
        let l : s < 2 ^ facts = omega (arith, words_exact facts (ltb-false facts 5 p)) in
        rw (lt-ltb s (2 ^ facts) l, lt-ltb (s % 32) (2 ^ facts) (omega arith))
