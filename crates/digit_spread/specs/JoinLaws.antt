-- Laws of words joined for one fact: run by run, block by block, and the digits of the sets after it.
use Rattle.std.specs.Prelude.{◌≡◌, List, ℕ, ◌+◌, ◌-◌, ◌*◌, ◌/◌, ◌%◌, ◌^◌, ◌≤◌, ◌<◌, max, length, get_or, set, ltb}
use Rattle.std.proofs.Common.{sym, ap₂, ◌∙◌, subst, inl, inr, mul_assoc, mul_comm, mul-le-mul_right, pow-add, pow_mono, shr-shr, ltb-true, ltb-false}
use Rattle.std.proofs.Math.Path.{ap}
use Rattle.std.proofs.Math.Nat.{add-mul, div-eq_of_lt}
use native.Mathlib.Omega.{arith}
use Rattle.std.proofs.Math.Pow.{high}
use Rattle.std.specs.Int.Bits.{bit_or}
use Rattle.set_digits.specs.TestLaws.{Tested, passes, fails, tested}
use Rattle.set_digits.specs.Frames.{outside_same, outside_wider, outside_again}
use Rattle.set_digits.specs.FactSets.{digit, Within}
use Rattle.set_digits.specs.FactSetLaws.{digit_or, within_le}
use Rattle.set_digits.specs.SheetLimits.{max_facts}
use Rattle.set_digits.specs.SetDigits.{words_of, mark}
use Rattle.digit_spread.specs.DigitSpread.{SpreadDown, RunJoined, WordsJoined}
use Rattle.digit_spread.specs.PassLaws.{Below, Passed, digit_le, below_next}
use Rattle.digit_spread.specs.StoredLaws.{stored_each, stored_same}

-- ---- a run

-- no number joined yet
pub run_none : (from half : ℕ) (w : List ℕ) → RunJoined from half 0 w w
run_none from half w = record { joined = λ j h. absurd (omega arith); same = outside_same from (from + 0) w }

-- one number more
pub run_next : {from half k : ℕ} {w v : List ℕ} → RunJoined from half k w v → k < half → from + 2 * half ≤ length w
    → RunJoined from half (k + 1) w (set v (from + k) (bit_or (get_or v (from + k) 0) (get_or v (from + half + k) 0)))
run_next {from} {half} {k} {w} {v} p l h =
    record {
      joined =
          stored_each from k v (bit_or (get_or v (from + k) 0) (get_or v (from + half + k) 0))
          (λ j x. x ≡ bit_or (get_or w (from + j) 0) (get_or w (from + half + j) 0)) (omega (arith, p.same.long)) p.joined
          (ap₂ bit_or (p.same.at (from + k) (inr (omega arith))) (p.same.at (from + half + k) (inr (omega arith))));
      same = stored_same from k v (bit_or (get_or v (from + k) 0) (get_or v (from + half + k) 0)) p.same;
    }

-- ---- block after block

-- no block joined yet
pub blocks_none : (b at : ℕ) (w : List ℕ) → WordsJoined b at (2 * 0 * 2 ^ b) w w
blocks_none b at w =
    record {
      lacking = λ i h z. absurd (omega arith);
      having = λ i h o. absurd (omega arith);
      same = outside_same at (at + 2 * 0 * 2 ^ b) w;
    }

-- one more block fits where not all were passed
pub block_fits : {q blocks : ℕ} (b : ℕ) → q < blocks → 2 * q * 2 ^ b + 2 * 2 ^ b ≤ 2 * blocks * 2 ^ b
block_fits {q} {blocks} b h =
    let l : 2 * q + 2 ≤ 2 * blocks = omega arith in
    omega (arith, add-mul (2 * q) 2 (2 ^ b), mul-le-mul_right (2 ^ b) l)

module _ (b q : ℕ) where
  wider : 2 * (q + 1) * 2 ^ b ≡ 2 * q * 2 ^ b + 2 ^ b + 2 ^ b
  wider =
      let e : 2 * (q + 1) ≡ 2 * q + 2 = omega arith in
      omega (arith, ap (λ (n : ℕ). n * 2 ^ b) e ∙ add-mul (2 * q) 2 (2 ^ b))

  first_half : (i : ℕ) → 2 * q * 2 ^ b ≤ i → i < 2 * q * 2 ^ b + 2 ^ b → digit i b ≡ 0
  unfolding digit
  first_half i h k =
      let e : i ≡ 2 * q * 2 ^ b + (i - 2 * q * 2 ^ b) = omega arith in
      let d : i / 2 ^ b ≡ 2 * q = ap (λ (n : ℕ). n / 2 ^ b) e ∙ high (2 * q) b (omega arith) in
      omega arith

  second_half : (i : ℕ) → 2 * q * 2 ^ b + 2 ^ b ≤ i → i < 2 * (q + 1) * 2 ^ b → digit i b ≡ 1
  unfolding digit
  second_half i h k =
      let m : (2 * q + 1) * 2 ^ b ≡ 2 * q * 2 ^ b + 1 * 2 ^ b = add-mul (2 * q) 1 (2 ^ b) in
      let e : i ≡ (2 * q + 1) * 2 ^ b + (i - (2 * q * 2 ^ b + 2 ^ b)) = omega arith in
      let d : i / 2 ^ b ≡ 2 * q + 1 = ap (λ (n : ℕ). n / 2 ^ b) e ∙ high (2 * q + 1) b (omega (arith, wider)) in
      omega arith

-- one block more
pub blocks_next : {b at : ℕ} (q : ℕ) {w v u : List ℕ} → WordsJoined b at (2 * q * 2 ^ b) w v → RunJoined (at + 2 * q * 2 ^ b) (2 ^ b) (2 ^ b) v u
    → WordsJoined b at (2 * (q + 1) * 2 ^ b) w u
blocks_next {b} {at} q {w} {v} {u} p r =
    record {
      lacking = λ i h z. lack i h z (tested (ltb i (2 * q * 2 ^ b))) (tested (ltb i (2 * q * 2 ^ b + 2 ^ b)));
      having = λ i h o. have i h o (tested (ltb i (2 * q * 2 ^ b))) (tested (ltb i (2 * q * 2 ^ b + 2 ^ b)));
      same =
          outside_again (outside_wider p.same at (at + 2 * (q + 1) * 2 ^ b) (omega arith) (omega (arith, wider b q)))
          (outside_wider r.same at (at + 2 * (q + 1) * 2 ^ b) (omega arith) (omega (arith, wider b q)));
    }
  where
    Joined : ℕ → Type 0
    Joined i = get_or u (at + i) 0 ≡ bit_or (get_or w (at + i) 0) (get_or w (at + i + 2 ^ b) 0)

    lack : (i : ℕ) → i < 2 * (q + 1) * 2 ^ b → digit i b ≡ 0 → Tested (ltb i (2 * q * 2 ^ b)) → Tested (ltb i (2 * q * 2 ^ b + 2 ^ b)) → Joined i
    lack i h z (passes e) f =
        let l = ltb-true i (2 * q * 2 ^ b) e in
        r.same.at (at + i) (inl (omega arith)) ∙ p.lacking i l z
    lack i h z (fails e) (passes f) =
        let l = ltb-false i (2 * q * 2 ^ b) e in
        let m = ltb-true i (2 * q * 2 ^ b + 2 ^ b) f in
        let j : ℕ = i - 2 * q * 2 ^ b in
        let x : at + 2 * q * 2 ^ b + j ≡ at + i = omega arith in
        let y : at + 2 * q * 2 ^ b + 2 ^ b + j ≡ at + i + 2 ^ b = omega arith in
        ap (λ (n : ℕ). get_or u n 0) (sym x) ∙ r.joined j (omega arith)
        ∙ ap₂ bit_or (ap (λ (n : ℕ). get_or v n 0) x ∙ p.same.at (at + i) (inr (omega arith)))
        (ap (λ (n : ℕ). get_or v n 0) y ∙ p.same.at (at + i + 2 ^ b) (inr (omega arith)))
    lack i h z (fails e) (fails f) = absurd (omega (arith, second_half b q i (ltb-false i (2 * q * 2 ^ b + 2 ^ b) f) h))

    have : (i : ℕ) → i < 2 * (q + 1) * 2 ^ b → digit i b ≡ 1 → Tested (ltb i (2 * q * 2 ^ b)) → Tested (ltb i (2 * q * 2 ^ b + 2 ^ b))
        → get_or u (at + i) 0 ≡ get_or w (at + i) 0
    have i h o (passes e) f =
        let l = ltb-true i (2 * q * 2 ^ b) e in
        r.same.at (at + i) (inl (omega arith)) ∙ p.having i l o
    have i h o (fails e) (passes f) =
        absurd (omega (arith, first_half b q i (ltb-false i (2 * q * 2 ^ b) e) (ltb-true i (2 * q * 2 ^ b + 2 ^ b) f)))
    have i h o (fails e) (fails f) =
        let l = ltb-false i (2 * q * 2 ^ b + 2 ^ b) f in
        r.same.at (at + i) (inr (omega arith)) ∙ p.same.at (at + i) (inr (omega arith))

-- the blocks of a pass for one of n facts make 2 ^ n words
pub blocks_of_lem : (n b : ℕ) → b < n → 2 * 2 ^ (n - 1 - b) * 2 ^ b ≡ 2 ^ n
blocks_of_lem n b h =
    let e : 1 + (n - 1 - b) + b ≡ n = omega arith in
    ap (λ (k : ℕ). k * 2 ^ b) (sym (pow-add 2 1 (n - 1 - b))) ∙ sym (pow-add 2 (1 + (n - 1 - b)) b) ∙ ap (λ (k : ℕ). 2 ^ k) e

-- ---- the digits of the sets
module _ (b : ℕ) where
  power : 2 ^ (b + 5) ≡ 32 * 2 ^ b
  power = pow-add 2 b 5 ∙ mul_comm (2 ^ b) 32

  word_fact : (s : ℕ) → digit s (b + 5) ≡ digit (s / 32) b
  unfolding digit
  word_fact s =
      let e : b + 5 ≡ 5 + b = omega arith in
      ap (λ (k : ℕ). s / 2 ^ k % 2) e ∙ ap (λ (n : ℕ). n % 2) (sym (shr-shr s 5 b))

  -- the set with fact b + 5 has its digit at the same place of the word with fact b
  mark_with : (w : List ℕ) (at s : ℕ) → mark w at (s + 2 ^ (b + 5)) ≡ digit (get_or w (at + s / 32 + 2 ^ b) 0) (s % 32)
  mark_with w at s =
      let e : at + (s + 2 ^ (b + 5)) / 32 ≡ at + s / 32 + 2 ^ b = omega (arith, power) in
      let f : (s + 2 ^ (b + 5)) % 32 ≡ s % 32 = omega (arith, power) in
      ap₂ (λ (m n : ℕ). digit (get_or w m 0) n) e f

  joined_passed : {at words : ℕ} {w v : List ℕ} (blocks : ℕ) → words ≡ 2 * blocks * 2 ^ b → WordsJoined b at words w v
      → Passed (b + 5) (32 * words) (mark w at) (mark v at)
  joined_passed {at} {words} {w} {v} blocks e j =
      record {
        blocks = blocks;
        whole =
            ap (λ (n : ℕ). 32 * n) e ∙ mul_comm 32 (2 * blocks * 2 ^ b) ∙ mul_assoc (2 * blocks) (2 ^ b) 32
            ∙ ap (λ (n : ℕ). 2 * blocks * n) (mul_comm (2 ^ b) 32 ∙ sym power);
        digits = λ s. digit_le (get_or w (at + s / 32) 0) (s % 32);
        lacking = λ s h z.
            ap (λ (n : ℕ). digit n (s % 32)) (j.lacking (s / 32) (omega arith) (sym (word_fact s) ∙ z))
            ∙ digit_or (get_or w (at + s / 32) 0) (get_or w (at + s / 32 + 2 ^ b) 0) (s % 32)
            ∙ ap (max (mark w at s)) (sym (mark_with w at s));
        having = λ s h o. ap (λ (n : ℕ). digit n (s % 32)) (j.having (s / 32) (omega arith) (sym (word_fact s) ∙ o));
      }

-- the sets after the pass for one fact more
pub spread_next : {b at words : ℕ} {w u v : List ℕ} (blocks : ℕ) → words ≡ 2 * blocks * 2 ^ b → SpreadDown (b + 5) at words w u
    → WordsJoined b at words u v → SpreadDown (b + 1 + 5) at words w v
spread_next {b} {at} {words} {w} {u} {v} blocks e p j =
    let k : b + 5 + 1 ≡ b + 1 + 5 = omega arith in
    subst (λ (n : ℕ). SpreadDown n at words w v) k
    (record { down = next.down; only = next.only; same = outside_again p.same j.same })
  where
    next : Below (b + 5 + 1) (32 * words) (mark w at) (mark v at)
    next = below_next (record { down = p.down; only = p.only }) (joined_passed b blocks e j)

-- ---- after the last pass

-- the sets that so many words have digits for
pub sets_fit : {facts m : ℕ} → facts ≤ m → 5 ≤ m → 32 * words_of facts ≤ 2 ^ m
sets_fit {facts} {m} h k =
    let l : 2 ^ (5 + (facts - 5)) ≤ 2 ^ m = pow_mono {i = 5 + (facts - 5)} {j = m} (omega arith) in
    omega (arith, pow-add 2 5 (facts - 5))

small_same : {n s t : ℕ} (k : ℕ) → n ≤ 2 ^ k → t < n → s < n → s / 2 ^ k ≡ t / 2 ^ k
small_same k h i l = div-eq_of_lt (omega arith) ∙ sym (div-eq_of_lt (omega arith))

-- sets with no facts from fact k on are spread for any more facts too
pub spread_all : {k m at words : ℕ} {w v : List ℕ} → 32 * words ≤ 2 ^ k → 32 * words ≤ 2 ^ m → SpreadDown k at words w v
    → SpreadDown m at words w v
spread_all {k} {m} h i p =
    record {
      down = λ s t l a e q. p.down s t l a (small_same k h l (omega (arith, within_le a))) q;
      only = λ s l q. let r = p.only s l q in (r.0, r.1, r.2, small_same m i r.1 l, r.4);
      same = p.same;
    }

-- a set is marked after the last pass where one that includes it was marked before
pub spread_whole : {at facts : ℕ} {w v : List ℕ} → facts ≤ max_facts → SpreadDown max_facts at (words_of facts) w v
    → (s t : ℕ) → t < 32 * words_of facts → Within s t → mark w at t ≡ 1 → mark v at s ≡ 1
spread_whole {at} {facts} h p s t l a q =
    p.down s t l a (small_same max_facts (sets_fit {facts = facts} {m = max_facts} h (omega arith)) l (omega (arith, within_le a))) q
