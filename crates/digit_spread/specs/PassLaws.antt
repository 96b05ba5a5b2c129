-- Laws of digits that are spread fact by fact: what one pass adds.
use Rattle.std.specs.Prelude.{◌≡◌, refl, ◌⊎◌, ℕ, ◌+◌, ◌*◌, ◌/◌, ◌%◌, ◌^◌, ◌≤◌, ◌<◌, max, eqb}
use Rattle.std.proofs.Common.{sym, ap, ap₂, ◌∙◌, subst, inl, inr, mod-lt, div-lt_iff_lt-mul, arith, pow_pos, shr-shr, eqb-true}
use Rattle.std.proofs.Math.Nat.{add-div_right}
use Rattle.std.proofs.Math.Pow.{split}
use Rattle.std.specs.Int.Bits.{bit_and, bit_or, and_step}
use Rattle.std.proofs.lemmas.Nat.{and_block, and_comm, or_disjoint}
use Rattle.std.proofs.lemmas.Bool.{eqb-false}
use Rattle.set_digits.specs.TestLaws.{Tested, passes, fails, tested}
use Rattle.set_digits.specs.FactSets.{digit, Within}
use Rattle.set_digits.specs.FactSetLaws.{and_within, within_refl, within_trans, within_le, within_or_left, or_least}

-- of the sets below n, one has a digit in g exactly where a set that includes it, and has no other facts from fact k on, has a digit in f
pub record Below (k n : ℕ) (f g : ℕ → ℕ) : Type 0 where
  pub down : (s t : ℕ) → t < n → Within s t → s / 2 ^ k ≡ t / 2 ^ k → f t ≡ 1 → g s ≡ 1
  pub only : (s : ℕ) → s < n → g s ≡ 1 → (t : ℕ) × (t < n) × Within s t × (s / 2 ^ k ≡ t / 2 ^ k) × (f t ≡ 1)

-- of the sets below n, each without fact k has the greater of its digit and that of the same set with it, and each with it is as it was
pub record Passed (k n : ℕ) (g h : ℕ → ℕ) : Type 0 where
  pub blocks : ℕ
  pub whole : n ≡ 2 * blocks * 2 ^ k
  pub digits : (s : ℕ) → g s ≤ 1
  pub lacking : (s : ℕ) → s < n → digit s k ≡ 0 → h s ≡ max (g s) (g (s + 2 ^ k))
  pub having : (s : ℕ) → s < n → digit s k ≡ 1 → h s ≡ g s

-- a digit is 0 or 1
pub digit_le : (n i : ℕ) → digit n i ≤ 1
unfolding digit
digit_le n i = omega arith

-- a set lacks a fact or has it
digit_cases : (n i : ℕ) → (digit n i ≡ 0) ⊎ (digit n i ≡ 1)
digit_cases n i = go (tested (eqb (digit n i) 0))
  where
    go : Tested (eqb (digit n i) 0) → (digit n i ≡ 0) ⊎ (digit n i ≡ 1)
    go (passes e) = inl (eqb-true (digit n i) 0 e)
    go (fails e) = let z = eqb-false (digit n i) 0 e in inr (omega (arith, digit_le n i))

next_part : (n k : ℕ) → n / 2 ^ (k + 1) ≡ n / 2 ^ k / 2
next_part n k = sym (shr-shr n k 1)

and_power : (k t : ℕ) → bit_and (2 ^ k) t ≡ digit t k * 2 ^ k
unfolding digit
and_power k t =
    let one : 1 * 2 ^ k + 0 ≡ 2 ^ k = omega arith in
    let last : bit_and 1 (t / 2 ^ k) ≡ t / 2 ^ k % 2 = omega (arith, and_step 1 (t / 2 ^ k)) in
    let both : bit_and 1 (t / 2 ^ k) * 2 ^ k + bit_and 0 (t % 2 ^ k) ≡ t / 2 ^ k % 2 * 2 ^ k + 0 = ap (λ (n : ℕ). n * 2 ^ k + 0) last in
    let parts : bit_and (1 * 2 ^ k + 0) (t / 2 ^ k * 2 ^ k + t % 2 ^ k) ≡ bit_and 1 (t / 2 ^ k) * 2 ^ k + bit_and 0 (t % 2 ^ k) =
    and_block k 1 (t / 2 ^ k) 0 (t % 2 ^ k) (pow_pos k) (mod-lt t (pow_pos k)) in
    let end : t / 2 ^ k % 2 * 2 ^ k + 0 ≡ t / 2 ^ k % 2 * 2 ^ k = omega arith in
    ap₂ bit_and (sym one) (sym (split t k)) ∙ parts ∙ both ∙ end

-- ---- a set that lacks fact k, and the same set with it
module _ (k s : ℕ) (zero : digit s k ≡ 0) where
  with_fact : bit_or s (2 ^ k) ≡ s + 2 ^ k
  with_fact =
      let none : 0 * 2 ^ k ≡ 0 = omega arith in
      or_disjoint s (2 ^ k) (and_comm s (2 ^ k) ∙ and_power k s ∙ ap (λ (n : ℕ). n * 2 ^ k) zero ∙ none)

  with_above : Within s (s + 2 ^ k)
  with_above = subst (Within s) with_fact (within_or_left s (2 ^ k))

  with_least : {t : ℕ} → Within s t → digit t k ≡ 1 → Within (s + 2 ^ k) t
  with_least {t} w one =
      let all : 1 * 2 ^ k ≡ 2 ^ k = omega arith in
      subst (λ (n : ℕ). Within n t) with_fact
      (or_least w (and_within (2 ^ k) t (and_power k t ∙ ap (λ (n : ℕ). n * 2 ^ k) one ∙ all)))

  with_part : (s + 2 ^ k) / 2 ^ k ≡ s / 2 ^ k + 1
  with_part = add-div_right s (pow_pos k)

  with_next_lem : (s + 2 ^ k) / 2 ^ (k + 1) ≡ s / 2 ^ (k + 1)
  unfolding digit
  with_next_lem = omega (arith, next_part (s + 2 ^ k) k, next_part s k, with_part)

  with_fits : (m : ℕ) → s < 2 * m * 2 ^ k → s + 2 ^ k < 2 * m * 2 ^ k
  unfolding digit
  with_fits m h =
      let l : s / 2 ^ k < 2 * m = (div-lt_iff_lt-mul (pow_pos k)).1 h in
      (div-lt_iff_lt-mul (pow_pos k)).0 (omega (arith, with_part))

module _ (k s t : ℕ) (e : s / 2 ^ (k + 1) ≡ t / 2 ^ (k + 1)) where
  same_fact : digit s k ≡ digit t k → s / 2 ^ k ≡ t / 2 ^ k
  unfolding digit
  same_fact f = omega (arith, next_part s k, next_part t k)

  more_fact : digit s k ≡ 0 → digit t k ≡ 1 → s / 2 ^ k + 1 ≡ t / 2 ^ k
  unfolding digit
  more_fact z o = omega (arith, next_part s k, next_part t k)

-- every set has its own digit
pub below_same : (n : ℕ) (f : ℕ → ℕ) → Below 0 n f f
below_same n f =
    record {
      down = λ s t l w e q. let z : s ≡ t = omega arith in ap f z ∙ q;
      only = λ s l q. (s, l, within_refl s, refl, q);
    }

module _ {k n : ℕ} {f g h : ℕ → ℕ} (b : Below k n f g) (p : Passed k n g h) where
  own : (s : ℕ) → s < n → g s ≡ 1 → h s ≡ 1
  own s l e = go (digit_cases s k)
    where
      go : (digit s k ≡ 0) ⊎ (digit s k ≡ 1) → h s ≡ 1
      go (inl z) = omega (arith, p.lacking s l z, p.digits (s + 2 ^ k))
      go (inr o) = p.having s l o ∙ e

  -- one fact more
  pub below_next : Below (k + 1) n f h
  below_next =
      record {
        down = λ s t l w e q. lower s t l w e q (digit_cases s k) (digit_cases t k);
        only = λ s l q. upper s l q (digit_cases s k);
      }
    where
      lower : (s t : ℕ) → t < n → Within s t → s / 2 ^ (k + 1) ≡ t / 2 ^ (k + 1) → f t ≡ 1
          → (digit s k ≡ 0) ⊎ (digit s k ≡ 1) → (digit t k ≡ 0) ⊎ (digit t k ≡ 1) → h s ≡ 1
      lower s t l w e q (inl z) (inr o) =
          let m = b.down (s + 2 ^ k) t l (with_least k s z w o) (with_part k s z ∙ more_fact k s t e z o) q in
          let i : s < n = omega (arith, within_le w) in
          omega (arith, p.lacking s i z, p.digits s)
      lower s t l w e q (inl z) (inl y) = own s (omega (arith, within_le w)) (b.down s t l w (same_fact k s t e (z ∙ sym y)) q)
      lower s t l w e q (inr z) (inr y) = own s (omega (arith, within_le w)) (b.down s t l w (same_fact k s t e (z ∙ sym y)) q)
      lower s t l w e q (inr o) (inl z) = absurd (omega (arith, w.at k))

      Found : ℕ → Type 0
      Found s = (t : ℕ) × (t < n) × Within s t × (s / 2 ^ (k + 1) ≡ t / 2 ^ (k + 1)) × (f t ≡ 1)

      wider : (s : ℕ) → s < n → g s ≡ 1 → Found s
      wider s l q =
          let r = b.only s l q in
          (r.0, r.1, r.2, next_part s k ∙ ap (λ (m : ℕ). m / 2) r.3 ∙ sym (next_part r.0 k), r.4)

      upper : (s : ℕ) → s < n → h s ≡ 1 → (digit s k ≡ 0) ⊎ (digit s k ≡ 1) → Found s
      upper s l q (inr o) = wider s l (sym (p.having s l o) ∙ q)
      upper s l q (inl z) = go (tested (eqb (g s) 1))
        where
          go : Tested (eqb (g s) 1) → Found s
          go (passes e) = wider s l (eqb-true (g s) 1 e)
          go (fails e) =
              let x = eqb-false (g s) 1 e in
              let y : g (s + 2 ^ k) ≡ 1 = omega (arith, p.lacking s l z, p.digits s) in
              let fits : s + 2 ^ k < n =
              subst (λ (m : ℕ). s + 2 ^ k < m) (sym p.whole) (with_fits k s z p.blocks (subst (λ (m : ℕ). s < m) p.whole l)) in
              let r = wider (s + 2 ^ k) fits y in
              (r.0, r.1, within_trans (with_above k s z) r.2, sym (with_next_lem k s z) ∙ r.3, r.4)
