-- Laws of a word's digits spread in five passes, and of every word spread by itself.
use Rattle.std.specs.Prelude.{◌≡◌, refl, List, ℕ, ◌+◌, ◌-◌, ◌*◌, ◌/◌, ◌%◌, ◌^◌, ◌<◌, min, max, length, get_or, set}
use Rattle.std.proofs.Common.{sym, ap, ap₂, ◌∙◌, subst, inr, mod-lt, arith, pow_pos, shr-shr}
use Rattle.std.proofs.Math.Nat.{div-eq_of_lt}
use Rattle.std.proofs.Math.Pow.{split, high, low}
use Rattle.std.specs.Int.Bits.{bit_and, bit_or, and_self}
use Rattle.std.proofs.lemmas.Nat.{and_block, and_mod}
use Rattle.set_digits.specs.Frames.{SameOutside, outside_same}
use Rattle.set_digits.specs.Tabulate.{tabulate, tabulate_at}
use Rattle.set_digits.specs.FactSets.{digit, Within}
use Rattle.set_digits.specs.FactSetLaws.{digit_and, digit_or, within_and, and_within}
use Rattle.digit_spread.specs.DigitSpread.{WordSpread, SpreadDown}
use Rattle.digit_spread.specs.PassLaws.{Below, Passed, digit_le, below_same, below_next}
use Rattle.digit_spread.specs.StoredLaws.{stored_each, stored_same}

-- ---- a pass in a word

-- a word with the digits of the places that have a fact put to the same places without it
abbrev pub down_once : ℕ → ℕ → ℕ → ℕ
down_once x having step = bit_or x (bit_and x having / step)

-- `having` has a place, and 2 ^ i more, exactly where the place lacks fact i
abbrev PlacesHaving : ℕ → ℕ → Type 0
PlacesHaving i having = tabulate (λ p. digit having (2 ^ i + p)) 32 ≡ tabulate (λ p. 1 - digit p i) 32

digit_shift : (n j p : ℕ) → digit (n / 2 ^ j) p ≡ digit n (j + p)
unfolding digit
digit_shift n j p = ap (λ (m : ℕ). m % 2) (shr-shr n j p)

module _ (i m : ℕ) (whole : 32 ≡ 2 * m * 2 ^ i) (having : ℕ) (right : PlacesHaving i having) where
  place : (p : ℕ) → p < 32 → digit having (2 ^ i + p) ≡ 1 - digit p i
  place p h =
      sym (tabulate_at (λ p. digit having (2 ^ i + p)) 32 p 0 h) ∙ ap (λ (l : List ℕ). get_or l p 0) right
      ∙ tabulate_at (λ p. 1 - digit p i) 32 p 0 h

  once : (x p : ℕ) → p < 32 → digit (down_once x having (2 ^ 2 ^ i)) p ≡ max (digit x p) (min (digit x (p + 2 ^ i)) (1 - digit p i))
  once x p h =
      let e : 2 ^ i + p ≡ p + 2 ^ i = omega arith in
      digit_or x (bit_and x having / 2 ^ 2 ^ i) p
      ∙ ap (max (digit x p))
      (digit_shift (bit_and x having) (2 ^ i) p ∙ digit_and x having (2 ^ i + p)
      ∙ ap₂ min (ap (digit x) e) (place p h))

  word_passed : (x : ℕ) → Passed i 32 (digit x) (digit (down_once x having (2 ^ 2 ^ i)))
  word_passed x =
      record {
        blocks = m;
        whole = whole;
        digits = digit_le x;
        lacking = λ p h z. omega (arith, once x p h, digit_le x (p + 2 ^ i));
        having = λ p h o. omega (arith, once x p h);
      }

  word_next : (x a : ℕ) {r : ℕ} → Below i 32 (digit x) (digit a) → r ≡ down_once a having (2 ^ 2 ^ i) → Below (i + 1) 32 (digit x) (digit r)
  word_next x a b e = subst (λ (n : ℕ). Below (i + 1) 32 (digit x) (digit n)) (sym e) (below_next b (word_passed a))

-- a word after the passes for its five facts
pub word_spread : {x a b c d r : ℕ} → a ≡ down_once x 2863311530 2 → b ≡ down_once a 3435973836 4 → c ≡ down_once b 4042322160 16
    → d ≡ down_once c 4278255360 256 → r ≡ down_once d 4294901760 65536 → WordSpread x r
unfolding tabulate digit
word_spread {x} {a} {b} {c} {d} {r} e f g h i =
    record {
      down = λ p q k l w. five.down p q l w (div-eq_of_lt k ∙ sym (div-eq_of_lt l));
      only = λ p k o. let t = five.only p k o in (t.0, t.1, t.2, t.4);
    }
  where
    five : Below 5 32 (digit x) (digit r)
    five =
        word_next 4 1 refl 4294901760 refl x d
        (word_next 3 2 refl 4278255360 refl x c
        (word_next 2 4 refl 4042322160 refl x b
        (word_next 1 8 refl 3435973836 refl x a
        (word_next 0 16 refl 2863311530 refl x x (below_same 32 (digit x)) e) f) g) h) i

-- ---- word after word

-- the first n words from place `at` on are spread, and the others are as they were
pub record WordsSpread (at n : ℕ) (w v : List ℕ) : Type 0 where
  pub each : (j : ℕ) → j < n → WordSpread (get_or w (at + j) 0) (get_or v (at + j) 0)
  pub same : SameOutside at (at + n) w v

-- no word yet
pub words_none : (at : ℕ) (w : List ℕ) → WordsSpread at 0 w w
words_none at w = record { each = λ j h. absurd (omega arith); same = outside_same at (at + 0) w }

-- one word more
pub words_next : {at n : ℕ} {w v : List ℕ} {r : ℕ} → WordsSpread at n w v → at + n < length w → WordSpread (get_or v (at + n) 0) r
    → WordsSpread at (n + 1) w (set v (at + n) r)
words_next {at} {n} {w} {v} {r} p l s =
    record {
      each =
          stored_each at n v r (λ j x. WordSpread (get_or w (at + j) 0) x) (omega (arith, p.same.long)) p.each
          (subst (λ (x : ℕ). WordSpread x r) (p.same.at (at + n) (inr (omega arith))) s);
      same = stored_same at n v r p.same;
    }

within_low : (k : ℕ) {s t : ℕ} → Within s t → Within (s % 2 ^ k) (t % 2 ^ k)
within_low k {s} {t} w = and_within (s % 2 ^ k) (t % 2 ^ k) (sym (and_mod s t k) ∙ ap (λ (n : ℕ). n % 2 ^ k) (within_and w))

within_block : (k s : ℕ) {q : ℕ} → q < 2 ^ k → Within (s % 2 ^ k) q → Within s (s / 2 ^ k * 2 ^ k + q)
within_block k s {q} h w =
    and_within s (s / 2 ^ k * 2 ^ k + q)
    (ap (λ (n : ℕ). bit_and n (s / 2 ^ k * 2 ^ k + q)) (sym (split s k))
    ∙ and_block k (s / 2 ^ k) (s / 2 ^ k) (s % 2 ^ k) q (mod-lt s (pow_pos k)) h
    ∙ ap₂ (λ (m n : ℕ). m * 2 ^ k + n) (and_self (s / 2 ^ k)) (within_and w)
    ∙ split s k)

-- every word spread: the sets have the digits of those with more of the facts below 5
pub words_all : {at words : ℕ} {w v : List ℕ} → WordsSpread at words w v → SpreadDown 5 at words w v
words_all {at} {words} {w} {v} p =
    record {
      down = λ s t l i e q.
          (p.each (s / 32) (omega arith)).down (s % 32) (t % 32) (mod-lt s (pow_pos 5)) (mod-lt t (pow_pos 5)) (within_low 5 i)
          (ap (λ (n : ℕ). digit (get_or w (at + n) 0) (t % 32)) e ∙ q);
      only = λ s l q.
          let r = (p.each (s / 32) (omega arith)).only (s % 32) (mod-lt s (pow_pos 5)) q in
          let t : ℕ = s / 32 * 32 + r.0 in
          let e : t / 32 ≡ s / 32 = high (s / 32) 5 r.1 in
          let f : t % 32 ≡ r.0 = low (s / 32) 5 r.1 in
          (t, omega arith, within_block 5 s r.1 r.2, sym e, ap₂ (λ (m n : ℕ). digit (get_or w (at + m) 0) n) e f ∙ r.3);
      same = p.same;
    }
