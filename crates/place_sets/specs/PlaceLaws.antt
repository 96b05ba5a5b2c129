-- Laws of sets of places: a place put in, and sets united.
use Rattle.std.specs.Prelude.{◌≡◌, refl, Bool, true, false, List, ℕ, ◌+◌, ◌*◌, ◌/◌, ◌%◌, ◌^◌, ◌<◌, eqb, ltb, length, get_or, set}
use Rattle.std.proofs.Common.{sym, ap, ◌∙◌, arith, get_or-set_same, get_or-set_other, eqb-true, ltb-true, ltb-false}
use Rattle.std.proofs.Math.Seq.{set_out}
use Rattle.std.specs.Int.Bits.{bit_or}
use Rattle.std.proofs.lemmas.Bool.{eqb-false}
use Rattle.store_laws.specs.FactSets.{digit}
use Rattle.store_laws.specs.FactSetLaws.{digit_or}
use Rattle.place_sets.specs.DigitLaws.{digit_le, digit_power}
use Rattle.place_sets.specs.PlaceSets.{InSet, with_place, United}

or_left : (a b i : ℕ) → digit a i ≡ 1 → digit (bit_or a b) i ≡ 1
or_left a b i h = omega (arith, digit_or a b i, digit_le b i)

or_right : (a b i : ℕ) → digit b i ≡ 1 → digit (bit_or a b) i ≡ 1
or_right a b i h = omega (arith, digit_or a b i, digit_le a i)

-- the place that is put in is in the set
pub place_in : (ws : List ℕ) (at i : ℕ) → at + i / 64 < length ws → InSet (with_place ws at i) at i
place_in ws at i h =
    let k = at + i / 64 in
    let m = 2 ^ (i % 64) in
    ap (λ (n : ℕ). digit n (i % 64)) (get_or-set_same ws k (bit_or (get_or ws k 0) m) 0 h)
    ∙ or_right (get_or ws k 0) m (i % 64) (digit_power (i % 64))

-- a place of any set stays
pub place_more : (ws : List ℕ) (at i : ℕ) (from j : ℕ) → InSet ws from j → InSet (with_place ws at i) from j
place_more ws at i from j h = go (eqb l k) refl (ltb k (length ws)) refl
  where
    k : ℕ
    k = at + i / 64

    l : ℕ
    l = from + j / 64

    word : ℕ
    word = bit_or (get_or ws k 0) (2 ^ (i % 64))

    go : (b : Bool) → eqb l k ≡ b → (c : Bool) → ltb k (length ws) ≡ c → digit (get_or (set ws k word) l 0) (j % 64) ≡ 1
    go false e c f = ap (λ (n : ℕ). digit n (j % 64)) (get_or-set_other ws k l word 0 (eqb-false l k e)) ∙ h
    go true e false f = ap (λ (s : List ℕ). digit (get_or s l 0) (j % 64)) (set_out ws k word (ltb-false k (length ws) f)) ∙ h
    go true e true f =
        let same : l ≡ k = eqb-true l k e in
        ap (λ (n : ℕ). digit (get_or (set ws k word) n 0) (j % 64)) same
        ∙ ap (λ (n : ℕ). digit n (j % 64)) (get_or-set_same ws k word 0 (ltb-true k (length ws) f))
        ∙ or_left (get_or ws k 0) (2 ^ (i % 64)) (j % 64) (ap (λ (n : ℕ). digit (get_or ws n 0) (j % 64)) (sym same) ∙ h)

module _ {ws : List ℕ} {at width : ℕ} {u v : List ℕ} (r : United ws at width u v) where
  at_left : (k d : ℕ) → digit (get_or u k 0) d ≡ 1 → digit (get_or v k 0) d ≡ 1
  at_left k d h = go (ltb k width) refl
    where
      go : (b : Bool) → ltb k width ≡ b → digit (get_or v k 0) d ≡ 1
      go true e = ap (λ (n : ℕ). digit n d) (r.both k (ltb-true k width e)) ∙ or_left (get_or u k 0) (get_or ws (at + k) 0) d h
      go false e = ap (λ (n : ℕ). digit n d) (r.rest k (ltb-false k width e)) ∙ h

  at_right : (k d : ℕ) → k < width → digit (get_or ws (at + k) 0) d ≡ 1 → digit (get_or v k 0) d ≡ 1
  at_right k d l h = ap (λ (n : ℕ). digit n d) (r.both k l) ∙ or_right (get_or u k 0) (get_or ws (at + k) 0) d h

  -- the places of both sets are in their union
  pub united_left : (i : ℕ) → InSet u 0 i → InSet v 0 i
  united_left i h = at_left (0 + i / 64) (i % 64) h

  pub united_right : (i : ℕ) → i < 64 * width → InSet ws at i → InSet v 0 i
  united_right i l h =
      let z : 0 + i / 64 ≡ i / 64 = omega arith in
      ap (λ (n : ℕ). digit (get_or v n 0) (i % 64)) z ∙ at_right (i / 64) (i % 64) (omega arith) h
