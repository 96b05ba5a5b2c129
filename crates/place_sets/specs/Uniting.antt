-- Laws of a union that is made word by word.
use Rattle.std.specs.Prelude.{◌≡◌, refl, Bool, true, false, List, ℕ, ◌+◌, ◌<◌, eqb, length, get_or, set}
use Rattle.std.proofs.Common.{sym, ap, ◌∙◌, le_refl, arith, length-set, get_or-set_same, get_or-set_other, eqb-true}
use Rattle.std.specs.Int.Bits.{bit_or}
use Rattle.std.proofs.lemmas.Bool.{eqb-false}
use Rattle.place_sets.specs.PlaceSets.{United}

-- no word yet
pub united_none : (ws : List ℕ) (at : ℕ) (u : List ℕ) → United ws at 0 u u
united_none ws at u = record { long = refl; both = λ k h. absurd (omega arith); rest = λ k h. refl }

-- one word more
pub united_next : {ws : List ℕ} {at k : ℕ} {u v : List ℕ} → United ws at k u v → k < length v
    → United ws at (k + 1) u (set v k (bit_or (get_or v k 0) (get_or ws (at + k) 0)))
united_next {ws} {at} {k} {u} {v} r h =
    record {
      long = length-set v k word ∙ r.long;
      both = λ j l. go j l (eqb j k) refl;
      rest = λ j l. get_or-set_other v k j word 0 (λ (e : j ≡ k). omega arith) ∙ r.rest j (omega arith);
    }
  where
    word : ℕ
    word = bit_or (get_or v k 0) (get_or ws (at + k) 0)

    go : (j : ℕ) → j < k + 1 → (b : Bool) → eqb j k ≡ b → get_or (set v k word) j 0 ≡ bit_or (get_or u j 0) (get_or ws (at + j) 0)
    go j l true e =
        let same : j ≡ k = eqb-true j k e in
        ap (λ (i : ℕ). get_or (set v k word) i 0) same ∙ get_or-set_same v k word 0 h
        ∙ ap (λ (x : ℕ). bit_or x (get_or ws (at + k) 0)) (r.rest k (le_refl k)) ∙ ap (λ (i : ℕ). bit_or (get_or u i 0) (get_or ws (at + i) 0)) (sym same)
    go j l false e =
        let other : j ≡ k → ⊥ = eqb-false j k e in
        get_or-set_other v k j word 0 other ∙ r.both j (omega arith)
