-- The kept moves forgotten: nothing is known then.
use Rattle.std.specs.Prelude.{◌≡◌, List, ℕ, ◌+◌, ◌<◌, length, get_or, set, eqb}
use Rattle.std.proofs.Common.{ap, ◌∙◌, arith, get_or-set_same, get_or-set_other, eqb-true}
use Rattle.std.proofs.lemmas.Bool.{eqb-false}
use Rattle.packing.specs.TestLaws.{Tested, tested, passes, fails}
use Rattle.packing.specs.Frames.{SameOutside, outside_same, outside_set, outside_again, outside_wider}
use Rattle.packing.specs.Sheet.{Configuration, Sheet}
use Rattle.work_layout.specs.SetLayout.{SetHeld}
use Rattle.kept_classes.specs.RoundLayout.{same_set_low, held_same}
use Rattle.dominators.specs.KeptMoves.{DominatorsKept, dominators_none}
use Rattle.work_layout.specs.WorkLayout.{dominators_at}

-- the first m places of kept moves have what stands for none, and nothing else differs
pub record Forgotten (v : List ℕ) (m : ℕ) (w : List ℕ) : Type 0 where
  pub outside : SameOutside dominators_at (dominators_at + m) v w
  pub none : (k : ℕ) → k < m → get_or w (dominators_at + k) 0 ≡ 65535

pub forgotten_first : (v : List ℕ) → Forgotten v 0 v
forgotten_first v = record { outside = outside_same dominators_at (dominators_at + 0) v; none = λ k h. absurd (omega arith) }

pub forgotten_next : (v : List ℕ) (m : ℕ) (w : List ℕ) → Forgotten v m w → dominators_at + m < length v
    → Forgotten v (m + 1) (set w (dominators_at + m) 65535)
forgotten_next v m w f h = record {
  outside = outside_again (outside_wider f.outside dominators_at (dominators_at + (m + 1)) (omega arith) (omega arith))
      (outside_set dominators_at (dominators_at + (m + 1)) w (dominators_at + m) 65535 (omega arith) (omega arith));
  none = λ k l. go k l (tested (eqb k m));
}
  where
    go : (k : ℕ) → k < m + 1 → Tested (eqb k m) → get_or (set w (dominators_at + m) 65535) (dominators_at + k) 0 ≡ 65535
    go k l (passes e) =
        ap (λ (i : ℕ). get_or (set w (dominators_at + m) 65535) (dominators_at + i) 0) (eqb-true k m e)
        ∙ get_or-set_same w (dominators_at + m) 65535 0 (omega (arith, f.outside.long))
    go k l (fails e) =
        let d : k ≡ m → ⊥ = eqb-false k m e in
        get_or-set_other w (dominators_at + m) (dominators_at + k) 65535 0 (λ z. d (omega arith)) ∙ f.none k (omega arith)

-- the set stands as before, and what is kept is right in any classes
pub forgotten_held : (sheet : Sheet) (set : List Configuration) (v w : List ℕ) (n m : ℕ) (numbers : List ℕ) → SetHeld sheet set v n m
    → Forgotten v m w → SetHeld sheet set w n m × DominatorsKept sheet set w n numbers
forgotten_held sheet set v w n m numbers H f =
    let G = held_same sheet set v w n m H (same_set_low (omega (arith, H.few.1)) f.outside) in
    (G, dominators_none sheet set w n m numbers G f.none)
