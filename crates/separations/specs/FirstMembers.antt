-- The first member of each class chosen: the places from k on were looked at.
use Rattle.std.specs.Prelude.{◌≡◌, List, ℕ, ◌+◌, ◌≤◌, ◌<◌, length, set}
use Rattle.std.proofs.Common.{ap, arith}
use Rattle.class_rounds.specs.ClassedPlaces.{chosen_in, Classed}
use Rattle.class_rounds.specs.ChosenPlaces.{PlacesChosen, chosen_none, chosen_next, chosen_class, chosen_classed}
use Rattle.separations.specs.NumberedPlaces.{FirstChosen}
use Rattle.work_layout.specs.WorkLayout.{work_end, chosen_at, member_room}
use Rattle.work_layout.specs.ClassLayout.{class_in}

-- a place that was looked at
abbrev pub LookedAt : ℕ → ℕ → ℕ → Type 0
LookedAt n k i = (k ≤ i) × (i < n)

-- of the class of each place looked at the first place looked at is chosen
abbrev pub FirstsFound : List ℕ → ℕ → ℕ → List ℕ → Type 0
FirstsFound v n k w = PlacesChosen (LookedAt n k) (λ j i. j ≤ i) v w

pub firsts_none : (v : List ℕ) (n : ℕ) → FirstsFound v n n v
firsts_none v n = chosen_none (LookedAt n n) (λ j i. j ≤ i) v (λ i p. omega (arith, p.0, p.1))

pub firsts_next : (v : List ℕ) (n k : ℕ) (w : List ℕ) → k < n → FirstsFound v n (k + 1) w → work_end ≤ length v → (c : ℕ) → c ≡ class_in v k → c < member_room
    → FirstsFound v n k (set w (chosen_at + c) k)
firsts_next v n k w l K long c is small =
    chosen_next K (LookedAt n k) k (λ i p. (omega (arith, p.0), p.1)) (omega arith, l) (λ i q e. (omega (arith, q.0, e), q.1)) (λ i q. q.0)
    long c is small

-- each class keeps a chosen member, now its first one
pub firsts_classed : {v w : List ℕ} {n count : ℕ} → FirstsFound v n 0 w → n ≤ member_room → Classed v n count → Classed w n count
firsts_classed K few C = chosen_classed K (λ i p. p.1) few C

pub firsts_chosen : {v w : List ℕ} {n : ℕ} → FirstsFound v n 0 w → n ≤ member_room → FirstChosen w n
firsts_chosen {v} {w} {n} K few i l = omega (arith, ap (chosen_in w) (chosen_class K i (omega arith)), (K.chosen i (omega arith, l)).0)
