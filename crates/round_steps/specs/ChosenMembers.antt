-- Members of classes chosen, while the first k places are looked at: the last of those at rest in each class.
use Rattle.std.specs.Prelude.{◌≡◌, List, ℕ, ◌+◌, ◌≤◌, ◌<◌, length, set, eqb}
use Rattle.std.proofs.Common.{arith, eqb-true}
use Rattle.std.proofs.lemmas.Bool.{eqb-false}
use Rattle.work_layout.specs.TestLaws.{Tested, tested, passes, fails}
use Rattle.place_sets.specs.PlaceSets.{InSet}
use Rattle.class_splits.specs.ChosenPlaces.{PlacesChosen, chosen_none, chosen_same, chosen_next}
use Rattle.work_layout.specs.WorkLayout.{work_end, chosen_at, member_room}
use Rattle.work_layout.specs.ClassLayout.{class_in}

-- a place below k that is at rest: it is none of the set
abbrev pub RestBelow : List ℕ → ℕ → ℕ → Type 0
RestBelow awake k i = (i < k) × (InSet awake 0 i → ⊥)

-- of each class that has a place at rest among those looked at, the last such place is chosen
abbrev pub Rechosen : List ℕ → ℕ → List ℕ → ℕ → List ℕ → Type 0
Rechosen v n awake k w = PlacesChosen (RestBelow awake k) (λ j i. i ≤ j) v w

pub rechosen_first : (v : List ℕ) (n : ℕ) (awake : List ℕ) → Rechosen v n awake 0 v
rechosen_first v n awake = chosen_none (RestBelow awake 0) (λ j i. i ≤ j) v (λ i p. omega (arith, p.0))

-- the place at hand is none of those at rest
pub rechosen_pass : (v : List ℕ) (n : ℕ) (awake : List ℕ) (k : ℕ) (w : List ℕ) → Rechosen v n awake k w → InSet awake 0 k
    → Rechosen v n awake (k + 1) w
rechosen_pass v n awake k w K d =
    chosen_same K (RestBelow awake (k + 1)) (λ i p. (omega (arith, p.0), p.1)) (λ i q. (below i q (tested (eqb i k)), q.1))
  where
    below : (i : ℕ) → RestBelow awake (k + 1) i → Tested (eqb i k) → i < k
    below i q (passes e) = absurd (q.1 (rw (eqb-true i k e) d))
    below i q (fails e) = omega (arith, eqb-false i k e, q.0)

-- it is chosen
pub rechosen_next : (v : List ℕ) (n : ℕ) (awake : List ℕ) (k : ℕ) (w : List ℕ) → Rechosen v n awake k w → (InSet awake 0 k → ⊥)
    → work_end ≤ length v → (c : ℕ) → c ≡ class_in v k → c < member_room → Rechosen v n awake (k + 1) (set w (chosen_at + c) k)
rechosen_next v n awake k w K d long c is small =
    chosen_next K (RestBelow awake (k + 1)) k (λ i p. (omega (arith, p.0), p.1)) (omega arith, d) (λ i q e. (omega (arith, q.0, e), q.1))
    (λ i q. omega (arith, q.0)) long c is small
