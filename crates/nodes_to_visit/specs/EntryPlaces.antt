-- An entry put in among the others: where it belongs, and the entries from there on moved three numbers up.
use Rattle.std.specs.Prelude.{Result, Ok, Err, ◌≡◌, refl, ◌⊎◌, Bool, true, false, List, ℕ, ◌+◌, ◌-◌, ◌*◌, ◌/◌, ◌≤◌, ◌<◌, length, get_or, set, ltb, eqb}
use Rattle.std.proofs.Common.{sym, ap, ap₂, ◌∙◌, subst, inl, inr, arith, ltb-true, ltb-false, eqb-true}
use Rattle.std.proofs.lemmas.Bool.{eqb-false}
use Rattle.packing.specs.Frames.{SameOutside}
use Rattle.packing.specs.RaisedNumbers.{Raised}
use Rattle.nodes_to_visit.specs.declared.Relation.{Relation}
use Rattle.nodes_to_visit.specs.declared.Relation.TheVariants.{Same, Above, Neither}
use Rattle.threads_beside.specs.NodeMoves.{NodeBeside}
use Rattle.packing.specs.declared.Numbers.{Numbers}
use Rattle.packing.specs.Packing.{PackedIn}
use Rattle.threads_beside.specs.ThreadsBeside.{node_for}
use Rattle.nodes_to_visit.specs.NodesToVisit.{PendingPacked, pending_one, entry_numbers, StaysAbove, AboveFrom, Pushed, PutAmong, Entered, there, put}
use Rattle.nodes_to_visit.specs.NodesToVisitLaws.{packed_same, placed_same}
use Rattle.nodes_to_visit.specs.StoredEntry.{entry_stored}
use Rattle.work_layout.specs.WorkLayout.{pending_at, pending_end}

-- ---- where it belongs
-- numbers y beside numbers x: they are the same, or the entry of y stays above that of x, or neither
abbrev pub SideIs : (ℕ → ℕ) → ℕ → Numbers → Numbers → Relation → Type 0
SideIs rank n x y Same = (y.a ≡ x.a) × (y.b ≡ x.b) × (y.c ≡ x.c)
SideIs rank n x y Above = (y.a ≡ x.a → ⊥) × (y.b ≡ x.b) × (y.c ≡ x.c) × (rank (x.a / 256) ≤ rank (y.a / 256)) × (rank (y.a / 256) < n)
SideIs rank n x y Neither = y.b ≡ x.b → y.c ≡ x.c → (y.a ≡ x.a → ⊥) × (rank (x.a / 256) ≤ rank (y.a / 256) → n ≤ rank (y.a / 256))

-- packed numbers are those of the entry that they stand for
pub entry_numbers_lem : (y : Numbers) → PackedIn y → entry_numbers (node_for y) ≡ y
entry_numbers_lem y p =
    ap₂ (λ (a b : ℕ). record { a = a; b = b; c = (entry_numbers (node_for y)).c }) p.first p.second
    ∙ ap (λ (c : ℕ). record { a = y.a; b = y.b; c = c }) p.third

-- entry e is not that of x and does not stay above it
abbrev pub NoneOf : (ℕ → ℕ) → ℕ → Numbers → NodeBeside → Type 0
NoneOf rank n x e = (entry_numbers e ≡ x → ⊥) × (StaysAbove rank n x e → ⊥)

-- x is entry `at`; those above stay above it
pub record SpotHeld (rank : ℕ → ℕ) (w : List ℕ) (top n : ℕ) (x : Numbers) (at : ℕ) : Type 0 where
  pub within : at < top
  pub hit : pending_one w at ≡ node_for x
  pub above : AboveFrom rank w top n x (at + 1)

-- x is none of the entries looked at and is to be put in at this place; those above stay above it
pub record SpotFree (rank : ℕ → ℕ) (w : List ℕ) (top n : ℕ) (x : Numbers) (at : ℕ) : Type 0 where
  pub within : at ≤ top
  pub above : AboveFrom rank w top n x at
  pub new : 0 < at → NoneOf rank n x (pending_one w (at - 1))

-- by the answer
abbrev pub SpotIs : (ℕ → ℕ) → List ℕ → ℕ → ℕ → Numbers → Result ℕ ℕ → Type 0
SpotIs rank w top n x (Ok at) = SpotHeld rank w top n x at
SpotIs rank w top n x (Err at) = SpotFree rank w top n x at

-- ---- entries with the same three numbers
-- the three numbers of entry j of w are those of entry i of v
pub record SameEntry (v : List ℕ) (i : ℕ) (w : List ℕ) (j : ℕ) : Type 0 where
  pub one : get_or w (pending_at + 3 * j) 0 ≡ get_or v (pending_at + 3 * i) 0
  pub two : get_or w (pending_at + 3 * j + 1) 0 ≡ get_or v (pending_at + 3 * i + 1) 0
  pub three : get_or w (pending_at + 3 * j + 2) 0 ≡ get_or v (pending_at + 3 * i + 2) 0

module _ {v w : List ℕ} {i j : ℕ} (s : SameEntry v i w j) where
  p : ℕ
  p = pending_at + 3 * i

  q : ℕ
  q = pending_at + 3 * j

  same_one : pending_one w j ≡ pending_one v i
  unfolding p q
  same_one =
      placed_same (get_or v p 0) (get_or v (p + 1) 0) (get_or v (p + 2) 0) (get_or w q 0) (get_or w (q + 1) 0) (get_or w (q + 2) 0)
      s.one s.two s.three

  same_packed : PendingPacked v i → PendingPacked w j
  unfolding p q
  same_packed =
      packed_same (get_or v p 0) (get_or v (p + 1) 0) (get_or v (p + 2) 0) (get_or w q 0) (get_or w (q + 1) 0) (get_or w (q + 2) 0)
      s.one s.two s.three

-- ---- x, with these numbers, stored as entry k of u, in which the entries of v from there on stand one higher
module _ (rank : ℕ → ℕ) (v u w : List ℕ) (top n k : ℕ) (x : NodeBeside) (few : top < 64) (within : k ≤ top)
    (raised : Raised 3 v (pending_at + 3 * k) (pending_at + 3 * top) u)
    (pushed : Pushed u k x w) where
  lower : (i : ℕ) → i < k → SameEntry v i w i
  lower i l =
      let at : (j : ℕ) → j < pending_at + 3 * k → get_or w j 0 ≡ get_or v j 0 = λ j h. pushed.outside.at j (inl h) ∙ raised.low j (omega arith) in
      record { one = at (pending_at + 3 * i) (omega arith); two = at (pending_at + 3 * i + 1) (omega arith); three = at (pending_at + 3 * i + 2) (omega arith) }

  higher_at : (i a : ℕ) → k ≤ i → i < top → pending_at + 3 * i ≤ a → a < pending_at + 3 * i + 3 → get_or w (a + 3) 0 ≡ get_or v a 0
  higher_at i a l m h g = pushed.outside.at (a + 3) (inr (omega arith)) ∙ raised.moved a (omega arith) (omega arith)

  higher : (i : ℕ) → k ≤ i → i < top → SameEntry v i w (i + 1)
  higher i l m =
      let a : ℕ = pending_at + 3 * i in
      let e : pending_at + 3 * (i + 1) ≡ a + 3 = omega arith in
      let f : pending_at + 3 * (i + 1) + 1 ≡ a + 1 + 3 = omega arith in
      let g : pending_at + 3 * (i + 1) + 2 ≡ a + 2 + 3 = omega arith in
      record {
        one = rw e (higher_at i a l m (omega arith) (omega arith));
        two = rw f (higher_at i (a + 1) l m (omega arith) (omega arith));
        three = rw g (higher_at i (a + 2) l m (omega arith) (omega arith));
      }

  entries_packed : ((i : ℕ) → i < top → PendingPacked v i) → (i : ℕ) → i ≤ top → PendingPacked w i
  entries_packed h i l = go (ltb i k) refl (eqb i k) refl
    where
      go : (b : Bool) → ltb i k ≡ b → (d : Bool) → eqb i k ≡ d → PendingPacked w i
      go true t d e =
          let m : i < k = ltb-true i k t in
          same_packed (lower i m) (h i (omega arith))
      go false t true e =
          let m : i ≡ k = eqb-true i k e in
          rw m pushed.packed
      go false t false e =
          let m : k ≤ i = ltb-false i k t in
          let d : k < i = omega (arith, eqb-false i k e) in
          let z : i ≡ i - 1 + 1 = omega arith in
          rw z (same_packed (higher (i - 1) (omega arith) (omega arith)) (h (i - 1) (omega arith)))

  pub entry_put : ((i : ℕ) → i < top → PendingPacked v i) → AboveFrom rank v top n (entry_numbers x) k
      → (0 < k → NoneOf rank n (entry_numbers x) (pending_one v (k - 1))) → PutAmong rank v top n k x w
  entry_put h stay none =
      record {
        place = within;
        below = λ i l. same_one (lower i l);
        here = pushed.stored;
        above = λ i l m. (same_one (higher i l m), stay i l m);
        last = λ l. let t = none l in ((λ e. t.0 (ap entry_numbers e)), t.1);
        packed = entries_packed h;
        outside = outside;
      }
    where
      outside : SameOutside pending_at pending_end v w
      outside = record { long = pushed.outside.long ∙ raised.long; at = at }
        where
          at : (i : ℕ) → (i < pending_at) ⊎ (pending_end ≤ i) → get_or w i 0 ≡ get_or v i 0
          at i (inl l) = pushed.outside.at i (inl (omega arith)) ∙ raised.low i (omega arith)
          at i (inr l) = pushed.outside.at i (inr (omega arith)) ∙ raised.high i (omega arith)

-- ---- the two ways through the code
module _ (rank : ℕ → ℕ) (v : List ℕ) (top n k : ℕ) (x : NodeBeside) (y : Numbers) (is : node_for y ≡ x) (q : PackedIn y) where
  numbers_are : y ≡ entry_numbers x
  numbers_are = sym (entry_numbers_lem y q) ∙ ap entry_numbers is

  pub entered_there : SpotHeld rank v top n y k → Entered rank v top n x v top
  entered_there h =
      there k h.within (h.hit ∙ is) (subst (λ (z : Numbers). AboveFrom rank v top n z (k + 1)) numbers_are h.above)

  pub entered_put : (u : List ℕ) → SpotFree rank v top n y k → top < 64 → pending_end ≤ length v → ((i : ℕ) → i < top → PendingPacked v i)
      → Raised 3 v (pending_at + 3 * k) (pending_at + 3 * top) u
      → Entered rank v top n x (set (set (set u (pending_at + 3 * k) y.a) (pending_at + 3 * k + 1) y.b) (pending_at + 3 * k + 2) y.c) (top + 1)
  entered_put u spot few room packed raised =
      let w : List ℕ = set (set (set u (pending_at + 3 * k) y.a) (pending_at + 3 * k + 1) y.b) (pending_at + 3 * k + 2) y.c in
      let pushed : Pushed u k x w =
      entry_stored u k y.a y.b y.c x (omega (arith, spot.within)) (omega (arith, raised.long)) q is in
      let new = subst (λ (z : Numbers). AboveFrom rank v top n z k × (0 < k → NoneOf rank n z (pending_one v (k - 1)))) numbers_are (spot.above, spot.new) in
      put k (entry_put rank v u w top n k x few spot.within raised pushed packed new.0 new.1)
