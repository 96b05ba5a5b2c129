-- Laws of moves that are noted: by what their numbers stand for, and those of labels one after another.
use Rattle.std.specs.Prelude.{◌≡◌, ℕ, ◌+◌, ◌%◌, ◌^◌, ◌≤◌, ◌<◌, length, get_or}
use Rattle.std.proofs.Common.{sym, ap₂, ◌∙◌, inl, inr, arith}
use Rattle.std.proofs.Math.Path.{ap, subst}
use mathlib.Core.List.Memᴰ
use mathlib.Core.List.{List, [], ◌∷◌, ◌++◌, map, map-append, Memᴰ}
use Rattle.std.specs.Int.Bits.{bit_or}
use Rattle.std.proofs.lemmas.Nat.{or_lt}
use Rattle.sheet_types.specs.Sheet.{Configuration}
use Rattle.packing.specs.Orders.{Move}
use Rattle.move_entry.specs.NumberLists.{numbers_in}
use Rattle.collected_moves.specs.NumberLaws.{numbers_none, numbers_next, numbers_split}
use Rattle.packing.specs.declared.Numbers.{Numbers}
use Rattle.packing.specs.Packing.{stands_for}
use Rattle.walk_state.specs.AskLabels.{part}
use Rattle.walk_state.specs.LabelShelfLaws.{sets_few}
use Rattle.collected_moves.specs.declared.Caps.{Caps}
use Rattle.collected_moves.specs.declared.Running.{Running}
use Rattle.std.specs.Prelude.{Option, Some, None}
use Rattle.collected_moves.specs.CollectedMoves.{Collecting, NotedOn, NoRoom, NotedAs}
use Rattle.walk_state.specs.NotedInWalk.{NotedAll, AllPass, noted_next, noted_none, pass_next}
use Rattle.label_moves.specs.LabelMoves.{label_move, label_moves, LabelsStand}
use Rattle.collected_moves.specs.WorkLayout.{lists_end}

-- ---- a move by what its numbers stand for
-- with this label, to the configuration that the numbers stand for, which has this store and these threads
pub noted_named : (v : List ℕ) (first : ℕ) (s : Running) (l : Caps) (w : List ℕ) (r : Option Running) (a k : ℕ) (x : Numbers) (z y : ℕ) (ts : List ℕ)
    → a ≡ k → stands_for x ≡ record { store = z; threads = ts } → z ≡ y
    → NotedAs v first s l (record { label = a; target = stands_for x }) w r
    → NotedAs v first s l (record { label = k; target = record { store = y; threads = ts } }) w r
noted_named v first s l w r a k x z y ts d e f h =
    subst (λ (m : Move). NotedAs v first s l m w r)
    (ap₂ (λ (n : ℕ) (p : Configuration). record { label = n; target = p }) d (e ∙ ap (λ (n : ℕ). record { store = n; threads = ts }) f)) h

module _ {v : List ℕ} {first : ℕ} {s : Running} {l : Caps} {w : List ℕ} {r : Option Running} where
  -- the answer taken apart
  pub noted_on : {m : Move} {t : Running} → r ≡ Some t → NotedAs v first s l m w r → NotedOn v first s l m w t
  noted_on {m} e h = subst (NotedAs v first s l m w) e h

  pub noted_full : {m : Move} → r ≡ None → NotedAs v first s l m w r → NoRoom v first s l m w
  noted_full {m} e h = subst (NotedAs v first s l m w) e h

-- ---- labels one after another
module _ (w : List ℕ) (d : ℕ) (ts : List ℕ) (from : ℕ) where
  labels_none : label_moves w d ts from from ≡ []
  unfolding numbers_in
  labels_none = ap (map (label_move w d ts)) (numbers_none w from)

  -- no label was passed yet
  pub labels_begin : {first : ℕ} {s : Running} {l : Caps} → Collecting w first s l → NotedAll w first s l (label_moves w d ts from from) w s
  labels_begin {first} {s} {l} c = subst (λ (ms : List Move). NotedAll w first s l ms w s) (sym labels_none) (noted_none c)

  labels_next : (i : ℕ) → from ≤ i → i < length w
      → label_moves w d ts from (i + 1) ≡ label_moves w d ts from i ++ (label_move w d ts (get_or w i 0) ∷ [])
  unfolding numbers_in
  labels_next i h l =
      ap (map (label_move w d ts)) (numbers_next w from i h l) ∙ map-append (label_move w d ts) (part w from i) (get_or w i 0 ∷ [])

  labels_among : (i end : ℕ) → from ≤ i → i ≤ end → (m : Move) → Memᴰ m (label_moves w d ts from i)
      → Memᴰ m (label_moves w d ts from end)
  unfolding numbers_in
  labels_among i end h l m k =
      subst (Memᴰ m)
      (sym (ap (map (label_move w d ts)) (numbers_split w from i end h l) ∙ map-append (label_move w d ts) (part w from i) (part w i end)))
      (Memᴰ.append_left (label_moves w d ts i end) k)

module _ (v : List ℕ) (first : ℕ) (s : Running) (l : Caps) (facts d : ℕ) (ts : List ℕ) (from end : ℕ) (long : lists_end ≤ length v)
    (h : LabelsStand v facts d from end) (i : ℕ) (p : from ≤ i) (q : i < end) (u : List ℕ) (r : Running)
    (n : NotedAll v first s l (label_moves v d ts from i) u r) (a : ℕ) (read : a ≡ get_or u i 0 % 65536) where
  -- the label read is the one that stands there
  label_read : a ≡ get_or v i 0
  label_read =
      omega (arith, n.inside.at i (inr (omega (arith, h.low))), h.small i p q, sets_few facts h.few)

  label_lt : a < 2 ^ facts
  label_lt = omega (arith, label_read, h.small i p q)

  -- its place in the table is inside the slice
  pub label_place : bit_or d a < length u
  label_place = omega (arith, or_lt facts d a h.store label_lt, sets_few facts h.few, n.inside.long)

  same_move : label_move u d ts a ≡ label_move v d ts (get_or v i 0)
  same_move =
      ap (λ (x : ℕ). record { label = a; target = record { store = x % 65536; threads = ts } })
      (n.inside.at (bit_or d a) (inl (omega (arith, or_lt facts d a h.store label_lt, sets_few facts h.few))))
      ∙ ap (label_move v d ts) label_read

  -- one label more
  pub label_noted : {w : List ℕ} {t : Running} → NotedOn u first r l (label_move u d ts a) w t
      → NotedAll v first s l (label_moves v d ts from (i + 1)) w t
  label_noted {w} {t} k =
      subst (λ (ms : List Move). NotedAll v first s l ms w t) (sym (labels_next v d ts from i p (omega (arith, h.high))))
      (noted_next n (subst (λ (m : Move). NotedOn u first r l m w t) same_move k))

  -- no room for it
  pub label_passes : {w : List ℕ} → NoRoom u first r l (label_move u d ts a) w → AllPass v first s l (label_moves v d ts from end) w
  label_passes {w} k =
      pass_next n (label_moves v d ts from end)
      (λ m j. labels_among v d ts from (i + 1) end (omega arith) (omega arith) m
      (subst (Memᴰ m) (sym (labels_next v d ts from i p (omega (arith, h.high)))) j))
      (subst (λ (m : Move). NoRoom u first r l m w) same_move k)
