-- Laws of the shelf: it begins with no entries, takes one entry more, and stays where the slice agrees.
use Rattle.std.specs.Prelude.{◌≡◌, ◌⊎◌, Bool, ℕ, ◌+◌, ◌*◌, ◌-◌, ◌/◌, ◌^◌, ◌≤◌, ◌<◌, length, get_or, set, take, drop}
use Rattle.std.proofs.Math.Path.{refl, subst}
use Rattle.std.proofs.Common.{sym, ap, ap₂, ◌∙◌, inl, inr, ⊎_elim, arith, length-set, get_or-set_same, get_or-set_other, pow_mono}
use Rattle.std.proofs.Math.Bool.{true, false}
use mathlib.Core.List.{List}
use Rattle.std.proofs.Math.Dec.{eqb}
use borrow.Author.Tests.{eqb-true, eqb-false}
use Rattle.ask_labels.specs.declared.Shelf.{Shelf}
use Rattle.ask_labels.specs.declared.Labelled.{Labelled}
use Rattle.label_search.specs.FactsOutside.{outside}
use Rattle.label_search.specs.LabelOrder.{labels_missing}
use Rattle.work_layout.specs.Frames.{SameOutside, outside_same, outside_again, outside_wider, outside_set}
use Rattle.label_search.specs.AskLabels.{LabelsAre, part}
use Rattle.label_search.specs.LabelScanLaws.{part_agree, labels_agree, table_agree}
use Rattle.ask_labels.specs.LabelShelf.{max_sets, asked_of, first_of, end_of, put_entry, EntryAt, Shelved, no_entries, HasRoom, ShelfRoom, LabelsGiven}
use Rattle.work_layout.specs.WorkLayout.{heads_at, lists_at, lists_end, set_room}
use Rattle.closure_table.specs.SheetLimits.{max_facts}

-- there are at most 4096 sets
pub sets_few : (facts : ℕ) → facts ≤ max_facts → 2 ^ facts ≤ set_room
sets_few facts h = pow_mono {i = facts} {j = 12} h

-- ---- slices that agree
-- v is as long as w, and agrees with it in the table and in the shelf
pub record SameShelf (w v : List ℕ) : Type 0 where
  pub long : length v ≡ length w
  pub table : (i : ℕ) → i < set_room → get_or v i 0 ≡ get_or w i 0
  pub shelf : (i : ℕ) → heads_at ≤ i → i < lists_end → get_or v i 0 ≡ get_or w i 0

module _ (w v : List ℕ) (facts d : ℕ) where
  entry_agree : (high i : ℕ) → length v ≡ length w → ((k : ℕ) → k < 2 ^ facts → get_or v k 0 ≡ get_or w k 0)
      → ((k : ℕ) → heads_at + 3 * i ≤ k → k ≤ heads_at + 3 * i + 2 → get_or v k 0 ≡ get_or w k 0)
      → ((k : ℕ) → lists_at ≤ k → k < high → get_or v k 0 ≡ get_or w k 0) → EntryAt w facts d high i → EntryAt v facts d high i
  entry_agree high i long table heads lists h =
      record {
        low = omega (arith, first, h.low);
        order = omega (arith, first, end, h.order);
        below = omega (arith, end, h.below);
        labels =
            subst (λ (l : List ℕ). LabelsAre v facts d (asked_of v i) l) (sym same)
            (subst (λ (x : ℕ). LabelsAre v facts d x (part w (first_of w i) (end_of w i))) (sym asked) (labels_agree v h.labels table));
      }
    where
      asked : asked_of v i ≡ asked_of w i
      asked = heads (heads_at + 3 * i) (omega arith) (omega arith)

      first : first_of v i ≡ first_of w i
      first = heads (heads_at + 3 * i + 1) (omega arith) (omega arith)

      end : end_of v i ≡ end_of w i
      end = heads (heads_at + 3 * i + 2) (omega arith) (omega arith)

      same : part v (first_of v i) (end_of v i) ≡ part w (first_of w i) (end_of w i)
      same =
          ap₂ (λ (a b : ℕ). part v a b) first end
          ∙ part_agree w v (first_of w i) (end_of w i) long (λ k l u. lists k (omega (arith, h.low)) (omega (arith, h.below)))

  -- the shelf depends on the table and on its own places only
  pub shelved_agree : facts ≤ max_facts → SameShelf w v → (shelf : Shelf) → Shelved w facts d shelf → Shelved v facts d shelf
  shelved_agree f s shelf h =
      record {
        few = h.few;
        room = h.room;
        entries = λ i l.
            entry_agree (lists_at + shelf.used) i s.long (λ k u. s.table k (omega (arith, sets_few facts f)))
            (λ k a b. s.shelf k (omega arith) (omega (arith, h.few))) (λ k a b. s.shelf k (omega arith) (omega (arith, h.room)))
            (h.entries i l);
      }

  -- and so do labels that stand there
  pub labelled_agree : facts ≤ max_facts → SameShelf w v → (c first end : ℕ) → lists_at ≤ first → end ≤ lists_end
      → LabelsAre w facts d c (part w first end) → LabelsAre v facts d c (part v first end)
  labelled_agree f s c first end l u h =
      subst (λ (xs : List ℕ). LabelsAre v facts d c xs)
      (sym (part_agree w v first end s.long (λ k a b. s.shelf k (omega arith) (omega arith))))
      (labels_agree v h (λ k b. s.table k (omega (arith, sets_few facts f))))

-- what the shelf rests on stays where the table and the length do
pub room_agree : {facts d : ℕ} {w v : List ℕ} → ShelfRoom facts d w → length v ≡ length w
    → ((i : ℕ) → i < set_room → get_or v i 0 ≡ get_or w i 0) → ShelfRoom facts d v
room_agree {facts} {v = v} h long table =
    record {
      few = h.few;
      table = table_agree v h.table (λ i l. table i (omega (arith, sets_few facts h.few)));
      store = h.store;
      long = omega (arith, h.long);
    }

-- ---- no entries
pub shelved_none : (w : List ℕ) (facts d : ℕ) → Shelved w facts d no_entries
shelved_none w facts d = record { few = omega arith; room = omega arith; entries = λ i l. absurd (omega arith) }

pub shelved_kept : {w : List ℕ} {facts d : ℕ} {shelf r : Shelf} → Shelved w facts d shelf → HasRoom facts shelf r → Shelved w facts d r
shelved_kept {w} {facts} {d} {shelf} {r} h k =
    ⊎_elim (λ (e : r ≡ shelf). subst (λ (s : Shelf). Shelved w facts d s) (sym e) h)
    (λ (e : r ≡ no_entries). subst (λ (s : Shelf). Shelved w facts d s) (sym e) (shelved_none w facts d)) k.kept

-- ---- an entry that is found
pub entry_answers : (w : List ℕ) (facts d c : ℕ) (shelf : Shelf) (i : ℕ) → Shelved w facts d shelf → i < shelf.sets → asked_of w i ≡ c
    → LabelsGiven w facts d c (record { first = first_of w i; end = end_of w i; shelf = shelf }) w
entry_answers w facts d c shelf i h l e =
    let entry = h.entries i l in
    record {
      shelved = h;
      low = entry.low;
      order = entry.order;
      high = omega (arith, entry.below, h.room);
      labels = subst (λ (x : ℕ). LabelsAre w facts d x (part w (first_of w i) (end_of w i))) e entry.labels;
      same = outside_same heads_at lists_end w;
    }

-- ---- the asked set
-- an ask of what d lacks of c, answered, is an ask of c answered
pub missing_answers : {w : List ℕ} {facts d : ℕ} (c : ℕ) {r : Labelled} {v : List ℕ} → LabelsGiven w facts d (outside d c) r v
    → LabelsGiven w facts d c r v
missing_answers {w} {facts} {d} c h =
    record {
      shelved = h.shelved;
      low = h.low;
      order = h.order;
      high = h.high;
      labels = record { are = λ sheet e t fit. h.labels.are sheet e t fit ∙ labels_missing sheet d c };
      same = h.same;
    }

-- ---- an entry more
module _ (w : List ℕ) (i c first end : ℕ) where
  put_entry_same : SameOutside (heads_at + 3 * i) (heads_at + 3 * i + 3) w (put_entry w i c first end)
  put_entry_same =
      let one = set w (heads_at + 3 * i) c in
      let two = set one (heads_at + 3 * i + 1) first in
      outside_again (outside_set (heads_at + 3 * i) (heads_at + 3 * i + 3) w (heads_at + 3 * i) c (omega arith) (omega arith))
      (outside_again (outside_set (heads_at + 3 * i) (heads_at + 3 * i + 3) one (heads_at + 3 * i + 1) first (omega arith) (omega arith))
      (outside_set (heads_at + 3 * i) (heads_at + 3 * i + 3) two (heads_at + 3 * i + 2) end (omega arith) (omega arith)))

  module _ (long : heads_at + 3 * i + 3 ≤ length w) where
    put_asked : asked_of (put_entry w i c first end) i ≡ c
    put_asked =
        let one = set w (heads_at + 3 * i) c in
        let two = set one (heads_at + 3 * i + 1) first in
        get_or-set_other two (heads_at + 3 * i + 2) (heads_at + 3 * i) end 0 (omega arith)
        ∙ get_or-set_other one (heads_at + 3 * i + 1) (heads_at + 3 * i) first 0 (omega arith)
        ∙ get_or-set_same w (heads_at + 3 * i) c 0 (omega arith)

    put_first : first_of (put_entry w i c first end) i ≡ first
    put_first =
        let one = set w (heads_at + 3 * i) c in
        let two = set one (heads_at + 3 * i + 1) first in
        get_or-set_other two (heads_at + 3 * i + 2) (heads_at + 3 * i + 1) end 0 (omega arith)
        ∙ get_or-set_same one (heads_at + 3 * i + 1) first 0 (simp length-set (omega arith))

    put_end : end_of (put_entry w i c first end) i ≡ end
    put_end =
        let one = set w (heads_at + 3 * i) c in
        let two = set one (heads_at + 3 * i + 1) first in
        get_or-set_same two (heads_at + 3 * i + 2) end 0 (simp length-set (omega arith))

-- labels found behind those of the shelf, and an entry put for them
module _ (w v : List ℕ) (facts d c sets used n : ℕ) (base : ShelfRoom facts d w) (few : sets < max_sets)
    (left : used + (2 ^ facts / 2 + 2) ≤ lists_end - lists_at) (found : LabelsAre w facts d c (take n (drop (lists_at + used) v)))
    (fit : n ≤ 2 ^ facts / 2 + 1) (same : SameOutside (lists_at + used) (lists_at + used + 2 ^ facts / 2 + 2) w v) where
  put : List ℕ
  put = put_entry v sets c (lists_at + used) (lists_at + used + n)

  grown : Shelf
  grown = record { sets = sets + 1; used = used + n }

  put_same : SameOutside (heads_at + 3 * sets) (heads_at + 3 * sets + 3) v put
  unfolding put
  put_same = put_entry_same v sets c (lists_at + used) (lists_at + used + n)

  -- a place outside the new entry and outside the new labels
  put_keeps : (k : ℕ) → (k < lists_at + used) → (k < heads_at + 3 * sets) ⊎ (heads_at + 3 * sets + 3 ≤ k) → get_or put k 0 ≡ get_or w k 0
  put_keeps k l o = put_same.at k o ∙ same.at k (inl l)

  put_table : (k : ℕ) → k < 2 ^ facts → get_or put k 0 ≡ get_or w k 0
  put_table k l =
      let b : 2 ^ facts ≤ set_room = sets_few facts base.few in
      put_keeps k (omega arith) (inl (omega arith))

  put_long : heads_at + 3 * sets + 3 ≤ length v
  put_long = omega (arith, same.long, base.long)

  put_labels : LabelsAre put facts d c (part put (lists_at + used) (lists_at + used + n))
  put_labels =
      let e : lists_at + used + n - (lists_at + used) ≡ n = omega arith in
      let p : part put (lists_at + used) (lists_at + used + n) ≡ take n (drop (lists_at + used) v) =
      part_agree v put (lists_at + used) (lists_at + used + n) put_same.long (λ k l u. put_same.at k (inr (omega arith)))
      ∙ ap (λ (m : ℕ). take m (drop (lists_at + used) v)) e in
      subst (λ (l : List ℕ). LabelsAre put facts d c l) (sym p) (labels_agree put found put_table)

  new_entry : EntryAt put facts d (lists_at + (used + n)) sets
  unfolding put
  new_entry =
      let a = put_asked v sets c (lists_at + used) (lists_at + used + n) put_long in
      let f = put_first v sets c (lists_at + used) (lists_at + used + n) put_long in
      let e = put_end v sets c (lists_at + used) (lists_at + used + n) put_long in
      record {
        low = omega (arith, f);
        order = omega (arith, f, e);
        below = omega (arith, e);
        labels =
            subst (λ (l : List ℕ). LabelsAre put facts d (asked_of put sets) l) (sym (ap₂ (λ (x y : ℕ). part put x y) f e))
            (subst (λ (x : ℕ). LabelsAre put facts d x (part put (lists_at + used) (lists_at + used + n))) (sym a) put_labels);
      }

  old_entry : (i : ℕ) → i < sets → EntryAt w facts d (lists_at + used) i → EntryAt put facts d (lists_at + (used + n)) i
  old_entry i l h =
      let kept : EntryAt put facts d (lists_at + used) i =
      entry_agree w put facts d (lists_at + used) i (put_same.long ∙ same.long) put_table
      (λ k a b. put_keeps k (omega arith) (inl (omega arith))) (λ k a b. put_keeps k b (inr (omega arith))) h in
      record { low = kept.low; order = kept.order; below = omega (arith, kept.below); labels = kept.labels }

  put_shelved : Shelved w facts d (record { sets = sets; used = used }) → Shelved put facts d grown
  unfolding grown
  put_shelved h = record { few = omega arith; room = omega (arith, left); entries = λ i l. go i l (eqb i sets) refl }
    where
      go : (i : ℕ) → i < sets + 1 → (b : Bool) → eqb i sets ≡ b → EntryAt put facts d (lists_at + (used + n)) i
      go i l true e = subst (λ (k : ℕ). EntryAt put facts d (lists_at + (used + n)) k) (sym (eqb-true i sets e)) new_entry
      go i l false e =
          let b : i < sets = omega (arith, eqb-false i sets e) in
          old_entry i b (h.entries i b)

  -- the answer to an ask whose labels were found
  pub put_answers : Shelved w facts d (record { sets = sets; used = used })
      → LabelsGiven w facts d c (record { first = lists_at + used; end = lists_at + used + n; shelf = record { sets = sets + 1; used = used + n } })
      (put_entry v sets c (lists_at + used) (lists_at + used + n))
  unfolding put grown
  put_answers h =
      record {
        shelved = put_shelved h;
        low = omega arith;
        order = omega arith;
        high = omega (arith, left);
        labels = put_labels;
        same =
            outside_again (outside_wider same heads_at lists_end (omega arith) (omega (arith, left)))
            (outside_wider put_same heads_at lists_end (omega arith) (omega arith));
      }
