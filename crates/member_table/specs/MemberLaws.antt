-- What holds of the members that are kept: each has one id and one place in the order.
use Rattle.std.specs.Prelude.{◌≡◌, ◌⊎◌, ℕ, ◌+◌, ◌*◌, ◌≤◌, ◌<◌, length, get_or}
use Rattle.std.proofs.Common.{sym, ap, ap₂, ◌∙◌, subst, inl, inr, ⊎_elim, arith}
use mathlib.Core.List.{List, Memᴰ}
use Rattle.packing.specs.Tabulate.{tabulate_none, tabulate_same}
use Rattle.packing.specs.TabulateLaws.{mem_tabulate, tabulate_mem, distinct_tabulate, all_placed, ascends_apart}
use Rattle.move_laws.specs.Lists.{Distinct, Ascends, none_left}
use Rattle.packing.specs.AscendingLaws.{enter_keeps, enter_only}
use Rattle.move_laws.specs.Sheet.{Configuration}
use Rattle.move_laws.specs.OrderLaws.{configuration_order}
use Rattle.packing.specs.Orders.{configuration_before}
use Rattle.packing.specs.Packing.{unpacked}
use Rattle.member_table.specs.MemberTable.{member_in, id_in, placed_in, members_in, ordered_in, Kept}
use Rattle.member_table.specs.EntryFound.{EnteredIn}
use Rattle.work_layout.specs.WorkLayout.{table_ids, table_length}

-- ---- the order has the members, each once
module _ (w : List ℕ) (n : ℕ) (k : Kept w n) where
  -- two places have two ids
  pub ids_apart : (i j : ℕ) → i < n → j < n → id_in w i ≡ id_in w j → i ≡ j
  ids_apart i j h l e = ascends_apart configuration_order (placed_in w) n k.ascends i j h l (ap (member_in w) e)

  -- every id has its place
  pub id_placed : (i : ℕ) → i < n → (j : ℕ) × (j < n) × (i ≡ id_in w j)
  id_placed = all_placed (id_in w) n k.ids ids_apart

  -- equal members have equal ids
  pub member_id : (i j : ℕ) → i < n → j < n → member_in w i ≡ member_in w j → i ≡ j
  member_id i j h l e =
      let a = id_placed i h in
      let b = id_placed j l in
      let q : a.0 ≡ b.0 =
      ascends_apart configuration_order (placed_in w) n k.ascends a.0 b.0 a.1 b.1
      (sym (ap (member_in w) a.2) ∙ e ∙ ap (member_in w) b.2) in
      a.2 ∙ ap (id_in w) q ∙ sym b.2

  pub members_distinct : Distinct (members_in w n)
  members_distinct = distinct_tabulate (member_in w) n member_id

  -- the place of a member in the order
  pub ordered_in_lem : {x : Configuration} → Memᴰ x (members_in w n) → (j : ℕ) × (j < n) × (x ≡ placed_in w j)
  ordered_in_lem m =
      let i = tabulate_mem (member_in w) n m in
      let j = id_placed i.0 i.1 in
      (j.0, j.1, i.2 ∙ ap (member_in w) j.2)

  -- what is in the order is a member
  pub ordered_member : {x : Configuration} → Memᴰ x (ordered_in w n) → Memᴰ x (members_in w n)
  ordered_member m =
      let j = tabulate_mem (placed_in w) n m in
      subst (λ (z : Configuration). Memᴰ z (members_in w n)) (sym j.2) (mem_tabulate (member_in w) n (id_in w j.0) (k.ids j.0 j.1))

  -- and every member is in the order
  pub member_ordered : {x : Configuration} → Memᴰ x (members_in w n) → Memᴰ x (ordered_in w n)
  member_ordered m =
      let j = ordered_in_lem m in
      subst (λ (z : Configuration). Memᴰ z (ordered_in w n)) (sym j.2) (mem_tabulate (placed_in w) n j.0 j.1)

-- ---- after entering
module _ {v : List ℕ} {n limit : ℕ} {p : Configuration} {w : List ℕ} {id m at : ℕ} (k : Kept v n) (e : EnteredIn v n limit p w id m at) where
  -- p is a member
  pub entered_itself : Memᴰ p (members_in w m)
  entered_itself = subst (λ (z : Configuration). Memᴰ z (members_in w m)) e.named.1 (mem_tabulate (member_in w) m id e.named.0)

  -- those before it still are
  pub entered_keeps : {x : Configuration} → Memᴰ x (members_in v n) → Memᴰ x (members_in w m)
  entered_keeps {x} i =
      ordered_member w m e.kept
      (subst (Memᴰ x) (sym e.ordered) (enter_keeps configuration_order p (ordered_in v n) (member_ordered v n k i)))

  -- and no other is
  pub entered_only : {x : Configuration} → Memᴰ x (members_in w m) → (x ≡ p) ⊎ Memᴰ x (members_in v n)
  entered_only {x} i =
      ⊎_elim (λ (q : x ≡ p). inl q) (λ (l : Memᴰ x (ordered_in v n)). inr (ordered_member v n k l))
      (enter_only configuration_order p (ordered_in v n) (subst (Memᴰ x) e.ordered (member_ordered w m e.kept i)))

-- ---- no member
-- any slice that is long enough keeps none
pub kept_none : (w : List ℕ) → table_length ≤ length w → Kept w 0
kept_none w h =
    record {
      room = omega arith;
      long = h;
      packed = λ i l. absurd (omega arith);
      ids = λ j l. absurd (omega arith);
      ascends = subst (Ascends configuration_before) (sym (tabulate_none (placed_in w))) none_left;
    }

-- ---- a slice that agrees on the first 2,048 numbers keeps the same members
module _ (v w : List ℕ) (n : ℕ) (k : Kept v n) (e : (i : ℕ) → i < table_length → get_or w i 0 ≡ get_or v i 0) where
  same_member : (i : ℕ) → i < n → member_in w i ≡ member_in v i
  same_member i h =
      let r = k.room in
      ap (λ (s : ℕ). unpacked s (get_or w (3 * i + 1) 0) (get_or w (3 * i + 2) 0)) (e (3 * i) (omega arith))
      ∙ ap₂ (λ (s t : ℕ). unpacked (get_or v (3 * i) 0) s t) (e (3 * i + 1) (omega arith)) (e (3 * i + 2) (omega arith))

  pub same_members : members_in w n ≡ members_in v n
  same_members = tabulate_same (member_in w) (member_in v) n same_member

  pub same_ordered : ordered_in w n ≡ ordered_in v n
  same_ordered =
      tabulate_same (placed_in w) (placed_in v) n
      (λ j h. let r = k.room in ap (member_in w) (e (table_ids + j) (omega arith)) ∙ same_member (id_in v j) (k.ids j h))

  pub same_kept : length w ≡ length v → Kept w n
  same_kept l =
      let r = k.room in
      record {
        room = r;
        long = omega (arith, k.long);
        packed = λ i h. rw (e (3 * i) (omega arith), e (3 * i + 1) (omega arith), e (3 * i + 2) (omega arith)) (k.packed i h);
        ids = λ j h. omega (arith, e (table_ids + j) (omega arith), k.ids j h);
        ascends = subst (Ascends configuration_before) (sym same_ordered) k.ascends;
      }
