-- Why noting is right: entering a member leaves the numbers of the moves alone, putting a number leaves the members alone, and a
-- move that is there already has the same number.
use Rattle.std.specs.Prelude.{◌≡◌, refl, ◌⊎◌, Bool, cond, ℕ, ◌+◌, ◌*◌, ◌-◌, ◌%◌, ◌≤◌, ◌<◌, min}
use Rattle.std.proofs.Common.{sym, ap, ap₂, ◌∙◌, subst, inl, inr, ⊎_elim, arith, eq-eqb, ne_eqb}
use mathlib.Core.List.{List, map, Memᴰ}
use Rattle.member_table.specs.Lists.{Ascends}
use Rattle.member_table.specs.Members.{mem_map, map_mem}
use Rattle.member_table.specs.Frames.{SameOutside, outside_wider, outside_then, outside_part}
use Rattle.member_table.specs.Sheet.{Configuration}
use Rattle.member_table.specs.Orders.{Move}
use Rattle.member_table.specs.AscendingLaws.{number_order}
use Rattle.member_table.specs.NumberLaws.{numbers_outside}
use Rattle.member_table.specs.Entered as put
use Rattle.member_table.specs.EnteredLaws as put-laws
use Rattle.std.specs.Prelude.{Option, Some, None}
use Rattle.member_table.specs.MemberTable.{member_in, members_in, id_in, Kept}
use Rattle.member_table.specs.EntryFound.{EnteredIn}
use Rattle.member_table.specs.MemberLaws.{entered_itself, entered_only}
use Rattle.collected_moves.specs.declared.Caps.{Caps}
use Rattle.collected_moves.specs.declared.Running.{Running}
use Rattle.collected_moves.specs.CollectedMoves.{member_part, members_of, move_in_lem, move_numbers, moves_of, Collecting, Grown, NotedOn, NoRoom, EnteredOn}
use Rattle.collected_moves.specs.LowestUnexplored.{lowest_of}
use Rattle.collected_moves.specs.CollectedLaws.{move_of, number_label, number_id, move_same, moves_carried, numbers_apart, grown_trans}
use Rattle.member_table.specs.WorkLayout.{work_end, table_length, moves_at, members_at}

-- the numbers of members, moves and the lowest place
abbrev pub running_of : ℕ → ℕ → ℕ → Running
running_of n k low = record { members = n; moves = k; low = low }

-- ---- a member entered
module _ (v w : List ℕ) (first : ℕ) (s : Running) (l : Caps) (p : Configuration) (id n at low : ℕ) (c : Collecting v first s l)
    (e : EnteredIn (member_part v) s.members l.members p (member_part w) id n at) (o : SameOutside members_at (members_at + table_length) v w)
    (q : low ≡ lowest_of s n at) where
  -- the numbers of the moves stand before the members
  numbers_kept : move_numbers w first s.moves ≡ move_numbers v first s.moves
  numbers_kept = numbers_outside (moves_at + first) (moves_at + s.moves) (inl (omega (arith, c.room, c.caps))) o

  grows : s.members ≤ n
  grows = go e.fresh
    where
      go : ((n ≡ s.members) × (member_part w ≡ member_part v)) ⊎ ((n ≡ s.members + 1) × (id ≡ s.members)) → s.members ≤ n
      go (inl h) = omega (arith, h.0)
      go (inr h) = omega (arith, h.0)

  low_kept : (j : ℕ) → j < low → (j < s.low) × (id_in (member_part w) j ≡ id_in (member_part v) j)
  low_kept j h = go e.fresh
    where
      go : ((n ≡ s.members) × (member_part w ≡ member_part v)) ⊎ ((n ≡ s.members + 1) × (id ≡ s.members))
          → (j < s.low) × (id_in (member_part w) j ≡ id_in (member_part v) j)
      go (inl f) =
          let z : low ≡ s.low = q ∙ ap (λ (b : Bool). cond b s.low (min s.low at)) (eq-eqb n s.members f.0) in
          (omega arith, ap (λ (x : List ℕ). id_in x j) f.1)
      go (inr f) =
          let a : n ≡ s.members + 1 = f.0 in
          let z : low ≡ min s.low at =
          q ∙ ap (λ (b : Bool). cond b s.low (min s.low at)) (ne_eqb n s.members (λ (y : n ≡ s.members). omega arith)) in
          (omega arith, e.earlier j (omega arith))

  pub entered_on : EnteredOn v first s l p w (running_of n s.moves low)
  entered_on =
      record {
        collecting = record {
          long = omega (arith, c.long, o.long);
          caps = c.caps;
          kept = e.kept;
          room = (e.most, c.room.1, c.room.2);
          ascending = subst (Ascends number_order.before) (sym numbers_kept) c.ascending;
          ids = λ y m. omega (arith, grows, c.ids y (subst (Memᴰ y) numbers_kept m));
        };
        grown = record {
          members_same = e.members;
          members_grow = grows;
          moves_keep = λ k m.
              subst (λ (ys : List ℕ). Memᴰ k (map (move_in_lem w) ys)) (sym numbers_kept)
              (moves_carried v w s.members (move_numbers v first s.moves) e.members c.ids k m);
          low = low_kept;
          outside = outside_wider o (moves_at + first) work_end (omega (arith, c.room, c.caps)) (omega arith);
        };
        same_moves = (refl, numbers_kept);
        members_only = λ x m. entered_only c.kept e m;
        entered = entered_itself c.kept e;
        inside = o;
      }

-- ---- a number put behind a member that was entered
module _ (v u w : List ℕ) (first : ℕ) (s : Running) (l : Caps) (label : ℕ) (p : Configuration) (id n at low : ℕ)
    (c : Collecting v first s l) (e : EnteredIn (member_part v) s.members l.members p (member_part u) id n at)
    (o : SameOutside members_at (members_at + table_length) v u) (q : low ≡ lowest_of s n at) where
  i : EnteredOn v first s l p u (running_of n s.moves low)
  i = entered_on v u first s l p id n at low c e o q

  id_small : id < 65536
  id_small = omega (arith, e.named.0, e.most, c.caps)

  -- the number's id is that of the target
  id_named : (label * 65536 + id) % 65536 < n
  id_named = omega (arith, number_id label id id_small, e.named.0)

  -- the number stands for the move
  stands : move_in_lem u (label * 65536 + id) ≡ move_of label p
  stands =
      ap₂ (λ (a j : ℕ). move_of a (member_in (member_part u) j)) (number_label label id id_small) (number_id label id id_small)
      ∙ ap (move_of label) e.named.1

  module _ (k : ℕ) (b : put.Entered u (moves_at + first) (moves_at + s.moves) (moves_at + l.moves) (label * 65536 + id) w (moves_at + k)) where
    part_kept : member_part w ≡ member_part u
    part_kept = outside_part b.outside members_at table_length (inr (omega (arith, b.room, c.caps)))

    members_kept : members_in (member_part w) n ≡ members_in (member_part u) n
    members_kept = ap (λ (x : List ℕ). members_in x n) part_kept

    ids_kept : (y : ℕ) → Memᴰ y (move_numbers w first k) → y % 65536 < n
    ids_kept y m =
        ⊎_elim (λ (z : y ≡ label * 65536 + id). subst (λ (x : ℕ). x % 65536 < n) (sym z) id_named)
        (λ (z : Memᴰ y (move_numbers u first s.moves)). i.collecting.ids y z) (put-laws.entered_only b m)

    then_grown : Grown u first (running_of n s.moves low) w (running_of n k low)
    then_grown =
        record {
          members_same = members_kept;
          members_grow = omega arith;
          moves_keep = λ x m.
              let y = mem_map (move_in_lem w) (move_numbers u first s.moves)
              (moves_carried u w n (move_numbers u first s.moves) members_kept i.collecting.ids x m) in
              subst (λ (z : Move). Memᴰ z (moves_of w first (running_of n k low))) (sym y.2)
              (map_mem (move_in_lem w) (put-laws.entered_keeps b y.1));
          low = λ j h. (h, ap (λ (x : List ℕ). id_in x j) part_kept);
          outside = outside_wider b.outside (moves_at + first) work_end (omega arith) (omega (arith, b.room, c.caps));
        }

    all_grown : Grown v first s w (running_of n k low)
    all_grown = grown_trans v u w first s (running_of n s.moves low) (running_of n k low) i.grown then_grown

    stands_on : move_in_lem w (label * 65536 + id) ≡ move_of label p
    stands_on = move_same u w n members_kept (label * 65536 + id) id_named ∙ stands

    only : (x : Move) → Memᴰ x (moves_of w first (running_of n k low)) → (x ≡ move_of label p) ⊎ Memᴰ x (moves_of v first s)
    only x m =
        let y = mem_map (move_in_lem w) (move_numbers w first k) m in
        ⊎_elim (λ (z : y.0 ≡ label * 65536 + id). inl (y.2 ∙ ap (move_in_lem w) z ∙ stands_on))
        (λ (z : Memᴰ y.0 (move_numbers u first s.moves)).
        let old : Memᴰ y.0 (move_numbers v first s.moves) = subst (Memᴰ y.0) i.same_moves.1 z in
        inr (subst (λ (t : Move). Memᴰ t (moves_of v first s))
        (sym (y.2 ∙ move_same v w s.members all_grown.members_same y.0 (c.ids y.0 old))) (map_mem (move_in_lem v) old)))
        (put-laws.entered_only b y.1)

    put_on : NotedOn v first s l (move_of label p) w (running_of n k low)
    put_on =
        record {
          collecting = record {
            long = omega (arith, i.collecting.long, b.outside.long);
            caps = c.caps;
            kept = subst (λ (x : List ℕ). Kept x n) (sym part_kept) e.kept;
            room = (e.most, omega (arith, c.room, b.room), omega (arith, b.room));
            ascending = put-laws.entered_ascends b i.collecting.ascending;
            ids = ids_kept;
          };
          grown = all_grown;
          members_only = λ x m. i.members_only x (subst (Memᴰ x) members_kept m);
          moves_only = only;
          target_in_lem = subst (Memᴰ p) (sym members_kept) i.entered;
          move_in =
              subst (λ (x : Move). Memᴰ x (moves_of w first (running_of n k low))) stands_on
              (map_mem (move_in_lem w) (put-laws.entered_in b));
          inside = outside_then o b.outside (moves_at + first) (members_at + table_length) (omega (arith, c.room, c.caps)) (omega arith)
              (omega arith) (omega (arith, b.room, c.caps));
        }

  pub noted_on : (end : ℕ) → put.Entered u (moves_at + first) (moves_at + s.moves) (moves_at + l.moves) (label * 65536 + id) w end
      → NotedOn v first s l (move_of label p) w (running_of n (end - moves_at) low)
  noted_on end b =
      let z : end ≡ moves_at + (end - moves_at) = omega (arith, b.room) in
      put_on (end - moves_at)
      (subst (put.Entered u (moves_at + first) (moves_at + s.moves) (moves_at + l.moves) (label * 65536 + id) w) z b)

-- ---- the answer of putting a number taken apart
module _ {u : List ℕ} {from end limit y : ℕ} {w : List ℕ} {r : Option ℕ} where
  pub put_until : {e : ℕ} → r ≡ Some e → put.PutIs u from end limit y w r → put.Entered u from end limit y w e
  put_until e h = subst (put.PutIs u from end limit y w) e h

  pub put_full : r ≡ None → put.PutIs u from end limit y w r → put.NoRoom u from end limit y w
  put_full e h = subst (put.PutIs u from end limit y w) e h

-- ---- no room
-- for one more member
pub no_room_member : (v w : List ℕ) (first : ℕ) (s : Running) (l : Caps) (m : Move) → Collecting v first s l
    → s.members ≡ l.members → (Memᴰ m.target (members_of v s) → ⊥) → SameOutside members_at (members_at + table_length) v w
    → NoRoom v first s l m w
no_room_member v w first s l m c f n o =
    record {
      full = inl (f, n);
      inside = outside_wider o (moves_at + first) (members_at + table_length) (omega (arith, c.room, c.caps)) (omega arith);
    }

-- for one more move: the same move would have the same number
pub no_room_move : (v u w : List ℕ) (first : ℕ) (s : Running) (l : Caps) (label : ℕ) (p : Configuration) (id n at : ℕ)
    → Collecting v first s l
    → EnteredIn (member_part v) s.members l.members p (member_part u) id n at → SameOutside members_at (members_at + table_length) v u
    → put.NoRoom u (moves_at + first) (moves_at + s.moves) (moves_at + l.moves) (label * 65536 + id) w
    → NoRoom v first s l (move_of label p) w
no_room_move v u w first s l label p id n at c e o b =
    record {
      full = inr (omega (arith, b.full), missing);
      inside =
          subst (SameOutside (moves_at + first) (members_at + table_length) v) (sym b.same)
          (outside_wider o (moves_at + first) (members_at + table_length) (omega (arith, c.room, c.caps)) (omega arith));
    }
  where
    low : ℕ
    low = lowest_of s n at

    missing : Memᴰ (move_of label p) (moves_of v first s) → ⊥
    missing m =
        let g = entered_on v u first s l p id n at low c e o refl in
        let y = mem_map (move_in_lem v) (move_numbers v first s.moves) m in
        let old : y.0 % 65536 < s.members = c.ids y.0 y.1 in
        let z : y.0 ≡ label * 65536 + id =
        numbers_apart u n e.kept y.0 (label * 65536 + id) (omega (arith, g.grown.members_grow))
        (id_named v u w first s l label p id n at low c e o refl)
        (move_same v u s.members e.members y.0 old ∙ sym y.2 ∙ sym (stands v u w first s l label p id n at low c e o refl)) in
        b.missing
        (subst (λ (x : ℕ). Memᴰ x (move_numbers u first s.moves)) z (subst (Memᴰ y.0) (sym g.same_moves.1) y.1))
