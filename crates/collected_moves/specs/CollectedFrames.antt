-- Members and moves stay as they are where the slice is changed only outside the places of the members and of the moves in hand.
use Rattle.std.specs.Prelude.{◌≡◌, ◌⊎◌, ℕ, ◌+◌, ◌/◌, ◌%◌, ◌≤◌}
use Rattle.std.proofs.Common.{sym, ap, ◌∙◌, subst, arith}
use mathlib.Core.List.{List, map, Memᴰ}
use Rattle.member_table.specs.Lists.{Ascends}
use Rattle.member_table.specs.Frames.{SameOutside, outside_wider}
use Rattle.member_table.specs.AscendingLaws.{number_order}
use Rattle.member_table.specs.NumberLaws.{numbers_outside}
use Rattle.member_table.specs.MemberTable.{member_in, members_in, id_in}
use Rattle.member_table.specs.TableInPart.{part_outside, kept_outside}
use Rattle.collected_moves.specs.declared.Caps.{Caps}
use Rattle.collected_moves.specs.declared.Running.{Running}
use Rattle.collected_moves.specs.CollectedMoves.{member_part, move_in_lem, move_numbers, moves_of, Collecting, Grown}
use Rattle.member_table.specs.WorkLayout.{work_end, table_length, moves_at, members_at}

module _ {a b : ℕ} {v w : List ℕ} (same : SameOutside a b v w) (apart : (members_at + table_length ≤ a) ⊎ (b ≤ members_at)) where
  -- the members
  pub members_outside : (n : ℕ) → members_in (member_part w) n ≡ members_in (member_part v) n
  members_outside n = ap (λ (l : List ℕ). members_in l n) (part_outside same members_at apart)

  module _ (first : ℕ) (s : Running) (clear : (moves_at + s.moves ≤ a) ⊎ (b ≤ moves_at + first)) where
    -- the moves, by their numbers and as moves
    pub move_numbers_outside : move_numbers w first s.moves ≡ move_numbers v first s.moves
    move_numbers_outside = numbers_outside (moves_at + first) (moves_at + s.moves) clear same

    pub moves_outside : moves_of w first s ≡ moves_of v first s
    moves_outside =
        ap (map (move_in_lem w)) move_numbers_outside
        ∙ ap (λ (l : List ℕ). map (λ (y : ℕ). record { label = y / 65536; target = member_in l (y % 65536) }) (move_numbers v first s.moves))
        (part_outside same members_at apart)

    -- they are in order still
    pub collecting_outside : {l : Caps} → Collecting v first s l → Collecting w first s l
    collecting_outside c =
        record {
          long = omega (arith, same.long, c.long);
          caps = c.caps;
          kept = kept_outside same members_at s.members apart c.kept;
          room = c.room;
          ascending = subst (Ascends number_order.before) (sym move_numbers_outside) c.ascending;
          ids = λ y m. c.ids y (subst (Memᴰ y) move_numbers_outside m);
        }

    -- and none is lost
    pub grown_outside : moves_at + first ≤ a → b ≤ work_end → Grown v first s w s
    grown_outside low high =
        record {
          members_same = members_outside s.members;
          members_grow = omega arith;
          moves_keep = λ k m. subst (Memᴰ k) (sym moves_outside) m;
          low = λ j h. (h, ap (λ (l : List ℕ). id_in l j) (part_outside same members_at apart));
          outside = outside_wider same (moves_at + first) work_end low high;
        }
