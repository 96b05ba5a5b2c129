-- `next_place`: the members of the places from `low` on that were passed are explored.
use Prim.Native.Nat.{ℕ}
use Rattle.collected_moves.specs.PlacesPassed.{HoldsFrom}
use Rattle.collected_moves.specs.CollectedMoves.{member_part}
use Rattle.member_table.specs.MemberTable.{id_in}
use Rattle.unexplored_members.specs.UnexploredMembers.{IsExplored}
use Rattle.unexplored_members.proofs.next_place.Given as goal

abbrev pub invariant-loop-j : goal.invariant-loop-j
invariant-loop-j l = HoldsFrom (λ (i : ℕ). IsExplored l.work (id_in (member_part l.work) i)) l.low l.j
