-- `next_place`: the members of the places from `low` on that were passed are explored.
use mathlib.Core.Path.{sym, ap, ◌∙◌}
use mathlib.Core.List.{List}
use Prim.Native.Nat.{ℕ, ◌+◌}
use native.Mathlib.Omega.{arith}
use borrow.Author.Tests.{eqb-false}
use lib.ListN.{get_or}
use Rattle.collected_moves.specs.PlacesPassed.{holds_next}
use Rattle.collected_moves.specs.CollectedMoves.{member_part}
use Rattle.member_table.specs.MemberTable.{id_in}
use Rattle.unexplored_members.specs.UnexploredMembers.{IsExplored}
use Rattle.work_layout.specs.WorkLayout.{spans_at}
use Rattle.unexplored_members.proofs.next_place.Goals as goal

pub loop-j-preserved : goal.loop-j-preserved
loop-j-preserved c =
    let w : List ℕ = c.args.work.now in
    let id = c.id_at-id in
    let n = eqb-false (get_or w (spans_at + id.result) 0) 0 (sym c.unexplored.ensures ∙ c.if-unexplored.false) in
    holds_next (λ (i : ℕ). IsExplored w (id_in (member_part w) i)) c.args.low c.loop-j.j c.loop-j.invariant
    (omega (arith, n, ap (λ (k : ℕ). get_or w (spans_at + k) 0) id.ensures.0))
