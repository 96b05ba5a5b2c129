-- `explore`: what is kept is explored as far as its spans say, the shelf has labels at its store, and each round gives one more member
-- its span; where no place is left every member has one.
use mathlib.Core.Path.{ap, ◌∙◌, subst}
use Prim.Native.Nat.{ℕ, ◌+◌}
use native.Mathlib.Omega.{arith}
use borrow.Author.Rules.{rules}
use lib.ListN.{get_or}
use Rattle.sheet_types.specs.NodeTable.{nodes_of}
use Rattle.sheet_types.specs.HeldSheet.{nodes_in}
use Rattle.ask_labels.specs.LabelShelf.{Shelved}
use Rattle.exploration.specs.MemberExplored.{one_on, one_over}
use Rattle.exploration.specs.ExploredPlaces.{from_low, exploring_from, low_within}
use Rattle.unexplored_members.specs.UnexploredCount.{unexplored_below, unexplored_less}
use Rattle.exploration.specs.ExplorationLaws.{shelf_fits, Explores, explores_none, explores_all, explores_over, explores_next}
use Rattle.work_layout.specs.WorkLayout.{spans_at, member_room}
use Rattle.exploration.proofs.explore.Given as goal

abbrev pub invariant-loop-plan : goal.invariant-loop-plan
invariant-loop-plan l =
    Explores (nodes_in (nodes_of l.table) l.plan.nodes) l.plan l.initial.work l.initial.run l.work l.run l.shelf l.store

abbrev pub decreases-loop-plan : goal.decreases-loop-plan
decreases-loop-plan l = unexplored_below l.work member_room
