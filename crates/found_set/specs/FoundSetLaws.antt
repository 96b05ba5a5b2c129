-- From the table of closures, cleared spans and the seeds to the set: whole and in order, or past a limit.
use Rattle.std.specs.Prelude.{◌≡◌, List, ℕ, ◌^◌, ◌≤◌, length, drop}
use Rattle.std.proofs.Common.{subst, arith}
use Rattle.set_order.specs.Frames.{outside_wider, outside_again}
use Rattle.sheet_types.specs.WellFormed.{Admissible}
use Rattle.sheet_types.specs.ClosureTable.{Closures}
use Rattle.sheet_types.specs.RuleTable.{rules_in}
use Rattle.sheet_types.specs.declared.Configuration.{Configuration}
use Rattle.sheet_types.specs.declared.Sheet.{Sheet}
use Rattle.sheet_types.specs.NodeTable.{nodes_of}
use Rattle.sheet_types.specs.HeldSheet.{starts_in, sheet_of, nodes_in}
use Rattle.collected_moves.specs.declared.Caps.{Caps}
use Rattle.collected_moves.specs.declared.Running.{Running}
use Rattle.std.specs.Prelude.{Option, Some, None}
use Rattle.set_order.specs.SetOrderSteps.{ArrangedAll}
use Rattle.exploration.specs.declared.Plan.{Plan}
use Rattle.exploration.specs.ExplorationSteps.{ExploredOn, ExploredOver, SetExplored}
use Rattle.sheet_types.specs.Sheet.{Node}
use Rattle.seed_members.specs.Seeds.{Cleared, SeededOn, SeededOver}
use Rattle.found_set.specs.FoundSet.{limits_of, plan_of, SeedsFit, SetWhole, SetPasses}
use Rattle.found_set.specs.LentSheetLaws.{growth_of, growth_sound, filled_outside, begins_on, begins_for, begins_outside}
use Rattle.found_set.specs.WholeSetLaws.{all_discovered, set_fits, set_held}
use Rattle.collected_moves.specs.WorkLayout.{work_end}

module _ (sheet : Sheet) (seeds : List Configuration) (k : ℕ) (caps : Caps) (fine : Admissible (sheet_of sheet)) (fit : SeedsFit sheet seeds k)
    (v a b : List ℕ) (long : work_end ≤ length v) (behind : drop (2 ^ sheet.facts) a ≡ drop (2 ^ sheet.facts) v) (cleared : Cleared a b) where
  -- the seeds alone pass a limit
  pub seeds_pass : (w : List ℕ) → SeededOver b caps (starts_in seeds k) w → SetPasses (sheet_of sheet) (limits_of caps) (starts_in seeds k) v w
  seeds_pass w x =
      record {
        passes = x.passes (growth_of sheet seeds k caps fine fit) (growth_sound sheet seeds k caps fine fit) (λ p m. m);
        outside =
            outside_again (outside_wider (filled_outside sheet seeds k caps fine fit v a long behind) 0 work_end (omega arith) (omega arith))
            (outside_again (outside_wider cleared.outside 0 work_end (omega arith) (omega arith))
            (outside_wider x.inside 0 work_end (omega arith) (omega arith)));
      }

  module _ (w : List ℕ) (s : Running)
      (closed : Closures (rules_in sheet.rules sheet.rule_count) 0 (2 ^ sheet.facts) a)
      (seeded : SeededOn b caps (starts_in seeds k) w s) where
    -- exploring passes a limit
    pub exploring_passes : (z : List ℕ) → ExploredOver (nodes_in (nodes_of sheet.table) sheet.node_count) (plan_of sheet caps) w s z
        → SetPasses (sheet_of sheet) (limits_of caps) (starts_in seeds k) v z
    exploring_passes z x =
        record {
          passes =
              x.passes (growth_of sheet seeds k caps fine fit)
              (begins_on sheet seeds k caps fine fit v a b w s long closed behind cleared seeded)
              (begins_for sheet seeds k caps fine fit v a b w s long closed behind cleared seeded);
          outside =
              outside_again
              (begins_outside sheet seeds k caps fine fit v a b w s long closed behind cleared seeded)
              (outside_wider x.outside 0 work_end (omega arith) (omega arith));
        }

    -- every member is explored, and the set is put into order
    pub whole_found : (y : List ℕ) (t : Running) (z : List ℕ)
        → ExploredOn (nodes_in (nodes_of sheet.table) sheet.node_count) (plan_of sheet caps) w s y t → ArrangedAll y t.members z
        → SetWhole (sheet_of sheet) (limits_of caps) (starts_in seeds k) v z t.members t.moves
    whole_found y t z x r =
        let g = growth_of sheet seeds k caps fine fit in
        let sound = growth_sound sheet seeds k caps fine fit in
        let e = x.explored_for g
        (begins_on sheet seeds k caps fine fit v a b w s long closed behind cleared seeded)
        (begins_for sheet seeds k caps fine fit v a b w s long closed behind cleared seeded) in
        record {
          fit = set_fits x.exploring x.all g sound e;
          held = set_held x.exploring x.all g sound e z r;
          outside =
              outside_again
              (begins_outside sheet seeds k caps fine fit v a b w s long closed behind cleared seeded)
              (outside_again (outside_wider x.outside 0 work_end (omega arith) (omega arith))
              (outside_wider (r.arranged t.moves (all_discovered x.exploring x.all)).outside 0 work_end (omega arith) (omega arith)));
        }

-- ---- the answer of exploring taken apart
module _ (nodes : List Node) (plan : Plan) (v : List ℕ) (s : Running) (w : List ℕ) (r : Option Running) where
  pub all_on : {t : Running} → r ≡ Some t → SetExplored nodes plan v s w r → ExploredOn nodes plan v s w t
  all_on e h = subst (SetExplored nodes plan v s w) e h

  pub all_over : r ≡ None → SetExplored nodes plan v s w r → ExploredOver nodes plan v s w
  all_over e h = subst (SetExplored nodes plan v s w) e h
