-- What is lent of a sheet, and where exploring begins.
use Rattle.std.specs.Prelude.{◌≡◌, refl, ℕ, ◌+◌, ◌^◌, ◌≤◌, ◌<◌, length, get_or, drop}
use Rattle.std.proofs.Common.{sym, ap, ◌∙◌, subst, inl, arith, length-drop}
use mathlib.Core.List.Memᴰ
use mathlib.Core.List.{List, [], ◌∷◌, Memᴰ}
use Rattle.sheet_types.specs.Lists.{no_elements}
use Rattle.set_order.specs.Frames.{SameOutside, outside_of_ends, outside_wider, outside_again}
use Rattle.collected_moves.specs.Tabulate.{tabulate_length}
use Rattle.collected_moves.specs.TabulateLaws.{tabulate_mem}
use Rattle.exploration.specs.Stores.{Constraint}
use Rattle.sheet_types.specs.Sheet.{tell, ask, node_of}
use Rattle.sheet_types.specs.Sheet as spec
use Rattle.sheet_types.specs.WellFormed.{OfSheet, NodeFits, Admissible}
use Rattle.seed_members.specs.Refinement.{seed}
use Rattle.seed_members.specs.SheetMoves.{conclusions_fit}
use Rattle.sheet_types.specs.ClosureTable.{Closures, closures_agree}
use Rattle.sheet_types.specs.RuleTable.{rules_in, rule_in}
use Rattle.sheet_types.specs.declared.Configuration.{Configuration}
use Rattle.sheet_types.specs.declared.Sheet.{Sheet}
use Rattle.sheet_types.specs.HeldSheet.{configuration, no_configuration, starts_in, sheet_of, node_in, nodes_in}
use Rattle.sheet_types.specs.NodeTable.{nodes_of}
use Rattle.exploration.specs.NodeTables.{NodeTable}
use Rattle.exploration.specs.LabelShelfLaws.{sets_few}
use Rattle.collected_moves.specs.declared.Caps.{Caps}
use Rattle.collected_moves.specs.declared.Running.{Running}
use Rattle.collected_moves.specs.CollectedLaws.{collecting_empty}
use Rattle.seed_members.specs.SetGrowth.{Growth, Sound}
use Rattle.exploration.specs.Ranks.{rank_of}
use Rattle.exploration.specs.OpeningLaws.{opened_inside}
use Rattle.exploration.specs.ReadingLaws.{well_formed_ranked}
use Rattle.exploration.specs.WalkState.{NodesLent, MemberFits}
use Rattle.exploration.specs.Exploration.{basis_of, Exploring, ExploredFor}
use Rattle.exploration.specs.ExplorationSteps.{OnPlan}
use Rattle.seed_members.specs.Seeds.{Cleared, SeededOn}
use Rattle.found_set.specs.FoundSet.{limits_of, plan_of, SeedsFit}
use Rattle.collected_moves.specs.WorkLayout.{work_end, spans_at, set_room, member_room}
use Rattle.sheet_types.specs.SheetLimits.{max_facts, max_rules, max_nodes}

-- ---- counts of a sheet that is held
module _ (sheet : Sheet) (fine : Admissible (sheet_of sheet)) where
  pub facts_few : sheet.facts ≤ max_facts
  facts_few = fine.within.few_facts

  pub rules_few : sheet.rule_count ≤ max_rules
  rules_few = rw (tabulate_length (rule_in sheet.rules) sheet.rule_count) at fine.within.few_rules_lem

  pub nodes_are : length (nodes_in (nodes_of sheet.table) sheet.node_count) ≡ sheet.node_count
  nodes_are = tabulate_length (node_in (nodes_of sheet.table)) sheet.node_count

  pub nodes_few : sheet.node_count ≤ max_nodes
  nodes_few = rw nodes_are at fine.within.few_nodes

  -- ---- what is lent
  told_fits : (k c : ℕ) → k < sheet.node_count → node_of (nodes_in (nodes_of sheet.table) sheet.node_count) k ≡ tell c → c < 2 ^ sheet.facts
  told_fits k c h e =
      let l : k < length (nodes_in (nodes_of sheet.table) sheet.node_count) = omega (arith, h, nodes_are) in
      let f : Constraint sheet.facts (rules_in sheet.rules sheet.rule_count) c =
      subst
      (NodeFits sheet.facts (rules_in sheet.rules sheet.rule_count) (length (nodes_in (nodes_of sheet.table) sheet.node_count)) k) e
      (fine.well_formed.nodes_fit k l) in
      f.facts

  asked_fits : (k c q : ℕ) → k < sheet.node_count → node_of (nodes_in (nodes_of sheet.table) sheet.node_count) k ≡ ask c q
      → (c < 2 ^ sheet.facts) × (q < sheet.node_count)
  asked_fits k c q h e =
      let l : k < length (nodes_in (nodes_of sheet.table) sheet.node_count) = omega (arith, h, nodes_are) in
      let f : Constraint sheet.facts (rules_in sheet.rules sheet.rule_count) c
      × (q < length (nodes_in (nodes_of sheet.table) sheet.node_count)) =
      subst
      (NodeFits sheet.facts (rules_in sheet.rules sheet.rule_count) (length (nodes_in (nodes_of sheet.table) sheet.node_count)) k) e
      (fine.well_formed.nodes_fit k l) in
      (f.0.facts, omega (arith, f.1, nodes_are))

  pub sheet_lent : (caps : Caps) → NodeTable (nodes_in (nodes_of sheet.table) sheet.node_count) sheet.table
      → NodesLent rank_of sheet.table (basis_of (plan_of sheet caps) 0 0)
  sheet_lent caps t =
      record {
        few = nodes_few;
        ranked = well_formed_ranked (sheet_of sheet) fine.well_formed;
        told = told_fits;
        asked = asked_fits;
        opens = λ k h. t.opened.holds.at k (omega (arith, h, nodes_are));
        few_threads = λ k h. t.opened.few.at k (omega (arith, h, nodes_are));
        movable = record { at = λ k h. t.marks.at k (omega (arith, h, nodes_are)) };
      }

module _ (sheet : Sheet) (seeds : List Configuration) (k : ℕ) (caps : Caps) (fine : Admissible (sheet_of sheet)) (fit : SeedsFit sheet seeds k) where
  pub seed_of : (p : spec.Configuration) → Memᴰ p (starts_in seeds k) → OfSheet (sheet_of sheet) p
  seed_of p m =
      let i = tabulate_mem (λ j. configuration (get_or seeds j no_configuration)) k m in
      subst (OfSheet (sheet_of sheet)) (sym i.2) (fit.of_sheet i.0 i.1)

  abbrev pub growth_of : Growth
  growth_of = record { sheet = sheet_of sheet; limits = limits_of caps; seeds = starts_in seeds k }

  pub growth_sound : Sound growth_of caps
  growth_sound = record { well_formed = fine.well_formed; seeds_of = seed_of; limits = (refl, refl, refl) }

  -- a seed with no more threads than allowed fits
  seed_fits : (p : spec.Configuration) → Memᴰ p (starts_in seeds k) → length p.threads ≤ caps.threads
      → MemberFits (basis_of (plan_of sheet caps) 0 0) p
  seed_fits p m h =
      let o = seed_of p m in
      record {
        store = o.store.facts;
        threads = record {
          few = h;
          ascending = o.process.ascending;
          nodes = λ t i.
              omega (arith, nodes_are sheet fine, opened_inside (nodes_in (nodes_of sheet.table) sheet.node_count) t (o.process.self_opening t i));
        };
      }

  -- ---- where exploring begins
  -- filling the table changes nothing behind it
  pub filled_outside : (v a : List ℕ) → work_end ≤ length v → drop (2 ^ sheet.facts) a ≡ drop (2 ^ sheet.facts) v → SameOutside 0 set_room v a
  filled_outside v a h e =
      let size : 2 ^ sheet.facts ≤ set_room = sets_few sheet.facts fine.within.few_facts in
      let long : length a ≡ length v =
      omega (arith, length-drop (2 ^ sheet.facts) a, length-drop (2 ^ sheet.facts) v, ap length e) in
      outside_wider (outside_of_ends 0 (2 ^ sheet.facts) v a long refl e) 0 set_room (omega arith) size

  module _ (v a b w : List ℕ) (s : Running) (long : work_end ≤ length v)
      (closed : Closures (rules_in sheet.rules sheet.rule_count) 0 (2 ^ sheet.facts) a)
      (behind : drop (2 ^ sheet.facts) a ≡ drop (2 ^ sheet.facts) v) (cleared : Cleared a b) (seeded : SeededOn b caps (starts_in seeds k) w s) where
    size : 2 ^ sheet.facts ≤ set_room
    size = sets_few sheet.facts fine.within.few_facts

    table_closed : Closures (rules_in sheet.rules sheet.rule_count) 0 (2 ^ sheet.facts) w
    table_closed =
        closures_agree closed
        (λ i l. seeded.inside.at i (inl (omega (arith, size))) ∙ cleared.outside.at i (inl (omega (arith, size))))

    no_span : (id : ℕ) → id < member_room → get_or w (spans_at + id) 0 ≡ 0
    no_span id h = seeded.inside.at (spans_at + id) (inl (omega arith)) ∙ cleared.none id h

    few_members : s.members ≤ member_room
    few_members = seeded.collecting.kept.room

    pub begins : Exploring w (plan_of sheet caps) s
    begins =
        record {
          collecting =
              collecting_empty w s caps seeded.collecting.long seeded.collecting.caps seeded.collecting.kept
              seeded.collecting.room.0 seeded.collecting.room.2;
          fit = λ x m. let q = seeded.only x m in seed_fits x q (seeded.few x q);
          few_facts = fine.within.few_facts;
          table = record {
            rules = rules_in sheet.rules sheet.rule_count;
            closures = table_closed;
            fit = conclusions_fit (sheet_of sheet) fine.well_formed;
          };
          spans = λ id h. inl (no_span id (omega (arith, h, few_members)));
          unused = λ id h l. no_span id l;
          apart = λ i j h l x y n. absurd (omega (arith, x, no_span i (omega (arith, h, few_members))));
          low = λ j h. absurd (omega (arith, h, seeded.lowest));
        }

    pub begins_on : OnPlan growth_of (nodes_in (nodes_of sheet.table) sheet.node_count) (plan_of sheet caps) w
    begins_on =
        record {
          sound = growth_sound;
          nodes_are = refl;
          node_count_lem = nodes_are sheet fine;
          facts_are = refl;
          closures = table_closed;
        }

    pub begins_for : ExploredFor growth_of w s
    begins_for =
        record {
          members_in_lem = λ x m. seed (seeded.only x m);
          seeds_in = seeded.all;
          done = λ id h e. absurd (omega (arith, e, no_span id (omega (arith, h, few_members))));
          counted = record {
            all = [];
            distinct = no_elements;
            count = sym seeded.no_moves;
            only = λ x m. absurd (Memᴰ.not-nil m);
            whole = λ id m h e i. absurd (omega (arith, e, no_span id (omega (arith, h, few_members))));
          };
        }

    pub begins_outside : SameOutside 0 work_end v w
    begins_outside =
        outside_again (outside_wider (filled_outside v a long behind) 0 work_end (omega arith) (omega arith))
        (outside_again (outside_wider cleared.outside 0 work_end (omega arith) (omega arith))
        (outside_wider seeded.inside 0 work_end (omega arith) (omega arith)))
