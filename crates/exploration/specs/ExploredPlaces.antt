-- Places of the order whose members are explored.
use Rattle.std.specs.Prelude.{◌≡◌, refl, Bool, true, false, List, ℕ, ◌≤◌, ◌<◌, ltb}
use Rattle.std.proofs.Common.{sym, subst, arith, ltb-true, ltb-false}
use Rattle.member_table.specs.MemberTable.{id_in}
use Rattle.member_table.specs.MemberLaws.{id_placed}
use Rattle.collected_moves.specs.declared.Running.{Running}
use Rattle.collected_moves.specs.CollectedMoves.{member_part}
use Rattle.collected_moves.specs.CollectedLaws.{collecting_empty}
use Rattle.walk_state.specs.SetGrowth.{Growth}
use Rattle.exploration.specs.declared.Plan.{Plan}
use Rattle.unexplored_members.specs.UnexploredMembers.{IsExplored, NextPlace}
use Rattle.exploration.specs.Exploration.{Exploring, ExploredFor}

-- the running numbers with another lowest place
abbrev pub from_low : Running → ℕ → Running
from_low s j = record { members = s.members; moves = s.moves; low = j }

module _ {w : List ℕ} {plan : Plan} {s : Running} {j : ℕ} (e : Exploring w plan s) (p : NextPlace w s.low s.members j) where
  passed_all : (i : ℕ) → i < j → (i < s.members) × IsExplored w (id_in (member_part w) i)
  passed_all i h = go (ltb i s.low) refl
    where
      go : (b : Bool) → ltb i s.low ≡ b → (i < s.members) × IsExplored w (id_in (member_part w) i)
      go true q = e.low i (ltb-true i s.low q)
      go false q = (omega (arith, p.within.1), p.passed i (ltb-false i s.low q) h)

  -- the places below j are passed
  pub exploring_from : Exploring w plan (from_low s j)
  exploring_from =
      record {
        collecting =
            collecting_empty w (from_low s j) plan.caps e.collecting.long e.collecting.caps e.collecting.kept e.collecting.room.0
            e.collecting.room.2;
        fit = e.fit;
        few_facts = e.few_facts;
        table = e.table;
        spans = e.spans;
        unused = e.unused;
        apart = e.apart;
        low = passed_all;
      }

  -- no place is left: every member is explored
  pub all_explored : j ≡ s.members → (id : ℕ) → id < s.members → IsExplored w id
  all_explored q id h =
      let i = id_placed (member_part w) s.members e.collecting.kept id h in
      subst (λ (n : ℕ). IsExplored w n) (sym i.2) (passed_all i.0 (omega (arith, i.1, q))).1

module _ {w : List ℕ} {plan : Plan} {s : Running} (e : Exploring w plan s) where
  -- the lowest place is one of the members' or just behind them
  pub low_within : s.low ≤ s.members
  low_within = go (ltb s.members s.low) refl
    where
      go : (b : Bool) → ltb s.members s.low ≡ b → s.low ≤ s.members
      go true q = absurd (omega (arith, (e.low s.members (ltb-true s.members s.low q)).0))
      go false q = ltb-false s.members s.low q

  -- the same set with another lowest place
  pub explored_for_from : {g : Growth} (j : ℕ) → ExploredFor g w s → ExploredFor g w (from_low s j)
  explored_for_from j f =
      record {
        members_in_lem = f.members_in_lem;
        seeds_in = f.seeds_in;
        done = λ id h i. let q = f.done id h i in record { moves_are = q.moves_are; additions = q.additions };
        counted = record {
          all = f.counted.all;
          distinct = f.counted.distinct;
          count = f.counted.count;
          only = f.counted.only;
          whole = f.counted.whole;
        };
      }
