-- Members explored one after another: what holds between two of them, at the end, and where a cap is passed.
use Rattle.std.specs.Prelude.{◌≡◌, refl, Bool, true, false, cond, List, ℕ, eqb}
use Rattle.std.proofs.Common.{sym, subst, arith, eqb-true}
use Rattle.work_layout.specs.Frames.{SameOutside, outside_same, outside_again}
use Rattle.sheet_types.specs.Sheet.{Node}
use Rattle.ask_labels.specs.declared.Shelf.{Shelf}
use Rattle.ask_labels.specs.LabelShelf.{Shelved, no_entries}
use Rattle.ask_labels.specs.LabelShelfLaws.{shelved_none}
use Rattle.collected_moves.specs.declared.Running.{Running}
use Rattle.walk_state.specs.SetGrowth.{Growth}
use Rattle.exploration.specs.declared.Plan.{Plan}
use Rattle.unexplored_members.specs.UnexploredMembers.{NextPlace}
use Rattle.exploration.specs.Exploration.{Exploring, ExploredFor}
use Rattle.exploration.specs.ExplorationSteps.{OnPlan, store_in, MemberOn, ExploredOver, ExploredOn}
use Rattle.exploration.specs.MemberExplored.{plan_kept}
use Rattle.exploration.specs.ExploredPlaces.{from_low, explored_for_from, all_explored}
use Rattle.work_layout.specs.WorkLayout.{work_end, spans_at}

-- the shelf for a store: the one there is where the store is the same, else one with no entries
pub shelf_fits : (w : List ℕ) (facts store d : ℕ) (shelf r : Shelf) → Shelved w facts store shelf → r ≡ cond (eqb store d) shelf no_entries
    → Shelved w facts d r
shelf_fits w facts store d shelf r h e = subst (Shelved w facts d) (sym e) (go (eqb store d) refl)
  where
    go : (b : Bool) → eqb store d ≡ b → Shelved w facts d (cond b shelf no_entries)
    go true q = subst (λ (n : ℕ). Shelved w facts n shelf) (eqb-true store d q) h
    go false q = shelved_none w facts d

-- between two members
pub record Explores (nodes : List Node) (plan : Plan) (v : List ℕ) (s : Running) (w : List ℕ) (t : Running) (shelf : Shelf) (store : ℕ) : Type 0 where
  pub exploring : Exploring w plan t
  pub shelved : Shelved w plan.facts store shelf
  pub outside : SameOutside spans_at work_end v w
  pub explored_for : (g : Growth) → OnPlan g nodes plan v → ExploredFor g v s → ExploredFor g w t

module _ (nodes : List Node) (plan : Plan) (v : List ℕ) (s : Running) (begins : Exploring v plan s) where
  -- before the first
  pub explores_none : (store : ℕ) → Explores nodes plan v s v s no_entries store
  explores_none store =
      record {
        exploring = begins;
        shelved = shelved_none v plan.facts store;
        outside = outside_same spans_at work_end v;
        explored_for = λ g o e. e;
      }

  module _ (w : List ℕ) (t : Running) (shelf : Shelf) (store : ℕ) (h : Explores nodes plan v s w t shelf store) (j : ℕ)
      (p : NextPlace w t.low t.members j) where
    -- after the last
    pub explores_all : j ≡ t.members → ExploredOn nodes plan v s w t
    explores_all e =
        record {
          exploring = h.exploring;
          all = all_explored h.exploring p e;
          outside = h.outside;
          explored_for = h.explored_for;
        }

    on_plan : (g : Growth) → OnPlan g nodes plan v → OnPlan g nodes plan w
    on_plan g o = plan_kept begins (omega arith) h.outside o

    for_place : (g : Growth) → OnPlan g nodes plan v → ExploredFor g v s → ExploredFor g w (from_low t j)
    for_place g o e = explored_for_from h.exploring j (h.explored_for g o e)

    -- the member at place j passes a cap
    pub explores_over : (z : List ℕ) → ExploredOver nodes plan w (from_low t j) z → ExploredOver nodes plan v s z
    explores_over z x =
        record {
          passes = λ g o e. x.passes g (on_plan g o) (for_place g o e);
          outside = outside_again h.outside x.outside;
        }

    -- it is explored
    pub explores_next : (id : ℕ) (z : List ℕ) (u : Running) (kept : Shelf) (d : ℕ) → d ≡ store_in w id
        → MemberOn nodes plan w (from_low t j) id z u kept → Explores nodes plan v s z u kept d
    explores_next id z u kept d e x =
        record {
          exploring = x.exploring;
          shelved = subst (λ (n : ℕ). Shelved z plan.facts n kept) (sym e) x.shelved;
          outside = outside_again h.outside x.outside;
          explored_for = λ g o f. x.explored_for g (on_plan g o) (for_place g o f);
        }
