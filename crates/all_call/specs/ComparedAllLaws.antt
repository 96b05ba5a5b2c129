-- From the set that the call begins with, and the grouping over it, to the outcome of the call.
use Rattle.std.specs.Prelude.{◌≡◌, ℕ, ◌≤◌, ◌<◌, length, get_or, Ok, Err}
use Rattle.std.proofs.Math.Path.{refl}
use Rattle.std.proofs.Common.{subst, arith}
use mathlib.Core.List.{List, [], Memᴰ}
use Rattle.collected_moves.specs.ListPlaces.{get_d_in}
use Rattle.call_frame.specs.Sheet as spec
use Rattle.work_layout.specs.CallLimits.{Limits}
use Rattle.work_layout.specs.Set.{explored}
use Rattle.work_layout.specs.Outcome.{cleared, Outcome, refusal, reported}
use Rattle.set_grouping.specs.SetLaws.{fits_not_over, explored_closed, explored_ascends, explored_seeds}
use Rattle.work_layout.specs.WorkLayout.{work_end}
use Rattle.set_grouping.specs.RoundLayout.{held_found}
use Rattle.refusals.specs.Numbers.{number}
use Rattle.refusals.specs.declared.Refused.{Refused}
use Rattle.call_frame.specs.SetSize.{SetSize}
use Rattle.call_frame.specs.declared.AllStarted.{AllStarted}
use Rattle.call_frame.specs.Begun.{StartsListed, AllBegun}
use Rattle.call_frame.specs.BegunLaws.{sheet_read_lem, GoesOn, begun_on}
use Rattle.call_frame.specs.Answered.{made_on, answered, answered_refused, answered_made}
use Rattle.set_grouping.specs.GroupingMade.{AllHeld, GroupingReady, GroupingMade}
use Rattle.all_starts.specs.Grouping.{Groups, grouping_on, grouping_bytes, compare_all_with}
use Rattle.all_starts.specs.GroupingRead.{groups_returned}
use Rattle.all_starts.specs.declared.Grouped.{Grouped}
use Rattle.all_call.specs.ComparedAll.{ComparedAll}

-- the seeds are all starts
abbrev all_starts : spec.Sheet → List spec.Configuration
all_starts sheet = sheet.starts

module _ (l : Limits) (bytes : List ℕ) where
  -- the call is the grouping, within the frame of every call
  all_framed : (work room : ℕ) → answered grouping_bytes groups_returned grouping_on (sheet_read_lem bytes) l all_starts work room ≡ compare_all_with l bytes work room
  unfolding compare_all_with
  all_framed work room = refl

  module _ (v before w : List ℕ) (r : AllStarted) (x : AllBegun l bytes v w r) where
    -- the call is refused before anything is done with a set
    pub all_call_refused : {e : Refused} → r.begun ≡ Err e
        → ComparedAll (compare_all_with l bytes (length v) (length before)) v before w before (refusal (number e.refusal) e.place)
    all_call_refused {e} is =
        subst (λ (o : Groups). ComparedAll o v before w before (refusal (number e.refusal) e.place)) (all_framed (length v) (length before))
        (answered_refused grouping_bytes groups_returned grouping_on (sheet_read_lem bytes) l all_starts x.begun is)

    module _ {size : SetSize} (is : r.begun ≡ Ok size) where
      abbrev n : ℕ
      n = size.members

      abbrev m : ℕ
      m = size.moves

      on : GoesOn (made_on grouping_bytes groups_returned grouping_on (sheet_read_lem bytes) l all_starts (length before)) (sheet_read_lem bytes) l all_starts v w n m
      on = begun_on (made_on grouping_bytes groups_returned grouping_on (sheet_read_lem bytes) l all_starts (length before)) (sheet_read_lem bytes) l all_starts x.begun is

      starts : StartsListed on.sheet.starts r
      starts = x.starts on.sheet on.end on.read

      abbrev set : List spec.Configuration
      set = explored on.sheet l on.sheet.starts

      -- a sheet has starts, and so the set has a member
      some : 0 < n
      some =
          let first : spec.Configuration = get_or on.sheet.starts 0 (record { store = 0; threads = [] }) in
          let there : Memᴰ first on.sheet.starts =
          get_d_in on.sheet.starts 0 (record { store = 0; threads = [] }) (omega (arith, on.fine.within.some_starts)) in
          omega (arith, (held_found on.sheet set w n m on.whole.held first (explored_seeds on.sheet l on.sheet.starts first there)).0)

      all_held : AllHeld on.sheet set w n m r.starts r.count
      all_held =
          let sheet : spec.Sheet = on.sheet in
          record {
            ready = record {
              held = on.whole.held;
              wf = on.fine.well_formed;
              closed = explored_closed sheet l sheet.starts (fits_not_over sheet l sheet.starts on.whole.fit);
              ascends = explored_ascends sheet l sheet.starts;
              some = some;
            };
            listed = starts.listed;
            there = explored_seeds sheet l sheet.starts;
          }

      -- the grouping can be made
      pub all_call_ready : GroupingReady w n m r.starts r.count
      all_call_ready =
          record { sheet = on.sheet; set = set; all = all_held; count = starts.few; threads = starts.threads }

      -- the work slice can be cleared after it
      pub all_call_room : {z after : List ℕ} {a : Outcome Grouped} → GroupingMade w before n m r.starts r.count z after a → work_end ≤ length z
      all_call_room made = omega (arith, on.long, on.whole.outside.long, made.outside.long)

      -- and is the outcome
      pub all_call_given : {z after u : List ℕ} {a : Outcome Grouped} → GroupingMade w before n m r.starts r.count z after a → u ≡ cleared z
          → ComparedAll (compare_all_with l bytes (length v) (length before)) v before u after a
      all_call_given {after = after} {u} {a} made c =
          subst (λ (o : Groups). ComparedAll o v before u after a) (all_framed (length v) (length before))
          (answered_made grouping_bytes groups_returned grouping_on (sheet_read_lem bytes) l all_starts on (made.answers on.sheet set all_held)
          (made.bytes on.sheet set all_held) made.outside c)

-- the call within caps is the call within the limits that they stand for
pub compared_all_at : {k l : Limits} → k ≡ l → (bytes : List ℕ) {v before w after : List ℕ} {a : Outcome Grouped}
    → ComparedAll (compare_all_with k bytes (length v) (length before)) v before w after a
    → ComparedAll (compare_all_with l bytes (length v) (length before)) v before w after a
compared_all_at e bytes {v} {before} {w} {after} {a} c =
    subst (λ (l : Limits). ComparedAll (compare_all_with l bytes (length v) (length before)) v before w after a) e c
