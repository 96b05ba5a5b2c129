-- What the call for all starts returns, and what it leaves in both slices.
use Rattle.call_frame.specs.Outcome.{Outcome}
use Rattle.std.specs.Prelude.{List, ℕ}
use Rattle.call_frame.specs.Answered.{Answered}
use Rattle.all_starts.specs.Grouping.{Groups, grouping_bytes}
use Rattle.all_starts.specs.GroupingRead.{groups_returned}
use Rattle.all_starts.specs.declared.Grouped.{Grouped}

-- This outcome was returned, and both slices are left as it asks: v became w, and `before` became `after`.
abbrev pub ComparedAll : Groups → List ℕ → List ℕ → List ℕ → List ℕ → Outcome Grouped → Type 0
ComparedAll = Answered grouping_bytes groups_returned
