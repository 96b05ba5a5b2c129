-- What the comparing call returns, and what it leaves in both slices.
use Rattle.answers.specs.Outcome.{Outcome}
use Rattle.std.specs.Prelude.{List, ℕ}
use Rattle.work_layout.specs.Report.{Compares, report_bytes}
use Rattle.answers.specs.declared.Reported.{Reported}
use Rattle.answers.specs.Returned.{returned}
use Rattle.call_frame.specs.Answered.{Answered}

-- This outcome was returned, and both slices are left as it asks: v became w, and `before` became `after`.
abbrev pub Compared : Compares → List ℕ → List ℕ → List ℕ → List ℕ → Outcome Reported → Type 0
Compared = Answered report_bytes returned
