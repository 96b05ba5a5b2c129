-- What the report on a set in the work slice returns and leaves in both slices.
use Rattle.answers.specs.Outcome.{Outcome}
use Rattle.std.specs.Prelude.{List, ℕ}
use Rattle.sheet_types.specs.declared.Configuration as held
use Rattle.answers.specs.Report.{report_on, report_bytes}
use Rattle.answers.specs.declared.Reported.{Reported}
use Rattle.answers.specs.Returned.{returned}
use Rattle.two_starts.specs.TwoStarts.{PairMade}

-- The work slice v became w, the answer slice `before` became `after`, and `answer` was returned: document 01's outcome, whatever
-- closed set with both starts stands in v; nothing behind the work places is changed.
abbrev pub ReportMade : List ℕ → List ℕ → ℕ → ℕ → held.Configuration → held.Configuration → List ℕ → List ℕ → Outcome Reported → Type 0
ReportMade = PairMade report_bytes returned report_on
