-- What the comparing call returns of document 01's outcome.
use Rattle.std.specs.Prelude.{Bool, true, false}
use Rattle.comparison.specs.Report as spec
use Rattle.comparison.specs.Report.{Verdict, SAME, DIFF, report_length, Compares}
use Rattle.comparison.specs.Outcome.{reported, refusal, Outcome}
use Rattle.answers.specs.declared.Reported.{Reported}

-- whether a verdict is SAME
abbrev pub is_same : Verdict → Bool
is_same SAME = true
is_same DIFF = false

-- what the call returns of a report
abbrev pub returned_of : spec.Report → Reported
returned_of r =
    record { same = is_same r.verdict; round = r.round; left = r.left_place; right = r.right_place; length = report_length r }

-- what the call returns of an outcome
abbrev pub returned : Compares → Outcome Reported
returned (reported r) = reported (returned_of r)
returned (refusal number place) = refusal number place
