-- What writing the text of a report from its bytes does.
use Rattle.std.specs.Prelude.{◌≡◌, Bool, true, false, List, ◌++◌, ℕ, ◌+◌, ◌*◌, ◌≤◌, length, take, drop}
use Rattle.report_fields.specs.Report.{Verdict, SAME, DIFF, Report, report_bytes, report_length}
use Rattle.report_fields.specs.Outcome.{reported}
use Rattle.report_fields.specs.Print.{printed}
use Rattle.answer_laws.specs.Fitting.{Fitting}
use Rattle.text.specs.Slices.{Stored}
use Rattle.report_text.specs.AnswerText.{members_text, members_end, answer_text}
use Rattle.report_text.specs.declared.Reached.{Reached}

-- the lines of n members were stored from a place on
pub record MembersWritten (s : List ℕ) (n : ℕ) (before : List ℕ) (at : ℕ) (after : List ℕ) (r : Reached) : Type 0 where
  pub text : Stored before at (members_text s n) after r.at
  pub short : r.at ≤ at + 64 * n
  pub from : r.from ≡ members_end s n
  pub near : r.from ≤ 2 + 13 * n

-- whether a verdict is SAME
abbrev pub is_same : Verdict → Bool
is_same SAME = true
is_same DIFF = false

-- The text of an answer was written, and its length is handed back. Where the answer begins with the bytes of a report that has
-- this verdict and this round, the text is the report's, and the bytes beyond it stay. The slice's first r bytes can be lent.
pub record ReportWritten (same : Bool) (round : ℕ) (answer before after : List ℕ) (r : ℕ) : Type 0 where
  pub count : r ≡ length (answer_text same round answer)
  pub slice : after ≡ answer_text same round answer ++ drop (length (answer_text same round answer)) before
  pub report : (q : Report) → Fitting q → same ≡ is_same q.verdict → round ≡ q.round → take (report_length q) answer ≡ report_bytes q
      → (r ≡ length (printed (reported q))) × (after ≡ printed (reported q) ++ drop (length (printed (reported q))) before)
  pub inside : r ≤ length after
  pub counted : r ≡ length (take r after)
