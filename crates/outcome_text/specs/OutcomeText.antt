-- What printing the call's answer does.
use Rattle.std.specs.Prelude.{◌≡◌, List, [], ◌∷◌, ◌++◌, ℕ, ◌≤◌, length, take, drop}
use Rattle.text.specs.Lines.{line, refused_word}
use Rattle.answers.specs.Report.{report_bytes, report_length, Compares}
use Rattle.answers.specs.Outcome.{reported, refusal, Outcome}
use Rattle.answers.specs.Print.{printed}
use Rattle.report_text.specs.Fitting.{Fitting}
use Rattle.report_text.specs.AnswerText.{answer_text}
use Rattle.answers.specs.declared.Reported.{Reported}
use Rattle.answers.specs.Returned.{returned}
use Rattle.outcome_text.specs.TextRoom.{text_length, text_written}

-- the text of what was returned, whatever the answer's bytes are: of a report by those bytes, of a refusal its line
abbrev pub answered_text : Outcome Reported → List ℕ → List ℕ
answered_text (reported x) answer = answer_text x.same x.round answer
answered_text (refusal number place) answer = line refused_word (number ∷ place ∷ [])

-- where the outcome is a report, it fits its bytes, and the answer begins with them
abbrev pub Printable : Compares → List ℕ → Type 0
Printable (reported q) answer = Fitting q × (take (report_length q) answer ≡ report_bytes q)
Printable (refusal number place) answer = Unit {0}

-- The text of what the call returned was written, and its length is handed back. It is the text of every outcome that is returned so
-- and answered so. The bytes beyond it stay, and the slice's first k bytes can be lent.
pub record OutcomeWritten (r : Outcome Reported) (answer before after : List ℕ) (k : ℕ) : Type 0 where
  pub slice : after ≡ text_written (answered_text r answer) before
  pub long : k ≡ text_length (answered_text r answer) before
  pub text : (o : Compares) → r ≡ returned o → Printable o answer → after ≡ text_written (printed o) before
  pub count : (o : Compares) → r ≡ returned o → Printable o answer → k ≡ text_length (printed o) before
  pub inside : k ≤ length after
  pub counted : k ≡ length (take k after)

-- the same where there is room
pub record OutcomeStored (r : Outcome Reported) (answer before after : List ℕ) (k : ℕ) : Type 0 where
  pub slice : after ≡ answered_text r answer ++ drop (length (answered_text r answer)) before
  pub long : k ≡ length (answered_text r answer)
  pub text : (o : Compares) → r ≡ returned o → Printable o answer → after ≡ printed o ++ drop (length (printed o)) before
  pub count : (o : Compares) → r ≡ returned o → Printable o answer → k ≡ length (printed o)
  pub inside : k ≤ length after
  pub counted : k ≡ length (take k after)
