-- Document 01, "Known sheets", what the program prints: starts 0 and 1 compared, with room for every report.
use Rattle.std.specs.Prelude.{◌≡◌, List, ℕ, ◌≤◌, length, take}
use Rattle.work_layout.specs.CallLimits.{limits, work_length, report_room}
use Rattle.answers.specs.Call.{compare}
use Rattle.answers.specs.Print.{printed}
use Rattle.outcome_text.specs.TextRoom.{text_length, text_written}

abbrev pub sheet_text : List ℕ → List ℕ
sheet_text bytes = printed (compare bytes 0 1 work_length (report_room limits))

-- That text was written, and its length is handed back. The bytes beyond it stay, and the slice's first k bytes can be lent.
pub record SheetWritten (bytes before after : List ℕ) (k : ℕ) : Type 0 where
  pub text : after ≡ text_written (sheet_text bytes) before
  pub count : k ≡ text_length (sheet_text bytes) before
  pub inside : k ≤ length after
  pub counted : k ≡ length (take k after)
