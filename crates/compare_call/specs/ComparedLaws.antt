-- The comparing call is what is made of the set of two starts, within the frame of every call.
use Rattle.answers.specs.Outcome.{Outcome}
use Rattle.std.specs.Prelude.{◌≡◌, List, ℕ, length}
use Rattle.std.proofs.Common.{subst}
use Rattle.work_layout.specs.CallLimits.{Limits}
use Rattle.work_layout.specs.Report.{report_on, report_bytes}
use Rattle.answers.specs.Call.{compare_with}
use Rattle.answers.specs.declared.Reported.{Reported}
use Rattle.answers.specs.Returned.{returned}
use Rattle.pair_calls.specs.PairAnswered.{pair_answered}
use Rattle.compare_call.specs.Compared.{Compared}

-- what any call on two starts gives is the comparing call's outcome, where a report is what it makes
pub compared_pair : (l : Limits) (bytes : List ℕ) (left right : ℕ) {v before w after : List ℕ} {a : Outcome Reported}
    → Compared (pair_answered report_bytes returned report_on l bytes left right (length v) (length before)) v before w after a
    → Compared (compare_with l bytes left right (length v) (length before)) v before w after a
unfolding compare_with
compared_pair l bytes left right c = c

-- the call within caps is the call within the limits that they stand for
pub compared_at : {k l : Limits} → k ≡ l → (bytes : List ℕ) (left right : ℕ) {v before w after : List ℕ} {a : Outcome Reported}
    → Compared (compare_with k bytes left right (length v) (length before)) v before w after a
    → Compared (compare_with l bytes left right (length v) (length before)) v before w after a
compared_at e bytes left right {v} {before} {w} {after} {a} c =
    subst (λ (l : Limits). Compared (compare_with l bytes left right (length v) (length before)) v before w after a) e c
