-- The promise fixes the call: of the same input, what two calls that keep it return and leave in both slices is the same.
use Rattle.answers.specs.Outcome.{Outcome}
use Rattle.std.specs.Prelude.{List, ℕ, length}
use Rattle.answers.specs.CallLimits.{Limits}
use Rattle.compare_call.specs.CallTheorem.{call_gives}
use Rattle.answers.specs.OutcomeOf.{CallResult, outcome_of}
use Rattle.answers.specs.OutcomeOfLaws.{one_returned}
use Rattle.answers.specs.declared.Reported.{Reported}
use Rattle.promise_laws.specs.CallPromise.{CallPromise, ReturnedPromise}
use Rattle.promise_laws.specs.TwoCalls.{OneCall}
use Rattle.promise_laws.specs.PromiseAlone as every
use Rattle.promise_laws.specs.PromiseLower.{one_call}
use Rattle.call_theorem.specs.TwoCallLaws.{report_fixes}

-- nothing that is returned or left is free
pub promise_alone : (l : Limits) (bytes : List ℕ) (left right : ℕ) (v before : List ℕ) {w after : List ℕ} {answer : Outcome Reported} {w2 after2 : List ℕ} {answer2 : Outcome Reported}
    → CallPromise l bytes left right v before w after answer → CallPromise l bytes left right v before w2 after2 answer2
    → OneCall w after answer w2 after2 answer2
promise_alone l bytes left right v before a b =
    one_call (every.promise_alone (call_gives l bytes left right (length v) (length before)) (λ x. report_fixes l l bytes left right) a b)

-- two calls that did the same by their outcomes returned the same
pub returned_same : {A : Type 0} {w after : List ℕ} {r : CallResult A} {w2 after2 : List ℕ} {r2 : CallResult A}
    → OneCall w after (outcome_of r) w2 after2 (outcome_of r2) → OneCall w after r w2 after2 r2
returned_same {r = r} {r2 = r2} o = record { answers = one_returned {r = r} {s = r2} o.answers; bytes = o.bytes; works = o.works }

-- so the promise fixes the value that the code returns
pub returned_alone : (l : Limits) (bytes : List ℕ) (left right : ℕ) (v before : List ℕ) {w after : List ℕ} {r : CallResult Reported} {w2 after2 : List ℕ} {r2 : CallResult Reported}
    → ReturnedPromise l bytes left right v before w after r → ReturnedPromise l bytes left right v before w2 after2 r2 → OneCall w after r w2 after2 r2
returned_alone l bytes left right v before {r = r} {r2 = r2} a b = returned_same {r = r} {r2 = r2} (promise_alone l bytes left right v before a b)
