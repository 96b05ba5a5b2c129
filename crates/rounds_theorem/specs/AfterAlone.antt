-- The promise fixes the call for so many rounds: of the same input, what two calls that keep it return and leave in both slices is the
-- same.
use Rattle.answers.specs.Outcome.{Outcome}
use Rattle.std.specs.Prelude.{◌≡◌, List, ℕ, length}
use Rattle.answers.specs.CallLimits.{Limits}
use Rattle.answers.specs.OutcomeOf.{CallResult}
use Rattle.answers.specs.OutcomeOfLaws.{one_returned}
use Rattle.promise_laws.specs.PromiseAlone.{promise_alone}
use Rattle.after_rounds.specs.AfterRoundsPromise.{RoundsPromise, RoundsReturnedPromise}
use Rattle.after_rounds.specs.declared.Reached.{Reached}
use Rattle.rounds_theorem.specs.AfterTheorem.{after_decides}
use Rattle.rounds_theorem.specs.TwoLimits.{answer_fixes}

-- nothing that is returned or left is free
pub after_alone : (l : Limits) (bytes : List ℕ) (left right k : ℕ) (v before : List ℕ) {w after : List ℕ} {answer : Outcome Reached} {w2 after2 : List ℕ}
    {answer2 : Outcome Reached} → RoundsPromise l bytes left right k v before w after answer → RoundsPromise l bytes left right k v before w2 after2 answer2
    → (answer ≡ answer2) × (after ≡ after2) × (w ≡ w2)
after_alone l bytes left right k v before a b =
    promise_alone (after_decides l bytes left right k (length v) (length before)) (λ x. answer_fixes l l bytes left right k) a b

-- so the promise fixes the value that the code returns
pub after_returned_alone : (l : Limits) (bytes : List ℕ) (left right k : ℕ) (v before : List ℕ) {w after : List ℕ} {r : CallResult Reached} {w2 after2 : List ℕ}
    {r2 : CallResult Reached} → RoundsReturnedPromise l bytes left right k v before w after r
    → RoundsReturnedPromise l bytes left right k v before w2 after2 r2 → (r ≡ r2) × (after ≡ after2) × (w ≡ w2)
after_returned_alone l bytes left right k v before {r = r} {r2 = r2} a b =
    let o = after_alone l bytes left right k v before a b in (one_returned {r = r} {s = r2} o.0, o.1, o.2)
