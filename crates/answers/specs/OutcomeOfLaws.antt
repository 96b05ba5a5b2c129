-- What a call returned can be told from its outcome: two values with one outcome are the same, as no two refusals have one number.
use Rattle.std.specs.Prelude.{◌≡◌, Ok, Err, ℕ}
use Rattle.std.proofs.Common.{ap, ap₂, arith}
use Rattle.refusals.specs.Numbers.{number}
use Rattle.refusals.specs.NumberLaws.{one_number}
use Rattle.refusals.specs.declared.Refusal.{Refusal}
use Rattle.refusals.specs.declared.Refused.{Refused}
use Rattle.answers.specs.OutcomeOf.{CallResult, outcome_of}

-- an error's number and place are its own
one_error : {e f : Refused} → number e.refusal ≡ number f.refusal → e.place ≡ f.place → e ≡ f
one_error n p = ap₂ (λ (r : Refusal) (k : ℕ). record { refusal = r; place = k }) (one_number n) p

pub one_returned : {A : Type 0} {r s : CallResult A} → outcome_of r ≡ outcome_of s → r ≡ s
one_returned {r = Ok x} {s = Ok y} e = let same : x ≡ y = cc in ap Ok same
one_returned {r = Ok x} {s = Err f} e = let z : ◌≡◌ {A = ℕ} 0 1 = cc in absurd (omega arith)
one_returned {r = Err d} {s = Ok y} e = let z : ◌≡◌ {A = ℕ} 0 1 = cc in absurd (omega arith)
one_returned {r = Err d} {s = Err f} e =
    let n : number d.refusal ≡ number f.refusal = cc in
    let p : d.place ≡ f.place = cc in
    ap Err (one_error n p)
