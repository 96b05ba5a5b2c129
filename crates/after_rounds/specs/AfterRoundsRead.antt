-- An answer after so many rounds read back from what the call returned and from the answer's bytes, and what the call returns of an outcome.
use Rattle.std.specs.Prelude.{List, ℕ, length, drop}
use Rattle.answers.specs.SheetBytes.{word}
use Rattle.answers.specs.Classes.{class_total}
use Rattle.answers.specs.Outcome.{reported, refusal, Outcome}
use Rattle.answers.specs.ReadBack.{members_read, classes_read}
use Rattle.after_rounds.specs.AfterRounds as spec
use Rattle.after_rounds.specs.AfterRounds.{AfterRounds, SAME, DIFF, OPEN, after_length, Afters}
use Rattle.after_rounds.specs.declared.Verdict.{Verdict}
use Rattle.after_rounds.specs.declared.Verdict.TheVariants.{Same, Diff, Open}
use Rattle.after_rounds.specs.declared.Reached.{Reached}

-- ---- what is returned
abbrev pub verdict_returned : spec.Verdict → Verdict
verdict_returned SAME = Same
verdict_returned DIFF = Diff
verdict_returned OPEN = Open

-- the verdict, the number of classes, the set's size, the length in bytes
abbrev pub reached_of : AfterRounds → Reached
reached_of a =
    record { verdict = verdict_returned a.verdict; classes = class_total a.classes; members = length a.members; length = after_length a }

abbrev pub afters_returned : Afters → Outcome Reached
afters_returned (reported a) = reported (reached_of a)
afters_returned (refusal number place) = refusal number place

-- ---- what is read back
abbrev pub verdict_read : Verdict → spec.Verdict
verdict_read Same = SAME
verdict_read Diff = DIFF
verdict_read Open = OPEN

-- the verdict that was returned; from the bytes a count of members, and the members with their classes
abbrev pub after_read : Reached → List ℕ → AfterRounds
after_read x answer =
    let n = word answer 0 in
    record { verdict = verdict_read x.verdict; members = members_read n (drop 2 answer); classes = classes_read n (drop 2 answer) }
