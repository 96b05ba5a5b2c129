-- The verdict that goes with the round that separates two members, and with the classes of one round.
use Rattle.std.specs.Prelude.{Bool, cond, ℕ, ◌-◌, eqb}
use Rattle.answers.specs.declared.Reported.{Reported}
use Rattle.after_rounds.specs.AfterRounds.{Verdict, SAME, DIFF, OPEN}

-- the verdict on two members that are first separated in round `apart` of `last` rounds, and the round that goes with it
abbrev pub verdict_on : ℕ → ℕ → ℕ → ℕ → ℕ → Reported
verdict_on apart last left right size =
    record { same = eqb apart last; round = cond (eqb apart last) (last - 1) apart; left = left; right = right; length = size }

-- the verdict on two members that a round has together or not, where `last` says whether the round equals its successor
abbrev pub verdict_in : Bool → Bool → Verdict
verdict_in together last = cond together (cond last SAME OPEN) DIFF
