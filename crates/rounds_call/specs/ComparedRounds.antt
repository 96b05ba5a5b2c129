-- What the call for so many rounds returns, and what it leaves in both slices.
use Rattle.call_frame.specs.Outcome.{Outcome}
use Rattle.std.specs.Prelude.{List, ℕ}
use Rattle.call_frame.specs.Answered.{Answered}
use Rattle.after_rounds.specs.AfterRounds.{Afters, after_bytes}
use Rattle.after_rounds.specs.AfterRoundsRead.{afters_returned}
use Rattle.after_rounds.specs.declared.Reached.{Reached}

-- This outcome was returned, and both slices are left as it asks: v became w, and `before` became `after`.
abbrev pub ComparedRounds : Afters → List ℕ → List ℕ → List ℕ → List ℕ → Outcome Reached → Type 0
ComparedRounds = Answered after_bytes afters_returned
