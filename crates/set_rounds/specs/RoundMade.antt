-- What the answer after so many rounds over a set in the work slice returns and leaves in both slices.
use Rattle.report_bytes.specs.Outcome.{Outcome}
use Rattle.std.specs.Prelude.{List, ℕ}
use Rattle.sheet_types.specs.declared.Configuration as held
use Rattle.two_starts.specs.TwoStarts.{PairMade}
use Rattle.after_rounds.specs.AfterRounds.{after_on, after_bytes}
use Rattle.after_rounds.specs.AfterRoundsRead.{afters_returned}
use Rattle.after_rounds.specs.declared.Reached.{Reached}

-- The work slice v became w, the answer slice `before` became `after`, and `answer` was returned: document 02's outcome after k rounds,
-- whatever closed set with both starts stands in v; nothing behind the work places is changed.
abbrev pub RoundMade : ℕ → List ℕ → List ℕ → ℕ → ℕ → held.Configuration → held.Configuration → List ℕ → List ℕ → Outcome Reached → Type 0
RoundMade k = PairMade after_bytes afters_returned (λ sheet set p q. after_on sheet set k p q)
