-- What is known of a report that agrees with the levels. That the levels are document 01's is tried and not proved.
use Rattle.std.specs.Prelude.{Option, Some, None, ℕ, ◌≤◌, ◌<◌}
use Rattle.level_check.specs.declared.Claim.{Claim}
use Rattle.level_check.specs.declared.Checked.{Checked}
use Rattle.level_check.specs.declared.Checked.TheVariants.{Agree, TooLarge, Members, Places, Verdict, Round, Classes}

-- the number of members listed: none, or at most 512
abbrev pub Listed : Option ℕ → Type 0
Listed None = Unit {0}
Listed (Some m) = m ≤ 512

-- both starts have places of members
pub record Placed (claim : Claim) : Type 0 where
  pub left : claim.left < 512
  pub right : claim.right < 512

-- A report agrees over at most 4,096 configurations, with both starts among the members, and at a round that is no later than the
-- last level, of 4,096 at most.
abbrev pub Agreed : Claim → Checked → Type 0
Agreed claim (Agree n last) = (n ≤ 4096) × (last < 4096) × (claim.round ≤ last) × Placed claim
Agreed claim TooLarge = Unit {0}
Agreed claim Members = Unit {0}
Agreed claim Places = Unit {0}
Agreed claim Verdict = Unit {0}
Agreed claim Round = Unit {0}
Agreed claim Classes = Unit {0}
