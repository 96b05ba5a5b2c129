-- What an answer must be so that its bytes hold it: its numbers fit their bytes, and what a report's steps name is on its list.
use Rattle.std.specs.Prelude.{◌≡◌, ℕ, ◌≤◌, ◌<◌, length, get_or}
use mathlib.Core.List.{List, Memᴰ}
use Rattle.comparison_laws.specs.Lists.{Ascends}
use Rattle.answers.specs.SheetLimits.{max_threads}
use Rattle.comparison_laws.specs.Sheet.{Configuration}
use Rattle.comparison_laws.specs.Orders.{configuration_before}
use Rattle.comparison_laws.specs.CallLimits.{limits}
use Rattle.comparison_laws.specs.Trail.{Reply, none, move, TrailStep}
use Rattle.answers.specs.Report.{Report}

-- a reply has the step's label and leads to a member
abbrev pub ReplyFits : List Configuration → ℕ → Reply → Type 0
ReplyFits set label none = Unit {0}
ReplyFits set label (move k) = (k.label ≡ label) × Memᴰ k.target set

pub record StepFits (set : List Configuration) (t : TrailStep) : Type 0 where
  pub label : t.label < 65536
  pub target : Memᴰ t.target set
  pub reply : ReplyFits set t.label t.reply

-- members in their order, with a class each
pub record MembersFit (members : List Configuration) (numbers : List ℕ) : Type 0 where
  pub ordered : Ascends configuration_before members
  pub stores : (p : Configuration) → Memᴰ p members → p.store < 65536
  pub threads : (p : Configuration) → Memᴰ p members → length p.threads ≤ max_threads
  pub numbered : length numbers ≡ length members
  pub classes : (i : ℕ) → i < length members → get_or numbers i 0 < 65536
  pub few : length members ≤ limits.members

pub record Fitting (q : Report) : Type 0 where
  pub listed : MembersFit q.members q.classes
  pub steps : (t : TrailStep) → Memᴰ t q.steps → StepFits q.members t
  pub few_steps : length q.steps ≤ limits.members
