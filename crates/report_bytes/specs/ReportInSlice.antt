-- What the writer of a report asks of the work slice, and what agrees with a report of document 01.
use Rattle.std.specs.Prelude.{◌≡◌, List, map, ℕ, ◌≤◌, ◌<◌, length, get_or}
use Rattle.comparison_laws.specs.Lists.{Ascends}
use Rattle.work_layout.specs.Tabulate.{tabulate}
use Rattle.comparison_laws.specs.Sheet.{Configuration}
use Rattle.comparison_laws.specs.Orders.{configuration_before}
use Rattle.work_layout.specs.SetLayout.{set_in}
use Rattle.comparison_laws.specs.Classes.{place_of}
use Rattle.comparison_laws.specs.Trail.{TrailStep}
use Rattle.work_layout.specs.Report.{Report, side_byte, reply_number}
use Rattle.report_records.specs.RecordLayout.{PackedAt, side_in, label_in, target_in, reply_in}
use Rattle.work_layout.specs.WorkLayout.{work_end, member_room}
use Rattle.work_layout.specs.ClassLayout.{class_in}

-- n members can be read from the slice
pub record MembersHeld (w : List ℕ) (n : ℕ) : Type 0 where
  pub long : work_end ≤ length w
  pub few : n ≤ member_room
  pub packed : (i : ℕ) → i < n → PackedAt w i

-- k steps can be read from the slice, their sides as bytes
pub record StepsHeld (w : List ℕ) (k : ℕ) : Type 0 where
  pub long : work_end ≤ length w
  pub few : k ≤ member_room
  pub sides : (i : ℕ) → i < k → side_in w i < 256

-- a report of n members and k steps can be read from the slice
pub record ReportHeld (w : List ℕ) (n k : ℕ) : Type 0 where
  pub members : MembersHeld w n
  pub steps : StepsHeld w k

-- the four numbers of a step
pub record StepNumbers : Type 0 where
  pub side : ℕ
  pub label : ℕ
  pub target : ℕ
  pub reply : ℕ

-- the numbers of step i in the slice
abbrev pub step_in : List ℕ → ℕ → StepNumbers
step_in w i = record { side = side_in w i; label = label_in w i; target = target_in w i; reply = reply_in w i }

-- the numbers of a step over a set of members
abbrev pub step_numbers : List Configuration → TrailStep → StepNumbers
step_numbers set s =
    record { side = side_byte s.side; label = s.label; target = place_of set s.target; reply = reply_number set s.reply }

-- the slice has these members in their order, with these classes
pub record MembersAgree (members : List Configuration) (numbers w : List ℕ) (n : ℕ) : Type 0 where
  pub set : set_in w n ≡ members
  pub ascending : Ascends configuration_before members
  pub classes : (i : ℕ) → i < n → class_in w i ≡ get_or numbers i 0

-- the slice has a report's members with their classes, and its steps
pub record Agrees (r : Report) (w : List ℕ) (n k : ℕ) : Type 0 where
  pub listed : MembersAgree r.members r.classes w n
  pub steps : tabulate (step_in w) k ≡ map (step_numbers r.members) r.steps
