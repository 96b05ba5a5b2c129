-- How the members of a set stand in a lent slice: member i, in order of discovery, has three numbers from 3 i on, and from
-- table_ids on stand the members' ids in ascending order of configuration.
use Rattle.std.specs.Prelude.{List, ℕ, ◌+◌, ◌*◌, ◌≤◌, ◌<◌, length, get_or, take, drop}
use Rattle.packing.specs.Tabulate.{tabulate}
use Rattle.move_laws.specs.Lists.{Ascends}
use Rattle.move_laws.specs.Sheet.{Configuration}
use Rattle.packing.specs.Orders.{configuration_before}
use Rattle.packing.specs.declared.Numbers.{Numbers}
use Rattle.packing.specs.Packing.{stands_for, PackedIn}
use Rattle.work_layout.specs.WorkLayout.{table_ids, table_length, member_room}

-- the three numbers of member i
abbrev pub numbers_in : List ℕ → ℕ → Numbers
numbers_in w i = record { a = get_or w (3 * i) 0; b = get_or w (3 * i + 1) 0; c = get_or w (3 * i + 2) 0 }

-- member i, by discovery
abbrev pub member_in : List ℕ → ℕ → Configuration
member_in w i = stands_for (numbers_in w i)

-- the id of the member at place j of the order
abbrev pub id_in : List ℕ → ℕ → ℕ
id_in w j = get_or w (table_ids + j) 0

-- that member
abbrev pub placed_in : List ℕ → ℕ → Configuration
placed_in w j = member_in w (id_in w j)

-- the first n members, by discovery
abbrev pub members_in : List ℕ → ℕ → List Configuration
members_in w n = tabulate (member_in w) n

-- the same in their order
abbrev pub ordered_in : List ℕ → ℕ → List Configuration
ordered_in w n = tabulate (placed_in w) n

-- n members are kept, each once
pub record Kept (w : List ℕ) (n : ℕ) : Type 0 where
  pub room : n ≤ member_room
  pub long : table_length ≤ length w
  pub packed : (i : ℕ) → i < n → PackedIn (numbers_in w i)
  pub ids : (j : ℕ) → j < n → id_in w j < n
  pub ascends : Ascends configuration_before (ordered_in w n)

-- the part of a longer slice that holds members
abbrev pub part_at : List ℕ → ℕ → List ℕ
part_at w base = take table_length (drop base w)
