-- The classes of a set's members in the work slice, and the births of classes.
use Rattle.std.specs.Prelude.{List, ℕ, ◌+◌, ◌/◌, ◌%◌, get_or}
use Rattle.packing.specs.Tabulate.{tabulate}
use Rattle.work_layout.specs.WorkLayout.{classes_at, births_at}

-- the class of the member at place i
abbrev pub class_in : List ℕ → ℕ → ℕ
class_in w i = get_or w (classes_at + i) 0

-- the classes of n members
abbrev pub classes_in : List ℕ → ℕ → List ℕ
classes_in w n = tabulate (class_in w) n

-- the round that class c was born in
abbrev pub born_in : List ℕ → ℕ → ℕ
born_in w c = get_or w (births_at + c) 0 % 65536

-- the class that class c came from
abbrev pub from_in_lem : List ℕ → ℕ → ℕ
from_in_lem w c = get_or w (births_at + c) 0 / 65536
