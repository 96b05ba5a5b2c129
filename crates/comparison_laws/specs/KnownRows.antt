-- In each row of the known cases what the definitions give is what document 01 says.
use Rattle.std.specs.Prelude.{◌≡◌, refl, Bool, true, false, T}
use mathlib.Core.List.{Memᴰ}
use Rattle.move_laws.specs.Lists.{all}
use Rattle.move_laws.specs.Members.{all_yes, same_equal}
use Rattle.comparison.specs.KnownCases.{Row, right, table, all_right}

holds_true : (b : Bool) → T b → b ≡ true
holds_true true h = refl
holds_true false h = absurd h

pub row_right_lem : (r : Row) → Memᴰ r table → r.computed ≡ r.wanted
row_right_lem r m = same_equal r.computed r.wanted (all_yes right table (holds_true (all right table) all_right) m)
