-- `layer` reads a table whose entries are all tested.
use mathlib.Core.Path.{◌≡◌, refl}
use mathlib.Core.Bool.{Bool, true}
use mathlib.Core.List.{List, [], ◌∷◌}
use Prim.Native.Nat.{ℕ, ◌<◌}
use native.Mathlib.Omega.{arith}
use lib.Dec.{eqb}
use lib.ListN.{get_or}
use borrow.Author.Rules.{rules}
use borrow.Author.Tests.{eqb-true}
use Rattle.place_sets.specs.Lists.{all}
use Rattle.place_sets.specs.Members.{all_yes}
use Rattle.set_digits.specs.FactSets.{digit}
use Rattle.set_digits.specs.Moves.{count_up}
use Rattle.set_digits.specs.LabelLaws.{count_up_mem}
use Rattle.set_digits.specs.OrderedSearch.{fact_count}
use Rattle.set_digits.specs.SetDigits.{bit}
use Rattle.digit_lists.proofs.layer.Goals as goal

layers : List ℕ
layers = 1 ∷ 65814 ∷ 18224744 ∷ 375941248 ∷ 1753251840 ∷ 2147483648 ∷ []

right : ℕ → ℕ → Bool
right j p = eqb (digit (get_or layers j 0) p) (bit (eqb (fact_count 5 p) j))

all_right : all (λ j. all (right j) (count_up 0 32)) (count_up 0 6) ≡ true
unfolding right layers digit fact_count
all_right = refl

at : (j p : ℕ) → j < 6 → p < 32 → right j p ≡ true
at j p h l =
    all_yes (right j) (count_up 0 32)
    (all_yes (λ k. all (right k) (count_up 0 32)) (count_up 0 6) all_right (count_up_mem 6 0 j (omega arith) (omega arith)))
    (count_up_mem 32 0 p (omega arith) (omega arith))

pub returns : goal.returns
unfolding right layers
returns c = record { digits = λ p h. eqb-true _ _ (at c.args.j p (search rules) h) }
