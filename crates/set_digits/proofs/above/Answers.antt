-- The rule of the table is a test that is computed.
use mathlib.Core.Path.{refl}
use mathlib.Core.List.{List, [], ◌∷◌}
use Prim.Native.Nat.{ℕ}
use borrow.Author.Rules.{rules}
use Rattle.search_laws.specs.FactSets.{digit}
use Rattle.set_digits.specs.AboveTable.{right_entry}
use Rattle.set_digits.proofs.above.Goals as goal

table : List ℕ
table =
    4294967295 ∷ 2863311530 ∷ 3435973836 ∷ 2290649224 ∷ 4042322160 ∷ 2694881440 ∷ 3233857728 ∷ 2155905152
    ∷ 4278255360 ∷ 2852170240 ∷ 3422604288 ∷ 2281736192 ∷ 4026593280 ∷ 2684395520 ∷ 3221274624 ∷ 2147516416
    ∷ 4294901760 ∷ 2863267840 ∷ 3435921408 ∷ 2290614272 ∷ 4042260480 ∷ 2694840320 ∷ 3233808384 ∷ 2155872256
    ∷ 4278190080 ∷ 2852126720 ∷ 3422552064 ∷ 2281701376 ∷ 4026531840 ∷ 2684354560 ∷ 3221225472 ∷ 2147483648 ∷ []

pub returns : goal.returns
unfolding table digit
returns c = right_entry table refl c.args.b (search rules)
