-- A table of the places that include each place of a word: its rule as one computed test.
use Rattle.std.specs.Prelude.{◌≡◌, Bool, true, List, ℕ, ◌<◌, eqb, get_or}
use Rattle.std.proofs.Common.{arith, eqb-true}
use Rattle.search_laws.specs.Lists.{all}
use Rattle.search_laws.specs.Members.{all_yes}
use Rattle.search_laws.specs.FactSets.{digit}
use Rattle.search_laws.specs.Stores.{includes}
use Rattle.search_laws.specs.Moves.{count_up}
use Rattle.search_laws.specs.LabelLaws.{count_up_mem}
use Rattle.set_digits.specs.SetDigits.{bit, PlacesAbove}

-- digit p of entry b is 1 where p includes b, and else 0
abbrev pub right_digit : List ℕ → ℕ → ℕ → Bool
right_digit xs b p = eqb (digit (get_or xs b 0) p) (bit (includes p b))

-- every digit of every entry is right
abbrev pub right_table : List ℕ → Bool
right_table xs = all (λ b. all (λ p. right_digit xs b p) (count_up 0 32)) (count_up 0 32)

-- an entry of a right table
pub right_entry : (xs : List ℕ) → right_table xs ≡ true → (b : ℕ) → b < 32 → PlacesAbove b (get_or xs b 0)
right_entry xs h b l =
    record {
      digits = λ p m.
          eqb-true (digit (get_or xs b 0) p) (bit (includes p b))
          (all_yes (λ q. right_digit xs b q) (count_up 0 32)
          (all_yes (λ a. all (λ q. right_digit xs a q) (count_up 0 32)) (count_up 0 32) h (count_up_mem 32 0 b (omega arith) (omega arith)))
          (count_up_mem 32 0 p (omega arith) (omega arith)));
    }
