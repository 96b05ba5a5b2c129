-- How rules stand in memory: rule i has its premise at 2 i and its conclusion after it.
use Rattle.std.specs.Prelude.{List, ℕ, ◌+◌, ◌*◌, get_or}
use Rattle.sheets.specs.Stores.{Rule}
use Rattle.store_laws.specs.Tabulate.{tabulate}

abbrev pub rule_in : List ℕ → ℕ → Rule
rule_in sets i = record { premise = get_or sets (2 * i) 0; conclusion = get_or sets (2 * i + 1) 0 }

-- the first n rules
abbrev pub rules_in : List ℕ → ℕ → List Rule
rules_in sets n = tabulate (rule_in sets) n
