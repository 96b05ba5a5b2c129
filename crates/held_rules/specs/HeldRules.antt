-- The rules of a sheet as they stand at the beginning of a slice: premises, then conclusions, then the least store. Where there are fewer rules
-- than there is room for, the other places have a premise that no set includes, and an empty conclusion. Where the first place or the ninth has that premise no rule is read from it on.
use Rattle.std.specs.Prelude.{◌≡◌, cond, List, ℕ, ◌+◌, ◌*◌, ◌%◌, ◌^◌, ◌≤◌, ◌<◌, get_or, eqb}
use Rattle.set_closure.specs.Tabulate.{tabulate}
use Rattle.set_closure.specs.FactSets.{Within}
use Rattle.set_closure.specs.Stores.{Rule, Closed, conclusions, closure, least_store}
use Rattle.set_closure.specs.SheetLimits.{max_rules}

-- the first place after the rules, where the least store stands, and the first place after that
abbrev pub least_at : ℕ
least_at = 2 * max_rules

abbrev pub rules_end : ℕ
rules_end = least_at + 1

abbrev pub held_rule : List ℕ → ℕ → Rule
held_rule w i = record { premise = get_or w i 0; conclusion = get_or w (max_rules + i) 0 }

-- what stands for the premise where there is no rule: a fact that no set of 16 digits has
abbrev pub no_premise : ℕ
no_premise = 65536

-- how many rules are read
abbrev pub few_rules : ℕ
few_rules = 8

abbrev pub held_count : List ℕ → ℕ
held_count w = cond (eqb (get_or w 0 0) no_premise) 0 (cond (eqb (get_or w few_rules 0) no_premise) few_rules max_rules)

abbrev pub held_rules : List ℕ → List Rule
held_rules w = tabulate (held_rule w) (held_count w)

-- the rules that the slice begins with have the closures of these, and their conclusions
pub record RulesPut (rs : List Rule) (w : List ℕ) : Type 0 where
  pub closures : (s : ℕ) → closure (held_rules w) s ≡ closure rs s
  pub concluded : conclusions (held_rules w) ≡ conclusions rs

-- and behind them stands their least store
pub record RulesHeld (rs : List Rule) (w : List ℕ) : Type 0 where
  pub put : RulesPut rs w
  pub least : get_or w least_at 0 ≡ least_store rs

-- s grew to t on the way to its closure, and by nothing only where it is closed
pub record GrownBy (rs : List Rule) (s t : ℕ) : Type 0 where
  pub above : Within s t
  pub inside : (c : ℕ) → Closed rs c → Within s c → Within t c
  pub same : t ≡ s → Closed rs s

-- what is worked out for a set, cut to 16 digits; where the rules are about at most 16 facts, and the set too, it is the set's closure
pub record ReadClosure (w : List ℕ) (s r : ℕ) : Type 0 where
  pub cut : r ≡ closure (held_rules w) s % 65536
  pub closed : (rs : List Rule) (n : ℕ) → RulesHeld rs w → s < 2 ^ n → conclusions rs < 2 ^ n → 2 ^ n ≤ 65536 → r ≡ closure rs s
