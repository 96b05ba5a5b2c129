-- Document 01 as it was before card 2 of document 02: an empty premise is refused, 6, and levels and bisimulations take reductions to be
-- moves with the label 0. Sheets without an empty premise are read as they were (EarlierReading), and the sentences of document 01 that name
-- store 0 hold of them (EarlierSentences). All else that a call does is made of these by definitions in which the least store does not stand.
use Rattle.std.specs.Prelude.{◌≡◌, ℕ, eqb}
use mathlib.Core.List.{List, [], Memᴰ}
use Rattle.comparison_laws.specs.FactSets.{Within}
use Rattle.comparison_laws.specs.Stores.{Rule, Constraint}
use Rattle.comparison_laws.specs.SheetLimits.{max_rules}
use Rattle.comparison_laws.specs.Refusals.{many_rules}
use Rattle.comparison_laws.specs.Sheet.{Configuration, Sheet}
use Rattle.comparison_laws.specs.WellFormed.{OfSheet}
use Rattle.comparison_laws.specs.Reading.{Reading, got, and_then, refused_if, records_from, count_at, set_at, facts_at, from_nodes, chosen}
use Rattle.comparison_laws.specs.Moves.{Moves, add}
use Rattle.comparison_laws.specs.Refinement.{Transitions}

-- no rule of the sheet has an empty premise
abbrev pub NoneStands : List Rule → Type 0
NoneStands rules = (r : Rule) → Memᴰ r rules → r.premise ≡ 0 → ⊥

-- what levels, bisimulations and rounds are over, with a given least label; `transitions` has the least store there
abbrev pub transitions_from : ℕ → Sheet → Transitions
transitions_from least sheet =
    record {
      Label = ℕ;
      Constraint = Constraint sheet.facts sheet.rules;
      Below = Within;
      least = least;
      State = Configuration;
      Of = OfSheet sheet;
      add = add sheet;
      SameBarbs = λ p q. p.store ≡ q.store;
      Move = Moves sheet;
    }

-- what they were over: 0 is the least label
abbrev pub earlier_transitions : Sheet → Transitions
earlier_transitions sheet = transitions_from 0 sheet

-- ---- document 01's reading
-- 6: the premise of a rule is empty
abbrev pub empty_premise : ℕ
empty_premise = 6

-- a rule, its premise refused after 5 where it is empty
abbrev pub earlier_rule : ℕ → List ℕ → ℕ → Reading Rule
earlier_rule facts s at =
    and_then (set_at facts s at) (λ p next.
    refused_if (eqb p 0) empty_premise at
    (and_then (set_at facts s next) (λ c end. got (record { premise = p; conclusion = c }) end)))

abbrev pub earlier_rules : ℕ → List ℕ → ℕ → Reading (List Rule)
earlier_rules facts s at = and_then (count_at 0 max_rules many_rules s at) (λ n next. records_from (λ read p. earlier_rule facts s p) n [] next)

-- the sections after the rules, and the end, are read as now
abbrev pub earlier_sheet : List ℕ → Reading Sheet
earlier_sheet s = and_then (facts_at s 0) (λ facts p. and_then (earlier_rules facts s p) (from_nodes facts s))

-- and so is the choice of two starts
abbrev pub earlier_choice : List ℕ → ℕ → ℕ → Reading Sheet
earlier_choice s left right = and_then (earlier_sheet s) (chosen left right)
