-- One rule more in memory.
use Rattle.std.specs.Prelude.{◌≡◌, List, [], ◌∷◌, ◌++◌, ℕ, ◌+◌, ◌*◌, ◌≤◌, ◌<◌, length, get_or, set}
use Rattle.std.proofs.Common.{ap₂, ◌∙◌, arith, length-set, get_or-set_same, get_or-set_other}
use Rattle.store_laws.specs.Tabulate.{tabulate_next, tabulate_same}
use Rattle.sheets.specs.Stores.{Rule}
use Rattle.set_closure.specs.RuleTable.{rule_in, rules_in}

-- the sets with rule i put in its place
abbrev pub put_rule : List ℕ → ℕ → ℕ → ℕ → List ℕ
put_rule sets i premise conclusion = set (set sets (2 * i) premise) (2 * i + 1) conclusion

module _ (sets : List ℕ) (i premise conclusion : ℕ) where
  put_rule_other : (j : ℕ) → j < i → rule_in (put_rule sets i premise conclusion) j ≡ rule_in sets j
  put_rule_other j h =
      let first = set sets (2 * i) premise in
      let p : get_or (put_rule sets i premise conclusion) (2 * j) 0 ≡ get_or sets (2 * j) 0 =
      get_or-set_other first (2 * i + 1) (2 * j) conclusion 0 (omega arith) ∙ get_or-set_other sets (2 * i) (2 * j) premise 0 (omega arith) in
      let c : get_or (put_rule sets i premise conclusion) (2 * j + 1) 0 ≡ get_or sets (2 * j + 1) 0 =
      get_or-set_other first (2 * i + 1) (2 * j + 1) conclusion 0 (omega arith) ∙ get_or-set_other sets (2 * i) (2 * j + 1) premise 0 (omega arith) in
      cc

  put_rule_same : 2 * i + 2 ≤ length sets → rule_in (put_rule sets i premise conclusion) i ≡ record { premise = premise; conclusion = conclusion }
  put_rule_same h =
      let first = set sets (2 * i) premise in
      let p : get_or (put_rule sets i premise conclusion) (2 * i) 0 ≡ premise =
      get_or-set_other first (2 * i + 1) (2 * i) conclusion 0 (omega arith) ∙ get_or-set_same sets (2 * i) premise 0 (omega arith) in
      let c : get_or (put_rule sets i premise conclusion) (2 * i + 1) 0 ≡ conclusion =
      get_or-set_same first (2 * i + 1) conclusion 0 (simp length-set (omega arith)) in
      cc

  pub rules_put : 2 * i + 2 ≤ length sets
      → rules_in (put_rule sets i premise conclusion) (i + 1) ≡ rules_in sets i ++ (record { premise = premise; conclusion = conclusion } ∷ [])
  rules_put h =
      tabulate_next (rule_in (put_rule sets i premise conclusion)) i
      ∙ ap₂ (λ (rs : List Rule) (r : Rule). rs ++ (r ∷ [])) (tabulate_same (rule_in (put_rule sets i premise conclusion)) (rule_in sets) i put_rule_other) (put_rule_same h)
