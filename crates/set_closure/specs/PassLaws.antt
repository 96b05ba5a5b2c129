-- A pass over rules in memory, as a loop makes it: no rule yet, one rule more, and all of them.
use Rattle.std.specs.Prelude.{◌≡◌, List, ℕ, ◌+◌, ◌≤◌, ◌<◌}
use Rattle.std.proofs.Common.{sym, ap, ◌∙◌, subst, arith}
use Rattle.store_laws.specs.Tabulate.{tabulate_none, tabulate_next}
use Rattle.sheets.specs.Stores.{Rule, fire, pass}
use Rattle.store_laws.specs.StoreLaws.{pass_none, pass_snoc}
use Rattle.set_closure.specs.RuleTable.{rule_in, rules_in}

-- the first i of n rules, each once, made t of the set s
pub record PassedTo (sets : List ℕ) (n s i t : ℕ) : Type 0 where
  pub few : i ≤ n
  pub made : t ≡ pass (rules_in sets i) s

pub passed_none : {sets : List ℕ} {n s : ℕ} → PassedTo sets n s 0 s
passed_none {sets} {n} {s} =
    record { few = omega arith; made = sym (ap (λ (rs : List Rule). pass rs s) (tabulate_none (rule_in sets)) ∙ pass_none s) }

pub passed_next : {sets : List ℕ} {n s i t u : ℕ} → PassedTo sets n s i t → i < n → u ≡ fire (rule_in sets i) t → PassedTo sets n s (i + 1) u
passed_next {sets} {n} {s} {i} p l e =
    record {
      few = omega arith;
      made = e ∙ ap (fire (rule_in sets i)) p.made
          ∙ sym (ap (λ (rs : List Rule). pass rs s) (tabulate_next (rule_in sets) i) ∙ pass_snoc (rules_in sets i) (rule_in sets i) s);
    }

pub passed_all : {sets : List ℕ} {n s i t : ℕ} → PassedTo sets n s i t → n ≤ i → t ≡ pass (rules_in sets n) s
passed_all {sets} {n} {s} {i} {t} p h =
    let e : i ≡ n = omega (arith, p.few) in
    subst (λ (k : ℕ). t ≡ pass (rules_in sets k) s) e p.made
