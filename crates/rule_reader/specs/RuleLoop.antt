-- The loop over the rules: i of n are in memory, and p is the place of the next.
use Rattle.std.specs.Prelude.{◌≡◌, List, [], Result, Ok, Err, ℕ, ◌+◌, ◌-◌, ◌*◌, ◌≤◌, ◌<◌, length, replicate}
use Rattle.std.proofs.Common.{sym, ap, ◌∙◌, arith}
use Rattle.sheet_types.specs.Tabulate.{tabulate_none}
use Rattle.sheet_fields.specs.Stores.{Rule}
use Rattle.sheet_types.specs.SheetLimits.{max_rules}
use Rattle.sheet_types.specs.Refusals.{many_rules}
use Rattle.sheet_types.specs.Reading.{Reading, got, refused, count_at, rule_at, rules_at, records_from}
use Rattle.sheet_fields.specs.RecordLaws.{records_none, records_refused, records_next}
use Rattle.sheet_fields.specs.StoredRecords.{read_or, stored_from, stored_none, stored_refused, stored_next}
use Rattle.sheet_types.specs.RuleTable.{rule_in, rules_in}
use Rattle.sheet_types.specs.RuleTableLaws.{put_rule, rules_put}
use Rattle.refusals.specs.Numbers.{number}
use Rattle.refusals.specs.declared.Refused.{Refused}
use Rattle.sheet_types.specs.declared.Field.{Field}
use Rattle.sheet_fields.specs.Answers.{answer_with}

-- one rule, whatever stands before it
abbrev pub rule_item : ℕ → List ℕ → List Rule → ℕ → Reading Rule
rule_item facts s read p = rule_at facts s p

-- a rule stored as rule i
abbrev pub store_rule : List ℕ → ℕ → Rule → List ℕ
store_rule rules i r = put_rule rules i r.premise r.conclusion

-- n rules over an array, up to the first that is refused
pub record RulesFrom (facts n : ℕ) (s : List ℕ) (at : ℕ) (before after : List ℕ) (r : Result Field Refused) : Type 0 where
  pub reading : answer_with (rules_in after) r ≡ records_from (rule_item facts s) n [] at
  pub array : after ≡ stored_from (rule_at facts s) store_rule n 0 at before

-- the rules after their count, with zeros after the last that is read
pub record RulesFound (facts : ℕ) (s : List ℕ) (at : ℕ) (rules : List ℕ) (r : Result Field Refused) : Type 0 where
  pub reading : answer_with (rules_in rules) r ≡ rules_at facts s at
  pub array : rules
      ≡ read_or (count_at 0 max_rules many_rules s at) (replicate 64 0) (λ n next. stored_from (rule_at facts s) store_rule n 0 next (replicate 64 0))

-- i rules are read up to p, and those in memory and what is left to read give what the whole gives
pub record RulesSoFar (facts n : ℕ) (s : List ℕ) (at : ℕ) (before : List ℕ) (i p : ℕ) (rules : List ℕ) : Type 0 where
  pub reading : records_from (rule_item facts s) (n - i) (rules_in rules i) p ≡ records_from (rule_item facts s) n [] at
  pub array : stored_from (rule_at facts s) store_rule (n - i) i p rules ≡ stored_from (rule_at facts s) store_rule n 0 at before

module _ (facts : ℕ) (s : List ℕ) (n at : ℕ) (before : List ℕ) where
  pub rules_first : RulesSoFar facts n s at before 0 at before
  rules_first =
      let e : n - 0 ≡ n = omega arith in
      record { reading = rw (e, tabulate_none (rule_in before)); array = rw e }

  module _ (i p : ℕ) (rules : List ℕ) (sofar : RulesSoFar facts n s at before i p rules) where
    pub rules_stopped : (e : Refused) → i < n → rule_at facts s p ≡ refused (number e.refusal) e.place → RulesFrom facts n s at before rules (Err e)
    rules_stopped e h here =
        record {
          reading = sym (records_refused (rule_item facts s) n i (rules_in rules i) p _ _ h here) ∙ sofar.reading;
          array = sym (stored_refused (rule_at facts s) store_rule n i p rules h here) ∙ sofar.array;
        }

    pub rules_next : (premise conclusion next : ℕ) → i < n → 2 * i + 2 ≤ length rules
        → rule_at facts s p ≡ got (record { premise = premise; conclusion = conclusion }) next
        → RulesSoFar facts n s at before (i + 1) next (put_rule rules i premise conclusion)
    rules_next premise conclusion next h l here =
        record {
          reading =
              ap (λ (rs : List Rule). records_from (rule_item facts s) (n - (i + 1)) rs next) (rules_put rules i premise conclusion l)
              ∙ sym (records_next (rule_item facts s) n i (rules_in rules i) p next (record { premise = premise; conclusion = conclusion }) h here)
              ∙ sofar.reading;
          array = sym (stored_next (rule_at facts s) store_rule n i p rules _ h here) ∙ sofar.array;
        }

    pub rules_end : i ≡ n → RulesFrom facts n s at before rules (Ok (record { value = n; next = p }))
    rules_end e =
        record {
          reading = ap (λ (k : ℕ). got (rules_in rules k) p) (sym e)
              ∙ sym (records_none (rule_item facts s) n i (rules_in rules i) p (omega arith))
              ∙ sofar.reading;
          array = sym (stored_none (rule_at facts s) store_rule n i p rules (omega arith)) ∙ sofar.array;
        }
