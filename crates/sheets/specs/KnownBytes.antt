-- Byte strings of which document 01 says what they are, and their derivations: the checks beside the relations. Fields of no facts, no
-- rules and one node, and what refuses the next one.
use Rattle.std.specs.Prelude.{◌≡◌, List, [], ◌∷◌, ◌++◌, ℕ, ◌<◌, length}
use Rattle.std.proofs.Math.Path.{refl}
use Rattle.std.proofs.Common.{arith}
use Rattle.stores.specs.Stores.{closure}
use Rattle.sheets.specs.Refusals.{cut_off_lem, many_facts, absent_fact, wrong_nodes, wrong_kind, wrong_node, used_field, bytes_left_lem}
use Rattle.sheets.specs.Sheet.{stop, Configuration, Sheet, open_within, opened_all}
use Rattle.sheets.specs.SheetBytes.{fact_count, rule_count, node_count, start_count, thread_count, set, kind, unused, Wrong, many_facts_lem, many_rules_lem, absent_fact_lem, few_nodes, many_nodes, no_kind, node_not_below, not_zero, few_starts, many_starts, many_threads_lem, FieldIs, cut_off, wrong, none, one_more, by_count, by_record, by_premise, is_stop, is_tell, is_both, fields, by_kind, by_first, by_second, start, FactsAre, RulesAre, NodesAre, StartsAre, SectionsAre, sections, SheetIs, SheetRefused, by_facts, by_rules, by_nodes, bytes_left}

-- ---- values that no number refuses
no_facts : (number : ℕ) → Wrong fact_count 0 number → ⊥
no_facts _ (many_facts_lem l) = omega arith

few_rules_lem : (n : ℕ) → n < 2 → (number : ℕ) → Wrong rule_count n number → ⊥
few_rules_lem n h _ (many_rules_lem l) = omega arith

one_node : (number : ℕ) → Wrong node_count 1 number → ⊥
one_node _ (few_nodes l) = omega arith
one_node _ (many_nodes l) = omega arith

two_starts : (number : ℕ) → Wrong start_count 2 number → ⊥
two_starts _ (few_starts l) = omega arith
two_starts _ (many_starts l) = omega arith

no_threads : (number : ℕ) → Wrong thread_count 0 number → ⊥
no_threads _ (many_threads_lem l) = omega arith

a_kind : (n : ℕ) → n < 5 → (number : ℕ) → Wrong kind n number → ⊥
a_kind n h _ (no_kind l) = omega arith

a_zero : (number : ℕ) → Wrong unused 0 number → ⊥
a_zero _ (not_zero h) = h refl

no_set : (number : ℕ) → Wrong (set 0) 0 number → ⊥
no_set _ (absent_fact_lem l) = omega arith

-- ---- no facts and no rules, and what stands after them
abbrev begun : List ℕ → List ℕ
begun rest = 0 ∷ 0 ∷ rest

no_facts_here : (rest : List ℕ) → FactsAre (0 ∷ rest) 0 [] 1
no_facts_here rest = record { first = 1; counted = record { stands = omega arith; value = refl; right = no_facts; after = refl }; records = none }

module _ (rest : List ℕ) where
  facts_none : FactsAre (begun rest) 0 [] 1
  facts_none = no_facts_here (0 ∷ rest)

  rules_none : RulesAre 0 (begun rest) 1 [] 2
  rules_none = record { first = 2; counted = record { stands = omega arith; value = refl; right = few_rules_lem 0 (omega arith); after = refl }; records = none }

-- ---- refused
-- no bytes: 1 at place 0
pub no_bytes : SheetRefused [] cut_off_lem 0
no_bytes = by_facts (by_count (cut_off (omega arith)))

-- 13 facts: 2 at place 0, whatever stands after the count
pub thirteen_facts : (rest : List ℕ) → SheetRefused (13 ∷ rest) many_facts 0
thirteen_facts rest = by_facts (by_count (wrong (omega arith) (many_facts_lem {n = 13} (omega arith))))

-- one rule, of which one byte stands: 1 at the sheet's length, though that byte alone holds an absent fact
pub cut_before_absent : SheetRefused (0 ∷ 1 ∷ 1 ∷ []) cut_off_lem 3
cut_before_absent =
    by_rules (no_facts_here (1 ∷ 1 ∷ []))
    (by_record {before = []} (record { stands = omega arith; value = refl; right = few_rules_lem 1 (omega arith); after = refl }) (omega arith) none
    (by_premise (cut_off (omega arith))))

-- and where both stand: 5 at the field's first byte
pub absent_in_rule : SheetRefused (0 ∷ 1 ∷ 1 ∷ 0 ∷ []) absent_fact 2
absent_in_rule =
    by_rules (no_facts_here (1 ∷ 1 ∷ 0 ∷ []))
    (by_record {before = []} (record { stands = omega arith; value = refl; right = few_rules_lem 1 (omega arith); after = refl }) (omega arith) none
    (by_premise (wrong (omega arith) (absent_fact_lem {facts = 0} {c = 1} (omega arith)))))

-- a rule with nothing on both sides is right (document 02, card 2)
pub nothing_gives_nothing : (rest : List ℕ) → RulesAre 0 (0 ∷ 1 ∷ 0 ∷ 0 ∷ 0 ∷ 0 ∷ rest) 1 (record { premise = 0; conclusion = 0 } ∷ []) 6
nothing_gives_nothing rest =
    record {
      first = 2;
      counted = record { stands = omega arith; value = refl; right = few_rules_lem 1 (omega arith); after = refl };
      records = one_more {before = []} {at = 2} {mid = 6} (record {
        second = 4;
        premise_field = record { stands = omega arith; value = refl; right = no_set; after = refl };
        conclusion_field = record { stands = omega arith; value = refl; right = no_set; after = refl };
      }) none;
    }

-- no nodes: 7
pub no_nodes_lem : (rest : List ℕ) → SheetRefused (begun (0 ∷ rest)) wrong_nodes 2
no_nodes_lem rest = by_nodes (facts_none (0 ∷ rest)) (rules_none (0 ∷ rest)) (by_count (wrong (omega arith) (few_nodes {n = 0} (omega arith))))

module _ (rest : List ℕ) where
  nodes_counted : FieldIs node_count (begun (1 ∷ rest)) 2 1 3
  nodes_counted = record { stands = omega arith; value = refl; right = one_node; after = refl }

-- a kind above 4: 8, at the kind byte
pub kind_five : (rest : List ℕ) → SheetRefused (begun (1 ∷ 5 ∷ rest)) wrong_kind 3
kind_five rest =
    by_nodes (facts_none (1 ∷ 5 ∷ rest)) (rules_none (1 ∷ 5 ∷ rest))
    (by_record {before = []} (nodes_counted (5 ∷ rest)) (omega arith) none (by_kind (wrong (omega arith) (no_kind {n = 5} (omega arith)))))

-- a both that names itself: 9, at its first field
pub names_itself : (rest : List ℕ) → SheetRefused (begun (1 ∷ 3 ∷ 0 ∷ 0 ∷ rest)) wrong_node 4
names_itself rest =
    by_nodes (facts_none (1 ∷ 3 ∷ 0 ∷ 0 ∷ rest)) (rules_none (1 ∷ 3 ∷ 0 ∷ 0 ∷ rest))
    (by_record {before = []} (nodes_counted (3 ∷ 0 ∷ 0 ∷ rest)) (omega arith) none
    (by_first (record { stands = omega arith; value = refl; right = a_kind 3 (omega arith); after = refl }) is_both
    (wrong (omega arith) (node_not_below {bound = 0} {k = 0} (omega arith)))))

-- a tell whose second field is not 0: 10, at that field
pub tell_with_a_node : (rest : List ℕ) → SheetRefused (begun (1 ∷ 1 ∷ 0 ∷ 0 ∷ 1 ∷ 0 ∷ rest)) used_field 6
tell_with_a_node rest =
    by_nodes (facts_none (1 ∷ 1 ∷ 0 ∷ 0 ∷ 1 ∷ 0 ∷ rest)) (rules_none (1 ∷ 1 ∷ 0 ∷ 0 ∷ 1 ∷ 0 ∷ rest))
    (by_record {before = []} (nodes_counted (1 ∷ 0 ∷ 0 ∷ 1 ∷ 0 ∷ rest)) (omega arith) none
    (by_second (record { stands = omega arith; value = refl; right = a_kind 1 (omega arith); after = refl }) is_tell
    (record { stands = omega arith; value = refl; right = no_set; after = refl }) (wrong (omega arith) (not_zero {x = 1} (λ e. omega arith)))))

-- ---- a sheet: no facts, no rules, a node stop and two starts without threads, 15 bytes
abbrev pub smallest : List ℕ
smallest = 0 ∷ 0 ∷ 1 ∷ 0 ∷ 0 ∷ 0 ∷ 0 ∷ 0 ∷ 2 ∷ 0 ∷ 0 ∷ 0 ∷ 0 ∷ 0 ∷ 0 ∷ []

-- it is this sheet, and with a byte more it is refused: 13 at that byte
module _ (rest : List ℕ) where
  abbrev with_rest : List ℕ
  with_rest = smallest ++ rest

  the_node : NodesAre 0 [] with_rest 2 (stop ∷ []) 8
  unfolding open_within
  the_node =
      record {
        first = 3;
        counted = record { stands = omega arith; value = refl; right = one_node; after = refl };
        records = one_more {before = []} {at = 3} {mid = 8} (record {
          three = fields {b = 0} {x = 0} {y = 0} {second = 4} {third = 6} {next = 8} (record { stands = omega arith; value = refl; right = a_kind 0 (omega arith); after = refl }) is_stop
              (record { stands = omega arith; value = refl; right = a_zero; after = refl })
              (record { stands = omega arith; value = refl; right = a_zero; after = refl });
          narrow = omega arith;
        }) none;
      }

  -- a start whose fields stand from `at` on
  abbrev empty : Configuration
  empty = record { store = closure [] 0; threads = opened_all (stop ∷ []) [] }

  two_empty : StartsAre 0 [] (stop ∷ []) with_rest 8 (empty ∷ empty ∷ []) 15
  two_empty =
      record {
        first = 9;
        counted = record { stands = omega arith; value = refl; right = two_starts; after = refl };
        records = one_more {at = 9} {mid = 12}
            (start {c = 0} {second = 11} {next = 12} {written = []} (record { stands = omega arith; value = refl; right = no_set; after = refl })
            (record { first = 12; counted = record { stands = omega arith; value = refl; right = no_threads; after = refl }; records = none }) (omega arith))
            (one_more {at = 12} {mid = 15}
            (start {c = 0} {second = 14} {next = 15} {written = []} (record { stands = omega arith; value = refl; right = no_set; after = refl })
            (record { first = 15; counted = record { stands = omega arith; value = refl; right = no_threads; after = refl }; records = none }) (omega arith))
            none);
      }

  abbrev smallest_sheet : Sheet
  smallest_sheet = record { facts = 0; rules = []; nodes = stop ∷ []; starts = empty ∷ empty ∷ [] }

  smallest_sections : SectionsAre with_rest smallest_sheet 15
  smallest_sections = sections (facts_none (1 ∷ 0 ∷ 0 ∷ 0 ∷ 0 ∷ 0 ∷ 2 ∷ 0 ∷ 0 ∷ 0 ∷ 0 ∷ 0 ∷ 0 ∷ rest)) (rules_none (1 ∷ 0 ∷ 0 ∷ 0 ∷ 0 ∷ 0 ∷ 2 ∷ 0 ∷ 0 ∷ 0 ∷ 0 ∷ 0 ∷ 0 ∷ rest)) the_node two_empty

pub smallest_is : SheetIs smallest (smallest_sheet [])
smallest_is = smallest_sections []

pub a_byte_more : (b : ℕ) → SheetRefused (smallest ++ (b ∷ [])) bytes_left_lem 15
a_byte_more b = bytes_left (smallest_sections (b ∷ [])) (omega arith)
