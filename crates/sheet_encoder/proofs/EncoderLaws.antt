-- What is written is read back: the bytes of an admissible sheet are that sheet, and have the names that were given. The sections stand
-- one after another, and each of their records is right where it stands. A sheet that was read is admissible, so it can be written again.
use Rattle.std.specs.Prelude.{◌≡◌, refl, ℕ, ◌+◌, ◌≤◌, ◌<◌, length, get_or}
use Rattle.std.proofs.Common.{sym, subst, ⊎_elim}
use mathlib.Core.List.Memᴰ
use mathlib.Core.List.{List, ◌++◌, Memᴰ}
use native.Mathlib.Omega.{arith}
use Rattle.std.proofs.Math.ListN.{length-append}
use Rattle.sheet_laws.specs.Lists.{concat_map}
use Rattle.sheet_laws.specs.SheetLimits.{max_facts, name_length}
use Rattle.sheet_laws.specs.Sheet.{Sheet}
use Rattle.sheet_laws.specs.SheetBytes.{fact_count, rule_count, node_count, start_count, Printable, RecordsAre, none, one_more, FactIs, RuleIs, NodeIs, StartIs, FactsAre, RulesAre, NodesAre, StartsAre, SectionsAre, sections, SheetIs}
use Rattle.sheet_laws.specs.WellFormed.{Admissible}
use Rattle.sheet_laws.specs.Reading.{got, read_sheet}
use Rattle.sheet_laws.specs.SheetRead.{sheet_reads}
use Rattle.sheet_laws.proofs.ReadingLaws.{written_admissible, well_formed_ranked}
use Rattle.sheet_encoder.specs.Encoder.{NamesFit, rule_bytes, node_bytes, start_bytes, section_bytes, encode}
use Rattle.sheet_encoder.proofs.StandingBytes.{Stands, stands_whole, stands_front, stands_rest, facts_fit, rules_fit, nodes_fit, starts_fit, section_stands}
use Rattle.sheet_encoder.proofs.EncodedRecords.{name_stands, rule_stands, node_stands, start_stands, record_there}

-- ---- each section, wherever its bytes stand
facts_stand : (facts : ℕ) → facts ≤ max_facts → (names : List (List ℕ)) → NamesFit facts names → (s : List ℕ) (at : ℕ)
    → Stands s at (section_bytes (λ name. name) names) → FactsAre s at names (at + length (section_bytes (λ name. name) names))
facts_stand facts few names fit s at =
    section_stands fact_count (FactIs s) s at (λ name. name) names (facts_fit (omega (arith, fit.many)))
    (λ before rest name p e h. let m = record_there before rest name e in name_stands name (fit.long name m) (fit.printable name m) h)

module _ (sheet : Sheet) (fine : Admissible sheet) (s : List ℕ) (at : ℕ) where
  rules_stand : Stands s at (section_bytes rule_bytes sheet.rules)
      → RulesAre sheet.facts s at sheet.rules (at + length (section_bytes rule_bytes sheet.rules))
  rules_stand =
      section_stands rule_count (RuleIs sheet.facts s) s at rule_bytes sheet.rules (rules_fit fine.within.few_rules_lem)
      (λ before rest r p e h. rule_stands fine.within.few_facts r (fine.well_formed.rules_fit r (record_there before rest r e)) h)

  nodes_stand : Stands s at (section_bytes node_bytes sheet.nodes)
      → NodesAre sheet.facts sheet.rules s at sheet.nodes (at + length (section_bytes node_bytes sheet.nodes))
  nodes_stand =
      section_stands node_count (NodeIs sheet.facts sheet.rules s) s at node_bytes sheet.nodes
      (nodes_fit fine.within.some_nodes fine.within.few_nodes)
      (node_stands fine.within.few_facts sheet.rules fine.within.few_nodes (well_formed_ranked sheet fine.well_formed)
      fine.well_formed.nodes_fit fine.within.nodes_open)

  starts_stand : Stands s at (section_bytes start_bytes sheet.starts)
      → StartsAre sheet.facts sheet.rules sheet.nodes s at sheet.starts (at + length (section_bytes start_bytes sheet.starts))
  starts_stand =
      section_stands start_count (StartIs sheet.facts sheet.rules sheet.nodes s) s at start_bytes sheet.starts
      (starts_fit fine.within.some_starts fine.within.few_starts)
      (λ before rest p q e h.
      let m = record_there before rest p e in
      let o = fine.starts_fit p m in
      start_stands sheet.nodes s fine.within.few_facts sheet.rules p o.store o.process (fine.within.starts_threads p m) h)

-- ---- the whole sheet
module _ (names : List (List ℕ)) (sheet : Sheet) (fit : NamesFit sheet.facts names) (fine : Admissible sheet) where
  abbrev written : List ℕ
  written = encode names sheet

  -- its four sections
  abbrev facts_bytes : List ℕ
  facts_bytes = section_bytes (λ name. name) names

  abbrev rules_bytes : List ℕ
  rules_bytes = section_bytes rule_bytes sheet.rules

  abbrev nodes_bytes : List ℕ
  nodes_bytes = section_bytes node_bytes sheet.nodes

  abbrev starts_bytes : List ℕ
  starts_bytes = section_bytes start_bytes sheet.starts

  whole : Stands written 0 (facts_bytes ++ (rules_bytes ++ (nodes_bytes ++ starts_bytes)))
  unfolding encode
  whole = stands_whole written

  ends : 0 + length facts_bytes + length rules_bytes + length nodes_bytes + length starts_bytes ≡ length written
  unfolding encode
  ends =
      omega (
        arith,
        length-append facts_bytes (rules_bytes ++ (nodes_bytes ++ starts_bytes)),
        length-append rules_bytes (nodes_bytes ++ starts_bytes),
        length-append nodes_bytes starts_bytes,
      )

  facts_written : FactsAre written 0 names (0 + length facts_bytes)
  facts_written = facts_stand sheet.facts fine.within.few_facts names fit written 0 (stands_front facts_bytes (rules_bytes ++ (nodes_bytes ++ starts_bytes)) whole)

  sections_written : SectionsAre written sheet (0 + length facts_bytes + length rules_bytes + length nodes_bytes + length starts_bytes)
  sections_written =
      let p : ℕ = 0 + length facts_bytes in
      let q : ℕ = p + length rules_bytes in
      let t : ℕ = q + length nodes_bytes in
      let end : ℕ = t + length starts_bytes in
      let after-facts = stands_rest facts_bytes (rules_bytes ++ (nodes_bytes ++ starts_bytes)) whole in
      let after-rules = stands_rest rules_bytes (nodes_bytes ++ starts_bytes) after-facts in
      let b = rules_stand sheet fine written p (stands_front rules_bytes (nodes_bytes ++ starts_bytes) after-facts) in
      let c = nodes_stand sheet fine written q (stands_front nodes_bytes starts_bytes after-rules) in
      let d = starts_stand sheet fine written t (stands_rest nodes_bytes starts_bytes after-rules) in
      subst (λ (facts : ℕ). RulesAre facts written p sheet.rules q → NodesAre facts sheet.rules written q sheet.nodes t
      → StartsAre facts sheet.rules sheet.nodes written t sheet.starts end
      → SectionsAre written (record { facts = facts; rules = sheet.rules; nodes = sheet.nodes; starts = sheet.starts }) end)
      fit.many (λ b c d. sections facts_written b c d) b c d

-- the bytes of a sheet are that sheet
pub encoded : (names : List (List ℕ)) (sheet : Sheet) → NamesFit sheet.facts names → Admissible sheet → SheetIs (encode names sheet) sheet
encoded names sheet fit fine =
    subst (λ (k : ℕ). SectionsAre (encode names sheet) sheet k) (ends names sheet fit fine) (sections_written names sheet fit fine)

-- and have its names
pub encoded_names : (names : List (List ℕ)) (sheet : Sheet) → NamesFit sheet.facts names → Admissible sheet
    → FactsAre (encode names sheet) 0 names (1 + length (concat_map (λ name. name) names))
encoded_names names sheet fit fine =
    let z : 0 + length (section_bytes (λ name. name) names) ≡ 1 + length (concat_map (λ name. name) names) = omega arith in
    subst (λ (k : ℕ). FactsAre (encode names sheet) 0 names k) z (facts_written names sheet fit fine)

-- reading them gets the sheet
pub encoded_reads : (names : List (List ℕ)) (sheet : Sheet) → NamesFit sheet.facts names → Admissible sheet
    → read_sheet (encode names sheet) ≡ got sheet (length (encode names sheet))
encoded_reads names sheet fit fine =
    (sheet_reads (encode names sheet)).is_got sheet (length (encode names sheet)) (encoded names sheet fit fine, refl)

-- ---- a sheet that was read, written again
-- names that were read can be written
names_right : {s : List ℕ} {n at next : ℕ} {before names : List (List ℕ)} → RecordsAre (FactIs s) n before at names next
    → (name : List ℕ) → Memᴰ name names → (length name ≡ name_length) × ((i : ℕ) → i < name_length → Printable (get_or name i 0))
names_right none name m = absurd (Memᴰ.not-nil m)
names_right (one_more {rest = rest} {r = r} h more) name m =
    ⊎_elim
    (λ (e : name ≡ r).
    subst (λ (x : List ℕ). (length x ≡ name_length) × ((i : ℕ) → i < name_length → Printable (get_or x i 0))) (sym e)
    (h.long, λ i l. rw (h.bytes i l).0 (h.bytes i l).1))
    (λ (k : Memᴰ name rest). names_right more name k)
    (Memᴰ.cases_cons m)

pub names_fit : (s : List ℕ) (at next : ℕ) (names : List (List ℕ)) → FactsAre s at names next → NamesFit (length names) names
names_fit s at next names h =
    record {
      many = refl;
      long = λ name m. (names_right h.records name m).0;
      printable = λ name m. (names_right h.records name m).1;
    }

-- with those names its bytes are that sheet again
pub encoded_again : (s : List ℕ) (sheet : Sheet) → SheetIs s sheet
    → (names : List (List ℕ)) × NamesFit sheet.facts names × SheetIs (encode names sheet) sheet × (p : ℕ) × FactsAre s 0 names p
encoded_again s sheet h =
    let n = names_of h in
    (n.0, n.1, encoded n.0 sheet n.1 (written_admissible s sheet h), n.2, n.3)
  where
    names_of : {sheet : Sheet} {end : ℕ} → SectionsAre s sheet end → (names : List (List ℕ)) × NamesFit sheet.facts names × (p : ℕ) × FactsAre s 0 names p
    names_of (sections {p = p} {names = names} a b c d) = (names, names_fit s 0 p names a, p, a)
