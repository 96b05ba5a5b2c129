-- A sheet that was read is, without its standing facts, a sheet too: its bytes can be written, and nothing stands on it.
use Rattle.std.specs.Prelude.{◌≡◌, refl, ℕ, ◌+◌, ◌^◌, ◌≤◌, ◌<◌, length}
use Rattle.std.proofs.Common.{sym, ap, ap₂, ◌∙◌, subst, arith}
use mathlib.Core.List.{List, [], ◌∷◌, map, Memᴰ}
use Rattle.std.proofs.lemmas.List.{length-map}
use Rattle.comparison_laws.specs.Members.{mem_map}
use Rattle.comparison_laws.specs.Stores.{Rule, least_store}
use Rattle.comparison_laws.specs.FactSetLaws.{within_le}
use Rattle.sheet_encoder.specs.FactsOutside.{outside}
use Rattle.sheet_encoder.specs.OutsideLaws.{outside_within}
use Rattle.comparison_laws.specs.Sheet.{Node, stop, tell, ask, both, either, Configuration, Sheet, node_of, opened}
use Rattle.comparison_laws.specs.SheetBytes.{SheetIs}
use Rattle.comparison_laws.specs.WellFormed.{Process, OfSheet, RuleFits, NodeFits, WellFormed, WithinLimits, Admissible}
use Rattle.comparison_laws.specs.ReadingLaws.{written_admissible}
use Rattle.sheet_encoder.specs.Encoder.{encode}
use Rattle.sheet_encoder.proofs.EncoderLaws.{encoded, encoded_again}
use Rattle.standing_laws.specs.StandingFacts.{rule_without, node_without, configuration_without, sheet_without}
use Rattle.standing_laws.proofs.RaisedSets.{least_without}
use Rattle.standing_laws.proofs.RaisedLabels.{constraint_outside}
use Rattle.standing_laws.proofs.RaisedMoves.{node_without_lem, opened_without}

module _ (sheet : Sheet) where
  -- the facts that always stand
  abbrev z : ℕ
  z = least_store sheet.rules

  -- the sheet without them
  abbrev lower : Sheet
  lower = sheet_without z sheet

  -- nothing stands on it
  pub nothing_stands : least_store lower.rules ≡ 0
  nothing_stands = least_without sheet.rules

  outside_fits : (n c : ℕ) → c < 2 ^ n → outside z c < 2 ^ n
  outside_fits n c h = omega (arith, within_le (outside_within z c), h)

  node_fits : (n k : ℕ) (node : Node) → NodeFits sheet.facts sheet.rules n k node → NodeFits sheet.facts lower.rules n k (node_without z node)
  node_fits n k stop h = tt
  node_fits n k (tell c) h = constraint_outside sheet c h
  node_fits n k (ask c q) h = (constraint_outside sheet c h.0, h.1)
  node_fits n k (both p q) h = h
  node_fits n k (either p q) h = h

  pub without_well_formed : WellFormed sheet → WellFormed lower
  without_well_formed wf =
      record {
        rules_fit = λ r m.
            let y = mem_map (rule_without z) sheet.rules m in
            let fit = wf.rules_fit y.0 y.1 in
            subst (RuleFits sheet.facts) (sym y.2) (record {
              premise = outside_fits sheet.facts y.0.premise fit.premise;
              conclusion = outside_fits sheet.facts y.0.conclusion fit.conclusion;
            });
        nodes_fit = λ k l.
            let many : length lower.nodes ≡ length sheet.nodes = length-map sheet.nodes (node_without z) in
            let fit : NodeFits sheet.facts lower.rules (length sheet.nodes) k (node_without z (node_of sheet.nodes k)) =
            node_fits (length sheet.nodes) k (node_of sheet.nodes k) (wf.nodes_fit k (omega (arith, many, l))) in
            subst (λ (n : ℕ). NodeFits sheet.facts lower.rules n k (node_of lower.nodes k)) (sym many)
            (subst (NodeFits sheet.facts lower.rules (length sheet.nodes) k) (sym (node_without_lem z sheet.nodes k)) fit);
      }

  start_fits : (p : Configuration) → OfSheet sheet p → OfSheet lower (configuration_without z p)
  start_fits p o =
      record {
        store = constraint_outside sheet p.store o.store;
        process = record {
          ascending = o.process.ascending;
          self_opening = λ k m. opened_without z sheet.nodes k ∙ o.process.self_opening k m;
        };
      }

  -- it is what every sheet that is read is
  pub without_admissible : Admissible sheet → Admissible lower
  without_admissible fine =
      let nodes : length lower.nodes ≡ length sheet.nodes = length-map sheet.nodes (node_without z) in
      let starts : length lower.starts ≡ length sheet.starts = length-map sheet.starts (configuration_without z) in
      let within = fine.within in
      record {
        well_formed = without_well_formed fine.well_formed;
        within = record {
          few_facts = within.few_facts;
          few_rules_lem = omega (arith, within.few_rules_lem, length-map sheet.rules (rule_without z));
          some_nodes = omega (arith, within.some_nodes, nodes);
          few_nodes = omega (arith, within.few_nodes, nodes);
          some_starts = omega (arith, within.some_starts, starts);
          few_starts = omega (arith, within.few_starts, starts);
          nodes_open = λ k l. rw (opened_without z sheet.nodes k) (within.nodes_open k (omega (arith, nodes, l)));
          starts_threads = λ p m.
              let y = mem_map (configuration_without z) sheet.starts m in
              rw y.2 (within.starts_threads y.0 y.1);
        };
        starts_fit = λ p m.
            let y = mem_map (configuration_without z) sheet.starts m in
            subst (OfSheet lower) (sym y.2) (start_fits y.0 (fine.starts_fit y.0 y.1));
      }

-- every sheet has bytes without its standing facts, under the same names
pub lowered : (bytes : List ℕ) (sheet : Sheet) → SheetIs bytes sheet
    → (names : List (List ℕ)) × SheetIs (encode names (sheet_without (least_store sheet.rules) sheet)) (sheet_without (least_store sheet.rules) sheet)
lowered bytes sheet is =
    let again = encoded_again bytes sheet is in
    (again.0, encoded again.0 (sheet_without (least_store sheet.rules) sheet) again.1 (without_admissible sheet (written_admissible bytes sheet is)))
