-- `read_sheet` reads the sections one after another; the first refusal is handed up, and the sheet is made of what was read.
use Rattle.std.proofs.Common.{sym, subst}
use Rattle.std.proofs.lemmas.Result.{err_from_is_err_and}
use Rattle.sheet_types.specs.Tabulate.{tabulate_length}
use Rattle.sheet_types.specs.Reading.{read_sheet}
use Rattle.sheet_types.specs.HeldSheet.{node_in}
use Rattle.sheet_types.specs.NodeTable.{nodes_of, opened_of}
use Rattle.start_reader.specs.OpenedNodes.{Few}
use Rattle.sheet_fields.specs.FieldLaws.{facts_gets}
use Rattle.sheet_fields.specs.SectionLaws.{rules_gets}
use Rattle.sheet_fields.specs.ReadingLaws.{no_facts, no_rules, no_nodes_lem, no_starts_lem, more_bytes, all_read, read_ends}
use Rattle.start_reader.specs.StartFound.{table_of}
use Rattle.sheet_reader.specs.SheetFound.{sheet_refused, count_few}
use Rattle.sheet_reader.proofs.read_sheet.Goals as goal

pub returns-in_err-facts : goal.returns-in_err-facts
returns-in_err-facts c =
    let s = c.args.s.now in
    let r = c.in_err-facts.ensures in
    let p = err_from_is_err_and c.from_residual.result c.from_residual.ensures.1 in
    rw (p.1, p.2) (sheet_refused _ (read_sheet s) _ (no_facts s (sym r)))

pub rules_at-requires : goal.rules_at-requires
rules_at-requires c =
    let f = (facts_gets c.args.s.now 0).holds _ _ (sym c.in_ok-facts.ensures) in
    (f.1.within, f.0)

pub returns-in_err-rule_count : goal.returns-in_err-rule_count
returns-in_err-rule_count c =
    let s = c.args.s.now in
    let facts = sym c.in_ok-facts.ensures in
    let r = c.in_err-rule_count.ensures in
    let p = err_from_is_err_and c.from_residual-in_err-rule_count.result c.from_residual-in_err-rule_count.ensures.1 in
    rw (p.1, p.2) (sheet_refused _ (read_sheet s) _ (no_rules s facts (sym r.reading)))

pub nodes_at-requires : goal.nodes_at-requires
nodes_at-requires c =
    let s = c.args.s.now in
    let rules = c.in_ok-rule_count.ensures in
    let f = (facts_gets s 0).holds _ _ (sym c.in_ok-facts.ensures) in
    let g = (rules_gets _ s _).holds _ _ (sym rules.reading) in
    (g.0.taken.within, f.0, count_few c.rules_at.new.rules _ g.0.few)

pub returns-in_err-nodes : goal.returns-in_err-nodes
returns-in_err-nodes c =
    let s = c.args.s.now in
    let facts = sym c.in_ok-facts.ensures in
    let rules = c.in_ok-rule_count.ensures in
    let r = c.in_err-nodes.ensures in
    let p = err_from_is_err_and c.from_residual-in_err-nodes.result c.from_residual-in_err-nodes.ensures.1 in
    rw (p.1, p.2) (sheet_refused _ (read_sheet s) _ (no_nodes_lem s facts (sym rules.reading) (sym r.reading)))

pub starts_at-requires : goal.starts_at-requires
starts_at-requires c =
    let s = c.args.s.now in
    let rules = c.in_ok-rule_count.ensures in
    let held = c.in_ok-nodes.ensures.held in
    let table = c.in_ok-nodes.nodes.table in
    let f = (facts_gets s 0).holds _ _ (sym c.in_ok-facts.ensures) in
    let g = (rules_gets _ s _).holds _ _ (sym rules.reading) in (
      held.within,
      f.0,
      count_few c.rules_at.new.rules _ g.0.few,
      held.few,
      held.room,
      subst (Few (opened_of table)) (tabulate_length (node_in (nodes_of table)) c.in_ok-nodes.nodes.count) held.table.opened.few,
    )

pub returns-in_err-start_count : goal.returns-in_err-start_count
returns-in_err-start_count c =
    let s = c.args.s.now in
    let facts = sym c.in_ok-facts.ensures in
    let rules = c.in_ok-rule_count.ensures in
    let nodes = c.in_ok-nodes.ensures in
    let r = c.in_err-start_count.ensures in
    let p = err_from_is_err_and c.from_residual-in_err-start_count.result c.from_residual-in_err-start_count.ensures.1 in
    rw (p.1, p.2) (sheet_refused _ (read_sheet s) _ (no_starts_lem s facts (sym rules.reading) (sym nodes.reading) (sym (r.reading _ (table_of (nodes_of c.in_ok-nodes.nodes.table) c.in_ok-nodes.nodes.count nodes.held.table.opened)))))

pub returns-then-start_count-s : goal.returns-then-start_count-s
returns-then-start_count-s c =
    let s = c.args.s.now in
    let facts = sym c.in_ok-facts.ensures in
    let rules = c.in_ok-rule_count.ensures in
    let nodes = c.in_ok-nodes.ensures in
    let starts = c.in_ok-start_count.ensures in
    let all = starts.reading _ (table_of (nodes_of c.in_ok-nodes.nodes.table) c.in_ok-nodes.nodes.count nodes.held.table.opened) in
    rw c.at.ensures
    (sheet_refused _ (read_sheet s) _ (more_bytes s facts (sym rules.reading) (sym nodes.reading) (sym all) c.if-start_count-s.true))

pub returns : goal.returns
returns c =
    let s = c.args.s.now in
    let facts = sym c.in_ok-facts.ensures in
    let rules = c.in_ok-rule_count.ensures in
    let nodes = c.in_ok-nodes.ensures in
    let starts = c.in_ok-start_count.ensures in
    let all = starts.reading _ (table_of (nodes_of c.in_ok-nodes.nodes.table) c.in_ok-nodes.nodes.count nodes.held.table.opened) in
    let whole = all_read s facts (sym rules.reading) (sym nodes.reading) (sym all) c.if-start_count-s.false in
    record {
      reading = sym (rw (read_ends s _ _ whole) at whole);
      held = record { table = nodes.held.table; threads = starts.held.threads };
    }
