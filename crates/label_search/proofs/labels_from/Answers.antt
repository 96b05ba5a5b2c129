-- Where c is inside d the least store is the one label; else the labels are those that the scan finds, put in order.
use borrow.Author.Rules.{rules}
use native.Mathlib.Omega.{arith}
use Prim.Native.Nat.{◌+◌, ◌/◌, ◌^◌}
use lib.ListN.{get_or}
use Rattle.closure_table.specs.Frames.{outside_set}
use Rattle.label_search.specs.LabelScanLaws.{least_alone, numbers_distinct, sorted_labels, sorted_same}
use Rattle.label_search.proofs.labels_from.Goals as goal

pub returns-then-c-d : goal.returns-then-c-d
returns-then-c-d c =
    let x = c.args in (
      least_alone x.facts x.d x.c x.at x.work.now c.requires c.if-c-d.true,
      omega arith,
      outside_set x.at (x.at + 2 ^ x.facts / 2 + 2) x.work.now x.at (get_or x.work.now 0 0) (omega arith) (omega arith),
    )

pub sort_numbers-requires : goal.sort_numbers-requires
sort_numbers-requires c =
    let x = c.args in
    let scan = c.scan_labels-n in
    let n = numbers_distinct x.facts x.d x.c x.at x.work.now c.requires scan.result scan.new.work scan.ensures.1 in
    (search rules, omega (arith, scan.ensures.2.long), n scan.ensures.0)

pub returns : goal.returns
returns c =
    let x = c.args in
    let scan = c.scan_labels-n in
    let sort = c.sort_numbers in (
      sorted_labels x.facts x.d x.c x.at x.work.now c.requires scan.result scan.new.work scan.ensures.1 sort.new.work
          sort.ensures scan.ensures.0,
      scan.ensures.1,
      sorted_same x.facts x.d x.c x.at x.work.now c.requires scan.result scan.new.work scan.ensures.1 sort.new.work
          sort.ensures scan.ensures.2,
    )
