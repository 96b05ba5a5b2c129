-- When the sets below v that have all facts of d are tried, the labels among what they give stand from `at` on, and there is
-- room for all.
use borrow.Author.Rules.{rules}
use native.Mathlib.Omega.{arith}
use Prim.Native.Nat.{◌≤◌}
use lib.ListN.{take, drop}
use Rattle.std.proofs.Common.{◌≡◌, refl, ap, ◌∙◌, Bool, true, false, cond}
use Rattle.std.specs.Int.{from_bool}
use Rattle.label_search.specs.AskLabels.{is_next}
use Rattle.label_search.specs.SetsAbove.{above_next}
use Rattle.label_search.specs.LabelScanLaws.{scanned_none, scanned_next, below_all}
use Rattle.label_search.proofs.scan_labels.Goals as goal

-- a label counts one
counted : (b : Bool) → (from_bool b ≡ cond b 1 0) × (cond b 1 0 ≤ 1)
counted true = (refl, omega arith)
counted false = (refl, omega arith)

pub loop-v-init : goal.loop-v-init
loop-v-init c =
    let x = c.args in
    (scanned_none x.facts x.d x.c x.at x.work.now c.requires, search rules, search rules)

pub loop-v-smaller : goal.loop-v-smaller
loop-v-smaller c =
    let x = c.args in
    let l = c.loop-v in
    omega (arith, above_next x.d l.v)

pub loop-v-preserved : goal.loop-v-preserved
loop-v-preserved c =
    let x = c.args in
    let l = c.loop-v in
    let t = c.try_set-t in
    let one = counted (is_next l.work x.d x.c (take l.n (drop x.at l.work)) l.v) in
    let k = c.from-n.ensures ∙ ap from_bool t.ensures.0 ∙ one.0 in (
      scanned_next x.facts x.d x.c x.at x.work.now c.requires l.v l.n c.from-n.result l.work l.invariant.0 (omega arith) k (rw k one.1),
      t.ensures.1,
      omega (arith, t.ensures.2),
    )

pub returns : goal.returns
returns c =
    let x = c.args in
    let l = c.loop-v in
    let all = l.invariant.0 in
    let found = take l.n (drop x.at l.work) in
    (below_all x.work.now x.facts x.d x.c l.v found c.requires.store (omega arith) all.found, all.few, all.same)
