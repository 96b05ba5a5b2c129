-- An entry for what d lacks of c has the labels of an ask of c; where there is none they are found, behind those of the shelf
-- or of one with no entries.
use Rattle.ask_labels.specs.LabelShelfLaws.{entry_answers, missing_answers}
use Rattle.label_search.specs.FactsOutside.{outside}
use Rattle.ask_labels.specs.LabelShelf.{LabelsGiven}
use mathlib.Core.Path.{◌∙◌, subst}
use Prim.Native.Nat.{ℕ}
use Rattle.ask_labels.proofs.labels_at.Goals as goal

pub returns-in-Some : goal.returns-in-Some
returns-in-Some c =
    let x = c.args in
    let entry = c.in-Some.ensures in
    missing_answers x.c
    (entry_answers x.work.now x.facts x.d (outside x.d x.c) x.shelf c.in-Some.i c.requires.1 entry.0 (entry.1 ∙ c.missing-lacking.ensures))

pub returns : goal.returns
returns c =
    let x = c.args in
    let found = c.add_labels in
    let lacking = c.missing-lacking in
    missing_answers x.c
    (subst (λ (m : ℕ). LabelsGiven x.work.now x.facts x.d m found.result found.new.work) lacking.ensures found.ensures)
