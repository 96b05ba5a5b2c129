-- The labels found go behind those of the shelf, and the entry for them behind the entries: neither is changed.
use Rattle.ask_labels.specs.LabelShelfLaws.{put_answers}
use Rattle.ask_labels.proofs.add_labels.Goals as goal

pub returns : goal.returns
returns c =
    let x = c.args in
    let found = c.labels_from-n in
    rw c.put_entry.ensures
    (put_answers x.work.now found.new.work x.facts x.d x.c x.shelf.sets x.shelf.used found.result
    c.requires.0 c.requires.2 c.requires.3 found.ensures.0 found.ensures.1 found.ensures.2 c.requires.1)
