-- The member is found by its numbers, and its class stands at its place.
use mathlib.Core.Path.{◌∙◌}
use Rattle.start_classes.specs.StartClassLaws.{found_class}
use Rattle.start_classes.proofs.class_of.Goals as goal

pub returns : goal.returns
returns c =
    let numbers = c.numbers in
    let find = c.find_member-place in
    c.class_at.ensures
    ∙ found_class c.args.work.now c.args.n c.args.p c.requires numbers.result numbers.ensures find.result find.ensures
