-- The bytes copied stand from the place on.
use Rattle.text.specs.StoredText.{stored_whole}
use Rattle.text.proofs.put_text.Goals as goal

pub returns : goal.returns
returns c =
    let copied = c.copy_from_slice in
    stored_whole c.args.out.now c.args.at c.args.text.now copied.new.self c.requires copied.ensures.after
