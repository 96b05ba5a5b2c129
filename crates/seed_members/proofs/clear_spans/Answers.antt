-- `clear_spans`: the part of the spans is the fill.
use Rattle.seed_members.specs.SeedLaws.{spans_filled}
use Rattle.seed_members.proofs.clear_spans.Goals as goal

pub returns : goal.returns
returns c = spans_filled c.args.work.now c.fill.new.self c.requires (c.fill.ensures.after (λ y h. h))
