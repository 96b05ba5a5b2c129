-- All starts are the seeds.
use Rattle.call_frame.specs.BegunLaws.{all_begun}
use Rattle.call_frame.proofs.begin_all.Goals as goal

pub returns : goal.returns
returns c = all_begun c.begin.ensures
