-- The chosen starts are the first two seeds.
use mathlib.Core.Path.{refl}
use mathlib.Core.List.{[]}
use Rattle.call_frame.specs.BegunLaws.{pair_begun}
use Rattle.call_frame.proofs.begin_pair.Goals as goal

pub returns : goal.returns
returns c =
    pair_begun _ c.begin-seeded.ensures refl (record { store = 0; count = 0; threads = [] }) refl refl
