-- A node's rank is its number.
use mathlib.Core.Path.{refl}
use Rattle.threads_beside.specs.Ranks.{rank_of}
use Rattle.nodes_to_visit.proofs.rank_of.Goals as goal

pub returns : goal.returns
unfolding rank_of
returns c = refl
