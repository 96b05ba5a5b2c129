-- Source 001, Theorem 2: what is reachable from the seeds, and each of it with every constraint joined to its store.
use Rattle.std.specs.Prelude.{ℕ}
use mathlib.Core.List.{List, map, Memᴰ}
use Rattle.comparison_laws.specs.Lists.{concat_map}
use Rattle.comparison_laws.specs.Sheet.{Sheet}
use Rattle.comparison_laws.specs.Moves.{constraints}
use Rattle.paper.specs.Terms.{Conf}
use Rattle.paper.specs.Bisimulations.{Moves, with_added}

-- Config(IS): the seeds and what transitions reach from them
pub data ReachableTerm (s : Sheet) (seeds : List Conf) : Conf → Type 0 where
  start : {x : Conf} → Memᴰ x seeds → ReachableTerm s seeds x
  next : {x t : Conf} {a : ℕ} → ReachableTerm s seeds x → Moves s x a t → ReachableTerm s seeds t

-- every constraint of the sheet joined to every configuration of a list
abbrev pub with_all_terms : Sheet → List Conf → List Conf
with_all_terms s xs = concat_map (λ e. map (with_added s e) xs) (constraints s)
