-- Processes that tell and ask constraints of the sheet only.
use Rattle.std.specs.Prelude.{ℕ}
use Rattle.comparison_laws.specs.Sheet.{Sheet}
use Rattle.paper.specs.Terms.{Term, nil, tell, ask, parallel, choice, call}
use Rattle.paper.specs.Bisimulations.{Con}

-- every constraint that a process tells or asks is one of the sheet
pub data Constrained (s : Sheet) : Term → Type 0 where
  of_nil : Constrained s nil
  of_tell : {c : ℕ} → Con s c → Constrained s (tell c)
  of_ask : {c : ℕ} {p : Term} → Con s c → Constrained s p → Constrained s (ask c p)
  of_parallel : {p q : Term} → Constrained s p → Constrained s q → Constrained s (parallel p q)
  of_choice : {p q : Term} → Constrained s p → Constrained s q → Constrained s (choice p q)
  of_call : {k : ℕ} → Constrained s (call k)
