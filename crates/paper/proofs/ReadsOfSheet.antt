-- A process made of nodes at a constraint is a configuration of the sheet: what nodes open to opens to itself.
use Rattle.std.specs.Prelude.{◌≡◌, ℕ}
use Rattle.std.proofs.Common.{sym, subst, ⊎_elim}
use mathlib.Core.List.Memᴰ
use mathlib.Core.List.{List, [], ◌∷◌, Memᴰ}
use Rattle.comparison_laws.specs.Lists.{sort_up}
use Rattle.comparison_laws.specs.AscendingLaws.{sort_up_only, sort_up_not_falling}
use Rattle.comparison_laws.specs.Sheet.{Node, Configuration, Sheet, opened}
use Rattle.comparison_laws.specs.WellFormed.{Process, OfSheet, WellFormed}
use Rattle.comparison_laws.specs.OpeningLaws.{opened_opens}
use Rattle.paper.specs.Terms.{Term, Conf, Opens, opens_nil, opens_call, opens_parallel, Reads}
use Rattle.paper.specs.Bisimulations.{Con}

-- each thread that a process opens to opens to itself
opens_self : {nodes : List Node} {p : Term} {ts : List ℕ} → Opens nodes p ts → (k : ℕ) → Memᴰ k ts → opened nodes k ≡ k ∷ []
opens_self opens_nil k m = absurd (Memᴰ.not-nil m)
opens_self {nodes} (opens_call j) k m = opened_opens nodes j m
opens_self (opens_parallel {ps = ps} {qs = qs} o u) k m =
    ⊎_elim (λ (i : Memᴰ k ps). opens_self o k i) (λ (i : Memᴰ k qs). opens_self u k i) (Memᴰ.append_cases ps m)

opens_process : {nodes : List Node} {p : Term} {ts : List ℕ} → Opens nodes p ts → Process nodes (sort_up ts)
opens_process {ts = ts} o = record { ascending = sort_up_not_falling ts; self_opening = λ k m. opens_self o k (sort_up_only ts m) }

pub reads_of_sheet : (s : Sheet) → WellFormed s → (x : Conf) (p : Configuration) → Con s x.store → Reads s x p → OfSheet s p
reads_of_sheet s _ x p c r = record {
  store = subst (λ (d : ℕ). Con s d) (sym r.same_store) c;
  process = subst (λ (ts : List ℕ). Process s.nodes ts) (sym r.in_order) (opens_process r.opens);
}
