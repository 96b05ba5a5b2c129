-- Source 001, section 4: Algorithm 2 over the paper's own configurations, as relations. The set IS* by the rules (IS), (RS) and
-- (RD), the function IR, and the partitions P⁰, P¹ and so on. IR is as printed; a partition keeps to the blocks of the one
-- before, as the text says ("any iteration splits blocks and never fuses them"), which IR alone does not give.
use Rattle.std.specs.Prelude.{◌≡◌, ℕ, zero, suc}
use mathlib.Core.List.{List, Memᴰ}
use Rattle.comparison_laws.specs.Sheet.{Sheet}
use Rattle.paper.specs.Terms.{Conf}
use Rattle.paper.specs.Bisimulations.{Moves, Derives, RedundantIn}

module _ (s : Sheet) where
  -- IS*
  pub data Starred (seeds : List Conf) : Conf → Type 0 where
    IS : {x : Conf} → Memᴰ x seeds → Starred seeds x
    RS : {x t : Conf} {a : ℕ} → Starred seeds x → Moves s x a t → Starred seeds t
    RD : {x t t' u : Conf} {a b : ℕ} → Starred seeds x → Moves s x a t → Moves s x b t' → Derives s a t b u → Starred seeds u

  -- IR(P): every transition of x that is irredundant in P is answered by y, with the same label, into P
  abbrev pub IR : (Conf → Conf → Type 0) → Conf → Conf → Type 0
  IR P x y = (a : ℕ) (t : Conf) → Moves s x a t → (RedundantIn s P x a t → ⊥) → (u : Conf) × Moves s y a u × P t u

  -- Pⁿ: P⁰ has equal stores in one block. IR is printed from the one to the other only; a block has no direction, so both
  -- directions stand here.
  abbrev pub Partition : ℕ → Conf → Conf → Type 0
  Partition zero x y = x.store ≡ y.store
  Partition (suc n) x y = Partition n x y × IR (Partition n) x y × IR (Partition n) y x
