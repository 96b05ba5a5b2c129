-- What members and moves in the work slice mean for the set that grows from given seeds, while the moves of one member are
-- collected.
use Rattle.std.specs.Prelude.{◌≡◌, ℕ, length}
use mathlib.Core.List.{List, Memᴰ}
use Rattle.comparison_laws.specs.Lists.{Distinct}
use Rattle.comparison_laws.specs.Sheet.{Configuration, Sheet}
use Rattle.comparison_laws.specs.WellFormed.{WellFormed, OfSheet}
use Rattle.comparison_laws.specs.Orders.{Move}
use Rattle.comparison_laws.specs.Moves.{moves}
use Rattle.comparison_laws.specs.Refinement.{Member}
use Rattle.comparison_laws.specs.CallLimits.{Limits}
use Rattle.comparison_laws.specs.SheetTransitions.{transitions}
use Rattle.comparison_laws.specs.Promise.{MemberMove}
use Rattle.collected_moves.specs.declared.Caps.{Caps}
use Rattle.collected_moves.specs.declared.Running.{Running}
use Rattle.collected_moves.specs.CollectedMoves.{members_of, moves_of}

-- The set that is worked out, by its sheet, limits and seeds.
pub record Growth : Type 0 where
  pub sheet : Sheet
  pub limits : Limits
  pub seeds : List Configuration

-- Its sheet is well formed, its seeds are configurations of it, and the caps in the code are its limits.
pub record Sound (g : Growth) (l : Caps) : Type 0 where
  pub well_formed : WellFormed g.sheet
  pub seeds_of : (p : Configuration) → Memᴰ p g.seeds → OfSheet g.sheet p
  pub limits : (g.limits.members ≡ l.members) × (g.limits.threads ≡ l.threads) × (g.limits.moves ≡ l.moves)

-- the set itself
abbrev pub InSet : Growth → Configuration → Type 0
InSet g = Member (transitions g.sheet) g.seeds

-- The member in hand, and the moves of others that stand before its own.
pub record InHand (g : Growth) : Type 0 where
  pub member : Configuration
  pub in_set : InSet g member
  pub earlier : List MemberMove
  pub distinct : Distinct earlier
  pub moves_of_lem : (x : MemberMove) → Memᴰ x earlier → InSet g x.member × Memᴰ x.move (moves g.sheet x.member)
  pub others : (x : MemberMove) → Memᴰ x earlier → x.member ≡ member → ⊥

-- All members kept are in the set, and what is collected are moves of the member in hand; as many moves stand before them as
-- the others have.
pub record Gathered (g : Growth) (h : InHand g) (w : List ℕ) (first : ℕ) (s : Running) : Type 0 where
  pub before : length h.earlier ≡ first
  pub members_in_lem : (x : Configuration) → Memᴰ x (members_of w s) → InSet g x
  pub moves_of_lem : (k : Move) → Memᴰ k (moves_of w first s) → Memᴰ k (moves g.sheet h.member)
