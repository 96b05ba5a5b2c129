-- Two sheets of which one moves as the other does with z in every store and label.
use Rattle.std.specs.Prelude.{◌≡◌, ℕ}
use mathlib.Core.List.{List, map, Memᴰ}
use Rattle.comparison_laws.specs.Stores.{strictly_below}
use Rattle.comparison_laws.specs.Sheet.{Configuration, Sheet}
use Rattle.comparison_laws.specs.Orders.{Move}
use Rattle.comparison_laws.specs.Moves.{moves, add}
use Rattle.standing_laws.specs.StandingFacts.{raised, raised_configuration, raised_move}

-- Said of the stores and labels that are in `In`, which moves and additions do not leave.
pub record RaisedBy (z : ℕ) (In : ℕ → Type 0) (low high : Sheet) : Type 0 where
  pub moves_raised : (p : Configuration) → In p.store → moves high (raised_configuration z p) ≡ map (raised_move z) (moves low p)
  pub moves_in : (p : Configuration) → In p.store → (m : Move) → Memᴰ m (moves low p) → In m.label × In m.target.store
  pub add_raised : (a : ℕ) (p : Configuration) → In a → In p.store
      → add high (raised z a) (raised_configuration z p) ≡ raised_configuration z (add low a p)
  pub add_in : (a : ℕ) (p : Configuration) → In a → In p.store → In (add low a p).store
  pub below_raised : (a b : ℕ) → In a → In b → strictly_below (raised z a) (raised z b) ≡ strictly_below a b

-- every configuration of a list is in it
abbrev pub AllIn : (ℕ → Type 0) → List Configuration → Type 0
AllIn In ps = (p : Configuration) → Memᴰ p ps → In p.store
