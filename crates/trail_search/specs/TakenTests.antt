-- What the move that is taken comes to, way by way.
use Rattle.std.specs.Prelude.{◌≡◌, refl, List, ℕ, ◌+◌, ◌<◌, get_or}
use Rattle.std.proofs.Common.{ap}
use Rattle.work_layout.specs.SetLayout.{first_move, move_total}
use Rattle.telling_moves.specs.PlaceTests.{First}
use Rattle.telling_moves.specs.TrailPlaces.{tells_at}
use Rattle.trail_search.specs.TakenMove.{Takes, from_left, from_right}
use Rattle.work_layout.specs.WorkLayout.{moves_at}

module _ (w : List ℕ) (n last r p q : ℕ) where
  pub takes_left : (j first : ℕ) → First (tells_at w n last r (first_move w p) q) (move_total w p) j → j < move_total w p
      → first ≡ first_move w p → Takes w n last r p q 0 (get_or w (moves_at + first + j) 0)
  takes_left j first F l e = from_left j F l refl (ap (λ (f : ℕ). get_or w (moves_at + f + j) 0) e)

  pub takes_right : First (tells_at w n last r (first_move w p) q) (move_total w p) (move_total w p)
      → (k first : ℕ) → First (tells_at w n last r (first_move w q) p) (move_total w q) k → k < move_total w q
      → first ≡ first_move w q → Takes w n last r p q 1 (get_or w (moves_at + first + k) 0)
  takes_right F k first G l e = from_right F k G l refl (ap (λ (f : ℕ). get_or w (moves_at + f + k) 0) e)
