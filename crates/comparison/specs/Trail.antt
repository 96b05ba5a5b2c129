-- Document 01, "The report": the trail.
use Rattle.std.specs.Prelude.{true, false, cond, not, ◌&&◌, ◌||◌, List, [], ◌∷◌, ℕ, zero, suc, ◌-◌, length, get_or, eqb, ltb}
use Rattle.moves.specs.Lists.{select}
use Rattle.moves.specs.Sheet.{Configuration, Sheet}
use Rattle.moves.specs.Orders.{Move}
use Rattle.moves.specs.Moves.{moves}
use Rattle.comparison.specs.Rounds.{redundant, answers, apart_in}

pub data Side : Type 0 where
  left : Side
  right : Side

-- a reply, or none
pub data Reply : Type 0 where
  none : Reply
  move : Move → Reply

-- A step of the trail: who moves, the label, the mover's target and the other's reply.
pub record TrailStep : Type 0 where
  pub side : Side
  pub label : ℕ
  pub target : Configuration
  pub reply : Reply

-- the move whose target has the highest value, the earlier one on a tie
abbrev pub highest : (Configuration → ℕ) → Move → List Move → Move
highest value best [] = best
highest value best (m ∷ ms) = highest value (cond (ltb (value best.target) (value m.target)) m best) ms

abbrev pub highest_of : (Configuration → ℕ) → List Move → Reply
highest_of value [] = none
highest_of value (m ∷ ms) = move (highest value m ms)

module _ (sheet : Sheet) (set : List Configuration) (rs : List (List ℕ)) where
  -- the irredundant moves of p that q does not answer, in their order
  abbrev pub unanswered : List ℕ → Configuration → Configuration → List Move
  unanswered classes p q = select (λ m. not (redundant sheet set classes p m) && not (answers sheet set classes q m)) (moves sheet p)

  -- The reply to m: among q's moves with its label, the one whose target is first separated from m's in the highest round, the
  -- earlier target on a tie.
  abbrev pub reply_to : Configuration → Move → Reply
  reply_to q m = highest_of (apart_in set rs m.target) (select (λ k. eqb k.label m.label) (moves sheet q))

  -- A step and what follows it. The trail ends where there is no reply; sides are kept.
  abbrev pub after : (Configuration → Configuration → List TrailStep) → Side → Move → Reply → List TrailStep
  after more side m none = record { side = side; label = m.label; target = m.target; reply = none } ∷ []
  after more left m (move k) = record { side = left; label = m.label; target = m.target; reply = move k } ∷ more m.target k.target
  after more right m (move k) = record { side = right; label = m.label; target = m.target; reply = move k } ∷ more k.target m.target

  -- the left's moves are tried before the right's
  abbrev pub first_of : (Configuration → Configuration → List TrailStep) → Configuration → Configuration → List Move → List Move → List TrailStep
  first_of more p q (m ∷ ms) ks = after more left m (reply_to q m)
  first_of more p q [] (k ∷ ks) = after more right k (reply_to p k)
  first_of more p q [] [] = []

  -- From the pair p and q, at most n steps. At a pair first separated in round r above 0, the first irredundant move of round
  -- r - 1 without an answer is taken; a pair of round 0, or one that is never separated, ends the trail.
  unfoldable pub trail_from : ℕ → Configuration → Configuration → List TrailStep
  trail_from zero p q = []
  trail_from (suc n) p q =
      let r = apart_in set rs p q in
      elim (eqb r 0 || eqb r (length rs)) [
        | true ↦ []
        | false ↦
            let classes = get_or rs (r - 1) [] in
            first_of (trail_from n) p q (unanswered classes p q) (unanswered classes q p)
      ]

  -- The trail of a comparison. Each step leads to a pair that an earlier round separates.
  abbrev pub trail : Configuration → Configuration → List TrailStep
  trail p q = trail_from (length rs) p q
