-- The best of the replies that were passed.
use Rattle.std.specs.Prelude.{◌≡◌, Option, None, IfSome, List, ℕ, ◌+◌, ◌%◌, get_or}
use Rattle.std.proofs.Common.{sym, ap, ap₂, ◌∙◌, subst}
use Rattle.work_layout.specs.SetLayout.{first_move, move_total}
use Rattle.telling_moves.specs.TrailLayout.{PairFits}
use Rattle.trail_replies.specs.Replies.{better_at, reply_below, reply_first, reply_next, better_keeps}
use Rattle.work_layout.specs.WorkLayout.{moves_at}

-- the best of the first k moves of q
pub record BestSoFar (w : List ℕ) (last y q : ℕ) (best : Option ℕ) (k : ℕ) : Type 0 where
  pub best_is : best ≡ reply_below w last y q k
  pub fits : IfSome best (λ b. PairFits w last (y % 65536) b)

module _ (w : List ℕ) (last y q : ℕ) where
  pub best_first : BestSoFar w last y q None 0
  best_first = record { best_is = sym (reply_first w last y q); fits = tt }

  module _ (first total : ℕ) (ef : first ≡ first_move w q) (et : total ≡ move_total w q) where
    pub best_next : (best : Option ℕ) (k : ℕ) (next : Option ℕ) → BestSoFar w last y q best k
        → PairFits w last (y % 65536) (get_or w (moves_at + first + k) 0 % 65536)
        → next ≡ better_at w last y best (get_or w (moves_at + first + k) 0)
        → BestSoFar w last y q next (k + 1)
    best_next best k next B t e = record {
      best_is =
          e
          ∙ ap₂ (λ (b : Option ℕ) (f : ℕ). better_at w last y b (get_or w (moves_at + f + k) 0)) B.best_is ef
          ∙ sym (reply_next w last y q k);
      fits = subst (λ (o : Option ℕ). IfSome o (λ b. PairFits w last (y % 65536) b)) (sym e)
          (better_keeps w last y best (get_or w (moves_at + first + k) 0) (PairFits w last (y % 65536)) t B.fits);
    }

    pub best_end : (best : Option ℕ) (k : ℕ) → BestSoFar w last y q best k → k ≡ total → best ≡ reply_below w last y q (move_total w q)
    best_end best k B h = B.best_is ∙ ap (reply_below w last y q) (h ∙ et)
