-- What the promise's words on the trail come to, of any two moves that are taken and any two replies: neither is before the other,
-- and the new pairs have one round.
use Rattle.std.specs.Prelude.{◌≡◌, true, ℕ}
use Rattle.std.proofs.Common.{subst, arith}
use Rattle.moves.specs.Sheet.{Configuration, Sheet}
use Rattle.moves.specs.Orders.{Move, configuration_before, move_before}
use Rattle.moves.specs.Moves.{moves, Moves}
use Rattle.comparison.specs.Promise.{Telling, Replied}

module _ (sheet : Sheet) where
  pub none_before : {r : ℕ} {p q : Configuration} {a b : ℕ} {t u : Configuration} → Telling sheet r p q a t → Telling sheet r p q b u
      → move_before (record { label = b; target = u }) (record { label = a; target = t }) ≡ true → ⊥
  none_before {b = b} {u = u} x y h = x.first b u y.tells h

  -- a reply as a move with the label that is replied to
  reply_moves : {q : Configuration} {a : ℕ} {t : Configuration} {k : Move} {n : ℕ} → Replied sheet q a t k n → Moves sheet q a k.target
  reply_moves {q = q} {k = k} x = subst (λ (l : ℕ). Moves sheet q l k.target) x.label x.move

  module _ {q : Configuration} {a : ℕ} {t : Configuration} {k j : Move} {n m : ℕ} (x : Replied sheet q a t k n) (y : Replied sheet q a t j m) where
    pub one_round : n ≡ m
    one_round = omega (arith, x.highest j.target m (reply_moves y) y.round, y.highest k.target n (reply_moves x) x.round)

    pub none_earlier : configuration_before j.target k.target ≡ true → ⊥
    none_earlier h = x.earliest j.target (reply_moves y) (rw one_round y.round) h
