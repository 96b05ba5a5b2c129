-- An irredundant bisimulation is inside every round of document 01, whether or not its redundancy is decidable: a move that is
-- irredundant in a round is so in the smaller relation.
use Rattle.std.proofs.Common.{sym, ◌∙◌}
use Rattle.std.specs.Prelude.{ℕ, zero, suc}
use Rattle.comparison_laws.specs.Sheet.{Configuration, Sheet}
use Rattle.comparison_laws.specs.WellFormed.{WellFormed}
use Rattle.comparison_laws.specs.Refinement.{Answered, Round}
use Rattle.comparison_laws.specs.SheetTransitions.{transitions}
use Rattle.paper.specs.Terms.{Conf, Reads}
use Rattle.paper.specs.Bisimulations.{IrredundantBisimulation}
use Rattle.paper.proofs.Barbs.{same_stores}
use Rattle.paper.proofs.Bridge.{transition_to_move, move_to_transition}
use Rattle.paper.proofs.Redundancy.{redundant_read}

module _ (s : Sheet) (wf : WellFormed s) (R : Conf → Conf → Type 0) (b : IrredundantBisimulation s R) where
  -- R's pairs are pairs of Q, however they are read
  abbrev InsideAs : (Configuration → Configuration → Type 0) → Type 0
  InsideAs Q = (x y : Conf) (p q : Configuration) → R x y → Reads s x p → Reads s y q → Q p q

  answered : (Q : Configuration → Configuration → Type 0) → InsideAs Q → InsideAs (Answered (transitions s) Q)
  answered Q f x y p q r rx ry c t m irredundant =
      let w = move_to_transition s wf x p c t rx m in
      let v = b.transitions x y c w.0 r w.1
      (λ h. irredundant (redundant_read s wf R b.relation.symmetric Q x p c w.0 t rx w.2 w.1 f h)) in
      let z = transition_to_move s wf y q c v.0 ry v.1 in
      (z.0, z.2, f w.0 v.0 t z.0 v.2 w.2 z.1)

  -- pairs of an irredundant bisimulation are together in every round
  pub irredundant_round : (n : ℕ) (x y : Conf) (p q : Configuration) → R x y → Reads s x p → Reads s y q → Round (transitions s) n p q
  irredundant_round zero x y p q r rx ry = rx.same_store ∙ same_stores s R b.relation b.barbs x y r ∙ sym ry.same_store
  irredundant_round (suc n) x y p q r rx ry = (
    irredundant_round n x y p q r rx ry,
    answered (Round (transitions s) n) (irredundant_round n) x y p q r rx ry,
    answered (Round (transitions s) n) (irredundant_round n) y x q p (b.relation.symmetric x y r) ry rx,
  )
