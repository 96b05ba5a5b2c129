-- The trail of two configurations that some round separates is the only one that can be walked: the promise fixes it step by step.
use Rattle.std.specs.Prelude.{◌≡◌, refl, Bool, true, false, List, [], ◌∷◌, ℕ, suc}
use Rattle.std.proofs.Common.{sym, ap, ap₂, ◌∙◌, subst, arith}
use Rattle.move_laws.specs.TestLaws.{neither_below}
use Rattle.move_laws.specs.AscendingLaws.{Order}
use Rattle.move_laws.specs.Sheet.{Configuration, Sheet}
use Rattle.move_laws.specs.Orders.{Move}
use Rattle.move_laws.specs.Moves.{Moves}
use Rattle.move_laws.specs.OrderLaws.{configuration_order, move_order}
use Rattle.comparison.specs.Refinement.{Round, FirstApart}
use Rattle.comparison.specs.SheetTransitions.{transitions}
use Rattle.comparison.specs.Trail as trail
use Rattle.comparison.specs.Trail.{TrailStep}
use Rattle.comparison.specs.Promise.{Tells, Telling, Replied, Walkable, unequal_stores, left_alone, left_replied, right_alone, right_replied}
use Rattle.comparison.proofs.TrailSentences.{none_before, one_round, none_earlier}

module _ (sheet : Sheet) where
  -- two configurations are first separated in one round, or level
  pub one_first : (R : ℕ → Configuration → Configuration → Type 0) {n m : ℕ} {p q : Configuration} → FirstApart (transitions sheet) R n p q
      → FirstApart (transitions sheet) R m p q → n ≡ m
  one_first R {n} {m} x y = neither_below n m (λ h. x.apart (y.together n h)) (λ h. y.apart (x.together m h))

  -- of two things neither of which stands before the other
  neither : {A : Type 0} (O : Order A) (a b : A) → (O.before a b ≡ true → ⊥) → (O.before b a ≡ true → ⊥) → a ≡ b
  neither O a b h k = O.total a b (fails_so (O.before a b) h) (fails_so (O.before b a) k)
    where
      fails_so : (t : Bool) → (t ≡ true → ⊥) → t ≡ false
      fails_so true n = absurd (n refl)
      fails_so false n = refl

  -- one move is taken
  abbrev labelled_move : ℕ → Configuration → Move
  labelled_move a t = record { label = a; target = t }

  one_taken : {r : ℕ} {p q : Configuration} {a b : ℕ} {t u : Configuration} → Telling sheet r p q a t → Telling sheet r p q b u
      → labelled_move a t ≡ labelled_move b u
  one_taken {a = a} {b = b} {t = t} {u = u} x y =
      neither move_order (labelled_move a t) (labelled_move b u) (none_before sheet y x) (none_before sheet x y)

  -- and replied to by one move
  one_reply : {q : Configuration} {a : ℕ} {t : Configuration} {k j : Move} {n m : ℕ} → Replied sheet q a t k n → Replied sheet q a t j m → k ≡ j
  one_reply {k = k} {j = j} x y =
      ap₂ labelled_move (x.label ∙ sym y.label)
      (neither configuration_order k.target j.target (none_earlier sheet y x) (none_earlier sheet x y))

  -- ---- one step and what follows it
  abbrev step_of : trail.Side → Move → trail.Reply → TrailStep
  step_of side m reply = record { side = side; label = m.label; target = m.target; reply = reply }

  -- the first separating round is one, so two moves that are taken are one move
  same_taken : {r s : ℕ} {p q : Configuration} {a b : ℕ} {t u : Configuration} → suc r ≡ suc s → Telling sheet r p q a t → Telling sheet s p q b u
      → labelled_move a t ≡ labelled_move b u
  same_taken {r} {s} {p} {q} {b = b} {u = u} e x y =
      let same : s ≡ r = omega (arith, e) in
      one_taken x (subst (λ (i : ℕ). Telling sheet i p q b u) same y)

  -- the other has no move with the label: then nobody replies
  alone_replied : {q : Configuration} {a b : ℕ} {t u : Configuration} {k : Move} {n : ℕ} → labelled_move a t ≡ labelled_move b u
      → ((v : Configuration) → Moves sheet q a v → ⊥) → Replied sheet q b u k n → ⊥
  alone_replied {q} {k = k} e quiet x =
      quiet k.target (subst (λ (l : ℕ). Moves sheet q l k.target) (x.label ∙ sym (ap (λ (m : Move). m.label) e)) x.move)

  -- both reply: with one move, into one pair
  both_replied : (side : trail.Side) (pair : Configuration → Configuration → ℕ → List TrailStep → Type 0) {q : Configuration} {a b : ℕ} {t u : Configuration}
      {k j : Move} {n m : ℕ} {steps more : List TrailStep} → labelled_move a t ≡ labelled_move b u → Replied sheet q a t k n → Replied sheet q b u j m
      → pair u j.target m more → ((ys : List TrailStep) → pair t k.target n ys → steps ≡ ys)
      → (step_of side (labelled_move a t) (trail.move k) ∷ steps) ≡ (step_of side (labelled_move b u) (trail.move j) ∷ more)
  both_replied side pair {q} {a} {b} {t} {u} {k} {j} {n} {m} {steps} {more} e x y w ih =
      let y2 : Replied sheet q a t j m = subst (λ (c : Move). Replied sheet q c.label c.target j m) (sym e) y in
      let ks : k ≡ j = one_reply x y2 in
      let ns : n ≡ m = one_round sheet x y2 in
      let w2 : pair t j.target m more = subst (λ (c : Move). pair c.target j.target m more) (sym e) w in
      let w3 : pair t k.target n more =
      subst (λ (c : Move). pair t c.target n more) (sym ks) (subst (λ (i : ℕ). pair t j.target i more) (sym ns) w2) in
      ap₂ (λ (s : TrailStep) (l : List TrailStep). s ∷ l) (ap₂ (λ (c d : Move). step_of side c (trail.move d)) e ks) (ih more w3)

  -- ---- the whole trail
  -- a move of the left is taken, and none of its moves tells
  left_none : {r s : ℕ} {p q : Configuration} {a : ℕ} {t : Configuration} → suc r ≡ suc s → Telling sheet r p q a t
      → ((b : ℕ) (u : Configuration) → Tells sheet s p q b u → ⊥) → ⊥
  left_none {r} {s} {p} {q} {a} {t} e x nobody =
      let same : r ≡ s = omega (arith, e) in
      nobody a t (subst (λ (i : ℕ). Tells sheet i p q a t) same x.tells)

  never : {r : ℕ} → 0 ≡ suc r → ⊥
  never e = omega (arith, e)

  pub trail_alone : {n m : ℕ} {p q : Configuration} {xs ys : List TrailStep} → Walkable sheet n p q xs → Walkable sheet m p q ys → xs ≡ ys
  trail_alone (unequal_stores f) (unequal_stores g) = refl
  trail_alone (unequal_stores f) (left_alone g y quiet) = absurd (never (one_first (Round (transitions sheet)) f g))
  trail_alone (unequal_stores f) (left_replied g y z l w) = absurd (never (one_first (Round (transitions sheet)) f g))
  trail_alone (unequal_stores f) (right_alone g nobody y quiet) = absurd (never (one_first (Round (transitions sheet)) f g))
  trail_alone (unequal_stores f) (right_replied g nobody y z l w) = absurd (never (one_first (Round (transitions sheet)) f g))
  trail_alone (left_alone f x quiet) (unequal_stores g) = absurd (never (one_first (Round (transitions sheet)) g f))
  trail_alone (left_replied f x y l w) (unequal_stores g) = absurd (never (one_first (Round (transitions sheet)) g f))
  trail_alone (right_alone f nobody x quiet) (unequal_stores g) = absurd (never (one_first (Round (transitions sheet)) g f))
  trail_alone (right_replied f nobody x y l w) (unequal_stores g) = absurd (never (one_first (Round (transitions sheet)) g f))
  -- the left takes the first move
  trail_alone (left_alone f x quiet) (left_alone g y nobody) = ap (λ (c : Move). step_of trail.left c trail.none ∷ []) (same_taken (one_first (Round (transitions sheet)) f g) x y)
  trail_alone (left_alone f x quiet) (left_replied g y z l w) = absurd (alone_replied (same_taken (one_first (Round (transitions sheet)) f g) x y) quiet z)
  trail_alone (left_replied f x z l w) (left_alone g y quiet) = absurd (alone_replied (same_taken (one_first (Round (transitions sheet)) g f) y x) quiet z)
  trail_alone (left_replied f x z l w) (left_replied g y z2 l2 w2) =
      both_replied trail.left (λ t u n ys. Walkable sheet n t u ys) (same_taken (one_first (Round (transitions sheet)) f g) x y) z z2 w2 (λ ys v. trail_alone w v)
  -- or the right does
  trail_alone (right_alone f nobody x quiet) (right_alone g nobody2 y quiet2) = ap (λ (c : Move). step_of trail.right c trail.none ∷ []) (same_taken (one_first (Round (transitions sheet)) f g) x y)
  trail_alone (right_alone f nobody x quiet) (right_replied g nobody2 y z l w) = absurd (alone_replied (same_taken (one_first (Round (transitions sheet)) f g) x y) quiet z)
  trail_alone (right_replied f nobody x z l w) (right_alone g nobody2 y quiet) = absurd (alone_replied (same_taken (one_first (Round (transitions sheet)) g f) y x) quiet z)
  trail_alone (right_replied f nobody x z l w) (right_replied g nobody2 y z2 l2 w2) =
      both_replied trail.right (λ t u n ys. Walkable sheet n u t ys) (same_taken (one_first (Round (transitions sheet)) f g) x y) z z2 w2 (λ ys v. trail_alone w v)
  -- not one the left and the other the right: where the right moves, no move of the left tells
  trail_alone (left_alone f x quiet) (right_alone g nobody y quiet2) = absurd (left_none (one_first (Round (transitions sheet)) f g) x nobody)
  trail_alone (left_alone f x quiet) (right_replied g nobody y z l w) = absurd (left_none (one_first (Round (transitions sheet)) f g) x nobody)
  trail_alone (left_replied f x z l w) (right_alone g nobody y quiet) = absurd (left_none (one_first (Round (transitions sheet)) f g) x nobody)
  trail_alone (left_replied f x z l w) (right_replied g nobody y z2 l2 w2) = absurd (left_none (one_first (Round (transitions sheet)) f g) x nobody)
  trail_alone (right_alone f nobody x quiet) (left_alone g y quiet2) = absurd (left_none (one_first (Round (transitions sheet)) g f) y nobody)
  trail_alone (right_alone f nobody x quiet) (left_replied g y z l w) = absurd (left_none (one_first (Round (transitions sheet)) g f) y nobody)
  trail_alone (right_replied f nobody x z l w) (left_alone g y quiet) = absurd (left_none (one_first (Round (transitions sheet)) g f) y nobody)
  trail_alone (right_replied f nobody x z l w) (left_replied g y z2 l2 w2) = absurd (left_none (one_first (Round (transitions sheet)) g f) y nobody)
