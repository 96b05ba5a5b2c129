-- The reply to a move by places: among the moves of the other with its label the one whose target is separated last, the
-- earlier one on a tie.
use Rattle.std.specs.Prelude.{◌≡◌, refl, Option, Some, None, IfSome, Bool, true, false, cond, List, [], ◌∷◌, ◌++◌, map, ℕ, zero, suc, ◌+◌, ◌-◌, ◌/◌, ◌%◌, ◌≤◌, ◌<◌, eqb, ltb}
use Rattle.std.proofs.Common.{sym, ap, ap₂, ◌∙◌, subst, arith, add-one}
use Rattle.work_layout.specs.Lists.{select}
use Rattle.work_layout.specs.Tabulate.{tabulate, tabulate_next, tabulate_none}
use Rattle.work_layout.specs.NumberLaws.{numbers_tabulate}
use Rattle.work_layout.specs.Sheet.{Configuration, Sheet}
use Rattle.work_layout.specs.Orders.{Move}
use Rattle.work_layout.specs.SetLayout.{member_at, first_move, move_total, move_numbers_at, move_from}
use Rattle.work_layout.specs.Rounds.{rounds, apart_in}
use Rattle.work_layout.specs.Trail.{Reply, none, move, highest, highest_of, reply_to}
use Rattle.telling_moves.specs.RoundLayout.{number_in}
use Rattle.telling_moves.specs.TrailLayout.{apart_at, TrailHeld}
use Rattle.telling_moves.specs.TrailPlaces.{move_number}
use Rattle.work_layout.specs.WorkLayout.{moves_at}

-- ---- what is computed
-- the later of the best target so far and place u, in reply to move y
abbrev pub later_of : List ℕ → ℕ → ℕ → Option ℕ → ℕ → Option ℕ
later_of w last y None u = Some u
later_of w last y (Some b) u = Some (cond (ltb (apart_at w last (y % 65536) b) (apart_at w last (y % 65536) u)) u b)

-- the later of the best target so far and that of move x, in reply to move y
abbrev pub better_at : List ℕ → ℕ → ℕ → Option ℕ → ℕ → Option ℕ
better_at w last y best x = cond (eqb (x / 65536) (y / 65536)) (later_of w last y best (x % 65536)) best

-- the best target among the first k moves of the member at place q
unfoldable pub reply_below : List ℕ → ℕ → ℕ → ℕ → ℕ → Option ℕ
reply_below w last y q zero = None
reply_below w last y q (suc k) = better_at w last y (reply_below w last y q k) (move_number w q k)

-- and among all of them
abbrev pub reply_at : List ℕ → ℕ → ℕ → ℕ → Option ℕ
reply_at w last y q = reply_below w last y q (move_total w q)

pub reply_first : (w : List ℕ) (last y q : ℕ) → reply_below w last y q 0 ≡ None
unfolding reply_below
reply_first w last y q = refl

pub reply_next : (w : List ℕ) (last y q k : ℕ)
    → reply_below w last y q (k + 1) ≡ better_at w last y (reply_below w last y q k) (move_number w q k)
unfolding reply_below
reply_next w last y q k = rw (add-one k)

-- it is none, or has what the target of x and the best so far have
pub better_keeps : (w : List ℕ) (last y : ℕ) (best : Option ℕ) (x : ℕ) (Q : ℕ → Type 0) → Q (x % 65536) → IfSome best Q
    → IfSome (better_at w last y best x) Q
better_keeps w last y None x Q l b = ways (eqb (x / 65536) (y / 65536))
  where
    ways : (s : Bool) → IfSome (cond s (Some (x % 65536)) None) Q
    ways true = l
    ways false = b
better_keeps w last y (Some k) x Q l b =
    ways (eqb (x / 65536) (y / 65536)) (ltb (apart_at w last (y % 65536) k) (apart_at w last (y % 65536) (x % 65536)))
  where
    ways : (s t : Bool) → IfSome (cond s (Some (cond t (x % 65536) k)) (Some k)) Q
    ways true true = l
    ways true false = b
    ways false t = b

-- ---- the highest of a list with one more move at its end
module _ (value : Configuration → ℕ) where
  -- the better of a reply and a move
  abbrev improved : Reply → Move → Reply
  improved none m = move m
  improved (move b) m = move (cond (ltb (value b.target) (value m.target)) m b)

  highest_next : (best : Move) (ms : List Move) (m : Move)
      → highest value best (ms ++ (m ∷ []))
      ≡ cond (ltb (value (highest value best ms).target) (value m.target)) m (highest value best ms)
  highest_next best [] m = refl
  highest_next best (x ∷ ms) m = highest_next (cond (ltb (value best.target) (value x.target)) x best) ms m

  highest_of_next : (ms : List Move) (m : Move) → highest_of value (ms ++ (m ∷ [])) ≡ improved (highest_of value ms) m
  highest_of_next [] m = refl
  highest_of_next (x ∷ ms) m = ap move (highest_next x ms m)

select_next : {A : Type 0} (test : A → Bool) (xs : List A) (x : A)
    → select test (xs ++ (x ∷ [])) ≡ cond (test x) (select test xs ++ (x ∷ [])) (select test xs)
select_next test [] x = refl
select_next {A} test (y ∷ xs) x = go (test y) (test x) (select_next test xs x)
  where
    go : (s t : Bool) → select test (xs ++ (x ∷ [])) ≡ cond t (select test xs ++ (x ∷ [])) (select test xs)
        → cond s (y ∷ select test (xs ++ (x ∷ []))) (select test (xs ++ (x ∷ [])))
        ≡ cond t (cond s (y ∷ select test xs) (select test xs) ++ (x ∷ [])) (cond s (y ∷ select test xs) (select test xs))
    go true true ih = ap (λ (l : List A). y ∷ l) ih
    go true false ih = ap (λ (l : List A). y ∷ l) ih
    go false true ih = ih
    go false false ih = ih

map_next : {A B : Type 0} (f : A → B) (xs : List A) (x : A) → map f (xs ++ (x ∷ [])) ≡ map f xs ++ (f x ∷ [])
map_next f [] x = refl
map_next {A} {B} f (y ∷ xs) x = ap (λ (l : List B). f y ∷ l) (map_next f xs x)

-- a place stands for a reply: none for none, that of its target for a move
pub data StandsFor (w : List ℕ) (n : ℕ) (reply : Reply) (u : Option ℕ) : Type 0 where
  for_none : reply ≡ none → u ≡ None → StandsFor w n reply u
  for_move : (k : Move) (i : ℕ) → reply ≡ move k → u ≡ Some i → i < n → k.target ≡ member_at w i → StandsFor w n reply u

module _ {sheet : Sheet} {set : List Configuration} {w : List ℕ} {n m last : ℕ} (T : TrailHeld sheet set w n m last) where
  -- how late a target is separated from that of y
  abbrev value : ℕ → Configuration → ℕ
  value y = apart_in set (rounds sheet set) (member_at w (y % 65536))

  -- one move more
  module _ (y x : ℕ) (ly : y % 65536 < n) (lx : x % 65536 < n) where
    improves : (reply : Reply) (u : Option ℕ) → StandsFor w n reply u
        → StandsFor w n (improved (value y) reply (move_from w x)) (later_of w last y u (x % 65536))
    improves reply u (for_none e f) =
        subst (λ (v : Option ℕ). StandsFor w n (improved (value y) reply (move_from w x)) (later_of w last y v (x % 65536))) (sym f)
        (for_move (move_from w x) (x % 65536) (ap (λ (r : Reply). improved (value y) r (move_from w x)) e) refl lx refl)
    improves reply u (for_move k i e f l t) =
        let a : value y k.target ≡ apart_at w last (y % 65536) i =
        ap (value y) t ∙ sym (T.first_apart (y % 65536) i ly l) in
        let b : value y (member_at w (x % 65536)) ≡ apart_at w last (y % 65536) (x % 65536) =
        sym (T.first_apart (y % 65536) (x % 65536) ly lx) in
        subst (λ (v : Option ℕ). StandsFor w n (improved (value y) reply (move_from w x)) (later_of w last y v (x % 65536))) (sym f)
        (go (ltb (apart_at w last (y % 65536) i) (apart_at w last (y % 65536) (x % 65536)))
        (ap (λ (r : Reply). improved (value y) r (move_from w x)) e
        ∙ ap (λ (c : Bool). move (cond c (move_from w x) k)) (ap₂ (λ (i j : ℕ). ltb i j) a b)))
      where
        go : (c : Bool) → improved (value y) reply (move_from w x) ≡ move (cond c (move_from w x) k)
            → StandsFor w n (improved (value y) reply (move_from w x)) (Some (cond c (x % 65536) i))
        go true r = for_move (move_from w x) (x % 65536) r refl lx refl
        go false r = for_move k i r refl l t

  module _ (y q : ℕ) (ly : y % 65536 < n) (lq : q < n) where
    abbrev same_label : Move → Bool
    same_label k = eqb k.label (y / 65536)

    -- the replies among the first k moves
    abbrev replies_below : ℕ → List Move
    replies_below k = select same_label (map (move_from w) (tabulate (move_number w q) k))

    replies_next : (k : ℕ) → replies_below (k + 1)
        ≡ cond (eqb (move_number w q k / 65536) (y / 65536)) (replies_below k ++ (move_from w (move_number w q k) ∷ [])) (replies_below k)
    replies_next k =
        ap (λ (l : List ℕ). select same_label (map (move_from w) l)) (tabulate_next (move_number w q) k)
        ∙ ap (select same_label) (map_next (move_from w) (tabulate (move_number w q) k) (move_number w q k))
        ∙ select_next same_label (map (move_from w) (tabulate (move_number w q) k)) (move_from w (move_number w q k))

    stands_below : (k : ℕ) → k ≤ move_total w q → StandsFor w n (highest_of (value y) (replies_below k)) (reply_below w last y q k)
    stands_below zero l =
        for_none (ap (λ (l : List ℕ). highest_of (value y) (select same_label (map (move_from w) l))) (tabulate_none (move_number w q)))
        (reply_first w last y q)
    stands_below (suc k) l =
        subst (λ (i : ℕ). StandsFor w n (highest_of (value y) (replies_below i)) (reply_below w last y q i)) (add-one k)
        (rw (reply_next w last y q k) (subst (λ (ms : List Move). StandsFor w n (highest_of (value y) ms)
        (better_at w last y (reply_below w last y q k) (move_number w q k))) (sym (replies_next k))
        (go (eqb (move_number w q k / 65536) (y / 65536)) (stands_below k (omega arith)))))
      where
        go : (c : Bool) → StandsFor w n (highest_of (value y) (replies_below k)) (reply_below w last y q k)
            → StandsFor w n (highest_of (value y) (cond c (replies_below k ++ (move_from w (move_number w q k) ∷ [])) (replies_below k)))
            (cond c (later_of w last y (reply_below w last y q k) (move_number w q k % 65536)) (reply_below w last y q k))
        go false ih = ih
        go true ih =
            subst (λ (r : Reply). StandsFor w n r (later_of w last y (reply_below w last y q k) (move_number w q k % 65536)))
            (sym (highest_of_next (value y) (replies_below k) (move_from w (move_number w q k))))
            (improves y (move_number w q k) ly
            (T.held.targets q (move_number w q k) lq (number_in sheet set w n m T.held q k lq (omega arith)))
            (highest_of (value y) (replies_below k)) (reply_below w last y q k) ih)

    -- the reply by places stands for the reply
    pub reply_stands : StandsFor w n (reply_to sheet set (rounds sheet set) (member_at w q) (move_from w y)) (reply_at w last y q)
    reply_stands =
        let f : ℕ = moves_at + first_move w q in
        let s : f + move_total w q - f ≡ move_total w q = omega arith in
        let e : move_numbers_at w q ≡ tabulate (move_number w q) (move_total w q) =
        numbers_tabulate w f (f + move_total w q) (omega arith)
        (omega (arith, T.held.spans q lq, T.held.few.1, T.held.long)) ∙ ap (tabulate (move_number w q)) s in
        subst (λ (ms : List Move). StandsFor w n (highest_of (value y) (select same_label ms)) (reply_at w last y q))
        (ap (map (move_from w)) (sym e) ∙ T.held.moves_are q lq) (stands_below (move_total w q) (omega arith))
