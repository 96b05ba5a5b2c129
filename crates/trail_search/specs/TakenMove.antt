-- The move that is taken at a pair and the step that it makes, by places.
use Rattle.std.specs.Prelude.{◌≡◌, Option, Some, None, unwrap_or, true, cond, List, [], ◌∷◌, map, length, get_or, eqb}
use Rattle.std.proofs.Math.Path.{refl, subst}
use Rattle.std.proofs.Common.{sym, ap, ap₂, ◌∙◌, arith, eq-eqb, ne_eqb, lt-ltb, le-ltb}
use Prim.Native.Nat.{ℕ, zero, suc, ◌-◌, ◌/◌, ◌%◌, ◌<◌}
use Rattle.work_layout.specs.TestLaws.{true_false, and_intro, or_left, or_fails}
use Rattle.work_layout.specs.Sheet.{Configuration, Sheet}
use Rattle.work_layout.specs.Orders.{Move}
use Rattle.work_layout.specs.SetLayout.{member_at, first_move, move_total, move_from}
use Rattle.work_layout.specs.Classes.{place_of, share}
use Rattle.work_layout.specs.Rounds.{together, rounds, apart_in}
use Rattle.work_layout.specs.Trail.{Side, left, right, Reply, move, TrailStep, unanswered, reply_to, after, first_of, trail_from}
use Rattle.work_layout.specs.Report.{side_byte}
use Rattle.report_bytes.specs.RoundLaws.{together_yes}
use Rattle.report_bytes.specs.TrailLaws.{apart_le, trail_none, unanswered_none}
use Rattle.telling_moves.specs.RoundLayout.{held_in, held_place, number_in}
use Rattle.report_bytes.specs.ReportInSlice.{StepNumbers, step_numbers}
use Rattle.telling_moves.specs.PlaceTests.{First}
use Rattle.telling_moves.specs.TrailLayout.{apart_at, TrailHeld}
use Rattle.telling_moves.specs.TrailPlaces.{move_number, tells_at, sharing_held, share_before, untold_none, untold_first}
use Rattle.trail_replies.specs.Replies.{reply_at, StandsFor, for_none, for_move, reply_stands}

-- The move that is taken at the pair of places p and q in round r: the left's first one that tells, else the right's.
pub data Takes (w : List ℕ) (n last r p q side number : ℕ) : Type 0 where
  from_left : (j : ℕ) → First (tells_at w n last r (first_move w p) q) (move_total w p) j → j < move_total w p
      → side ≡ 0 → number ≡ move_number w p j → Takes w n last r p q side number
  from_right : First (tells_at w n last r (first_move w p) q) (move_total w p) (move_total w p)
      → (j : ℕ) → First (tells_at w n last r (first_move w q) p) (move_total w q) j → j < move_total w q
      → side ≡ 1 → number ≡ move_number w q j → Takes w n last r p q side number

-- neither has one that tells
abbrev pub NoneTakes : List ℕ → ℕ → ℕ → ℕ → ℕ → ℕ → Type 0
NoneTakes w n last r p q =
    First (tells_at w n last r (first_move w p) q) (move_total w p) (move_total w p)
    × First (tells_at w n last r (first_move w q) p) (move_total w q) (move_total w q)

-- the number that is stored for a reply: 65535 for none
abbrev pub reply_number : Option ℕ → ℕ
reply_number reply = unwrap_or reply 65535

-- the numbers of a step with this side, this move and this reply
abbrev pub step_of : ℕ → ℕ → ℕ → StepNumbers
step_of side number reply = record { side = side; label = number / 65536; target = number % 65536; reply = reply }

-- the place of the one that replies
abbrev pub other_of : ℕ → ℕ → ℕ → ℕ
other_of side p q = cond (eqb side 0) q p

-- the places of the new pair: sides are kept
abbrev pub next_left : ℕ → ℕ → ℕ → ℕ
next_left side number reply = cond (eqb side 0) (number % 65536) reply

abbrev pub next_right : ℕ → ℕ → ℕ → ℕ
next_right side number reply = cond (eqb side 0) reply (number % 65536)

module _ {sheet : Sheet} {set : List Configuration} {w : List ℕ} {n m last : ℕ} (T : TrailHeld sheet set w n m last) where
  abbrev rs : List (List ℕ)
  rs = rounds sheet set

  -- the target of a move that is taken is a member
  pub takes_target : {r p q side number : ℕ} → p < n → q < n → Takes w n last r p q side number → number % 65536 < n
  takes_target {r} {p} {q} {side} {number} lp lq (from_left j F l s e) =
      subst (λ (y : ℕ). y % 65536 < n) (sym e)
      (T.held.targets p (move_number w p j) lp (number_in sheet set w n m T.held p j lp l))
  takes_target {r} {p} {q} {side} {number} lp lq (from_right G j F l s e) =
      subst (λ (y : ℕ). y % 65536 < n) (sym e)
      (T.held.targets q (move_number w q j) lq (number_in sheet set w n m T.held q j lq l))

  module _ (p q : ℕ) (lp : p < n) (lq : q < n) (some : apart_at w last p q ≡ 0 → ⊥) (early : apart_at w last p q ≡ last → ⊥) where
    -- the round in which a move is looked for
    abbrev round : ℕ
    round = apart_at w last p q - 1

    apart_early : apart_at w last p q < last
    apart_early = omega (arith, T.first_apart p q lp lq, apart_le set rs (member_at w p) (member_at w q), T.rounds_are, early)

    round_early : round < last
    round_early = omega (arith, apart_early)

    -- one of the two has a move that tells
    one_tells : unanswered sheet set rs (get_or rs round []) (member_at w p) (member_at w q) ≡ []
        → unanswered sheet set rs (get_or rs round []) (member_at w q) (member_at w p) ≡ [] → ⊥
    one_tells e f =
        let P : Configuration = member_at w p in
        let Q : Configuration = member_at w q in
        let a : ℕ = apart_at w last p q in
        let s : suc round ≡ a = omega (arith, some) in
        let mp = held_in sheet set w n m T.held p lp in
        let mq = held_in sheet set w n m T.held q lq in
        let t : together sheet set (get_or rs round []) P Q ≡ true =
        and_intro (share_before T round p q round_early lp lq ∙ lt-ltb round a (omega arith))
        (and_intro (unanswered_none sheet set rs (get_or rs round []) P Q e) (unanswered_none sheet set rs (get_or rs round []) Q P f)) in
        let g = together_yes sheet T.wf set T.closed (get_or rs round []) round (sharing_held T round p round_early lp) P Q mp mq t in
        true_false (share set (get_or rs (suc round) []) P Q)
        ((sharing_held T (suc round) p (omega (arith, apart_early)) lp).from_round P Q mp mq g)
        (share_before T (suc round) p q (omega (arith, apart_early)) lp lq ∙ le-ltb (suc round) a (omega arith))

    -- the trail at the pair
    trail_opens : (f : ℕ) → trail_from sheet set rs (suc f) (member_at w p) (member_at w q)
        ≡ first_of sheet set rs (trail_from sheet set rs f) (member_at w p) (member_at w q)
        (unanswered sheet set rs (get_or rs round []) (member_at w p) (member_at w q))
        (unanswered sheet set rs (get_or rs round []) (member_at w q) (member_at w p))
    unfolding trail_from
    trail_opens f = opens (apart_at w last p q) (sym (T.first_apart p q lp lq)) some early
      where
        opens : (a : ℕ) → apart_in set rs (member_at w p) (member_at w q) ≡ a → (a ≡ 0 → ⊥) → (a ≡ last → ⊥)
            → trail_from sheet set rs (suc f) (member_at w p) (member_at w q)
            ≡ first_of sheet set rs (trail_from sheet set rs f) (member_at w p) (member_at w q)
            (unanswered sheet set rs (get_or rs (a - 1) []) (member_at w p) (member_at w q))
            (unanswered sheet set rs (get_or rs (a - 1) []) (member_at w q) (member_at w p))
        opens a e z l =
            subst (λ (i : ℕ). trail_from sheet set rs (suc f) (member_at w p) (member_at w q)
            ≡ first_of sheet set rs (trail_from sheet set rs f) (member_at w p) (member_at w q)
            (unanswered sheet set rs (get_or rs (i - 1) []) (member_at w p) (member_at w q))
            (unanswered sheet set rs (get_or rs (i - 1) []) (member_at w q) (member_at w p))) e
            (rw (
              or_fails (ne_eqb (apart_in set rs (member_at w p) (member_at w q)) 0 (λ i. z (sym e ∙ i)))
                  (ne_eqb (apart_in set rs (member_at w p) (member_at w q)) (length rs) (λ i. l (sym e ∙ i ∙ T.rounds_are))),
              trail_from,
            ))

    -- ---- a step and what follows it
    -- The steps are the one with this side, move and reply, and those from the new pair where there is a reply.
    pub record Followed (f side y : ℕ) (u : Option ℕ) (steps : List TrailStep) : Type 0 where
      pub alone : u ≡ None → map (step_numbers set) steps ≡ step_of side y 65535 ∷ []
      pub inside : (i : ℕ) → u ≡ Some i → i < n
      pub on : (i : ℕ) → u ≡ Some i
          → map (step_numbers set) steps
          ≡ step_of side y i
          ∷ map (step_numbers set) (trail_from sheet set rs f (member_at w (next_left side y i)) (member_at w (next_right side y i)))

    some_none : (i : ℕ) → Some i ≡ None → ⊥
    some_none i h = cc

    module _ (f y : ℕ) (ly : y % 65536 < n) where
      place_y : place_of set (member_at w (y % 65536)) ≡ y % 65536
      place_y = held_place sheet set w n m T.held T.ascends (y % 65536) ly

      -- its numbers
      step_numbers_lem : (u : ℕ) (s : Side) {t : ℕ} → t ≡ u
          → record { side = side_byte s; label = y / 65536; target = place_of set (member_at w (y % 65536)); reply = t } ≡ step_of (side_byte s) y u
      step_numbers_lem u s e = ap₂ (λ (i v : ℕ). record { side = side_byte s; label = y / 65536; target = i; reply = v }) place_y e

      -- the steps from the new pair on, the sides kept
      on_after : (u : ℕ) (s : Side) (a : Move) → place_of set a.target ≡ u → a.target ≡ member_at w u
          → map (step_numbers set) (after sheet set rs (trail_from sheet set rs f) s (move_from w y) (move a))
          ≡ step_of (side_byte s) y u
          ∷ map (step_numbers set) (trail_from sheet set rs f (member_at w (next_left (side_byte s) y u)) (member_at w (next_right (side_byte s) y u)))
      on_after u left a g t =
          ap₂ (λ (x : StepNumbers) (c : Configuration). x ∷ map (step_numbers set) (trail_from sheet set rs f (member_at w (y % 65536)) c))
          (step_numbers_lem u left g) t
      on_after u right a g t =
          ap₂ (λ (x : StepNumbers) (c : Configuration). x ∷ map (step_numbers set) (trail_from sheet set rs f c (member_at w (y % 65536))))
          (step_numbers_lem u right g) t

      side_after : (s : Side) (k : Reply) (u : Option ℕ) → StandsFor w n k u
          → Followed f (side_byte s) y u (after sheet set rs (trail_from sheet set rs f) s (move_from w y) k)
      side_after s k u (for_none e z) =
          subst (λ (r : Reply). Followed f (side_byte s) y u (after sheet set rs (trail_from sheet set rs f) s (move_from w y) r)) (sym e) (record {
            alone = λ _. ap (λ (x : StepNumbers). x ∷ []) (step_numbers_lem 65535 s refl);
            inside = λ i h. absurd (some_none i (sym h ∙ z));
            on = λ i h. absurd (some_none i (sym h ∙ z));
          })
      side_after s k u (for_move a i e z l t) =
          subst (λ (r : Reply). Followed f (side_byte s) y u (after sheet set rs (trail_from sheet set rs f) s (move_from w y) r)) (sym e)
          (subst (λ (v : Option ℕ). Followed f (side_byte s) y v (after sheet set rs (trail_from sheet set rs f) s (move_from w y) (move a))) (sym z)
          (record {
            alone = λ h. absurd (some_none i h);
            inside = λ j h. subst (λ (v : ℕ). v < n) (some_same i j h) l;
            on = λ j h.
                let c : i ≡ j = some_same i j h in
                on_after j s a (ap (place_of set) t ∙ held_place sheet set w n m T.held T.ascends i l ∙ c) (t ∙ ap (member_at w) c);
          }))
        where
          some_same : (i j : ℕ) → Some i ≡ Some j → i ≡ j
          some_same i j h = cc

    -- the step that is taken begins the trail from the pair
    pub step_follows : (f side y : ℕ) → Takes w n last round p q side y
        → Followed f side y (reply_at w last y (other_of side p q)) (trail_from sheet set rs (suc f) (member_at w p) (member_at w q))
    step_follows f side y t = go t (takes_target lp lq t)
      where
        -- by a move of this side
        by : (d : Side) → side ≡ side_byte d → y % 65536 < n → other_of (side_byte d) p q < n
            → trail_from sheet set rs (suc f) (member_at w p) (member_at w q)
            ≡ after sheet set rs (trail_from sheet set rs f) d (move_from w y)
            (reply_to sheet set rs (member_at w (other_of (side_byte d) p q)) (move_from w y))
            → Followed f side y (reply_at w last y (other_of side p q)) (trail_from sheet set rs (suc f) (member_at w p) (member_at w q))
        by d s ly lo e =
            let o : ℕ = other_of (side_byte d) p q in
            subst (λ (i : ℕ). Followed f i y (reply_at w last y (other_of i p q))
            (trail_from sheet set rs (suc f) (member_at w p) (member_at w q)))
            (sym s)
            (subst (Followed f (side_byte d) y (reply_at w last y o)) (sym e)
            (side_after f y ly d (reply_to sheet set rs (member_at w o) (move_from w y)) (reply_at w last y o) (reply_stands T y o ly lo)))

        go : Takes w n last round p q side y → y % 65536 < n
            → Followed f side y (reply_at w last y (other_of side p q)) (trail_from sheet set rs (suc f) (member_at w p) (member_at w q))
        go (from_left j F l s e) ly =
            let x = untold_first T round p q round_early lp lq j F l in
            by left s ly lq (trail_opens f
            ∙ ap (λ (ms : List Move). first_of sheet set rs (trail_from sheet set rs f) (member_at w p) (member_at w q) ms
            (unanswered sheet set rs (get_or rs round []) (member_at w q) (member_at w p)))
            (x.1 ∙ ap (λ (i : ℕ). move_from w i ∷ x.0) (sym e)))
        go (from_right G j F l s e) ly =
            let x = untold_first T round q p round_early lq lp j F l in
            by right s ly lp (trail_opens f
            ∙ ap₂ (λ (ms ks : List Move). first_of sheet set rs (trail_from sheet set rs f) (member_at w p) (member_at w q) ms ks)
            (untold_none T round p q round_early lp lq G) (x.1 ∙ ap (λ (i : ℕ). move_from w i ∷ x.0) (sym e)))

    -- one of the two has a move to take
    pub one_takes : NoneTakes w n last round p q → ⊥
    one_takes N = one_tells (untold_none T round p q round_early lp lq N.0) (untold_none T round q p round_early lq lp N.1)

  -- ---- where the trail ends
  pub trail_apart_never : (f p q : ℕ) → p < n → q < n → apart_at w last p q ≡ last
      → trail_from sheet set rs f (member_at w p) (member_at w q) ≡ []
  trail_apart_never f p q lp lq e =
      trail_none sheet set rs f (member_at w p) (member_at w q) (sym (T.first_apart p q lp lq) ∙ e ∙ sym T.rounds_are)

  pub trail_apart_first : (f p q : ℕ) → p < n → q < n → apart_at w last p q ≡ 0
      → trail_from sheet set rs f (member_at w p) (member_at w q) ≡ []
  unfolding trail_from
  trail_apart_first zero p q lp lq e = refl
  trail_apart_first (suc f) p q lp lq e =
      rw (
        or_left (eqb (apart_in set rs (member_at w p) (member_at w q)) (length rs))
            (eq-eqb (apart_in set rs (member_at w p) (member_at w q)) 0 (sym (T.first_apart p q lp lq) ∙ e)),
        trail_from,
      )
