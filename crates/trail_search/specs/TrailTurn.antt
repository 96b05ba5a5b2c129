-- One turn of the trail, from what its parts give.
use Rattle.std.specs.Prelude.{◌≡◌, Option, Some, None, Bool, true, false, cond, List, ℕ, ◌+◌, ◌-◌, ◌%◌, ◌≤◌, ◌<◌, length, eqb}
use Rattle.std.proofs.Common.{sym, ap, ◌∙◌, subst, arith}
use Rattle.telling_moves.specs.TrailLayout.{apart_at, Followable, PairFits, rounds_few}
use Rattle.trail_replies.specs.Replies.{reply_at}
use Rattle.trail_search.specs.TakenMove.{Takes, reply_number, other_of, next_left, next_right, takes_target}
use Rattle.trail_search.specs.FollowedTrail.{Following, Trailed, step_stored, follows_now, following_alone, following_on}
use Rattle.work_layout.specs.WorkLayout.{work_end, member_room}

-- What a turn leaves that stored step k: without a reply the trail is whole, with one it goes on from the next pair.
pub record TurnStored (v : List ℕ) (n last p q k side number : ℕ) (reply : Option ℕ) (u : List ℕ) : Type 0 where
  pub alone : reply ≡ None → Trailed v n last p q u (k + 1)
  pub on : (t : ℕ) → reply ≡ Some t → (x y : ℕ) → x ≡ next_left side number t → y ≡ next_right side number t
      → Following v n last p q u x y (k + 1)

module _ {v : List ℕ} {n last p q : ℕ} (F : Followable v n last) (lp : p < n) (lq : q < n) {w : List ℕ} {i j k : ℕ}
    (G : Following v n last p q w i j k) where
  -- there is room for one step more
  pub step_room : k < last → (k ≤ member_room) × (work_end ≤ length w)
  step_room l =
      let H = (follows_now F lp lq G).held.held in
      (omega (arith, rounds_few F (omega arith), H.few.0), H.long)

  module _ {a side number other : ℕ} (ea : a ≡ apart_at w last i j) (T : Takes w n last (a - 1) i j side number)
      (eo : other ≡ other_of side i j) where
    -- the reply can be looked for
    pub reply_fits : PairFits w last (number % 65536) other
    reply_fits =
        let N = follows_now F lp lq G in
        record {
          n = n;
          follows = N;
          left = takes_target N.held G.lefts G.rights T;
          right = subst (λ (o : ℕ). o < n) (sym eo) (ways (eqb side 0));
        }
      where
        ways : (b : Bool) → cond b j i < n
        ways true = G.rights
        ways false = G.lefts

    -- the step is stored
    pub turn_stored : {reply : Option ℕ} {u : List ℕ} → k < last → (a ≡ 0 → ⊥) → (a ≡ last → ⊥) → reply ≡ reply_at w last number other
        → u ≡ step_stored w k side number (reply_number reply) → TurnStored v n last p q k side number reply u
    turn_stored {reply} early some ever er eu =
        let taken : Takes w n last (apart_at w last i j - 1) i j side number =
        subst (λ (b : ℕ). Takes w n last (b - 1) i j side number) ea T in
        let replied : reply ≡ reply_at w last number (other_of side i j) = er ∙ ap (reply_at w last number) eo in
        subst (TurnStored v n last p q k side number reply) (sym eu)
        (record {
          alone = following_alone F lp lq G early (λ e. some (ea ∙ e)) (λ e. ever (ea ∙ e)) taken replied (step_room early).1;
          on = λ t d x y ex ey.
              rw (ex, ey) (following_on F lp lq G early (λ e. some (ea ∙ e)) (λ e. ever (ea ∙ e)) taken replied (step_room early).1 t d);
        })
