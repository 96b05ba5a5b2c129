-- The trail followed from pair to pair: the steps stored so far, and those from the present pair, are the trail.
use Rattle.std.specs.Prelude.{◌≡◌, refl, Option, Some, None, Bool, true, false, cond, List, [], ◌∷◌, ◌++◌, map, ℕ, suc, ◌+◌, ◌*◌, ◌-◌, ◌%◌, ◌≤◌, ◌<◌, length, get_or, set, eqb}
use Rattle.std.proofs.Common.{sym, ap, ap₂, ◌∙◌, subst, inl, append_assoc, append-nil, arith, length-set, get_or-set_same, get_or-set_other}
use Rattle.std.proofs.lemmas.List.{length-map}
use Rattle.number_lists.specs.Tabulate.{tabulate, tabulate_none, tabulate_next, tabulate_same, tabulate_length}
use Rattle.number_lists.specs.Frames.{SameOutside, outside_same, outside_set, outside_wider, outside_again}
use Rattle.work_layout.specs.Sheet.{Configuration, Sheet}
use Rattle.work_layout.specs.SetLayout.{member_at}
use Rattle.work_layout.specs.Rounds.{rounds}
use Rattle.work_layout.specs.Trail.{TrailStep, trail_from, trail}
use Rattle.report_bytes.specs.ResultLaws.{rounds_of}
use Rattle.report_bytes.specs.TrailLaws.{trail_length}
use Rattle.telling_moves.specs.RoundLayout.{held_count_lem}
use Rattle.report_bytes.specs.ReportInSlice.{StepNumbers, step_in, step_numbers}
use Rattle.telling_moves.specs.TrailLayout.{apart_at, TrailHeld, Followable, rounds_few, trail_held_same, member_same, followable_same}
use Rattle.trail_replies.specs.Replies.{reply_at}
use Rattle.trail_search.specs.TakenMove.{Takes, NoneTakes, reply_number, one_takes, step_of, other_of, next_left, next_right, Followed, takes_target, step_follows, trail_apart_never, trail_apart_first}
use Rattle.work_layout.specs.WorkLayout.{work_end, steps_at, steps_end, member_room}

-- step k stored
abbrev pub step_stored : List ℕ → ℕ → ℕ → ℕ → ℕ → List ℕ
step_stored w k side number reply =
    set (set (set w (steps_at + 3 * k) side) (steps_at + 3 * k + 1) number) (steps_at + 3 * k + 2) reply

-- The steps that stand in w are those of the trail from the members at places p and q of v, where a set stands in v; the rest of
-- v is as it was.
pub record Trailed (v : List ℕ) (n last p q : ℕ) (w : List ℕ) (k : ℕ) : Type 0 where
  pub outside : SameOutside steps_at steps_end v w
  pub short : k < last
  pub steps : (sheet : Sheet) (set : List Configuration) (m : ℕ) → TrailHeld sheet set v n m last
      → tabulate (step_in w) k ≡ map (step_numbers set) (trail sheet set (rounds sheet set) (member_at v p) (member_at v q))

-- k steps stand in w, and what is left of the trail is that from the members at places i and j
pub record Following (v : List ℕ) (n last p q : ℕ) (w : List ℕ) (i j k : ℕ) : Type 0 where
  pub outside : SameOutside steps_at steps_end v w
  pub few : k ≤ last
  pub lefts : i < n
  pub rights : j < n
  pub steps : (sheet : Sheet) (set : List Configuration) (m : ℕ) → TrailHeld sheet set v n m last
      → map (step_numbers set) (trail sheet set (rounds sheet set) (member_at v p) (member_at v q))
      ≡ tabulate (step_in w) k
      ++ map (step_numbers set) (trail_from sheet set (rounds sheet set) (last - k) (member_at v i) (member_at v j))

-- a trail of no steps
trail_zero : (sheet : Sheet) (set : List Configuration) (x y : Configuration) → trail_from sheet set (rounds sheet set) 0 x y ≡ []
unfolding trail_from
trail_zero sheet set x y = refl

-- ---- one step stored
-- a step by the three numbers that stand for it
step_read : (u : List ℕ) (i : ℕ) {x y z : ℕ} → get_or u (steps_at + 3 * i) 0 ≡ x → get_or u (steps_at + 3 * i + 1) 0 ≡ y
    → get_or u (steps_at + 3 * i + 2) 0 ≡ z → step_in u i ≡ step_of x y z
step_read u i {x} a b c =
    ap (λ (t : ℕ). step_of t (get_or u (steps_at + 3 * i + 1) 0) (get_or u (steps_at + 3 * i + 2) 0)) a ∙ ap₂ (λ (t v : ℕ). step_of x t v) b c

module _ (w : List ℕ) (k side number reply : ℕ) (fits : steps_at + 3 * k + 2 < length w) where
  abbrev one : List ℕ
  one = set w (steps_at + 3 * k) side

  abbrev two : List ℕ
  two = set one (steps_at + 3 * k + 1) number

  stored_outside : SameOutside (steps_at + 3 * k) (steps_at + 3 * k + 3) w (step_stored w k side number reply)
  stored_outside =
      outside_again
      (outside_again (outside_set (steps_at + 3 * k) (steps_at + 3 * k + 3) w (steps_at + 3 * k) side (omega arith) (omega arith))
      (outside_set (steps_at + 3 * k) (steps_at + 3 * k + 3) one (steps_at + 3 * k + 1) number (omega arith) (omega arith)))
      (outside_set (steps_at + 3 * k) (steps_at + 3 * k + 3) two (steps_at + 3 * k + 2) reply (omega arith) (omega arith))

  -- the steps before it are as they were
  stored_before : (i : ℕ) → i < k → step_in (step_stored w k side number reply) i ≡ step_in w i
  stored_before i l =
      let a = stored_outside.at (steps_at + 3 * i) (inl (omega arith)) in
      let b = stored_outside.at (steps_at + 3 * i + 1) (inl (omega arith)) in
      let c = stored_outside.at (steps_at + 3 * i + 2) (inl (omega arith)) in
      step_read (step_stored w k side number reply) i a b c

  stored_here : step_in (step_stored w k side number reply) k ≡ step_of side number reply
  stored_here =
      let l1 : length one ≡ length w = length-set w (steps_at + 3 * k) side in
      let l2 : length two ≡ length one = length-set one (steps_at + 3 * k + 1) number in
      let c : get_or (step_stored w k side number reply) (steps_at + 3 * k + 2) 0 ≡ reply =
      get_or-set_same two (steps_at + 3 * k + 2) reply 0 (omega arith) in
      let b : get_or (step_stored w k side number reply) (steps_at + 3 * k + 1) 0 ≡ number =
      get_or-set_other two (steps_at + 3 * k + 2) (steps_at + 3 * k + 1) reply 0 (λ e. omega arith)
      ∙ get_or-set_same one (steps_at + 3 * k + 1) number 0 (omega arith) in
      let a : get_or (step_stored w k side number reply) (steps_at + 3 * k) 0 ≡ side =
      get_or-set_other two (steps_at + 3 * k + 2) (steps_at + 3 * k) reply 0 (λ e. omega arith)
      ∙ get_or-set_other one (steps_at + 3 * k + 1) (steps_at + 3 * k) number 0 (λ e. omega arith)
      ∙ get_or-set_same w (steps_at + 3 * k) side 0 (omega arith) in
      step_read (step_stored w k side number reply) k a b c

  stored_steps : tabulate (step_in (step_stored w k side number reply)) (k + 1) ≡ tabulate (step_in w) k ++ (step_of side number reply ∷ [])
  stored_steps =
      tabulate_next (step_in (step_stored w k side number reply)) k
      ∙ ap₂ (λ (l : List StepNumbers) (s : StepNumbers). l ++ (s ∷ []))
      (tabulate_same (step_in (step_stored w k side number reply)) (step_in w) k stored_before) stored_here

module _ {v : List ℕ} {n last p q : ℕ} (F : Followable v n last) (lp : p < n) (lq : q < n) where
  -- ---- how many steps there can be
  last_few : last ≤ member_room
  last_few = omega (arith, rounds_few F (omega arith), F.held.held.few.0)

  -- a trail that is whole has fewer steps than there are rounds
  whole_short : (w : List ℕ) (k : ℕ)
      → tabulate (step_in w) k
      ≡ map (step_numbers F.set) (trail F.sheet F.set (rounds F.sheet F.set) (member_at v p) (member_at v q))
      → k < last
  whole_short w k e =
      let T = F.held in
      let rs : List (List ℕ) = rounds F.sheet F.set in
      let t : List TrailStep = trail F.sheet F.set rs (member_at v p) (member_at v q) in
      let c : k ≡ length t =
      sym (tabulate_length (step_in w) k) ∙ ap length e ∙ length-map t (step_numbers F.set) in
      let s = (rounds_of F.sheet F.set T.wf T.closed
      (omega (arith, held_count_lem F.sheet F.set v n F.m T.held))).some in
      omega (arith, c, s, T.rounds_are, trail_length F.sheet F.set rs (member_at v p) (member_at v q))

  -- ---- the loop
  pub following_first : Following v n last p q v p q 0
  following_first = record {
    outside = outside_same steps_at steps_end v;
    few = omega arith;
    lefts = lp;
    rights = lq;
    steps = λ sheet set m T.
        let e : length (rounds sheet set) ≡ last - 0 = omega (arith, T.rounds_are) in
        ap (λ (f : ℕ). map (step_numbers set) (trail_from sheet set (rounds sheet set) f (member_at v p) (member_at v q))) e
        ∙ sym (ap (λ (l : List StepNumbers). l ++ map (step_numbers set)
        (trail_from sheet set (rounds sheet set) (last - 0) (member_at v p) (member_at v q))) (tabulate_none (step_in v)));
  }

  module _ {w : List ℕ} {i j k : ℕ} (G : Following v n last p q w i j k) where
    -- what could be followed in v can be in w
    pub follows_now : Followable w n last
    follows_now = followable_same F G.outside

    held_now : (sheet : Sheet) (set : List Configuration) (m : ℕ) → TrailHeld sheet set v n m last → TrailHeld sheet set w n m last
    held_now sheet set m T = trail_held_same F.held.held.few.0 F.births G.outside sheet set m last T

    members_now : (sheet : Sheet) (set : List Configuration) (m : ℕ) → TrailHeld sheet set v n m last → (f a b : ℕ) → a < n → b < n
        → trail_from sheet set (rounds sheet set) f (member_at v a) (member_at v b)
        ≡ trail_from sheet set (rounds sheet set) f (member_at w a) (member_at w b)
    members_now sheet set m T f a b la lb =
        let few : n ≤ member_room = F.held.held.few.0 in
        ap₂ (λ (x y : Configuration). trail_from sheet set (rounds sheet set) f x y)
        (sym (member_same few F.births G.outside sheet set m last T a la))
        (sym (member_same few F.births G.outside sheet set m last T b lb))

    -- nothing is left of the trail
    whole : ((sheet : Sheet) (set : List Configuration) (m : ℕ) → TrailHeld sheet set v n m last
        → trail_from sheet set (rounds sheet set) (last - k) (member_at v i) (member_at v j) ≡ []) → Trailed v n last p q w k
    whole z =
        let s : (sheet : Sheet) (set : List Configuration) (m : ℕ) → TrailHeld sheet set v n m last
        → tabulate (step_in w) k ≡ map (step_numbers set) (trail sheet set (rounds sheet set) (member_at v p) (member_at v q)) =
        λ sheet set m T.
        sym (G.steps sheet set m T
        ∙ ap (λ (l : List TrailStep). tabulate (step_in w) k ++ map (step_numbers set) l) (z sheet set m T)
        ∙ append-nil (tabulate (step_in w) k)) in
        record { outside = G.outside; short = whole_short w k (s F.sheet F.set F.m F.held); steps = s }

    -- the pair is apart from the first round on
    pub following_stop_first : {a : ℕ} → a ≡ apart_at w last i j → a ≡ 0 → Trailed v n last p q w k
    following_stop_first s e =
        whole (λ sheet set m T.
        members_now sheet set m T (last - k) i j G.lefts G.rights
        ∙ trail_apart_first (held_now sheet set m T) (last - k) i j G.lefts G.rights (sym s ∙ e))

    -- or never
    pub following_stop_never : {a : ℕ} → a ≡ apart_at w last i j → a ≡ last → Trailed v n last p q w k
    following_stop_never s e =
        whole (λ sheet set m T.
        members_now sheet set m T (last - k) i j G.lefts G.rights
        ∙ trail_apart_never (held_now sheet set m T) (last - k) i j G.lefts G.rights (sym s ∙ e))

    -- as many steps as there are rounds
    pub following_end : last ≤ k → Trailed v n last p q w k
    following_end h =
        whole (λ sheet set m T.
        let e : last - k ≡ 0 = omega arith in
        ap (λ (f : ℕ). trail_from sheet set (rounds sheet set) f (member_at v i) (member_at v j)) e
        ∙ trail_zero sheet set (member_at v i) (member_at v j))

    -- one of the two has a move to take where a round between has them apart
    pub following_takes : {a : ℕ} → a ≡ apart_at w last i j → (a ≡ 0 → ⊥) → (a ≡ last → ⊥) → NoneTakes w n last (a - 1) i j → ⊥
    following_takes s some early N =
        one_takes (held_now F.sheet F.set F.m F.held) i j G.lefts G.rights (λ e. some (s ∙ e)) (λ e. early (s ∙ e))
        (subst (λ (b : ℕ). NoneTakes w n last (b - 1) i j) s N)

    -- ---- one step more
    module _ {side number : ℕ} {reply : Option ℕ} (early : k < last) (some : apart_at w last i j ≡ 0 → ⊥) (ever : apart_at w last i j ≡ last → ⊥)
        (T : Takes w n last (apart_at w last i j - 1) i j side number) (is : reply ≡ reply_at w last number (other_of side i j))
        (long : work_end ≤ length w) where
      abbrev next : List ℕ
      next = step_stored w k side number (reply_number reply)

      room : steps_at + 3 * k + 2 < length w
      room = omega (arith, last_few)

      outside_next : SameOutside steps_at steps_end v next
      outside_next =
          outside_again G.outside
          (outside_wider (stored_outside w k side number (reply_number reply) room) steps_at steps_end (omega arith) (omega (arith, last_few)))

      follows : (sheet : Sheet) (set : List Configuration) (m : ℕ) (H : TrailHeld sheet set v n m last)
          → Followed (held_now sheet set m H) i j G.lefts G.rights some ever (last - (k + 1)) side number reply
          (trail_from sheet set (rounds sheet set) (last - k) (member_at v i) (member_at v j))
      follows sheet set m H =
          let s : last - k ≡ suc (last - (k + 1)) = omega arith in
          let h = held_now sheet set m H in
          subst (λ (u : Option ℕ). Followed h i j G.lefts G.rights some ever (last - (k + 1)) side number u
          (trail_from sheet set (rounds sheet set) (last - k) (member_at v i) (member_at v j))) (sym is)
          (subst (Followed h i j G.lefts G.rights some ever (last - (k + 1)) side number (reply_at w last number (other_of side i j)))
          (sym (members_now sheet set m H (last - k) i j G.lefts G.rights
          ∙ ap (λ (f : ℕ). trail_from sheet set (rounds sheet set) f (member_at w i) (member_at w j)) s))
          (step_follows h i j G.lefts G.rights some ever (last - (k + 1)) side number T))

      -- there is no reply
      pub following_alone : reply ≡ None → Trailed v n last p q next (k + 1)
      following_alone z =
          let s : (sheet : Sheet) (set : List Configuration) (m : ℕ) → TrailHeld sheet set v n m last
          → tabulate (step_in next) (k + 1) ≡ map (step_numbers set) (trail sheet set (rounds sheet set) (member_at v p) (member_at v q)) =
          λ sheet set m H.
          stored_steps w k side number (reply_number reply) room
          ∙ ap (λ (u : Option ℕ). tabulate (step_in w) k ++ (step_of side number (reply_number u) ∷ [])) z
          ∙ sym (G.steps sheet set m H ∙ ap (λ (l : List StepNumbers). tabulate (step_in w) k ++ l) ((follows sheet set m H).alone z)) in
          record { outside = outside_next; short = whole_short next (k + 1) (s F.sheet F.set F.m F.held); steps = s }

      reply_inside : (t : ℕ) → reply ≡ Some t → t < n
      reply_inside t d = (follows F.sheet F.set F.m F.held).inside t d

      target_inside : number % 65536 < n
      target_inside = takes_target (held_now F.sheet F.set F.m F.held) G.lefts G.rights T

      next_inside : (t : ℕ) → reply ≡ Some t → (next_left side number t < n) × (next_right side number t < n)
      next_inside t d = ways (eqb side 0)
        where
          ways : (b : Bool) → (cond b (number % 65536) t < n) × (cond b t (number % 65536) < n)
          ways true = (target_inside, reply_inside t d)
          ways false = (reply_inside t d, target_inside)

      -- there is one
      pub following_on : (t : ℕ) → reply ≡ Some t
          → Following v n last p q next (next_left side number t) (next_right side number t) (k + 1)
      following_on t d =
          let x = next_inside t d in
          record {
            outside = outside_next;
            few = omega arith;
            lefts = x.0;
            rights = x.1;
            steps = λ sheet set m H.
                let more : List StepNumbers = map (step_numbers set) (trail_from sheet set (rounds sheet set) (last - (k + 1))
                (member_at v (next_left side number t)) (member_at v (next_right side number t))) in
                G.steps sheet set m H
                ∙ ap (λ (l : List StepNumbers). tabulate (step_in w) k ++ l)
                ((follows sheet set m H).on t d
                ∙ ap (λ (l : List TrailStep). step_of side number t ∷ map (step_numbers set) l)
                (sym (members_now sheet set m H (last - (k + 1)) (next_left side number t) (next_right side number t) x.0 x.1)))
                ∙ sym (append_assoc (tabulate (step_in w) k) (step_of side number t ∷ []) more)
                ∙ ap (λ (l : List StepNumbers). l ++ more)
                (sym (stored_steps w k side number (reply_number reply) room
                ∙ ap (λ (u : Option ℕ). tabulate (step_in w) k ++ (step_of side number (reply_number u) ∷ [])) d));
          }
