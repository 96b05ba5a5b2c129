-- Of two sheets of which one moves as the other does with z in every store and label, the trail and the report over a set are those over
-- the set with z in every store, with z in every store and label. Such a report is as long.
use Rattle.std.specs.Prelude.{◌≡◌, Bool, true, false, cond, not, ◌&&◌, ◌||◌, length, get_or, ltb}
use Rattle.std.proofs.Math.Path.{refl, ap}
use Rattle.std.proofs.Common.{sym, ap₂, ◌∙◌}
use mathlib.Core.List.{List, [], ◌∷◌, map, Memᴰ}
use Prim.Native.Nat.{ℕ, zero, suc, ◌+◌, ◌-◌, ◌*◌}
use Rattle.std.proofs.lemmas.List.{length-map}
use Rattle.std.proofs.Math.Dec.{eqb}
use Rattle.comparison_laws.specs.Lists.{select}
use Rattle.comparison_laws.specs.ImageLaws.{cond_image, select_image}
use Rattle.comparison_laws.specs.Sheet.{Configuration, Sheet}
use Rattle.comparison_laws.specs.Orders.{Move}
use Rattle.comparison_laws.specs.Moves.{moves}
use Rattle.comparison_laws.specs.CallLimits.{word_length, member_length, step_length}
use Rattle.comparison_laws.specs.Classes.{place_of}
use Rattle.comparison_laws.specs.Rounds.{redundant, answers, rounds, result_of, apart_in}
use Rattle.comparison_laws.specs.Trail.{Side, left, right, Reply, none, move, TrailStep, highest, highest_of, unanswered, reply_to, after, first_of, trail_from, trail}
use Rattle.comparison_laws.specs.Report.{Report, verdict_of, round_of, report_on, report_bytes}
use Rattle.comparison_laws.specs.TrailLaws.{unanswered_mem, reply_mem}
use Rattle.comparison_laws.specs.ReportLaws.{members_length, report_length_lem}
use Rattle.standing_laws.specs.StandingFacts.{raised, raised_configuration, raised_move, raised_reply, raised_step, raised_report}
use Rattle.standing_laws.proofs.RaisedSheets.{RaisedBy, AllIn}
use Rattle.standing_laws.proofs.RaisedLists.{equal_raised, place_of_raised}
use Rattle.standing_laws.proofs.RaisedRounds.{apart_raised, redundant_raised, answers_raised, rounds_raised}

-- ---- the highest of raised moves, by values that do not look at z
highest_raised : (z : ℕ) (above value : Configuration → ℕ) → ((p : Configuration) → above (raised_configuration z p) ≡ value p)
    → (best : Move) (ms : List Move) → highest above (raised_move z best) (map (raised_move z) ms) ≡ raised_move z (highest value best ms)
highest_raised z above value h best [] = refl
highest_raised z above value h best (m ∷ ms) =
    ap (λ (k : Move). highest above k (map (raised_move z) ms))
    (ap₂ (λ (a b : ℕ). cond (ltb a b) (raised_move z m) (raised_move z best)) (h best.target) (h m.target)
    ∙ cond_image (raised_move z) (ltb (value best.target) (value m.target)) m best)
    ∙ highest_raised z above value h (cond (ltb (value best.target) (value m.target)) m best) ms

highest_of_raised : (z : ℕ) (above value : Configuration → ℕ) → ((p : Configuration) → above (raised_configuration z p) ≡ value p)
    → (ms : List Move) → highest_of above (map (raised_move z) ms) ≡ raised_reply z (highest_of value ms)
highest_of_raised z above value h [] = refl
highest_of_raised z above value h (m ∷ ms) = ap move (highest_raised z above value h m ms)

-- the steps at a pair, by the classes of the round before the one that separates it
abbrev steps_at : Sheet → List Configuration → List (List ℕ) → (Configuration → Configuration → List TrailStep)
    → List ℕ → Configuration → Configuration → Bool → List TrailStep
steps_at sheet set rs more cs p q ends =
    elim ends [ true ↦ [] | false ↦ first_of sheet set rs more p q (unanswered sheet set rs cs p q) (unanswered sheet set rs cs q p) ]

module _ {z : ℕ} {In : ℕ → Type 0} {low high : Sheet} (R : RaisedBy z In low high) (set : List Configuration) (rs : List (List ℕ)) where
  abbrev raised_set : List Configuration
  raised_set = map (raised_configuration z) set

  -- ---- moves without an answer, and replies
  unanswered_raised : (cs : List ℕ) (p q : Configuration) → In p.store → In q.store
      → unanswered high raised_set rs cs (raised_configuration z p) (raised_configuration z q) ≡ map (raised_move z) (unanswered low set rs cs p q)
  unanswered_raised cs p q i j =
      ap (select passes) (R.moves_raised p i)
      ∙ select_image (raised_move z) passes (λ m. not (redundant low set cs p m) && not (answers low set cs q m)) (moves low p)
      (λ m k.
      ap₂ (λ (a b : Bool). not a && not b) (redundant_raised R set cs p m i (R.moves_in p i m k).0) (answers_raised R set cs q m j))
    where
      passes : Move → Bool
      passes m =
          not (redundant high raised_set cs (raised_configuration z p) m) && not (answers high raised_set cs (raised_configuration z q) m)

  reply_to_raised : (q : Configuration) (m : Move) → In q.store
      → reply_to high raised_set rs (raised_configuration z q) (raised_move z m) ≡ raised_reply z (reply_to low set rs q m)
  reply_to_raised q m i =
      ap (highest_of value)
      (ap (select (λ k. eqb k.label (raised z m.label))) (R.moves_raised q i)
      ∙ select_image (raised_move z) (λ k. eqb k.label (raised z m.label)) (λ k. eqb k.label m.label) (moves low q)
      (λ k j. equal_raised z k.label m.label))
      ∙ highest_of_raised z value (apart_in set rs m.target) (apart_raised z set rs m.target)
      (select (λ k. eqb k.label m.label) (moves low q))
    where
      value : Configuration → ℕ
      value = apart_in raised_set rs (raised_configuration z m.target)

  -- ---- a step and what follows it, where that is raised
  module _ (above more : Configuration → Configuration → List TrailStep)
      (each : (p q : Configuration) → In p.store → In q.store
      → above (raised_configuration z p) (raised_configuration z q) ≡ map (raised_step z) (more p q)) where
    after_raised : (side : Side) (m : Move) (r : Reply) → In m.target.store → ((k : Move) → r ≡ move k → In k.target.store)
        → after high raised_set rs above side (raised_move z m) (raised_reply z r) ≡ map (raised_step z) (after low set rs more side m r)
    after_raised side m none i h = refl
    after_raised left m (move k) i h = rw (each m.target k.target i (h k refl))
    after_raised right m (move k) i h = rw (each k.target m.target (h k refl) i)

    -- a move of p that q replies to
    taken_raised : (side : Side) (p q : Configuration) (m : Move) → In p.store → In q.store → Memᴰ m (moves low p)
        → after high raised_set rs above side (raised_move z m) (reply_to high raised_set rs (raised_configuration z q) (raised_move z m))
        ≡ map (raised_step z) (after low set rs more side m (reply_to low set rs q m))
    taken_raised side p q m i j h =
        ap (after high raised_set rs above side (raised_move z m)) (reply_to_raised q m j)
        ∙ after_raised side m (reply_to low set rs q m) (R.moves_in p i m h).1
        (λ k e. (R.moves_in q j k (reply_mem low set rs q m k e).0).1)

    first_of_raised : (p q : Configuration) → In p.store → In q.store → (ms ks : List Move)
        → ((m : Move) → Memᴰ m ms → Memᴰ m (moves low p)) → ((k : Move) → Memᴰ k ks → Memᴰ k (moves low q))
        → first_of high raised_set rs above (raised_configuration z p) (raised_configuration z q) (map (raised_move z) ms) (map (raised_move z) ks)
        ≡ map (raised_step z) (first_of low set rs more p q ms ks)
    first_of_raised p q i j (m ∷ ms) ks f g = taken_raised left p q m i j (f m (Memᴰ.head refl))
    first_of_raised p q i j [] (k ∷ ks) f g = taken_raised right q p k j i (g k (Memᴰ.head refl))
    first_of_raised p q i j [] [] f g = refl

    -- at a pair that goes on, and at one that ends the trail
    steps_at_raised : (cs : List ℕ) (p q : Configuration) → In p.store → In q.store → (ends : Bool)
        → steps_at high raised_set rs above cs (raised_configuration z p) (raised_configuration z q) ends
        ≡ map (raised_step z) (steps_at low set rs more cs p q ends)
    steps_at_raised cs p q i j true = refl
    steps_at_raised cs p q i j false =
        ap₂ (first_of high raised_set rs above (raised_configuration z p) (raised_configuration z q))
        (unanswered_raised cs p q i j) (unanswered_raised cs q p j i)
        ∙ first_of_raised p q i j (unanswered low set rs cs p q) (unanswered low set rs cs q p)
        (λ m k. (unanswered_mem low set rs cs p q k).0) (λ m k. (unanswered_mem low set rs cs q p k).0)

  -- ---- the trail
  trail_from_raised : (n : ℕ) (p q : Configuration) → In p.store → In q.store
      → trail_from high raised_set rs n (raised_configuration z p) (raised_configuration z q) ≡ map (raised_step z) (trail_from low set rs n p q)
  unfolding trail_from
  trail_from_raised zero p q i j = refl
  trail_from_raised (suc n) p q i j =
      let r : ℕ = apart_in set rs p q in
      ap (λ (k : ℕ). steps_at high raised_set rs (trail_from high raised_set rs n) (get_or rs (k - 1) []) (raised_configuration z p) (raised_configuration z q)
      (eqb k 0 || eqb k (length rs))) (apart_raised z set rs p q)
      ∙ steps_at_raised (trail_from high raised_set rs n) (trail_from low set rs n) (trail_from_raised n) (get_or rs (r - 1) []) p q i j
      (eqb r 0 || eqb r (length rs))

-- ---- the report
-- what is reported of a set and its rounds
abbrev report_by : Sheet → List Configuration → Configuration → Configuration → List (List ℕ) → Report
report_by sheet set p q rs =
    record {
      verdict = verdict_of rs (apart_in set rs p q);
      round = round_of rs (apart_in set rs p q);
      left_place = place_of set p;
      right_place = place_of set q;
      members = set;
      classes = get_or rs (result_of rs) [];
      steps = trail sheet set rs p q;
    }

module _ {z : ℕ} {In : ℕ → Type 0} {low high : Sheet} (R : RaisedBy z In low high) (set : List Configuration) where
  report_by_raised : (rs : List (List ℕ)) (p q : Configuration) → In p.store → In q.store
      → report_by high (map (raised_configuration z) set) (raised_configuration z p) (raised_configuration z q) rs
      ≡ raised_report z (report_by low set p q rs)
  report_by_raised rs p q i j =
      let apart = apart_raised z set rs p q in
      λ k. record {
        verdict = verdict_of rs (apart k);
        round = round_of rs (apart k);
        left_place = place_of_raised z set p k;
        right_place = place_of_raised z set q k;
        members = map (raised_configuration z) set;
        classes = get_or rs (result_of rs) [];
        steps = trail_from_raised R set rs (length rs) p q i j k;
      }

  pub report_raised : AllIn In set → (p q : Configuration) → In p.store → In q.store
      → report_on high (map (raised_configuration z) set) (raised_configuration z p) (raised_configuration z q) ≡ raised_report z (report_on low set p q)
  unfolding report_on
  report_raised allIn p q i j =
      ap (report_by high (map (raised_configuration z) set) (raised_configuration z p) (raised_configuration z q)) (rounds_raised R set allIn)
      ∙ report_by_raised (rounds low set) p q i j

-- ---- its length
pub members_raised_length : (z : ℕ) (set : List Configuration) → members_length (map (raised_configuration z) set) ≡ members_length set
members_raised_length z [] = refl
members_raised_length z (p ∷ ps) = ap (λ (n : ℕ). member_length (length p.threads) + n) (members_raised_length z ps)

-- a raised report has as many bytes
pub raised_length : (z : ℕ) (r : Report) → length (report_bytes (raised_report z r)) ≡ length (report_bytes r)
raised_length z r =
    report_length_lem (raised_report z r)
    ∙ ap₂ (λ (m n : ℕ). word_length + m + word_length + n * step_length)
    (members_raised_length z r.members) (length-map r.steps (raised_step z))
    ∙ sym (report_length_lem r)
