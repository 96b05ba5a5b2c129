-- The explored list against the set itself. The list has members only; where no limit is passed it has them all; and a limit
-- is passed exactly when the set itself passes it.
use Rattle.std.specs.Prelude.{◌≡◌, ◌↔◌, Bool, not, ◌||◌, eqb, leb, ltb}
use Rattle.std.proofs.Math.Path.{refl}
use Rattle.std.proofs.Common.{sym, ap, ap₂, ◌∙◌, subst, ⊎_elim, arith, length-append, eqb-true, ltb-true, lt-ltb, leb-true, leb-false}
use Rattle.std.proofs.Math.Bool.{true, false}
use mathlib.Core.List.{List, [], ◌∷◌, ◌++◌, map, Memᴰ}
use Prim.Native.Nat.{ℕ, zero, suc, ◌+◌, ◌≤◌, ◌<◌}
use Rattle.std.proofs.Math.ListN.{length}
use Rattle.std.proofs.lemmas.List.{length-map}
use Rattle.std.proofs.lemmas.Bool.{eqb-false, not-true}
use Rattle.move_laws.specs.TestLaws.{true_false, and_left, and_right, and_intro, or_left, or_right, not_passes, Tested, tested, passes, fails}
use Rattle.move_laws.specs.Lists.{select, any, concat_map, Ascends, arrange, Distinct, no_elements, one_more}
use Rattle.move_laws.specs.Members.{mem_select, select_mem, any_yes, any_mem, mem_map, map_mem, mem_concat_map, concat_map_mem}
use Rattle.move_laws.specs.AscendingLaws.{arrange_ascends, arrange_keeps, arrange_only}
use Rattle.move_laws.specs.Counting.{distinct_length, distinct_append, distinct_map, ascends_distinct, ascends_filled}
use Rattle.move_laws.specs.Stores.{strictly_below}
use Rattle.move_laws.specs.StoreLaws.{below_within, within_below}
use Rattle.move_laws.specs.Sheet.{Configuration, Sheet}
use Rattle.move_laws.specs.Orders.{Move, configuration_before, move_before}
use Rattle.move_laws.specs.OrderLaws.{configuration_order, move_order}
use Rattle.move_laws.specs.Moves.{moves, add, moves_from}
use Rattle.comparison.specs.CallLimits.{Limits}
use Rattle.comparison.specs.Set.{added_below, reached, grown, over, explored_from, explored, move_count, fits}
use Rattle.comparison.specs.Refinement.{Member, seed, target, added}
use Rattle.refinement_laws.specs.StableRounds.{member_least}
use Rattle.comparison.specs.SheetTransitions.{transitions}
use Rattle.comparison.specs.Promise.{MemberMove, PassesLimit, many_members, many_threads_lem, many_moves}
use Rattle.comparison_laws.specs.RoundLaws.{ClosedList}

-- the moves of a configuration ascend, so none stands twice
pub moves_ascend : (sheet : Sheet) (p : Configuration) → Ascends move_before (moves sheet p)
unfolding moves
moves_ascend sheet p = arrange_ascends move_order (moves_from sheet p.store [] p.threads)

module _ (sheet : Sheet) (l : Limits) (seeds : List Configuration) where
  abbrev InSet : Configuration → Type 0
  InSet = Member (transitions sheet) seeds

  -- ---- one growth
  reached_member : (p : Configuration) → InSet p → {t : Configuration} → Memᴰ t (reached sheet p) → InSet t
  reached_member p mp {t} h =
      ⊎_elim
      (λ (x : Memᴰ t (map (λ m. m.target) (moves sheet p))).
      let y = mem_map (λ (m : Move). m.target) (moves sheet p) x in
      subst InSet (sym y.2) (target mp y.1))
      (λ (x : Memᴰ t (concat_map (added_below sheet (moves sheet p)) (moves sheet p))).
      let y = mem_concat_map (added_below sheet (moves sheet p)) (moves sheet p) x in
      let m : Move = y.0 in
      let z = mem_map (λ (k : Move). add sheet m.label k.target) (select (λ k. strictly_below k.label m.label) (moves sheet p)) y.2 in
      let s = mem_select (λ k. strictly_below k.label m.label) (moves sheet p) z.1 in
      subst InSet (sym z.2) (added mp s.0 y.1 (below_within z.0.label m.label s.1)))
      (mathlib.Core.List.Memᴰ.append_cases (map (λ m. m.target) (moves sheet p)) h)

  grown_keeps : (set : List Configuration) {p : Configuration} → Memᴰ p set → Memᴰ p (grown sheet set)
  grown_keeps set m = arrange_keeps configuration_order (set ++ concat_map (reached sheet) set) (mathlib.Core.List.Memᴰ.append_left (concat_map (reached sheet) set) m)

  grown_member : (set : List Configuration) → ((p : Configuration) → Memᴰ p set → InSet p) → (p : Configuration) → Memᴰ p (grown sheet set) → InSet p
  grown_member set f p m =
      ⊎_elim (λ (x : Memᴰ p set). f p x)
      (λ (x : Memᴰ p (concat_map (reached sheet) set)). let y = mem_concat_map (reached sheet) set x in reached_member y.0 (f y.0 y.1) y.2)
      (mathlib.Core.List.Memᴰ.append_cases set (arrange_only configuration_order (set ++ concat_map (reached sheet) set) m))

  -- a list that growth leaves as it is has what its members bring
  grown_closed : (set : List Configuration) → set ≡ grown sheet set → ClosedList sheet set
  grown_closed set e =
      record {
        targets = λ p m mp mm. back (concat_map_mem (reached sheet) set mp (mathlib.Core.List.Memᴰ.append_left (concat_map (added_below sheet (moves sheet p)) (moves sheet p)) (map_mem (λ (m : Move). m.target) mm)));
        addeds = λ p k m mp mk mm b.
            back (concat_map_mem (reached sheet) set mp
            (mathlib.Core.List.Memᴰ.append_right (map (λ m. m.target) (moves sheet p))
            (concat_map_mem (added_below sheet (moves sheet p)) (moves sheet p) mm
            (map_mem (λ (k : Move). add sheet m.label k.target) (select_mem (λ k. strictly_below k.label m.label) (moves sheet p) mk b)))));
      }
    where
      back : {t : Configuration} → Memᴰ t (concat_map (reached sheet) set) → Memᴰ t set
      back {t} m =
          subst (λ (s : List Configuration). Memᴰ t s) (sym e)
          (arrange_keeps configuration_order (set ++ concat_map (reached sheet) set) (mathlib.Core.List.Memᴰ.append_right set m))

  -- ---- growing until nothing is added
  from_keeps : (n : ℕ) (set : List Configuration) {p : Configuration} → Memᴰ p set → Memᴰ p (explored_from n sheet l set)
  unfolding explored_from
  from_keeps zero set m = m
  from_keeps (suc n) set {p} m = go (from_keeps n (grown sheet set) (grown_keeps set m)) (over l set) (eqb (length (grown sheet set)) (length set))
    where
      go : Memᴰ p (explored_from n sheet l (grown sheet set)) → (a b : Bool)
          → Memᴰ p (elim a [ true ↦ set | false ↦ elim b [ true ↦ set | false ↦ explored_from n sheet l (grown sheet set) ] ])
      go ih true b = m
      go ih false true = m
      go ih false false = ih

  from_member : (n : ℕ) (set : List Configuration) → ((p : Configuration) → Memᴰ p set → InSet p)
      → (p : Configuration) → Memᴰ p (explored_from n sheet l set) → InSet p
  unfolding explored_from
  from_member zero set f p m = f p m
  from_member (suc n) set f p m = go (from_member n (grown sheet set) (grown_member set f) p) (over l set) (eqb (length (grown sheet set)) (length set)) m
    where
      go : (Memᴰ p (explored_from n sheet l (grown sheet set)) → InSet p) → (a b : Bool)
          → Memᴰ p (elim a [ true ↦ set | false ↦ elim b [ true ↦ set | false ↦ explored_from n sheet l (grown sheet set) ] ]) → InSet p
      go ih true b k = f p k
      go ih false true k = f p k
      go ih false false k = ih k

  from_ascends : (n : ℕ) (set : List Configuration) → Ascends configuration_before set → Ascends configuration_before (explored_from n sheet l set)
  unfolding explored_from
  from_ascends zero set a = a
  from_ascends (suc n) set a =
      go (from_ascends n (grown sheet set) (arrange_ascends configuration_order (set ++ concat_map (reached sheet) set))) (over l set) (eqb (length (grown sheet set)) (length set))
    where
      go : Ascends configuration_before (explored_from n sheet l (grown sheet set)) → (s b : Bool)
          → Ascends configuration_before (elim s [ true ↦ set | false ↦ elim b [ true ↦ set | false ↦ explored_from n sheet l (grown sheet set) ] ])
      go ih true b = a
      go ih false true = a
      go ih false false = ih

  over_many : (set : List Configuration) → l.members < length set → over l set ≡ true
  over_many set h = or_left (any (λ p. ltb l.threads (length p.threads)) set) (lt-ltb l.members (length set) h)

  from_closed : (n : ℕ) (set : List Configuration) → Ascends configuration_before set → l.members < length set + n
      → over l (explored_from n sheet l set) ≡ false → ClosedList sheet (explored_from n sheet l set)
  unfolding explored_from
  from_closed zero set a h o = true_false (over l set) (over_many set (omega arith)) o
  from_closed (suc n) set a h o =
      go (from_closed n (grown sheet set) (arrange_ascends configuration_order (set ++ concat_map (reached sheet) set)))
      (over l set) refl (eqb (length (grown sheet set)) (length set)) refl o
    where
      longer : length set ≤ length (grown sheet set)
      longer = distinct_length set (grown sheet set) (ascends_distinct configuration_order set a) (λ p m. grown_keeps set m)

      go : (l.members < length (grown sheet set) + n → over l (explored_from n sheet l (grown sheet set)) ≡ false → ClosedList sheet (explored_from n sheet l (grown sheet set)))
          → (s : Bool) → over l set ≡ s → (b : Bool) → eqb (length (grown sheet set)) (length set) ≡ b
          → over l (elim s [ true ↦ set | false ↦ elim b [ true ↦ set | false ↦ explored_from n sheet l (grown sheet set) ] ]) ≡ false
          → ClosedList sheet (elim s [ true ↦ set | false ↦ elim b [ true ↦ set | false ↦ explored_from n sheet l (grown sheet set) ] ])
      go ih true q b r o = true_false (over l set) q o
      go ih false q true r o =
          grown_closed set
          (ascends_filled configuration_order set (grown sheet set) a (arrange_ascends configuration_order (set ++ concat_map (reached sheet) set)) (λ p m. grown_keeps set m)
          (omega (arith, eqb-true (length (grown sheet set)) (length set) r)))
      go ih false q false r o = ih (omega (arith, longer, eqb-false (length (grown sheet set)) (length set) r)) o

  -- ---- the explored list
  pub explored_seeds : (p : Configuration) → Memᴰ p seeds → Memᴰ p (explored sheet l seeds)
  unfolding explored
  explored_seeds p m = from_keeps (suc l.members) (arrange configuration_before seeds) (arrange_keeps configuration_order seeds m)

  pub explored_member : (p : Configuration) → Memᴰ p (explored sheet l seeds) → InSet p
  unfolding explored
  explored_member = from_member (suc l.members) (arrange configuration_before seeds) (λ p m. seed (arrange_only configuration_order seeds m))

  pub explored_ascends : Ascends configuration_before (explored sheet l seeds)
  unfolding explored
  explored_ascends = from_ascends (suc l.members) (arrange configuration_before seeds) (arrange_ascends configuration_order seeds)

  -- where no limit of members and threads is passed, the list is the set
  pub explored_closed : over l (explored sheet l seeds) ≡ false → ClosedList sheet (explored sheet l seeds)
  unfolding explored
  explored_closed o = from_closed (suc l.members) (arrange configuration_before seeds) (arrange_ascends configuration_order seeds) (omega arith) o

  in_closed : (set : List Configuration) → ClosedList sheet set → ((p : Configuration) → Memᴰ p seeds → Memᴰ p set)
      → (p : Configuration) → InSet p → Memᴰ p set
  in_closed set c f =
      member_least (transitions sheet) seeds (λ p. Memᴰ p set) f
      (λ p t a i k. c.targets p (record { label = a; target = t }) i k)
      (λ p u t a b i k j s. c.addeds p (record { label = a; target = u }) (record { label = b; target = t }) i k j (within_below s.0 s.1))

  pub explored_complete : over l (explored sheet l seeds) ≡ false → (p : Configuration) → InSet p → Memᴰ p (explored sheet l seeds)
  explored_complete o = in_closed (explored sheet l seeds) (explored_closed o) explored_seeds

  -- ---- the limits
  pub fits_not_over : fits sheet l (explored sheet l seeds) ≡ true → over l (explored sheet l seeds) ≡ false
  fits_not_over h =
      not-true (over l (explored sheet l seeds)) (and_left (not (over l (explored sheet l seeds))) (leb (move_count sheet (explored sheet l seeds)) l.moves) h)

  -- every move of every member of a list
  abbrev member_move : Configuration → Move → MemberMove
  member_move p m = record { member = p; move = m }

  abbrev member_moves : List Configuration → List MemberMove
  member_moves set = concat_map (λ p. map (member_move p) (moves sheet p)) set

  member_moves_length : (set : List Configuration) → length (member_moves set) ≡ move_count sheet set
  member_moves_length [] = refl
  member_moves_length (p ∷ ps) =
      length-append (map (member_move p) (moves sheet p)) (member_moves ps) ∙ ap₂ ◌+◌ (length-map (moves sheet p) (member_move p)) (member_moves_length ps)

  member_moves_distinct : (set : List Configuration) → Distinct set → Distinct (member_moves set)
  member_moves_distinct [] d = no_elements
  member_moves_distinct (p ∷ ps) (one_more n d) =
      distinct_append (map (member_move p) (moves sheet p)) (member_moves ps)
      (distinct_map (member_move p) (moves sheet p) (λ a b e. ap (λ (x : MemberMove). x.move) e) (ascends_distinct move_order (moves sheet p) (moves_ascend sheet p)))
      (member_moves_distinct ps d)
      (λ x m k.
      let y = mem_map (member_move p) (moves sheet p) m in
      let z = mem_concat_map (λ q. map (member_move q) (moves sheet q)) ps k in
      let w = mem_map (member_move z.0) (moves sheet z.0) z.2 in
      n (subst (λ (q : Configuration). Memᴰ q ps) (ap (λ (x : MemberMove). x.member) (sym w.2 ∙ y.2)) z.1))

  -- 21 is given exactly when the set itself passes a limit
  pub limit_passed : fits sheet l (explored sheet l seeds) ≡ false → PassesLimit sheet l seeds
  limit_passed h = go (tested (over l (explored sheet l seeds))) (tested (leb (move_count sheet (explored sheet l seeds)) l.moves))
    where
      threads : Tested (ltb l.members (length (explored sheet l seeds))) → over l (explored sheet l seeds) ≡ true → PassesLimit sheet l seeds
      threads (passes a) o =
          many_members (record {
            elements = explored sheet l seeds;
            distinct = ascends_distinct configuration_order (explored sheet l seeds) explored_ascends;
            all = explored_member;
            more = ltb-true l.members (length (explored sheet l seeds)) a;
          })
      threads (fails a) o =
          let x = any_yes (λ p. ltb l.threads (length p.threads)) (explored sheet l seeds)
          (subst (λ (b : Bool). (b || any (λ p. ltb l.threads (length p.threads)) (explored sheet l seeds)) ≡ true) a o) in
          many_threads_lem x.0 (explored_member x.0 x.1) (ltb-true l.threads (length x.0.threads) x.2)

      go : Tested (over l (explored sheet l seeds)) → Tested (leb (move_count sheet (explored sheet l seeds)) l.moves) → PassesLimit sheet l seeds
      go (passes o) c = threads (tested (ltb l.members (length (explored sheet l seeds)))) o
      go (fails o) (passes c) = true_false (fits sheet l (explored sheet l seeds)) (and_intro (not_passes o) c) h
      go (fails o) (fails c) =
          many_moves (record {
            elements = member_moves (explored sheet l seeds);
            distinct = member_moves_distinct (explored sheet l seeds) (ascends_distinct configuration_order (explored sheet l seeds) explored_ascends);
            all = λ x m.
                let z = mem_concat_map (λ q. map (member_move q) (moves sheet q)) (explored sheet l seeds) m in
                let w = mem_map (member_move z.0) (moves sheet z.0) z.2 in (
                  subst InSet (ap (λ (x : MemberMove). x.member) (sym w.2)) (explored_member z.0 z.1),
                  subst (λ (y : MemberMove). Memᴰ y.move (moves sheet y.member)) (sym w.2) w.1,
                );
            more = omega (arith, leb-false (move_count sheet (explored sheet l seeds)) l.moves c, member_moves_length (explored sheet l seeds));
          })

  fits_no_limit : fits sheet l (explored sheet l seeds) ≡ true → PassesLimit sheet l seeds → ⊥
  fits_no_limit h (many_members x) =
      let o : over l (explored sheet l seeds) ≡ false = fits_not_over h in
      let k : length x.elements ≤ length (explored sheet l seeds) =
      distinct_length x.elements (explored sheet l seeds) x.distinct (λ p m. explored_complete o p (x.all p m)) in
      true_false (over l (explored sheet l seeds)) (over_many (explored sheet l seeds) (omega (arith, x.more, k))) o
  fits_no_limit h (many_threads_lem p m t) =
      let o : over l (explored sheet l seeds) ≡ false = fits_not_over h in
      true_false (over l (explored sheet l seeds))
      (or_right (ltb l.members (length (explored sheet l seeds)))
      (any_mem (λ p. ltb l.threads (length p.threads)) (explored sheet l seeds) (explored_complete o p m) (lt-ltb l.threads (length p.threads) t)))
      o
  fits_no_limit h (many_moves x) =
      let o : over l (explored sheet l seeds) ≡ false = fits_not_over h in
      let c : move_count sheet (explored sheet l seeds) ≤ l.moves =
      leb-true (move_count sheet (explored sheet l seeds)) l.moves
      (and_right (not (over l (explored sheet l seeds))) (leb (move_count sheet (explored sheet l seeds)) l.moves) h) in
      let k : length x.elements ≤ length (member_moves (explored sheet l seeds)) =
      distinct_length x.elements (member_moves (explored sheet l seeds)) x.distinct
      (λ y m.
      let z = x.all y m in
      concat_map_mem (λ q. map (member_move q) (moves sheet q)) (explored sheet l seeds) (explored_complete o y.member z.0)
      (map_mem (member_move y.member) z.1)) in
      omega (arith, x.more, k, c, member_moves_length (explored sheet l seeds))

  pub fits_exactly : (fits sheet l (explored sheet l seeds) ≡ false) ↔ PassesLimit sheet l seeds
  fits_exactly = (limit_passed, λ x. go x (tested (fits sheet l (explored sheet l seeds))))
    where
      go : PassesLimit sheet l seeds → Tested (fits sheet l (explored sheet l seeds)) → fits sheet l (explored sheet l seeds) ≡ false
      go x (passes h) = absurd (fits_no_limit h x)
      go x (fails h) = h

  -- so where the set passes no limit it fits
  pub fits_unpassed : (PassesLimit sheet l seeds → ⊥) → fits sheet l (explored sheet l seeds) ≡ true
  fits_unpassed n = go (tested (fits sheet l (explored sheet l seeds)))
    where
      go : Tested (fits sheet l (explored sheet l seeds)) → fits sheet l (explored sheet l seeds) ≡ true
      go (passes h) = h
      go (fails h) = absurd (n (limit_passed h))
