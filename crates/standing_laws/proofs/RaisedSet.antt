-- Of two sheets of which one moves as the other does with z in every store and label, the set that grows from raised seeds is the set of
-- the other with z in every store; and it fits the limits where that does.
use Rattle.std.specs.Prelude.{◌≡◌, Bool, not, ◌&&◌, ◌||◌, eqb, leb, ltb}
use Rattle.std.proofs.Math.Path.{refl, ap}
use Rattle.std.proofs.Common.{sym, ap₂, ◌∙◌, subst, ⊎_elim}
use Rattle.std.proofs.Math.Bool.{true, false}
use mathlib.Core.List.Memᴰ
use mathlib.Core.List.{List, [], ◌∷◌, ◌++◌, map, map-append, Memᴰ}
use Prim.Native.Nat.{ℕ, zero, suc, ◌+◌}
use Rattle.std.proofs.Math.ListN.{length, length-map}
use Rattle.comparison_laws.specs.Lists.{select, concat_map, arrange}
use Rattle.comparison_laws.specs.Members.{mem_select, mem_map, mem_concat_map}
use Rattle.comparison_laws.specs.AscendingLaws.{arrange_only}
use Rattle.comparison_laws.specs.ImageLaws.{any_image, select_image, map_image, concat_map_image}
use Rattle.comparison_laws.specs.Stores.{strictly_below}
use Rattle.comparison_laws.specs.Sheet.{Configuration, Sheet}
use Rattle.comparison_laws.specs.Orders.{Move, configuration_before}
use Rattle.comparison_laws.specs.Moves.{moves, add}
use Rattle.comparison_laws.specs.OrderLaws.{configuration_order}
use Rattle.comparison_laws.specs.CallLimits.{Limits}
use Rattle.comparison_laws.specs.Set.{added_below, reached, grown, over, explored_from, explored, move_count, fits}
use Rattle.standing_laws.specs.StandingFacts.{raised, raised_configuration, raised_move}
use Rattle.standing_laws.proofs.RaisedSheets.{RaisedBy, AllIn}
use Rattle.standing_laws.proofs.RaisedLists.{arrange_raised}

-- the limits of members and threads do not look at stores
pub over_raised : (z : ℕ) (l : Limits) (set : List Configuration) → over l (map (raised_configuration z) set) ≡ over l set
over_raised z l set =
    ap₂ (λ (n : ℕ) (t : Bool). ltb l.members n || t) (length-map set (raised_configuration z))
    (any_image (raised_configuration z) (λ p. ltb l.threads (length p.threads)) (λ p. ltb l.threads (length p.threads)) set (λ p m. refl))

-- what a member with these moves brings
abbrev brought_by : Sheet → List Move → List Configuration
brought_by sheet ms = map (λ m. m.target) ms ++ concat_map (added_below sheet ms) ms

-- one growth: the set where a limit is passed or nothing is added, and otherwise what follows
abbrev growing : Bool → Bool → List Configuration → List Configuration → List Configuration
growing a b set more = elim a [ true ↦ set | false ↦ elim b [ true ↦ set | false ↦ more ] ]

module _ {z : ℕ} {In : ℕ → Type 0} {low high : Sheet} (R : RaisedBy z In low high) where
  -- ---- nothing that the set grows by is outside
  reached_in : (p : Configuration) → In p.store → AllIn In (reached low p)
  reached_in p i t h =
      ⊎_elim
      (λ (x : Memᴰ t (map (λ m. m.target) (moves low p))).
      let y = mem_map (λ (m : Move). m.target) (moves low p) x in
      subst (λ (c : Configuration). In c.store) (sym y.2) (R.moves_in p i y.0 y.1).1)
      (λ (x : Memᴰ t (concat_map (added_below low (moves low p)) (moves low p))).
      let y = mem_concat_map (added_below low (moves low p)) (moves low p) x in
      let m : Move = y.0 in
      let w = mem_map (λ (k : Move). add low m.label k.target) (select (λ k. strictly_below k.label m.label) (moves low p)) y.2 in
      let s = mem_select (λ k. strictly_below k.label m.label) (moves low p) w.1 in
      subst (λ (c : Configuration). In c.store) (sym w.2)
      (R.add_in m.label w.0.target (R.moves_in p i m y.1).0 (R.moves_in p i w.0 s.0).1))
      (Memᴰ.append_cases (map (λ m. m.target) (moves low p)) h)

  grown_in : (set : List Configuration) → AllIn In set → AllIn In (grown low set)
  grown_in set i p m =
      ⊎_elim (λ (x : Memᴰ p set). i p x)
      (λ (x : Memᴰ p (concat_map (reached low) set)).
      let y = mem_concat_map (reached low) set x in
      reached_in y.0 (i y.0 y.1) p y.2)
      (Memᴰ.append_cases set (arrange_only configuration_order (set ++ concat_map (reached low) set) m))

  from_in : (n : ℕ) (l : Limits) (set : List Configuration) → AllIn In set → AllIn In (explored_from n low l set)
  unfolding explored_from
  from_in zero l set i = i
  from_in (suc n) l set i =
      go (from_in n l (grown low set) (grown_in set i)) (over l set) (eqb (length (grown low set)) (length set))
    where
      go : AllIn In (explored_from n low l (grown low set)) → (a b : Bool) → AllIn In (growing a b set (explored_from n low l (grown low set)))
      go ih true b = i
      go ih false true = i
      go ih false false = ih

  arrange_in : (ps : List Configuration) → AllIn In ps → AllIn In (arrange configuration_before ps)
  arrange_in ps i p m = i p (arrange_only configuration_order ps m)

  pub explored_in : (l : Limits) (seeds : List Configuration) → AllIn In seeds → AllIn In (explored low l seeds)
  unfolding explored
  explored_in l seeds i = from_in (suc l.members) l (arrange configuration_before seeds) (arrange_in seeds i)

  -- ---- and each growth is raised
  -- moves of which labels and targets are in, with the label of one of them added
  added_raised : (ms : List Move) → ((k : Move) → Memᴰ k ms → In k.label × In k.target.store) → (m : Move) → Memᴰ m ms
      → added_below high (map (raised_move z) ms) (raised_move z m) ≡ map (raised_configuration z) (added_below low ms m)
  added_raised ms i m h =
      ap (map (λ k. add high (raised z m.label) k.target))
      (select_image (raised_move z) (λ k. strictly_below k.label (raised z m.label)) (λ k. strictly_below k.label m.label) ms
      (λ k j. R.below_raised k.label m.label (i k j).0 (i m h).0))
      ∙ map_image (raised_move z) (λ k. add high (raised z m.label) k.target) (λ k. add low m.label k.target) (raised_configuration z)
      (select (λ k. strictly_below k.label m.label) ms)
      (λ k j. R.add_raised m.label k.target (i m h).0 (i k (mem_select (λ k. strictly_below k.label m.label) ms j).0).1)

  reached_raised : (p : Configuration) → In p.store → reached high (raised_configuration z p) ≡ map (raised_configuration z) (reached low p)
  reached_raised p i =
      ap (brought_by high) (R.moves_raised p i)
      ∙ ap₂ ◌++◌
      (map_image (raised_move z) (λ m. m.target) (λ m. m.target) (raised_configuration z) (moves low p) (λ m h. refl))
      (concat_map_image (raised_move z) (added_below high (map (raised_move z) (moves low p))) (added_below low (moves low p)) (raised_configuration z)
      (moves low p) (added_raised (moves low p) (R.moves_in p i)))
      ∙ sym (map-append (raised_configuration z) (map (λ m. m.target) (moves low p)) (concat_map (added_below low (moves low p)) (moves low p)))

  grown_raised : (set : List Configuration) → AllIn In set
      → grown high (map (raised_configuration z) set) ≡ map (raised_configuration z) (grown low set)
  grown_raised set i =
      ap (λ (more : List Configuration). arrange configuration_before (map (raised_configuration z) set ++ more))
      (concat_map_image (raised_configuration z) (reached high) (reached low) (raised_configuration z) set (λ p m. reached_raised p (i p m)))
      ∙ ap (arrange configuration_before) (sym (map-append (raised_configuration z) set (concat_map (reached low) set)))
      ∙ arrange_raised z (set ++ concat_map (reached low) set)

  from_raised : (n : ℕ) (l : Limits) (set : List Configuration) → AllIn In set
      → explored_from n high l (map (raised_configuration z) set) ≡ map (raised_configuration z) (explored_from n low l set)
  unfolding explored_from
  from_raised zero l set i = refl
  from_raised (suc n) l set i =
      let next : grown high (map (raised_configuration z) set) ≡ map (raised_configuration z) (grown low set) = grown_raised set i in
      let long : length (grown high (map (raised_configuration z) set)) ≡ length (grown low set) =
      ap length next ∙ length-map (grown low set) (raised_configuration z) in
      let more : explored_from n high l (grown high (map (raised_configuration z) set))
      ≡ map (raised_configuration z) (explored_from n low l (grown low set)) =
      ap (explored_from n high l) next ∙ from_raised n l (grown low set) (grown_in set i) in
      (λ j. growing (over_raised z l set j) (eqb (long j) (length-map set (raised_configuration z) j)) (map (raised_configuration z) set) (more j))
      ∙ go (over l set) (eqb (length (grown low set)) (length set))
    where
      go : (a b : Bool)
          → growing a b (map (raised_configuration z) set) (map (raised_configuration z) (explored_from n low l (grown low set)))
          ≡ map (raised_configuration z) (growing a b set (explored_from n low l (grown low set)))
      go true b = refl
      go false true = refl
      go false false = refl

  pub explored_raised : (l : Limits) (seeds : List Configuration) → AllIn In seeds
      → explored high l (map (raised_configuration z) seeds) ≡ map (raised_configuration z) (explored low l seeds)
  unfolding explored
  explored_raised l seeds i =
      ap (explored_from (suc l.members) high l) (arrange_raised z seeds)
      ∙ from_raised (suc l.members) l (arrange configuration_before seeds) (arrange_in seeds i)

  -- ---- the limits
  move_count_raised : (set : List Configuration) → AllIn In set → move_count high (map (raised_configuration z) set) ≡ move_count low set
  move_count_raised [] i = refl
  move_count_raised (p ∷ ps) i =
      ap₂ ◌+◌ (ap length (R.moves_raised p (i p (Memᴰ.head refl))) ∙ length-map (moves low p) (raised_move z))
      (move_count_raised ps (λ q m. i q (Memᴰ.tail m)))

  pub fits_raised : (l : Limits) (set : List Configuration) → AllIn In set → fits high l (map (raised_configuration z) set) ≡ fits low l set
  fits_raised l set i = ap₂ (λ (a : Bool) (n : ℕ). not a && leb n l.moves) (over_raised z l set) (move_count_raised set i)
