-- A sheet and the same without its standing facts: the starts, the choice of two, and what a call makes of them.
use Rattle.std.specs.Prelude.{◌≡◌, refl, Bool, true, false, length, leb}
use Rattle.std.proofs.Common.{sym, ◌∙◌, subst, ⊎_elim, leb-false}
use Rattle.std.proofs.Math.Path.{ap, ap₂}
use Rattle.std.proofs.Math.Bool.{cond}
use mathlib.Core.List.Memᴰ
use mathlib.Core.List.{List, [], ◌∷◌, map, map-id, map-map, Memᴰ}
use Prim.Native.Nat.{ℕ, suc, ◌<◌}
use Rattle.std.proofs.Math.ListN.{get_or}
use Rattle.std.proofs.lemmas.List.{length-map}
use Rattle.comparison_laws.specs.Lists.{same_numbers}
use Rattle.comparison_laws.specs.Members.{mem_map}
use Rattle.comparison_laws.specs.ListPlaces.{get_d_in, get_d_image, map_alike}
use Rattle.comparison_laws.specs.Stores.{least_store}
use Rattle.comparison_laws.specs.StoreLaws.{least_within}
use Rattle.comparison_laws.specs.Refusals.{absent_start}
use Rattle.comparison_laws.specs.Sheet.{Configuration, Sheet, start}
use Rattle.comparison_laws.specs.WellFormed.{Admissible}
use Rattle.comparison_laws.specs.Reading.{Reading, got, refused_if, chosen}
use Rattle.comparison_laws.specs.CallLimits.{Limits}
use Rattle.comparison_laws.specs.Classes.{class_of, share}
use Rattle.comparison_laws.specs.Rounds.{classes, rounds, result_of}
use Rattle.comparison_laws.specs.Outcome.{Outcome}
use Rattle.comparison_laws.specs.Frame.{with_room, with_set, with_work, with_sheet}
use Rattle.all_starts.specs.Grouping.{Grouping, grouping_on}
use Rattle.after_rounds.specs.AfterRounds.{SAME, DIFF, OPEN, AfterRounds, after_on}
use Rattle.standing_laws.specs.StandingFacts.{configuration_without, sheet_without, raised_configuration, raised_grouping, raised_after, outcome_by}
use Rattle.standing_laws.proofs.RaisedSets.{Free, free_outside, raised_outside}
use Rattle.standing_laws.proofs.RaisedLists.{class_of_raised, share_raised}
use Rattle.standing_laws.proofs.RaisedSheets.{RaisedBy, AllIn}
use Rattle.standing_laws.proofs.RaisedRounds.{classes_raised, rounds_raised}
use Rattle.standing_laws.proofs.RaisedMoves.{standing_raised}
use Rattle.standing_laws.proofs.RaisedCalls.{framed_raised}

module _ (sheet : Sheet) (fine : Admissible sheet) where
  -- the facts that always stand
  abbrev pub z : ℕ
  z = least_store sheet.rules

  -- the sheet without them
  abbrev pub lower : Sheet
  lower = sheet_without z sheet

  pub raised_moves : RaisedBy z (Free z) lower sheet
  raised_moves = standing_raised sheet fine.well_formed

  back : (p : Configuration) → Memᴰ p sheet.starts → raised_configuration z (configuration_without z p) ≡ p
  back p m =
      ap (λ (s : ℕ). record { store = s; threads = p.threads })
      (raised_outside z p.store (least_within sheet.rules p.store (fine.starts_fit p m).store.closed))

  pub starts_raised : map (raised_configuration z) lower.starts ≡ sheet.starts
  starts_raised =
      map-map (raised_configuration z) (configuration_without z) sheet.starts
      ∙ map_alike (λ p. raised_configuration z (configuration_without z p)) (λ p. p) sheet.starts back ∙ map-id sheet.starts

  pub starts_free : AllIn (Free z) lower.starts
  starts_free p m =
      let y = mem_map (configuration_without z) sheet.starts m in
      subst (λ (q : Configuration). Free z q.store) (sym y.2) (free_outside z y.0.store)

  start_raised : (k : ℕ) → k < length sheet.starts → raised_configuration z (start lower k) ≡ start sheet k
  start_raised k h =
      let default : Configuration = record { store = 0; threads = [] } in
      ap (raised_configuration z) (get_d_image (configuration_without z) sheet.starts k default default h)
      ∙ back (start sheet k) (get_d_in sheet.starts k default h)

  pub start_free : (k : ℕ) → k < length sheet.starts → Free z (start lower k).store
  start_free k h =
      let default : Configuration = record { store = 0; threads = [] } in
      subst (λ (q : Configuration). Free z q.store) (sym (get_d_image (configuration_without z) sheet.starts k default default h))
      (free_outside z (start sheet k).store)

  -- both starts of a choice
  pub pair_free : (p q : Configuration) → Free z p.store → Free z q.store → AllIn (Free z) (p ∷ q ∷ [])
  pair_free p q f g r m =
      ⊎_elim (λ (e : r ≡ p). subst (λ (x : Configuration). Free z x.store) (sym e) f)
      (λ (n : Memᴰ r (q ∷ [])).
      ⊎_elim (λ (e : r ≡ q). subst (λ (x : Configuration). Free z x.store) (sym e) g)
      (λ (o : Memᴰ r []). absurd (Memᴰ.not-nil o)) (Memᴰ.cases_cons n))
      (Memᴰ.cases_cons m)

  -- ---- two starts of the sheet, by what is made of them and of the set
  module _ {A : Type 0} (up : A → A) (bytes : A → List ℕ) (as_long : (a : A) → length (bytes (up a)) ≡ length (bytes a))
      (make : Sheet → List Configuration → Configuration → Configuration → A)
      (made : (p q : Configuration) → Free z p.store → Free z q.store → (set : List Configuration) → AllIn (Free z) set
      → make sheet (map (raised_configuration z) set) (raised_configuration z p) (raised_configuration z q) ≡ up (make lower set p q))
      (l : Limits) (left right work answer : ℕ) where
    abbrev on_pair : Sheet → Configuration → Configuration → Outcome A
    on_pair s p q = with_work work (with_set l s (p ∷ q ∷ []) (λ set. with_room bytes answer (make s set p q)))

    pair_raised : left < length sheet.starts → right < length sheet.starts
        → on_pair sheet (start sheet left) (start sheet right) ≡ outcome_by up (on_pair lower (start lower left) (start lower right))
    pair_raised h k =
        let p : Configuration = start lower left in
        let q : Configuration = start lower right in
        let f : Free z p.store = start_free left h in
        let g : Free z q.store = start_free right k in
        ap₂ (on_pair sheet) (sym (start_raised left h)) (sym (start_raised right k))
        ∙ framed_raised raised_moves up bytes as_long l (p ∷ q ∷ []) (pair_free p q f g) (λ set. make lower set p q)
        (λ set. make sheet set (raised_configuration z p) (raised_configuration z q)) (made p q f g) work answer

    -- the call by the choice
    abbrev called : Reading Sheet → Outcome A
    called r = with_sheet r (λ s. on_pair s (start s left) (start s right))

    pub choice_raised : (end lend : ℕ) → called (chosen left right sheet end) ≡ outcome_by up (called (chosen left right lower lend))
    choice_raised end lend =
        rw (length-map sheet.starts (configuration_without z))
        (go (leb (length sheet.starts) left) (leb (length sheet.starts) right) refl refl)
      where
        go : (a b : Bool) → leb (length sheet.starts) left ≡ a → leb (length sheet.starts) right ≡ b
            → called (refused_if a absent_start 0 (refused_if b absent_start 1 (got sheet end)))
            ≡ outcome_by up (called (refused_if a absent_start 0 (refused_if b absent_start 1 (got lower lend))))
        go true b e f = refl
        go false true e f = refl
        go false false e f = pair_raised (leb-false (length sheet.starts) left e) (leb-false (length sheet.starts) right f)

  -- ---- what is made of the set
  pub grouped_raised : (set : List Configuration) → AllIn (Free z) set
      → grouping_on sheet (map (raised_configuration z) set) ≡ raised_grouping z (grouping_on lower set)
  unfolding grouping_on
  grouped_raised set inside =
      ap (by sheet (map (raised_configuration z) set)) (rounds_raised raised_moves set inside) ∙ starts (rounds lower set)
    where
      by : Sheet → List Configuration → List (List ℕ) → Grouping
      by s set rs =
          let numbers = get_or rs (result_of rs) [] in
          record { round = result_of rs; members = set; classes = numbers; start_classes = map (class_of set numbers) s.starts }

      each : (cs : List ℕ) (ps : List Configuration) → map (class_of (map (raised_configuration z) set) cs) (map (raised_configuration z) ps)
          ≡ map (class_of set cs) ps
      each cs ps =
          map-map (class_of (map (raised_configuration z) set) cs) (raised_configuration z) ps
          ∙ map_alike (λ p. class_of (map (raised_configuration z) set) cs (raised_configuration z p)) (class_of set cs) ps (λ p m. class_of_raised z set cs p)

      starts : (rs : List (List ℕ)) → by sheet (map (raised_configuration z) set) rs ≡ raised_grouping z (by lower set rs)
      starts rs =
          ap (λ (cs : List ℕ). record { round = result_of rs; members = map (raised_configuration z) set; classes = get_or rs (result_of rs) []; start_classes = cs })
          (ap (map (class_of (map (raised_configuration z) set) (get_or rs (result_of rs) []))) (sym starts_raised)
          ∙ each (get_or rs (result_of rs) []) lower.starts)

  pub reached_raised : (k : ℕ) (p q : Configuration) → Free z p.store → Free z q.store → (set : List Configuration) → AllIn (Free z) set
      → after_on sheet (map (raised_configuration z) set) k (raised_configuration z p) (raised_configuration z q) ≡ raised_after z (after_on lower set k p q)
  unfolding after_on
  reached_raised k p q f g set inside =
      ap₂ (λ (now next : List ℕ). by now next) (classes_raised raised_moves set inside k) (classes_raised raised_moves set inside (suc k))
      ∙ ap (λ (b : Bool). record {
        verdict = cond b (cond (same_numbers (classes lower set (suc k)) (classes lower set k)) SAME OPEN) DIFF;
        members = map (raised_configuration z) set;
        classes = classes lower set k;
      }) (share_raised z set (classes lower set k) p q)
    where
      by : List ℕ → List ℕ → AfterRounds
      by now next = record {
        verdict = cond (share (map (raised_configuration z) set) now (raised_configuration z p) (raised_configuration z q))
            (cond (same_numbers next now) SAME OPEN) DIFF;
        members = map (raised_configuration z) set;
        classes = now;
      }
