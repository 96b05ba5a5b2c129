-- The present classes of a set's members as a list, one for each place of the set. The entry at place k is the class of the
-- member there, so `class_of set cs` is the class of a member.
use Rattle.std.specs.Prelude.{◌≡◌, refl, ◌↔◌, ℕ, suc, ◌<◌, length, get_or}
use Rattle.std.proofs.Common.{sym, ◌∙◌, subst}
use mathlib.Core.List.{List, Memᴰ}
use Rattle.comparison_laws.specs.ListPlaces.{get_d_in, get_d_any}
use Rattle.comparison_laws.specs.Sheet.{Configuration, Sheet}
use Rattle.comparison_laws.specs.WellFormed.{WellFormed}
use Rattle.comparison_laws.specs.Refinement.{Round}
use Rattle.comparison_laws.specs.RoundLevels.{round_refl}
use Rattle.comparison_laws.specs.Classes.{place_of, class_of}
use Rattle.comparison_laws.specs.Rounds.{rounds}
use Rattle.comparison_laws.specs.SheetTransitions.{transitions}
use Rattle.comparison_laws.specs.SheetMoves.{lawful}
use Rattle.comparison_laws.specs.ClassLaws.{place_of_lt, place_of_at}
use Rattle.comparison_laws.specs.RoundLaws.{ClosedList, Sharing}
use Rattle.kept_classes.specs.ClassesPresent.{Present, present_now}
use Rattle.kept_classes.specs.MemberLines.{lines_of, lines_round}
use Rattle.kept_classes.specs.SetClasses.{PresentIn, present_sharing}

module _ (sheet : Sheet) (set : List Configuration) (d : Configuration) where
  -- the members at two places share a class in round n
  abbrev pub TogetherAt : ℕ → ℕ → ℕ → Type 0
  TogetherAt n i j = Round (transitions sheet) n (get_or set i d) (get_or set j d)

  abbrev pub PresentAt : (ℕ → ℕ) → (ℕ → ℕ) → ℕ → ℕ → List ℕ → Type 0
  PresentAt from born count r cs = Present (λ (i : ℕ). i < length set) TogetherAt from born count r (λ i. get_or cs i 0)

  place_at : (p : Configuration) → Memᴰ p set → get_or set (place_of set p) d ≡ p
  place_at p m = get_d_any set (place_of set p) d p (place_of_lt set p m) ∙ place_of_at set p m

  module _ (wf : WellFormed sheet) (from born : ℕ → ℕ) (count r : ℕ) (cs : List ℕ) (P : PresentAt from born count r cs) where
    now : (i j : ℕ) → i < length set → j < length set → (get_or cs i 0 ≡ get_or cs j 0) ↔ TogetherAt r i j
    now = present_now (λ (i : ℕ). i < length set) TogetherAt from born count r (λ i. get_or cs i 0) P

    -- the list's entry for a place is the class of its member
    pub class_at : (i : ℕ) → i < length set → class_of set cs (get_or set i d) ≡ get_or cs i 0
    class_at i l =
        let p : Configuration = get_or set i d in
        let m : Memᴰ p set = get_d_in set i d l in
        (now (place_of set p) i (place_of_lt set p m) l).1
        (subst (λ (q : Configuration). Round (transitions sheet) r q p) (sym (place_at p m))
        (round_refl (transitions sheet) (lawful sheet wf) r p))

    pub places_present : PresentIn sheet set from born count r (class_of set cs)
    places_present = record {
      births = P.births;
      known = λ p m. P.known (place_of set p) (place_of_lt set p m);
      by_now = λ p m. P.by_now (place_of set p) (place_of_lt set p m);
      used = λ c l. let x = P.used c l in (get_or set x.0 d, get_d_in set x.0 d x.1, class_at x.0 x.1 ∙ x.2);
      rounds = λ n p q l mp mq.
          let h = P.rounds n (place_of set p) (place_of set q) l (place_of_lt set p mp) (place_of_lt set q mq) in (
            (λ e. subst (λ (y : Configuration). Round (transitions sheet) n p y) (place_at q mq)
                (subst (λ (x : Configuration). Round (transitions sheet) n x (get_or set (place_of set q) d)) (place_at p mp) (h.0 e))),
            (λ t. h.1 (subst (λ (x : Configuration). Round (transitions sheet) n x (get_or set (place_of set q) d)) (sym (place_at p mp))
                (subst (λ (y : Configuration). Round (transitions sheet) n p y) (sym (place_at q mq)) t))),
          );
    }

    -- the list is round r
    pub places_sharing : (closed : ClosedList sheet set) → Sharing sheet wf set closed cs r
    places_sharing closed = present_sharing sheet set wf closed from born count r (class_of set cs) places_present cs (λ p m. refl)

    -- places with one class and equal lines are those that the next round has together
    pub places_next : (closed : ClosedList sheet set) → ((x : Configuration) → class_of set cs x < 65536) → (i j : ℕ)
        → i < length set → j < length set
        → ((get_or cs i 0 ≡ get_or cs j 0) × (lines_of sheet set cs (get_or set i d) ≡ lines_of sheet set cs (get_or set j d))) ↔ TogetherAt (suc r) i j
    places_next closed few i j li lj = (
      (λ x. (by ((now i j li lj).0 x.0)).0 x.1),
      (λ h. ((now i j li lj).1 h.0, (by h.0).1 h)),
    )
      where
        by : TogetherAt r i j → (lines_of sheet set cs (get_or set i d) ≡ lines_of sheet set cs (get_or set j d)) ↔ TogetherAt (suc r) i j
        by t =
            lines_round sheet set cs wf closed r (places_sharing closed) few (get_or set i d) (get_or set j d) (get_d_in set i d li)
            (get_d_in set j d lj)
            ((places_sharing closed).from_round (get_or set i d) (get_or set j d) (get_d_in set i d li) (get_d_in set j d lj) t)
