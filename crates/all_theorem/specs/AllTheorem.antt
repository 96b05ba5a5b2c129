-- The call for all starts, about its definition: each refusal is given under its condition and no other, a grouping is faithful to the
-- sheet, the room that the limits name suffices, and what is read back from a grouping's bytes is the grouping.
use Rattle.std.specs.Prelude.{◌≡◌, refl, ◌↔◌, true, length, get_or}
use Rattle.std.proofs.Common.{sym, ap₂, ◌∙◌}
use Rattle.std.proofs.Math.Path.{ap, subst}
use mathlib.Core.List.{List, [], ◌∷◌, ◌++◌, map, Memᴰ}
use Prim.Native.Nat.{ℕ, ◌+◌, ◌*◌, ◌/◌, ◌%◌, ◌≤◌, ◌<◌}
use native.Mathlib.Omega.{arith}
use Rattle.std.proofs.Math.ListN.{length-append, length-map}
use Rattle.std.proofs.Math.Seq.{take-append_seam}
use Rattle.answers.specs.Lists.{concat_map}
use Rattle.all_call.specs.ListPlaces.{get_d_in}
use Rattle.all_call.specs.Members.{mem_map}
use Rattle.answers.specs.Sheet.{Configuration, Sheet}
use Rattle.answers.specs.SheetBytes.{SheetIs, SheetRefused, word_bytes}
use Rattle.answers.specs.WellFormed.{Admissible}
use Rattle.answers.specs.Reading.{read_sheet}
use Rattle.answers.specs.SheetRead.{sheet_reads}
use Rattle.answers.specs.CallLimits.{Limits, NoGreater, limits}
use Rattle.answers.specs.Set.{explored, fits}
use Rattle.answers.specs.Classes.{class_of, place_of}
use Rattle.answers.specs.Rounds.{rounds, result_of}
use Rattle.answers.specs.Report.{members_bytes}
use Rattle.answers.specs.Outcome.{reported, refusal}
use Rattle.answers.specs.Promise.{PassesLimit}
use Rattle.call_theorem.specs.SetLaws.{fits_unpassed, fits_not_over, explored_seeds}
use Rattle.call_theorem.specs.ClassLaws.{place_of_lt}
use Rattle.call_theorem.specs.ReportLaws.{members_room}
use Rattle.call_theorem.specs.Theorem.{member_some, result_classified, result_round}
use Rattle.call_theorem.specs.FrameTheorem.{Decides, frame_decides, frame_refuses, frame_gives}
use Rattle.call_theorem.specs.Fitting.{MembersFit}
use Rattle.call_theorem.specs.FittingLaws.{members_fit}
use Rattle.call_theorem.specs.ReadBackLaws.{ListedBack, listed_back}
use Rattle.all_starts.specs.Grouping.{Grouping, grouping_on, grouping_bytes, grouping_length, grouping_room, compare_all_with}
use Rattle.all_starts.specs.GroupingRead.{grouped_of, words_read, grouping_in, grouping_read}
use Rattle.all_starts.specs.GroupingPromise.{FaithfulAll, grouping_for, RefusesAll, GivesAll}

-- ---- when it refuses, and when it does not
module _ (l : Limits) (bytes : List ℕ) (work answer : ℕ) where
  pub all_decides : Decides (RefusesAll l bytes work answer) (GivesAll l bytes work answer) (compare_all_with l bytes work answer)
  unfolding compare_all_with
  all_decides =
      frame_decides (SheetIs bytes) (SheetRefused bytes) (length bytes) (read_sheet bytes) (sheet_reads bytes) l (λ sheet. sheet.starts) grouping_on
      grouping_bytes work answer

  pub all_refuses : (number place : ℕ) → (compare_all_with l bytes work answer ≡ refusal number place) ↔ RefusesAll l bytes work answer number place
  unfolding compare_all_with
  all_refuses =
      frame_refuses (SheetIs bytes) (SheetRefused bytes) (length bytes) (read_sheet bytes) (sheet_reads bytes) l (λ sheet. sheet.starts) grouping_on
      grouping_bytes work answer

  pub all_gives : (g : Grouping) → (compare_all_with l bytes work answer ≡ reported g) ↔ GivesAll l bytes work answer g
  unfolding compare_all_with
  all_gives =
      frame_gives (SheetIs bytes) (SheetRefused bytes) (length bytes) (read_sheet bytes) (sheet_reads bytes) l (λ sheet. sheet.starts) grouping_on
      grouping_bytes work answer

-- ---- numbers of two bytes
words_length : (ns : List ℕ) → length (concat_map word_bytes ns) ≡ 2 * length ns
words_length [] = refl
words_length (n ∷ ns) = omega (arith, words_length ns)

-- they are read back
words_back : (ns : List ℕ) → ((n : ℕ) → Memᴰ n ns → n < 65536) → words_read (concat_map word_bytes ns) ≡ ns
unfolding words_read
words_back [] f = refl
words_back (n ∷ ns) f =
    let h = f n (Memᴰ.head refl) in
    let here : n % 256 + 256 * (n / 256 % 256) ≡ n = omega arith in
    ap₂ (λ (k : ℕ) (ks : List ℕ). k ∷ ks) here (words_back ns (λ k i. f k (Memᴰ.tail i)))

-- ---- a sheet that was read and whose set passes no limit
module _ (l : Limits) (sheet : Sheet) (fine : Admissible sheet) (none : PassesLimit sheet l sheet.starts → ⊥) where
  abbrev set : List Configuration
  set = explored sheet l sheet.starts

  abbrev numbers : List ℕ
  numbers = get_or (rounds sheet set) (result_of (rounds sheet set)) []

  fit : fits sheet l set ≡ true
  fit = fits_unpassed sheet l sheet.starts none

  -- a sheet has starts, and so the set has a member
  some : 1 ≤ length set
  some =
      member_some set (explored_seeds sheet l sheet.starts (get_or sheet.starts 0 (record { store = 0; threads = [] }))
      (get_d_in sheet.starts 0 (record { store = 0; threads = [] }) (omega (arith, fine.within.some_starts))))

  -- what it says is so
  pub grouping_faithful : FaithfulAll sheet (grouping_for l sheet)
  unfolding grouping_on
  grouping_faithful =
      let within = fits_not_over sheet l sheet.starts fit in
      record {
        listed = result_classified sheet fine.well_formed l sheet.starts fine.starts_fit within some;
        starts = refl;
        result = result_round sheet fine.well_formed l sheet.starts fine.starts_fit within some;
      }

  -- the room that the limits name suffices
  pub grouping_room_lem : grouping_length (grouping_for l sheet) ≤ grouping_room l
  unfolding grouping_on
  grouping_room_lem =
      let starts : List ℕ = map (class_of set numbers) sheet.starts in
      omega (
        arith,
        length-append (members_bytes set numbers) (concat_map word_bytes starts),
        words_length starts,
        length-map sheet.starts (class_of set numbers),
        fine.within.few_starts,
        members_room l set numbers (fits_not_over sheet l sheet.starts fit),
      )

  module _ (small : NoGreater l limits) where
    members_small : MembersFit set numbers
    members_small = members_fit sheet fine l small sheet.starts fine.starts_fit fit some

    -- it is read back from what is returned of it and from its bytes, whatever stands behind them
    pub grouping_back : (more : List ℕ) → grouping_read (grouped_of (grouping_for l sheet)) (grouping_bytes (grouping_for l sheet) ++ more) ≡ grouping_for l sheet
    unfolding grouping_on
    grouping_back more =
        let starts : List ℕ = map (class_of set numbers) sheet.starts in
        let tail : List ℕ = concat_map word_bytes starts in
        let bytes : List ℕ = grouping_bytes (grouping_for l sheet) in
        let back : ListedBack set numbers tail bytes = listed_back set numbers tail members_small in
        ap (grouping_in (result_of (rounds sheet set))) (take-append_seam bytes more)
        ∙ alike back.members back.classes (ap words_read back.behind ∙ words_back starts small_class)
      where
        small_class : (n : ℕ) → Memᴰ n (map (class_of set numbers) sheet.starts) → n < 65536
        small_class n i =
            let x = mem_map (class_of set numbers) sheet.starts i in
            subst (λ (k : ℕ). k < 65536) (sym x.2)
            (members_small.classes (place_of set x.0) (place_of_lt set x.0 (explored_seeds sheet l sheet.starts x.0 x.1)))

        alike : {r : ℕ} {ms ns : List Configuration} {cs ds ss ts : List ℕ} → ms ≡ ns → cs ≡ ds → ss ≡ ts
            → ◌≡◌ {A = Grouping} (record { round = r; members = ms; classes = cs; start_classes = ss }) (record { round = r; members = ns; classes = ds; start_classes = ts })
        alike e f h = cc
