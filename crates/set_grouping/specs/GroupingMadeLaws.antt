-- From the rounds to the grouping: what stands in the work slice after each step, and that its bytes are document 02's.
use Rattle.report_bytes.specs.Outcome.{refusal, reported}
use Rattle.std.specs.Prelude.{◌≡◌, ℕ, ◌+◌, ◌*◌, ◌≤◌, ◌<◌, length, get_or}
use Rattle.std.proofs.Common.{sym, ◌∙◌, subst, arith, length-append}
use Rattle.std.proofs.Math.Path.{ap, ap₂}
use mathlib.Core.List.{List, [], ◌++◌, map, Memᴰ}
use Rattle.sheet_types.specs.Lists.{concat_map}
use Rattle.start_classes.specs.Frames.{SameOutside, outside_then}
use Rattle.start_classes.specs.TabulateLaws.{mem_tabulate}
use Rattle.sheet_types.specs.Refusals.{short_answer}
use Rattle.sheet_types.specs.Sheet.{Configuration, Sheet}
use Rattle.start_reader.specs.SheetBytes.{word_bytes}
use Rattle.sheet_types.specs.declared.Configuration as held
use Rattle.sheet_types.specs.HeldSheet.{configuration, no_configuration, starts_in}
use Rattle.start_classes.specs.WorkLayout.{work_end}
use Rattle.report_bytes.specs.SetLayout.{SetHeld}
use Rattle.start_classes.specs.ClassLayout.{classes_in}
use Rattle.all_starts.specs.Classes.{class_of}
use Rattle.all_starts.specs.Rounds.{rounds, result_of}
use Rattle.start_classes.specs.FoundMembers.{held_ordered}
use Rattle.class_rounds.specs.RoundsDone.{Ready, RoundsHeld, Refined, LastRound, refined_outside}
use Rattle.separations.specs.ReportClasses.{Renumbered, result_numbers}
use Rattle.report_bytes.specs.AnswerMade.{made_refused, made_given}
use Rattle.report_bytes.specs.ReportLayout.{members_part}
use Rattle.report_bytes.specs.ReportInSlice.{MembersHeld}
use Rattle.report_bytes.specs.ReportInSliceLaws.{members_held, members_agree, held_members}
use Rattle.start_classes.specs.StartClasses.{starts_part, StartsHeld}
use Rattle.start_classes.specs.StartClassLaws.{starts_length, starts_bytes}
use Rattle.start_classes.specs.Slices.{Stored}
use Rattle.start_classes.specs.StoredText.{stored_then}
use Rattle.report_bytes.specs.BytesStored.{stored_front}
use Rattle.all_starts.specs.Grouping.{grouping_on, grouping_bytes}
use Rattle.all_starts.specs.GroupingRead.{groups_returned}
use Rattle.set_grouping.specs.GroupingMade.{AllHeld, GroupingReady, GroupingMade}

-- the rounds can be made
pub grouping_ready : {w : List ℕ} {n m : ℕ} {starts : List held.Configuration} {k : ℕ} → GroupingReady w n m starts k → Ready w n m
grouping_ready Y = record { sheet = Y.sheet; set = Y.set; ready = Y.all.ready }

-- the bytes of the grouping as they stand in the slice
abbrev pub held_grouping : List ℕ → ℕ → List held.Configuration → ℕ → List ℕ
held_grouping x n starts k = members_part x n ++ starts_part x n starts k

-- they are the members' and two for each start
pub grouping_length_lem : (x : List ℕ) (n : ℕ) (starts : List held.Configuration) (k : ℕ)
    → length (held_grouping x n starts k) ≡ length (members_part x n) + 2 * k
grouping_length_lem x n starts k = omega (arith, length-append (members_part x n) (starts_part x n starts k), starts_length x n starts k)

-- ---- w after the rounds, x with the classes of the result's round
module _ {v : List ℕ} {n m : ℕ} {w : List ℕ} {r count : ℕ} (R : Refined v n m w r count) {x : List ℕ} (N : Renumbered w n x) where
  -- nothing behind the work places is changed
  pub grouping_outside : SameOutside 0 work_end v x
  grouping_outside = outside_then (refined_outside R) N.only 0 work_end (omega arith) (omega arith) (omega arith) (omega arith)

  module _ {sheet : Sheet} {set : List Configuration} {starts : List held.Configuration} {k : ℕ} (S : AllHeld sheet set v n m starts k) where
    rounds_now : RoundsHeld sheet set w n m r count
    rounds_now = R.rounds_held sheet set S.ready

    set_now : SetHeld sheet set x n m
    set_now = (N.numbers sheet set m r count rounds_now).0

    abbrev numbers : List ℕ
    numbers = get_or (rounds sheet set) (result_of (rounds sheet set)) []

    classes_now : LastRound v n m r → classes_in x n ≡ numbers
    classes_now L = result_numbers N rounds_now (L sheet set S.ready)

    -- the members can be read from the slice
    pub grouping_members : MembersHeld x n
    grouping_members = members_held set_now

    -- and the starts found there
    pub grouping_starts : GroupingReady v n m starts k → StartsHeld x n starts k
    grouping_starts Y =
        record {
          set = record { long = set_now.long; few = set_now.few.0; ordered = held_ordered set_now S.ready.ascends };
          count = Y.count;
          threads = Y.threads.at;
          there = λ i l.
              subst (λ (s : List Configuration). Memᴰ (configuration (get_or starts i no_configuration)) s) (sym set_now.members)
              (S.there (configuration (get_or starts i no_configuration))
              (subst (λ (s : List Configuration). Memᴰ (configuration (get_or starts i no_configuration)) s) S.listed
              (mem_tabulate (λ j. configuration (get_or starts j no_configuration)) k i l)));
        }

    -- the bytes are those of the grouping
    pub grouping_bytes_lem : LastRound v n m r → held_grouping x n starts k ≡ grouping_bytes (grouping_on sheet set)
    unfolding grouping_on
    grouping_bytes_lem L =
        ap₂ (λ (a b : List ℕ). a ++ b) (held_members set numbers x n (members_agree set_now S.ready.ascends (classes_now L)))
        (starts_bytes x n starts k
        ∙ ap₂ (λ (s : List Configuration) (c : List ℕ). concat_map word_bytes (map (class_of s c) (starts_in starts k))) set_now.members (classes_now L)
        ∙ ap (λ (s : List Configuration). concat_map word_bytes (map (class_of set numbers) s)) S.listed)

    -- the round is the result's
    grouping_round : LastRound v n m r → r ≡ (grouping_on sheet set).round
    unfolding grouping_on
    grouping_round L = omega (arith, L sheet set S.ready)

  -- ---- the answer
  module _ (L : LastRound v n m r) (starts : List held.Configuration) (k : ℕ) (before : List ℕ) (size : ℕ)
      (es : size ≡ length (held_grouping x n starts k)) where
    abbrev Held : Sheet → List Configuration → Type 0
    Held sheet set = AllHeld sheet set v n m starts k

    -- the answer slice is too short
    pub grouping_refused : length before < size → GroupingMade v before n m starts k x before (refusal short_answer size)
    grouping_refused h =
        subst (λ (z : ℕ). GroupingMade v before n m starts k x before (refusal short_answer z)) (sym es)
        (made_refused grouping_bytes groups_returned grouping_on Held grouping_outside (held_grouping x n starts k)
        (λ sheet set S. grouping_bytes_lem S L) before (omega (arith, es)))

    -- the members and the classes of the starts are written into its front
    pub grouping_given : size ≤ length before → {mid after : List ℕ} {at end : ℕ} → Stored before 0 (members_part x n) mid at
        → Stored mid at (starts_part x n starts k) after end → GroupingMade v before n m starts k x after (reported (record { round = r; length = size }))
    grouping_given h s t =
        made_given grouping_bytes groups_returned grouping_on Held grouping_outside (held_grouping x n starts k) (λ sheet set S. grouping_bytes_lem S L) before
        (omega (arith, es)) (stored_front (stored_then s t) (omega (arith, es)))
        (λ sheet set S.
        ap₂ (λ (a b : ℕ). reported (record { round = a; length = b })) (grouping_round S L) (es ∙ ap length (grouping_bytes_lem S L)))
