-- Document 02, card 13: an answer after so many rounds. The set is that of the comparing call; of the rounds only the first k count, and
-- the answer has the members as in a report with the classes of round k, no trail section and no count of one.
use Rattle.std.specs.Prelude.{◌≡◌, refl, Bool, cond, List, [], ◌∷◌, ◌++◌, ℕ, suc, ◌+◌, ◌*◌, length}
use Rattle.answers.specs.Lists.{same_numbers}
use Rattle.answers.specs.Sheet.{Configuration, Sheet, start}
use Rattle.answers.specs.SheetBytes.{word_bytes}
use Rattle.answers.specs.Reading.{read_choice}
use Rattle.answers.specs.CallLimits.{Limits, limits, desk_limits, word_length, member_length}
use Rattle.answers.specs.Classes.{share}
use Rattle.answers.specs.Rounds.{classes}
use Rattle.answers.specs.Report.{members_bytes}
use Rattle.answers.specs.Outcome.{Outcome, written_after}
use Rattle.answers.specs.Frame.{with_room, with_set, with_work, with_sheet}

pub data Verdict : Type 0 where
  SAME : Verdict
  DIFF : Verdict
  OPEN : Verdict

-- What the first k rounds say of two starts, and the members with the classes of round k.
pub record AfterRounds : Type 0 where
  pub verdict : Verdict
  pub members : List Configuration
  pub classes : List ℕ

-- round k equals its successor
abbrev pub equals_next : Sheet → List Configuration → ℕ → Bool
equals_next sheet set k = same_numbers (classes sheet set (suc k)) (classes sheet set k)

-- DIFF where round k has the starts apart; where it has them together, SAME if it equals its successor, and OPEN otherwise
abbrev pub verdict_after : Sheet → List Configuration → ℕ → Configuration → Configuration → Verdict
verdict_after sheet set k p q = cond (share set (classes sheet set k) p q) (cond (equals_next sheet set k) SAME OPEN) DIFF

-- the answer over a set that has both starts
unfoldable pub after_on : Sheet → List Configuration → ℕ → Configuration → Configuration → AfterRounds
after_on sheet set k p q = record { verdict = verdict_after sheet set k p q; members = set; classes = classes sheet set k }

-- the answer bytes: the members as in a report
abbrev pub after_bytes : AfterRounds → List ℕ
after_bytes a = word_bytes (length a.members) ++ members_bytes a.members a.classes

-- their number
abbrev pub after_length : AfterRounds → ℕ
after_length a = length (after_bytes a)

-- an answer, or a refusal
abbrev pub Afters : Type 0
Afters = Outcome AfterRounds

-- The call with limits that are given, after k rounds: refusals as for the comparing call.
unfoldable pub compare_rounds_with : Limits → List ℕ → ℕ → ℕ → ℕ → ℕ → ℕ → Afters
compare_rounds_with l bytes left right k work answer =
    with_sheet (read_choice bytes left right) (λ sheet.
    with_work work (with_set l sheet (start sheet left ∷ start sheet right ∷ []) (λ set.
    with_room after_bytes answer (after_on sheet set k (start sheet left) (start sheet right)))))

-- the call within document 01's limits
abbrev pub compare_rounds : List ℕ → ℕ → ℕ → ℕ → ℕ → ℕ → Afters
compare_rounds = compare_rounds_with limits

-- and within the desk's (document 02, card 3)
abbrev pub compare_rounds_desk : List ℕ → ℕ → ℕ → ℕ → ℕ → ℕ → Afters
compare_rounds_desk = compare_rounds_with desk_limits

-- the answer slice after the call
abbrev pub after_written : Afters → List ℕ → List ℕ
after_written = written_after after_bytes

-- the longest answer: as many members as allowed, each with as many threads
abbrev pub after_room : Limits → ℕ
after_room l = word_length + l.members * member_length l.threads

-- 6,658 bytes always suffice
pub after_room_is : after_room limits ≡ 6658
after_room_is = refl

-- and 834 within the desk's limits
pub desk_after_room_is : after_room desk_limits ≡ 834
desk_after_room_is = refl
