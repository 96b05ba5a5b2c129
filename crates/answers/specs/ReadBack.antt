-- Document 01, "The report", read the other way: what a reader of an answer's bytes gets back. A byte beyond the end counts as 0.
use Rattle.std.specs.Prelude.{cond, List, [], ◌∷◌, ℕ, zero, suc, get_or, take, drop, eqb}
use Rattle.comparison.specs.Sheet.{Configuration}
use Rattle.comparison.specs.SheetBytes.{word}
use Rattle.comparison.specs.CallLimits.{no_reply}
use Rattle.comparison.specs.Trail.{Side, left, right, Reply, none, move, TrailStep}
use Rattle.comparison.specs.Report.{Verdict, Report}

-- ---- a member: store, thread count, threads, class
-- what stands behind its threads
abbrev pub behind_threads : List ℕ → List ℕ
behind_threads s = drop (get_or s 2 0) (drop 3 s)

abbrev pub member_first : List ℕ → Configuration
member_first s = record { store = word s 0; threads = take (get_or s 2 0) (drop 3 s) }

abbrev pub class_first : List ℕ → ℕ
class_first s = word (behind_threads s) 0

abbrev pub behind_member : List ℕ → List ℕ
behind_member s = drop 2 (behind_threads s)

-- n members, one after another, their classes, and what stands behind them
unfoldable pub members_read : ℕ → List ℕ → List Configuration
members_read zero s = []
members_read (suc n) s = member_first s ∷ members_read n (behind_member s)

unfoldable pub classes_read : ℕ → List ℕ → List ℕ
classes_read zero s = []
classes_read (suc n) s = class_first s ∷ classes_read n (behind_member s)

unfoldable pub behind_members : ℕ → List ℕ → List ℕ
behind_members zero s = s
behind_members (suc n) s = behind_members n (behind_member s)

-- ---- a step: side, label, the positions of the mover's target and of the reply's
-- 0 is the left
abbrev pub side_read : ℕ → Side
side_read b = cond (eqb b 0) left right

-- the member with a position
abbrev pub member_with : List Configuration → ℕ → Configuration
member_with set k = get_or set k (record { store = 0; threads = [] })

-- a reply has the mover's label; 65535 is none
abbrev pub reply_read : List Configuration → ℕ → ℕ → Reply
reply_read set label k = cond (eqb k no_reply) none (move (record { label = label; target = member_with set k }))

abbrev pub step_first : List Configuration → List ℕ → TrailStep
step_first set s =
    record { side = side_read (get_or s 0 0); label = word s 1; target = member_with set (word s 3); reply = reply_read set (word s 1) (word s 5) }

unfoldable pub steps_read : List Configuration → ℕ → List ℕ → List TrailStep
steps_read set zero s = []
steps_read set (suc n) s = step_first set s ∷ steps_read set n (drop 7 s)

-- The report that is read back from what the call returned (verdict, round, the places of both starts) and from the answer's
-- bytes: a count of members, the members with their classes, a count of steps, the steps.
unfoldable pub read_back_lem : Verdict → ℕ → ℕ → ℕ → List ℕ → Report
read_back_lem verdict round left_place right_place s =
    let n = word s 0 in
    let members = members_read n (drop 2 s) in
    let rest = behind_members n (drop 2 s) in
    record {
      verdict = verdict;
      round = round;
      left_place = left_place;
      right_place = right_place;
      members = members;
      classes = classes_read n (drop 2 s);
      steps = steps_read members (word rest 0) (drop 2 rest);
    }
