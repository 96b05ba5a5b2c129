-- Document 01, "The report": verdict, round, places, and the answer bytes.
use Rattle.std.specs.Prelude.{cond, List, [], ◌∷◌, ◌++◌, ℕ, ◌/◌, ◌%◌, length, get_or, eqb}
use Rattle.moves.specs.Lists.{concat_map}
use Rattle.moves.specs.Sheet.{Configuration, Sheet}
use Rattle.sheet_reading.specs.SheetBytes.{word_bytes}
use Rattle.comparison.specs.Outcome.{Outcome}
use Rattle.comparison.specs.CallLimits.{no_reply}
use Rattle.comparison.specs.Classes.{place_of, class_of}
use Rattle.comparison.specs.Rounds.{rounds, result_of, apart_in}
use Rattle.comparison.specs.Trail.{Side, left, right, Reply, none, move, TrailStep, trail}

pub data Verdict : Type 0 where
  SAME : Verdict
  DIFF : Verdict

-- a member: store, thread count, threads, class
abbrev pub member_bytes : Configuration → ℕ → List ℕ
member_bytes p class = word_bytes p.store ++ (length p.threads ∷ p.threads) ++ word_bytes class

-- the members of a set with their classes
abbrev pub members_bytes : List Configuration → List ℕ → List ℕ
members_bytes set classes = concat_map (λ p. member_bytes p (class_of set classes p)) set

abbrev pub side_byte : Side → ℕ
side_byte left = 0
side_byte right = 1

-- the place of the reply's target, or 65535 for none
abbrev pub reply_number : List Configuration → Reply → ℕ
reply_number set none = no_reply
reply_number set (move k) = place_of set k.target

-- a step: side, label, mover's target, reply's target
abbrev pub step_bytes : List Configuration → TrailStep → List ℕ
step_bytes set s =
    (side_byte s.side ∷ []) ++ word_bytes s.label ++ word_bytes (place_of set s.target) ++ word_bytes (reply_number set s.reply)

-- A report: verdict and round, the places of both starts, the members with the classes of the result's round, the trail.
pub record Report : Type 0 where
  pub verdict : Verdict
  pub round : ℕ
  pub left_place : ℕ
  pub right_place : ℕ
  pub members : List Configuration
  pub classes : List ℕ
  pub steps : List TrailStep

-- SAME carries the number of the result's round, DIFF the least round that has the two starts in different classes.
abbrev pub verdict_of : List (List ℕ) → ℕ → Verdict
verdict_of rs apart = cond (eqb apart (length rs)) SAME DIFF

abbrev pub round_of : List (List ℕ) → ℕ → ℕ
round_of rs apart = cond (eqb apart (length rs)) (result_of rs) apart

unfoldable pub report_on : Sheet → List Configuration → Configuration → Configuration → Report
report_on sheet set p q =
    let rs = rounds sheet set in
    let apart = apart_in set rs p q in
    record {
      verdict = verdict_of rs apart;
      round = round_of rs apart;
      left_place = place_of set p;
      right_place = place_of set q;
      members = set;
      classes = get_or rs (result_of rs) [];
      steps = trail sheet set rs p q;
    }

-- the answer bytes of a report
abbrev pub report_bytes : Report → List ℕ
report_bytes r =
    word_bytes (length r.members) ++ members_bytes r.members r.classes ++ word_bytes (length r.steps) ++ concat_map (step_bytes r.members) r.steps

-- the report's length in bytes
abbrev pub report_length : Report → ℕ
report_length r = length (report_bytes r)

-- a report, or a refusal
abbrev pub Compares : Type 0
Compares = Outcome Report
