-- The call for so many rounds is what is made of the set of two starts, within the frame of every call.
use Rattle.call_frame.specs.Outcome.{Outcome}
use Rattle.std.specs.Prelude.{◌≡◌, List, ℕ, length}
use Rattle.std.proofs.Common.{subst}
use Rattle.call_frame.specs.Sheet.{Configuration, Sheet}
use Rattle.work_layout.specs.CallLimits.{Limits}
use Rattle.pair_calls.specs.PairAnswered.{pair_answered}
use Rattle.after_rounds.specs.AfterRounds.{AfterRounds, after_on, after_bytes, compare_rounds_with}
use Rattle.after_rounds.specs.AfterRoundsRead.{afters_returned}
use Rattle.after_rounds.specs.declared.Reached.{Reached}
use Rattle.rounds_call.specs.ComparedRounds.{ComparedRounds}

-- what is made of a set after k rounds
abbrev pub made_after : ℕ → Sheet → List Configuration → Configuration → Configuration → AfterRounds
made_after k sheet set p q = after_on sheet set k p q

-- what any call on two starts gives is this call's outcome, where that is what it makes
pub rounds_pair : (l : Limits) (bytes : List ℕ) (left right k : ℕ) {v before w after : List ℕ} {a : Outcome Reached}
    → ComparedRounds (pair_answered after_bytes afters_returned (made_after k) l bytes left right (length v) (length before)) v before w after a
    → ComparedRounds (compare_rounds_with l bytes left right k (length v) (length before)) v before w after a
unfolding compare_rounds_with
rounds_pair l bytes left right k c = c

-- the call within caps is the call within the limits that they stand for
pub rounds_at : {i l : Limits} → i ≡ l → (bytes : List ℕ) (left right k : ℕ) {v before w after : List ℕ} {a : Outcome Reached}
    → ComparedRounds (compare_rounds_with i bytes left right k (length v) (length before)) v before w after a
    → ComparedRounds (compare_rounds_with l bytes left right k (length v) (length before)) v before w after a
rounds_at e bytes left right k {v} {before} {w} {after} {a} c =
    subst (λ (l : Limits). ComparedRounds (compare_rounds_with l bytes left right k (length v) (length before)) v before w after a) e c
