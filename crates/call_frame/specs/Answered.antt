-- What a call that works out a set returns, and what it leaves in both slices; from its beginning, and what it makes of the set, to its
-- outcome.
use Rattle.std.specs.Prelude.{◌≡◌, refl, Bool, true, false, cond, List, ◌++◌, ℕ, length, replicate, ltb, Result, Err}
use Rattle.std.proofs.Common.{sym, ap, ◌∙◌}
use Rattle.work_layout.specs.Frames.{SameOutside, outside_again, outside_drop}
use Rattle.sheet_types.specs.Refusals.{short_answer}
use Rattle.sheet_types.specs.Sheet.{Configuration, Sheet}
use Rattle.sheet_types.specs.Reading.{Reading}
use Rattle.work_layout.specs.CallLimits.{Limits, work_length}
use Rattle.work_layout.specs.Set.{explored}
use Rattle.work_layout.specs.Outcome.{Outcome, reported, refusal, written_after, cleared, work_after}
use Rattle.work_layout.specs.Frame.{with_room}
use Rattle.work_layout.specs.WorkLayout.{work_end}
use Rattle.refusals.specs.Numbers.{number}
use Rattle.refusals.specs.declared.Refused.{Refused}
use Rattle.found_set.specs.declared.SetSize.{SetSize}
use Rattle.call_frame.specs.Begun.{SetBegun}
use Rattle.call_frame.specs.BegunLaws.{Read, framed, begun_refused, GoesOn}

-- This outcome was returned, and both slices are left as it asks: v became w, and `before` became `after`.
pub record Answered {A R : Type 0} (written : A → List ℕ) (returned : Outcome A → R) (o : Outcome A) (v before w after : List ℕ) (answer : R) : Type 0 where
  pub answers : answer ≡ returned o
  pub bytes : after ≡ written_after written o before
  pub works : w ≡ work_after o v

-- after what a call gives, and after 22, the work slice is to be cleared
room_cleared : {A : Type 0} (written : A → List ℕ) (room : ℕ) (a : A) (v : List ℕ) → work_after (with_room written room a) v ≡ cleared v
room_cleared written room a v = go (ltb room (length (written a)))
  where
    go : (b : Bool) → work_after (cond b (refusal short_answer (length (written a))) (reported a)) v ≡ cleared v
    go true = refl
    go false = refl

-- `make` makes the answer of a sheet and its set, and `written` are its bytes
module _ {A R : Type 0} (written : A → List ℕ) (returned : Outcome A → R) (make : Sheet → List Configuration → A) {reading : Reading Sheet}
    (known : Read reading) (l : Limits) (seeds : Sheet → List Configuration) where
  -- what is done with the set, for an answer slice of so many bytes
  abbrev pub made_on : ℕ → Sheet → List Configuration → Outcome A
  made_on room sheet set = with_room written room (make sheet set)

  -- the whole call, for slices of these lengths
  abbrev pub answered : ℕ → ℕ → Outcome A
  answered work room = framed (made_on room) known l seeds work

  module _ {v before w : List ℕ} where
    -- refused before anything is done with a set: the answer slice is left as it is
    pub answered_refused : {b : Result SetSize Refused} {e : Refused} → SetBegun reading l seeds v w b → b ≡ Err e
        → Answered written returned (answered (length v) (length before)) v before w before (returned (refusal (number e.refusal) e.place))
    answered_refused x e =
        let y = begun_refused (made_on (length before)) known l seeds x e in
        record {
          answers = ap returned (sym y.0);
          bytes = ap (λ (o : Outcome A). written_after written o before) (sym y.0);
          works = y.1 ∙ ap (λ (o : Outcome A). work_after o v) (sym y.0);
        }

    -- the answer was made of the set, and the work slice, which had become z, was cleared
    pub answered_made : {n m : ℕ} (g : GoesOn (made_on (length before)) known l seeds v w n m) {z after u : List ℕ} {answer : R}
        → answer ≡ returned (made_on (length before) g.sheet (explored g.sheet l (seeds g.sheet)))
        → after ≡ written_after written (made_on (length before) g.sheet (explored g.sheet l (seeds g.sheet))) before
        → SameOutside 0 work_end w z → u ≡ cleared z
        → Answered written returned (answered (length v) (length before)) v before u after answer
    answered_made g ea eb s c =
        record {
          answers = ea ∙ ap returned (sym g.outcome);
          bytes = eb ∙ ap (λ (o : Outcome A). written_after written o before) (sym g.outcome);
          works = c ∙ ap (λ (t : List ℕ). replicate work_length 0 ++ t) (outside_drop (outside_again g.whole.outside s))
              ∙ sym (room_cleared written (length before) (make g.sheet (explored g.sheet l (seeds g.sheet))) v)
              ∙ ap (λ (o : Outcome A). work_after o v) (sym g.outcome);
        }
