-- A call on two starts, whatever it answers with: from the set that it begins with, and what is made of it, to its outcome.
use Rattle.std.specs.Prelude.{◌≡◌, refl, ℕ, ◌≤◌, length, Ok, Err}
use Rattle.std.proofs.Common.{sym, ap, ap₂, ◌∙◌, subst, arith}
use mathlib.Core.List.{List, Memᴰ}
use Rattle.call_frame.specs.Sheet.{Configuration, Sheet, start}
use Rattle.two_starts.specs.HeldSheet.{configuration}
use Rattle.call_frame.specs.CallLimits.{Limits}
use Rattle.call_frame.specs.Set.{explored}
use Rattle.call_frame.specs.Outcome.{Outcome, refusal, written_after, cleared}
use Rattle.call_frame.specs.Frame.{with_room}
use Rattle.call_frame.specs.Promise.{starts_of}
use Rattle.two_starts.specs.SetLaws.{fits_not_over, explored_closed, explored_ascends, explored_seeds}
use Rattle.call_frame.specs.WorkLayout.{work_end}
use Rattle.two_starts.specs.TwoStarts.{StartsHeld, StartsReady, PairMade}
use Rattle.refusals.specs.Numbers.{number}
use Rattle.refusals.specs.declared.Refused.{Refused}
use Rattle.call_frame.specs.SetSize.{SetSize}
use Rattle.call_frame.specs.declared.Started.{Started}
use Rattle.call_frame.specs.Begun.{StartsAre, PairBegun}
use Rattle.call_frame.specs.BegunLaws.{choice_read, GoesOn, begun_on}
use Rattle.call_frame.specs.Answered.{Answered, made_on, answered, answered_refused, answered_made}

-- `make` makes the answer of a sheet, its set and two starts, and `written` are its bytes
module _ {A R : Type 0} (written : A → List ℕ) (returned : Outcome A → R) (make : Sheet → List Configuration → Configuration → Configuration → A)
    (l : Limits) (bytes : List ℕ) (left right : ℕ) where
  abbrev seeds : Sheet → List Configuration
  seeds sheet = starts_of sheet left right

  abbrev made : Sheet → List Configuration → A
  made sheet set = make sheet set (start sheet left) (start sheet right)

  -- the whole call, for slices of these lengths
  abbrev pub pair_answered : ℕ → ℕ → Outcome A
  pair_answered = answered written returned made (choice_read bytes left right) l seeds

  module _ (v before w : List ℕ) (r : Started) (x : PairBegun l bytes left right v w r) where
    abbrev Outcomes : List ℕ → List ℕ → R → Type 0
    Outcomes = Answered written returned (pair_answered (length v) (length before)) v before

    -- the call is refused before anything is done with a set
    pub pair_refused : {e : Refused} → r.begun ≡ Err e → Outcomes w before (returned (refusal (number e.refusal) e.place))
    pair_refused is = answered_refused written returned made (choice_read bytes left right) l seeds x.begun is

    module _ {size : SetSize} (is : r.begun ≡ Ok size) where
      abbrev n : ℕ
      n = size.members

      abbrev m : ℕ
      m = size.moves

      on : GoesOn (made_on written returned made (choice_read bytes left right) l seeds (length before)) (choice_read bytes left right) l seeds v w n m
      on = begun_on (made_on written returned made (choice_read bytes left right) l seeds (length before)) (choice_read bytes left right) l seeds x.begun is

      starts : StartsAre on.sheet left right r
      starts = x.starts on.sheet on.end on.read

      abbrev set : List Configuration
      set = explored on.sheet l (seeds on.sheet)

      starts_held : StartsHeld on.sheet set w n m (configuration r.left) (configuration r.right)
      starts_held =
          let sheet : Sheet = on.sheet in
          record {
            held = on.whole.held;
            wf = on.fine.well_formed;
            closed = explored_closed sheet l (seeds sheet) (fits_not_over sheet l (seeds sheet) on.whole.fit);
            ascends = explored_ascends sheet l (seeds sheet);
            left = subst (λ (c : Configuration). Memᴰ c set) (sym starts.left_is)
                (explored_seeds sheet l (seeds sheet) (start sheet left) (Memᴰ.head refl));
            right = subst (λ (c : Configuration). Memᴰ c set) (sym starts.right_is)
                (explored_seeds sheet l (seeds sheet) (start sheet right) (Memᴰ.tail (Memᴰ.head refl)));
          }

      -- the answer can be made
      pub pair_ready : StartsReady w n m r.left r.right
      pair_ready =
          record { sheet = on.sheet; set = set; starts = starts_held; left_few = starts.left_few; right_few = starts.right_few }

      -- the work slice can be cleared after it
      pub pair_room : {z after : List ℕ} {a : R} → PairMade written returned make w before n m r.left r.right z after a → work_end ≤ length z
      pair_room made = omega (arith, on.long, on.whole.outside.long, made.outside.long)

      -- and is the outcome
      pub pair_given : {z after u : List ℕ} {a : R} → PairMade written returned make w before n m r.left r.right z after a → u ≡ cleared z
          → Outcomes u after a
      pair_given k c =
          let sheet : Sheet = on.sheet in
          let o : with_room written (length before) (make sheet set (configuration r.left) (configuration r.right))
          ≡ with_room written (length before) (make sheet set (start sheet left) (start sheet right)) =
          ap₂ (λ (p q : Configuration). with_room written (length before) (make sheet set p q)) starts.left_is starts.right_is in
          answered_made written returned made (choice_read bytes left right) l seeds on (k.answers sheet set starts_held ∙ ap returned o)
          (k.bytes sheet set starts_held ∙ ap (λ (y : Outcome A). written_after written y before) o) k.outside c
