-- Two starts of a sheet in the set that stands in the work slice, and what a call makes of them there.
use mathlib.Core.List.{List, Memᴰ}
use Rattle.std.specs.Prelude.{ℕ, ◌≤◌}
use Rattle.std.proofs.Common.{arith}
use Rattle.sheet_types.specs.Lists.{Ascends}
use Rattle.sheet_types.specs.SheetLimits.{max_threads}
use Rattle.sheet_types.specs.Sheet.{Configuration, Sheet}
use Rattle.sheet_types.specs.WellFormed.{WellFormed}
use Rattle.sheet_types.specs.Orders.{configuration_before}
use Rattle.sheet_types.specs.declared.Configuration as held
use Rattle.sheet_types.specs.HeldSheet.{configuration}
use Rattle.report_bytes.specs.SetLayout.{SetHeld}
use Rattle.report_bytes.specs.Outcome.{Outcome}
use Rattle.report_bytes.specs.RoundLaws.{ClosedList}
use Rattle.class_rounds.specs.RoundLayout.{held_found}
use Rattle.class_rounds.specs.RoundAtHand.{SetReady}
use Rattle.class_rounds.specs.RoundsDone.{Ready}
use Rattle.report_bytes.specs.AnswerMade.{AnswerMade}

-- A closed set in its order stands in the slice, and has both starts.
pub record StartsHeld (sheet : Sheet) (set : List Configuration) (w : List ℕ) (n m : ℕ) (p q : Configuration) : Type 0 where
  pub held : SetHeld sheet set w n m
  pub wf : WellFormed sheet
  pub closed : ClosedList sheet set
  pub ascends : Ascends configuration_before set
  pub left : Memᴰ p set
  pub right : Memᴰ q set

-- some such set stands there
pub record StartsReady (w : List ℕ) (n m : ℕ) (p q : held.Configuration) : Type 0 where
  pub sheet : Sheet
  pub set : List Configuration
  pub starts : StartsHeld sheet set w n m (configuration p) (configuration q)
  pub left_few : p.count ≤ max_threads
  pub right_few : q.count ≤ max_threads

-- What is made of such a set, where `make` makes the answer of a sheet, its set and two starts.
abbrev pub PairMade : {A R : Type 0} → (A → List ℕ) → (Outcome A → R) → (Sheet → List Configuration → Configuration → Configuration → A)
    → List ℕ → List ℕ → ℕ → ℕ → held.Configuration → held.Configuration → List ℕ → List ℕ → R → Type 0
PairMade written returned make v before n m p q =
    AnswerMade written returned (λ sheet set. make sheet set (configuration p) (configuration q))
    (λ sheet set. StartsHeld sheet set v n m (configuration p) (configuration q)) v before

-- a set with two starts has a member
pub starts_ready : {sheet : Sheet} {set : List Configuration} {w : List ℕ} {n m : ℕ} {p q : Configuration} → StartsHeld sheet set w n m p q
    → SetReady sheet set w n m
starts_ready {sheet} {set} {w} {n} {m} {p} S = record {
  held = S.held;
  wf = S.wf;
  closed = S.closed;
  ascends = S.ascends;
  some = omega (arith, (held_found sheet set w n m S.held p S.left).0);
}

-- and rounds can be made
pub rounds_ready : {w : List ℕ} {n m : ℕ} {p q : held.Configuration} → StartsReady w n m p q → Ready w n m
rounds_ready Y = record { sheet = Y.sheet; set = Y.set; ready = starts_ready Y.starts }
