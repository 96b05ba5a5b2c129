-- The promise fixes the call for all starts: of the same input, what two calls that keep it return and leave in both slices is the same.
use Rattle.answers.specs.Outcome.{Outcome}
use Rattle.std.specs.Prelude.{◌≡◌, List, ◌++◌, ℕ, length, drop}
use Rattle.std.proofs.Common.{sym, ap, ◌∙◌}
use Rattle.answers.specs.SheetRead.{one_sheet}
use Rattle.answers.specs.CallLimits.{Limits}
use Rattle.answers.specs.OutcomeOf.{CallResult}
use Rattle.answers.specs.OutcomeOfLaws.{one_returned}
use Rattle.promise_laws.specs.PromiseAlone.{promise_alone}
use Rattle.all_starts.specs.Grouping.{Grouping, grouping_bytes}
use Rattle.all_starts.specs.GroupingPromise.{grouping_for, GivesAll, GroupingPromise, AllPromise, AllReturnedPromise}
use Rattle.all_starts.specs.declared.Grouped.{Grouped}
use Rattle.all_theorem.specs.AllTheorem.{all_decides}

-- a sheet has one grouping
one_grouping : {l : Limits} {bytes : List ℕ} {work answer : ℕ} {g k : Grouping} → GivesAll l bytes work answer g → GivesAll l bytes work answer k → g ≡ k
one_grouping {l} {bytes} x y = x.given ∙ ap (grouping_for l) (one_sheet bytes x.read y.read) ∙ sym y.given

-- a grouping fixes what is left in both slices
grouping_fixes : {l : Limits} {bytes v before w after w2 after2 : List ℕ} {x : Grouped} → GroupingPromise l bytes v before w after x
    → GroupingPromise l bytes v before w2 after2 x → (after ≡ after2) × (w ≡ w2)
grouping_fixes {before = before} {x = x} m n = (
  m.written ∙ ap (λ (k : Grouping). grouping_bytes k ++ drop x.length before) (one_grouping m.gives n.gives) ∙ sym n.written,
  m.work ∙ sym n.work,
)

pub all_alone : (l : Limits) (bytes v before : List ℕ) {w after : List ℕ} {answer : Outcome Grouped} {w2 after2 : List ℕ} {answer2 : Outcome Grouped}
    → AllPromise l bytes v before w after answer → AllPromise l bytes v before w2 after2 answer2
    → (answer ≡ answer2) × (after ≡ after2) × (w ≡ w2)
all_alone l bytes v before a b = promise_alone (all_decides l bytes (length v) (length before)) (λ x. grouping_fixes) a b

-- so the promise fixes the value that the code returns
pub all_returned_alone : (l : Limits) (bytes v before : List ℕ) {w after : List ℕ} {r : CallResult Grouped} {w2 after2 : List ℕ} {r2 : CallResult Grouped}
    → AllReturnedPromise l bytes v before w after r → AllReturnedPromise l bytes v before w2 after2 r2 → (r ≡ r2) × (after ≡ after2) × (w ≡ w2)
all_returned_alone l bytes v before {r = r} {r2 = r2} a b =
    let o = all_alone l bytes v before a b in (one_returned {r = r} {s = r2} o.0, o.1, o.2)
