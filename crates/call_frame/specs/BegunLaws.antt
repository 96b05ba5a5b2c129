-- What follows of a call's beginning: its outcome where it is refused, whatever it would have done with the set, and what it goes
-- on with where it is not.
use Rattle.std.specs.Prelude.{◌≡◌, refl, Bool, true, false, cond, ◌||◌, List, ◌++◌, ℕ, ◌≤◌, ◌<◌, length, get_or, replicate, ltb, Result, Ok, Err}
use Rattle.std.proofs.Common.{sym, ap, ap₂, ◌∙◌, subst, arith, lt-ltb, le-ltb, ne_eqb}
use Rattle.work_layout.specs.Frames.{outside_drop}
use Rattle.collected_moves.specs.Tabulate.{tabulate_length, tabulate_at}
use Rattle.collected_moves.specs.ListPlaces.{get_d_any}
use Rattle.sheet_types.specs.SheetLimits.{max_threads}
use Rattle.sheet_types.specs.Refusals.{large_set, short_answer, short_work}
use Rattle.sheet_types.specs.Sheet as spec
use Rattle.sheet_types.specs.WellFormed.{Admissible}
use Rattle.sheet_types.specs.Reading.{Reading, got, refused, read_sheet, read_choice}
use Rattle.sheet_types.specs.Sound.{got_not_refused}
use Rattle.sheet_types.specs.SheetRead.{same_sheet, sheet_reads, choice_reads}
use Rattle.sheet_reader.specs.ReadingLaws.{written_admissible}
use Rattle.sheet_reader.specs.RefusalNumbers.{Numbered, sheet_number_low, number_low}
use Rattle.work_layout.specs.CallLimits.{Limits, work_length}
use Rattle.work_layout.specs.Set.{explored, fits}
use Rattle.work_layout.specs.Outcome.{Outcome, refusal, cleared, clears, work_refused}
use Rattle.work_layout.specs.Frame.{with_set, with_work, with_sheet}
use Rattle.found_set.specs.SetLaws.{fits_exactly}
use Rattle.work_layout.specs.WorkLayout.{work_end, member_room}
use Rattle.sheet_types.specs.declared.Configuration.{Configuration}
use Rattle.sheet_types.specs.declared.Sheet.{Sheet}
use Rattle.sheet_types.specs.HeldSheet.{configuration, no_configuration, starts_in, sheet_of}
use Rattle.found_set.specs.FoundSet.{SetWhole, SetPasses}
use Rattle.work_layout.specs.Promise.{starts_of}
use Rattle.call_seeds.specs.Choice.{seeds_from, SeedsAre}
use Rattle.call_seeds.specs.ChoiceLaws.{first_choice}
use Rattle.refusals.specs.Numbers.{number}
use Rattle.refusals.specs.declared.Refused.{Refused}
use Rattle.found_set.specs.declared.SetSize.{SetSize}
use Rattle.call_frame.specs.declared.Started.{Started}
use Rattle.call_frame.specs.declared.AllStarted.{AllStarted}
use Rattle.call_frame.specs.Begun.{BegunSet, BegunRefused, too_short, too_large, BegunAs, SetBegun, by_sheet, by_set, StartsListed, SeedsBegun, ReadBegun, ChoiceSet, StartsAre, PairBegun, AllBegun}

-- ---- how a call begins
-- a set that passes a limit, and the work slice cleared
pub begun_large : {sheet : spec.Sheet} {l : Limits} {seeds : List spec.Configuration} {v w z : List ℕ} → work_end ≤ length v
    → SetPasses sheet l seeds v w → z ≡ cleared w → BegunRefused l sheet seeds v z large_set 0
begun_large {v = v} {w} {z} h x e =
    too_large h x.passes (e ∙ ap (λ (t : List ℕ). replicate work_length 0 ++ t) (outside_drop x.outside))

-- ---- a refusal of the reader, and a sheet that was read
module _ (l : Limits) (bytes : List ℕ) (left right : ℕ) (all : Bool) (v : List ℕ) where
  pub read_refused : {e : Refused} (starts : List Configuration) (count : ℕ) → read_choice bytes left right ≡ refused (number e.refusal) e.place
      → ReadBegun l bytes left right all v v (record { begun = Err e; starts = starts; count = count })
  read_refused starts count e = record { begun = by_sheet e refl; starts = λ sheet end f. absurd (got_not_refused (sym f ∙ e)) }

  pub read_begun : {sheet : spec.Sheet} {end : ℕ} {w : List ℕ} {r : AllStarted} → read_choice bytes left right ≡ got sheet end
      → SeedsBegun l sheet (seeds_from all left right sheet) v w r → ReadBegun l bytes left right all v w r
  read_begun {sheet} {end} {w} {r} e x =
      record {
        begun = by_set sheet end e x.begun;
        starts = λ other at f. subst (λ (s : spec.Sheet). StartsListed (seeds_from all left right s) r) (same_sheet (sym e ∙ f)) x.starts;
      }

-- the seeds of a sheet that is held
pub seeds_begun : {l : Limits} (sheet : Sheet) {ps : List spec.Configuration} {v w : List ℕ} {r : Result SetSize Refused} (seeds : List Configuration) (k : ℕ)
    → SeedsAre sheet ps seeds k → BegunAs l (sheet_of sheet) (starts_in seeds k) v w r
    → SeedsBegun l (sheet_of sheet) ps v w (record { begun = r; starts = seeds; count = k })
seeds_begun {l} sheet {v = v} {w} {r} seeds k are x =
    record {
      begun = subst (λ (ps : List spec.Configuration). BegunAs l (sheet_of sheet) ps v w r) are.listed x;
      starts = record { listed = are.listed; held = are.held; few = are.fit.few; threads = record { at = are.fit.threads } };
    }

-- two starts are the first two seeds
pub pair_begun : {l : Limits} {bytes : List ℕ} {left right : ℕ} {v w : List ℕ} {s : AllStarted} (r : Started) → ReadBegun l bytes left right false v w s
    → r.begun ≡ s.begun → (d : Configuration) → r.left ≡ get_or s.starts 0 d → r.right ≡ get_or s.starts 1 d
    → PairBegun l bytes left right v w r
pair_begun {l} {bytes} {left} {right} {v} {w} {s} r x e d dl dr =
    record {
      begun = subst (ChoiceSet l bytes left right v w) (sym e) x.begun;
      starts = λ sheet end f. are sheet (x.starts sheet end f);
    }
  where
    are : (sheet : spec.Sheet) → StartsListed (starts_of sheet left right) s → StartsAre sheet left right r
    are sheet y =
        let held : ℕ → spec.Configuration = λ i. configuration (get_or s.starts i no_configuration) in
        let two : s.count ≡ 2 = sym (tabulate_length held s.count) ∙ ap length y.listed in
        let el : r.left ≡ get_or s.starts 0 no_configuration = dl ∙ get_d_any s.starts 0 d no_configuration (omega (arith, two, y.held)) in
        let er : r.right ≡ get_or s.starts 1 no_configuration = dr ∙ get_d_any s.starts 1 d no_configuration (omega (arith, two, y.held)) in
        let at : (i : ℕ) → i < s.count → held i ≡ get_or (starts_of sheet left right) i (held i) =
        λ i l. sym (tabulate_at held s.count i (held i) l) ∙ ap (λ (ps : List spec.Configuration). get_or ps i (held i)) y.listed in
        record {
          left_is = ap configuration el ∙ at 0 (omega (arith, two));
          right_is = ap configuration er ∙ at 1 (omega (arith, two));
          left_few = subst (λ (c : Configuration). c.count ≤ max_threads) (sym el) (y.threads.at 0 (omega (arith, two)));
          right_few = subst (λ (c : Configuration). c.count ≤ max_threads) (sym er) (y.threads.at 1 (omega (arith, two)));
        }

-- all starts are the seeds where no choice is made
pub all_begun : {l : Limits} {bytes v w : List ℕ} {r : AllStarted} → ReadBegun l bytes 0 0 true v w r → AllBegun l bytes v w r
all_begun {l} {bytes} {v} {w} {r} x =
    record {
      begun = subst (λ (m : Reading spec.Sheet). SetBegun m l (λ sheet. sheet.starts) v w r.begun) (first_choice bytes) x.begun;
      starts = λ sheet end e. x.starts sheet end (first_choice bytes ∙ e);
    }

-- no set is a refusal
set_never : {size : SetSize} {e : Refused} → ◌≡◌ {A = Result SetSize Refused} (Ok size) (Err e) → ⊥
set_never e = cc

-- a set that stands in the work slice has no more members than there is room for
pub set_few : {reading : Reading spec.Sheet} {l : Limits} {seeds : spec.Sheet → List spec.Configuration} {v w : List ℕ} {size : SetSize}
    {r : Result SetSize Refused} → SetBegun reading l seeds v w r → r ≡ Ok size → size.members ≤ member_room
set_few (by_sheet a b) e = absurd (set_never (sym e))
set_few {l = l} {seeds} {v} {w} (by_set sheet end a h) e = (subst (BegunAs l sheet (seeds sheet) v w) e h).whole.held.few.0

-- ---- what a call makes of it, whatever it does with the set
-- What is known of a reading: a sheet that it gets is admissible, and a number that it is refused by is one of the reader's.
pub record Read (reading : Reading spec.Sheet) : Type 0 where
  pub fine : (sheet : spec.Sheet) (end : ℕ) → reading ≡ got sheet end → Admissible sheet
  pub low : (number place : ℕ) → reading ≡ refused number place → Numbered number

pub choice_read : (bytes : List ℕ) (left right : ℕ) → Read (read_choice bytes left right)
choice_read bytes left right =
    record {
      fine = λ sheet end e. written_admissible bytes sheet ((choice_reads bytes left right).sound.got_is sheet end e).0.written;
      low = number_low bytes left right;
    }

pub sheet_read_lem : (bytes : List ℕ) → Read (read_sheet bytes)
sheet_read_lem bytes =
    record {
      fine = λ sheet end e. written_admissible bytes sheet ((sheet_reads bytes).sound.got_is sheet end e).0;
      low = sheet_number_low bytes;
    }

module _ {A : Type 0} (on : spec.Sheet → List spec.Configuration → Outcome A) {reading : Reading spec.Sheet} (known : Read reading) (l : Limits)
    (seeds : spec.Sheet → List spec.Configuration) where
  -- what is done with a sheet that was read, for a work slice of so many numbers
  abbrev on_sheet : ℕ → spec.Sheet → Outcome A
  on_sheet work sheet = with_work work (with_set l sheet (seeds sheet) (on sheet))

  -- the whole call
  abbrev pub framed : ℕ → Outcome A
  framed work = with_sheet reading (on_sheet work)

  read_as : (r : Reading spec.Sheet) (work : ℕ) → reading ≡ r → framed work ≡ with_sheet r (on_sheet work)
  read_as r work e = ap (λ (x : Reading spec.Sheet). with_sheet x (on_sheet work)) e

  module _ (sheet : spec.Sheet) (v : List ℕ) where
    abbrev set_of : List spec.Configuration
    set_of = explored sheet l (seeds sheet)

    -- the work slice is long enough, or not
    by_length : {b : Bool} → ltb (length v) work_length ≡ b
        → on_sheet (length v) sheet ≡ elim b as (λ _. Outcome A) [ true ↦ refusal short_work 0 | false ↦ with_set l sheet (seeds sheet) (on sheet) ]
    by_length h =
        ap (λ (b : Bool). elim b as (λ _. Outcome A) [ true ↦ refusal short_work 0 | false ↦ with_set l sheet (seeds sheet) (on sheet) ]) h

    -- and the set fits, or not
    by_fit : work_end ≤ length v → {b : Bool} → fits sheet l set_of ≡ b
        → on_sheet (length v) sheet ≡ elim b as (λ _. Outcome A) [ true ↦ on sheet set_of | false ↦ refusal large_set 0 ]
    by_fit h f =
        by_length (le-ltb (length v) work_length h)
        ∙ ap (λ (b : Bool). elim b as (λ _. Outcome A) [ true ↦ on sheet set_of | false ↦ refusal large_set 0 ]) f

    -- refused by the state
    state_refused : {w : List ℕ} {number place : ℕ} → BegunRefused l sheet (seeds sheet) v w number place
        → (on_sheet (length v) sheet ≡ refusal number place) × (w ≡ work_refused number v)
    state_refused (too_short h e) = (by_length (lt-ltb (length v) work_length h), e)
    state_refused (too_large h p e) = (by_fit h ((fits_exactly sheet l (seeds sheet)).1 p), e)

  -- The call is refused: with this number and place, and with the work slice as the number asks.
  pub begun_refused : {v w : List ℕ} {r : Result SetSize Refused} {e : Refused} → SetBegun reading l seeds v w r → r ≡ Err e
      → (framed (length v) ≡ refusal (number e.refusal) e.place) × (w ≡ work_refused (number e.refusal) v)
  begun_refused {v} {w} {r} {e = told} (by_sheet {e = given} e same) is =
      let eg : given ≡ told = cc in
      let k : ℕ = number given.refusal in
      let few = (known.low k given.place e).within in
      let t : clears k ≡ false =
      ap₂ (λ (a b : Bool). a || b) (ne_eqb k large_set (λ z. omega arith)) (ne_eqb k short_answer (λ z. omega arith)) in (
        read_as (refused k given.place) (length v) e ∙ ap (λ (x : Refused). refusal (number x.refusal) x.place) eg,
        same ∙ ap (λ (b : Bool). cond b (cleared v) v) (sym t) ∙ ap (λ (x : Refused). work_refused (number x.refusal) v) eg,
      )
  begun_refused {v} {w} {r} {e = told} (by_set sheet end e h) is =
      let x = state_refused sheet v (subst (BegunAs l sheet (seeds sheet) v w) is h) in
      (read_as (got sheet end) (length v) e ∙ x.0, x.1)

  -- The call goes on with the set, which stands in the work slice.
  pub record GoesOn (v w : List ℕ) (n m : ℕ) : Type 0 where
    pub sheet : spec.Sheet
    pub end : ℕ
    pub read : reading ≡ got sheet end
    pub fine : Admissible sheet
    pub long : work_end ≤ length v
    pub whole : SetWhole sheet l (seeds sheet) v w n m
    pub outcome : framed (length v) ≡ on sheet (explored sheet l (seeds sheet))

  pub begun_on : {v w : List ℕ} {r : Result SetSize Refused} {size : SetSize} → SetBegun reading l seeds v w r → r ≡ Ok size
      → GoesOn v w size.members size.moves
  begun_on (by_sheet e same) is = absurd (set_never (sym is))
  begun_on {v} {w} {r} {size} (by_set sheet end e h) is =
      let x : BegunSet l sheet (seeds sheet) v w size.members size.moves = subst (BegunAs l sheet (seeds sheet) v w) is h in
      record {
        sheet = sheet;
        end = end;
        read = e;
        fine = known.fine sheet end e;
        long = x.long;
        whole = x.whole;
        outcome = read_as (got sheet end) (length v) e ∙ by_fit sheet v x.long x.whole.fit;
      }
