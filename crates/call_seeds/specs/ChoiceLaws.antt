-- What follows of a sheet that was read, with a choice or without: it is well formed, and its starts are configurations of it with few
-- threads.
use Rattle.std.specs.Prelude.{◌≡◌, refl, Bool, true, false, List, [], ◌∷◌, ℕ, zero, suc, ◌≤◌, ◌<◌, length, get_or, set, Ok}
use Rattle.std.proofs.Common.{sym, ap, ap₂, ◌∙◌, subst, arith, length-set, get_or-set_same, get_or-set_other}
use Rattle.collected_moves.specs.Tabulate.{tabulate, tabulate_length, tabulate_at}
use Rattle.collected_moves.specs.ListPlaces.{get_d_in}
use Rattle.sheet_types.specs.SheetLimits.{max_starts, max_threads}
use Rattle.sheet_types.specs.Sheet as spec
use Rattle.sheet_types.specs.WellFormed.{Admissible, OfSheet}
use Rattle.sheet_types.specs.SheetBytes.{ChoiceIs}
use Rattle.sheet_types.specs.Reading.{Reading, got, refused, read_sheet, read_choice}
use Rattle.sheet_types.specs.SheetRead.{sheet_reads, choice_reads}
use Rattle.sheet_reader.specs.ReadingLaws.{written_admissible, choice_no_sheet}
use Rattle.sheet_types.specs.HeldSheet.{configuration, no_configuration, starts_in, sheet_of}
use Rattle.sheet_types.specs.declared.Configuration.{Configuration}
use Rattle.sheet_types.specs.declared.Sheet.{Sheet}
use Rattle.sheet_reader.specs.SheetFound.{SheetFound}
use Rattle.found_set.specs.FoundSet.{SeedsFit}
use Rattle.sheet_types.specs.Sheet.{start}
use Rattle.work_layout.specs.Promise.{starts_of}
use Rattle.call_seeds.specs.Choice.{SheetReady, ChoiceHeld, Seeds, seeds_from, seeds_held, seed_count, SeedsAre}

-- as many starts as are held
starts_count : (sheet : Sheet) → length (sheet_of sheet).starts ≡ sheet.start_count
starts_count sheet = tabulate_length (λ i. configuration (get_or sheet.starts i no_configuration)) sheet.start_count

-- ---- a sheet that was read, with a choice or without
module _ (end : ℕ) (m : Reading spec.Sheet) (x : Sheet) (found : SheetFound end m (Ok x)) where
  -- the sheet that was read is the one that is held
  pub read_is : m ≡ got (sheet_of x) end
  read_is = sym found.reading

  read_ready : Admissible (sheet_of x) → SheetReady x
  read_ready well =
      record {
        admissible = well;
        table = found.held.table;
        threads = found.held.threads;
        few_starts = rw (starts_count x) at well.within.few_starts;
      }

-- it is held with both starts
pub choice_held : (s : List ℕ) (left right : ℕ) (x : Sheet) → SheetFound (length s) (read_choice s left right) (Ok x) → ChoiceHeld x left right
choice_held s left right x found =
    let chosen : ChoiceIs s left right (sheet_of x) =
    ((choice_reads s left right).sound.got_is (sheet_of x) (length s) (read_is (length s) (read_choice s left right) x found)).0 in
    record {
      ready = read_ready (length s) (read_choice s left right) x found (written_admissible s (sheet_of x) chosen.written);
      left_start = rw (starts_count x) at chosen.left_there;
      right_start = rw (starts_count x) at chosen.right_there;
    }

-- ---- a start that is held
module _ (sheet : Sheet) (k : ℕ) (inside : k < sheet.start_count) where
  -- the start of the sheet with this number
  pub start_is : start (sheet_of sheet) k ≡ configuration (get_or sheet.starts k no_configuration)
  start_is =
      tabulate_at (λ i. configuration (get_or sheet.starts i no_configuration)) sheet.start_count k (record { store = 0; threads = [] }) inside

  -- it is a configuration of the sheet
  pub start_of_sheet : Admissible (sheet_of sheet) → OfSheet (sheet_of sheet) (configuration (get_or sheet.starts k no_configuration))
  start_of_sheet w =
      subst (λ (p : spec.Configuration). OfSheet (sheet_of sheet) p) start_is
      (w.starts_fit (start (sheet_of sheet) k)
      (get_d_in (sheet_of sheet).starts k (record { store = 0; threads = [] }) (rw (starts_count sheet) inside)))

-- ---- the seeds
-- the chosen starts stored over the first two places are the first two seeds
pub seeds_stored : (starts seeds : List Configuration) (left right : ℕ) → 2 ≤ length seeds
    → seeds ≡ set (set starts 0 (get_or starts left no_configuration)) 1 (get_or starts right no_configuration) → Seeds starts left right seeds
seeds_stored starts seeds left right long e =
    let p : Configuration = get_or starts left no_configuration in
    let q : Configuration = get_or starts right no_configuration in
    let same : length seeds ≡ length starts = ap length e ∙ length-set (set starts 0 p) 1 q ∙ length-set starts 0 p in
    record {
      first =
          ap (λ (l : List Configuration). get_or l 0 no_configuration) e
          ∙ get_or-set_other (set starts 0 p) 1 0 q no_configuration (omega arith)
          ∙ get_or-set_same starts 0 p no_configuration (omega arith);
      second =
          ap (λ (l : List Configuration). get_or l 1 no_configuration) e
          ∙ get_or-set_same (set starts 0 p) 1 q no_configuration (omega (arith, length-set starts 0 p));
    }

two_starts : (seeds : List Configuration)
    → starts_in seeds 2 ≡ configuration (get_or seeds 0 no_configuration) ∷ configuration (get_or seeds 1 no_configuration) ∷ []
unfolding tabulate
two_starts seeds = refl

module _ (sheet : Sheet) (left right : ℕ) (choice : ChoiceHeld sheet left right) (seeds : List Configuration)
    (are : Seeds sheet.starts left right seeds) where
  -- the first two seeds are the starts of the comparison
  pub seeds_are : starts_in seeds 2 ≡ starts_of (sheet_of sheet) left right
  seeds_are =
      two_starts seeds
      ∙ ap₂ (λ (p q : spec.Configuration). p ∷ q ∷ [])
      (ap configuration are.first ∙ sym (start_is sheet left choice.left_start))
      (ap configuration are.second ∙ sym (start_is sheet right choice.right_start))

  -- each is a configuration of the sheet
  pub seeds_of_sheet : (i : ℕ) → i < 2 → OfSheet (sheet_of sheet) (configuration (get_or seeds i no_configuration))
  seeds_of_sheet zero l = rw are.first (start_of_sheet sheet left choice.left_start choice.ready.admissible)
  seeds_of_sheet (suc zero) l = rw are.second (start_of_sheet sheet right choice.right_start choice.ready.admissible)
  seeds_of_sheet (suc (suc i)) l = absurd (omega arith)

  -- and has few threads
  pub seeds_few : (i : ℕ) → i < 2 → (get_or seeds i no_configuration).count ≤ max_threads
  seeds_few zero l = rw are.first (choice.ready.threads.at left choice.left_start)
  seeds_few (suc zero) l = rw are.second (choice.ready.threads.at right choice.right_start)
  seeds_few (suc (suc i)) l = absurd (omega arith)

-- ---- the first k starts as seeds
starts_fit : (sheet : Sheet) → SheetReady sheet → (k : ℕ) → k ≤ sheet.start_count → SeedsFit sheet sheet.starts k
starts_fit sheet ready k le =
    record {
      few = omega (arith, le, ready.few_starts);
      of_sheet = λ i l. start_of_sheet sheet i (omega (arith, l, le)) ready.admissible;
      threads = λ i l. ready.threads.at i (omega (arith, l, le));
    }

-- ---- the seeds of a call
pub seeds_from_lem : (sheet : Sheet) (left right : ℕ) → ChoiceHeld sheet left right → (all : Bool) (seeds : List Configuration) (k : ℕ) → max_starts ≤ length seeds
    → seeds ≡ seeds_held sheet.starts left right all → k ≡ seed_count sheet.start_count all
    → SeedsAre sheet (seeds_from all left right (sheet_of sheet)) seeds k
seeds_from_lem sheet left right choice true seeds k long e n =
    let fit = starts_fit sheet choice.ready sheet.start_count (omega arith) in
    let long : max_starts ≤ length sheet.starts = omega (arith, long, ap length e) in
    subst (λ (s : List Configuration). SeedsAre sheet (sheet_of sheet).starts s k) (sym e)
    (subst (SeedsAre sheet (sheet_of sheet).starts sheet.starts) (sym n)
    (record { listed = refl; held = omega (arith, long, fit.few); fit = fit }))
seeds_from_lem sheet left right choice false seeds k long e n =
    let are = seeds_stored sheet.starts seeds left right (omega (arith, long)) e in
    subst (SeedsAre sheet (starts_of (sheet_of sheet) left right) seeds) (sym n)
    (record {
      listed = seeds_are sheet left right choice seeds are;
      held = omega (arith, long);
      fit = record {
        few = omega arith;
        of_sheet = seeds_of_sheet sheet left right choice seeds are;
        threads = seeds_few sheet left right choice seeds are;
      };
    })

-- ---- no choice is the choice of the first start twice, since a sheet has one
pub first_choice : (s : List ℕ) → read_choice s 0 0 ≡ read_sheet s
first_choice s = go (read_sheet s) refl
  where
    go : (m : Reading spec.Sheet) → read_sheet s ≡ m → read_choice s 0 0 ≡ read_sheet s
    go (refused number place) e = choice_no_sheet s 0 0 e ∙ sym e
    go (got sheet end) e =
        let is = (sheet_reads s).sound.got_is sheet end e in
        let some = (written_admissible s sheet is.0).within.some_starts in
        (choice_reads s 0 0).is_got sheet end (record { written = is.0; left_there = omega (arith, some); right_there = omega (arith, some) }, is.1) ∙ sym e
