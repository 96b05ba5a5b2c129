-- The starts of a sheet: what the reader finds, and its loop.
use Rattle.std.specs.Prelude.{◌≡◌, refl, Bool, true, false, List, [], ◌∷◌, ◌++◌, Result, Ok, Err, IfOk, ℕ, ◌+◌, ◌-◌, ◌≤◌, ◌<◌, length, get_or, set, replicate, eqb}
use Rattle.std.proofs.Common.{sym, ap, ◌∙◌, arith, length-set, get_or-set_same, get_or-set_other, ext_get_or, eqb-true}
use Rattle.std.proofs.lemmas.Bool.{eqb-false}
use Rattle.sheet_types.specs.Tabulate.{tabulate_none, tabulate_next, tabulate_same, tabulate_length, tabulate_at}
use Rattle.set_closure.specs.Stores.{Rule}
use Rattle.set_closure.specs.SheetLimits.{max_threads, min_starts, max_starts}
use Rattle.sheet_types.specs.Refusals.{wrong_starts}
use Rattle.sheet_types.specs.Sheet.{Node}
use Rattle.sheet_types.specs.Sheet as spec
use Rattle.sheet_types.specs.Reading.{Reading, got, refused, count_at, start_at, records_from}
use Rattle.sheet_fields.specs.RecordLaws.{records_none, records_refused, records_next}
use Rattle.sheet_fields.specs.StoredRecords.{read_or, stored_from, stored_none, stored_refused, stored_next}
use Rattle.refusals.specs.Numbers.{number}
use Rattle.refusals.specs.declared.Refused.{Refused}
use Rattle.sheet_fields.specs.Answers.{answer_with}
use Rattle.sheet_types.specs.declared.Field.{Field}
use Rattle.sheet_types.specs.HeldSheet.{configuration, no_configuration, starts_in}
use Rattle.sheet_types.specs.NodeTable.{Opened}
use Rattle.sheet_types.specs.declared.Configuration.{Configuration}
use Rattle.start_reader.specs.declared.StartRead.{StartRead}
use Rattle.start_reader.specs.StartFound.{TableOf, StartFound}

-- each of the first n starts has at most eight threads
pub record FewThreads (starts : List Configuration) (n : ℕ) : Type 0 where
  pub at : (j : ℕ) → j < n → (get_or starts j no_configuration).count ≤ max_threads

pub record StartsHeld (s : List ℕ) (starts : List Configuration) (x : Field) : Type 0 where
  pub within : x.next ≤ length s
  pub some : min_starts ≤ x.value
  pub few : x.value ≤ max_starts
  pub threads : FewThreads starts x.value

-- an array of starts with store 0 and no threads
abbrev pub no_starts : List Configuration
no_starts = replicate 16 no_configuration

-- an array with n starts stored in it, up to the first that is refused
abbrev pub stored_starts : List Configuration → ℕ → List Rule → List Node → List ℕ → ℕ → ℕ → List spec.Configuration
stored_starts before facts rules ns s n at = stored_from (start_at facts rules ns s) set n 0 at (starts_in before 16)

-- the same after the count of starts, with store 0 and no threads after the last that is read
abbrev pub starts_array : ℕ → List Rule → List Node → List ℕ → ℕ → List spec.Configuration
starts_array facts rules ns s at =
    read_or (count_at min_starts max_starts wrong_starts s at) (starts_in no_starts 16) (λ n next. stored_starts no_starts facts rules ns s n next)

-- The starts as they are read and as the array has them, whatever the nodes are whose table they were read with.
pub record StartsFound (m : List Node → Reading (List spec.Configuration)) (k : List Node → List spec.Configuration) (nodes : ℕ) (o : Opened)
    (s : List ℕ) (starts : List Configuration) (r : Result Field Refused) : Type 0 where
  pub reading : (ns : List Node) → TableOf nodes o ns → answer_with (starts_in starts) r ≡ m ns
  pub array : (ns : List Node) → TableOf nodes o ns → starts_in starts 16 ≡ k ns
  pub held : IfOk r (StartsHeld s starts)

pub starts_refused : (m : List Node → Reading (List spec.Configuration)) (k : List Node → List spec.Configuration) (nodes : ℕ) (o : Opened)
    (s : List ℕ) (starts : List Configuration) (e : Refused)
    → ((ns : List Node) → TableOf nodes o ns → m ns ≡ refused (number e.refusal) e.place)
    → ((ns : List Node) → TableOf nodes o ns → starts_in starts 16 ≡ k ns) → StartsFound m k nodes o s starts (Err e)
starts_refused m k nodes o s starts e f h = record { reading = λ ns of. sym (f ns of); array = h; held = tt }

-- what was found, of other names for the reading and the array
pub starts_as : (m m₂ : List Node → Reading (List spec.Configuration)) (k k₂ : List Node → List spec.Configuration) (nodes : ℕ) (o : Opened)
    (s : List ℕ) (starts : List Configuration) (r : Result Field Refused) → StartsFound m k nodes o s starts r
    → ((ns : List Node) → m₂ ns ≡ m ns) → ((ns : List Node) → k₂ ns ≡ k ns) → StartsFound m₂ k₂ nodes o s starts r
starts_as m m₂ k k₂ nodes o s starts r found e f =
    record { reading = λ ns of. found.reading ns of ∙ sym (e ns); array = λ ns of. found.array ns of ∙ sym (f ns); held = found.held }

-- one start stored is one of the array
starts_set : (cs : List Configuration) (i : ℕ) (c : Configuration) → length cs ≡ 16 → i < 16
    → starts_in (set cs i c) 16 ≡ set (starts_in cs 16) i (configuration c)
starts_set cs i c long l =
    ext_get_or none (starts_in (set cs i c) 16) (set (starts_in cs 16) i (configuration c)) same
    (λ j h. go j (omega (arith, tabulate_length (at (set cs i c)) 16)) (eqb j i) refl)
  where
    none : spec.Configuration
    none = configuration no_configuration

    at : List Configuration → ℕ → spec.Configuration
    at cs j = configuration (get_or cs j no_configuration)

    same : length (starts_in (set cs i c) 16) ≡ length (set (starts_in cs 16) i (configuration c))
    same = tabulate_length (at (set cs i c)) 16 ∙ sym (length-set (starts_in cs 16) i (configuration c) ∙ tabulate_length (at cs) 16)

    go : (j : ℕ) → j < 16 → (b : Bool) → eqb j i ≡ b
        → get_or (starts_in (set cs i c) 16) j none ≡ get_or (set (starts_in cs 16) i (configuration c)) j none
    go j m true t =
        let e : j ≡ i = eqb-true j i t in
        tabulate_at (at (set cs i c)) 16 j none m
        ∙ rw (e, get_or-set_same cs i c no_configuration (omega arith), get_or-set_same (starts_in cs 16) i (configuration c) none (omega (arith, tabulate_length (at cs) 16)))
    go j m false t =
        let d : j ≡ i → ⊥ = eqb-false j i t in
        tabulate_at (at (set cs i c)) 16 j none m
        ∙ ap configuration (get_or-set_other cs i j c no_configuration d)
        ∙ sym (get_or-set_other (starts_in cs 16) i j (configuration c) none d ∙ tabulate_at (at cs) 16 j none m)

-- the starts with one more are those before, and that one
starts_with : (cs : List Configuration) (i : ℕ) (c : Configuration) → i < length cs → starts_in (set cs i c) (i + 1) ≡ starts_in cs i ++ (configuration c ∷ [])
starts_with cs i c l =
    tabulate_next (λ j. configuration (get_or (set cs i c) j no_configuration)) i
    ∙ ap (λ (xs : List spec.Configuration). xs ++ (configuration (get_or (set cs i c) i no_configuration) ∷ []))
    (tabulate_same (λ j. configuration (get_or (set cs i c) j no_configuration)) (λ j. configuration (get_or cs j no_configuration)) i
    (λ j m. ap configuration (get_or-set_other cs i j c no_configuration (omega arith))))
    ∙ ap (λ (x : Configuration). starts_in cs i ++ (configuration x ∷ [])) (get_or-set_same cs i c no_configuration l)

-- one start, whatever stands before it
abbrev pub start_item : ℕ → List Rule → List Node → List ℕ → List spec.Configuration → ℕ → Reading spec.Configuration
start_item facts rules ns s read p = start_at facts rules ns s p

-- i starts are read up to p, and what is left to read gives what the whole gives
pub record StartsSoFar (facts : ℕ) (rules : List Rule) (nodes : ℕ) (o : Opened) (n : ℕ) (s : List ℕ) (at : ℕ) (before : List Configuration) (i p : ℕ)
    (starts : List Configuration) : Type 0 where
  pub rest : (ns : List Node) → TableOf nodes o ns
      → records_from (start_item facts rules ns s) (n - i) (starts_in starts i) p ≡ records_from (start_item facts rules ns s) n [] at
  pub array : (ns : List Node) → TableOf nodes o ns
      → stored_from (start_at facts rules ns s) set (n - i) i p (starts_in starts 16) ≡ stored_starts before facts rules ns s n at
  pub threads : FewThreads starts i

module _ (facts : ℕ) (rules : List Rule) (nodes : ℕ) (o : Opened) (n : ℕ) (s : List ℕ) (at : ℕ) (before : List Configuration) where
  pub starts_none : StartsSoFar facts rules nodes o n s at before 0 at before
  starts_none =
      let z : n - 0 ≡ n = omega arith in
      record {
        rest = λ ns of. rw (z, tabulate_none (λ j. configuration (get_or before j no_configuration)));
        array = λ ns of. rw z;
        threads = record { at = λ j l. absurd (omega arith) };
      }

  module _ (i p : ℕ) (starts : List Configuration) (sofar : StartsSoFar facts rules nodes o n s at before i p starts) where
    pub starts_stopped : (e : Refused) → i < n → StartFound facts rules nodes o s p (Err e)
        → StartsFound (λ ns. records_from (start_item facts rules ns s) n [] at) (λ ns. stored_starts before facts rules ns s n at) nodes o s starts (Err e)
    starts_stopped e l found =
        starts_refused (λ ns. records_from (start_item facts rules ns s) n [] at) (λ ns. stored_starts before facts rules ns s n at) nodes o s starts e
        (λ ns of. sym (sofar.rest ns of) ∙ records_refused (start_item facts rules ns s) n i (starts_in starts i) p _ _ l (sym (found.reading ns of)))
        (λ ns of. sym (stored_refused (start_at facts rules ns s) set n i p (starts_in starts 16) l (sym (found.reading ns of))) ∙ sofar.array ns of)

    pub starts_next : (r : StartRead) → i < n → StartFound facts rules nodes o s p (Ok r) → length starts ≡ 16 → i < 16
        → StartsSoFar facts rules nodes o n s at before (i + 1) r.next (set starts i r.start) × (r.next ≤ length s)
    starts_next r l found long low = (
      record {
        rest = λ ns of.
            ap (λ (xs : List spec.Configuration). records_from (start_item facts rules ns s) (n - (i + 1)) xs r.next) (starts_with starts i r.start room)
            ∙ sym (records_next (start_item facts rules ns s) n i (starts_in starts i) p r.next (configuration r.start) l (here ns of))
            ∙ sofar.rest ns of;
        array = λ ns of.
            ap (stored_from (start_at facts rules ns s) set (n - (i + 1)) (i + 1) r.next) (starts_set starts i r.start long low)
            ∙ sym (stored_next (start_at facts rules ns s) set n i p (starts_in starts 16) (configuration r.start) l (here ns of))
            ∙ sofar.array ns of;
        threads = record { at = λ j m. go j m (eqb j i) refl };
      },
      found.held.0,
    )
      where
        room : i < length starts
        room = omega arith

        here : (ns : List Node) → TableOf nodes o ns → start_at facts rules ns s p ≡ got (configuration r.start) r.next
        here ns of = sym (found.reading ns of)

        go : (j : ℕ) → j < i + 1 → (b : Bool) → eqb j i ≡ b → (get_or (set starts i r.start) j no_configuration).count ≤ max_threads
        go j m true t = rw (eqb-true j i t, get_or-set_same starts i r.start no_configuration room) found.held.1
        go j m false t =
            let other = eqb-false j i t in
            rw (get_or-set_other starts i j r.start no_configuration other) (sofar.threads.at j (omega (arith, other)))

    pub starts_end : i ≡ n → min_starts ≤ n → n ≤ max_starts → p ≤ length s
        → StartsFound (λ ns. records_from (start_item facts rules ns s) n [] at) (λ ns. stored_starts before facts rules ns s n at) nodes o s starts
        (Ok (record { value = n; next = p }))
    starts_end e some few within =
        record {
          reading = λ ns of.
              ap (λ (m : ℕ). got (starts_in starts m) p) (sym e)
              ∙ sym (records_none (start_item facts rules ns s) n i (starts_in starts i) p (omega arith))
              ∙ sofar.rest ns of;
          array = λ ns of. sym (stored_none (start_at facts rules ns s) set n i p (starts_in starts 16) (omega arith)) ∙ sofar.array ns of;
          held = record { within = within; some = some; few = few; threads = rw (sym e) sofar.threads };
        }
