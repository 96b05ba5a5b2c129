-- Records one after another, and a section: what is got and refused where each record gets and is refused what is said of it.
use Rattle.std.specs.Prelude.{◌≡◌, refl, length}
use Rattle.std.proofs.Math.Path.{sym, subst, ap}
use Rattle.std.proofs.Common.{◌∙◌, arith}
use mathlib.Core.List.{List, [], ◌∷◌, ◌++◌, append-nil, append_assoc}
use Prim.Native.Nat.{ℕ, zero, suc, ◌+◌, ◌<◌}
use Rattle.sheets.specs.SheetBytes.{Field, FieldIs, FieldRefused, Right, Refusing, RecordsAre, none, one_more, SectionIs, SectionRefused, by_count, by_record}
use Rattle.sheet_reading.specs.Reading.{Reading, got, refused, and_then, records_from}
use Rattle.sheet_reading.specs.Sound.{Sound, ReadsAs, sound_got, then_sound, sound_as}
use Rattle.sheet_reading.proofs.FieldsRead.{Reads}

-- m more records are right, after those before them
pub record More {A : Type 0} (Is : Right A) (n m : ℕ) (before : List A) (at : ℕ) (all : List A) (next : ℕ) : Type 0 where
  pub rest : List A
  pub all_is : all ≡ before ++ rest
  pub long : length rest ≡ m
  pub records : RecordsAre Is n before at rest next

-- of m more records some are right, and the one after them is refused
pub record Stops {A : Type 0} (Is : Right A) (Refused : Refusing A) (n m : ℕ) (before : List A) (at number place : ℕ) : Type 0 where
  pub done : List A
  pub mid : ℕ
  pub fewer : length done < m
  pub records : RecordsAre Is n before at done mid
  pub stop : Refused n (before ++ done) mid number place

module _ {A : Type 0} (Is : Right A) (Refused : Refusing A) (n : ℕ) (item : List A → ℕ → Reading A)
    (each : (before : List A) (at : ℕ) → ReadsAs (Is n before at) (Refused n before at) (item before at)) where
  pub records_sound : (m : ℕ) (before : List A) (at : ℕ) → Sound (More Is n m before at) (Stops Is Refused n m before at) (records_from item m before at)
  unfolding records_from
  records_sound zero before at = sound_got before at (record { rest = []; all_is = sym (append-nil before); long = refl; records = none })
  records_sound (suc m) before at =
      then_sound (item before at) (λ r next. records_from item m (before ++ (r ∷ [])) next) (each before at).sound
      (λ number place h. record {
        done = [];
        mid = at;
        fewer = omega arith;
        records = none;
        stop = subst (λ (b : List A). Refused n b at number place) (sym (append-nil before)) h;
      })
      (λ r mid i. sound_as
      (λ all next k. record {
        rest = r ∷ k.rest;
        all_is = k.all_is ∙ append_assoc before (r ∷ []) k.rest;
        long = ap suc k.long;
        records = one_more i k.records;
      })
      (λ number place k. record {
        done = r ∷ k.done;
        mid = k.mid;
        fewer = omega (arith, k.fewer);
        records = one_more i k.records;
        stop = subst (λ (b : List A). Refused n b k.mid number place) (append_assoc before (r ∷ []) k.done) k.stop;
      })
      (records_sound m (before ++ (r ∷ [])) mid))

  pub records_got : {before rest : List A} {at next : ℕ} → RecordsAre Is n before at rest next
      → records_from item (length rest) before at ≡ got (before ++ rest) next
  unfolding records_from
  records_got {before} (none) = rw (append-nil before)
  records_got {before} (one_more {rest = rest} {at = at} {mid = mid} {next = next} {r = r} i k) =
      rw ((each before at).is_got r mid i) (records_got k ∙ ap (λ (l : List A). got l next) (append_assoc before (r ∷ []) rest))

  pub records_refused : {before done : List A} {at mid number place : ℕ} (m : ℕ) → length done < m → RecordsAre Is n before at done mid
      → Refused n (before ++ done) mid number place → records_from item m before at ≡ refused number place
  unfolding records_from
  records_refused zero l k h = absurd (omega arith)
  records_refused {before} {number = number} {place = place} (suc m) l (none {at = at}) h =
      rw ((each before at).is_refused number place (subst (λ (b : List A). Refused n b at number place) (append-nil before) h))
  records_refused {before} {number = number} {place = place} (suc m) l (one_more {rest = rest} {at = at} {mid = mid} {next = next} {r = r} i k) h =
      rw ((each before at).is_got r mid i)
      (records_refused {before = before ++ (r ∷ [])} m (omega arith) k (subst (λ (b : List A). Refused n b next number place) (sym (append_assoc before (r ∷ []) rest)) h))

-- a count and its records
pub section_reads : {A : Type 0} (count : Field) (Is : Right A) (Refused : Refusing A) (s : List ℕ) (at : ℕ) (counted : Reading ℕ)
    (item : ℕ → List A → ℕ → Reading A) → Reads count s at counted
    → ((n : ℕ) (before : List A) (p : ℕ) → ReadsAs (Is n before p) (Refused n before p) (item n before p))
    → ReadsAs (SectionIs count Is s at) (SectionRefused count Is Refused s at) (and_then counted (λ n next. records_from (item n) n [] next))
section_reads {A} count Is Refused s at counted item c each =
    record {
      sound = then_sound counted (λ n next. records_from (item n) n [] next) c.sound (λ number place h. by_count h)
          (λ n first i. sound_as
          (λ all next k. right n first i all next k)
          (λ number place k. by_record i k.fewer k.records k.stop)
          (records_sound Is Refused n (item n) (each n) n [] first));
      is_got = λ all next h. rw (c.is_got (length all) h.first h.counted) (records_got Is Refused (length all) (item (length all)) (each (length all)) h.records);
      is_refused = λ number place h. stops number place h;
    }
  where
    right : (n first : ℕ) → FieldIs count s at n first → (all : List A) (next : ℕ) → More Is n n [] first all next → SectionIs count Is s at all next
    right n first i all next k =
        let e : n ≡ length all = sym k.long ∙ ap length (sym k.all_is) in
        record {
          first = first;
          counted = subst (λ (m : ℕ). FieldIs count s at m first) e i;
          records = subst (λ (l : List A). RecordsAre Is (length all) [] first l next) (sym k.all_is)
              (subst (λ (m : ℕ). RecordsAre Is m [] first k.rest next) e k.records);
        }

    stops : (number place : ℕ) → SectionRefused count Is Refused s at number place
        → and_then counted (λ n next. records_from (item n) n [] next) ≡ refused number place
    stops number place (by_count h) = rw (c.is_refused number place h)
    stops number place (by_record {n = n} {first = first} i l k h) =
        rw (c.is_got n first i) (records_refused Is Refused n (item n) (each n) n l k h)
