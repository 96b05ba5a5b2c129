-- A name and the section of facts get and are refused what document 01 says of their bytes.
use Rattle.std.specs.Prelude.{◌≡◌, Bool, not, ◌&&◌, List, [], ◌∷◌, ◌++◌, get_or, take, drop, leb}
use Rattle.std.proofs.Math.Path.{refl, subst, ap}
use Rattle.std.proofs.Common.{sym, ◌∙◌, length-take, length-drop, length-append, get_or-take, get_or-drop, ext_get_or}
use Rattle.std.proofs.Math.Bool.{true, false}
use Rattle.std.proofs.lemmas.Bool.{false≢true}
use Prim.Native.Nat.{ℕ, zero, suc, ◌+◌, ◌≤◌, ◌<◌}
use native.Mathlib.Omega.{arith}
use Rattle.std.proofs.Math.ListN.{length}
use Rattle.std.proofs.Math.Dec.{ltb}
use borrow.Author.Tests.{ltb-true, ltb-false, lt-ltb, le-ltb, leb-true, le-leb, not-true, not-false}
use Rattle.sheets.specs.SheetLimits.{max_facts, name_length, first_printable, last_printable}
use Rattle.sheets.specs.Refusals.{cut_off_lem, unprintable, many_facts}
use Rattle.sheets.specs.SheetBytes.{fact_count, Printable, NameIs, NameRefused, cut_off, outside, SectionRefused, FactIs, FactRefused, FactsAre}
use Rattle.sheet_reading.specs.Reading.{Reading, got, refused, and_then, refused_if, records_from, printable, name_bytes, name_at, names_from, count_at, facts_at}
use Rattle.sheet_reading.specs.Sound.{Sound, ReadsAs, sound_got, if_sound, then_sound, sound_as, value_reads}
use Rattle.sheet_reading.proofs.FieldsRead.{facts_count_reads}
use Rattle.sheet_reading.proofs.RecordsRead.{section_reads}

-- ---- one byte of a name
inside : (b : ℕ) → printable b ≡ true → Printable b
inside b e = go (leb first_printable b) (leb b last_printable) refl refl e
  where
    go : (x y : Bool) → leb first_printable b ≡ x → leb b last_printable ≡ y → (x && y) ≡ true → Printable b
    go true true u w t = record { low = leb-true _ _ u; high = leb-true _ _ w }
    go true false u w t = absurd (false≢true t)
    go false y u w t = absurd (false≢true t)

inside_test : (b : ℕ) → Printable b → printable b ≡ true
inside_test b h = rw (le-leb first_printable b h.low, le-leb b last_printable h.high)

not_inside : (b : ℕ) → printable b ≡ false → Printable b → ⊥
not_inside b e h = false≢true (sym e ∙ inside_test b h)

not_inside_test : (b : ℕ) → (Printable b → ⊥) → printable b ≡ false
not_inside_test b h = go (printable b) refl
  where
    go : (x : Bool) → printable b ≡ x → printable b ≡ false
    go true e = absurd (h (inside b e))
    go false e = e

-- ---- a name
module _ (s : List ℕ) (at : ℕ) where
  abbrev byte : ℕ → ℕ
  byte i = get_or s (at + i) 0

  -- all its bytes are allowed
  abbrev Allowed : ℕ → Type 0
  Allowed n = (j : ℕ) → j < n → Printable (byte j)

  allowed_next : (i : ℕ) → Allowed i → Printable (byte i) → Allowed (i + 1)
  allowed_next i h p j l = go (ltb j i) refl
    where
      go : (b : Bool) → ltb j i ≡ b → Printable (byte j)
      go true e = h j (ltb-true j i e)
      go false e = let q : j ≡ i = omega (arith, l, ltb-false j i e) in rw q p

  -- the first of its bytes that is not
  pub record Outside (number place : ℕ) : Type 0 where
    pub number_is : number ≡ unprintable
    pub i : ℕ
    pub place_is : place ≡ at + i
    pub there : i < name_length
    pub before : Allowed i
    pub outside_it : Printable (byte i) → ⊥

  bytes_sound : (m i : ℕ) → i + m ≡ name_length → Allowed i
      → Sound (λ v next. (v ≡ name_length) × (next ≡ at + name_length) × Allowed name_length) Outside (name_bytes m s (at + i))
  unfolding name_bytes
  bytes_sound zero i e h =
      let q : i ≡ name_length = omega (arith, e) in
      sound_got name_length (at + i) (refl, ap (λ (k : ℕ). at + k) q, subst Allowed q h)
  bytes_sound (suc m) i e h =
      let q : at + i + 1 ≡ at + (i + 1) = omega arith in
      if_sound (not (printable (byte i))) unprintable (at + i) (name_bytes m s (at + i + 1))
      (λ t. record { number_is = refl; i = i; place_is = refl; there = omega (arith, e); before = h; outside_it = not_inside (byte i) (not-true (printable (byte i)) t) })
      (λ t. rw q (bytes_sound m (i + 1) (omega (arith, e)) (allowed_next i h (inside (byte i) (not-false (printable (byte i)) t)))))

  bytes_got : (m i : ℕ) → i + m ≡ name_length → Allowed name_length → name_bytes m s (at + i) ≡ got name_length (at + name_length)
  unfolding name_bytes
  bytes_got zero i e h =
      let q : i ≡ name_length = omega (arith, e) in
      ap (λ (k : ℕ). got name_length (at + k)) q
  bytes_got (suc m) i e h =
      let q : at + i + 1 ≡ at + (i + 1) = omega arith in
      rw (inside_test (byte i) (h i (omega (arith, e))), q) (bytes_got m (i + 1) (omega (arith, e)) h)

  bytes_refused : (m i k : ℕ) → i + m ≡ name_length → i ≤ k → k < name_length → Allowed k → (Printable (byte k) → ⊥)
      → name_bytes m s (at + i) ≡ refused unprintable (at + k)
  unfolding name_bytes
  bytes_refused zero i k e l u h n = absurd (omega (arith, e, l, u))
  bytes_refused (suc m) i k e l u h n =
      go (ltb i k) refl (λ c. bytes_refused m (i + 1) k (omega (arith, e)) c u h n)
    where
      go : (b : Bool) → ltb i k ≡ b → (i + 1 ≤ k → name_bytes m s (at + (i + 1)) ≡ refused unprintable (at + k))
          → refused_if (not (printable (byte i))) unprintable (at + i) (name_bytes m s (at + i + 1)) ≡ refused unprintable (at + k)
      go true t on =
          let q : at + i + 1 ≡ at + (i + 1) = omega arith in
          let c : i < k = ltb-true i k t in
          rw (inside_test (byte i) (h i c), q) (on (omega arith))
      go false t on =
          let q : i ≡ k = omega (arith, l, ltb-false i k t) in
          rw q (rw (not_inside_test (byte k) n) refl)

  name_is : at + name_length ≤ length s → Allowed name_length → NameIs s at (take name_length (drop at s)) (at + name_length)
  name_is l h =
      record {
        stands = l;
        long = simp (length-take, length-drop) (omega (arith, l));
        bytes = λ i k. (get_or-take name_length (drop at s) i 0 k ∙ get_or-drop at s i 0, h i k);
        after = refl;
      }

  name_sound : Sound (λ v next. NameIs s at (take name_length (drop at s)) next) (NameRefused s at) (name_at s at)
  unfolding name_at
  name_sound =
      if_sound (ltb (length s) (at + name_length)) cut_off_lem (length s) (name_bytes name_length s at) (λ e. cut_off (ltb-true _ _ e))
      (λ e. let l : at + name_length ≤ length s = ltb-false (length s) (at + name_length) e in
      let z : at ≡ at + 0 = omega arith in
      sound_as
      (λ v next k. subst (NameIs s at (take name_length (drop at s))) (sym k.1) (name_is l k.2))
      (λ number place k. subst (λ (n : ℕ). NameRefused s at n place) (sym k.number_is)
      (subst (λ (p : ℕ). NameRefused s at unprintable p) (sym k.place_is) (outside k.i k.there l k.before k.outside_it)))
      (subst (λ (p : ℕ). Sound (λ v next. (v ≡ name_length) × (next ≡ at + name_length) × Allowed name_length) Outside (name_bytes name_length s p)) (sym z)
      (bytes_sound name_length 0 refl (λ j h. absurd (omega arith)))))

  name_got : (name : List ℕ) (next : ℕ) → NameIs s at name next → name_at s at ≡ got name_length next
  unfolding name_at
  name_got name next h =
      let z : at ≡ at + 0 = omega arith in
      let b : name_bytes name_length s (at + 0) ≡ got name_length (at + name_length) = bytes_got name_length 0 refl (λ j l. (h.bytes j l).1) in
      rw (le-ltb (length s) (at + name_length) h.stands, h.after) (ap (λ (p : ℕ). name_bytes name_length s p) z ∙ b)

  name_refused : (number place : ℕ) → NameRefused s at number place → name_at s at ≡ refused number place
  unfolding name_at
  name_refused _ _ (cut_off l) = rw (lt-ltb (length s) (at + name_length) l)
  name_refused _ _ (outside i l h k n) =
      let z : at ≡ at + 0 = omega arith in
      let b : name_bytes name_length s (at + 0) ≡ refused unprintable (at + i) = bytes_refused name_length 0 i refl (omega arith) l k n in
      rw (le-ltb (length s) (at + name_length) h) (ap (λ (p : ℕ). name_bytes name_length s p) z ∙ b)

  -- the bytes that a name has are those that stand there
  name_one : (name : List ℕ) (next : ℕ) → NameIs s at name next → name ≡ take name_length (drop at s)
  name_one name next h =
      let long : length (take name_length (drop at s)) ≡ name_length = simp (length-take, length-drop) (omega (arith, h.stands)) in
      ext_get_or 0 name (take name_length (drop at s)) (h.long ∙ sym long) (λ i l.
      let k : i < name_length = omega (arith, l, h.long) in
      (h.bytes i k).0 ∙ sym (get_or-take name_length (drop at s) i 0 k ∙ get_or-drop at s i 0))

-- ---- the section: its names are records, and what is got is their number
-- the name that stands there
abbrev named : List ℕ → ℕ → Reading (List ℕ)
named s at = and_then (name_at s at) (λ v next. got (take name_length (drop at s)) next)

name_reads : (s : List ℕ) (at : ℕ) → ReadsAs (NameIs s at) (NameRefused s at) (named s at)
name_reads s at =
    record {
      sound = then_sound (name_at s at) _ (name_sound s at) (λ number place h. h) (λ v next h. sound_got (take name_length (drop at s)) next h);
      is_got = λ name next h. rw (name_got s at name next h, name_one s at name next h);
      is_refused = λ number place h. rw (name_refused s at number place h);
    }

-- as many names as are counted, those before among them
names_records : (k : ℕ) (s : List ℕ) (m : ℕ) (before : List (List ℕ)) (at : ℕ) → length before + m ≡ k
    → names_from m k s at ≡ and_then (records_from (λ read p. named s p) m before at) (λ names next. got (length names) next)
unfolding names_from records_from
names_records k s zero before at e = let z : k ≡ length before = omega (arith, e) in ap (λ (n : ℕ). got n at) z
names_records k s (suc m) before at e =
    go (name_at s at) (λ name next.
    names_records k s m (before ++ (name ∷ [])) next (omega (arith, e, length-append before (name ∷ []))))
  where
    go : (r : Reading ℕ)
        → ((name : List ℕ) (next : ℕ) → names_from m k s next
        ≡ and_then (records_from (λ read p. named s p) m (before ++ (name ∷ [])) next) (λ names end. got (length names) end))
        → and_then r (λ name next. names_from m k s next)
        ≡ and_then (and_then (and_then r (λ v next. got (take name_length (drop at s)) next))
        (λ name next. records_from (λ read p. named s p) m (before ++ (name ∷ [])) next)) (λ names next. got (length names) next)
    go (got v next) ih = ih (take name_length (drop at s)) next
    go (refused number place) ih = refl

facts_as_records : (s : List ℕ) (at : ℕ) → facts_at s at
    ≡ and_then (and_then (count_at 0 max_facts many_facts s at) (λ n next. records_from (λ read p. named s p) n [] next)) (λ names next. got (length names) next)
unfolding facts_at
facts_as_records s at = go (count_at 0 max_facts many_facts s at)
  where
    go : (r : Reading ℕ) → and_then r (λ n next. names_from n n s next)
        ≡ and_then (and_then r (λ n next. records_from (λ read p. named s p) n [] next)) (λ names next. got (length names) next)
    go (got n next) = let e : length {A = List ℕ} [] + n ≡ n = omega arith in names_records n s n [] next e
    go (refused number place) = refl

pub facts_reads : (s : List ℕ) (at : ℕ)
    → ReadsAs (λ v next. (names : List (List ℕ)) × (v ≡ length names) × FactsAre s at names next) (SectionRefused fact_count (FactIs s) (FactRefused s) s at) (facts_at s at)
facts_reads s at =
    rw (facts_as_records s at)
    (value_reads length
    (section_reads fact_count (FactIs s) (FactRefused s) s at (count_at 0 max_facts many_facts s at) (λ n read p. named s p) (facts_count_reads s at)
    (λ n before p. name_reads s p)))
