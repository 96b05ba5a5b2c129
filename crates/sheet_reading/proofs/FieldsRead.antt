-- The reader of each field that holds a number gets and refuses what document 01 says of its bytes.
use Rattle.std.specs.Prelude.{◌≡◌, refl, Bool, true, false, not, ◌||◌, List, ℕ, ◌+◌, ◌^◌, ◌≤◌, ◌<◌, length, get_or, eqb, leb, ltb}
use Rattle.std.proofs.Common.{sym, subst, arith, pow_pos, ltb-true, ltb-false, lt-ltb, le-ltb, leb-true, leb-false, eqb-true}
use Rattle.std.proofs.lemmas.Bool.{eqb-false}
use Rattle.sheets.specs.SheetLimits.{max_facts, max_rules, min_nodes, max_nodes, min_starts, max_starts, max_threads, max_kind}
use Rattle.sheets.specs.Refusals.{cut_off_lem, many_facts, many_rules, absent_fact, wrong_nodes, wrong_kind, wrong_node, used_field, wrong_starts, many_threads}
use Rattle.sheets.specs.SheetBytes.{Field, fact_count, rule_count, node_count, start_count, thread_count, set, kind, unused, node_below, thread, width, number_in, Wrong, many_facts_lem, many_rules_lem, absent_fact_lem, few_nodes, many_nodes, no_kind, node_not_below, no_such_thread, not_zero, few_starts, many_starts, many_threads_lem, FieldIs, FieldRefused, cut_off, wrong}
use Rattle.sheet_reading.specs.Reading as reading
use Rattle.sheet_reading.specs.Reading.{Reading, got, refused, and_then, refused_if, byte_at, word_at, count_at, set_at, kind_at, below, thread_at}
use Rattle.sheet_reading.specs.Sound.{Sound, ReadsAs, sound_got, sound_refused, if_sound, then_sound, got_not_refused}

-- What a check makes of what stands in a field: it passes and nothing refuses it, or one number does and no other.
pub data Checked (f : Field) (v at next : ℕ) : Reading ℕ → Type 0 where
  passes : ((number : ℕ) → Wrong f v number → ⊥) → Checked f v at next (got v next)
  fails : {number : ℕ} → Wrong f v number → ((k : ℕ) → Wrong f v k → k ≡ number) → Checked f v at next (refused number at)

-- a field's bytes, before they are checked
abbrev bytes_of : Field → List ℕ → ℕ → Reading ℕ
bytes_of f s at = refused_if (ltb (length s) (at + width f)) cut_off_lem (length s) (got (number_in f s at) (at + width f))

-- a reading gets and is refused what is said of a field
abbrev pub Reads : Field → List ℕ → ℕ → Reading ℕ → Type 0
Reads f s at r = ReadsAs (FieldIs f s at) (FieldRefused f s at) r

module _ (f : Field) (s : List ℕ) (at : ℕ) (check : ℕ → ℕ → Reading ℕ) (checked : (v next : ℕ) → Checked f v at next (check v next)) where
  checked_reads : Reads f s at (and_then (bytes_of f s at) check)
  checked_reads =
      record {
        sound = then_sound {Field = λ v next. (v ≡ number_in f s at) × (next ≡ at + width f) × (at + width f ≤ length s)}
            {FieldRefused = λ number place. FieldRefused f s at number place} (bytes_of f s at) check
            (if_sound (ltb (length s) (at + width f)) cut_off_lem (length s) (got (number_in f s at) (at + width f))
            (λ e. cut_off (ltb-true _ _ e))
            (λ e. sound_got (number_in f s at) (at + width f) (refl, refl, ltb-false _ _ e)))
            (λ number place h. h) (λ v next h. on v next h.0 h.1 h.2 (check v next) (checked v next));
        is_got = λ v next h. right v next h;
        is_refused = λ number place h. wrongly number place h;
      }
    where
      on : (v next : ℕ) → v ≡ number_in f s at → next ≡ at + width f → at + width f ≤ length s → (r : Reading ℕ) → Checked f v at next r
          → Sound (FieldIs f s at) (FieldRefused f s at) r
      on v next e n l _ (passes h) = sound_got v next (record { stands = l; value = e; right = h; after = n })
      on v next e n l _ (fails {number} h k) =
          sound_refused number at (wrong l (subst (λ (x : ℕ). Wrong f x number) e h))

      stands : at + width f ≤ length s → bytes_of f s at ≡ got (number_in f s at) (at + width f)
      stands l = rw (le-ltb (length s) (at + width f) l)

      right : (v next : ℕ) → FieldIs f s at v next → and_then (bytes_of f s at) check ≡ got v next
      right v next h = rw (stands h.stands, sym h.value, sym h.after) (go (check v next) (checked v next))
        where
          go : (r : Reading ℕ) → Checked f v at next r → r ≡ got v next
          go _ (passes k) = refl
          go _ (fails {number} k u) = absurd (h.right number k)

      wrongly : (number place : ℕ) → FieldRefused f s at number place → and_then (bytes_of f s at) check ≡ refused number place
      wrongly _ _ (cut_off l) = rw (lt-ltb (length s) (at + width f) l)
      wrongly _ _ (wrong {number} l w) =
          rw (stands l) (go (check (number_in f s at) (at + width f)) (checked (number_in f s at) (at + width f)))
        where
          go : (r : Reading ℕ) → Checked f (number_in f s at) at (at + width f) r → r ≡ refused number at
          go _ (passes k) = absurd (k number w)
          go _ (fails k u) = rw (u number w)

-- ---- the check of each field
module _ (v at next : ℕ) where
  -- a count from low to high
  counted : (f : Field) (low high number : ℕ) → (v < low → Wrong f v number) → (high < v → Wrong f v number)
      → ((k : ℕ) → Wrong f v k → (k ≡ number) × ((low ≤ v) → (v ≤ high) → ⊥))
      → Checked f v at next (refused_if (ltb v low || ltb high v) number at (got v next))
  counted f low high number few many which = go (ltb v low) (ltb high v) refl refl
    where
      go : (a b : Bool) → ltb v low ≡ a → ltb high v ≡ b → Checked f v at next (refused_if (a || b) number at (got v next))
      go true b e g = fails (few (ltb-true _ _ e)) (λ k w. (which k w).0)
      go false true e g = fails (many (ltb-true _ _ g)) (λ k w. (which k w).0)
      go false false e g = passes (λ k w. (which k w).1 (ltb-false _ _ e) (ltb-false _ _ g))

  facts_checked : Checked fact_count v at next (refused_if (ltb v 0 || ltb max_facts v) many_facts at (got v next))
  facts_checked = counted fact_count 0 max_facts many_facts (λ l. absurd (omega arith)) (λ l. many_facts_lem l) (λ k w. which w)
    where
      which : {k : ℕ} → Wrong fact_count v k → (k ≡ many_facts) × ((0 ≤ v) → (v ≤ max_facts) → ⊥)
      which (many_facts_lem l) = (refl, λ a b. omega arith)

  rules_checked : Checked rule_count v at next (refused_if (ltb v 0 || ltb max_rules v) many_rules at (got v next))
  rules_checked = counted rule_count 0 max_rules many_rules (λ l. absurd (omega arith)) (λ l. many_rules_lem l) (λ k w. which w)
    where
      which : {k : ℕ} → Wrong rule_count v k → (k ≡ many_rules) × ((0 ≤ v) → (v ≤ max_rules) → ⊥)
      which (many_rules_lem l) = (refl, λ a b. omega arith)

  nodes_checked : Checked node_count v at next (refused_if (ltb v min_nodes || ltb max_nodes v) wrong_nodes at (got v next))
  nodes_checked = counted node_count min_nodes max_nodes wrong_nodes (λ l. few_nodes l) (λ l. many_nodes l) (λ k w. which w)
    where
      which : {k : ℕ} → Wrong node_count v k → (k ≡ wrong_nodes) × ((min_nodes ≤ v) → (v ≤ max_nodes) → ⊥)
      which (few_nodes l) = (refl, λ a b. omega arith)
      which (many_nodes l) = (refl, λ a b. omega arith)

  starts_checked : Checked start_count v at next (refused_if (ltb v min_starts || ltb max_starts v) wrong_starts at (got v next))
  starts_checked = counted start_count min_starts max_starts wrong_starts (λ l. few_starts l) (λ l. many_starts l) (λ k w. which w)
    where
      which : {k : ℕ} → Wrong start_count v k → (k ≡ wrong_starts) × ((min_starts ≤ v) → (v ≤ max_starts) → ⊥)
      which (few_starts l) = (refl, λ a b. omega arith)
      which (many_starts l) = (refl, λ a b. omega arith)

  threads_checked : Checked thread_count v at next (refused_if (ltb v 0 || ltb max_threads v) many_threads at (got v next))
  threads_checked = counted thread_count 0 max_threads many_threads (λ l. absurd (omega arith)) (λ l. many_threads_lem l) (λ k w. which w)
    where
      which : {k : ℕ} → Wrong thread_count v k → (k ≡ many_threads) × ((0 ≤ v) → (v ≤ max_threads) → ⊥)
      which (many_threads_lem l) = (refl, λ a b. omega arith)

  set_checked : (facts : ℕ) → Checked (set facts) v at next (refused_if (leb (2 ^ facts) v) absent_fact at (got v next))
  set_checked facts = go (leb (2 ^ facts) v) refl
    where
      which : {k : ℕ} → Wrong (set facts) v k → (k ≡ absent_fact) × (2 ^ facts ≤ v)
      which (absent_fact_lem l) = (refl, l)

      go : (b : Bool) → leb (2 ^ facts) v ≡ b → Checked (set facts) v at next (refused_if b absent_fact at (got v next))
      go true e = fails (absent_fact_lem (leb-true _ _ e)) (λ k w. (which w).0)
      go false e = passes (λ k w. omega (arith, (which w).1, leb-false (2 ^ facts) v e))

  kind_checked : Checked kind v at next (refused_if (ltb max_kind v) wrong_kind at (got v next))
  kind_checked = go (ltb max_kind v) refl
    where
      which : {k : ℕ} → Wrong kind v k → (k ≡ wrong_kind) × (max_kind < v)
      which (no_kind l) = (refl, l)

      go : (b : Bool) → ltb max_kind v ≡ b → Checked kind v at next (refused_if b wrong_kind at (got v next))
      go true e = fails (no_kind (ltb-true _ _ e)) (λ k w. (which w).0)
      go false e = passes (λ k w. omega (arith, (which w).1, ltb-false max_kind v e))

  unused_checked : Checked unused v at next (reading.unused v at next)
  unused_checked = go (eqb v 0) refl
    where
      which : {k : ℕ} → Wrong unused v k → (k ≡ used_field) × (v ≡ 0 → ⊥)
      which (not_zero l) = (refl, l)

      go : (b : Bool) → eqb v 0 ≡ b → Checked unused v at next (refused_if (not b) used_field at (got v next))
      go true e = passes (λ k w. (which w).1 (eqb-true _ _ e))
      go false e = fails (not_zero (eqb-false _ _ e)) (λ k w. (which w).0)

  below_checked : (bound : ℕ) → Checked (node_below bound) v at next (below bound v at next)
  below_checked bound = go (leb bound v) refl
    where
      which : {k : ℕ} → Wrong (node_below bound) v k → (k ≡ wrong_node) × (bound ≤ v)
      which (node_not_below l) = (refl, l)

      go : (b : Bool) → leb bound v ≡ b → Checked (node_below bound) v at next (refused_if b wrong_node at (got v next))
      go true e = fails (node_not_below (leb-true _ _ e)) (λ k w. (which w).0)
      go false e = passes (λ k w. omega (arith, (which w).1, leb-false bound v e))

  thread_checked : (nodes : ℕ) → Checked (thread nodes) v at next (below nodes v at next)
  thread_checked nodes = go (leb nodes v) refl
    where
      which : {k : ℕ} → Wrong (thread nodes) v k → (k ≡ wrong_node) × (nodes ≤ v)
      which (no_such_thread l) = (refl, l)

      go : (b : Bool) → leb nodes v ≡ b → Checked (thread nodes) v at next (refused_if b wrong_node at (got v next))
      go true e = fails (no_such_thread (leb-true _ _ e)) (λ k w. (which w).0)
      go false e = passes (λ k w. omega (arith, (which w).1, leb-false nodes v e))

-- ---- each reader of a field
module _ (s : List ℕ) (at : ℕ) where
  pub facts_count_reads : Reads fact_count s at (count_at 0 max_facts many_facts s at)
  unfolding count_at
  facts_count_reads = checked_reads fact_count s at _ (λ v next. facts_checked v at next)

  pub rules_count_reads : Reads rule_count s at (count_at 0 max_rules many_rules s at)
  unfolding count_at
  rules_count_reads = checked_reads rule_count s at _ (λ v next. rules_checked v at next)

  pub nodes_count_reads : Reads node_count s at (count_at min_nodes max_nodes wrong_nodes s at)
  unfolding count_at
  nodes_count_reads = checked_reads node_count s at _ (λ v next. nodes_checked v at next)

  pub starts_count_reads : Reads start_count s at (count_at min_starts max_starts wrong_starts s at)
  unfolding count_at
  starts_count_reads = checked_reads start_count s at _ (λ v next. starts_checked v at next)

  pub threads_count_reads : Reads thread_count s at (count_at 0 max_threads many_threads s at)
  unfolding count_at
  threads_count_reads = checked_reads thread_count s at _ (λ v next. threads_checked v at next)

  pub set_reads : (facts : ℕ) → Reads (set facts) s at (set_at facts s at)
  unfolding set_at
  set_reads facts = checked_reads (set facts) s at _ (λ v next. set_checked v at next facts)

  pub kind_reads : Reads kind s at (kind_at s at)
  unfolding kind_at
  kind_reads = checked_reads kind s at _ (λ v next. kind_checked v at next)

  pub unused_reads : Reads unused s at (and_then (word_at s at) (λ x next. reading.unused x at next))
  unused_reads = checked_reads unused s at _ (λ v next. unused_checked v at next)

  pub below_reads : (bound : ℕ) → Reads (node_below bound) s at (and_then (word_at s at) (λ k next. below bound k at next))
  below_reads bound = checked_reads (node_below bound) s at _ (λ v next. below_checked v at next bound)

  pub thread_reads : (nodes : ℕ) → Reads (thread nodes) s at (thread_at nodes s at)
  unfolding thread_at
  thread_reads nodes = checked_reads (thread nodes) s at _ (λ v next. thread_checked v at next nodes)
