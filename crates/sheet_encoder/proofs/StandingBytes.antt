-- Bytes that stand in a byte string from a place on, and the fields and sections that they are.
use Rattle.std.specs.Prelude.{◌≡◌, refl, List, [], ◌∷◌, ◌++◌, ℕ, ◌+◌, ◌^◌, ◌≤◌, ◌<◌, length, get_or}
use Rattle.std.proofs.Common.{sym, subst, ap, ◌∙◌, append_assoc, arith, length-append, pow_mono, get_or-append-add}
use Rattle.std.proofs.Math.ListN.{get_or-append}
use Rattle.sheet_laws.specs.Lists.{concat_map}
use Rattle.sheet_laws.specs.SheetLimits.{max_facts, max_rules, min_nodes, max_nodes, min_starts, max_starts, max_threads, max_kind}
use Rattle.sheet_laws.specs.SheetBytes.{Field, fact_count, rule_count, node_count, start_count, thread_count, set, kind, unused, node_below, thread, width, word, word_bytes, number_in, Wrong, many_facts_lem, many_rules_lem, absent_fact_lem, few_nodes, many_nodes, no_kind, node_not_below, no_such_thread, not_zero, few_starts, many_starts, many_threads_lem, FieldIs, Right, RecordsAre, none, one_more, SectionIs}
use Rattle.sheet_encoder.specs.Encoder.{section_bytes}

-- the bytes xs stand in s from a place on
pub record Stands (s : List ℕ) (at : ℕ) (xs : List ℕ) : Type 0 where
  pub inside : at + length xs ≤ length s
  pub same : (i : ℕ) → i < length xs → get_or s (at + i) 0 ≡ get_or xs i 0

pub stands_whole : (s : List ℕ) → Stands s 0 s
stands_whole s = record { inside = omega arith; same = λ i h. let z : 0 + i ≡ i = omega arith in ap (λ (k : ℕ). get_or s k 0) z }

module _ {s : List ℕ} {at : ℕ} where
  pub stands_front : (xs ys : List ℕ) → Stands s at (xs ++ ys) → Stands s at xs
  stands_front xs ys h =
      record {
        inside = omega (arith, h.inside, length-append xs ys);
        same = λ i k. h.same i (omega (arith, length-append xs ys)) ∙ get_or-append xs ys 0 i k;
      }

  pub stands_rest : (xs ys : List ℕ) → Stands s at (xs ++ ys) → Stands s (at + length xs) ys
  stands_rest xs ys h =
      record {
        inside = omega (arith, h.inside, length-append xs ys);
        same = λ i k.
            let z : at + length xs + i ≡ at + (length xs + i) = omega arith in
            ap (λ (j : ℕ). get_or s j 0) z ∙ h.same (length xs + i) (omega (arith, length-append xs ys)) ∙ get_or-append-add xs ys i 0;
      }

  stands_byte : {v : ℕ} {xs : List ℕ} → Stands s at (v ∷ xs) → v ≡ get_or s at 0
  stands_byte h = let z : at ≡ at + 0 = omega arith in sym (ap (λ (k : ℕ). get_or s k 0) z ∙ h.same 0 (omega arith))

-- ---- fields
-- two bytes hold the numbers below this one
abbrev word_end : ℕ
word_end = 65536

-- no number refuses it in this field
abbrev NotWrong : Field → ℕ → Type 0
NotWrong f v = (number : ℕ) → Wrong f v number → ⊥

-- a number that may stand in a field of one byte, and in one of two
pub record ByteFits (f : Field) (v : ℕ) : Type 0 where
  pub wide : width f ≡ 1
  pub number : (s : List ℕ) (at : ℕ) → number_in f s at ≡ get_or s at 0
  pub right : NotWrong f v

pub record WordFits (f : Field) (v : ℕ) : Type 0 where
  pub wide : width f ≡ 2
  pub number : (s : List ℕ) (at : ℕ) → number_in f s at ≡ word s at
  pub small : v < word_end
  pub right : NotWrong f v

module _ {s : List ℕ} {at v : ℕ} (f : Field) where
  pub byte_field : ByteFits f v → Stands s at (v ∷ []) → FieldIs f s at v (at + 1)
  byte_field w h =
      record {
        stands = omega (arith, h.inside, w.wide);
        value = stands_byte h ∙ sym (w.number s at);
        right = w.right;
        after = ap (λ (k : ℕ). at + k) (sym w.wide);
      }

  pub word_field : WordFits f v → Stands s at (word_bytes v) → FieldIs f s at v (at + 2)
  word_field w h =
      let whole : v ≡ word s at = omega (arith, stands_byte h, h.same 1 (omega arith), w.small) in
      record {
        stands = omega (arith, h.inside, w.wide);
        value = whole ∙ sym (w.number s at);
        right = w.right;
        after = ap (λ (k : ℕ). at + k) (sym w.wide);
      }

-- ---- what each field may hold
module _ {v : ℕ} where
  pub facts_fit : v ≤ max_facts → ByteFits fact_count v
  facts_fit h = record { wide = refl; number = λ s at. refl; right = right }
    where
      right : NotWrong fact_count v
      right number (many_facts_lem l) = omega arith

  pub rules_fit : v ≤ max_rules → ByteFits rule_count v
  rules_fit h = record { wide = refl; number = λ s at. refl; right = right }
    where
      right : NotWrong rule_count v
      right number (many_rules_lem l) = omega arith

  pub nodes_fit : min_nodes ≤ v → v ≤ max_nodes → ByteFits node_count v
  nodes_fit h k = record { wide = refl; number = λ s at. refl; right = right }
    where
      right : NotWrong node_count v
      right number (few_nodes l) = omega arith
      right number (many_nodes l) = omega arith

  pub starts_fit : min_starts ≤ v → v ≤ max_starts → ByteFits start_count v
  starts_fit h k = record { wide = refl; number = λ s at. refl; right = right }
    where
      right : NotWrong start_count v
      right number (few_starts l) = omega arith
      right number (many_starts l) = omega arith

  pub threads_fit : v ≤ max_threads → ByteFits thread_count v
  threads_fit h = record { wide = refl; number = λ s at. refl; right = right }
    where
      right : NotWrong thread_count v
      right number (many_threads_lem l) = omega arith

  pub kind_fits : v ≤ max_kind → ByteFits kind v
  kind_fits h = record { wide = refl; number = λ s at. refl; right = right }
    where
      right : NotWrong kind v
      right number (no_kind l) = omega arith

  pub thread_fits : {nodes : ℕ} → v < nodes → ByteFits (thread nodes) v
  thread_fits {nodes} h = record { wide = refl; number = λ s at. refl; right = right }
    where
      right : NotWrong (thread nodes) v
      right number (no_such_thread l) = omega arith

  -- sets of a sheet's facts and numbers of its nodes fit into two bytes
  module _ {facts : ℕ} (few : facts ≤ max_facts) (h : v < 2 ^ facts) where
    set_small : v < word_end
    set_small = let m : 2 ^ facts ≤ 2 ^ max_facts = pow_mono few in omega arith

    pub set_fits : WordFits (set facts) v
    set_fits = record { wide = refl; number = λ s at. refl; small = set_small; right = right }
      where
        right : NotWrong (set facts) v
        right number (absent_fact_lem l) = omega arith

  pub below_fits : {bound : ℕ} → bound ≤ max_nodes → v < bound → WordFits (node_below bound) v
  below_fits {bound} few h = record { wide = refl; number = λ s at. refl; small = omega arith; right = right }
    where
      right : NotWrong (node_below bound) v
      right number (node_not_below l) = omega arith

pub unused_fits : WordFits unused 0
unused_fits = record { wide = refl; number = λ s at. refl; small = omega arith; right = right }
  where
    right : NotWrong unused 0
    right number (not_zero n) = n refl

-- ---- records and sections, where each record that stands is right after those before it
module _ {A : Type 0} (Is : Right A) (n : ℕ) (s : List ℕ) (bytes : A → List ℕ) (all : List A)
    (each : (before rest : List A) (r : A) (at : ℕ) → before ++ (r ∷ rest) ≡ all → Stands s at (bytes r) → Is n before at r (at + length (bytes r))) where
  pub records_stand : (before rest : List A) (at : ℕ) → before ++ rest ≡ all → Stands s at (concat_map bytes rest)
      → RecordsAre Is n before at rest (at + length (concat_map bytes rest))
  records_stand before [] at e h =
      let z : at ≡ at + 0 = omega arith in
      subst (λ (k : ℕ). RecordsAre Is n before at [] k) z none
  records_stand before (r ∷ rest) at e h =
      let z : at + length (bytes r) + length (concat_map bytes rest) ≡ at + length (bytes r ++ concat_map bytes rest) =
      omega (arith, length-append (bytes r) (concat_map bytes rest)) in
      subst (λ (k : ℕ). RecordsAre Is n before at (r ∷ rest) k) z
      (one_more (each before rest r at e (stands_front (bytes r) (concat_map bytes rest) h))
      (records_stand (before ++ (r ∷ [])) rest (at + length (bytes r)) (append_assoc before (r ∷ []) rest ∙ e)
      (stands_rest (bytes r) (concat_map bytes rest) h)))

pub section_stands : {A : Type 0} (count : Field) (Is : Right A) (s : List ℕ) (at : ℕ) (bytes : A → List ℕ) (all : List A)
    → ByteFits count (length all)
    → ((before rest : List A) (r : A) (p : ℕ) → before ++ (r ∷ rest) ≡ all → Stands s p (bytes r) → Is (length all) before p r (p + length (bytes r)))
    → Stands s at (section_bytes bytes all) → SectionIs count Is s at all (at + length (section_bytes bytes all))
section_stands count Is s at bytes all w each h =
    let z : at + 1 + length (concat_map bytes all) ≡ at + length (section_bytes bytes all) = omega arith in
    record {
      first = at + 1;
      counted = byte_field count w (stands_front (length all ∷ []) (concat_map bytes all) h);
      records = subst (λ (k : ℕ). RecordsAre Is (length all) [] (at + 1) all k) z
          (records_stand Is (length all) s bytes all each [] all (at + 1) refl (stands_rest (length all ∷ []) (concat_map bytes all) h));
    }
