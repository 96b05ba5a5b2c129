-- Every refusal by the sheet or the choice has a number from 1 to 15, and none has 6, which document 02, card 2, leaves unused.
use Rattle.std.specs.Prelude.{◌≡◌, refl, Bool, true, false, cond, not, ◌&&◌, ◌||◌, List, [], ◌∷◌, ◌++◌, ℕ, zero, suc, ◌+◌, ◌^◌, ◌≤◌, length, get_or, eqb, leb, ltb}
use Rattle.std.proofs.Common.{subst, arith, leb-true}
use Rattle.std.proofs.lemmas.Bool.{eqb-false, not-true}
use Rattle.store_laws.specs.TestLaws.{and_left, and_right}
use Rattle.store_laws.specs.Stores.{Rule, closure}
use Rattle.sheet_reading.specs.SheetLimits.{max_facts, max_rules, min_nodes, max_nodes, min_starts, max_starts, max_threads, name_length, max_kind}
use Rattle.sheet_reading.specs.Sheet.{Node, Configuration, Sheet, opened, opened_all}
use Rattle.sheet_reading.specs.Reading.{Reading, got, refused, and_then, refused_if, records_from, byte_at, word_at, count_at, set_at, below, unused, printable, name_bytes, name_at, names_from, facts_at, rule_at, rules_at, kind_at, first_at, second_at, node_from, node_at, nodes_at, thread_at, threads_from, start_at, starts_at, read_sheet, read_choice}

-- a number of the table
pub record Numbered (number : ℕ) : Type 0 where
  pub above : 1 ≤ number
  pub within : number ≤ 15
  pub used : number ≡ 6 → ⊥

numbered : (number : ℕ) → (leb 1 number && (leb number 15 && not (eqb number 6))) ≡ true → Numbered number
numbered number h =
    let later = and_right (leb 1 number) (leb number 15 && not (eqb number 6)) h in
    record {
      above = leb-true 1 number (and_left (leb 1 number) (leb number 15 && not (eqb number 6)) h);
      within = leb-true number 15 (and_left (leb number 15) (not (eqb number 6)) later);
      used = eqb-false number 6 (not-true (eqb number 6) (and_right (leb number 15) (not (eqb number 6)) later));
    }

-- a value, or a refusal with such a number
pub data Low {A : Type 0} : Reading A → Type 0 where
  low_got : (v : A) (at : ℕ) → Low (got v at)
  low_refused : (number place : ℕ) → Numbered number → Low (refused number place)

low_then : {A B : Type 0} {m : Reading A} {f : A → ℕ → Reading B} → Low m → ((v : A) (at : ℕ) → Low (f v at)) → Low (and_then m f)
low_then (low_got v at) g = g v at
low_then (low_refused number place h) g = low_refused number place h

low_cond : {A : Type 0} (b : Bool) {m k : Reading A} → Low m → Low k → Low (cond b m k)
low_cond true x y = x
low_cond false x y = y

low_if : {A : Type 0} (b : Bool) (number place : ℕ) {m : Reading A} → Numbered number → Low m → Low (refused_if b number place m)
low_if true number place h x = low_refused number place h
low_if false number place h x = x

low_records : {A : Type 0} (item : List A → ℕ → Reading A) → ((read : List A) (at : ℕ) → Low (item read at))
    → (n : ℕ) (read : List A) (at : ℕ) → Low (records_from item n read at)
unfolding records_from
low_records item h zero read at = low_got read at
low_records item h (suc n) read at = low_then (h read at) (λ r next. low_records item h n (read ++ (r ∷ [])) next)

low_byte : (s : List ℕ) (at : ℕ) → Low (byte_at s at)
low_byte s at = low_if (ltb (length s) (at + 1)) 1 (length s) (numbered _ refl) (low_got (get_or s at 0) (at + 1))

low_word : (s : List ℕ) (at : ℕ) → Low (word_at s at)
low_word s at = low_if (ltb (length s) (at + 2)) 1 (length s) (numbered _ refl) (low_got _ (at + 2))

low_count : (low high number : ℕ) → Numbered number → (s : List ℕ) (at : ℕ) → Low (count_at low high number s at)
unfolding count_at
low_count low high number h s at = low_then (low_byte s at) (λ n next. low_if (ltb n low || ltb high n) number at h (low_got n next))

low_set : (facts : ℕ) (s : List ℕ) (at : ℕ) → Low (set_at facts s at)
unfolding set_at
low_set facts s at = low_then (low_word s at) (λ c next. low_if (leb (2 ^ facts) c) 5 at (numbered _ refl) (low_got c next))

low_below : (bound k at next : ℕ) → Low (below bound k at next)
low_below bound k at next = low_if (leb bound k) 9 at (numbered _ refl) (low_got k next)

low_unused : (x at next : ℕ) → Low (unused x at next)
low_unused x at next = low_if (not (eqb x 0)) 10 at (numbered _ refl) (low_got x next)

low_bytes : (n : ℕ) (s : List ℕ) (at : ℕ) → Low (name_bytes n s at)
unfolding name_bytes
low_bytes zero s at = low_got name_length at
low_bytes (suc n) s at = low_if (not (printable (get_or s at 0))) 3 at (numbered _ refl) (low_bytes n s (at + 1))

low_name : (s : List ℕ) (at : ℕ) → Low (name_at s at)
unfolding name_at
low_name s at = low_if (ltb (length s) (at + name_length)) 1 (length s) (numbered _ refl) (low_bytes name_length s at)

low_names : (n k : ℕ) (s : List ℕ) (at : ℕ) → Low (names_from n k s at)
unfolding names_from
low_names zero k s at = low_got k at
low_names (suc n) k s at = low_then (low_name s at) (λ name next. low_names n k s next)

low_facts : (s : List ℕ) (at : ℕ) → Low (facts_at s at)
unfolding facts_at
low_facts s at = low_then (low_count 0 max_facts 2 (numbered _ refl) s at) (λ n next. low_names n n s next)

low_rule : (facts : ℕ) (s : List ℕ) (at : ℕ) → Low (rule_at facts s at)
unfolding rule_at
low_rule facts s at =
    low_then (low_set facts s at) (λ p next. low_then (low_set facts s next) (λ c end. low_got (record { premise = p; conclusion = c }) end))

low_rules : (facts : ℕ) (s : List ℕ) (at : ℕ) → Low (rules_at facts s at)
unfolding rules_at
low_rules facts s at =
    low_then (low_count 0 max_rules 4 (numbered _ refl) s at) (λ n next. low_records (λ read p. rule_at facts s p) (λ read p. low_rule facts s p) n [] next)

low_kind : (s : List ℕ) (at : ℕ) → Low (kind_at s at)
unfolding kind_at
low_kind s at = low_then (low_byte s at) (λ k next. low_if (ltb max_kind k) 8 at (numbered _ refl) (low_got k next))

low_first : (kind facts number : ℕ) (s : List ℕ) (at : ℕ) → Low (first_at kind facts number s at)
unfolding first_at
low_first kind facts number s at =
    low_cond (eqb kind 1 || eqb kind 2) (low_set facts s at)
    (low_then (low_word s at) (λ x next. low_cond (eqb kind 0) (low_unused x at next) (low_below number x at next)))

low_second : (kind nodes number : ℕ) (s : List ℕ) (at : ℕ) → Low (second_at kind nodes number s at)
unfolding second_at
low_second kind nodes number s at =
    low_then (low_word s at) (λ x next.
    low_cond (eqb kind 0 || eqb kind 1) (low_unused x at next)
    (low_cond (eqb kind 2) (low_below nodes x at next) (low_below number x at next)))

low_node : (facts : ℕ) (rules : List Rule) (nodes : ℕ) (s : List ℕ) (read : List Node) (at : ℕ) → Low (node_at facts rules nodes s read at)
unfolding node_at
low_node facts rules nodes s read at =
    low_then (low_kind s at) (λ kind p.
    low_then (low_first kind facts (length read) s p) (λ first q.
    low_then (low_second kind nodes (length read) s q) (λ second next.
    low_if (ltb max_threads (length (opened (read ++ (node_from rules kind first second ∷ [])) (length read)))) 15 at (numbered _ refl)
    (low_got (node_from rules kind first second) next))))

low_nodes : (facts : ℕ) (rules : List Rule) (s : List ℕ) (at : ℕ) → Low (nodes_at facts rules s at)
unfolding nodes_at
low_nodes facts rules s at =
    low_then (low_count min_nodes max_nodes 7 (numbered _ refl) s at)
    (λ n next. low_records (node_at facts rules n s) (λ read p. low_node facts rules n s read p) n [] next)

low_thread : (nodes : ℕ) (s : List ℕ) (at : ℕ) → Low (thread_at nodes s at)
unfolding thread_at
low_thread nodes s at = low_then (low_byte s at) (λ k next. low_below nodes k at next)

low_threads : (n nodes : ℕ) (s : List ℕ) (at : ℕ) → Low (threads_from n nodes s at)
unfolding threads_from
low_threads n nodes s at = low_records (λ read p. thread_at nodes s p) (λ read p. low_thread nodes s p) n [] at

low_start : (facts : ℕ) (rules : List Rule) (nodes : List Node) (s : List ℕ) (at : ℕ) → Low (start_at facts rules nodes s at)
unfolding start_at
low_start facts rules nodes s at =
    low_then (low_set facts s at) (λ c p.
    low_then (low_count 0 max_threads 12 (numbered _ refl) s p) (λ n q.
    low_then (low_threads n (length nodes) s q) (λ ks next.
    low_if (ltb max_threads (length (opened_all nodes ks))) 12 p (numbered _ refl)
    (low_got (record { store = closure rules c; threads = opened_all nodes ks }) next))))

low_starts : (facts : ℕ) (rules : List Rule) (nodes : List Node) (s : List ℕ) (at : ℕ) → Low (starts_at facts rules nodes s at)
unfolding starts_at
low_starts facts rules nodes s at =
    low_then (low_count min_starts max_starts 11 (numbered _ refl) s at)
    (λ n next. low_records (λ read p. start_at facts rules nodes s p) (λ read p. low_start facts rules nodes s p) n [] next)

low_sheet : (s : List ℕ) → Low (read_sheet s)
unfolding read_sheet
low_sheet s =
    low_then (low_facts s 0) (λ facts p.
    low_then (low_rules facts s p) (λ rules q.
    low_then (low_nodes facts rules s q) (λ nodes t.
    low_then (low_starts facts rules nodes s t) (λ starts end.
    low_if (ltb end (length s)) 13 end (numbered _ refl) (low_got (record { facts = facts; rules = rules; nodes = nodes; starts = starts }) end)))))

low_choice : (s : List ℕ) (left right : ℕ) → Low (read_choice s left right)
unfolding read_choice
low_choice s left right =
    low_then (low_sheet s) (λ sheet end.
    low_if (leb (length sheet.starts) left) 14 0 (numbered _ refl)
    (low_if (leb (length sheet.starts) right) 14 1 (numbered _ refl) (low_got sheet end)))

refused_low : {m : Reading Sheet} {number place : ℕ} → Low m → m ≡ refused number place → Numbered number
refused_low {m} {number} {place} low e = back (subst (λ (r : Reading Sheet). Low r) e low)
  where
    back : {k p : ℕ} → Low {A = Sheet} (refused k p) → Numbered k
    back (low_refused k p h) = h

-- a refusal by the sheet has such a number
pub sheet_number_low : (s : List ℕ) (number place : ℕ) → read_sheet s ≡ refused number place → Numbered number
sheet_number_low s number place e = refused_low (low_sheet s) e

-- and one by the sheet or the choice
pub number_low : (s : List ℕ) (left right number place : ℕ) → read_choice s left right ≡ refused number place → Numbered number
number_low s left right number place e = refused_low (low_choice s left right) e
