-- Document 01, "The sheet" and the table of "Refused by the sheet or the choice", as relations on bytes: which bytes are a field, a
-- record, a section and a sheet, and which number refuses them at which place. What is right begins at a place and has a next place
-- after it. Fields are checked in byte order: what refuses a field asks that every field before it is right.
use Rattle.std.specs.Prelude.{◌≡◌, List, [], ◌∷◌, ◌++◌, ℕ, ◌+◌, ◌*◌, ◌^◌, ◌/◌, ◌%◌, ◌≤◌, ◌<◌, length, get_or}
use Rattle.stores.specs.Stores.{Rule, closure}
use Rattle.sheets.specs.SheetLimits.{max_facts, max_rules, min_nodes, max_nodes, min_starts, max_starts, max_threads, max_kind, name_length, first_printable, last_printable}
use Rattle.sheets.specs.Refusals.{cut_off_lem, many_facts, unprintable, many_rules, absent_fact, wrong_nodes, wrong_kind, wrong_node, used_field, wrong_starts, many_threads, bytes_left_lem, wide_node, absent_start}
use Rattle.sheets.specs.Sheet.{Node, stop, tell, ask, both, either, Configuration, Sheet, opened, opened_all}

-- ---- one field
-- The fields that hold a number: the five counts; a set of the sheet's facts; a node's kind byte; a field of a node that is not used, and
-- one that names a node below a bound; a thread's byte in a start.
pub data Field : Type 0 where
  fact_count : Field
  rule_count : Field
  node_count : Field
  start_count : Field
  thread_count : Field
  set : (facts : ℕ) → Field
  kind : Field
  unused : Field
  node_below : (bound : ℕ) → Field
  thread : (nodes : ℕ) → Field

-- sets and the fields of a node have two bytes
abbrev pub width : Field → ℕ
width fact_count = 1
width rule_count = 1
width node_count = 1
width start_count = 1
width thread_count = 1
width (set facts) = 2
width kind = 1
width unused = 2
width (node_below bound) = 2
width (thread nodes) = 1

-- two bytes, the low one first
abbrev pub word : List ℕ → ℕ → ℕ
word s at = get_or s at 0 + 256 * get_or s (at + 1) 0

-- a number below 65,536 as two bytes
abbrev pub word_bytes : ℕ → List ℕ
word_bytes n = n % 256 ∷ n / 256 % 256 ∷ []

-- the number that stands in a field
abbrev pub number_in : Field → List ℕ → ℕ → ℕ
number_in fact_count s at = get_or s at 0
number_in rule_count s at = get_or s at 0
number_in node_count s at = get_or s at 0
number_in start_count s at = get_or s at 0
number_in thread_count s at = get_or s at 0
number_in (set facts) s at = word s at
number_in kind s at = get_or s at 0
number_in unused s at = word s at
number_in (node_below bound) s at = word s at
number_in (thread nodes) s at = get_or s at 0

-- The table: which number refuses what stands in a field.
pub data Wrong : Field → ℕ → ℕ → Type 0 where
  -- 2: more than 12 facts
  many_facts_lem : {n : ℕ} → max_facts < n → Wrong fact_count n many_facts
  -- 4: more than 32 rules
  many_rules_lem : {n : ℕ} → max_rules < n → Wrong rule_count n many_rules
  -- 5: a set holds an absent fact
  absent_fact_lem : {facts c : ℕ} → 2 ^ facts ≤ c → Wrong (set facts) c absent_fact
  -- 7: no node, or more than 64
  few_nodes : {n : ℕ} → n < min_nodes → Wrong node_count n wrong_nodes
  many_nodes : {n : ℕ} → max_nodes < n → Wrong node_count n wrong_nodes
  -- 8: a kind above 4
  no_kind : {n : ℕ} → max_kind < n → Wrong kind n wrong_kind
  -- 9: a node's number is not allowed there
  node_not_below : {bound k : ℕ} → bound ≤ k → Wrong (node_below bound) k wrong_node
  no_such_thread : {nodes k : ℕ} → nodes ≤ k → Wrong (thread nodes) k wrong_node
  -- 10: an unused field is not 0
  not_zero : {x : ℕ} → (x ≡ 0 → ⊥) → Wrong unused x used_field
  -- 11: below 2 starts, or above 16
  few_starts : {n : ℕ} → n < min_starts → Wrong start_count n wrong_starts
  many_starts : {n : ℕ} → max_starts < n → Wrong start_count n wrong_starts
  -- 12: a thread count above 8
  many_threads_lem : {n : ℕ} → max_threads < n → Wrong thread_count n many_threads

-- A field is right: its bytes stand on the sheet, and no number refuses what stands in it.
pub record FieldIs (f : Field) (s : List ℕ) (at v next : ℕ) : Type 0 where
  pub stands : at + width f ≤ length s
  pub value : v ≡ number_in f s at
  pub right : (number : ℕ) → Wrong f v number → ⊥
  pub after : next ≡ at + width f

-- A field is refused. 1 comes first: it is cut off by the end, at the sheet's length. Otherwise at its first byte.
pub data FieldRefused (f : Field) (s : List ℕ) (at : ℕ) : ℕ → ℕ → Type 0 where
  cut_off : length s < at + width f → FieldRefused f s at cut_off_lem (length s)
  wrong : {number : ℕ} → at + width f ≤ length s → Wrong f (number_in f s at) number → FieldRefused f s at number at

-- ---- a name: one field of 8 bytes, each from 32 to 126
pub record Printable (b : ℕ) : Type 0 where
  pub low : first_printable ≤ b
  pub high : b ≤ last_printable

-- a name as the list of its bytes
pub record NameIs (s : List ℕ) (at : ℕ) (name : List ℕ) (next : ℕ) : Type 0 where
  pub stands : at + name_length ≤ length s
  pub long : length name ≡ name_length
  pub bytes : (i : ℕ) → i < name_length → (get_or name i 0 ≡ get_or s (at + i) 0) × Printable (get_or s (at + i) 0)
  pub after : next ≡ at + name_length

-- 1, or 3 at the name's first byte that is outside
pub data NameRefused (s : List ℕ) (at : ℕ) : ℕ → ℕ → Type 0 where
  cut_off : length s < at + name_length → NameRefused s at cut_off_lem (length s)
  outside : (i : ℕ) → i < name_length → at + name_length ≤ length s
      → ((j : ℕ) → j < i → Printable (get_or s (at + j) 0)) → (Printable (get_or s (at + i) 0) → ⊥) → NameRefused s at unprintable (at + i)

-- ---- a section: a count, and so many records after it
-- What is said of records of one kind: with how many there are in all, those before it and its place, which record it is and what its
-- next place is; and which number refuses it at which place.
abbrev pub Right : Type 0 → Type 1
Right A = ℕ → List A → ℕ → A → ℕ → Type 0

abbrev pub Refusing : Type 0 → Type 1
Refusing A = ℕ → List A → ℕ → ℕ → ℕ → Type 0

-- records one after another, after those before them, from a place to the next
pub data RecordsAre {A : Type 0} (Is : Right A) (n : ℕ) : List A → ℕ → List A → ℕ → Type 0 where
  none : {before : List A} {at : ℕ} → RecordsAre Is n before at [] at
  one_more : {before rest : List A} {at mid next : ℕ} {r : A} → Is n before at r mid → RecordsAre Is n (before ++ (r ∷ [])) mid rest next
      → RecordsAre Is n before at (r ∷ rest) next

pub record SectionIs {A : Type 0} (count : Field) (Is : Right A) (s : List ℕ) (at : ℕ) (all : List A) (next : ℕ) : Type 0 where
  pub first : ℕ
  pub counted : FieldIs count s at (length all) first
  pub records : RecordsAre Is (length all) [] first all next

-- refused by its count, or by a record, some of them being right before it
pub data SectionRefused {A : Type 0} (count : Field) (Is : Right A) (Refused : Refusing A) (s : List ℕ) (at : ℕ) : ℕ → ℕ → Type 0 where
  by_count : {number place : ℕ} → FieldRefused count s at number place → SectionRefused count Is Refused s at number place
  by_record : {n first mid number place : ℕ} {before : List A} → FieldIs count s at n first → length before < n
      → RecordsAre Is n [] first before mid → Refused n before mid number place → SectionRefused count Is Refused s at number place

-- ---- facts
abbrev pub FactIs : List ℕ → Right (List ℕ)
FactIs s n before at name next = NameIs s at name next

abbrev pub FactRefused : List ℕ → Refusing (List ℕ)
FactRefused s n before at number place = NameRefused s at number place

-- ---- rules: premise, conclusion. A premise may be empty (document 02, card 2): its conclusion always stands.
pub record RuleIs (facts : ℕ) (s : List ℕ) (n : ℕ) (before : List Rule) (at : ℕ) (r : Rule) (next : ℕ) : Type 0 where
  pub second : ℕ
  pub premise_field : FieldIs (set facts) s at r.premise second
  pub conclusion_field : FieldIs (set facts) s second r.conclusion next

pub data RuleRefused (facts : ℕ) (s : List ℕ) (n : ℕ) (before : List Rule) (at number place : ℕ) : Type 0 where
  by_premise : FieldRefused (set facts) s at number place → RuleRefused facts s n before at number place
  by_conclusion : {p second : ℕ} → FieldIs (set facts) s at p second → FieldRefused (set facts) s second number place
      → RuleRefused facts s n before at number place

-- ---- nodes: kind byte, first field, second field
-- The kind byte of node k of n decides what its fields are and which node they give; sets are closed on reading.
pub data KindIs (facts : ℕ) (rules : List Rule) (n k : ℕ) : ℕ → Field → Field → (ℕ → ℕ → Node) → Type 0 where
  is_stop : KindIs facts rules n k 0 unused unused (λ x y. stop)
  is_tell : KindIs facts rules n k 1 (set facts) unused (λ c y. tell (closure rules c))
  is_ask : KindIs facts rules n k 2 (set facts) (node_below n) (λ c q. ask (closure rules c) q)
  is_both : KindIs facts rules n k 3 (node_below k) (node_below k) (λ p q. both p q)
  is_either : KindIs facts rules n k 4 (node_below k) (node_below k) (λ p q. either p q)

-- the three fields of node k of n, whatever it opens to
pub data NodeFieldsAre (facts : ℕ) (rules : List Rule) (s : List ℕ) (n k at : ℕ) : Node → ℕ → Type 0 where
  fields : {b x y second third next : ℕ} {f g : Field} {made : ℕ → ℕ → Node} → FieldIs kind s at b second → KindIs facts rules n k b f g made
      → FieldIs f s second x third → FieldIs g s third y next → NodeFieldsAre facts rules s n k at (made x y) next

-- the threads that a node opens to, with those before it
abbrev pub threads_of : List Node → Node → List ℕ
threads_of before node = opened (before ++ (node ∷ [])) (length before)

-- A node's number is that of the nodes before it.
pub record NodeIs (facts : ℕ) (rules : List Rule) (s : List ℕ) (n : ℕ) (before : List Node) (at : ℕ) (node : Node) (next : ℕ) : Type 0 where
  pub three : NodeFieldsAre facts rules s n (length before) at node next
  pub narrow : length (threads_of before node) ≤ max_threads

-- 15, after its last field, at its kind byte: it opens to more than 8 threads
pub data NodeRefused (facts : ℕ) (rules : List Rule) (s : List ℕ) (n : ℕ) (before : List Node) (at : ℕ) : ℕ → ℕ → Type 0 where
  by_kind : {number place : ℕ} → FieldRefused kind s at number place → NodeRefused facts rules s n before at number place
  by_first : {b second number place : ℕ} {f g : Field} {made : ℕ → ℕ → Node} → FieldIs kind s at b second
      → KindIs facts rules n (length before) b f g made → FieldRefused f s second number place → NodeRefused facts rules s n before at number place
  by_second : {b x second third number place : ℕ} {f g : Field} {made : ℕ → ℕ → Node} → FieldIs kind s at b second
      → KindIs facts rules n (length before) b f g made → FieldIs f s second x third → FieldRefused g s third number place
      → NodeRefused facts rules s n before at number place
  wide : {node : Node} {next : ℕ} → NodeFieldsAre facts rules s n (length before) at node next → max_threads < length (threads_of before node)
      → NodeRefused facts rules s n before at wide_node at

-- ---- starts: store, thread count, then that many node numbers
abbrev pub ThreadIs : ℕ → List ℕ → Right ℕ
ThreadIs nodes s n before at k next = FieldIs (thread nodes) s at k next

abbrev pub ThreadRefused : ℕ → List ℕ → Refusing ℕ
ThreadRefused nodes s n before at number place = FieldRefused (thread nodes) s at number place

-- The store is closed on reading, and the threads are those that the written nodes open to, at most 8.
pub data StartIs (facts : ℕ) (rules : List Rule) (nodes : List Node) (s : List ℕ) (n : ℕ) (before : List Configuration) (at : ℕ) : Configuration → ℕ → Type 0 where
  start : {c second next : ℕ} {written : List ℕ} → FieldIs (set facts) s at c second
      → SectionIs thread_count (ThreadIs (length nodes) s) s second written next → length (opened_all nodes written) ≤ max_threads
      → StartIs facts rules nodes s n before at (record { store = closure rules c; threads = opened_all nodes written }) next

-- 12 once opened, after the last thread, at the count
pub data StartRefused (facts : ℕ) (rules : List Rule) (nodes : List Node) (s : List ℕ) (n : ℕ) (before : List Configuration) (at : ℕ) : ℕ → ℕ → Type 0 where
  by_store : {number place : ℕ} → FieldRefused (set facts) s at number place → StartRefused facts rules nodes s n before at number place
  by_threads_lem : {c second number place : ℕ} → FieldIs (set facts) s at c second
      → SectionRefused thread_count (ThreadIs (length nodes) s) (ThreadRefused (length nodes) s) s second number place
      → StartRefused facts rules nodes s n before at number place
  opened_many : {c second next : ℕ} {written : List ℕ} → FieldIs (set facts) s at c second
      → SectionIs thread_count (ThreadIs (length nodes) s) s second written next → max_threads < length (opened_all nodes written)
      → StartRefused facts rules nodes s n before at many_threads second

-- ---- the four sections
abbrev pub FactsAre : List ℕ → ℕ → List (List ℕ) → ℕ → Type 0
FactsAre s = SectionIs fact_count (FactIs s) s

abbrev pub RulesAre : ℕ → List ℕ → ℕ → List Rule → ℕ → Type 0
RulesAre facts s = SectionIs rule_count (RuleIs facts s) s

abbrev pub NodesAre : ℕ → List Rule → List ℕ → ℕ → List Node → ℕ → Type 0
NodesAre facts rules s = SectionIs node_count (NodeIs facts rules s) s

abbrev pub StartsAre : ℕ → List Rule → List Node → List ℕ → ℕ → List Configuration → ℕ → Type 0
StartsAre facts rules nodes s = SectionIs start_count (StartIs facts rules nodes s) s

-- the sections one after another, from the first byte on, whatever follows the last
pub data SectionsAre (s : List ℕ) : Sheet → ℕ → Type 0 where
  sections : {p q t end : ℕ} {names : List (List ℕ)} {rules : List Rule} {nodes : List Node} {starts : List Configuration}
      → FactsAre s 0 names p → RulesAre (length names) s p rules q → NodesAre (length names) rules s q nodes t
      → StartsAre (length names) rules nodes s t starts end
      → SectionsAre s (record { facts = length names; rules = rules; nodes = nodes; starts = starts }) end

-- These bytes are this sheet: its sections, and no byte after them.
abbrev pub SheetIs : List ℕ → Sheet → Type 0
SheetIs s sheet = SectionsAre s sheet (length s)

-- This number refuses these bytes at this place.
pub data SheetRefused (s : List ℕ) : ℕ → ℕ → Type 0 where
  by_facts : {number place : ℕ} → SectionRefused fact_count (FactIs s) (FactRefused s) s 0 number place → SheetRefused s number place
  by_rules : {p number place : ℕ} {names : List (List ℕ)} → FactsAre s 0 names p
      → SectionRefused rule_count (RuleIs (length names) s) (RuleRefused (length names) s) s p number place → SheetRefused s number place
  by_nodes : {p q number place : ℕ} {names : List (List ℕ)} {rules : List Rule} → FactsAre s 0 names p → RulesAre (length names) s p rules q
      → SectionRefused node_count (NodeIs (length names) rules s) (NodeRefused (length names) rules s) s q number place → SheetRefused s number place
  by_starts : {p q t number place : ℕ} {names : List (List ℕ)} {rules : List Rule} {nodes : List Node} → FactsAre s 0 names p
      → RulesAre (length names) s p rules q → NodesAre (length names) rules s q nodes t
      → SectionRefused start_count (StartIs (length names) rules nodes s) (StartRefused (length names) rules nodes s) s t number place
      → SheetRefused s number place
  -- 13: bytes after the last start, at the first of them
  bytes_left : {sheet : Sheet} {end : ℕ} → SectionsAre s sheet end → end < length s → SheetRefused s bytes_left_lem end

-- ---- the choice of a left and a right start
pub record ChoiceIs (s : List ℕ) (left right : ℕ) (sheet : Sheet) : Type 0 where
  pub written : SheetIs s sheet
  pub left_there : left < length sheet.starts
  pub right_there : right < length sheet.starts

-- 14, after the sheet: a chosen start is not on it, place 0 for the left and 1 for the right, the left first
pub data ChoiceRefused (s : List ℕ) (left right : ℕ) : ℕ → ℕ → Type 0 where
  by_sheet : {number place : ℕ} → SheetRefused s number place → ChoiceRefused s left right number place
  no_left : {sheet : Sheet} → SheetIs s sheet → length sheet.starts ≤ left → ChoiceRefused s left right absent_start 0
  no_right : {sheet : Sheet} → SheetIs s sheet → left < length sheet.starts → length sheet.starts ≤ right
      → ChoiceRefused s left right absent_start 1

-- ---- what holds of every byte string
-- A sheet, one only, and no refusal; or a refusal, one only, and no sheet.
pub data ExactlyOne (s : List ℕ) : Type 0 where
  a_sheet : (sheet : Sheet) → SheetIs s sheet → ((x : Sheet) → SheetIs s x → x ≡ sheet) → ((number place : ℕ) → SheetRefused s number place → ⊥) → ExactlyOne s
  a_refusal : (number place : ℕ) → SheetRefused s number place → ((n p : ℕ) → SheetRefused s n p → (n ≡ number) × (p ≡ place))
      → ((sheet : Sheet) → SheetIs s sheet → ⊥) → ExactlyOne s
