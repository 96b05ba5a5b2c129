-- Document 01, "The sheet" and "Refused by the sheet or the choice": what reading a byte string gives, the sheet or the
-- number and place of the first refusal. Fields are read in byte order, and a refusal ends the reading.
use Rattle.std.specs.Prelude.{Bool, cond, not, ◌&&◌, ◌||◌, List, [], ◌∷◌, ◌++◌, ℕ, zero, suc, ◌+◌, ◌*◌, ◌^◌, length, get_or, eqb, leb, ltb}
use Rattle.sheets.specs.Stores.{Rule, closure}
use Rattle.sheets.specs.SheetLimits.{max_facts, max_rules, min_nodes, max_nodes, min_starts, max_starts, max_threads, max_kind, name_length, first_printable, last_printable}
use Rattle.sheets.specs.Refusals.{cut_off_lem, many_facts, unprintable, many_rules, absent_fact, wrong_nodes, wrong_kind, wrong_node, used_field, wrong_starts, many_threads, bytes_left_lem, wide_node, absent_start}
use Rattle.sheets.specs.SheetBytes.{word}
use Rattle.sheets.specs.Sheet.{Node, stop, tell, ask, both, either, Configuration, Sheet, opened, opened_all}

-- A value with the place after it, or a refusal with its number and place.
pub data Reading (A : Type 0) : Type 0 where
  got : A → ℕ → Reading A
  refused : ℕ → ℕ → Reading A

-- one field after another; a refusal is handed up unaltered
abbrev pub and_then : {A B : Type 0} → Reading A → (A → ℕ → Reading B) → Reading B
and_then (got v at) f = f v at
and_then (refused number place) f = refused number place

abbrev pub refused_if : {A : Type 0} → Bool → ℕ → ℕ → Reading A → Reading A
refused_if wrong number place r = cond wrong (refused number place) r

-- n records, each read with those before it at hand
unfoldable pub records_from : {A : Type 0} → (List A → ℕ → Reading A) → ℕ → List A → ℕ → Reading (List A)
records_from item zero read at = got read at
records_from item (suc n) read at = and_then (item read at) (λ r next. records_from item n (read ++ (r ∷ [])) next)

-- ---- fields of one and of two bytes. Refusal 1: a field cut off by the end, at the sheet's length.
abbrev pub byte_at : List ℕ → ℕ → Reading ℕ
byte_at s at = refused_if (ltb (length s) (at + 1)) cut_off_lem (length s) (got (get_or s at 0) (at + 1))

abbrev pub word_at : List ℕ → ℕ → Reading ℕ
word_at s at = refused_if (ltb (length s) (at + 2)) cut_off_lem (length s) (got (word s at) (at + 2))

-- a count byte from low to high, refused with its section's number
unfoldable pub count_at : ℕ → ℕ → ℕ → List ℕ → ℕ → Reading ℕ
count_at low high number s at =
    and_then (byte_at s at) (λ n next. refused_if (ltb n low || ltb high n) number at (got n next))

-- a set of the sheet's facts; 5: it holds an absent fact
unfoldable pub set_at : ℕ → List ℕ → ℕ → Reading ℕ
set_at facts s at = and_then (word_at s at) (λ c next. refused_if (leb (2 ^ facts) c) absent_fact at (got c next))

-- a node's number below a bound; 9: not allowed there
abbrev pub below : ℕ → ℕ → ℕ → ℕ → Reading ℕ
below bound k at next = refused_if (leb bound k) wrong_node at (got k next)

-- a field that is not used; 10: it is not 0
abbrev pub unused : ℕ → ℕ → ℕ → Reading ℕ
unused x at next = refused_if (not (eqb x 0)) used_field at (got x next)

-- ---- facts. A name is one field; 3: a byte outside 32 to 126, at the first such byte.
abbrev pub printable : ℕ → Bool
printable b = leb first_printable b && leb b last_printable

unfoldable pub name_bytes : ℕ → List ℕ → ℕ → Reading ℕ
name_bytes zero s at = got name_length at
name_bytes (suc n) s at = let rest = name_bytes n s (at + 1) in refused_if (not (printable (get_or s at 0))) unprintable at rest

unfoldable pub name_at : List ℕ → ℕ → Reading ℕ
name_at s at = refused_if (ltb (length s) (at + name_length)) cut_off_lem (length s) (name_bytes name_length s at)

-- n names, of a section with k in all
unfoldable pub names_from : ℕ → ℕ → List ℕ → ℕ → Reading ℕ
names_from zero k s at = got k at
names_from (suc n) k s at = and_then (name_at s at) (λ name next. names_from n k s next)

-- the number of facts; 2: more than 12
unfoldable pub facts_at : List ℕ → ℕ → Reading ℕ
facts_at s at = and_then (count_at 0 max_facts many_facts s at) (λ n next. names_from n n s next)

-- ---- rules: premise, conclusion
unfoldable pub rule_at : ℕ → List ℕ → ℕ → Reading Rule
rule_at facts s at =
    and_then (set_at facts s at) (λ p next. and_then (set_at facts s next) (λ c end. got (record { premise = p; conclusion = c }) end))

-- the rules; 4: more than 32
unfoldable pub rules_at : ℕ → List ℕ → ℕ → Reading (List Rule)
rules_at facts s at = and_then (count_at 0 max_rules many_rules s at) (λ n next. records_from (λ read p. rule_at facts s p) n [] next)

-- ---- nodes. 8: a kind above 4.
unfoldable pub kind_at : List ℕ → ℕ → Reading ℕ
kind_at s at = and_then (byte_at s at) (λ k next. refused_if (ltb max_kind k) wrong_kind at (got k next))

-- The first field of the node with this number: unused in a stop, a set in a tell and an ask, a lower node in a both and an
-- either.
unfoldable pub first_at : ℕ → ℕ → ℕ → List ℕ → ℕ → Reading ℕ
first_at kind facts number s at =
    cond (eqb kind 1 || eqb kind 2) (set_at facts s at)
    (and_then (word_at s at) (λ x next. cond (eqb kind 0) (unused x at next) (below number x at next)))

-- The second field: unused in a stop and a tell, any node in an ask, a lower node in a both and an either.
unfoldable pub second_at : ℕ → ℕ → ℕ → List ℕ → ℕ → Reading ℕ
second_at kind nodes number s at =
    and_then (word_at s at) (λ x next.
    cond (eqb kind 0 || eqb kind 1) (unused x at next) (cond (eqb kind 2) (below nodes x at next) (below number x at next)))

-- the node that a kind byte and two fields stand for: 0 stop, 1 tell, 2 ask, 3 both, 4 either; sets are closed on reading
abbrev pub node_from : List Rule → ℕ → ℕ → ℕ → Node
node_from rules kind first second =
    cond (eqb kind 0) stop
    (cond (eqb kind 1) (tell (closure rules first))
    (cond (eqb kind 2) (ask (closure rules first) second)
    (cond (eqb kind 3) (both first second) (either first second))))

-- One node, its number being that of the nodes before it. 15, after its last field, at its kind byte: it opens to more than
-- eight threads.
unfoldable pub node_at : ℕ → List Rule → ℕ → List ℕ → List Node → ℕ → Reading Node
node_at facts rules nodes s read at =
    and_then (kind_at s at) (λ kind p.
    and_then (first_at kind facts (length read) s p) (λ first q.
    and_then (second_at kind nodes (length read) s q) (λ second next.
    let n = node_from rules kind first second in
    refused_if (ltb max_threads (length (opened (read ++ (n ∷ [])) (length read)))) wide_node at (got n next))))

-- the nodes; 7: none, or more than 64
unfoldable pub nodes_at : ℕ → List Rule → List ℕ → ℕ → Reading (List Node)
nodes_at facts rules s at =
    and_then (count_at min_nodes max_nodes wrong_nodes s at) (λ n next. records_from (node_at facts rules n s) n [] next)

-- ---- starts. A thread's byte names any node of the sheet; 9 otherwise.
unfoldable pub thread_at : ℕ → List ℕ → ℕ → Reading ℕ
thread_at nodes s at = and_then (byte_at s at) (λ k next. below nodes k at next)

unfoldable pub threads_from : ℕ → ℕ → List ℕ → ℕ → Reading (List ℕ)
threads_from n nodes s at = records_from (λ read p. thread_at nodes s p) n [] at

-- A start: the closed store, and the threads that its nodes open to. 12, at the count: the count is above eight, or the
-- number of threads is once opened, which is checked after the last thread.
unfoldable pub start_at : ℕ → List Rule → List Node → List ℕ → ℕ → Reading Configuration
start_at facts rules nodes s at =
    and_then (set_at facts s at) (λ c p.
    and_then (count_at 0 max_threads many_threads s p) (λ n q.
    and_then (threads_from n (length nodes) s q) (λ ks next.
    let ts = opened_all nodes ks in
    refused_if (ltb max_threads (length ts)) many_threads p (got (record { store = closure rules c; threads = ts }) next))))

-- the starts; 11: below 2 or above 16
unfoldable pub starts_at : ℕ → List Rule → List Node → List ℕ → ℕ → Reading (List Configuration)
starts_at facts rules nodes s at =
    and_then (count_at min_starts max_starts wrong_starts s at) (λ n next. records_from (λ read p. start_at facts rules nodes s p) n [] next)

-- ---- the whole sheet. After its rules: nodes, starts, and the end; 13: bytes after the last start, at the first of them
abbrev pub from_nodes : ℕ → List ℕ → List Rule → ℕ → Reading Sheet
from_nodes facts s rules q =
    and_then (nodes_at facts rules s q) (λ nodes t.
    and_then (starts_at facts rules nodes s t) (λ starts end.
    refused_if (ltb end (length s)) bytes_left_lem end (got (record { facts = facts; rules = rules; nodes = nodes; starts = starts }) end)))

unfoldable pub read_sheet : List ℕ → Reading Sheet
read_sheet s = and_then (facts_at s 0) (λ facts p. and_then (rules_at facts s p) (from_nodes facts s))

-- The choice of a left and a right start, after the sheet. 14: not on the sheet, place 0 for the left and 1 for the right,
-- the left first.
abbrev pub chosen : ℕ → ℕ → Sheet → ℕ → Reading Sheet
chosen left right sheet end =
    refused_if (leb (length sheet.starts) left) absent_start 0
    (refused_if (leb (length sheet.starts) right) absent_start 1 (got sheet end))

unfoldable pub read_choice : List ℕ → ℕ → ℕ → Reading Sheet
read_choice s left right = and_then (read_sheet s) (chosen left right)
