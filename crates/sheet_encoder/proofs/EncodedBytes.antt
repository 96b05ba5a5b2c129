-- What is written are bytes: the names are printable, every count and node number is small, and a set is split into two bytes.
use Rattle.std.specs.Prelude.{◌≡◌, ℕ, suc, ◌<◌, length, get_or}
use Rattle.std.proofs.Common.{⊎_elim, arith}
use mathlib.Core.List.Memᴰ
use mathlib.Core.List.{List, [], ◌∷◌, ◌++◌, Memᴰ}
use Rattle.sheet_laws.specs.Members.{mem_concat_map}
use Rattle.sheet_laws.specs.Sheet.{Node, stop, tell, ask, both, either, Sheet}
use Rattle.sheet_laws.specs.SheetBytes.{word_bytes}
use Rattle.sheet_laws.specs.WellFormed.{Admissible}
use Rattle.sheet_laws.proofs.OpeningLaws.{opened_inside}
use Rattle.sheet_encoder.specs.Encoder.{NamesFit, rule_bytes, node_bytes, start_bytes, section_bytes, encode}

abbrev Bytes : List ℕ → Type 0
Bytes xs = (b : ℕ) → Memᴰ b xs → b < 256

none_bytes : Bytes []
none_bytes b m = absurd (Memᴰ.not-nil m)

more_bytes : {x : ℕ} {xs : List ℕ} → x < 256 → Bytes xs → Bytes (x ∷ xs)
more_bytes {x} {xs} h k b m = ⊎_elim (λ (e : b ≡ x). omega arith) (λ (i : Memᴰ b xs). k b i) (Memᴰ.cases_cons m)

both_bytes : (xs ys : List ℕ) → Bytes xs → Bytes ys → Bytes (xs ++ ys)
both_bytes xs ys h k b m = ⊎_elim (λ (i : Memᴰ b xs). h b i) (λ (i : Memᴰ b ys). k b i) (Memᴰ.append_cases xs m)

-- a list by its places
places_bytes : (xs : List ℕ) → ((i : ℕ) → i < length xs → get_or xs i 0 < 256) → Bytes xs
places_bytes [] h = none_bytes
places_bytes (x ∷ xs) h = more_bytes (h 0 (omega arith)) (places_bytes xs (λ i l. h (suc i) (omega arith)))

word_bytes_lem : (n : ℕ) → Bytes (word_bytes n)
word_bytes_lem n = more_bytes (omega arith) (more_bytes (omega arith) none_bytes)

section_bytes_lem : {A : Type 0} (bytes : A → List ℕ) (all : List A) → length all < 256 → ((a : A) → Memᴰ a all → Bytes (bytes a))
    → Bytes (section_bytes bytes all)
section_bytes_lem bytes all l each = more_bytes l (λ b m. let i = mem_concat_map bytes all m in each i.0 i.1 b i.2)

node_bytes_lem : (node : Node) → Bytes (node_bytes node)
node_bytes_lem stop = more_bytes (omega arith) (both_bytes (word_bytes 0) (word_bytes 0) (word_bytes_lem 0) (word_bytes_lem 0))
node_bytes_lem (tell c) = more_bytes (omega arith) (both_bytes (word_bytes c) (word_bytes 0) (word_bytes_lem c) (word_bytes_lem 0))
node_bytes_lem (ask c q) = more_bytes (omega arith) (both_bytes (word_bytes c) (word_bytes q) (word_bytes_lem c) (word_bytes_lem q))
node_bytes_lem (both p q) = more_bytes (omega arith) (both_bytes (word_bytes p) (word_bytes q) (word_bytes_lem p) (word_bytes_lem q))
node_bytes_lem (either p q) = more_bytes (omega arith) (both_bytes (word_bytes p) (word_bytes q) (word_bytes_lem p) (word_bytes_lem q))

pub encoded_bytes : (names : List (List ℕ)) (sheet : Sheet) → NamesFit sheet.facts names → Admissible sheet
    → (b : ℕ) → Memᴰ b (encode names sheet) → b < 256
unfolding encode
encoded_bytes names sheet fit fine =
    both_bytes (section_bytes (λ name. name) names) _ in_facts
    (both_bytes (section_bytes rule_bytes sheet.rules) _ in_rules
    (both_bytes (section_bytes node_bytes sheet.nodes) (section_bytes start_bytes sheet.starts) in_nodes in_starts))
  where
    in_facts : Bytes (section_bytes (λ name. name) names)
    in_facts =
        section_bytes_lem (λ name. name) names (omega (arith, fit.many, fine.within.few_facts))
        (λ name m. places_bytes name (λ i l. omega (arith, (fit.printable name m i (omega (arith, fit.long name m))).high)))

    in_rules : Bytes (section_bytes rule_bytes sheet.rules)
    in_rules =
        section_bytes_lem rule_bytes sheet.rules (omega (arith, fine.within.few_rules_lem))
        (λ r m. both_bytes (word_bytes r.premise) (word_bytes r.conclusion) (word_bytes_lem r.premise) (word_bytes_lem r.conclusion))

    in_nodes : Bytes (section_bytes node_bytes sheet.nodes)
    in_nodes = section_bytes_lem node_bytes sheet.nodes (omega (arith, fine.within.few_nodes)) (λ node m. node_bytes_lem node)

    in_starts : Bytes (section_bytes start_bytes sheet.starts)
    in_starts =
        section_bytes_lem start_bytes sheet.starts (omega (arith, fine.within.few_starts))
        (λ p m.
        both_bytes (word_bytes p.store) (length p.threads ∷ p.threads) (word_bytes_lem p.store)
        (more_bytes (omega (arith, fine.within.starts_threads p m))
        (λ k i. omega (arith, fine.within.few_nodes, opened_inside sheet.nodes k ((fine.starts_fit p m).process.self_opening k i)))))
