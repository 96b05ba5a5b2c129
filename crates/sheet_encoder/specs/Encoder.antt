-- Document 01, "The sheet": a sheet written as bytes. A sheet that was read keeps no names of facts, so they are given.
use Rattle.std.specs.Prelude.{◌≡◌, ℕ, ◌<◌, length, get_or}
use mathlib.Core.List.{List, ◌∷◌, ◌++◌, Memᴰ}
use Rattle.sheet_laws.specs.Lists.{concat_map}
use Rattle.sheet_laws.specs.Stores.{Rule}
use Rattle.sheet_laws.specs.SheetLimits.{name_length}
use Rattle.sheet_laws.specs.Sheet.{Node, stop, tell, ask, both, either, Configuration, Sheet}
use Rattle.sheet_laws.specs.SheetBytes.{word_bytes, Printable}

-- a name for each fact: 8 bytes from 32 to 126
pub record NamesFit (facts : ℕ) (names : List (List ℕ)) : Type 0 where
  pub many : length names ≡ facts
  pub long : (name : List ℕ) → Memᴰ name names → length name ≡ name_length
  pub printable : (name : List ℕ) → Memᴰ name names → (i : ℕ) → i < name_length → Printable (get_or name i 0)

-- premise, conclusion
abbrev pub rule_bytes : Rule → List ℕ
rule_bytes r = word_bytes r.premise ++ word_bytes r.conclusion

-- kind byte, first field, second field; an unused field is 0
abbrev pub node_bytes : Node → List ℕ
node_bytes stop = 0 ∷ (word_bytes 0 ++ word_bytes 0)
node_bytes (tell c) = 1 ∷ (word_bytes c ++ word_bytes 0)
node_bytes (ask c q) = 2 ∷ (word_bytes c ++ word_bytes q)
node_bytes (both p q) = 3 ∷ (word_bytes p ++ word_bytes q)
node_bytes (either p q) = 4 ∷ (word_bytes p ++ word_bytes q)

-- store, thread count, threads
abbrev pub start_bytes : Configuration → List ℕ
start_bytes p = word_bytes p.store ++ (length p.threads ∷ p.threads)

-- a count and its records
abbrev pub section_bytes : {A : Type 0} → (A → List ℕ) → List A → List ℕ
section_bytes bytes records = length records ∷ concat_map bytes records

-- the four sections
unfoldable pub encode : List (List ℕ) → Sheet → List ℕ
encode names sheet =
    section_bytes (λ name. name) names
    ++ (section_bytes rule_bytes sheet.rules
    ++ (section_bytes node_bytes sheet.nodes ++ section_bytes start_bytes sheet.starts))
