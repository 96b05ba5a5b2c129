-- Adding a constraint to a configuration that is held, by a table of closures.
use Rattle.std.specs.Prelude.{◌≡◌, List, ℕ, ◌%◌, ◌^◌, ◌≤◌, ◌<◌, get_or}
use Rattle.std.proofs.Common.{ap, ◌∙◌}
use Rattle.std.specs.Int.Bits.{bit_or}
use Rattle.std.proofs.lemmas.Nat.{or_lt}
use Rattle.closure_table.specs.Stores.{conclusions}
use Rattle.sheet_reading.specs.Sheet as spec
use Rattle.packing.specs.Moves.{add}
use Rattle.closure_table.specs.ClosureTable.{Closures, closure_at}
use Rattle.sheet_types.specs.declared.Configuration.{Configuration}
use Rattle.sheet_types.specs.HeldSheet.{configuration}

-- the configuration with the table's entry for both sets together as its store
abbrev pub joined : List ℕ → ℕ → Configuration → Configuration
joined table b c = record { store = get_or table (bit_or b c.store) 0 % 65536; count = c.count; threads = c.threads }

-- by a table of the sheet's closures that is document 01's adding of a constraint
pub joined_adds : (sheet : spec.Sheet) (n : ℕ) (table : List ℕ) (b : ℕ) (c : Configuration) → Closures sheet.rules 0 (2 ^ n) table
    → conclusions sheet.rules < 2 ^ n → 2 ^ n ≤ 65536 → b < 2 ^ n → c.store < 2 ^ n → configuration (joined table b c) ≡ add sheet b (configuration c)
joined_adds sheet n table b c t f small hb hc =
    ap (λ (s : ℕ). record { store = s; threads = (configuration c).threads })
    (closure_at sheet.rules n table (bit_or b c.store) t (or_lt n b c.store hb hc) f small)

-- What adding a constraint to c gives by a table; by one of the sheet's closures it has the joined store, closed.
pub record AddedTo (table : List ℕ) (b : ℕ) (c r : Configuration) : Type 0 where
  pub held : r ≡ joined table b c
  pub adds : (sheet : spec.Sheet) (n : ℕ) → Closures sheet.rules 0 (2 ^ n) table → conclusions sheet.rules < 2 ^ n → 2 ^ n ≤ 65536 → b < 2 ^ n
      → c.store < 2 ^ n → configuration r ≡ add sheet b (configuration c)

pub joined_added : (table : List ℕ) (b : ℕ) (c r : Configuration) → r ≡ joined table b c → AddedTo table b c r
joined_added table b c r e = record {
  held = e;
  adds = λ sheet n t f small hb hc. ap configuration e ∙ joined_adds sheet n table b c t f small hb hc;
}
