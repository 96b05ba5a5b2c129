-- A table of closures: the number at place s is the closure of the set s.
use Rattle.std.specs.Prelude.{◌≡◌, List, ℕ, ◌%◌, ◌^◌, ◌≤◌, ◌<◌, get_or}
use Rattle.std.proofs.Common.{◌∙◌, arith}
use Rattle.set_closure.specs.FactSets.{Within}
use Rattle.set_closure.specs.Stores.{Rule, Closed, conclusions, closure}
use Rattle.set_closure.specs.StoreLaws.{closure_lt}

-- the table has the closure of every set from k on, below the size
pub record Closures (rs : List Rule) (k size : ℕ) (table : List ℕ) : Type 0 where
  pub at : (s : ℕ) → k ≤ s → s < size → get_or table s 0 ≡ closure rs s

-- s grew to t on the way to its closure, and by nothing only where it is closed
pub record GrownBy (rs : List Rule) (s t : ℕ) : Type 0 where
  pub above : Within s t
  pub inside : (c : ℕ) → Closed rs c → Within s c → Within t c
  pub same : t ≡ s → Closed rs s

-- the entry of a set of the table's facts, cut to 16 digits, is the closure of the set
pub closure_at : (rs : List Rule) (n : ℕ) (table : List ℕ) (s : ℕ) → Closures rs 0 (2 ^ n) table → s < 2 ^ n → conclusions rs < 2 ^ n
    → 2 ^ n ≤ 65536 → get_or table s 0 % 65536 ≡ closure rs s
closure_at rs n table s h l c b = let e : get_or table s 0 ≡ closure rs s = h.at s (omega arith) l in omega (arith, closure_lt rs n s l c)

-- what is read at a set's place; in a table of closures it is the set's closure
pub record ReadClosure (table : List ℕ) (s r : ℕ) : Type 0 where
  pub entry : r ≡ get_or table s 0 % 65536
  pub closed : (rs : List Rule) (n : ℕ) → Closures rs 0 (2 ^ n) table → s < 2 ^ n → conclusions rs < 2 ^ n → 2 ^ n ≤ 65536 → r ≡ closure rs s

pub entry_read : (table : List ℕ) (s r : ℕ) → r ≡ get_or table s 0 % 65536 → ReadClosure table s r
entry_read table s r e = record { entry = e; closed = λ rs n h l c b. e ∙ closure_at rs n table s h l c b }

-- tables that agree below the size have the same closures
pub closures_agree : {rs : List Rule} {k size : ℕ} {table other : List ℕ} → Closures rs k size table
    → ((s : ℕ) → s < size → get_or other s 0 ≡ get_or table s 0) → Closures rs k size other
closures_agree h e = record { at = λ s k l. e s l ∙ h.at s k l }
