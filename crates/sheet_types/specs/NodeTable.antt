-- The table of nodes: what its columns hold.
use Rattle.std.specs.Prelude.{List, ℕ, ◌+◌, ◌*◌, get_or, take, drop}
use Rattle.packing.specs.Tabulate.{tabulate}
use Rattle.sheet_reading.specs.SheetLimits.{max_nodes}

-- where the columns begin, and the table's length; src/lib.rt has the same numbers for the code
abbrev pub kinds_at : ℕ
kinds_at = 0

abbrev pub first_lows_at : ℕ
first_lows_at = 64

abbrev pub first_highs_at : ℕ
first_highs_at = 128

abbrev pub seconds_at : ℕ
seconds_at = 192

abbrev pub counts_at : ℕ
counts_at = 256

abbrev pub movables_at : ℕ
movables_at = 320

abbrev pub threads_at : ℕ
threads_at = 384

abbrev pub table_end : ℕ
table_end = 896

-- nodes by number: kind, first field (a set is closed) and second field
pub record Nodes : Type 0 where
  pub kinds : List ℕ
  pub firsts : List ℕ
  pub seconds : List ℕ

-- the threads that node k opens to: so many as the count says, from 8 k on
pub record Opened : Type 0 where
  pub counts : List ℕ
  pub threads : List ℕ

-- a byte for each node
abbrev pub column : ℕ → List ℕ → List ℕ
column c t = take max_nodes (drop c t)

-- numbers of two bytes, the low byte of each in one column and the high one in the other
abbrev pub paired : List ℕ → List ℕ → List ℕ
paired lows highs = tabulate (λ k. get_or lows k 0 + 256 * get_or highs k 0) max_nodes

abbrev pub nodes_from : List ℕ → List ℕ → List ℕ → List ℕ → Nodes
nodes_from kinds lows highs seconds = record { kinds = kinds; firsts = paired lows highs; seconds = seconds }

abbrev pub nodes_of : List ℕ → Nodes
nodes_of t = nodes_from (column kinds_at t) (column first_lows_at t) (column first_highs_at t) (column seconds_at t)

abbrev pub opened_of : List ℕ → Opened
opened_of t = record { counts = column counts_at t; threads = drop threads_at t }

-- 1 for each node that can move, else 0
abbrev pub movables_of : List ℕ → List ℕ
movables_of t = column movables_at t
