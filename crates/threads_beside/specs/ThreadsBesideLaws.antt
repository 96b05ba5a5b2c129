-- The threads of a node put among those beside another, or not, where they are more than the limit.
use Rattle.std.specs.Prelude.{◌≡◌, List, ℕ, ◌+◌, ◌≤◌, ◌<◌, length, take, drop}
use Rattle.std.proofs.Common.{arith, length-take, length-drop}
use Rattle.packing.specs.SortingLaws.{insert_all}
use Rattle.threads_beside.specs.declared.NodeBeside.{NodeBeside}
use Rattle.threads_beside.specs.ThreadsBeside.{BesideJoined}

-- a node's threads, k of them in the table, put among those beside e
module _ (table : List ℕ) (from k : ℕ) (e : NodeBeside) (limit n : ℕ) (fits : from + k ≤ length table) (same : n ≡ k) where
  part_length : length (take k (drop from table)) ≡ n
  part_length = simp (length-take, length-drop) (omega arith)

  -- they are more than the limit
  pub beside_too_many : limit < e.count + n → limit < e.count + length (take k (drop from table))
  beside_too_many h = let l = part_length in omega arith

  -- they are not
  pub beside_joined : (all : List ℕ) → e.count + n ≤ limit
      → take (e.count + n) all ≡ insert_all (take e.count e.threads) (take n (drop from table))
      → BesideJoined (take k (drop from table)) e limit (record { node = e.node; count = e.count + n; threads = all })
  beside_joined all h q =
      let l = part_length in
      record { fits = omega arith; joined = rw (q, same); count = omega arith }
