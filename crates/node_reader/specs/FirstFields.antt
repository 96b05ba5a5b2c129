-- The first field as it is held: the set of a tell and an ask is closed when it is read.
use Rattle.std.specs.Prelude.{◌≡◌, cond, ◌||◌, List, ℕ, ◌≤◌, eqb}
use Rattle.std.proofs.Common.{arith, ne_eqb}
use Rattle.set_closure.specs.Stores.{Rule, closure}
use Rattle.sheet_types.specs.Reading.{node_from}
use Rattle.sheet_fields.specs.FieldLaws.{KindIs, is_stop, is_tell, is_ask, is_pair_lem, kind_is, pair_tests}
use Rattle.sheet_types.specs.HeldSheet.{node_held}

abbrev pub closed_first : List Rule → ℕ → ℕ → ℕ
closed_first rules kind first = cond (eqb kind 1 || eqb kind 2) (closure rules first) first

pub held_closed : (rules : List Rule) (kind first second : ℕ) → node_held kind (closed_first rules kind first) second ≡ node_from rules kind first second
held_closed rules kind first second = go (kind_is kind)
  where
    go : KindIs kind → node_held kind (closed_first rules kind first) second ≡ node_from rules kind first second
    go (is_stop e) = rw e
    go (is_tell e) = rw e
    go (is_ask e) = rw e
    go (is_pair_lem h) = let t = pair_tests h in simp (t.0, t.1, t.2)

pub closed_set : (rules : List Rule) (kind first : ℕ) → 1 ≤ kind → kind ≤ 2 → closed_first rules kind first ≡ closure rules first
closed_set rules kind first a b = go (kind_is kind)
  where
    go : KindIs kind → closed_first rules kind first ≡ closure rules first
    go (is_stop e) = absurd (omega arith)
    go (is_tell e) = rw e
    go (is_ask e) = rw e
    go (is_pair_lem h) = absurd (omega arith)

pub closed_other : (rules : List Rule) (kind first : ℕ) → (kind ≡ 1 → ⊥) → (kind ≡ 2 → ⊥) → closed_first rules kind first ≡ first
closed_other rules kind first a b = simp (ne_eqb _ _ a, ne_eqb _ _ b)
