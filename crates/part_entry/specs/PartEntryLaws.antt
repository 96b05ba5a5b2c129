-- Laws of one part entered: too many threads beside it, or not.
use Rattle.std.specs.Prelude.{◌≡◌, refl, List, ◌++◌, ℕ, ◌+◌, ◌<◌, length}
use Rattle.std.proofs.Common.{ap, subst, arith}
use Rattle.nodes_to_visit.specs.Lists.{NotFalling, sort_up}
use Rattle.sheet_types.specs.SortingLaws.{insert_all}
use Rattle.threads_beside.specs.NodeMoves.{NodeBeside}
use Rattle.threads_beside.specs.ThreadLaws.{insert_all_sorts, sort_append_length}
use Rattle.threads_beside.specs.declared.NodeBeside as held
use Rattle.threads_beside.specs.ThreadsBeside.{node_beside, BesideJoined}
use Rattle.nodes_to_visit.specs.NodesToVisit.{Entered}
use Rattle.walk_state.specs.declared.Walk.{Walk}
use Rattle.walk_state.specs.PushedInWalk.{topped}
use Rattle.part_entry.specs.PartEntry.{beside_of, PartStored, PartTooLong}

-- ---- the threads of another node put beside
joined_length : (ts more : List ℕ) → NotFalling ts → length (insert_all ts more) ≡ length ts + length more
joined_length ts more n =
    let a : length (insert_all ts more) ≡ length (sort_up (more ++ ts)) = ap length (insert_all_sorts ts more n) in
    omega (arith, sort_append_length more ts)

module _ (threads : List ℕ) (e : held.NodeBeside) (limit : ℕ) (n : length (node_beside e).threads ≡ e.count) (up : NotFalling (node_beside e).threads)
    (mark p : ℕ) (moving : mark ≡ 0 → ⊥) (v : List ℕ) where
  pub part_too_long : limit < e.count + length threads → PartTooLong mark (beside_of p threads (node_beside e)) limit v v
  part_too_long t = record {
    moves = moving;
    many = omega (arith, joined_length (node_beside e).threads threads up);
    same = refl;
  }

  pub part_stored : {rank : ℕ → ℕ} {at : held.NodeBeside} → BesideJoined threads e limit at → (s : Walk) (w : List ℕ) (high m next : ℕ) → m ≡ high
      → Entered rank v s.top m (record { node = p; threads = (node_beside at).threads }) w next
      → PartStored rank mark (beside_of p threads (node_beside e)) limit high v s w (topped s next)
  part_stored {rank} a s w high m next q o = record {
    moves = moving;
    few = omega (arith, a.fits, joined_length (node_beside e).threads threads up);
    entered =
        subst (λ (h : ℕ). Entered rank v s.top h (beside_of p threads (node_beside e)) w next) q
        (subst (λ (l : List ℕ). Entered rank v s.top m (record { node = p; threads = l }) w next)
        (ap (λ (x : NodeBeside). x.threads) a.joined) o);
    walk = refl;
  }
