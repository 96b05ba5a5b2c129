-- Three numbers stored as an entry.
use Rattle.std.specs.Prelude.{◌≡◌, List, ℕ, ◌+◌, ◌*◌, ◌≤◌, ◌<◌, length, get_or, set}
use Rattle.std.proofs.Common.{◌∙◌, arith}
use Rattle.std.proofs.Math.ListN.{length-set}
use Rattle.std.proofs.Math.Seq.{get_or-set_same, get_or-set_other}
use Rattle.packing.specs.Frames.{SameOutside, outside_set, outside_again}
use Rattle.threads_beside.specs.NodeMoves.{NodeBeside}
use Rattle.packing.specs.Packing.{unpacked, Packed}
use Rattle.threads_beside.specs.ThreadsBeside.{placed}
use Rattle.nodes_to_visit.specs.NodesToVisit.{Pushed}
use Rattle.nodes_to_visit.specs.NodesToVisitLaws.{packed_same, placed_same}
use Rattle.work_layout.specs.WorkLayout.{pending_at, pending_end}

-- three numbers stored from place p on
module _ (v : List ℕ) (p a b c : ℕ) (room : p + 3 ≤ length v) where
  stored : List ℕ
  stored = set (set (set v p a) (p + 1) b) (p + 2) c

  stored_0 : get_or stored p 0 ≡ a
  unfolding stored
  stored_0 =
      get_or-set_other (set (set v p a) (p + 1) b) (p + 2) p c 0 (omega arith)
      ∙ get_or-set_other (set v p a) (p + 1) p b 0 (omega arith) ∙ get_or-set_same v p a 0 (omega arith)

  stored_1 : get_or stored (p + 1) 0 ≡ b
  unfolding stored
  stored_1 =
      get_or-set_other (set (set v p a) (p + 1) b) (p + 2) (p + 1) c 0 (omega arith)
      ∙ get_or-set_same (set v p a) (p + 1) b 0 (simp length-set (omega arith))

  stored_2 : get_or stored (p + 2) 0 ≡ c
  unfolding stored
  stored_2 = get_or-set_same (set (set v p a) (p + 1) b) (p + 2) c 0 (simp length-set (omega arith))

  stored_outside : SameOutside p (p + 3) v stored
  unfolding stored
  stored_outside =
      outside_again (outside_set p (p + 3) v p a (omega arith) (omega arith))
      (outside_again (outside_set p (p + 3) (set v p a) (p + 1) b (omega arith) (omega arith))
      (outside_set p (p + 3) (set (set v p a) (p + 1) b) (p + 2) c (omega arith) (omega arith)))

-- the numbers of a node with threads beside it stored as entry n
pub entry_stored : (v : List ℕ) (n a b c : ℕ) (e : NodeBeside) → n < 64 → pending_end ≤ length v → Packed a b c → placed (unpacked a b c) ≡ e
    → Pushed v n e (set (set (set v (pending_at + 3 * n) a) (pending_at + 3 * n + 1) b) (pending_at + 3 * n + 2) c)
unfolding stored
entry_stored v n a b c e l room p q =
    let at : ℕ = pending_at + 3 * n in
    let fits : at + 3 ≤ length v = omega arith in
    let w : List ℕ = set (set (set v at a) (at + 1) b) (at + 2) c in
    record {
      packed =
          packed_same a b c (get_or w at 0) (get_or w (at + 1) 0) (get_or w (at + 2) 0)
          (stored_0 v at a b c fits) (stored_1 v at a b c fits) (stored_2 v at a b c fits) p;
      stored =
          placed_same a b c (get_or w at 0) (get_or w (at + 1) 0) (get_or w (at + 2) 0)
          (stored_0 v at a b c fits) (stored_1 v at a b c fits) (stored_2 v at a b c fits)
          ∙ q;
      outside = stored_outside v at a b c fits;
    }
