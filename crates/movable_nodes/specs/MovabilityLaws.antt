-- Laws of the marks of nodes: one mark more.
use Rattle.std.specs.Prelude.{◌≡◌, Bool, true, false, cond, List, [], ◌∷◌, ◌++◌, ℕ, zero, suc, ◌+◌, ◌<◌, length, get_or, set, eqb, ltb}
use Rattle.std.proofs.Common.{sym, ap, ◌∙◌, arith, length-append, get_or-set_same, get_or-set_other, ltb-true, ltb-false}
use Rattle.std.proofs.Math.ListN.{get_or-append}
use Rattle.std.proofs.Math.Seq.{get_or-append_seam}
use Rattle.sheet_types.specs.TestLaws.{Tested, passes, fails, tested}
use Rattle.sheet_types.specs.Sheet.{Node, stop, node_of}
use Rattle.node_opening.specs.Ranks.{Part, Ranked, rank_of, parts_map}
use Rattle.node_opening.specs.Ranks.{LowerNames}
use Rattle.node_opening.specs.OpeningLaws.{ranked_next}
use Rattle.node_moves.specs.NodeMoves.{movable_of, movable}
use Rattle.node_moves.specs.NodeMoveLaws.{movable_same, movable_is}
use Rattle.movable_nodes.specs.Movability.{mark, marked, mark_for, MovableHeld}

-- ---- the marks of nodes as they are read
-- nodes after k do not matter
pub movable_prefix : (ns ms : List Node) → Ranked rank_of ns → Ranked rank_of (ns ++ ms) → (k : ℕ) → k < length ns → movable (ns ++ ms) k ≡ movable ns k
unfolding rank_of
movable_prefix ns ms low high k l = go (suc k) k (omega arith) l
  where
    go : (f j : ℕ) → j < f → j < length ns → movable (ns ++ ms) j ≡ movable ns j
    go zero j a l = absurd (omega arith)
    go (suc f) j a l =
        let e : node_of (ns ++ ms) j ≡ node_of ns j = get_or-append ns ms stop j l in
        movable_is (ns ++ ms) high j (omega (arith, length-append ns ms))
        ∙ ap (movable_of (movable (ns ++ ms))) e
        ∙ movable_same (movable (ns ++ ms)) (movable ns) (node_of ns j)
        (parts_map (Part rank_of (length ns) j) (λ i. movable (ns ++ ms) i ≡ movable ns i)
        (λ i h. go f i (omega (arith, h.lower)) h.inside) (node_of ns j) (low.parts j))
        ∙ sym (movable_is ns low j l)

pub marks_none : (marks : List ℕ) → MovableHeld [] 0 marks
marks_none marks = record { at = λ k l. absurd (omega arith) }

-- one node more, which names nodes before it: its mark is by theirs
module _ (ns : List Node) (n : Node) (marks : List ℕ) (low : Ranked rank_of ns) (lower : LowerNames (length ns) n) (held : MovableHeld ns (length ns) marks) where
  next_ranked : Ranked rank_of (ns ++ (n ∷ []))
  next_ranked = ranked_next ns n low lower

  next_mark : mark_for marks n ≡ cond (movable (ns ++ (n ∷ [])) (length ns)) 1 0
  next_mark =
      let e : node_of (ns ++ (n ∷ [])) (length ns) ≡ n = get_or-append_seam ns n [] stop in
      ap mark
      (movable_same (marked marks) (movable (ns ++ (n ∷ []))) n
      (parts_map (λ j. j < length ns) (λ j. marked marks j ≡ movable (ns ++ (n ∷ [])) j)
      (λ j l. read (movable ns j) (held.at j l) ∙ sym (movable_prefix ns (n ∷ []) low next_ranked j l)) n lower)
      ∙ sym (movable_is (ns ++ (n ∷ [])) next_ranked (length ns) (omega (arith, length-append ns (n ∷ []))) ∙ ap (movable_of (movable (ns ++ (n ∷ [])))) e))
    where
      read : {x : ℕ} (b : Bool) → x ≡ cond b 1 0 → eqb x 1 ≡ b
      read true e = rw e
      read false e = rw e

  pub marks_next : length ns < length marks → MovableHeld (ns ++ (n ∷ [])) (length ns + 1) (set marks (length ns) (mark_for marks n))
  marks_next room = record { at = λ k l. go k l (tested (ltb k (length ns))) }
    where
      go : (k : ℕ) → k < length ns + 1 → Tested (ltb k (length ns))
          → get_or (set marks (length ns) (mark_for marks n)) k 0 ≡ cond (movable (ns ++ (n ∷ [])) k) 1 0
      go k l (passes t) =
          let h = ltb-true k (length ns) t in
          get_or-set_other marks (length ns) k (mark_for marks n) 0 (omega arith)
          ∙ held.at k h
          ∙ ap mark (sym (movable_prefix ns (n ∷ []) low next_ranked k h))
      go k l (fails t) =
          let e : k ≡ length ns = omega (arith, ltb-false k (length ns) t) in
          rw e (get_or-set_same marks (length ns) (mark_for marks n) 0 room ∙ next_mark)
