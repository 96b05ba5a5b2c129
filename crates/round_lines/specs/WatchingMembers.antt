-- The members that look at a member, as sets of places: member p has the set that begins at word p * width. Where the class of p
-- changes, the lines of those in its set may change.
use Rattle.std.specs.Prelude.{◌≡◌, refl, List, ℕ, suc, ◌+◌, ◌*◌, ◌/◌, ◌%◌, ◌≤◌, ◌<◌, length, eqb}
use Rattle.std.proofs.Common.{sym, ap, ◌∙◌, subst, suc-mul, mul-le-mul_right, arith, length-set, eqb-true}
use Rattle.std.proofs.lemmas.Bool.{eqb-false}
use Rattle.work_layout.specs.TestLaws.{Tested, tested, passes, fails}
use Rattle.place_sets.specs.PlaceSets.{InSet, with_place}
use Rattle.place_sets.specs.PlaceLaws.{place_in, place_more}
use Rattle.work_layout.specs.SetLayout.{first_move, move_total}
use Rattle.dominators.specs.SliceShapes.{kept_at, target_at}

-- no place was taken out of a set
pub record SetsGrown (ws vs : List ℕ) : Type 0 where
  pub long : length vs ≡ length ws
  pub more : (at i : ℕ) → InSet ws at i → InSet vs at i

pub grown_none : (ws : List ℕ) → SetsGrown ws ws
grown_none ws = record { long = refl; more = λ at i x. x }

pub grown_then : {us vs ws : List ℕ} → SetsGrown us vs → SetsGrown vs ws → SetsGrown us ws
grown_then p q = record { long = q.long ∙ p.long; more = λ at i x. q.more at i (p.more at i x) }

pub grown_place : (ws : List ℕ) (at i : ℕ) → SetsGrown ws (with_place ws at i)
grown_place ws at i = record { long = length-set ws _ _; more = λ from j x. place_more ws at i from j x }

pub place_long : (ws us : List ℕ) (at i : ℕ) → us ≡ with_place ws at i → length us ≡ length ws
place_long ws us at i e = ap length e ∙ (grown_place ws at i).long

-- member i is in the sets of the target of the move at place j and of the member that is kept for it
abbrev pub MoveWatched : List ℕ → List ℕ → ℕ → ℕ → ℕ → ℕ → ℕ → Type 0
MoveWatched w ws width n first j i =
    InSet ws (target_at w first j * width) i
    × (kept_at w first j % 65536 < n → InSet ws (kept_at w first j % 65536 * width) i)

watched_more : (w ws vs : List ℕ) (width n first j i : ℕ) → SetsGrown ws vs → MoveWatched w ws width n first j i
    → MoveWatched w vs width n first j i
watched_more w ws vs width n first j i g x =
    (g.more (target_at w first j * width) i x.0, (λ l. g.more (kept_at w first j % 65536 * width) i (x.1 l)))

-- the word of a place in the set of member p
pub row_word : (p n width i len : ℕ) → p < n → i < 64 * width → n * width ≤ len → p * width + i / 64 < len
row_word p n width i len l h b =
    let m : suc p ≤ n = omega arith in
    let a : suc p * width ≤ n * width = mul-le-mul_right width m in
    omega (arith, suc-mul p width)

-- the set of the target has the member
pub watched_one : (w ws us : List ℕ) (width n first j i : ℕ) → us ≡ with_place ws (target_at w first j * width) i
    → (kept_at w first j % 65536 < n → ⊥) → target_at w first j < n → i < 64 * width → n * width ≤ length ws
    → SetsGrown ws us × MoveWatched w us width n first j i
watched_one w ws us width n first j i e d l h b =
    let t : ℕ = target_at w first j * width in
    subst (λ (vs : List ℕ). SetsGrown ws vs × MoveWatched w vs width n first j i) (sym e) (
      grown_place ws t i,
      (place_in ws t i (row_word (target_at w first j) n width i (length ws) l h b), (λ q. absurd (d q))),
    )

-- and so has that of the kept member
pub watched_both : (w ws us vs : List ℕ) (width n first j i : ℕ) → us ≡ with_place ws (target_at w first j * width) i
    → vs ≡ with_place us (kept_at w first j % 65536 * width) i
    → target_at w first j < n → kept_at w first j % 65536 < n → i < 64 * width → n * width ≤ length ws
    → SetsGrown ws vs × MoveWatched w vs width n first j i
watched_both w ws us vs width n first j i e f l q h b =
    let t : ℕ = target_at w first j * width in
    let k : ℕ = kept_at w first j % 65536 * width in
    let g : SetsGrown ws us = subst (SetsGrown ws) (sym e) (grown_place ws t i) in
    let x : InSet us t i =
    subst (λ (xs : List ℕ). InSet xs t i) (sym e) (place_in ws t i (row_word (target_at w first j) n width i (length ws) l h b)) in
    let y : InSet (with_place us k i) k i = place_in us k i (row_word (kept_at w first j % 65536) n width i (length us) q h (omega (arith, g.long))) in
    subst (λ (xs : List ℕ). SetsGrown ws xs × MoveWatched w xs width n first j i) (sym f) (
      grown_then g (grown_place us k i),
      (place_more us k i t i x, (λ z. y)),
    )

-- vs is ws with member i in the sets of all that its moves look at
pub record MemberWatches (w ws : List ℕ) (width n i : ℕ) (vs : List ℕ) : Type 0 where
  pub grown : SetsGrown ws vs
  pub watched : (j : ℕ) → j < move_total w i → MoveWatched w vs width n (first_move w i) j i

-- the first k of its moves
pub record Watching (w ws : List ℕ) (width n i first k : ℕ) (vs : List ℕ) : Type 0 where
  pub grown : SetsGrown ws vs
  pub watched : (j : ℕ) → j < k → MoveWatched w vs width n first j i

pub watching_first : (w ws : List ℕ) (width n i first : ℕ) → Watching w ws width n i first 0 ws
watching_first w ws width n i first = record { grown = grown_none ws; watched = λ j l. absurd (omega arith) }

pub watching_next : (w ws : List ℕ) (width n i first k : ℕ) (vs : List ℕ) → Watching w ws width n i first k vs → (us : List ℕ)
    → SetsGrown vs us → MoveWatched w us width n first k i → Watching w ws width n i first (k + 1) us
watching_next w ws width n i first k vs W us g x = record {
  grown = grown_then W.grown g;
  watched = λ j l. go j l (tested (eqb j k));
}
  where
    go : (j : ℕ) → j < k + 1 → Tested (eqb j k) → MoveWatched w us width n first j i
    go j l (passes e) = subst (λ (z : ℕ). MoveWatched w us width n first z i) (sym (eqb-true j k e)) x
    go j l (fails e) = watched_more w vs us width n first j i g (W.watched j (omega (arith, eqb-false j k e)))

pub watching_all : (w ws : List ℕ) (width n i first total k : ℕ) (vs : List ℕ) → Watching w ws width n i first k vs → first ≡ first_move w i
    → total ≡ move_total w i → total ≤ k → MemberWatches w ws width n i vs
watching_all w ws width n i first total k vs W ef et l = record {
  grown = W.grown;
  watched = λ j b. subst (λ (a : ℕ). MoveWatched w vs width n a j i) ef (W.watched j (omega arith));
}
