-- `list_marked` has listed the marked sets of the first i words; the marks stand before what is listed.
use mathlib.Core.Path.{◌≡◌, sym, ◌∙◌, subst}
use mathlib.Core.Logic.{inl}
use mathlib.Core.List.{List}
use Prim.Native.Nat.{ℕ, ◌+◌, ◌≤◌, ◌<◌}
use native.Mathlib.Omega.{arith}
use lib.ListN.{get_or}
use borrow.Author.Rules.{rules}
use Rattle.digit_lists.specs.DigitLists.{SizeInWord, word_sets, marked_of_size}
use Rattle.digit_lists.specs.ListedBehind.{ListedBehind, listed_then}
use Rattle.digit_lists.specs.WordLists.{marked_next, marked_same, marked_room}
use Rattle.digit_lists.proofs.list_marked.Goals as goal
use Rattle.digit_lists.proofs.list_marked.Goals.{then-x-ne0, else-x-ne0}

-- the word's number is what it was at first
own : (at n m left words i : ℕ) (w v xs : List ℕ) → ListedBehind at n w xs m v → left + words ≤ at → i < words
    → get_or v (left + i) 0 ≡ get_or w (left + i) 0
own at n m left words i w v xs h room l = h.2.at (left + i) (inl (omega arith))

pub list_word-m-requires : goal.list_word-m-requires
list_word-m-requires c =
    let g = c.args in
    let l = c.loop-i in
    let v = l.invariant.1 in
    let y = c.size_in_word-y in
    let same : get_or l.work (g.left + l.i) 0 ≡ get_or g.work.now (g.left + l.i) 0 = own g.at g.n l.m g.left g.words l.i g.work.now l.work (marked_of_size g.work.now g.left l.i g.k) v (omega arith) (omega arith) in
    let sized = subst (λ (x : ℕ). SizeInWord x l.i g.k y.result) same y.ensures in
    let room = marked_room g.work.now g.left g.k l.i y.result g.words sized (search rules) in
    (search rules, omega (arith, room, v.0, v.2.long))

pub loop-i-preserved : goal.loop-i-preserved
loop-i-preserved c =
    let g = c.args in
    let l = c.loop-i in
    let v = l.invariant.1 in
    let before : List ℕ = marked_of_size g.work.now g.left l.i g.k in
    let same : get_or l.work (g.left + l.i) 0 ≡ get_or g.work.now (g.left + l.i) 0 = own g.at g.n l.m g.left g.words l.i g.work.now l.work (marked_of_size g.work.now g.left l.i g.k) v (omega arith) (omega arith) in
    elim c.if-x-ne0.branch [
      | then-x-ne0 w ↦
          let y = w.size_in_word-y in
          let m = w.list_word-m in
          let sized = subst (λ (x : ℕ). SizeInWord x l.i g.k y.result) same y.ensures in (
            search rules,
            rw (w.work-is, w.m-is)
                (subst (λ (xs : List ℕ). ListedBehind g.at g.n g.work.now xs m.result m.new.work)
                (sym (marked_next g.work.now g.left g.k l.i y.result sized))
                (listed_then g.at g.n g.work.now before l.m l.work (word_sets l.i y.result) m.result m.new.work v m.ensures)),
          )
      | else-x-ne0 w ↦
          let none : get_or l.work (g.left + l.i) 0 ≡ 0 = omega (arith, w.if-x-ne0.false) in (
            search rules,
            rw (w.work-is, w.m-is)
                (subst (λ (xs : List ℕ). ListedBehind g.at g.n g.work.now xs l.m l.work)
                (sym (marked_same g.work.now g.left g.k l.i (sym same ∙ none))) v),
          )
    ]
