-- Some number of facts k is reached: the sets found with fewer facts are listed, and those that include one of them are no longer marked.
use mathlib.Core.Path.{◌≡◌, ap, subst}
use mathlib.Core.List.{List}
use Prim.Native.Nat.{ℕ, suc, ◌+◌, ◌≤◌, ◌<◌}
use native.Mathlib.Omega.{arith}
use borrow.Author.Rules.{rules}
use lib.ListN.{length}
use Rattle.std.proofs.Common.{Some}
use Rattle.set_digits.specs.SetDigits.{words_of}
use Rattle.digit_lists.specs.DigitLists.{LeastSize, marked_of_size}
use Rattle.digit_lists.specs.ListedBehind.{ListedBehind}
use Rattle.label_walk.specs.LabelWalk.{NoneBeyond}
use Rattle.label_walk.specs.FoundWalk.{marked_below, marked_after, Walked, walked_first, walked_size, walked_room, walked_next, walked_ended, walked_least, walked_whole}
use Rattle.label_walk.proofs.find_sets.Goals as goal

-- the least number of facts r of a marked set is reached; what is found with so many facts is what is still marked, and among the whole
reached : (facts words left at : ℕ) (u : List ℕ) (k n : ℕ) (w : List ℕ) → Walked facts words left at u k n w → (r : ℕ)
    → facts ≤ 16 → words ≡ words_of facts → NoneBeyond facts left u → LeastSize w left words (Some r)
    → (r ≤ facts) × Walked facts words left at u r n w × (0 < length (marked_of_size w left words r))
    × (marked_of_size w left words r ≡ marked_after facts left u r)
    × (n + length (marked_of_size w left words r) ≤ length (marked_below facts left u (suc facts)))
reached facts words left at u k n w h r few q beyond least =
    let p = walked_least facts words left at u k n w h r few q beyond least in
    let s = walked_size facts words left at u r n w p.1 few q beyond in
    (p.0, p.1, p.2, s, omega (arith, ap length s, walked_room facts words left at u r n w p.1 p.0))

pub loop-k-init : goal.loop-k-init
loop-k-init c =
    let g = c.args in
    (0, omega arith, walked_first g.facts c.words_of-words.result g.left g.at g.work.now)

pub list_marked-m-requires : goal.list_marked-m-requires
list_marked-m-requires c =
    let g = c.args in
    let l = c.loop-k in
    let words = c.words_of-words in
    let r = reached g.facts words.result g.left g.at g.work.now l.invariant.0 l.n l.work l.invariant.2 c.in-Some.k
    (omega (arith, c.requires.0)) words.ensures.0 c.requires.2 c.in-Some.ensures in
    (search rules, search rules, omega (arith, r.4, c.requires.3, l.invariant.2.same.long))

pub overflow_add-at : goal.overflow_add-at
overflow_add-at c =
    let g = c.args in
    let l = c.loop-k in
    let words = c.words_of-words in
    let r = reached g.facts words.result g.left g.at g.work.now l.invariant.0 l.n l.work l.invariant.2 c.in-Some.k
    (omega (arith, c.requires.0)) words.ensures.0 c.requires.2 c.in-Some.ensures in
    omega (arith, r.4, c.requires.3, l.invariant.2.same.long)

pub clear_found-requires : goal.clear_found-requires
clear_found-requires c =
    let g = c.args in
    let l = c.loop-k in
    let words = c.words_of-words in
    let m = c.list_marked-m in
    let r = reached g.facts words.result g.left g.at g.work.now l.invariant.0 l.n l.work l.invariant.2 c.in-Some.k
    (omega (arith, c.requires.0)) words.ensures.0 c.requires.2 c.in-Some.ensures in
    (search rules, search rules, omega (arith, r.4, c.requires.3, l.invariant.2.same.long, m.ensures.0, m.ensures.2.long))

pub loop-k-smaller : goal.loop-k-smaller
loop-k-smaller c =
    let g = c.args in
    let l = c.loop-k in
    let words = c.words_of-words in
    let r = reached g.facts words.result g.left g.at g.work.now l.invariant.0 l.n l.work l.invariant.2 c.in-Some.k
    (omega (arith, c.requires.0)) words.ensures.0 c.requires.2 c.in-Some.ensures in
    omega (arith, r.4, r.2, c.list_marked-m.ensures.0)

pub loop-k-preserved : goal.loop-k-preserved
loop-k-preserved c =
    let g = c.args in
    let l = c.loop-k in
    let words = c.words_of-words in
    let k : ℕ = c.in-Some.k in
    let m = c.list_marked-m in
    let r = reached g.facts words.result g.left g.at g.work.now l.invariant.0 l.n l.work l.invariant.2 k
    (omega (arith, c.requires.0)) words.ensures.0 c.requires.2 c.in-Some.ensures in (
      k + 1,
      omega (arith, r.0),
      walked_next g.facts words.result g.left g.at g.work.now k l.n l.work r.1 m.result m.new.work c.clear_found.new.work (search rules)
          (subst (λ (xs : List ℕ). ListedBehind g.at l.n l.work xs m.result m.new.work) r.3 m.ensures) c.clear_found.ensures,
    )

pub returns : goal.returns
returns c =
    let g = c.args in
    let l = c.loop-k in
    let words = c.words_of-words in
    walked_whole g.facts words.result g.left g.at g.work.now l.invariant.0 l.n l.work l.invariant.2 words.ensures.0
    (walked_ended g.facts words.result g.left g.at g.work.now l.invariant.0 l.n l.work l.invariant.2 l.invariant.1
    words.ensures.0 c.in_default.ensures)
