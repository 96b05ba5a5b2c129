-- With one set by its facts; else the free sets are those that stay marked.
use mathlib.Core.Path.{◌≡◌, sym, ap, ◌∙◌}
use mathlib.Core.List.{List, [], ◌∷◌}
use Prim.Native.Nat.{ℕ, ◌+◌}
use native.Mathlib.Omega.{arith}
use lib.ListN.{length, get_or}
use Rattle.set_digits.specs.Frames.{outside_same, outside_then}
use Rattle.set_digits.specs.SetDigits.{words_of}
use Rattle.label_walk.specs.LabelWalk.{numbers_at, free_sets}
use Rattle.label_walk.specs.ClearedSets.{numbers_one}
use Rattle.label_walk.specs.FreeSets.{free_fits, free_marked}
use Rattle.label_walk.proofs.count_free.Goals as goal

pub returns-then-n-eq1 : goal.returns-then-n-eq1
returns-then-n-eq1 c =
    let g = c.args in
    let w : List ℕ = g.work.now in
    let one : numbers_at w g.at g.n ≡ get_or w g.at 0 ∷ [] =
    ap (numbers_at w g.at) c.if-n-eq1.true ∙ numbers_one w g.at (omega arith) in
    let e : c.count_free_of.result ≡ length (free_sets (numbers_at w g.at g.n) g.facts) =
    c.count_free_of.ensures ∙ ap (λ (found : List ℕ). length (free_sets found g.facts)) (sym one) in
    (e, omega (arith, e, free_fits (numbers_at w g.at g.n) g.facts), outside_same g.left (g.left + words_of g.facts) w)

pub returns : goal.returns
returns c =
    let marked = c.mark_all in
    let words = c.words_of-words in
    let g = c.args in
    let w : List ℕ = g.work.now in
    let same =
    free_marked g.facts words.result g.left g.at g.n w marked.new.work c.clear_found.new.work words.ensures.0 c.requires.1
    marked.ensures c.clear_found.ensures in
    let e : c.count_marked.result ≡ length (free_sets (numbers_at w g.at g.n) g.facts) = c.count_marked.ensures ∙ ap length same in (
      e,
      omega (arith, e, free_fits (numbers_at w g.at g.n) g.facts),
      outside_then marked.ensures.same c.clear_found.ensures.same g.left (g.left + words_of g.facts) (omega arith) (omega arith) (omega arith)
          (omega (arith, words.ensures.0)),
    )
