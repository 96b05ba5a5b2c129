-- The threads are counted before they are put in: more than the limit, and there is none; otherwise each is put in its place.
use mathlib.Core.Path.{◌≡◌, sym, ap, ◌∙◌}
use mathlib.Core.List.{List}
use Prim.Native.Nat.{ℕ, ◌*◌}
use native.Mathlib.Omega.{arith}
use lib.ListN.{length, get_or, take, drop, length-drop}
use Rattle.packing.specs.SortingLaws.{insert_all}
use Rattle.sheet_types.specs.NodeTable.{opened_of, threads_at}
use Rattle.sheet_types.specs.NodeTableLaws.{threads_from_lem}
use Rattle.threads_beside.specs.ThreadsBesideLaws.{beside_too_many, beside_joined}
use Rattle.threads_beside.proofs.put_beside.Goals as goal

pub returns-then-limit-n : goal.returns-then-limit-n
returns-then-limit-n c =
    let read = c.count_in-more in
    let a = c.args in
    let t : List ℕ = a.table.now in
    let long : length (drop threads_at t) ≡ 512 = length-drop threads_at t ∙ omega arith in
    beside_too_many (drop threads_at t) (8 * a.q) (get_or (opened_of t).counts a.q 0) a.e a.limit
    read.result (omega (arith, long)) read.ensures.0 (omega arith)

pub returns : goal.returns
returns c =
    let read = c.count_in-more in
    let a = c.args in
    let t : List ℕ = a.table.now in
    let long : length (drop threads_at t) ≡ 512 = length-drop threads_at t ∙ omega arith in
    beside_joined (drop threads_at t) (8 * a.q) (get_or (opened_of t).counts a.q 0) a.e a.limit
    read.result (omega (arith, long)) read.ensures.0 c.insert_from-threads.result (omega arith)
    (c.insert_from-threads.ensures ∙ ap (λ (l : List ℕ). insert_all (take a.e.count a.e.threads) (take read.result l)) (sym (threads_from_lem t (8 * a.q))))
