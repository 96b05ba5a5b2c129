-- From place i on each thread is moved to the place before it, so after the last one all but the thread at place i stand as before.
use lib.ListN.{length}
use lib.Seq.{get_or-take}
use borrow.Author.Rules.{rules}
use native.Mathlib.Omega.{arith}
use Prim.Native.Nat.{ℕ}
use mathlib.Core.Path.{◌≡◌, sym, ap₂}
use mathlib.Core.List.{List}
use Rattle.threads_beside.specs.ThreadTakenOut.{shifted_all}
use Rattle.threads_beside.proofs.thread_beside.Goals as goal

pub returns : goal.returns
returns c = let a = c.args in
    let l = c.loop-j in
    let long : length a.e.threads ≡ 8 = search rules in (
      ap₂ (λ (k : ℕ) (ts : List ℕ). record { node = k; threads = ts })
          (sym (get_or-take a.e.count a.e.threads a.i 0 (omega arith)))
          (shifted_all a.e.threads a.i l.j a.e.count l.threads
          (omega arith) (omega arith) (omega arith) l.invariant.1),
      omega arith,
    )
