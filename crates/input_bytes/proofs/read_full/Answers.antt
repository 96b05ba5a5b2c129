-- What a read gives stands behind what was there, and was taken from the reader after it.
use Rattle.input_bytes.proofs.read_full.Goals as goal
use Rattle.std.proofs.Common.{◌≡◌, ℕ, ◌+◌, ◌-◌, ◌≤◌, List, ◌++◌, length, take, sym, ap, subst, ◌∙◌, arith, append_assoc, length-take}
use Rattle.std.proofs.Math.Seq.{take-append-add}
use Rattle.std.proofs.lemmas.List.{take-append-le}
use Rattle.std.specs.Prelude.{Option, Some, None}
use Rattle.std.specs.Io.KnownBytes.{Consumes}
use borrow.Rule.Slice.PartMut.{put_mid, post_of, same_len_mid}

consumes_more : (r₀ r₁ r₂ : Option (List ℕ)) (a b : List ℕ) → Consumes r₀ r₁ a → Consumes r₁ r₂ b → Consumes r₀ r₂ (a ++ b)
consumes_more None r₁ r₂ a b p q = tt
consumes_more (Some xs) None r₂ a b p q = absurd p
consumes_more (Some xs) (Some ys) None a b p q = absurd q
consumes_more (Some xs) (Some ys) (Some zs) a b p q = p ∙ ap (λ (l : List ℕ). a ++ l) q ∙ sym (append_assoc a b zs)

front_more : (d n k : ℕ) (xs ys : List ℕ) → d ≤ length xs → n ≤ length ys → take (d + n) (put_mid d k xs ys) ≡ take d xs ++ take n ys
front_more d n k xs ys l m =
    subst (λ (e : ℕ). take (e + n) (take d xs ++ (ys ++ post_of d k xs)) ≡ take d xs ++ take n ys)
    (let e : length (take d xs) ≡ d = simp length-take (omega arith) in e)
    (take-append-add (take d xs) (ys ++ post_of d k xs) n ∙ ap (λ (z : List ℕ). take d xs ++ z) (take-append-le n ys (post_of d k xs) m))

pub loop-done-preserved : goal.loop-done-preserved
loop-done-preserved g c =
    let d = c.loop-done.done in
    let xs = c.loop-done.bytes in
    let ys = c.read.new.buf in
    let room : c.in_ok-n.n ≤ length ys = omega (arith, c.in_ok-n.ensures.bound) in
    let same : length (put_mid d (length xs - d) xs ys) ≡ length xs = same_len_mid d (length xs - d) xs ys c.read.auto.buf in
    record {
      within = omega (arith, same, c.loop-done.invariant.within);
      long = same ∙ c.loop-done.invariant.long;
      front = subst (λ (z : List ℕ). Consumes (g.R.Read.remaining c.args.input.now) (g.R.Read.remaining c.read.new.self) z)
          (sym (front_more d c.in_ok-n.n (length xs - d) xs ys c.loop-done.invariant.within room))
          (consumes_more (g.R.Read.remaining c.args.input.now) (g.R.Read.remaining c.loop-done.input) (g.R.Read.remaining c.read.new.self)
          (take d xs) (take c.in_ok-n.n ys) c.loop-done.invariant.front c.in_ok-n.ensures.bytes.0);
    }
