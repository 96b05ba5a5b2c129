-- The plus sign and the digits after it; a byte has at most three.
use mathlib.Core.Path.{ap}
use mathlib.Core.List.{◌∷◌}
use Prim.Native.Nat.{ℕ}
use Rattle.text.specs.Decimal.{decimal}
use Rattle.comparison.specs.Print.{plus}
use Rattle.text.specs.StoredText.{stored_then}
use Rattle.report_fields.specs.TextLaws.{byte_short, stored_as}
use native.Mathlib.Omega.{arith}
use Rattle.report_fields.proofs.put_next_thread.Goals as goal

pub returns : goal.returns
returns c =
    let e = c.put_number.ensures in
    let b = c.byte_in in
    let sign = c.put_byte-next.ensures in (
      stored_as (ap (λ (k : ℕ). plus ∷ decimal k) b.ensures.0) (stored_then sign e.0),
      omega (arith, e.0.place, sign.place, byte_short b.result b.ensures.1),
    )
