-- What a reading that goes on from another gives, when that is a refusal and when it is a value.
use Rattle.std.specs.Prelude.{◌≡◌, ℕ}
use Rattle.std.proofs.Common.{sym, ap}
use Rattle.sheet_laws.specs.Reading.{Reading, got, refused, and_then}

module _ {A B : Type 0} (m : Reading A) (f : A → ℕ → Reading B) where
  -- a value is handed on
  pub got_then : {v : A} {next : ℕ} → got v next ≡ m → and_then m f ≡ f v next
  got_then e = ap (λ (x : Reading A). and_then x f) (sym e)

  -- a refusal is handed up
  pub refused_then : {number place : ℕ} → refused number place ≡ m → refused number place ≡ and_then m f
  refused_then e = ap (λ (x : Reading A). and_then x f) e
