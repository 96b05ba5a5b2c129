-- Records stored as they are read, up to the first refusal, with a law for each way that a reader's loop goes.
use Rattle.std.specs.Prelude.{◌≡◌, refl}
use Prim.Native.Nat.{ℕ, zero, suc, ◌+◌, ◌-◌, ◌≤◌, ◌<◌}
use native.Mathlib.Omega.{arith}
use Rattle.sheet_reading.specs.Reading.{Reading, got, refused}

-- what is made of a value that is read, or what stands for a refusal
abbrev pub read_or : {A B : Type 0} → Reading A → B → (A → ℕ → B) → B
read_or (got v next) none f = f v next
read_or (refused number place) none f = none

-- b with n records stored in it, read from place p on and the first of them as record i; none after a refusal
unfoldable pub stored_from : {A B : Type 0} → (ℕ → Reading A) → (B → ℕ → A → B) → ℕ → ℕ → ℕ → B → B
stored_from item put zero i p b = b
stored_from item put (suc n) i p b = read_or (item p) b (λ r next. stored_from item put n (i + 1) next (put b i r))

module _ {A B : Type 0} (item : ℕ → Reading A) (put : B → ℕ → A → B) (n i p : ℕ) (b : B) where
  pub stored_none : n ≤ i → stored_from item put (n - i) i p b ≡ b
  unfolding stored_from
  stored_none h =
      let s : n - i ≡ 0 = omega arith in
      rw s

  pub stored_refused : {number place : ℕ} → i < n → item p ≡ refused number place → stored_from item put (n - i) i p b ≡ b
  unfolding stored_from
  stored_refused h e =
      let s : n - i ≡ suc (n - (i + 1)) = omega arith in
      rw (s, stored_from, e)

  pub stored_next : (r : A) {next : ℕ} → i < n → item p ≡ got r next
      → stored_from item put (n - i) i p b ≡ stored_from item put (n - (i + 1)) (i + 1) next (put b i r)
  unfolding stored_from
  stored_next r h e =
      let s : n - i ≡ suc (n - (i + 1)) = omega arith in
      rw (s, stored_from, e)
