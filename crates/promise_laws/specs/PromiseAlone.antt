-- The promise fixes a call: on the same input, and with the same slices, what two calls return and leave is the same.
use Rattle.std.specs.Prelude.{◌≡◌, List, ℕ, length}
use Rattle.std.proofs.Common.{sym, ◌∙◌}
use Rattle.call_frame.specs.Outcome.{Outcome}
use Rattle.call_frame.specs.Promise.{PromiseBy}
use Rattle.call_frame.specs.FrameTheorem.{Decides, gives_report, gives_refusal}

module _ {A X R : Type 0} {refuse : ℕ → ℕ → R} {Refuses Refuses2 : ℕ → ℕ → ℕ → ℕ → Type 0} {give : X → R} {of : A → X}
    {Gives Gives2 : ℕ → ℕ → A → Type 0} {Made Made2 : List ℕ → List ℕ → List ℕ → List ℕ → X → Type 1}
    {v before w after : List ℕ} {answer : R} {w2 after2 : List ℕ} {answer2 : R}
    (a : PromiseBy refuse Refuses give of Gives Made v before w after answer)
    (b : PromiseBy refuse Refuses2 give of Gives2 Made2 v before w2 after2 answer2) where
  -- both refuse, by one number and place
  pub both_refuse : {number place : ℕ} → Refuses (length v) (length before) number place → Refuses2 (length v) (length before) number place
      → (answer ≡ answer2) × (after ≡ after2) × (w ≡ w2)
  both_refuse {number} {place} x y =
      let p = a.to_refuse number place x in
      let q = b.to_refuse number place y in
      let m = a.refused number place p in
      let n = b.refused number place q in
      (p ∙ sym q, m.untouched ∙ sym n.untouched, m.work ∙ sym n.work)

  -- both give one thing, and it fixes what is left
  pub both_give : ((x : X) → Made v before w after x → Made2 v before w2 after2 x → (after ≡ after2) × (w ≡ w2))
      → {g : A} → Gives (length v) (length before) g → Gives2 (length v) (length before) g → (answer ≡ answer2) × (after ≡ after2) × (w ≡ w2)
  both_give fixed {g} x y =
      let p = a.to_give g x in
      let q = b.to_give g y in
      let f = fixed (of g) (a.made (of g) p) (b.made (of g) q) in
      (p ∙ sym q, f.0, f.1)

module _ {A X R : Type 0} {refuse : ℕ → ℕ → R} {Refuses : ℕ → ℕ → ℕ → ℕ → Type 0} {give : X → R} {of : A → X} {Gives : ℕ → ℕ → A → Type 0}
    {Made : List ℕ → List ℕ → List ℕ → List ℕ → X → Type 1} {v before w after : List ℕ} {answer : R} {w2 after2 : List ℕ} {answer2 : R} where
  -- two calls that keep one promise, of which the outcome is decided, return and leave the same
  pub promise_alone : {o : Outcome A} → Decides (Refuses (length v) (length before)) (Gives (length v) (length before)) o
      → ((x : X) → Made v before w after x → Made v before w2 after2 x → (after ≡ after2) × (w ≡ w2))
      → PromiseBy refuse Refuses give of Gives Made v before w after answer → PromiseBy refuse Refuses give of Gives Made v before w2 after2 answer2
      → (answer ≡ answer2) × (after ≡ after2) × (w ≡ w2)
  promise_alone (gives_refusal x) fixed a b = both_refuse a b x x
  promise_alone (gives_report x) fixed a b = both_give a b fixed x x
