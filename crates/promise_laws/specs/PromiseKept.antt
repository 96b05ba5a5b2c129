-- A call whose contract says what it returns and leaves of its outcome keeps its promise.
use Rattle.std.specs.Prelude.{◌≡◌, refl, ◌↔◌, List, ◌++◌, ℕ, length, drop}
use Rattle.std.proofs.Common.{sym, ap, ap₂, ◌∙◌}
use Rattle.call_frame.specs.Outcome.{Outcome, reported, refusal, cleared, work_refused}
use Rattle.call_frame.specs.Promise.{RefusalBy, PromiseBy}
use Rattle.call_frame.specs.Answered.{Answered}

-- The two variants of what a call returns: neither is the other, and each tells its arguments apart.
pub record Variants {X R : Type 0} (refuse : ℕ → ℕ → R) (give : X → R) : Type 0 where
  pub never : (x : X) (number place : ℕ) → give x ≡ refuse number place → ⊥
  pub one_refusal : (k p number place : ℕ) → refuse k p ≡ refuse number place → (k ≡ number) × (p ≡ place)
  pub one_given : (x y : X) → give x ≡ give y → x ≡ y

module _ {A X R : Type 0} (written : A → List ℕ) (returned : Outcome A → R) {refuse : ℕ → ℕ → R} (Refuses : ℕ → ℕ → ℕ → ℕ → Type 0)
    {give : X → R} (of : A → X) (Gives : ℕ → ℕ → A → Type 0) (Made : List ℕ → List ℕ → List ℕ → List ℕ → X → Type 1)
    (variants : Variants refuse give) (returned-refusal : (number place : ℕ) → returned (refusal number place) ≡ refuse number place)
    (returned-given : (a : A) → returned (reported a) ≡ give (of a)) {v before w after : List ℕ} {answer : R} where
  refused_as : (o : Outcome A) → ((number place : ℕ) → o ≡ refusal number place → Refuses (length v) (length before) number place)
      → Answered written returned o v before w after answer
      → (number place : ℕ) → answer ≡ refuse number place → RefusalBy Refuses v before w after number place
  refused_as (reported a) f c number place h =
      absurd (variants.never (of a) number place (sym (c.answers ∙ returned-given a) ∙ h))
  refused_as (refusal k p) f c number place h =
      let z = variants.one_refusal k p number place (sym (c.answers ∙ returned-refusal k p) ∙ h) in
      record {
        refuses = f number place (ap₂ refusal z.0 z.1);
        untouched = c.bytes;
        work = c.works ∙ ap (λ (n : ℕ). work_refused n v) z.0;
      }

  made_as : (o : Outcome A) → ((a : A) → o ≡ reported a → Gives (length v) (length before) a)
      → ((a : A) → Gives (length v) (length before) a → (x : X) → x ≡ of a → after ≡ written a ++ drop (length (written a)) before → w ≡ cleared v
      → Made v before w after x)
      → Answered written returned o v before w after answer → (x : X) → answer ≡ give x → Made v before w after x
  made_as (refusal k p) f make c x h = absurd (variants.never x k p (sym h ∙ c.answers ∙ returned-refusal k p))
  made_as (reported a) f make c x h =
      make a (f a refl) x (variants.one_given x (of a) (sym h ∙ c.answers ∙ returned-given a)) c.bytes c.works

  -- the outcome's conditions, and what goes with what is given, make the promise
  pub promise_kept : (o : Outcome A) → ((number place : ℕ) → (o ≡ refusal number place) ↔ Refuses (length v) (length before) number place)
      → ((a : A) → (o ≡ reported a) ↔ Gives (length v) (length before) a)
      → ((a : A) → Gives (length v) (length before) a → (x : X) → x ≡ of a → after ≡ written a ++ drop (length (written a)) before → w ≡ cleared v
      → Made v before w after x)
      → Answered written returned o v before w after answer → PromiseBy refuse Refuses give of Gives Made v before w after answer
  promise_kept o refuses gives make c =
      record {
        refused = refused_as o (λ number place. (refuses number place).0) c;
        to_refuse = λ number place x. c.answers ∙ ap returned ((refuses number place).1 x) ∙ returned-refusal number place;
        made = made_as o (λ a. (gives a).0) make c;
        to_give = λ a x. c.answers ∙ ap returned ((gives a).1 x) ∙ returned-given a;
      }
