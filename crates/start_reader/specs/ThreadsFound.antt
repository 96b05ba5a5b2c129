-- The thread bytes of a start: what the reader finds, and its loop.
use Rattle.std.specs.Prelude.{◌≡◌, refl, Bool, true, false, List, [], ◌∷◌, ◌++◌, Result, Ok, Err, IfOk, ℕ, ◌+◌, ◌-◌, ◌≤◌, ◌<◌, length, get_or, set, take, eqb}
use Rattle.std.proofs.Common.{sym, ap, ◌∙◌, add-one, take-suc-set, get_or-set_same, get_or-set_other, eqb-true}
use native.Mathlib.Omega.{arith}
use Rattle.std.proofs.lemmas.Bool.{eqb-false}
use Rattle.sheet_types.specs.Reading.{Reading, got, refused, thread_at, threads_from, records_from}
use Rattle.sheet_fields.specs.RecordLaws.{records_none, records_refused, records_next}
use Rattle.refusals.specs.Numbers.{number}
use Rattle.refusals.specs.declared.Refused.{Refused}
use Rattle.sheet_fields.specs.Answers.{read_as}
use Rattle.start_reader.specs.declared.ThreadsRead.{ThreadsRead}

-- each of the first n numbers is below the bound
pub record Below (bound : ℕ) (ks : List ℕ) (n : ℕ) : Type 0 where
  pub at : (j : ℕ) → j < n → get_or ks j 0 < bound

-- the reading of n threads that it stands for
abbrev pub threads_read : ℕ → Result ThreadsRead Refused → Reading (List ℕ)
threads_read n = read_as (λ x. take n x.threads) (λ x. x.next)

-- n threads, each below the number of nodes
pub record ThreadsHeld (n nodes : ℕ) (s : List ℕ) (x : ThreadsRead) : Type 0 where
  pub within : x.next ≤ length s
  pub room : n ≤ length x.threads
  pub below : Below nodes x.threads n

pub record ThreadsFound (n nodes : ℕ) (s : List ℕ) (at : ℕ) (r : Result ThreadsRead Refused) : Type 0 where
  pub reading : threads_read n r ≡ threads_from n nodes s at
  pub held : IfOk r (ThreadsHeld n nodes s)

-- one thread, whatever stands before it
abbrev pub thread_item : ℕ → List ℕ → List ℕ → ℕ → Reading ℕ
thread_item nodes s read p = thread_at nodes s p

-- i threads are read up to p, and what is left to read gives what the whole gives
pub record ThreadsSoFar (n nodes : ℕ) (s : List ℕ) (at i p : ℕ) (threads : List ℕ) : Type 0 where
  pub rest : records_from (thread_item nodes s) (n - i) (take i threads) p ≡ threads_from n nodes s at
  pub below : Below nodes threads i

module _ (n nodes : ℕ) (s : List ℕ) (at : ℕ) where
  pub threads_none : (threads : List ℕ) → ThreadsSoFar n nodes s at 0 at threads
  unfolding threads_from
  threads_none threads =
      let z : n - 0 ≡ n = omega arith in
      record { rest = rw z; below = record { at = λ j l. absurd (omega arith) } }

  module _ (i p : ℕ) (threads : List ℕ) (sofar : ThreadsSoFar n nodes s at i p threads) where
    pub threads_next : {k next : ℕ} → i < n → i < length threads → k < nodes → thread_at nodes s p ≡ got k next
        → ThreadsSoFar n nodes s at (i + 1) next (set threads i k)
    threads_next {k} {next} l room small e =
        let kept : take (i + 1) (set threads i k) ≡ take i threads ++ (k ∷ []) =
        ap (λ (m : ℕ). take m (set threads i k)) (add-one i) ∙ take-suc-set threads i k room in
        record {
          rest =
              ap (λ (ks : List ℕ). records_from (thread_item nodes s) (n - (i + 1)) ks next) kept
              ∙ sym (records_next (thread_item nodes s) n i (take i threads) p next k l e)
              ∙ sofar.rest;
          below = record { at = λ j m. go j m (eqb j i) refl };
        }
      where
        go : (j : ℕ) → j < i + 1 → (b : Bool) → eqb j i ≡ b → get_or (set threads i k) j 0 < nodes
        go j m true t = rw (eqb-true j i t, get_or-set_same threads i k 0 room) small
        go j m false t =
            let other = eqb-false j i t in
            rw (get_or-set_other threads i j k 0 other) (sofar.below.at j (omega (arith, other)))

    pub threads_refused : (e : Refused) → i < n → thread_at nodes s p ≡ refused (number e.refusal) e.place → ThreadsFound n nodes s at (Err e)
    threads_refused e l h =
        record { reading = sym (records_refused (thread_item nodes s) n i (take i threads) p _ _ l h) ∙ sofar.rest; held = tt }

    pub threads_end : i ≡ n → p ≤ length s → n ≤ length threads → ThreadsFound n nodes s at (Ok (record { threads = threads; next = p }))
    threads_end e within room =
        record {
          reading = ap (λ (m : ℕ). got (take m threads) p) (sym e) ∙ sym (records_none (thread_item nodes s) n i (take i threads) p (omega arith)) ∙ sofar.rest;
          held = record { within = within; room = room; below = rw (sym e) sofar.below };
        }
