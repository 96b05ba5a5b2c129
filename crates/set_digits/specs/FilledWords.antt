-- Words of a slice stored one after another.
use Rattle.std.specs.Prelude.{◌≡◌, List, ℕ, ◌+◌, ◌*◌, ◌/◌, ◌%◌, ◌≤◌, ◌<◌, ltb, length, get_or, set, take, replicate, ◌++◌}
use Rattle.std.proofs.Common.{sym, ap, ◌∙◌, inl, inr, arith, get_or-set_same, get_or-set_other, ltb-true, ltb-false}
use Rattle.std.proofs.Common.{length-append, length-take, length-take-le, length-drop}
use Rattle.std.proofs.Math.ListN.{get_or-append}
use Rattle.std.proofs.lemmas.List.{get_or-append-add, get_or-replicate, length-replicate}
use Rattle.std.proofs.lemmas.Slice.{take-put_mid_below, drop-put_mid}
use borrow.Rule.Slice.PartMut.{put_mid, post_of}
use Rattle.search_laws.specs.TestLaws.{Tested, passes, fails, tested}
use Rattle.search_laws.specs.Frames.{SameOutside, outside_same, outside_of_ends, outside_set, outside_wider, outside_again}
use Rattle.search_laws.specs.FactSets.{digit}
use Rattle.set_digits.specs.SetDigits.{Marked}

-- v is w but for the first k words from `at` on, which are those given
pub record Filled (at k : ℕ) (w v : List ℕ) (word : ℕ → ℕ) : Type 0 where
  pub words : (i : ℕ) → i < k → get_or v (at + i) 0 ≡ word i
  pub same : SameOutside at (at + k) w v

-- no word yet
pub filled_none : (at : ℕ) (w : List ℕ) (word : ℕ → ℕ) → Filled at 0 w w word
filled_none at w word = record { words = λ i h. absurd (omega arith); same = outside_same at (at + 0) w }

-- a run of one word put there
pub filled_run : (at k n x : ℕ) (w run : List ℕ) → k ≡ n → at + n ≤ length w → run ≡ replicate n x → Filled at n w (put_mid at k w run) (λ i. x)
filled_run at k n x w run e room is =
    record {
      words = λ i h.
          ap (λ (z : ℕ). get_or (put_mid at k w run) (z + i) 0) (sym before)
          ∙ get_or-append-add (take at w) (run ++ post_of at k w) i 0
          ∙ get_or-append run (post_of at k w) 0 i (omega (arith, long))
          ∙ ap (λ (l : List ℕ). get_or l i 0) is
          ∙ get_or-replicate n i x 0 h;
      same = outside_of_ends at (at + n) w (put_mid at k w run) (simp (length-append, length-take, length-drop) (omega (arith, long)))
          (take-put_mid_below at k w run at (omega arith) (omega arith)) (drop-put_mid at k w run (at + n) (omega arith) (omega arith) long);
    }
  where
    long : length run ≡ k
    long = ap length is ∙ length-replicate n x ∙ sym e

    before : length (take at w) ≡ at
    before = length-take-le at w (omega arith)

module _ {at k : ℕ} {w v : List ℕ} {word : ℕ → ℕ} (f : Filled at k w v word) where
  -- the words before are as they were
  pub filled_before : (j : ℕ) → j < at → get_or v j 0 ≡ get_or w j 0
  filled_before j h = f.same.at j (inl h)

  -- and so are the later ones
  pub filled_later : (i : ℕ) → k ≤ i → get_or v (at + i) 0 ≡ get_or w (at + i) 0
  filled_later i h = f.same.at (at + i) (inr (omega arith))

  -- one word more
  pub filled_next : (x : ℕ) → at + k < length w → x ≡ word k → Filled at (k + 1) w (set v (at + k) x) word
  filled_next x h e =
      record {
        words = λ i l. go i l (tested (ltb i k));
        same = outside_again (outside_wider f.same at (at + (k + 1)) (omega arith) (omega arith))
            (outside_set at (at + (k + 1)) v (at + k) x (omega arith) (omega arith));
      }
    where
      go : (i : ℕ) → i < k + 1 → Tested (ltb i k) → get_or (set v (at + k) x) (at + i) 0 ≡ word i
      go i l (passes p) =
          let m : i < k = ltb-true i k p in
          get_or-set_other v (at + k) (at + i) x 0 (λ (q : at + i ≡ at + k). omega arith) ∙ f.words i m
      go i l (fails p) =
          let q : i ≡ k = omega (arith, ltb-false i k p) in
          ap (λ (j : ℕ). get_or (set v (at + k) x) (at + j) 0) q ∙ get_or-set_same v (at + k) x 0 (omega (arith, f.same.long)) ∙ e ∙ ap word (sym q)

  -- words passed over that are as given already
  pub filled_over : (n : ℕ) → k ≤ n → ((i : ℕ) → k ≤ i → i < n → get_or w (at + i) 0 ≡ word i) → Filled at n w v word
  filled_over n h g =
      record { words = λ i l. go i l (tested (ltb i k)); same = outside_wider f.same at (at + n) (omega arith) (omega arith) }
    where
      go : (i : ℕ) → i < n → Tested (ltb i k) → get_or v (at + i) 0 ≡ word i
      go i l (passes p) = f.words i (ltb-true i k p)
      go i l (fails p) = let m : k ≤ i = ltb-false i k p in filled_later i m ∙ g i m l

  -- the sets marked by the words
  pub filled_marked : (n : ℕ) → k ≡ n → (given : ℕ → ℕ) → ((s : ℕ) → s < 32 * n → digit (word (s / 32)) (s % 32) ≡ given s) → Marked at n w v given
  filled_marked n e given g =
      record {
        digits = λ s h. ap (λ (x : ℕ). digit x (s % 32)) (f.words (s / 32) (omega arith)) ∙ g s h;
        same = outside_wider f.same at (at + n) (omega arith) (omega arith);
      }
