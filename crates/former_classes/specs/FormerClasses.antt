-- Classes as they were before the last round, while there were `count` of them.
use Rattle.std.specs.Prelude.{◌≡◌, refl, Bool, cond, List, ℕ, ◌+◌, ◌/◌, ◌≤◌, ◌<◌, length, set, eqb, ltb}
use Rattle.std.proofs.Common.{sym, ap, ◌∙◌, inr, arith, get_or-set_same, get_or-set_other, eqb-true, lt-ltb, le-ltb}
use Rattle.std.proofs.lemmas.Bool.{eqb-false}
use Rattle.work_layout.specs.TestLaws.{Tested, tested, passes, fails}
use Rattle.work_layout.specs.Frames.{SameOutside, outside_same, outside_set, outside_again}
use Rattle.work_layout.specs.WorkLayout.{work_end, classes_at, births_at, member_room}
use Rattle.work_layout.specs.ClassLayout.{class_in, from_in_lem}

-- the number that class c had: its own where it is one of them, and otherwise that of the class it came from
abbrev pub former_in : List ℕ → ℕ → ℕ → ℕ
former_in w count c = cond (ltb c count) c (from_in_lem w c)

pub former_own : (w : List ℕ) (count c : ℕ) → c < count → former_in w count c ≡ c
former_own w count c l = ap (λ (b : Bool). cond b c (from_in_lem w c)) (lt-ltb c count l)

pub former_from : (w : List ℕ) (count c : ℕ) → count ≤ c → former_in w count c ≡ from_in_lem w c
former_from w count c l = ap (λ (b : Bool). cond b c (from_in_lem w c)) (le-ltb c count l)

-- w is v with the former classes of the first k places; only classes are changed
pub record Restored (v : List ℕ) (count k : ℕ) (w : List ℕ) : Type 0 where
  pub only : SameOutside classes_at births_at v w
  pub done : (i : ℕ) → i < k → class_in w i ≡ former_in v count (class_in v i)
  pub left : (i : ℕ) → k ≤ i → i < member_room → class_in w i ≡ class_in v i

pub restored_none : (v : List ℕ) (count : ℕ) → Restored v count 0 v
restored_none v count =
    record { only = outside_same classes_at births_at v; done = λ i l. absurd (omega arith); left = λ i h l. refl }

module _ {v : List ℕ} {count k : ℕ} {w : List ℕ} (R : Restored v count k w) (few : k < member_room) where
  -- births are left as they are
  pub restored_former : (c : ℕ) → former_in w count c ≡ former_in v count c
  restored_former c = ap (λ (b : ℕ). cond (ltb c count) c (b / 65536)) (R.only.at (births_at + c) (inr (omega arith)))

  -- one place more
  pub restored_next : work_end ≤ length v → (c former : ℕ) → c ≡ class_in w k → former ≡ former_in w count c
      → Restored v count (k + 1) (set w (classes_at + k) former)
  restored_next long c former ec ef =
      record {
        only = outside_again R.only (outside_set classes_at births_at w (classes_at + k) former (omega arith) (omega arith));
        done = λ i l. done i l (tested (eqb i k));
        left = λ i h l. get_or-set_other w (classes_at + k) (classes_at + i) former 0 (λ z. omega arith) ∙ R.left i (omega arith) l;
      }
    where
      is : former ≡ former_in v count (class_in v k)
      is = ef ∙ restored_former c ∙ ap (former_in v count) (ec ∙ R.left k (omega arith) few)

      done : (i : ℕ) → i < k + 1 → Tested (eqb i k) → class_in (set w (classes_at + k) former) i ≡ former_in v count (class_in v i)
      done i l (passes e) =
          let z : i ≡ k = eqb-true i k e in
          ap (class_in (set w (classes_at + k) former)) z
          ∙ get_or-set_same w (classes_at + k) former 0 (omega (arith, R.only.long)) ∙ is ∙ ap (λ (j : ℕ). former_in v count (class_in v j)) (sym z)
      done i l (fails e) =
          get_or-set_other w (classes_at + k) (classes_at + i) former 0 (λ z. eqb-false i k e (omega arith))
          ∙ R.done i (omega (arith, eqb-false i k e))
