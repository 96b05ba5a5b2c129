-- The first round that has two members apart, by climbing from the higher of their two classes.
use Rattle.std.specs.Prelude.{◌≡◌, refl, List, ℕ, zero, suc, ◌+◌, ◌≤◌, ◌<◌, min, max, length}
use Rattle.std.proofs.Common.{sym, ap, ap₂, ◌∙◌, subst, arith}
use Rattle.work_layout.specs.Sheet.{Configuration, Sheet}
use Rattle.work_layout.specs.SetLayout.{member_at}
use Rattle.work_layout.specs.Classes.{class_of}
use Rattle.work_layout.specs.Rounds.{rounds, apart_in}
use Rattle.class_rounds.specs.ClassBirths.{apart_from_lem, apart, apart_same, apart_founders, apart_up}
use Rattle.class_rounds.specs.SetClasses.{present_first}
use Rattle.class_rounds.specs.ClassPlaces.{places_present}
use Rattle.class_rounds.specs.RoundLayout.{held_in, held_count_lem, class_held_lem}
use Rattle.class_rounds.specs.ClassedPlaces.{classed_count}
use Rattle.class_rounds.specs.RoundAtHand.{nobody}
use Rattle.class_rounds.specs.RoundsDone.{RoundsHeld}
use Rattle.work_layout.specs.WorkLayout.{work_end, member_room}
use Rattle.work_layout.specs.ClassLayout.{class_in, classes_in, born_in, from_in_lem}

-- Each class below `count`, two of them at hand, is a founder or came from a lower one.
pub record Falls (w : List ℕ) (a b : ℕ) : Type 0 where
  pub count : ℕ
  pub few : count ≤ member_room
  pub long : work_end ≤ length w
  pub inside : (a < count) × (b < count)
  pub lower : (c : ℕ) → c < count → 0 < born_in w c → from_in_lem w c < c

-- what the search answers from any two classes on, with as many steps as are left
pub record Climbing (w : List ℕ) (last first second r a b : ℕ) : Type 0 where
  pub falls : Falls w a b
  pub steps : ℕ
  pub enough : a + b < steps
  pub answer : apart_from_lem (from_in_lem w) (born_in w) steps r a b ≡ apart (from_in_lem w) (born_in w) last first second

pub climbing_first : (w : List ℕ) (last first second : ℕ) → Falls w first second → Climbing w last first second last first second
climbing_first w last first second F = record { falls = F; steps = suc (first + second); enough = omega arith; answer = refl }

module _ {w : List ℕ} {last first second r a b : ℕ} (C : Climbing w last first second r a b) where
  -- the higher class has a birth to be read
  pub climbing_high : max a b < C.falls.count
  climbing_high = omega (arith, C.falls.inside)

  -- the two are one class
  pub climbing_same : a ≡ b → r ≡ apart (from_in_lem w) (born_in w) last first second
  climbing_same e = go C.steps C.enough C.answer
    where
      go : (k : ℕ) → a + b < k → apart_from_lem (from_in_lem w) (born_in w) k r a b ≡ apart (from_in_lem w) (born_in w) last first second
          → r ≡ apart (from_in_lem w) (born_in w) last first second
      go zero h x = absurd (omega arith)
      go (suc k) h x = sym (apart_same (from_in_lem w) (born_in w) k r a b e) ∙ x

  module _ (d : a ≡ b → ⊥) (high low : ℕ) (eh : high ≡ max a b) (el : low ≡ min a b) where
    -- the higher one is a founder
    pub climbing_founders : born_in w high ≡ 0 → 0 ≡ apart (from_in_lem w) (born_in w) last first second
    climbing_founders e = go C.steps C.enough C.answer
      where
        go : (k : ℕ) → a + b < k → apart_from_lem (from_in_lem w) (born_in w) k r a b ≡ apart (from_in_lem w) (born_in w) last first second
            → 0 ≡ apart (from_in_lem w) (born_in w) last first second
        go zero h x = absurd (omega arith)
        go (suc k) h x = sym (apart_founders (from_in_lem w) (born_in w) k r a b d (ap (born_in w) (sym eh) ∙ e)) ∙ x

    -- the class that it came from is lower, so the two together are
    pub climbing_lower : (born_in w high ≡ 0 → ⊥) → low + from_in_lem w high < a + b
    climbing_lower z =
        omega (arith, C.falls.lower high (omega (arith, C.falls.inside)) (omega (arith, z)))

    pub climbing_up : (born_in w high ≡ 0 → ⊥) → Climbing w last first second (born_in w high) low (from_in_lem w high)
    climbing_up z = go C.steps C.enough C.answer
      where
        go : (k : ℕ) → a + b < k → apart_from_lem (from_in_lem w) (born_in w) k r a b ≡ apart (from_in_lem w) (born_in w) last first second
            → Climbing w last first second (born_in w high) low (from_in_lem w high)
        go zero h x = absurd (omega arith)
        go (suc k) h x =
            let f : from_in_lem w high < high = C.falls.lower high (omega (arith, C.falls.inside)) (omega (arith, z)) in
            let m : born_in w (max a b) ≡ 0 → ⊥ = subst (λ (v : ℕ). born_in w v ≡ 0 → ⊥) eh z in record {
              falls = record {
                count = C.falls.count;
                few = C.falls.few;
                long = C.falls.long;
                inside = (omega (arith, C.falls.inside), omega (arith, C.falls.inside));
                lower = C.falls.lower;
              };
              steps = k;
              enough = omega (arith, climbing_lower z);
              answer =
                  ap₂ (λ (g l : ℕ). apart_from_lem (from_in_lem w) (born_in w) k (born_in w g) l (from_in_lem w g)) eh el
                  ∙ sym (apart_up (from_in_lem w) (born_in w) k r a b d m) ∙ x;
            }

-- the same of the classes of n places
pub record ClassesFall (w : List ℕ) (n : ℕ) : Type 0 where
  pub count : ℕ
  pub few : count ≤ member_room
  pub long : work_end ≤ length w
  pub known : (i : ℕ) → i < n → class_in w i < count
  pub lower : (c : ℕ) → c < count → 0 < born_in w c → from_in_lem w c < c

pub places_fall : {w : List ℕ} {n : ℕ} → ClassesFall w n → (i j : ℕ) → i < n → j < n → Falls w (class_in w i) (class_in w j)
places_fall F i j li lj = record {
  count = F.count;
  few = F.few;
  long = F.long;
  inside = (F.known i li, F.known j lj);
  lower = F.lower;
}

-- ---- after the rounds
module _ {sheet : Sheet} {set : List Configuration} {w : List ℕ} {n m r count : ℕ} (H : RoundsHeld sheet set w n m r count) where
  pub rounds_fall : ClassesFall w n
  rounds_fall = record {
    count = count;
    few = omega (arith, classed_count H.classed, H.ready.held.few.0);
    long = H.ready.held.long;
    known = H.classed.known;
    lower = H.present.births.from_lower;
  }

  -- what is worked out from the births of all rounds is the first round that has the two members apart
  pub rounds_apart : length (rounds sheet set) ≡ suc r → (i j : ℕ) → i < n → j < n
      → apart (from_in_lem w) (born_in w) (suc r) (class_in w i) (class_in w j) ≡ apart_in set (rounds sheet set) (member_at w i) (member_at w j)
  rounds_apart last i j li lj =
      let s = H.ready.held in
      ap₂ (λ (a b : ℕ). apart (from_in_lem w) (born_in w) (suc r) a b)
      (sym (class_held_lem sheet set w n m s H.ready.ascends i li)) (sym (class_held_lem sheet set w n m s H.ready.ascends j lj))
      ∙ present_first sheet set H.ready.wf H.ready.closed (from_in_lem w) (born_in w) count r (class_of set (classes_in w n))
      (places_present sheet set nobody H.ready.wf (from_in_lem w) (born_in w) count r (classes_in w n) H.present)
      (classes_in w n) (λ p k. refl) (omega (arith, held_count_lem sheet set w n m s, H.ready.some)) last
      (member_at w i) (member_at w j) (held_in sheet set w n m s i li) (held_in sheet set w n m s j lj)
