-- The bytes of members and of a report in the work slice are those that document 01 has for them.
use Rattle.std.specs.Prelude.{◌≡◌, length, get_or}
use Rattle.std.proofs.Math.Path.{refl, sym, ap₂}
use Rattle.std.proofs.Common.{ap, ◌∙◌, subst, arith}
use mathlib.Core.List.{List, [], ◌∷◌, ◌++◌, map, append_assoc}
use Prim.Native.Nat.{ℕ, zero, suc, ◌<◌}
use Rattle.std.proofs.lemmas.List.{length-map}
use Rattle.comparison_laws.specs.Lists.{Ascends, concat_map}
use Rattle.work_layout.specs.Tabulate.{tabulate, tabulate_length, tabulate_at}
use Rattle.work_layout.specs.TabulateLaws.{mem_tabulate, ascends_apart}
use Rattle.comparison_laws.specs.SortingLaws.{concat_map_next}
use Rattle.comparison_laws.specs.Sheet.{Configuration, Sheet}
use Rattle.comparison_laws.specs.OrderLaws.{configuration_order}
use Rattle.comparison_laws.specs.Orders.{configuration_before}
use Rattle.work_layout.specs.SetLayout.{member_at, SetHeld}
use Rattle.comparison_laws.specs.Classes.{place_of, class_of}
use Rattle.comparison_laws.specs.ClassLaws.{place_of_lt, place_of_at}
use Rattle.comparison_laws.specs.Trail.{TrailStep}
use Rattle.comparison_laws.specs.SheetBytes.{word_bytes}
use Rattle.work_layout.specs.Report.{Report, member_bytes, members_bytes, step_bytes, report_bytes}
use Rattle.report_records.specs.RecordLayout.{member_bytes_at, step_bytes_at}
use Rattle.report_bytes.specs.ReportLayout.{members_part, held_bytes}
use Rattle.report_bytes.specs.ReportInSlice.{StepNumbers, step_in, step_numbers, MembersHeld, MembersAgree, Agrees}
use Rattle.work_layout.specs.ClassLayout.{class_in, classes_in}

-- lists joined by places are those of the elements at the places
module _ {A : Type 0} (f : A → List ℕ) (g : ℕ → A) (h : ℕ → List ℕ) where
  pub joined_alike : (n : ℕ) → ((i : ℕ) → i < n → h i ≡ f (g i)) → concat_map h (tabulate (λ i. i) n) ≡ concat_map f (tabulate g n)
  unfolding tabulate
  joined_alike zero e = refl
  joined_alike (suc n) e =
      concat_map_next h (tabulate (λ i. i) n) n
      ∙ ap₂ (λ (a b : List ℕ). a ++ b) (joined_alike n (λ i l. e i (omega arith))) (e n (omega arith))
      ∙ sym (concat_map_next f (tabulate g n) (g n))

-- the place of the i-th of different members is i
pub place_is : (g : ℕ → Configuration) (n : ℕ) → Ascends configuration_before (tabulate g n) → (i : ℕ) → i < n → place_of (tabulate g n) (g i) ≡ i
place_is g n asc i l =
    let m = mem_tabulate g n i l in
    let j : ℕ = place_of (tabulate g n) (g i) in
    let b : j < n = omega (arith, place_of_lt (tabulate g n) (g i) m, tabulate_length g n) in
    ascends_apart configuration_order g n asc j i b l
    (sym (tabulate_at g n j (g i) b) ∙ place_of_at (tabulate g n) (g i) m)

-- the bytes of a step, from its four numbers
abbrev numbers_bytes : StepNumbers → List ℕ
numbers_bytes s = (s.side ∷ []) ++ word_bytes s.label ++ word_bytes s.target ++ word_bytes s.reply

steps_bytes : (set : List Configuration) (steps : List TrailStep)
    → concat_map numbers_bytes (map (step_numbers set) steps) ≡ concat_map (step_bytes set) steps
steps_bytes set [] = refl
steps_bytes set (s ∷ steps) = ap (λ (l : List ℕ). step_bytes set s ++ l) (steps_bytes set steps)

-- ---- members
-- a set that stands in the slice can be read from there
pub members_held : {sheet : Sheet} {set : List Configuration} {w : List ℕ} {n m : ℕ} → SetHeld sheet set w n m → MembersHeld w n
members_held H = record { long = H.long; few = H.few.0; packed = H.packed }

-- with the classes that stand there
pub members_agree : {sheet : Sheet} {set : List Configuration} {w : List ℕ} {n m : ℕ} {numbers : List ℕ} → SetHeld sheet set w n m
    → Ascends configuration_before set → classes_in w n ≡ numbers → MembersAgree set numbers w n
members_agree {w = w} {n} H up e =
    record {
      set = H.members;
      ascending = up;
      classes = λ i l. sym (tabulate_at (class_in w) n i 0 l) ∙ ap (λ (c : List ℕ). get_or c i 0) e;
    }

module _ (members : List Configuration) (numbers w : List ℕ) (n : ℕ) (H : MembersAgree members numbers w n) where
  count_in_lem : n ≡ length members
  count_in_lem = sym (tabulate_length (member_at w) n) ∙ ap length H.set

  place_in : (i : ℕ) → i < n → place_of members (member_at w i) ≡ i
  place_in i l =
      subst (λ (set : List Configuration). place_of set (member_at w i) ≡ i) H.set
      (place_is (member_at w) n (subst (Ascends configuration_before) (sym H.set) H.ascending) i l)

  class_in_lem : (i : ℕ) → i < n → class_in w i ≡ class_of members numbers (member_at w i)
  class_in_lem i l = H.classes i l ∙ ap (λ (j : ℕ). get_or numbers j 0) (sym (place_in i l))

  -- their bytes, with the count before them
  pub held_members : members_part w n ≡ word_bytes (length members) ++ members_bytes members numbers
  held_members =
      ap₂ (λ (c : ℕ) (l : List ℕ). word_bytes c ++ l) count_in_lem
      (joined_alike (λ p. member_bytes p (class_of members numbers p)) (member_at w) (member_bytes_at w) n
      (λ i l. ap (member_bytes (member_at w i)) (class_in_lem i l))
      ∙ ap (concat_map (λ p. member_bytes p (class_of members numbers p))) H.set)

-- ---- the report
module _ (r : Report) (w : List ℕ) (n k : ℕ) (H : Agrees r w n k) where
  steps_count : k ≡ length r.steps
  steps_count = sym (tabulate_length (step_in w) k) ∙ ap length H.steps ∙ length-map r.steps (step_numbers r.members)

  steps_in : concat_map (step_bytes_at w) (tabulate (λ i. i) k) ≡ concat_map (step_bytes r.members) r.steps
  steps_in =
      joined_alike numbers_bytes (step_in w) (step_bytes_at w) k (λ i l. refl)
      ∙ ap (concat_map numbers_bytes) H.steps
      ∙ steps_bytes r.members r.steps

  pub held_report : held_bytes w n k ≡ report_bytes r
  held_report =
      let m : List ℕ = word_bytes (length r.members) ++ members_bytes r.members r.classes in
      let s : List ℕ = concat_map (step_bytes r.members) r.steps in
      ap₂ (λ (a b : List ℕ). a ++ b) (held_members r.members r.classes w n H.listed)
      (ap₂ (λ (c : ℕ) (l : List ℕ). word_bytes c ++ l) steps_count steps_in)
      ∙ sym (append_assoc m (word_bytes (length r.steps)) s)
