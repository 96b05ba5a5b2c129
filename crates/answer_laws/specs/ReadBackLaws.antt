-- What is read back from the bytes of a report that fits them is the report.
use Rattle.std.specs.Prelude.{◌≡◌, Bool, cond, length, get_or, take, drop}
use Rattle.std.proofs.Math.Path.{refl, ap, ap₂, subst}
use Rattle.std.proofs.Common.{sym, ◌∙◌, arith, ext_get_or, ne_eqb}
use mathlib.Core.List.{List, [], ◌∷◌, ◌++◌, map, append_assoc, Memᴰ}
use Prim.Native.Nat.{ℕ, zero, suc, ◌<◌}
use Rattle.std.proofs.lemmas.List.{length-map}
use Rattle.std.proofs.Math.Seq.{take-append_seam, drop-append_seam}
use Rattle.comparison_laws.specs.Lists.{concat_map}
use Rattle.comparison_laws.specs.ListPlaces.{get_d_any, get_d_image}
use Rattle.comparison_laws.specs.Sheet.{Configuration}
use Rattle.answers.specs.SheetBytes.{word, word_bytes}
use Rattle.comparison_laws.specs.CallLimits.{no_reply}
use Rattle.comparison_laws.specs.Classes.{place_of, class_of}
use Rattle.comparison_laws.specs.ClassLaws.{place_of_lt, place_of_at}
use Rattle.comparison_laws.specs.Trail.{Side, left, right, Reply, none, move, TrailStep}
use Rattle.answers.specs.Report.{Report, member_bytes, members_bytes, step_bytes, side_byte, reply_number, report_bytes}
use Rattle.answers.specs.ReadBack.{member_first, class_first, behind_threads, behind_member, members_read, classes_read, behind_members, side_read, member_with, reply_read, step_first, steps_read, read_back_lem}
use Rattle.answer_laws.specs.Fitting.{ReplyFits, StepFits, MembersFit, Fitting}
use Rattle.comparison_laws.specs.MemberPlaces.{place_of_member}

-- two bytes in front
word_front : (n : ℕ) (more : List ℕ) → n < 65536 → word (word_bytes n ++ more) 0 ≡ n
word_front n more h = omega arith

-- ---- members
threads_behind : (ts rest more : List ℕ) → drop (length ts) ((ts ++ rest) ++ more) ≡ rest ++ more
threads_behind ts rest more = ap (drop (length ts)) (append_assoc ts rest more) ∙ drop-append_seam ts (rest ++ more)

module _ (p : Configuration) (class : ℕ) (more : List ℕ) where
  behind_threads_lem : behind_threads (member_bytes p class ++ more) ≡ word_bytes class ++ more
  behind_threads_lem = threads_behind p.threads (word_bytes class) more

  class_first_lem : class < 65536 → class_first (member_bytes p class ++ more) ≡ class
  class_first_lem h = ap (λ (l : List ℕ). word l 0) behind_threads_lem ∙ word_front class more h

  behind_member_lem : behind_member (member_bytes p class ++ more) ≡ more
  behind_member_lem = ap (drop 2) behind_threads_lem

  member_first_lem : p.store < 65536 → member_first (member_bytes p class ++ more) ≡ p
  member_first_lem h =
      let ts : List ℕ = p.threads in
      let s : word (member_bytes p class ++ more) 0 ≡ p.store = omega arith in
      let t : take (length ts) ((ts ++ word_bytes class) ++ more) ≡ ts =
      ap (take (length ts)) (append_assoc ts (word_bytes class) more) ∙ take-append_seam ts (word_bytes class ++ more) in
      ap₂ (λ (c : ℕ) (l : List ℕ). record { store = c; threads = l }) s t

module _ (class : Configuration → ℕ) where
  abbrev bytes_of : List Configuration → List ℕ
  bytes_of ps = concat_map (λ p. member_bytes p (class p)) ps

  bytes_next : (p : Configuration) (ps : List Configuration) (more : List ℕ)
      → bytes_of (p ∷ ps) ++ more ≡ member_bytes p (class p) ++ (bytes_of ps ++ more)
  bytes_next p ps more = append_assoc (member_bytes p (class p)) (concat_map (λ p. member_bytes p (class p)) ps) more

  bytes_end : (more : List ℕ) → bytes_of [] ++ more ≡ more
  bytes_end more = refl

  -- the members, their classes and what stands behind them
  record MembersBack (ps : List Configuration) (more s : List ℕ) : Type 0 where
    members : members_read (length ps) s ≡ ps
    classes : classes_read (length ps) s ≡ map class ps
    behind : behind_members (length ps) s ≡ more

  members_back : (ps : List Configuration) (more : List ℕ) → ((p : Configuration) → Memᴰ p ps → (p.store < 65536) × (class p < 65536))
      → MembersBack ps more (bytes_of ps ++ more)
  unfolding members_read classes_read behind_members
  members_back [] more f = record { members = refl; classes = refl; behind = bytes_end more }
  members_back (p ∷ ps) more f =
      let l : List ℕ = bytes_of ps ++ more in
      let here = f p (Memᴰ.head refl) in
      let next : behind_member (member_bytes p (class p) ++ l) ≡ l = behind_member_lem p (class p) l in
      let ih = members_back ps more (λ q i. f q (Memᴰ.tail i)) in
      subst (MembersBack (p ∷ ps) more) (sym (bytes_next p ps more))
      (record {
        members = ap₂ (λ (q : Configuration) (qs : List Configuration). q ∷ qs) (member_first_lem p (class p) l here.0)
            (ap (members_read (length ps)) next ∙ ih.members);
        classes = ap₂ (λ (k : ℕ) (ks : List ℕ). k ∷ ks) (class_first_lem p (class p) l here.1)
            (ap (classes_read (length ps)) next ∙ ih.classes);
        behind = ap (behind_members (length ps)) next ∙ ih.behind;
      })

-- ---- classes
abbrev no_member : Configuration
no_member = record { store = 0; threads = [] }

-- ---- a step
side_back : (side : Side) → side_read (side_byte side) ≡ side
side_back left = refl
side_back right = refl

target_back : (set : List Configuration) (p : Configuration) → Memᴰ p set → member_with set (place_of set p) ≡ p
target_back set p i = get_d_any set (place_of set p) no_member p (place_of_lt set p i) ∙ place_of_at set p i

reply_small : (set : List Configuration) → length set < no_reply → (label : ℕ) (k : Reply) → ReplyFits set label k → reply_number set k < 65536
reply_small set few label none h = omega arith
reply_small set few label (move k) h = omega (arith, place_of_lt set k.target h.1)

reply_back : (set : List Configuration) → length set < no_reply → (label : ℕ) (k : Reply) → ReplyFits set label k
    → reply_read set label (reply_number set k) ≡ k
reply_back set few label none h = refl
reply_back set few label (move k) h =
    let small : place_of set k.target < no_reply = omega (arith, place_of_lt set k.target h.1) in
    ap (λ (b : Bool). cond b none (move (record { label = label; target = member_with set (place_of set k.target) })))
    (ne_eqb (place_of set k.target) no_reply (λ e. omega arith))
    ∙ ap₂ (λ (a : ℕ) (t : Configuration). move (record { label = a; target = t })) (sym h.0) (target_back set k.target h.1)

module _ (set : List Configuration) (few : length set < no_reply) where
  step_back : (t : TrailStep) (more : List ℕ) → StepFits set t → step_first set (step_bytes set t ++ more) ≡ t
  step_back t more h =
      let s : List ℕ = step_bytes set t ++ more in
      let place : place_of set t.target < length set = place_of_lt set t.target h.target in
      let small : reply_number set t.reply < 65536 = reply_small set few t.label t.reply h.reply in
      let label : word s 1 ≡ t.label = omega (arith, h.label) in
      let target : word s 3 ≡ place_of set t.target = omega arith in
      let reply : word s 5 ≡ reply_number set t.reply = omega arith in
      made (side_back t.side) label (ap (member_with set) target ∙ target_back set t.target h.target)
      (ap₂ (reply_read set) label reply ∙ reply_back set few t.label t.reply h.reply)
    where
      made : {a b : Side} {m n : ℕ} {p q : Configuration} {j k : Reply} → a ≡ b → m ≡ n → p ≡ q → j ≡ k
          → ◌≡◌ {A = TrailStep} (record { side = a; label = m; target = p; reply = j }) (record { side = b; label = n; target = q; reply = k })
      made e f g h = cc

  steps_back : (steps : List TrailStep) (more : List ℕ) → ((t : TrailStep) → Memᴰ t steps → StepFits set t)
      → steps_read set (length steps) (concat_map (step_bytes set) steps ++ more) ≡ steps
  unfolding steps_read
  steps_back [] more f = refl
  steps_back (t ∷ ts) more f =
      let l : List ℕ = concat_map (step_bytes set) ts ++ more in
      ap (steps_read set (suc (length ts))) (append_assoc (step_bytes set t) (concat_map (step_bytes set) ts) more)
      ∙ ap₂ (λ (x : TrailStep) (xs : List TrailStep). x ∷ xs) (step_back t l (f t (Memᴰ.head refl)))
      (steps_back ts more (λ u i. f u (Memᴰ.tail i)))

-- ---- members with their classes
-- the classes of the members of a set in its order are the class numbers
classes_back : (set : List Configuration) (numbers : List ℕ) → MembersFit set numbers → map (class_of set numbers) set ≡ numbers
classes_back set numbers fit =
    let f : Configuration → ℕ = class_of set numbers in
    ext_get_or 0 (map f set) numbers (length-map set f ∙ sym fit.numbered) (λ i h.
    let l : i < length set = omega (arith, h, length-map set f) in
    get_d_image f set i no_member 0 l ∙ ap (λ (k : ℕ). get_or numbers k 0) (place_of_member set fit.ordered no_member i l))

-- what is read from bytes that begin with the count of members and the members with their classes
pub record ListedBack (set : List Configuration) (numbers more s : List ℕ) : Type 0 where
  pub members : members_read (word s 0) (drop 2 s) ≡ set
  pub classes : classes_read (word s 0) (drop 2 s) ≡ numbers
  pub behind : behind_members (word s 0) (drop 2 s) ≡ more

pub listed_back : (set : List Configuration) (numbers more : List ℕ) → MembersFit set numbers
    → ListedBack set numbers more (word_bytes (length set) ++ (members_bytes set numbers ++ more))
listed_back set numbers more fit =
    let s : List ℕ = word_bytes (length set) ++ (members_bytes set numbers ++ more) in
    let count : word s 0 ≡ length set = omega (arith, fit.few) in
    let back = members_back (class_of set numbers) set more (λ p i.
    (fit.stores p i, fit.classes (place_of set p) (place_of_lt set p i))) in
    record {
      members = ap (λ (n : ℕ). members_read n (drop 2 s)) count ∙ back.members;
      classes = ap (λ (n : ℕ). classes_read n (drop 2 s)) count ∙ back.classes ∙ classes_back set numbers fit;
      behind = ap (λ (n : ℕ). behind_members n (drop 2 s)) count ∙ back.behind;
    }

-- ---- the report
regroup : (a b c d : List ℕ) → ((a ++ b) ++ c) ++ d ≡ a ++ (b ++ (c ++ d))
regroup a b c d = simp append_assoc

-- a report with these members, classes and steps
with_lists : Report → List Configuration → List ℕ → List TrailStep → Report
with_lists q members classes steps =
    record { verdict = q.verdict; round = q.round; left_place = q.left_place; right_place = q.right_place; members = members; classes = classes; steps = steps }

same_report : (q : Report) {members : List Configuration} {classes : List ℕ} {steps : List TrailStep}
    → members ≡ q.members → classes ≡ q.classes → steps ≡ q.steps → with_lists q members classes steps ≡ q
unfolding with_lists
same_report q {members} {classes} {steps} e f g =
    ap (λ (x : List Configuration). with_lists q x classes steps) e
    ∙ ap (λ (x : List ℕ). with_lists q q.members x steps) f
    ∙ ap (λ (x : List TrailStep). with_lists q q.members q.classes x) g

-- from what was returned of a report and from its bytes, whatever stands behind them, the report is read back
pub read_back : (q : Report) (more : List ℕ) → Fitting q
    → read_back_lem q.verdict q.round q.left_place q.right_place (report_bytes q ++ more) ≡ q
unfolding read_back_lem with_lists
read_back q more fit =
    let set : List Configuration = q.members in
    let k : ℕ = length q.steps in
    let ms : List ℕ = members_bytes set q.classes in
    let tail : List ℕ = word_bytes k ++ (concat_map (step_bytes set) q.steps ++ more) in
    let s : List ℕ = report_bytes q ++ more in
    let parts : s ≡ word_bytes (length set) ++ (ms ++ tail) =
    ap (λ (l : List ℕ). word_bytes (length set) ++ l) (regroup ms (word_bytes k) (concat_map (step_bytes set) q.steps) more) in
    let back = subst (ListedBack set q.classes tail) (sym parts) (listed_back set q.classes tail fit.listed) in
    let few : length set < no_reply = omega (arith, fit.listed.few) in
    let steps_count : word tail 0 ≡ k = omega (arith, fit.few_steps) in
    same_report q back.members back.classes
    (ap₂ (λ (ms : List Configuration) (rest : List ℕ). steps_read ms (word rest 0) (drop 2 rest)) back.members back.behind
    ∙ ap (λ (j : ℕ). steps_read set j (drop 2 tail)) steps_count
    ∙ steps_back set few q.steps more fit.steps)
