-- What is read of an answer that holds the bytes of a report: its members with their classes, and its steps.
use Rattle.std.specs.Prelude.{◌≡◌, refl, List, ◌∷◌, ◌++◌, ℕ, ◌+◌, ◌≤◌, ◌<◌, length, get_or, take, drop}
use Rattle.std.proofs.Common.{sym, ap, ap₂, ◌∙◌, append_assoc, arith, length-append, length-drop, get_or-drop, drop-drop, take_at}
use Rattle.std.proofs.Math.Seq.{drop-append_seam}
use Rattle.text.specs.TabulateLaws.{part_tabulate}
use Rattle.report_fields.specs.SheetLimits.{max_threads}
use Rattle.report_fields.specs.SheetBytes.{word, word_bytes}
use Rattle.report_fields.specs.Sheet.{Configuration}
use Rattle.report_fields.specs.CallLimits.{no_reply}
use Rattle.report_fields.specs.Classes.{place_of, same_configuration}
use Rattle.answer_laws.specs.ClassLaws.{position_le}
use Rattle.report_fields.specs.Trail.{Side, left, right, Reply, none, move, TrailStep}
use Rattle.report_fields.specs.Report.{member_bytes, step_bytes, side_byte, reply_number}
use Rattle.report_fields.specs.Print.{member_line, step_line, side_letter, reply_text}
use Rattle.report_fields.specs.TextLaws.{reply_some}
use Rattle.report_fields.specs.AnswerFields.{thread_count, threads_in, letter_of, reply_of}
use Rattle.report_text.specs.AnswerText.{member_in, class_in, member_end, member_text, step_text, step_end}

-- ---- a byte, a two-byte number and what follows
byte_read : (s l : List ℕ) (at j : ℕ) → drop at s ≡ l → get_or s (at + j) 0 ≡ get_or l j 0
byte_read s l at j h = sym (get_or-drop at s j 0) ∙ ap (λ (x : List ℕ). get_or x j 0) h

first_read : (s l : List ℕ) (at : ℕ) → drop at s ≡ l → get_or s at 0 ≡ get_or l 0 0
first_read s l at h = let e : at ≡ at + 0 = omega arith in ap (λ (k : ℕ). get_or s k 0) e ∙ byte_read s l at 0 h

pub word_read : (s : List ℕ) (at n : ℕ) (more : List ℕ) → drop at s ≡ word_bytes n ++ more → n < 65536 → word s at ≡ n
word_read s at n more h l = omega (arith, first_read s (word_bytes n ++ more) at h, byte_read s (word_bytes n ++ more) at 1 h)

rest_from : (s l : List ℕ) (at k : ℕ) → drop at s ≡ l → drop (at + k) s ≡ drop k l
rest_from s l at k h = sym (drop-drop k at s) ∙ ap (drop k) h

-- after a two-byte number
pub word_rest : (s : List ℕ) (at n : ℕ) (more : List ℕ) → drop at s ≡ word_bytes n ++ more → drop (at + 2) s ≡ more
word_rest s at n more h = rest_from s (word_bytes n ++ more) at 2 h

-- ---- a member
-- the member, its class and its end, as they are read from a place
pub record MemberRead (s : List ℕ) (at : ℕ) (p : Configuration) (class : ℕ) : Type 0 where
  pub member : member_in s at ≡ p
  pub its_class : class_in s at ≡ class
  pub end : member_end s at ≡ at + length (member_bytes p class)

pub member_read : (s : List ℕ) (at : ℕ) (p : Configuration) (class : ℕ) (more : List ℕ) → drop at s ≡ member_bytes p class ++ more
    → p.store < 65536 → length p.threads ≤ max_threads → class < 65536 → MemberRead s at p class
member_read s at p class more h store few small =
    let ts : List ℕ = p.threads in
    let n : ℕ = length ts in
    let all : List ℕ = member_bytes p class ++ more in
    let store_is : word s at ≡ p.store = word_read s at p.store ((n ∷ (ts ++ word_bytes class)) ++ more) h store in
    let count : get_or s (at + 2) 0 ≡ n = byte_read s all at 2 h in
    let count_is : thread_count s at ≡ n = omega arith in
    let tail : drop (at + 3) s ≡ ts ++ (word_bytes class ++ more) =
    rest_from s all at 3 h ∙ append_assoc ts (word_bytes class) more in
    let long : length (drop (at + 3) s) ≡ n + length (word_bytes class ++ more) =
    ap length tail ∙ length-append ts (word_bytes class ++ more) in
    let inside : at + 3 + n ≤ length s = omega (arith, length-drop (at + 3) s) in
    let threads-are : threads_in s (at + 3) n ≡ ts =
    sym (part_tabulate s (at + 3) n inside) ∙ ap (take n) tail ∙ take_at ts (word_bytes class ++ more) n refl in
    let class_at : drop (at + 3 + n) s ≡ word_bytes class ++ more =
    rest_from s (ts ++ (word_bytes class ++ more)) (at + 3) n tail ∙ drop-append_seam ts (word_bytes class ++ more) in
    record {
      member =
          ap₂ (λ (c : ℕ) (l : List ℕ). record { store = c; threads = l }) store_is
          (ap (threads_in s (at + 3)) count_is ∙ threads-are);
      its_class = ap (λ (k : ℕ). word s (at + 3 + k)) count_is ∙ word_read s (at + 3 + n) class more class_at small;
      end = omega (arith, length-append ts (word_bytes class));
    }

-- the line of a member is that of its bytes
pub member_text_lem : (s : List ℕ) (at position : ℕ) (p : Configuration) (class : ℕ) → MemberRead s at p class
    → member_text s position at ≡ member_line position p class
member_text_lem s at position p class r = ap₂ (λ (q : Configuration) (k : ℕ). member_line position q k) r.member r.its_class

-- ---- a step
letter_is : (side : Side) → letter_of (side_byte side) ≡ side_letter side
letter_is left = refl
letter_is right = refl

-- a position in a set of few members is not the number for none
reply_is : (set : List Configuration) (reply : Reply) → length set < no_reply
    → (reply_number set reply < 65536) × (reply_of (reply_number set reply) ≡ reply_text set reply)
reply_is set none h = (omega arith, refl)
reply_is set (move k) h =
    let l : place_of set k.target < no_reply = omega (arith, position_le (same_configuration k.target) set) in
    (omega arith, sym (reply_some (place_of set k.target) (omega arith)))

pub step_read : (s : List ℕ) (at : ℕ) (set : List Configuration) (t : TrailStep) (more : List ℕ) → drop at s ≡ step_bytes set t ++ more
    → length set < no_reply → t.label < 65536 → (step_text s at ≡ step_line set t) × (step_end at ≡ at + length (step_bytes set t))
step_read s at set t more h few small =
    let place : ℕ = place_of set t.target in
    let number : ℕ = reply_number set t.reply in
    let reply = reply_is set t.reply few in
    let all : List ℕ = step_bytes set t ++ more in
    let side_is : get_or s at 0 ≡ side_byte t.side = first_read s all at h in
    let label_is : word s (at + 1) ≡ t.label =
    word_read s (at + 1) t.label (word_bytes place ++ word_bytes number ++ more) (rest_from s all at 1 h) small in
    let target_is : word s (at + 3) ≡ place =
    word_read s (at + 3) place (word_bytes number ++ more) (rest_from s all at 3 h)
    (omega (arith, position_le (same_configuration t.target) set)) in
    let reply_is : word s (at + 5) ≡ number = word_read s (at + 5) number more (rest_from s all at 5 h) reply.0 in (
      rw (side_is, label_is, target_is, reply_is, letter_is t.side, reply.1),
      omega arith,
    )
