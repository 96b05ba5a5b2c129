-- Laws of the bytes of a word, a member and a step, as they are stored.
use Rattle.std.specs.Prelude.{◌≡◌, refl, List, ◌∷◌, ◌++◌, ℕ, ◌+◌, ◌*◌, ◌/◌, ◌%◌, ◌<◌, length, get_or, take, set}
use Rattle.std.proofs.Common.{sym, ap, ◌∙◌, subst, add-one, arith, length-append, length-take-le}
use Rattle.text.specs.Slices.{Stored}
use Rattle.text.specs.StoredText.{stored_then, stored_byte, stored_more}
use Rattle.packing.specs.Packing.{eight_bytes}
use Rattle.packing.proofs.PackingLaws.{packed_count}
use Rattle.packing.specs.SheetBytes.{word_bytes}
use Rattle.report_records.specs.RecordLayout.{PackedAt, side_in, label_in, target_in, reply_in, member_bytes_at, step_bytes_at}
use Rattle.work_layout.specs.WorkLayout.{members_at}
use Rattle.work_layout.specs.ClassLayout.{class_in}

pub stored_word : (out : List ℕ) (at x : ℕ) → Stored out at (word_bytes x) (set (set out at (x % 256)) (at + 1) (x / 256 % 256)) (at + 2)
stored_word out at x = record { place = refl; list = rw (add-one at) }

-- one thread more of eight
pub stored_thread : (b c i t : ℕ) {out after : List ℕ} {at : ℕ} → i < 8 → t ≡ get_or (eight_bytes b c) i 0
    → Stored out at (take i (eight_bytes b c)) after (at + i) → Stored out at (take (i + 1) (eight_bytes b c)) (set after (at + i) t) (at + (i + 1))
stored_thread b c i t {out} {after} {at} h e s =
    let m = stored_more (eight_bytes b c) i (omega arith) s in
    record { place = omega (arith, m.place); list = ap (set after (at + i)) e ∙ m.list }

-- the first number of the member at place i
abbrev pub first_in : List ℕ → ℕ → ℕ
first_in w i = get_or w (members_at + 3 * i) 0

-- its threads
abbrev pub threads_in : List ℕ → ℕ → List ℕ
threads_in w i = take (first_in w i % 256) (eight_bytes (get_or w (members_at + 3 * i + 1) 0) (get_or w (members_at + 3 * i + 2) 0))

pub threads_count : (w : List ℕ) (i : ℕ) → PackedAt w i → length (threads_in w i) ≡ first_in w i % 256
threads_count w i p =
    let e = eight_bytes (get_or w (members_at + 3 * i + 1) 0) (get_or w (members_at + 3 * i + 2) 0) in
    length-take-le (first_in w i % 256) e (omega (arith, packed_count p))

-- a member takes five bytes and one for each thread
pub member_length_lem : (w : List ℕ) (i : ℕ) → PackedAt w i → length (member_bytes_at w i) ≡ 5 + first_in w i % 256
member_length_lem w i p =
    let a : List ℕ = word_bytes (first_in w i / 256) ++ (length (threads_in w i) ∷ threads_in w i) in
    omega (arith, length-append a (word_bytes (class_in w i)), threads_count w i p)

pub stored_member : (w : List ℕ) (i : ℕ) → PackedAt w i → {out o1 o2 o3 : List ℕ} {at p1 p2 p3 : ℕ}
    → Stored out at (word_bytes (first_in w i / 256)) o1 p1
    → Stored (set o1 p1 (first_in w i % 256)) (p1 + 1) (threads_in w i) o2 p2
    → Stored o2 p2 (word_bytes (class_in w i)) o3 p3
    → Stored out at (member_bytes_at w i) o3 p3
stored_member w i p {out} {o1} {o2} {o3} {at} {p1} {p2} {p3} s t u =
    subst (λ (c : ℕ). Stored out at (word_bytes (first_in w i / 256) ++ (c ∷ threads_in w i) ++ word_bytes (class_in w i)) o3 p3)
    (sym (threads_count w i p))
    (stored_then (stored_then (stored_then s (stored_byte o1 p1 (first_in w i % 256))) t) u)

pub stored_step : (w : List ℕ) (i : ℕ) {out o1 o2 o3 : List ℕ} {at p1 p2 p3 : ℕ}
    → Stored (set out at (side_in w i)) (at + 1) (word_bytes (label_in w i)) o1 p1
    → Stored o1 p1 (word_bytes (target_in w i)) o2 p2
    → Stored o2 p2 (word_bytes (reply_in w i)) o3 p3
    → Stored out at (step_bytes_at w i) o3 p3
stored_step w i {out} {at = at} s t u = stored_then (stored_then (stored_then (stored_byte out at (side_in w i)) s) t) u
