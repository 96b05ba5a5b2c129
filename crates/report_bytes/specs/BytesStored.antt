-- Laws of bytes that are stored one part after another.
use Rattle.std.specs.Prelude.{◌≡◌, refl, List, [], ◌++◌, ℕ, zero, suc, ◌+◌, ◌*◌, ◌-◌, ◌≤◌, ◌<◌, length, take, drop}
use Rattle.std.proofs.Common.{sym, ap, ap₂, ◌∙◌, subst, append-nil, append_assoc, zero-add, arith, length-append, length-drop, drop_of_length-le, take_all, take_at, drop_at, drop-drop}
use Rattle.std.proofs.lemmas.List.Edits.{sets-eq}
use borrow.Rule.Slice.PartMut.{put_mid, mid_of}
use Rattle.work_layout.specs.Tabulate.{tabulate, tabulate_none, tabulate_next}
use Rattle.comparison_laws.specs.Lists.{concat_map}
use Rattle.comparison_laws.specs.SortingLaws.{concat_map_next}
use Rattle.report_records.specs.Slices.{Stored}
use Rattle.report_records.specs.StoredText.{stored_then, stored_length}
use Rattle.report_records.specs.PackingLaws.{packed_count}
use Rattle.report_records.specs.RecordLayout.{PackedAt, member_bytes_at, step_bytes_at}
use Rattle.report_records.specs.RecordsStored.{member_length_lem}
use Rattle.report_bytes.specs.ReportLayout.{members_part, trail_part, held_bytes}

-- ---- parts by their places
-- the first n parts, one after another
abbrev pub joined : (ℕ → List ℕ) → ℕ → List ℕ
joined f n = concat_map f (tabulate (λ i. i) n)

module _ (f : ℕ → List ℕ) where
  pub joined_next : (i : ℕ) → joined f (i + 1) ≡ joined f i ++ f i
  joined_next i = ap (concat_map f) (tabulate_next (λ j. j) i) ∙ concat_map_next f (tabulate (λ j. j) i) i

  pub joined_none : joined f 0 ≡ []
  joined_none = ap (concat_map f) (tabulate_none (λ j. j))

  pub stored_none : (out : List ℕ) (at : ℕ) → Stored out at (joined f 0) out at
  stored_none out at = record { place = omega (arith, ap length joined_none); list = rw joined_none }

  pub joined_length : (i : ℕ) → length (joined f (i + 1)) ≡ length (joined f i) + length (f i)
  joined_length i = ap length (joined_next i) ∙ length-append (joined f i) (f i)

  joined_more : (i k : ℕ) → length (joined f i) ≤ length (joined f (i + k))
  joined_more i zero = let e : i + 0 ≡ i = omega arith in omega (arith, ap (λ (j : ℕ). length (joined f j)) e)
  joined_more i (suc k) =
      let e : i + suc k ≡ i + k + 1 = omega arith in
      omega (arith, ap (λ (j : ℕ). length (joined f j)) e, joined_length (i + k), joined_more i k)

  -- fewer parts are no longer
  pub joined_within : (i n : ℕ) → i ≤ n → length (joined f i) ≤ length (joined f n)
  joined_within i n h =
      let e : i + (n - i) ≡ n = omega arith in omega (arith, ap (λ (j : ℕ). length (joined f j)) e, joined_more i (n - i))

  -- room for one part more, where there is room for all
  pub joined_room : (i n : ℕ) → i < n → length (joined f i) + length (f i) ≤ length (joined f n)
  joined_room i n h = omega (arith, joined_within (i + 1) n (omega arith), joined_length i)

  pub stored_next : {out mid after : List ℕ} {at p q : ℕ} (i : ℕ) → Stored out at (joined f i) mid p → Stored mid p (f i) after q
      → Stored out at (joined f (i + 1)) after q
  stored_next {out} {after = after} {at} {q = q} i s t =
      subst (λ (l : List ℕ). Stored out at l after q) (sym (joined_next i)) (stored_then s t)

pub steps_length : (w : List ℕ) (k : ℕ) → length (joined (step_bytes_at w) k) ≡ 7 * k
unfolding tabulate
steps_length w zero = refl
steps_length w (suc k) =
    let e : suc k ≡ k + 1 = omega arith in
    omega (arith, ap (λ (j : ℕ). length (joined (step_bytes_at w) j)) e, joined_length (step_bytes_at w) k, steps_length w k)

-- no member is longer than thirteen bytes
pub members_within : (w : List ℕ) (n : ℕ) → ((i : ℕ) → i < n → PackedAt w i) → length (members_part w n) ≤ 2 + 13 * n
unfolding tabulate
members_within w zero f = omega arith
members_within w (suc n) f =
    let e : suc n ≡ n + 1 = omega arith in
    let p = f n (omega arith) in
    omega (
      arith,
      ap (λ (j : ℕ). length (joined (member_bytes_at w) j)) e,
      joined_length (member_bytes_at w) n,
      member_length_lem w n p,
      packed_count p,
      members_within w n (λ i l. f i (omega arith)),
    )

-- the members, two bytes for the count of steps, and seven for each step
pub held_length : (w : List ℕ) (n k : ℕ) → length (held_bytes w n k) ≡ length (members_part w n) + 2 + 7 * k
held_length w n k = omega (arith, length-append (members_part w n) (trail_part w k), steps_length w k)

-- ---- from the slice's start, and a part that is lent
pub stored_front : {out text after : List ℕ} {next : ℕ} → Stored out 0 text after next → length text ≤ length out
    → after ≡ text ++ drop (length text) out
stored_front {out} {text} s h = s.list ∙ sets-eq text out 0 (omega arith) ∙ ap (λ (k : ℕ). text ++ drop k out) (zero-add (length text))

tail_mid : (a : ℕ) (xs : List ℕ) → mid_of a (length xs - a) xs ≡ drop a xs
tail_mid a xs = take_all (length xs - a) (drop a xs) (omega (arith, length-drop a xs))

tail_put : (a : ℕ) (xs ys : List ℕ) → put_mid a (length xs - a) xs ys ≡ take a xs ++ ys
tail_put a xs ys =
    ap (λ (l : List ℕ). take a xs ++ l)
    (ap (λ (l : List ℕ). ys ++ l) (drop_of_length-le (drop a xs) {i = length xs - a} (omega (arith, length-drop a xs))) ∙ append-nil ys)

-- members stored from the slice's start, and the trail in the part after them, lent and come back
pub lent_after : (out members mid trail last : List ℕ) (at : ℕ) → Stored out 0 members mid at → length (members ++ trail) ≤ length out
    → last ≡ trail ++ drop (length trail) (mid_of at (length mid - at) mid)
    → put_mid at (length mid - at) mid last ≡ members ++ trail ++ drop (length (members ++ trail)) out
lent_after out members mid trail last at s h e =
    let room : length members ≤ length out = omega (arith, length-append members trail) in
    let rest : List ℕ = drop (length members) out in
    let m : mid ≡ members ++ rest = stored_front s room in
    let p : length members ≡ at = omega (arith, s.place) in
    let front : take at mid ≡ members = ap (take at) m ∙ take_at members rest at p in
    let behind : mid_of at (length mid - at) mid ≡ rest = tail_mid at mid ∙ ap (drop at) m ∙ drop_at members rest at p in
    let far : drop (length trail) rest ≡ drop (length (members ++ trail)) out =
    drop-drop (length trail) (length members) out ∙ ap (λ (k : ℕ). drop k out) (sym (length-append members trail)) in
    tail_put at mid last
    ∙ ap₂ (λ (a b : List ℕ). a ++ b) front (e ∙ ap (λ (l : List ℕ). trail ++ l) (ap (drop (length trail)) behind ∙ far))
    ∙ sym (append_assoc members trail (drop (length (members ++ trail)) out))

-- there is room for the trail in that part
pub lent_room : (out members mid trail : List ℕ) (at : ℕ) → Stored out 0 members mid at → length (members ++ trail) ≤ length out
    → (at ≤ length mid) × (length trail ≤ length (mid_of at (length mid - at) mid))
lent_room out members mid trail at s h =
    let whole = length-append members trail in
    let same = stored_length s in
    (omega (arith, s.place), rw (tail_mid at mid) (omega (arith, s.place, length-drop at mid)))
