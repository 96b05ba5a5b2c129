-- Members in a part of a longer slice that is lent and comes back.
use Rattle.std.specs.Prelude.{Option, ◌≡◌, ◌⊎◌, List, ◌++◌, ℕ, ◌+◌, ◌-◌, ◌≤◌, ◌<◌, length, take, drop}
use Rattle.std.proofs.Common.{sym, ap, ◌∙◌, subst, arith, length-append, length-take, length-drop, drop_at, take_at, length-take-le}
use borrow.Rule.Slice.PartMut.{put_mid, mid_of, post_of, mid_len, take_put, drop_put}
use Rattle.packing.specs.Frames.{SameOutside, outside_of_ends, outside_part, outside_whole}
use Rattle.move_laws.specs.Sheet.{Configuration}
use Rattle.packing.specs.declared.Numbers.{Numbers}
use Rattle.packing.specs.Packing.{stands_for, PackedIn}
use Rattle.member_table.specs.declared.Entry.{Entry}
use Rattle.member_table.specs.MemberTable.{numbers_in, member_in, id_in, Kept, part_at}
use Rattle.member_table.specs.EntryFound.{EntryIn}
use Rattle.member_table.specs.MemberLaws.{kept_none}
use Rattle.work_layout.specs.WorkLayout.{table_length}

-- the slice holds the whole part
pub part_fits : (w : List ℕ) (base n : ℕ) → Kept (part_at w base) n → base + table_length ≤ length w
part_fits w base n k = omega (arith, k.long, length-take table_length (drop base w), length-drop base w)

lent_part : (w : List ℕ) (base : ℕ) → mid_of base (base + table_length - base) w ≡ part_at w base
lent_part w base = let e : base + table_length - base ≡ table_length = omega arith in ap (λ (k : ℕ). take k (drop base w)) e

-- what is lent keeps the members
pub lent_kept : (w : List ℕ) (base n : ℕ) → Kept (part_at w base) n → Kept (mid_of base (base + table_length - base) w) n
lent_kept w base n k = subst (λ (l : List ℕ). Kept l n) (sym (lent_part w base)) k

-- an id read from what is lent
pub lent_id : (w : List ℕ) (base n j r : ℕ) → (r ≡ id_in (mid_of base (base + table_length - base) w) j) × (r < n)
    → (r ≡ id_in (part_at w base) j) × (r < n)
lent_id w base n j r h = subst (λ (l : List ℕ). (r ≡ id_in l j) × (r < n)) (lent_part w base) h

-- a member's numbers read from what is lent
pub lent_key : (w : List ℕ) (base n id : ℕ) (r : Numbers) → Kept (part_at w base) n → id < n
    → r ≡ numbers_in (mid_of base (base + table_length - base) w) id → PackedIn r × (stands_for r ≡ member_in (part_at w base) id)
lent_key w base n id r k h e =
    let q : r ≡ numbers_in (part_at w base) id = e ∙ ap (λ (l : List ℕ). numbers_in l id) (lent_part w base) in
    (subst PackedIn (sym q) (k.packed id h), ap stands_for q)

part_back : (w ys : List ℕ) (base : ℕ) → base + table_length ≤ length w → length ys ≡ table_length → part_at (put_mid base (base + table_length - base) w ys) base ≡ ys
part_back w ys base h l =
    let post : List ℕ = post_of base (base + table_length - base) w in
    ap (take table_length) (drop_at (take base w) (ys ++ post) base (length-take-le base w (omega arith))) ∙ take_at ys post table_length l

length_back : (w ys : List ℕ) (base : ℕ) → base + table_length ≤ length w → length ys ≡ table_length
    → length (put_mid base (base + table_length - base) w ys) ≡ length w
length_back w ys base h l = simp (length-append, length-take, length-drop) (omega arith)

-- entered in the part, and all else left alone
pub entry_part : (w ys : List ℕ) (base n limit : ℕ) (p : Configuration) (r : Option Entry) → base + table_length ≤ length w
    → length ys ≡ length (mid_of base (base + table_length - base) w) → EntryIn (mid_of base (base + table_length - base) w) n limit p ys r
    → EntryIn (part_at w base) n limit p (part_at (put_mid base (base + table_length - base) w ys) base) r
    × SameOutside base (base + table_length) w (put_mid base (base + table_length - base) w ys)
entry_part w ys base n limit p r h l e =
    let s : length (mid_of base (base + table_length - base) w) ≡ base + table_length - base = mid_len base (base + table_length) w h in
    let t : length ys ≡ table_length = omega (arith, l, s) in (
      subst (λ (z : List ℕ). EntryIn (part_at w base) n limit p z r) (sym (part_back w ys base h t))
          (subst (λ (z : List ℕ). EntryIn z n limit p ys r) (lent_part w base) e),
      outside_of_ends base (base + table_length) w (put_mid base (base + table_length - base) w ys) (length_back w ys base h t)
          (take_put base (base + table_length - base) w ys (omega arith)) (drop_put base (base + table_length) w ys (omega arith) h (l ∙ s)),
    )

-- no members in a part that the slice holds
pub part_none : (w : List ℕ) (base : ℕ) → base + table_length ≤ length w → Kept (part_at w base) 0
part_none w base h = kept_none (part_at w base) (simp (length-take, length-drop) (omega arith))

-- the members of a part stay where all that changes stands before it or after it
pub part_outside : {a b : ℕ} {v w : List ℕ} → SameOutside a b v w → (base : ℕ) → (base + table_length ≤ a) ⊎ (b ≤ base) → part_at w base ≡ part_at v base
part_outside s base o = outside_part s base table_length o

pub kept_outside : {a b : ℕ} {v w : List ℕ} → SameOutside a b v w → (base n : ℕ) → (base + table_length ≤ a) ⊎ (b ≤ base)
    → Kept (part_at v base) n → Kept (part_at w base) n
kept_outside s base n o k = subst (λ (l : List ℕ). Kept l n) (sym (part_outside s base o)) k

-- nothing at all changed where the part did not
pub part_whole : {base : ℕ} {v w : List ℕ} → SameOutside base (base + table_length) v w → part_at w base ≡ part_at v base → w ≡ v
part_whole s e = outside_whole table_length s e
