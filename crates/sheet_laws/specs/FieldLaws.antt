-- What holds where a field is got: the place after it, and the range of its value. And the ways of a node's fields and of names.
use Rattle.std.specs.Prelude.{◌≡◌, refl, Bool, true, false, ◌||◌, List, length, get_or, eqb}
use Rattle.std.proofs.Math.Bool.{not}
use Prim.Native.Nat.{ℕ, zero, suc, ◌+◌, ◌-◌, ◌*◌, ◌^◌, ◌≤◌, ◌<◌}
use Rattle.std.proofs.Common.{suc-mul, mul-le-mul_right}
use native.Mathlib.Omega.{arith}
use Rattle.std.proofs.Math.Dec.{leb, ltb}
use borrow.Author.Tests.{ltb-false, leb-false, eqb-true, eqb-false, not-false, ne_eqb}
use Rattle.store_laws.specs.TestLaws.{or_false}
use Rattle.sheet_reading.specs.SheetLimits.{max_facts, name_length, max_kind}
use Rattle.sheet_reading.specs.SheetBytes.{word}
use Rattle.sheet_reading.specs.Reading.{got, refused, refused_if, byte_at, word_at, count_at, set_at, kind_at, first_at, second_at, thread_at, printable, name_bytes, name_at, names_from, facts_at}
use Rattle.sheet_laws.specs.NodeFields.{unused_at, below_at}
use Rattle.sheet_laws.specs.Gets.{Gets, gets_less, got_gets, checked_gets, then_gets, then_checked_gets}

-- ---- from one place to the next: within the sheet, and at most so many bytes further
pub record Taken (s : List ℕ) (at bytes next : ℕ) : Type 0 where
  pub within : next ≤ length s
  pub most : next ≤ at + bytes

pub taken_then : {s : List ℕ} {a b at mid next : ℕ} → Taken s at a mid → Taken s mid b next → Taken s at (a + b) next
taken_then h k = record { within = k.within; most = omega (arith, h.most, k.most) }

-- a count byte, and n records, of at most `limit`, of at most so many bytes
pub taken_section : {s : List ℕ} {at mid next : ℕ} (limit bytes n : ℕ) → n ≤ limit → Taken s at 1 mid → Taken s mid (n * bytes) next
    → Taken s at (1 + limit * bytes) next
taken_section limit bytes n h k m = record { within = m.within; most = omega (arith, k.most, m.most, mul-le-mul_right bytes h) }

-- ---- fields of one and of two bytes
module _ (s : List ℕ) (at : ℕ) where
  enough_gets : (bytes v : ℕ) → Gets (λ v next. Taken s at bytes next) (refused_if (ltb (length s) (at + bytes)) 1 (length s) (got v (at + bytes)))
  enough_gets bytes v = checked_gets _ _ 1 (length s) _ (λ e. got_gets _ v (at + bytes) (record { within = ltb-false _ _ e; most = omega arith }))

  byte_gets : Gets (λ v next. Taken s at 1 next) (byte_at s at)
  byte_gets = enough_gets 1 (get_or s at 0)

  word_gets : Gets (λ v next. Taken s at 2 next) (word_at s at)
  word_gets = enough_gets 2 (word s at)

  pub count_gets : (low high number : ℕ) → Gets (λ n next. Taken s at 1 next × (low ≤ n) × (n ≤ high)) (count_at low high number s at)
  unfolding count_at
  count_gets low high number =
      then_checked_gets _ (λ n. ltb n low || ltb high n) number at byte_gets
      (λ n next t e. let k = or_false (ltb n low) (ltb high n) e in (t, ltb-false n low k.0, ltb-false high n k.1))

  pub set_gets : (facts : ℕ) → Gets (λ c next. Taken s at 2 next × (c < 2 ^ facts)) (set_at facts s at)
  unfolding set_at
  set_gets facts = then_checked_gets _ (λ c. leb (2 ^ facts) c) 5 at word_gets (λ c next t e. (t, leb-false _ _ e))

  pub kind_gets : Gets (λ kind next. Taken s at 1 next × (kind ≤ max_kind)) (kind_at s at)
  unfolding kind_at
  kind_gets = then_checked_gets _ (λ kind. ltb max_kind kind) 8 at byte_gets (λ kind next t e. (t, ltb-false _ _ e))

  pub unused_gets : Gets (λ x next. Taken s at 2 next × (x ≡ 0)) (unused_at s at)
  unfolding unused_at
  unused_gets = then_checked_gets _ (λ x. not (eqb x 0)) 10 at word_gets (λ x next t e. (t, eqb-true _ _ (not-false _ e)))

  pub below_gets : (bound : ℕ) → Gets (λ k next. Taken s at 2 next × (k < bound)) (below_at bound s at)
  unfolding below_at
  below_gets bound = then_checked_gets _ (λ k. leb bound k) 9 at word_gets (λ k next t e. (t, leb-false _ _ e))

  pub thread_gets : (nodes : ℕ) → Gets (λ k next. Taken s at 1 next × (k < nodes)) (thread_at nodes s at)
  unfolding thread_at
  thread_gets nodes = then_checked_gets _ (λ k. leb nodes k) 9 at byte_gets (λ k next t e. (t, leb-false _ _ e))

-- ---- a node's fields by its kind
pub data KindIs (kind : ℕ) : Type 0 where
  is_stop : kind ≡ 0 → KindIs kind
  is_tell : kind ≡ 1 → KindIs kind
  is_ask : kind ≡ 2 → KindIs kind
  is_pair_lem : 3 ≤ kind → KindIs kind

pub kind_is : (kind : ℕ) → KindIs kind
kind_is kind = go (eqb kind 0) (eqb kind 1) (eqb kind 2) refl refl refl
  where
    go : (a b c : Bool) → eqb kind 0 ≡ a → eqb kind 1 ≡ b → eqb kind 2 ≡ c → KindIs kind
    go true b c e f g = is_stop (eqb-true _ _ e)
    go false true c e f g = is_tell (eqb-true _ _ f)
    go false false true e f g = is_ask (eqb-true _ _ g)
    go false false false e f g = is_pair_lem (omega (arith, eqb-false kind 0 e, eqb-false kind 1 f, eqb-false kind 2 g))

-- the tests of a both's and an either's kind
pub pair_tests : {kind : ℕ} → 3 ≤ kind → (eqb kind 0 ≡ false) × (eqb kind 1 ≡ false) × (eqb kind 2 ≡ false)
pair_tests {kind} h = (other 0 (omega arith), other 1 (omega arith), other 2 (omega arith))
  where
    other : (k : ℕ) → k < 3 → eqb kind k ≡ false
    other k l = ne_eqb kind k (λ e. omega arith)

-- ---- its first field
module _ (kind facts number : ℕ) (s : List ℕ) (at : ℕ) where
  pub first_unused : kind ≡ 0 → first_at kind facts number s at ≡ unused_at s at
  unfolding first_at unused_at
  first_unused e = rw e

  pub first_set : 1 ≤ kind → kind ≤ 2 → first_at kind facts number s at ≡ set_at facts s at
  unfolding first_at
  first_set h k = go (kind_is kind)
    where
      go : KindIs kind → first_at kind facts number s at ≡ set_at facts s at
      go (is_stop e) = absurd (omega arith)
      go (is_tell e) = rw e
      go (is_ask e) = rw e
      go (is_pair_lem l) = absurd (omega arith)

  pub first_below : 3 ≤ kind → first_at kind facts number s at ≡ below_at number s at
  unfolding first_at below_at
  first_below h = let t = pair_tests h in simp (t.0, t.1, t.2)

  pub first_gets : Gets (λ v next. Taken s at 2 next) (first_at kind facts number s at)
  first_gets = go (kind_is kind)
    where
      go : KindIs kind → Gets (λ v next. Taken s at 2 next) (first_at kind facts number s at)
      go (is_stop e) = rw (first_unused e) (gets_less (λ v next t. t.0) (unused_gets s at))
      go (is_tell e) = rw (first_set (omega arith) (omega arith)) (gets_less (λ v next t. t.0) (set_gets s at facts))
      go (is_ask e) = rw (first_set (omega arith) (omega arith)) (gets_less (λ v next t. t.0) (set_gets s at facts))
      go (is_pair_lem h) = rw (first_below h) (gets_less (λ v next t. t.0) (below_gets s at number))

-- ---- its second field
module _ (kind nodes number : ℕ) (s : List ℕ) (at : ℕ) where
  pub second_unused : kind ≤ 1 → second_at kind nodes number s at ≡ unused_at s at
  unfolding second_at unused_at
  second_unused k = go (kind_is kind)
    where
      go : KindIs kind → second_at kind nodes number s at ≡ unused_at s at
      go (is_stop e) = rw e
      go (is_tell e) = rw e
      go (is_ask e) = absurd (omega arith)
      go (is_pair_lem l) = absurd (omega arith)

  pub second_any : kind ≡ 2 → second_at kind nodes number s at ≡ below_at nodes s at
  unfolding second_at below_at
  second_any e = rw e

  pub second_below : 3 ≤ kind → second_at kind nodes number s at ≡ below_at number s at
  unfolding second_at below_at
  second_below h = let t = pair_tests h in simp (t.0, t.1, t.2)

-- ---- the bytes of a name, from p on to its end
module _ (s : List ℕ) (end p : ℕ) where
  pub name_end : end ≤ p → name_bytes (end - p) s p ≡ got name_length p
  unfolding name_bytes
  name_end h =
      let e : end - p ≡ 0 = omega arith in
      rw e

  pub name_wrong : p < end → printable (get_or s p 0) ≡ false → name_bytes (end - p) s p ≡ refused 3 p
  unfolding name_bytes
  name_wrong h t =
      let e : end - p ≡ suc (end - (p + 1)) = omega arith in
      rw (e, name_bytes, t)

  pub name_next : p < end → printable (get_or s p 0) ≡ true → name_bytes (end - p) s p ≡ name_bytes (end - (p + 1)) s (p + 1)
  unfolding name_bytes
  name_next h t =
      let e : end - p ≡ suc (end - (p + 1)) = omega arith in
      rw (e, name_bytes, t)

name_bytes_gets : (n : ℕ) (s : List ℕ) (at : ℕ) → Gets (λ v next. next ≡ at + n) (name_bytes n s at)
unfolding name_bytes
name_bytes_gets zero s at = got_gets _ name_length at (omega arith)
name_bytes_gets (suc n) s at = checked_gets _ (not (printable (get_or s at 0))) 3 at _ (λ e. gets_less (λ v next p. omega arith) (name_bytes_gets n s (at + 1)))

pub name_gets : (s : List ℕ) (at : ℕ) → Gets (λ v next. Taken s at name_length next) (name_at s at)
unfolding name_at
name_gets s at =
    checked_gets _ (ltb (length s) (at + name_length)) 1 (length s) _
    (λ e. gets_less (λ v next p. record { within = omega (arith, ltb-false (length s) (at + name_length) e); most = omega arith }) (name_bytes_gets name_length s at))

-- ---- n names, of which i are read
module _ (s : List ℕ) (n i p k : ℕ) where
  pub names_none : n ≤ i → names_from (n - i) k s p ≡ got k p
  unfolding names_from
  names_none h =
      let e : n - i ≡ 0 = omega arith in
      rw e

  pub names_refused : {number place : ℕ} → i < n → name_at s p ≡ refused number place → names_from (n - i) k s p ≡ refused number place
  unfolding names_from
  names_refused h t =
      let e : n - i ≡ suc (n - (i + 1)) = omega arith in
      rw (e, names_from, t)

  pub names_next : {v next : ℕ} → i < n → name_at s p ≡ got v next → names_from (n - i) k s p ≡ names_from (n - (i + 1)) k s next
  unfolding names_from
  names_next h t =
      let e : n - i ≡ suc (n - (i + 1)) = omega arith in
      rw (e, names_from, t)

names_gets : (n k : ℕ) (s : List ℕ) (at : ℕ) → at ≤ length s → Gets (λ v next. (v ≡ k) × Taken s at (n * name_length) next) (names_from n k s at)
unfolding names_from
names_gets zero k s at h = got_gets _ k at (refl, record { within = h; most = omega arith })
names_gets (suc n) k s at h =
    then_gets _ _ (name_at s at) _ (name_gets s at) (λ v mid t.
    gets_less (λ w next r. (r.0, record { within = r.1.within; most = omega (arith, t.most, r.1.most, suc-mul n name_length) })) (names_gets n k s mid t.within))

pub facts_gets : (s : List ℕ) (at : ℕ) → Gets (λ n next. (n ≤ max_facts) × Taken s at (1 + max_facts * name_length) next) (facts_at s at)
unfolding facts_at
facts_gets s at =
    then_gets _ _ (count_at 0 max_facts 2 s at) _ (count_gets s at 0 max_facts 2)
    (λ n next t. gets_less (λ v end p. (omega arith, taken_section max_facts name_length n t.2 t.0 p.1)) (names_gets n n s next t.0.within))
