-- A member of the set in the work slice found by its numbers, by halving.
use Rattle.std.specs.Prelude.{◌≡◌, true, false, ℕ, ◌+◌, ◌*◌, ◌/◌, ◌%◌, ◌≤◌, ◌<◌, get_or, eqb}
use Rattle.std.proofs.Common.{sym, ap, ◌∙◌, subst, arith}
use mathlib.Core.List.{List, Memᴰ}
use Rattle.packing.specs.TestLaws.{true_false, Tested, tested, passes, fails}
use Rattle.packing.specs.Halving.{Halving, halving_first, halving_upper, halving_lower, halving_last, halving_there}
use Rattle.packing.specs.Lists.{Ascends}
use Rattle.packing.specs.TabulateLaws.{tabulate_mem, ascends_at}
use Rattle.packing.specs.Sheet.{Configuration, Sheet}
use Rattle.packing.specs.Orders.{configuration_before}
use Rattle.kept_classes.specs.OrderLaws.{configuration_order}
use Rattle.std.specs.declared.cmp.Ordering.{Ordering}
use Rattle.std.specs.Ordering.{is_lt}
use Rattle.packing.specs.declared.Numbers.{Numbers}
use Rattle.packing.specs.Packing.{stands_for, PackedIn, Fits, number0, number1, number2}
use Rattle.packing.specs.Comparing.{compared}
use Rattle.packing.proofs.PackingLaws.{compared_before}
use Rattle.work_layout.specs.SetLayout.{member_at, set_in, SetHeld, numbers_at}
use Rattle.work_layout.specs.WorkLayout.{members_at}

-- the n members stand in ascending order, and each has the numbers of a configuration
pub record Ordered (w : List ℕ) (n : ℕ) : Type 0 where
  pub ascends : Ascends configuration_before (set_in w n)
  pub packed : (i : ℕ) → i < n → PackedIn (numbers_at w i)

pub held_ordered : {sheet : Sheet} {set : List Configuration} {w : List ℕ} {n m : ℕ} → SetHeld sheet set w n m → Ascends configuration_before set
    → Ordered w n
held_ordered H s = record { ascends = subst (Ascends configuration_before) (sym H.members) s; packed = H.packed }

-- each member below r stands before c, and none from r on does
abbrev pub PlaceOf : List ℕ → ℕ → Configuration → ℕ → Type 0
PlaceOf w n c r =
    Halving (λ j. configuration_before (member_at w j) c ≡ true) (λ j. configuration_before (member_at w j) c ≡ false) 0 n r r

-- in an ordered set r is the number of members that stand before x: its place, where the set has it
pub record FoundAt (w : List ℕ) (n : ℕ) (x : Numbers) (r : ℕ) : Type 0 where
  pub at_most : r ≤ n
  pub placed : Ordered w n → PackedIn x → PlaceOf w n (stands_for x) r

-- the configuration with the store of member t and the threads of member u
abbrev pub lifted_of : List ℕ → ℕ → ℕ → Configuration
lifted_of w t u = record { store = (member_at w t).store; threads = (member_at w u).threads }

-- in an ordered set r is the number of members that stand before the configuration with the store of member t and the threads of
-- member u: its place, where the set has it
pub record LiftedAt (w : List ℕ) (n t u r : ℕ) : Type 0 where
  pub at_most : r ≤ n
  pub placed : Ordered w n → t < n → u < n → PlaceOf w n (lifted_of w t u) r

-- in an ordered set c stands at its place, if the set has it
stands_at : (w : List ℕ) (n : ℕ) (c : Configuration) (r : ℕ) → Ordered w n → PlaceOf w n c r → Memᴰ c (set_in w n)
    → (r < n) × (member_at w r ≡ c)
stands_at w n c r o b m =
    let i = tabulate_mem (member_at w) n m in
    let z : i.0 ≡ r =
    halving_there b i.0 (omega arith) i.1
    (λ t. configuration_order.irreflexive c (subst (λ (q : Configuration). configuration_before q c ≡ true) (sym i.2) t))
    (λ k f.
    true_false (configuration_before (member_at w r) c)
    (subst (λ (q : Configuration). configuration_before (member_at w r) q ≡ true) (sym i.2)
    (ascends_at configuration_order (member_at w) n o.ascends r i.0 k i.1)) f) in
    (omega (arith, i.1), ap (member_at w) (sym z) ∙ sym i.2)

-- what is looked for stands at the place found, if the set has it
pub found_there : {w : List ℕ} {n : ℕ} {x : Numbers} {r : ℕ} → FoundAt w n x r → Ordered w n → PackedIn x
    → Memᴰ (stands_for x) (set_in w n) → (r < n) × (member_at w r ≡ stands_for x)
found_there {w} {n} {x} {r} f o p m = stands_at w n (stands_for x) r o (f.placed o p) m

pub lifted_there : {w : List ℕ} {n t u r : ℕ} → LiftedAt w n t u r → Ordered w n → t < n → u < n → Memᴰ (lifted_of w t u) (set_in w n)
    → (r < n) × (member_at w r ≡ lifted_of w t u)
lifted_there {w} {n} {t} {u} {r} f o ht hu m = stands_at w n (lifted_of w t u) r o (f.placed o ht hu) m

-- while halving: in an ordered set each member below low stands before x, and none from high on does
abbrev pub Halved : List ℕ → ℕ → Numbers → ℕ → ℕ → Type 0
Halved w n x low high =
    Halving (λ j. Ordered w n → PackedIn x → configuration_before (member_at w j) (stands_for x) ≡ true)
    (λ j. Ordered w n → PackedIn x → configuration_before (member_at w j) (stands_for x) ≡ false) 0 n low high

module _ (w : List ℕ) (n : ℕ) (x : Numbers) where
  pub halved_first : Halved w n x 0 n
  halved_first =
      halving_first (λ j. Ordered w n → PackedIn x → configuration_before (member_at w j) (stands_for x) ≡ true)
      (λ j. Ordered w n → PackedIn x → configuration_before (member_at w j) (stands_for x) ≡ false) 0 n (omega arith)

  -- by the side of the middle
  module _ (low high mid : ℕ) (r : Ordering) (key : Numbers) (b : Halved w n x low high) (l : low ≤ mid) (h : mid < high)
      (e : key ≡ numbers_at w mid) (s : r ≡ compared key x) where
    side : Ordered w n → PackedIn x → is_lt r ≡ configuration_before (member_at w mid) (stands_for x)
    side o p =
        compared_before (numbers_at w mid) x (o.packed mid (omega (arith, b.ends.2))) p r (s ∙ ap (λ (k : Numbers). compared k x) e)

    -- it stands before x
    pub halved_upper : is_lt r ≡ true → Halved w n x (mid + 1) high
    halved_upper z =
        halving_upper b mid l h (λ o p. sym (side o p) ∙ z)
        (λ j _ k t o p.
        configuration_order.transitive (member_at w j) (member_at w mid) (stands_for x)
        (ascends_at configuration_order (member_at w) n o.ascends j mid k (omega (arith, b.ends.2))) (t o p))

    -- it does not
    pub halved_lower : is_lt r ≡ false → Halved w n x low mid
    halved_lower z = halving_lower b mid l h (λ o p. sym (side o p) ∙ z) later
      where
        later : (j : ℕ) → mid < j → j < n → (Ordered w n → PackedIn x → configuration_before (member_at w mid) (stands_for x) ≡ false)
            → Ordered w n → PackedIn x → configuration_before (member_at w j) (stands_for x) ≡ false
        later j k m f o p = go (tested (configuration_before (member_at w j) (stands_for x)))
          where
            go : Tested (configuration_before (member_at w j) (stands_for x)) → configuration_before (member_at w j) (stands_for x) ≡ false
            go (fails t) = t
            go (passes t) =
                true_false (configuration_before (member_at w mid) (stands_for x))
                (configuration_order.transitive (member_at w mid) (member_at w j) (stands_for x)
                (ascends_at configuration_order (member_at w) n o.ascends mid j k m) t) (f o p)

  -- where the two ends meet, the place is found
  pub halved_last : (low high : ℕ) → Halved w n x low high → high ≤ low → FoundAt w n x low
  halved_last low high b h =
      let found = halving_last b h in
      record {
        at_most = found.ends.2;
        placed = λ o p.
            record { ends = found.ends; below = λ j k l. found.below j k l o p; above = λ j k l. found.above j k l o p };
      }

-- the store of one member and the count of threads of another in one number
module _ (w : List ℕ) (n t u : ℕ) (x : Numbers)
    (ea : x.a ≡ get_or w (members_at + 3 * t) 0 / 256 * 256 + get_or w (members_at + 3 * u) 0 % 256)
    (eb : x.b ≡ get_or w (members_at + 3 * u + 1) 0) (ec : x.c ≡ get_or w (members_at + 3 * u + 2) 0) where
  lifted_numbers : stands_for x ≡ lifted_of w t u
  lifted_numbers =
      let s : x.a / 256 ≡ get_or w (members_at + 3 * t) 0 / 256 = omega arith in
      let k : x.a % 256 ≡ get_or w (members_at + 3 * u) 0 % 256 = omega arith in
      rw (s, k, eb, ec)

  lifted_packed : Ordered w n → t < n → u < n → PackedIn x
  lifted_packed o ht hu =
      let p = o.packed t ht in
      let q = o.packed u hu in
      let e = lifted_numbers in
      let f : Fits (lifted_of w t u) = record { few = q.fits.few; bytes = q.fits.bytes; small = p.fits.small } in
      let k : number0 (lifted_of w t u) ≡ x.a = omega (arith, q.first, ea) in
      record {
        fits = subst Fits (sym e) f;
        first = ap number0 e ∙ k;
        second = ap number1 e ∙ q.second ∙ sym eb;
        third = ap number2 e ∙ q.third ∙ sym ec;
      }

  pub lifted_found : (r : ℕ) → FoundAt w n x r → LiftedAt w n t u r
  lifted_found r f = record {
    at_most = f.at_most;
    placed = λ o ht hu. subst (λ (q : Configuration). PlaceOf w n q r) lifted_numbers (f.placed o (lifted_packed o ht hu));
  }
