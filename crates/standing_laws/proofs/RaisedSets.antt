-- Sets that have no fact of z, and the same sets with the facts of z: inclusion, union, closure and join of the ones are those of the others.
use Rattle.std.specs.Prelude.{◌≡◌, ℕ, min}
use Rattle.std.proofs.Common.{sym, ap, ◌∙◌, subst, arith}
use mathlib.Core.List.{List, map, Memᴰ}
use Rattle.std.specs.Int.Bits.{bit_and, bit_or, and_zero_r, or_add_and}
use Rattle.comparison_laws.specs.TestLaws.{same_test}
use Rattle.comparison_laws.specs.Members.{mem_map, map_mem}
use Rattle.comparison_laws.specs.FactSets.{digit, Within}
use Rattle.comparison_laws.specs.Stores.{Rule, Obeys, Closed, closure, join, strictly_below, least_store}
use Rattle.comparison_laws.specs.FactSetLaws.{digit_and, digit_or, zero_digit, set_ext, within_refl, within_trans, within_antisym, within_or_left, within_or_right, or_least}
use Rattle.sheet_encoder.specs.FactsOutside.{outside}
use Rattle.sheet_encoder.specs.OutsideLaws.{or_above, or_outside, outside_apart, outside_within}
use Rattle.comparison_laws.specs.StoreLaws.{below_within, within_below, smallest_unique, closure_smallest, closure_closed, closure_includes, closure_least, closure_same}
use Rattle.standing_laws.specs.StandingFacts.{rule_without, raised}

-- a set that has no fact of z
abbrev pub Free : ℕ → ℕ → Type 0
Free z a = bit_and z a ≡ 0

-- ---- sets
module _ (z : ℕ) where
  free_digit : (a : ℕ) → Free z a → (i : ℕ) → min (digit z i) (digit a i) ≡ 0
  free_digit a f i = sym (digit_and z a i) ∙ ap (λ (n : ℕ). digit n i) f ∙ zero_digit i

  free_by_digits : (a : ℕ) → ((i : ℕ) → min (digit z i) (digit a i) ≡ 0) → Free z a
  free_by_digits a h = set_ext (bit_and z a) 0 (λ i. digit_and z a i ∙ h i ∙ sym (zero_digit i))

  pub free_empty : Free z 0
  free_empty = and_zero_r z

  pub free_outside : (a : ℕ) → Free z (outside z a)
  free_outside a = outside_apart z a

  pub free_within : (a b : ℕ) → Free z b → Within a b → Free z a
  free_within a b f h = free_by_digits a (λ i. omega (arith, free_digit b f i, h.at i))

  pub free_or : (a b : ℕ) → Free z a → Free z b → Free z (bit_or a b)
  free_or a b f g = free_by_digits (bit_or a b) (λ i. omega (arith, digit_or a b i, free_digit a f i, free_digit b g i))

  -- a free set inside another is inside its facts outside z
  pub within_outside : (a b : ℕ) → Free z a → Within a b → Within a (outside z b)
  within_outside a b f h =
      record {
        at = λ i.
            omega (
              arith,
              free_digit a f i,
              h.at i,
              digit_or z b i,
              digit_or z (outside z b) i,
              ap (λ (n : ℕ). digit n i) (or_outside z b),
            );
      }

  -- a set whose facts outside z are in b is inside b, where z is
  pub outside_fills : (a b : ℕ) → Within z b → Within (outside z a) b → Within a b
  outside_fills a b h k =
      within_trans (within_or_right z a) (subst (λ (x : ℕ). Within x b) (or_outside z a) (or_least h k))

  -- the sum is the union
  pub raised_union : (a : ℕ) → Free z a → raised z a ≡ bit_or z a
  raised_union a f = omega (arith, or_add_and z a)

  pub raised_outside : (c : ℕ) → Within z c → raised z (outside z c) ≡ c
  raised_outside c h =
      let e : bit_or z c ≡ c = within_antisym (or_least h (within_refl c)) (within_or_right z c) in
      omega (arith, or_above z c)

  -- the raised set is the smallest that includes both
  pub raised_has : (a : ℕ) → Free z a → Within z (raised z a)
  raised_has a f = subst (λ (x : ℕ). Within z x) (sym (raised_union a f)) (within_or_left z a)

  pub raised_above : (a : ℕ) → Free z a → Within a (raised z a)
  raised_above a f = subst (λ (x : ℕ). Within a x) (sym (raised_union a f)) (within_or_right z a)

  pub raised_least : (a b : ℕ) → Free z a → Within z b → Within a b → Within (raised z a) b
  raised_least a b f h k = subst (λ (x : ℕ). Within x b) (sym (raised_union a f)) (or_least h k)

  -- a free set inside a raised one is inside the set that was raised
  pub free_in_raised : (a b : ℕ) → Free z a → Free z b → Within a (raised z b) → Within a b
  free_in_raised a b f g h =
      let k : Within a (bit_or z b) = subst (λ (x : ℕ). Within a x) (raised_union b g) h in
      record { at = λ i. omega (arith, free_digit a f i, k.at i, digit_or z b i) }

  -- ---- inclusion
  pub within_raised : (a b : ℕ) → Free z a → Free z b → Within a b → Within (raised z a) (raised z b)
  within_raised a b f g h = raised_least a (raised z b) f (raised_has b g) (within_trans h (raised_above b g))

  pub raised_within : (a b : ℕ) → Free z a → Free z b → Within (raised z a) (raised z b) → Within a b
  raised_within a b f g h = free_in_raised a b f g (within_trans (raised_above a f) h)

  pub below_raised : (a b : ℕ) → Free z a → Free z b → strictly_below (raised z a) (raised z b) ≡ strictly_below a b
  below_raised a b f g =
      same_test (strictly_below (raised z a) (raised z b)) (strictly_below a b)
      (λ h. let w = below_within (raised z a) (raised z b) h in within_below (raised_within a b f g w.0) (λ e. w.1 (ap (raised z) e)))
      (λ h. let w = below_within a b h in within_below (within_raised a b f g w.0) (λ e. w.1 (omega arith)))

  pub or_raised : (a b : ℕ) → Free z a → Free z b → bit_or (raised z a) (raised z b) ≡ raised z (bit_or a b)
  or_raised a b f g =
      let u : Free z (bit_or a b) = free_or a b f g in
      within_antisym
      (or_least (within_raised a (bit_or a b) f u (within_or_left a b)) (within_raised b (bit_or a b) g u (within_or_right a b)))
      (raised_least (bit_or a b) (bit_or (raised z a) (raised z b)) u
      (within_trans (raised_has a f) (within_or_left (raised z a) (raised z b)))
      (or_least (within_trans (raised_above a f) (within_or_left (raised z a) (raised z b)))
      (within_trans (raised_above b g) (within_or_right (raised z a) (raised z b)))))

-- ---- closed sets
module _ (z : ℕ) (rs : List Rule) where
  -- the rules without z
  abbrev low : List Rule
  low = map (rule_without z) rs

  low_closed : (t : ℕ) → ((r : Rule) → Memᴰ r rs → Within (outside z r.premise) t → Within (outside z r.conclusion) t) → Closed low t
  low_closed t h =
      record {
        obeys = λ q m.
            let x = mem_map (rule_without z) rs m in
            subst (λ (r : Rule). Obeys r t) (sym x.2) (record { follows = h x.0 x.1 });
      }

  low_follows : (t : ℕ) → Closed low t → (r : Rule) → Memᴰ r rs → Within (outside z r.premise) t → Within (outside z r.conclusion) t
  low_follows t k r m = (k.obeys (rule_without z r) (map_mem (rule_without z) m)).follows

  -- a free set that is closed under the rules without z is closed with z
  pub closed_raised : (t : ℕ) → Free z t → Closed low t → Closed rs (raised z t)
  closed_raised t f k =
      record {
        obeys = λ r m.
            record {
              follows = λ h.
                  outside_fills z r.conclusion (raised z t) (raised_has z t f)
                  (within_trans
                  (low_follows t k r m
                  (free_in_raised z (outside z r.premise) t (free_outside z r.premise) f (within_trans (outside_within z r.premise) h)))
                  (raised_above z t f));
            };
      }

  -- and back
  pub closed_outside : (t : ℕ) → Within z t → Closed rs t → Closed low (outside z t)
  closed_outside t w k =
      low_closed (outside z t)
      (λ r m h.
      within_outside z (outside z r.conclusion) t (free_outside z r.conclusion)
      (within_trans (outside_within z r.conclusion)
      ((k.obeys r m).follows (outside_fills z r.premise t w (within_trans h (outside_within z t))))))

  -- the rules without z give no fact of z
  pub low_closed_outside : (t : ℕ) → Closed low t → Closed low (outside z t)
  low_closed_outside t k =
      low_closed (outside z t)
      (λ r m h.
      within_outside z (outside z r.conclusion) t (free_outside z r.conclusion)
      (low_follows t k r m (within_trans h (outside_within z t))))

  -- and ask for none
  pub low_closed_raised : (t : ℕ) → Free z t → Closed low t → Closed low (raised z t)
  low_closed_raised t f k =
      low_closed (raised z t)
      (λ r m h.
      within_trans (low_follows t k r m (free_in_raised z (outside z r.premise) t (free_outside z r.premise) f h)) (raised_above z t f))

  -- ---- closure and join
  pub free_closure : (a : ℕ) → Free z a → Free z (closure low a)
  free_closure a f =
      let c : ℕ = closure low a in
      free_within z c (outside z c) (free_outside z c)
      (closure_least low a (outside z c) (low_closed_outside c (closure_closed low a)) (within_outside z a c f (closure_includes low a)))

  pub closure_raised : (a : ℕ) → Free z a → closure rs (raised z a) ≡ raised z (closure low a)
  closure_raised a f =
      let c : ℕ = closure low a in
      let g : Free z c = free_closure a f in
      smallest_unique (closure_smallest rs (raised z a))
      (record {
        above = within_raised z a c f g (closure_includes low a);
        closed = closed_raised c g (closure_closed low a);
        least = λ t k h.
            let w : Within z t = within_trans (raised_has z a f) h in
            let inside : Within a (outside z t) = within_outside z a t f (within_trans (raised_above z a f) h) in
            raised_least z c t g w (within_trans (closure_least low a (outside z t) (closed_outside t w k) inside) (outside_within z t));
      })

  pub free_join : (a b : ℕ) → Free z a → Free z b → Free z (join low a b)
  free_join a b f g = free_closure (bit_or a b) (free_or z a b f g)

  pub join_raised : (a b : ℕ) → Free z a → Free z b → join rs (raised z a) (raised z b) ≡ raised z (join low a b)
  join_raised a b f g = ap (closure rs) (or_raised z a b f g) ∙ closure_raised (bit_or a b) (free_or z a b f g)

-- ---- the least store
-- without its facts nothing always stands
pub least_without : (rs : List Rule) → least_store (map (rule_without (least_store rs)) rs) ≡ 0
least_without rs =
    let z : ℕ = least_store rs in
    let e : raised z 0 ≡ z = omega arith in
    omega (arith, closure_raised z rs 0 (free_empty z), ap (closure rs) e ∙ closure_same rs z (closure_closed rs 0))

pub least_raised : (rs : List Rule) → raised (least_store rs) (least_store (map (rule_without (least_store rs)) rs)) ≡ least_store rs
least_raised rs = omega (arith, least_without rs)
