-- Laws of gathering conclusions: the first entries, a pass over the table for one fact, and what the last pass leaves.
use Rattle.std.specs.Prelude.{◌≡◌, refl, ◌⊎◌, Bool, true, false, cond, ℕ, ◌+◌, ◌-◌, ◌*◌, ◌/◌, ◌%◌, ◌^◌, ◌≤◌, ◌<◌, eqb, ltb, length, get_or, set, drop, replicate}
use Rattle.std.proofs.Common.{sym, ap, ap₂, ◌∙◌, subst, inl, inr, mod-lt, mul-le-mul_right, add-mul, suc-mul, add-one, arith, pow_pos, pow-add, shr-shr, length-set, length-append, length-drop, get_or-set_same, get_or-set_other, drop_at, eqb-true, ltb-true, ltb-false}
use mathlib.Core.List.{List, ◌++◌, Memᴰ}
use Rattle.std.proofs.Math.Nat.{div-eq_of_lt}
use Rattle.std.proofs.Math.Pow.{split, high}
use Rattle.std.specs.Int.Bits.{bit_and, bit_or, and_step, and_self}
use Rattle.std.proofs.lemmas.Nat.{and_shr, and_mod, and_block}
use Rattle.std.proofs.lemmas.List.{length-replicate, get_or-replicate}
use Rattle.std.proofs.Math.ListN.{get_or-append}
use Rattle.std.proofs.lemmas.Bool.{eqb-false}
use Rattle.closure_table.specs.Frames.{SameOutside, outside_same, outside_set, outside_of_ends}
use Rattle.closure_table.specs.TabulateLaws.{mem_tabulate, tabulate_mem}
use Rattle.closure_table.specs.FactSets.{Within}
use Rattle.closure_table.specs.FactSetLaws.{within_and, and_within, within_refl, within_trans, within_le, empty_within, within_or_left, within_or_right, or_least}
use Rattle.closure_table.specs.Stores.{Rule, Closed, conclusions}
use Rattle.closure_table.specs.RuleTable.{rule_in, rules_in}
use Rattle.closure_table.specs.ClosureTable.{GrownBy}
use Rattle.closure_table.specs.FillLaws.{closed_fewer, grown_lt, put_closure}
use Rattle.conclusion_passes.specs.GatheredConclusions.{Entry, ConclusionsGathered, United, Spread, BlocksSpread, put_rule}

-- ---- the facts of a set from fact b on
next_part : (n b : ℕ) → n / 2 ^ (b + 1) ≡ n / 2 ^ b / 2
next_part n b = sym (shr-shr n b 1)

within_part : (b : ℕ) {p s : ℕ} → Within p s → bit_and (p / 2 ^ b) (s / 2 ^ b) ≡ p / 2 ^ b
within_part b {p} {s} w = sym (and_shr p s b) ∙ ap (λ (n : ℕ). n / 2 ^ b) (within_and w)

last_le : (a c : ℕ) → bit_and a c ≡ a → a % 2 ≤ c % 2
last_le a c e = omega (arith, and_step a c)

module _ (b : ℕ) {p s : ℕ} (w : Within p s) (e : p / 2 ^ (b + 1) ≡ s / 2 ^ (b + 1)) where
  same_fact : p / 2 ^ b % 2 ≡ s / 2 ^ b % 2 → p / 2 ^ b ≡ s / 2 ^ b
  same_fact f = omega (arith, next_part p b, next_part s b)

  fact_lacking : s / 2 ^ b % 2 ≡ 0 → p / 2 ^ b % 2 ≡ 0
  fact_lacking z = omega (arith, last_le (p / 2 ^ b) (s / 2 ^ b) (within_part b w))

-- a set that has fact b, and the same set without it
module _ (b s : ℕ) (one : s / 2 ^ b % 2 ≡ 1) where
  less_split : s - 2 ^ b ≡ (s / 2 ^ b - 1) * 2 ^ b + s % 2 ^ b
  less_split =
      let h : s / 2 ^ b ≡ (s / 2 ^ b - 1) + 1 = omega arith in
      let m : s / 2 ^ b * 2 ^ b ≡ (s / 2 ^ b - 1) * 2 ^ b + 2 ^ b =
      ap (λ (n : ℕ). n * 2 ^ b) (h ∙ add-one (s / 2 ^ b - 1)) ∙ suc-mul (s / 2 ^ b - 1) (2 ^ b) in
      omega (arith, split s b)

  less_part : (s - 2 ^ b) / 2 ^ b ≡ s / 2 ^ b - 1
  less_part = ap (λ (n : ℕ). n / 2 ^ b) less_split ∙ high (s / 2 ^ b - 1) b (mod-lt s (pow_pos b))

  pub less_within : Within (s - 2 ^ b) s
  less_within =
      and_within (s - 2 ^ b) s
      (ap₂ bit_and less_split (sym (split s b))
      ∙ and_block b (s / 2 ^ b - 1) (s / 2 ^ b) (s % 2 ^ b) (s % 2 ^ b) (mod-lt s (pow_pos b)) (mod-lt s (pow_pos b))
      ∙ ap₂ (λ (m n : ℕ). m * 2 ^ b + n) parts (and_self (s % 2 ^ b))
      ∙ sym less_split)
    where
      parts : bit_and (s / 2 ^ b - 1) (s / 2 ^ b) ≡ s / 2 ^ b - 1
      parts =
          let h : (s / 2 ^ b - 1) / 2 ≡ s / 2 ^ b / 2 = omega arith in
          let i : bit_and ((s / 2 ^ b - 1) / 2) (s / 2 ^ b / 2) ≡ s / 2 ^ b / 2 =
          ap (λ (n : ℕ). bit_and n (s / 2 ^ b / 2)) h ∙ and_self (s / 2 ^ b / 2) in
          omega (arith, and_step (s / 2 ^ b - 1) (s / 2 ^ b))

  module _ {p : ℕ} (w : Within p s) (e : p / 2 ^ (b + 1) ≡ s / 2 ^ (b + 1)) (zero : p / 2 ^ b % 2 ≡ 0) where
    lacks_part : p / 2 ^ b ≡ s / 2 ^ b - 1
    lacks_part = omega (arith, next_part p b, next_part s b)

    pub lacks_agrees : p / 2 ^ b ≡ (s - 2 ^ b) / 2 ^ b
    lacks_agrees = lacks_part ∙ sym less_part

    pub lacks_within : Within p (s - 2 ^ b)
    lacks_within =
        and_within p (s - 2 ^ b)
        (ap₂ bit_and (sym (split p b)) (less_split ∙ ap (λ (n : ℕ). n * 2 ^ b + s % 2 ^ b) (sym lacks_part))
        ∙ and_block b (p / 2 ^ b) (p / 2 ^ b) (p % 2 ^ b) (s % 2 ^ b) (mod-lt p (pow_pos b)) (mod-lt s (pow_pos b))
        ∙ ap₂ (λ (m n : ℕ). m * 2 ^ b + n) (and_self (p / 2 ^ b))
        (sym (and_mod p s b) ∙ ap (λ (n : ℕ). n % 2 ^ b) (within_and w))
        ∙ split p b)

-- ---- a pass for fact b
module _ {rs : List Rule} {b s : ℕ} where
  entry_without : {x : ℕ} → Entry rs b s x → s / 2 ^ b % 2 ≡ 0 → Entry rs (b + 1) s x
  entry_without g z =
      record {
        inside = g.inside;
        whole = λ r m w e. g.whole r m w (same_fact b w e (fact_lacking b w e z ∙ sym z));
      }

  entry_having : {x y : ℕ} → Entry rs b s x → Entry rs b (s - 2 ^ b) y → s / 2 ^ b % 2 ≡ 1 → Entry rs (b + 1) s (bit_or x y)
  entry_having {x} {y} g h one =
      record {
        inside = λ c closed w. or_least (g.inside c closed w) (h.inside c closed (within_trans (less_within b s one) w));
        whole = λ r m w e. go r m w e (eqb (r.premise / 2 ^ b % 2) 1) refl;
      }
    where
      go : (r : Rule) → Memᴰ r rs → Within r.premise s → r.premise / 2 ^ (b + 1) ≡ s / 2 ^ (b + 1)
          → (t : Bool) → eqb (r.premise / 2 ^ b % 2) 1 ≡ t → Within r.conclusion (bit_or x y)
      go r m w e true t =
          within_trans (g.whole r m w (same_fact b w e (eqb-true (r.premise / 2 ^ b % 2) 1 t ∙ sym one))) (within_or_left x y)
      go r m w e false t =
          let n = eqb-false (r.premise / 2 ^ b % 2) 1 t in
          let z : r.premise / 2 ^ b % 2 ≡ 0 = omega arith in
          within_trans (h.whole r m (lacks_within b s one w e z) (lacks_agrees b s one w e z)) (within_or_right x y)

pub gathered_next : {rs : List Rule} {b size : ℕ} {before after : List ℕ} → ConclusionsGathered rs b size before → Spread b size before after
    → ConclusionsGathered rs (b + 1) size after
gathered_next {rs} {b} {size} {before} {after} g p = record { at = λ s l. go s l (eqb (s / 2 ^ b % 2) 1) refl }
  where
    go : (s : ℕ) → s < size → (t : Bool) → eqb (s / 2 ^ b % 2) 1 ≡ t → Entry rs (b + 1) s (get_or after s 0)
    go s l true t =
        let one = eqb-true (s / 2 ^ b % 2) 1 t in
        subst (Entry rs (b + 1) s) (sym (p.having s l one)) (entry_having (g.at s l) (g.at (s - 2 ^ b) (omega arith)) one)
    go s l false t =
        let n = eqb-false (s / 2 ^ b % 2) 1 t in
        let z : s / 2 ^ b % 2 ≡ 0 = omega arith in
        subst (Entry rs (b + 1) s) (sym (p.without s l z)) (entry_without (g.at s l) z)

-- ---- the first entries
abbrev premise_of : List ℕ → ℕ → ℕ
premise_of sets i = (rule_in sets i).premise

abbrev conclusion_of : List ℕ → ℕ → ℕ
conclusion_of sets i = (rule_in sets i).conclusion

-- the entry of a rule's premise with the conclusion added
abbrev with_rule : List ℕ → ℕ → List ℕ → ℕ
with_rule sets i table = bit_or (get_or table (premise_of sets i) 0) (conclusion_of sets i)

module _ (sets : List ℕ) (size : ℕ) where
  pub gathered_none : (rest : List ℕ) → ConclusionsGathered (rules_in sets 0) 0 size (replicate size 0 ++ rest)
  gathered_none rest = record { at = λ s l. subst (Entry (rules_in sets 0) 0 s) (sym (cleared s l)) (none s) }
    where
      cleared : (s : ℕ) → s < size → get_or (replicate size 0 ++ rest) s 0 ≡ 0
      cleared s l = get_or-append (replicate size 0) rest 0 s (simp length-replicate l) ∙ get_or-replicate size s 0 0 l

      none : (s : ℕ) → Entry (rules_in sets 0) 0 s 0
      none s =
          record {
            inside = λ c closed w. empty_within c;
            whole = λ r m w e. let i = tabulate_mem (rule_in sets) 0 m in absurd (omega (arith, i.1));
          }

  module _ (table : List ℕ) (i : ℕ) (long : size ≤ length table) (g : ConclusionsGathered (rules_in sets i) 0 size table) where
    -- an entry that was made larger for the next rule, where that has the set for its premise
    entry_more : {s x : ℕ} → s < size → Within (get_or table s 0) x → (premise_of sets i ≡ s → Within (conclusion_of sets i) x)
        → ((c : ℕ) → Closed (rules_in sets (i + 1)) c → Within s c → Within x c) → Entry (rules_in sets (i + 1)) 0 s x
    entry_more {s} {x} l old new sound =
        record {
          inside = sound;
          whole = λ r m w e. let j = tabulate_mem (rule_in sets) (i + 1) m in go r w e j.0 j.1 j.2 (eqb j.0 i) refl;
        }
      where
        go : (r : Rule) → Within r.premise s → r.premise / 2 ^ 0 ≡ s / 2 ^ 0 → (j : ℕ) → j < i + 1 → r ≡ rule_in sets j
            → (t : Bool) → eqb j i ≡ t → Within r.conclusion x
        go r w e j k q true t =
            let is : r ≡ rule_in sets i = q ∙ ap (rule_in sets) (eqb-true j i t) in
            let same : r.premise ≡ s = omega arith in
            subst (λ (y : Rule). Within y.conclusion x) (sym is) (new (sym (ap (λ (y : Rule). y.premise) is) ∙ same))
        go r w e j k q false t =
            let ne = eqb-false j i t in
            let m = subst (λ (y : Rule). Memᴰ y (rules_in sets i)) (sym q) (mem_tabulate (rule_in sets) i j (omega arith)) in
            within_trans ((g.at s l).whole r m w e) old

    entry_same : {s : ℕ} → s < size → (premise_of sets i ≡ s → ⊥) → Entry (rules_in sets (i + 1)) 0 s (get_or table s 0)
    entry_same {s} l ne =
        entry_more l (within_refl (get_or table s 0)) (λ e. absurd (ne e))
        (λ c closed w. (g.at s l).inside c (closed_fewer sets (i + 1) i c (omega arith) closed) w)

    pub gathered_rule : ConclusionsGathered (rules_in sets (i + 1)) 0 size (put_rule size (get_or sets (2 * i) 0) (get_or sets (2 * i + 1) 0) table)
    gathered_rule = put (ltb (premise_of sets i) size) refl
      where
        put : (t : Bool) → ltb (premise_of sets i) size ≡ t
            → ConclusionsGathered (rules_in sets (i + 1)) 0 size
            (cond t (set table (premise_of sets i) (with_rule sets i table)) table)
        put true t = record { at = λ s l. go s l (eqb s (premise_of sets i)) refl }
          where
            go : (s : ℕ) → s < size → (u : Bool) → eqb s (premise_of sets i) ≡ u → Entry (rules_in sets (i + 1)) 0 s
                (get_or (set table (premise_of sets i) (with_rule sets i table)) s 0)
            go s l true u =
                let same : s ≡ premise_of sets i = eqb-true s (premise_of sets i) u in
                subst (Entry (rules_in sets (i + 1)) 0 s)
                (sym (ap (λ (k : ℕ). get_or (set table (premise_of sets i) (with_rule sets i table)) k 0) same
                ∙ get_or-set_same table (premise_of sets i) (with_rule sets i table) 0 (omega arith)
                ∙ ap (λ (k : ℕ). bit_or (get_or table k 0) (conclusion_of sets i)) (sym same)))
                (entry_more l (within_or_left (get_or table s 0) (conclusion_of sets i))
                (λ e. within_or_right (get_or table s 0) (conclusion_of sets i))
                (λ c closed w.
                or_least ((g.at s l).inside c (closed_fewer sets (i + 1) i c (omega arith) closed) w)
                ((closed.obeys (rule_in sets i) (mem_tabulate (rule_in sets) (i + 1) i (omega arith))).follows
                (subst (λ (k : ℕ). Within k c) same w))))
            go s l false u =
                let other = eqb-false s (premise_of sets i) u in
                subst (Entry (rules_in sets (i + 1)) 0 s)
                (sym (get_or-set_other table (premise_of sets i) s (with_rule sets i table) 0 other))
                (entry_same l (λ e. other (sym e)))
        put false t = record { at = λ s l. entry_same l (λ e. omega (arith, ltb-false (premise_of sets i) size t)) }

-- nothing behind the entries changes
pub cleared_outside : (size : ℕ) (table : List ℕ) → size ≤ length table → SameOutside 0 size table (replicate size 0 ++ drop size table)
cleared_outside size table h =
    outside_of_ends 0 size table (replicate size 0 ++ drop size table)
    (simp (length-append, length-replicate, length-drop) (omega arith)) refl
    (drop_at (replicate size 0) (drop size table) size (length-replicate size 0))

pub put_outside : (size p c : ℕ) (table : List ℕ) → SameOutside 0 size table (put_rule size p c table)
put_outside size p c table = go (ltb p size) refl
  where
    go : (t : Bool) → ltb p size ≡ t → SameOutside 0 size table (cond t (set table p (bit_or (get_or table p 0) c)) table)
    go true t = outside_set 0 size table p (bit_or (get_or table p 0) c) (omega arith) (ltb-true p size t)
    go false t = outside_same 0 size table

-- ---- a block
pub united_none : (from half : ℕ) (table : List ℕ) → United from half 0 table table
united_none from half table = record { long = refl; joined = λ j h. absurd (omega arith); under = λ s h. refl; beyond = λ s h. refl }

abbrev joined_at : List ℕ → ℕ → ℕ → ℕ
joined_at table s r = bit_or (get_or table s 0) (get_or table r 0)

module _ (from half k : ℕ) (before table : List ℕ) (u : United from half k before table) (l : k < half)
    (fits : from + 2 * half ≤ length before) where
  pub united_next : United from half (k + 1) before (set table (from + half + k) (joined_at table (from + half + k) (from + k)))
  united_next =
      record {
        long = length-set table (from + half + k) (joined_at table (from + half + k) (from + k)) ∙ u.long;
        joined = λ j h. go j h (eqb j k) refl;
        under = λ s h. other s (λ e. omega arith) ∙ u.under s h;
        beyond = λ s h. other s (λ e. omega arith) ∙ u.beyond s (omega arith);
      }
    where
      other : (s : ℕ) → (s ≡ from + half + k → ⊥)
          → get_or (set table (from + half + k) (joined_at table (from + half + k) (from + k))) s 0 ≡ get_or table s 0
      other s ne = get_or-set_other table (from + half + k) s (joined_at table (from + half + k) (from + k)) 0 ne

      go : (j : ℕ) → j < k + 1 → (t : Bool) → eqb j k ≡ t
          → get_or (set table (from + half + k) (joined_at table (from + half + k) (from + k))) (from + half + j) 0
          ≡ bit_or (get_or before (from + half + j) 0) (get_or before (from + j) 0)
      go j h true t =
          let same : j ≡ k = eqb-true j k t in
          ap
          (λ (n : ℕ). get_or (set table (from + half + k) (joined_at table (from + half + k) (from + k))) (from + half + n) 0)
          same
          ∙ get_or-set_same table (from + half + k) (joined_at table (from + half + k) (from + k)) 0 (omega (arith, u.long))
          ∙ ap₂ bit_or (u.beyond (from + half + k) (omega arith)) (u.under (from + k) (omega arith))
          ∙ ap (λ (n : ℕ). bit_or (get_or before (from + half + n) 0) (get_or before (from + n) 0)) (sym same)
      go j h false t =
          let ne = eqb-false j k t in
          other (from + half + j) (λ e. omega arith) ∙ u.joined j (omega arith)

  -- the same, the two places written in another way
  pub united_at : (at of : ℕ) → at ≡ from + half + k → of ≡ from + k → United from half (k + 1) before (set table at (joined_at table at of))
  united_at at of e f =
      subst (λ (n : ℕ). United from half (k + 1) before (set table n (joined_at table n of))) (sym e)
      (subst (λ (n : ℕ). United from half (k + 1) before (set table (from + half + k) (joined_at table (from + half + k) n))) (sym f)
      united_next)

-- ---- all blocks
spread_none : (b : ℕ) (table : List ℕ) → Spread b (2 * 0 * 2 ^ b) table table
spread_none b table =
    record {
      long = refl;
      without = λ s h z. refl;
      having = λ s h z. absurd (omega arith);
      beyond = λ s h. refl;
    }

module _ (b q : ℕ) (before table after : List ℕ) (p : Spread b (2 * q * 2 ^ b) before table)
    (u : United (2 * q * 2 ^ b) (2 ^ b) (2 ^ b) table after) where
  wider : 2 * (q + 1) * 2 ^ b ≡ 2 * q * 2 ^ b + 2 ^ b + 2 ^ b
  wider =
      let e : 2 * (q + 1) ≡ 2 * q + 2 = omega arith in
      omega (arith, ap (λ (n : ℕ). n * 2 ^ b) e ∙ add-mul (2 * q) 2 (2 ^ b))

  first_half : (s : ℕ) → 2 * q * 2 ^ b ≤ s → s < 2 * q * 2 ^ b + 2 ^ b → s / 2 ^ b % 2 ≡ 0
  first_half s h k =
      let e : s ≡ 2 * q * 2 ^ b + (s - 2 * q * 2 ^ b) = omega arith in
      let d : s / 2 ^ b ≡ 2 * q = ap (λ (n : ℕ). n / 2 ^ b) e ∙ high (2 * q) b (omega arith) in
      omega arith

  second_half : (s : ℕ) → 2 * q * 2 ^ b + 2 ^ b ≤ s → s < 2 * (q + 1) * 2 ^ b → s / 2 ^ b % 2 ≡ 1
  second_half s h k =
      let m : (2 * q + 1) * 2 ^ b ≡ 2 * q * 2 ^ b + 1 * 2 ^ b = add-mul (2 * q) 1 (2 ^ b) in
      let e : s ≡ (2 * q + 1) * 2 ^ b + (s - (2 * q * 2 ^ b + 2 ^ b)) = omega arith in
      let d : s / 2 ^ b ≡ 2 * q + 1 = ap (λ (n : ℕ). n / 2 ^ b) e ∙ high (2 * q + 1) b (omega (arith, wider)) in
      omega arith

  spread_next : Spread b (2 * (q + 1) * 2 ^ b) before after
  spread_next =
      record {
        long = u.long ∙ p.long;
        without = λ s h z. lack s h z (ltb s (2 * q * 2 ^ b)) refl (ltb s (2 * q * 2 ^ b + 2 ^ b)) refl;
        having = λ s h z. have s h z (ltb s (2 * q * 2 ^ b)) refl (ltb s (2 * q * 2 ^ b + 2 ^ b)) refl;
        beyond = λ s h. u.beyond s (omega (arith, wider)) ∙ p.beyond s (omega (arith, wider));
      }
    where
      lack : (s : ℕ) → s < 2 * (q + 1) * 2 ^ b → s / 2 ^ b % 2 ≡ 0
          → (t : Bool) → ltb s (2 * q * 2 ^ b) ≡ t → (v : Bool) → ltb s (2 * q * 2 ^ b + 2 ^ b) ≡ v → get_or after s 0 ≡ get_or before s 0
      lack s h z true t v f = let l = ltb-true s (2 * q * 2 ^ b) t in u.under s (omega arith) ∙ p.without s l z
      lack s h z false t true f = u.under s (ltb-true s (2 * q * 2 ^ b + 2 ^ b) f) ∙ p.beyond s (ltb-false s (2 * q * 2 ^ b) t)
      lack s h z false t false f = absurd (omega (arith, second_half s (ltb-false s (2 * q * 2 ^ b + 2 ^ b) f) h))

      have : (s : ℕ) → s < 2 * (q + 1) * 2 ^ b → s / 2 ^ b % 2 ≡ 1
          → (t : Bool) → ltb s (2 * q * 2 ^ b) ≡ t → (v : Bool) → ltb s (2 * q * 2 ^ b + 2 ^ b) ≡ v
          → get_or after s 0 ≡ bit_or (get_or before s 0) (get_or before (s - 2 ^ b) 0)
      have s h z true t v f = let l = ltb-true s (2 * q * 2 ^ b) t in u.under s (omega arith) ∙ p.having s l z
      have s h z false t true f =
          absurd (omega (arith, first_half s (ltb-false s (2 * q * 2 ^ b) t) (ltb-true s (2 * q * 2 ^ b + 2 ^ b) f)))
      have s h z false t false f =
          let l = ltb-false s (2 * q * 2 ^ b + 2 ^ b) f in
          let j = s - (2 * q * 2 ^ b + 2 ^ b) in
          let e : s ≡ 2 * q * 2 ^ b + 2 ^ b + j = omega arith in
          let d : 2 * q * 2 ^ b + j ≡ s - 2 ^ b = omega arith in
          ap (λ (n : ℕ). get_or after n 0) e ∙ u.joined j (omega (arith, wider))
          ∙ ap₂ bit_or (ap (λ (n : ℕ). get_or table n 0) (sym e) ∙ p.beyond s (omega arith))
          (ap (λ (n : ℕ). get_or table n 0) d ∙ p.beyond (s - 2 ^ b) (omega arith))

-- ---- block after block
pub blocks_none : {b blocks : ℕ} {table : List ℕ} → BlocksSpread b blocks 0 table table
blocks_none {b} {table = table} = record { few = omega arith; spread = spread_none b table }

pub blocks_next : {b blocks q : ℕ} {before table after : List ℕ} → BlocksSpread b blocks q before table → q < blocks
    → United (2 * q * 2 ^ b) (2 ^ b) (2 ^ b) table after → BlocksSpread b blocks (q + 1) before after
blocks_next {b} {q = q} {before} {table} {after} p l u =
    record { few = omega arith; spread = spread_next b q before table after p.spread u }

pub blocks_all : {b blocks q : ℕ} {before table : List ℕ} → BlocksSpread b blocks q before table → blocks ≤ q
    → Spread b (2 * blocks * 2 ^ b) before table
blocks_all {b} {blocks} {q} {before} {table} p h =
    let e : q ≡ blocks = omega (arith, p.few) in
    subst (λ (z : ℕ). Spread b (2 * z * 2 ^ b) before table) e p.spread

-- the block of two entries with its second one joined
pub pair_united : (q : ℕ) (table : List ℕ) → 2 * q + 1 < length table
    → United (2 * q * 2 ^ 0) (2 ^ 0) (2 ^ 0) table (set table (2 * q + 1) (bit_or (get_or table (2 * q + 1) 0) (get_or table (2 * q) 0)))
pair_united q table h =
    united_at (2 * q * 2 ^ 0) (2 ^ 0) 0 table table (united_none (2 * q * 2 ^ 0) (2 ^ 0) table) (omega arith) (omega arith)
    (2 * q + 1) (2 * q) (omega arith) (omega arith)

-- the block of four with its last two joined
pub four_united : (q : ℕ) (table : List ℕ) → 4 * q + 3 < length table
    → (t : List ℕ) → t ≡ set table (4 * q + 2) (bit_or (get_or table (4 * q + 2) 0) (get_or table (4 * q) 0))
    → United (2 * q * 2 ^ 1) (2 ^ 1) (2 ^ 1) table (set t (4 * q + 3) (bit_or (get_or t (4 * q + 3) 0) (get_or t (4 * q + 1) 0)))
four_united q table h t is =
    let first : United (2 * q * 2 ^ 1) (2 ^ 1) 1 table t =
    subst (United (2 * q * 2 ^ 1) (2 ^ 1) 1 table) (sym is)
    (united_at (2 * q * 2 ^ 1) (2 ^ 1) 0 table table (united_none (2 * q * 2 ^ 1) (2 ^ 1) table) (omega arith) (omega arith)
    (4 * q + 2) (4 * q) (omega arith) (omega arith)) in
    united_at (2 * q * 2 ^ 1) (2 ^ 1) 1 table t first (omega arith) (omega arith) (4 * q + 3) (4 * q + 1) (omega arith) (omega arith)

pub spread_outside : {b bound : ℕ} {before after : List ℕ} → Spread b bound before after → SameOutside 0 bound before after
spread_outside {b} {bound} {before} {after} p = record { long = p.long; at = go }
  where
    go : (s : ℕ) → (s < 0) ⊎ (bound ≤ s) → get_or after s 0 ≡ get_or before s 0
    go s (inl h) = absurd (omega arith)
    go s (inr h) = p.beyond s h

-- one more block fits where not all were passed
pub block_fits : {q blocks : ℕ} (b : ℕ) → q < blocks → 2 * q * 2 ^ b + 2 * 2 ^ b ≤ 2 * blocks * 2 ^ b
block_fits {q} {blocks} b h =
    let l : 2 * q + 2 ≤ 2 * blocks = omega arith in
    omega (arith, add-mul (2 * q) 2 (2 ^ b), mul-le-mul_right (2 ^ b) l)

-- the blocks of a pass for one of the table's facts make the table
pub blocks_of_lem : (n b : ℕ) → b < n → 2 * 2 ^ (n - b - 1) * 2 ^ b ≡ 2 ^ n
blocks_of_lem n b h =
    let e : 1 + (n - b - 1) + b ≡ n = omega arith in
    ap (λ (k : ℕ). k * 2 ^ b) (sym (pow-add 2 1 (n - b - 1))) ∙ sym (pow-add 2 (1 + (n - b - 1)) b) ∙ ap (λ (k : ℕ). 2 ^ k) e

-- ---- the entries after the last pass
pub entry_grown : {rs : List Rule} (n : ℕ) {s x : ℕ} → Entry rs n s x → s < 2 ^ n → GrownBy rs s (bit_or s x)
entry_grown {rs} n {s} {x} g h =
    record {
      above = within_or_left s x;
      inside = λ c closed w. or_least w (g.inside c closed w);
      same = λ e. record { obeys = λ r m. record { follows = λ w. subst (Within r.conclusion) e (added r m w) } };
    }
  where
    none : (r : Rule) → Within r.premise s → r.premise / 2 ^ n ≡ s / 2 ^ n
    none r w = div-eq_of_lt (omega (arith, within_le w)) ∙ sym (div-eq_of_lt h)

    added : (r : Rule) → Memᴰ r rs → Within r.premise s → Within r.conclusion (bit_or s x)
    added r m w = within_trans (g.whole r m w (none r w)) (within_or_right s x)

-- and what a set of the sheet's facts grows to is one
pub entry_fits : (rs : List Rule) (n : ℕ) {s x : ℕ} → Entry rs n s x → s < 2 ^ n → conclusions rs < 2 ^ n → bit_or s x < 2 ^ n
entry_fits rs n g h c = grown_lt rs n (entry_grown n g h) h c

-- a closure that is put above them leaves the entries of the sets below
pub gathered_put : {rs : List Rule} (n : ℕ) (table : List ℕ) (s t : ℕ) → ConclusionsGathered rs n (s + 1) table
    → ConclusionsGathered rs n s (put_closure table s t)
gathered_put {rs} n table s t g = record { at = λ j l. subst (Entry rs n j) (sym (below j l)) (g.at j (omega arith)) }
  where
    below : (j : ℕ) → j < s → get_or (put_closure table s t) j 0 ≡ get_or table j 0
    below j l =
        let other : j ≡ s → ⊥ = λ (e : j ≡ s). omega arith in
        get_or-set_other (set table s s) s j (get_or (set table s s) t 0) 0 other ∙ get_or-set_other table s j s 0 other
