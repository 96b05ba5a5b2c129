-- Laws of closure, join and the least store.
use Rattle.std.specs.Prelude.{◌≡◌, refl, Bool, true, false, cond, not, ℕ, zero, suc, ◌+◌, ◌^◌, ◌≤◌, ◌<◌, eqb}
use Rattle.std.proofs.Common.{sym, ap, ◌∙◌, subst, ⊎_elim, arith, eqb-true, eq-eqb, ne_eqb}
use mathlib.Core.List.Memᴰ
use mathlib.Core.List.{List, [], ◌∷◌, ◌++◌, Memᴰ}
use Rattle.std.specs.Int.Bits.{bit_or, or_add_and}
use Rattle.std.proofs.lemmas.Nat.{or_lt, or_comm}
use Rattle.std.proofs.lemmas.Bool.{eqb-false, not-true}
use Rattle.list_laws.specs.TestLaws.{and_left, and_right, and_intro, not_passes}
use Rattle.stores.specs.FactSets.{Within}
use Rattle.store_laws.specs.FactSetLaws.{within_and, and_within, within_refl, within_trans, within_antisym, within_or_left, within_or_right, or_least, within_le, empty_within, within_empty}
use Rattle.stores.specs.Stores.{Rule, Obeys, Closed, Smallest, Constraint, fire, pass, passes, conclusions, closure, join, includes, strictly_below, least_store}

-- ---- inclusion as a test
pub includes_within : (c a : ℕ) → includes c a ≡ true → Within a c
includes_within c a h = and_within a c (eqb-true _ _ h)

pub within_includes : {a c : ℕ} → Within a c → includes c a ≡ true
within_includes h = eq-eqb _ _ (within_and h)

pub below_within : (a b : ℕ) → strictly_below a b ≡ true → Within a b × (a ≡ b → ⊥)
below_within a b h =
    (includes_within b a (and_left (includes b a) (not (eqb a b)) h), eqb-false a b (not-true (eqb a b) (and_right (includes b a) (not (eqb a b)) h)))

pub within_below : {a b : ℕ} → Within a b → (a ≡ b → ⊥) → strictly_below a b ≡ true
within_below {a} {b} h k = and_intro (within_includes h) (not_passes (ne_eqb a b k))

pub smallest_unique : {rs : List Rule} {s c d : ℕ} → Smallest rs s c → Smallest rs s d → c ≡ d
smallest_unique {c = c} {d} h k = within_antisym (h.least d k.closed k.above) (k.least c h.closed h.above)

-- ---- one rule
fire_above : (r : Rule) (s : ℕ) → Within s (fire r s)
fire_above r s = go (includes s r.premise)
  where
    go : (b : Bool) → Within s (cond b (bit_or s r.conclusion) s)
    go true = within_or_left s r.conclusion
    go false = within_refl s

fire_least : (r : Rule) (s t : ℕ) → Obeys r t → Within s t → Within (fire r s) t
fire_least r s t h k = go (includes s r.premise) refl
  where
    go : (b : Bool) → includes s r.premise ≡ b → Within (cond b (bit_or s r.conclusion) s) t
    go true e = or_least k (h.follows (within_trans (includes_within s r.premise e) k))
    go false e = k

fire_same : (r : Rule) (s : ℕ) → fire r s ≡ s → Obeys r s
fire_same r s e =
    record {
      follows = λ h.
          let q : bit_or s r.conclusion ≡ s = rw (within_includes h) at e in
          rw q at (within_or_right s r.conclusion);
    }

-- ---- one pass
pub pass_above : (rs : List Rule) (s : ℕ) → Within s (pass rs s)
unfolding pass
pass_above [] s = within_refl s
pass_above (r ∷ rs) s = within_trans (fire_above r s) (pass_above rs (fire r s))

pub pass_least : (rs : List Rule) (s t : ℕ) → Closed rs t → Within s t → Within (pass rs s) t
unfolding pass
pass_least [] s t h k = k
pass_least (r ∷ rs) s t h k =
    pass_least rs (fire r s) t (record { obeys = λ q m. h.obeys q (Memᴰ.tail m) })
    (fire_least r s t (h.obeys r (Memᴰ.head refl)) k)

-- a pass that changes nothing finds a closed set
pub pass_same : (rs : List Rule) (s : ℕ) → pass rs s ≡ s → Closed rs s
unfolding pass
pass_same [] s e = record { obeys = λ r m. absurd (Memᴰ.not-nil m) }
pass_same (r ∷ rs) s e =
    let first : fire r s ≡ s = within_antisym (subst (λ (x : ℕ). Within (fire r s) x) e (pass_above rs (fire r s))) (fire_above r s) in
    let rest : Closed rs s = pass_same rs s (ap (pass rs) (sym first) ∙ e) in
    record { obeys = λ q m. ⊎_elim (λ (i : q ≡ r). subst (λ (x : Rule). Obeys x s) (sym i) (fire_same r s first)) (λ (k : Memᴰ q rs). rest.obeys q k) (Memᴰ.cases_cons m) }

-- the rules taken one by one, the last one last
pub pass_snoc : (rs : List Rule) (r : Rule) (s : ℕ) → pass (rs ++ (r ∷ [])) s ≡ fire r (pass rs s)
unfolding pass
pass_snoc [] r s = refl
pass_snoc (q ∷ rs) r s = pass_snoc rs r (fire q s)

pub pass_none : (s : ℕ) → pass [] s ≡ s
unfolding pass
pass_none s = refl

-- ---- passes until nothing changes
conclusion_in : (rs : List Rule) (r : Rule) → Memᴰ r rs → Within r.conclusion (conclusions rs)
unfolding conclusions
conclusion_in [] r m = absurd (Memᴰ.not-nil m)
conclusion_in (q ∷ rs) r m =
    ⊎_elim (λ (e : r ≡ q). subst (λ (x : Rule). Within x.conclusion (bit_or q.conclusion (conclusions rs))) (sym e) (within_or_left q.conclusion (conclusions rs)))
    (λ (k : Memᴰ r rs). within_trans (conclusion_in rs r k) (within_or_right q.conclusion (conclusions rs)))
    (Memᴰ.cases_cons m)

-- a set with all conclusions obeys every rule
all_conclusions_closed : (rs : List Rule) (s : ℕ) → Closed rs (bit_or s (conclusions rs))
all_conclusions_closed rs s =
    record { obeys = λ r m. record { follows = λ h. within_trans (conclusion_in rs r m) (within_or_right s (conclusions rs)) } }

passes_smallest : (rs : List Rule) (n s b : ℕ) → Closed rs b → Within s b → b < s + n → Smallest rs s (passes n rs s)
unfolding passes
passes_smallest rs zero s b c h k = absurd (omega (arith, within_le h))
passes_smallest rs (suc n) s b c h k = go (passes_smallest rs n (pass rs s) b c (pass_least rs s b c h)) (eqb (pass rs s) s) refl
  where
    go : (b < pass rs s + n → Smallest rs (pass rs s) (passes n rs (pass rs s))) → (t : Bool) → eqb (pass rs s) s ≡ t
        → Smallest rs s (elim t [ true ↦ s | false ↦ passes n rs (pass rs s) ])
    go more true e = record { above = within_refl s; closed = pass_same rs s (eqb-true _ _ e); least = λ t c k. k }
    go more false e =
        let up : s ≤ pass rs s = within_le (pass_above rs s) in
        let ih : Smallest rs (pass rs s) (passes n rs (pass rs s)) = more (omega (arith, eqb-false (pass rs s) s e)) in
        record {
          above = within_trans (pass_above rs s) ih.above;
          closed = ih.closed;
          least = λ t c k. ih.least t c (pass_least rs s t c k);
        }

-- The closure is the smallest superset that obeys every rule: it includes the set, is closed, and is inside every closed
-- superset.
pub closure_smallest : (rs : List Rule) (s : ℕ) → Smallest rs s (closure rs s)
unfolding closure
closure_smallest rs s =
    passes_smallest rs (suc (conclusions rs)) s (bit_or s (conclusions rs)) (all_conclusions_closed rs s) (within_or_left s (conclusions rs))
    (omega (arith, or_add_and s (conclusions rs)))

pub closure_closed : (rs : List Rule) (s : ℕ) → Closed rs (closure rs s)
closure_closed rs s = (closure_smallest rs s).closed

pub closure_includes : (rs : List Rule) (s : ℕ) → Within s (closure rs s)
closure_includes rs s = (closure_smallest rs s).above

pub closure_least : (rs : List Rule) (s t : ℕ) → Closed rs t → Within s t → Within (closure rs s) t
closure_least rs s = (closure_smallest rs s).least

-- a closed set is its own closure
pub closure_same : (rs : List Rule) (s : ℕ) → Closed rs s → closure rs s ≡ s
closure_same rs s c = smallest_unique (closure_smallest rs s) (record { above = within_refl s; closed = c; least = λ t d h. h })

pub closed_by_closure : (rs : List Rule) (s : ℕ) → closure rs s ≡ s → Closed rs s
closed_by_closure rs s e = subst (λ (x : ℕ). Closed rs x) e (closure_closed rs s)

-- the closure of a set of the first n facts is one too, where the conclusions are
pub closure_lt : (rs : List Rule) (n s : ℕ) → s < 2 ^ n → conclusions rs < 2 ^ n → closure rs s < 2 ^ n
closure_lt rs n s h c =
    let b : closure rs s ≤ bit_or s (conclusions rs) =
    within_le (closure_least rs s (bit_or s (conclusions rs)) (all_conclusions_closed rs s) (within_or_left s (conclusions rs))) in
    omega (arith, or_lt n s (conclusions rs) h c)

pub closure_constraint : (rs : List Rule) (n s : ℕ) → s < 2 ^ n → conclusions rs < 2 ^ n → Constraint n rs (closure rs s)
closure_constraint rs n s h c = record { closed = closure_closed rs s; facts = closure_lt rs n s h c }

pub conclusions_lt : (rs : List Rule) (n : ℕ) → ((r : Rule) → Memᴰ r rs → r.conclusion < 2 ^ n) → 0 < 2 ^ n → conclusions rs < 2 ^ n
unfolding conclusions
conclusions_lt [] n h z = z
conclusions_lt (r ∷ rs) n h z =
    or_lt n r.conclusion (conclusions rs) (h r (Memᴰ.head refl)) (conclusions_lt rs n (λ q m. h q (Memᴰ.tail m)) z)

-- ---- a set on the way from s to its closure, as a loop has it
pub record Between (rs : List Rule) (s t : ℕ) : Type 0 where
  pub above : Within s t
  pub below : (c : ℕ) → Closed rs c → Within s c → Within t c

pub between_first : (rs : List Rule) (s : ℕ) → Between rs s s
between_first rs s = record { above = within_refl s; below = λ c k h. h }

pub between_pass : {rs : List Rule} {s t : ℕ} → Between rs s t → Between rs s (pass rs t)
between_pass {rs} {s} {t} b =
    record { above = within_trans b.above (pass_above rs t); below = λ c k h. pass_least rs t c k (b.below c k h) }

pub between_closed : {rs : List Rule} {s t : ℕ} → Between rs s t → pass rs t ≡ t → t ≡ closure rs s
between_closed {rs} {s} {t} b e =
    smallest_unique (record { above = b.above; closed = pass_same rs t e; least = b.below }) (closure_smallest rs s)

-- a pass that changes a set makes its number greater
pub pass_grows : (rs : List Rule) (s : ℕ) → (pass rs s ≡ s → ⊥) → s < pass rs s
pass_grows rs s h = omega (arith, within_le (pass_above rs s), h)

-- ---- the join is the least closed upper bound
module _ (rs : List Rule) where
  pub join_left : (a b : ℕ) → Within a (join rs a b)
  join_left a b = within_trans (within_or_left a b) (closure_includes rs (bit_or a b))

  pub join_right : (a b : ℕ) → Within b (join rs a b)
  join_right a b = within_trans (within_or_right a b) (closure_includes rs (bit_or a b))

  pub join_closed : (a b : ℕ) → Closed rs (join rs a b)
  join_closed a b = closure_closed rs (bit_or a b)

  pub join_least : (a b t : ℕ) → Closed rs t → Within a t → Within b t → Within (join rs a b) t
  join_least a b t c h k = closure_least rs (bit_or a b) t c (or_least h k)

  pub join_comm : (a b : ℕ) → join rs a b ≡ join rs b a
  join_comm a b = ap (closure rs) (or_comm a b)

  pub join_idem : (a : ℕ) → Closed rs a → join rs a a ≡ a
  join_idem a c = within_antisym (join_least a a a c (within_refl a) (within_refl a)) (join_left a a)

  pub join_assoc : (a b c : ℕ) → join rs (join rs a b) c ≡ join rs a (join rs b c)
  join_assoc a b c =
      within_antisym
      (join_least (join rs a b) c (join rs a (join rs b c)) (join_closed a (join rs b c))
      (join_least a b (join rs a (join rs b c)) (join_closed a (join rs b c)) (join_left a (join rs b c)) (within_trans (join_left b c) (join_right a (join rs b c))))
      (within_trans (join_right b c) (join_right a (join rs b c))))
      (join_least a (join rs b c) (join rs (join rs a b) c) (join_closed (join rs a b) c)
      (within_trans (join_left a b) (join_left (join rs a b) c))
      (join_least b c (join rs (join rs a b) c) (join_closed (join rs a b) c) (within_trans (join_right a b) (join_left (join rs a b) c)) (join_right (join rs a b) c)))

  pub join_swap : (a b c : ℕ) → join rs a (join rs b c) ≡ join rs b (join rs a c)
  join_swap a b c = sym (join_assoc a b c) ∙ ap (λ (x : ℕ). join rs x c) (join_comm a b) ∙ join_assoc b a c

  -- a is inside a closed b exactly where joining it changes nothing
  pub within_join : {a b : ℕ} → Closed rs b → Within a b → join rs a b ≡ b
  within_join {a} {b} c h = within_antisym (join_least a b b c h (within_refl b)) (join_right a b)

  pub join_within : (a b : ℕ) → join rs a b ≡ b → Within a b
  join_within a b e = subst (λ (x : ℕ). Within a x) e (join_left a b)

  -- ---- the least store is inside every closed set
  pub least_within : (a : ℕ) → Closed rs a → Within (least_store rs) a
  least_within a c = closure_least rs 0 a c (empty_within a)

  pub below_least : (a : ℕ) → Closed rs a → Within a (least_store rs) → a ≡ least_store rs
  below_least a c h = within_antisym h (least_within a c)

  -- where no premise is empty, the empty set obeys every rule and is the least store
  pub least_store_empty : ((r : Rule) → Memᴰ r rs → r.premise ≡ 0 → ⊥) → least_store rs ≡ 0
  least_store_empty h =
      closure_same rs 0 (record { obeys = λ r m. record { follows = λ p. absurd (h r m (within_empty p)) } })
