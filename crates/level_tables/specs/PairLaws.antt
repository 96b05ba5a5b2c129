-- What a slot that was found says of the pair in it.
use Rattle.std.specs.Prelude.{Option, Some, None, ◌≡◌, refl, true, false, List, ℕ, ◌+◌, ◌-◌, ◌≤◌, set, eqb}
use Rattle.std.specs.Option.{SomeIff}
use Rattle.std.proofs.Common.{sym, subst, ◌∙◌, add-one, arith, eq-eqb, ne_eqb}
use Rattle.level_tables.specs.Numbers.{number_at}
use Rattle.level_tables.specs.Pairs.{zeroed, settled_at, first_of, second_of, is_pair, Found, Entered, full, new, Appended}

pub zeroed_none : (w : List ℕ) (from : ℕ) → zeroed w from 0 ≡ w
unfolding zeroed
zeroed_none w from = refl

pub zeroed_next : (w : List ℕ) (from n : ℕ) → zeroed w from (n + 1) ≡ set (zeroed w from n) (from + n) 0
unfolding zeroed
zeroed_next w from n = rw (add-one n)

-- a free slot, and one that is not
pub settled_free : (w : List ℕ) (base slot a b : ℕ) → number_at w slot ≡ 0 → settled_at w base slot a b ≡ true
unfolding settled_at
settled_free w base slot a b h = rw (settled_at, eq-eqb (number_at w slot) 0 h)

settled_taken : (w : List ℕ) (base slot a b : ℕ) → (number_at w slot ≡ 0 → ⊥) → settled_at w base slot a b ≡ is_pair w base a b (number_at w slot - 1)
unfolding settled_at
settled_taken w base slot a b h = rw (settled_at, ne_eqb (number_at w slot) 0 h)

module _ (w : List ℕ) (base slot a b : ℕ) {held : ℕ} (read : held ≡ number_at w slot) (taken : held ≡ 0 → ⊥) where
  pub settled_second : first_of w base (held - 1) ≡ a → settled_at w base slot a b ≡ eqb (second_of w base (held - 1)) b
  settled_second e = settled_taken w base slot a b (λ z. taken (read ∙ z)) ∙ rw (← read, eq-eqb (first_of w base (held - 1)) a e)

  pub settled_not : (first_of w base (held - 1) ≡ a → ⊥) → settled_at w base slot a b ≡ false
  settled_not e = settled_taken w base slot a b (λ z. taken (read ∙ z)) ∙ rw (← read, ne_eqb (first_of w base (held - 1)) a e)

-- a slot that is not free is the pair's
pub slot_pair : (w : List ℕ) (base slot a b : ℕ) {held : ℕ} → settled_at w base slot a b ≡ true → held ≡ number_at w slot → (held ≡ 0 → ⊥)
    → is_pair w base a b (held - 1) ≡ true
slot_pair w base slot a b settled read taken =
    rw read (sym (settled_taken w base slot a b (λ z. taken (read ∙ z))) ∙ settled)

-- the pair of a slot, where it is not free
pub held_found : (w : List ℕ) (base slot a b : ℕ) {held : ℕ} → settled_at w base slot a b ≡ true → held ≡ number_at w slot
    → (r : Option ℕ) → SomeIff r (1 ≤ held) (held - 1) → Found w base a b r
held_found w base slot a b settled read None free = tt
held_found w base slot a b settled read (Some i) e = rw e.1 (slot_pair w base slot a b settled read (λ z. omega (arith, e.0)))

-- a pair that is appended is entered
pub appended_entered : {w after : List ℕ} {base a b : ℕ} (slot : ℕ) (r : Option ℕ) → Appended w base slot a b after r → Entered w base a b after r
appended_entered {w} {base = base} {a} {b} slot None e = subst (λ (v : List ℕ). Entered w base a b v None) (sym e) full
appended_entered slot (Some n) e = new slot e.0 e.1
