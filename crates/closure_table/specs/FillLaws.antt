-- Laws of filling the table from the highest number down.
use Rattle.std.specs.Prelude.{◌≡◌, refl, Bool, true, false, ℕ, ◌+◌, ◌^◌, ◌≤◌, ◌<◌, length, get_or, set, drop, eqb}
use Rattle.std.proofs.Common.{sym, ap, ◌∙◌, subst, arith, length-set, get_or-set_same, get_or-set_other, drop-set-lt, eqb-true}
use mathlib.Core.List.{List, Memᴰ}
use Rattle.std.proofs.lemmas.Bool.{eqb-false}
use Rattle.set_closure.specs.TabulateLaws.{mem_tabulate, tabulate_mem}
use Rattle.set_closure.specs.FactSets.{Within}
use Rattle.set_closure.specs.FactSetLaws.{within_trans, within_le}
use Rattle.set_closure.specs.Stores.{Rule, Closed, Smallest, conclusions, pass, closure}
use Rattle.set_closure.specs.StoreLaws.{smallest_unique, pass_above, pass_least, pass_same, closure_smallest, closure_closed, closure_includes, closure_least, closure_same, closure_lt}
use Rattle.set_closure.specs.RuleTable.{rule_in, rules_in}
use Rattle.set_closure.specs.PassLaws.{PassedTo}
use Rattle.closure_table.specs.ClosureTable.{Closures, GrownBy}

-- what is closed under rules is closed under the first of them
pub closed_fewer : (sets : List ℕ) (n k c : ℕ) → k ≤ n → Closed (rules_in sets n) c → Closed (rules_in sets k) c
closed_fewer sets n k c h closed =
    record {
      obeys = λ r m.
          let i = tabulate_mem (rule_in sets) k m in
          let among = mem_tabulate (rule_in sets) n i.0 (omega (arith, i.1)) in
          closed.obeys r (subst (λ (x : Rule). Memᴰ x (rules_in sets n)) (sym i.2) among);
    }

-- what the first rules make of a set, where the set itself is all of it only where it is closed
pub pass_grown : {sets : List ℕ} {n s k t : ℕ} → PassedTo sets n s k t → (t ≡ s → pass (rules_in sets n) s ≡ s) → GrownBy (rules_in sets n) s t
pass_grown {sets} {n} {s} {k} p f =
    record {
      above = subst (Within s) (sym p.made) (pass_above (rules_in sets k) s);
      inside = λ c closed w.
          subst (λ (x : ℕ). Within x c) (sym p.made) (pass_least (rules_in sets k) s c (closed_fewer sets n k c p.few closed) w);
      same = λ q. pass_same (rules_in sets n) s (f q);
    }

module _ (rs : List Rule) where
  -- growing a set leaves its closure
  closure_grown : {s t : ℕ} → GrownBy rs s t → closure rs t ≡ closure rs s
  closure_grown {s} {t} g =
      let small : Smallest rs s (closure rs t) =
      record {
        above = within_trans g.above (closure_includes rs t);
        closed = closure_closed rs t;
        least = λ c closed w. closure_least rs t c closed (g.inside c closed w);
      } in
      smallest_unique small (closure_smallest rs s)

  -- a set of the sheet's facts grows to one
  pub grown_lt : (n : ℕ) {s t : ℕ} → GrownBy rs s t → s < 2 ^ n → conclusions rs < 2 ^ n → t < 2 ^ n
  grown_lt n {s} {t} g h c =
      omega (arith, within_le (g.inside (closure rs s) (closure_closed rs s) (closure_includes rs s)), closure_lt rs n s h c)

  pub closures_none : (size : ℕ) (table : List ℕ) → Closures rs size size table
  closures_none size table = record { at = λ s h k. absurd (omega arith) }

-- the table with the entry of s made from the entry of what it grows to
abbrev pub put_closure : List ℕ → ℕ → ℕ → List ℕ
put_closure table s t = set (set table s s) s (get_or (set table s s) t 0)

module _ (rs : List Rule) (table : List ℕ) (s t size : ℕ) (l : s < size) (long : size ≤ length table) (g : GrownBy rs s t) (fits : t < size)
    (done : Closures rs (s + 1) size table) where
  put_same : get_or (set table s s) t 0 ≡ closure rs s
  put_same = go (eqb t s) refl
    where
      go : (b : Bool) → eqb t s ≡ b → get_or (set table s s) t 0 ≡ closure rs s
      go true e =
          let same : t ≡ s = eqb-true t s e in
          ap (λ (i : ℕ). get_or (set table s s) i 0) same
          ∙ get_or-set_same table s s 0 (omega arith)
          ∙ sym (closure_same rs s (g.same same))
      go false e =
          let other : t ≡ s → ⊥ = eqb-false t s e in
          let up : s < t = omega (arith, within_le g.above, other) in
          get_or-set_other table s t s 0 other ∙ done.at t (omega arith) fits ∙ closure_grown rs g

  pub closures_down : Closures rs s size (put_closure table s t)
  closures_down = record { at = λ j h k. go j h k (eqb j s) refl }
    where
      go : (j : ℕ) → s ≤ j → j < size → (b : Bool) → eqb j s ≡ b → get_or (put_closure table s t) j 0 ≡ closure rs j
      go j h k true e =
          let same : j ≡ s = eqb-true j s e in
          ap (λ (i : ℕ). get_or (put_closure table s t) i 0) same
          ∙ get_or-set_same (set table s s) s (get_or (set table s s) t 0) 0 (simp length-set (omega arith))
          ∙ put_same
          ∙ ap (closure rs) (sym same)
      go j h k false e =
          let other : j ≡ s → ⊥ = eqb-false j s e in
          get_or-set_other (set table s s) s j (get_or (set table s s) t 0) 0 other
          ∙ get_or-set_other table s j s 0 other
          ∙ done.at j (omega arith) k

pub drop_put_closure : (table : List ℕ) (s t size : ℕ) → s < size → drop size (put_closure table s t) ≡ drop size table
drop_put_closure table s t size h =
    drop-set-lt size (set table s s) s (get_or (set table s s) t 0) h ∙ drop-set-lt size table s s h
