-- Laws of the digits of the closed sets: one rule after another taken into account.
use Rattle.std.specs.Prelude.{◌≡◌, refl, Bool, true, false, cond, not, ◌&&◌, ℕ, ◌+◌, ◌-◌, ◌^◌, ◌≤◌, ◌<◌, eqb, ltb, get_or}
use Rattle.std.proofs.Common.{sym, ap, ap₂, ◌∙◌, subst, ⊎_elim, arith, pow_mono, eqb-true, eq-eqb}
use mathlib.Core.List.Memᴰ
use mathlib.Core.List.{List, [], ◌∷◌, ◌++◌, Memᴰ}
use Rattle.set_digits.specs.TestLaws.{true_false, and_left, and_right, and_intro, same_test}
use Rattle.set_digits.specs.Tabulate.{tabulate_none, tabulate_next}
use Rattle.held_rules.specs.Stores.{Rule, Obeys, Closed, includes, closure}
use Rattle.held_rules.specs.StoreLaws.{includes_within, within_includes, closure_same, closed_by_closure}
use Rattle.held_rules.specs.RuleTable.{rule_in, rules_in}
use Rattle.set_digits.specs.SheetLimits.{max_facts}
use Rattle.set_digits.specs.SetDigits.{bit, words_of, mark, Marked}
use Rattle.set_digits.specs.MarkedLaws.{marked_agree}
use Rattle.closed_digits.specs.ClosedDigits.{closed_at, table_end, ClosedMarked}

-- ---- one rule
-- s has the rule's premise and not its conclusion, as a test
abbrev breaks : ℕ → Rule → Bool
breaks s r = includes s r.premise && not (includes s r.conclusion)

obeys_test : (r : Rule) (s : ℕ) → Obeys r s → not (breaks s r) ≡ true
obeys_test r s o = go (includes s r.premise) refl (includes s r.conclusion) refl
  where
    go : (a : Bool) → includes s r.premise ≡ a → (b : Bool) → includes s r.conclusion ≡ b → not (a && not b) ≡ true
    go true e true f = refl
    go true e false f = true_false (includes s r.conclusion) (within_includes (o.follows (includes_within s r.premise e))) f
    go false e b f = refl

test_obeys : (r : Rule) (s : ℕ) → not (breaks s r) ≡ true → Obeys r s
test_obeys r s t =
    record { follows = λ h. includes_within s r.conclusion (go (includes s r.premise) (includes s r.conclusion) (within_includes h) t) }
  where
    go : (a b : Bool) → a ≡ true → not (a && not b) ≡ true → b ≡ true
    go true true e u = refl
    go true false e u = u
    go false b e u = true_false false e refl

-- ---- all rules
closed_test : {rs : List Rule} {s : ℕ} → Closed rs s → eqb (closure rs s) s ≡ true
closed_test {rs} {s} c = eq-eqb (closure rs s) s (closure_same rs s c)

test_closed : (rs : List Rule) (s : ℕ) → eqb (closure rs s) s ≡ true → Closed rs s
test_closed rs s h = closed_by_closure rs s (eqb-true (closure rs s) s h)

closed_none : (s : ℕ) → eqb (closure [] s) s ≡ true
closed_none s = closed_test (record { obeys = λ r m. absurd (Memᴰ.not-nil m) })

-- a set is closed under one rule more where it does not break it
closed_more : (rs : List Rule) (r : Rule) (s : ℕ) → eqb (closure (rs ++ (r ∷ [])) s) s ≡ (eqb (closure rs s) s && not (breaks s r))
closed_more rs r s =
    same_test (eqb (closure (rs ++ (r ∷ [])) s) s) (eqb (closure rs s) s && not (breaks s r))
    (λ h.
    let c : Closed (rs ++ (r ∷ [])) s = test_closed (rs ++ (r ∷ [])) s h in
    and_intro (closed_test {rs = rs} (record { obeys = λ q m. c.obeys q (Memᴰ.append_left (r ∷ []) m) }))
    (obeys_test r s (c.obeys r (Memᴰ.append_right rs (Memᴰ.head refl)))))
    (λ h.
    let c : Closed rs s = test_closed rs s (and_left (eqb (closure rs s) s) (not (breaks s r)) h) in
    let o : Obeys r s = test_obeys r s (and_right (eqb (closure rs s) s) (not (breaks s r)) h) in
    closed_test {rs = rs ++ (r ∷ [])}
    (record {
      obeys = λ q m.
          ⊎_elim (λ (i : Memᴰ q rs). c.obeys q i)
          (λ (i : Memᴰ q (r ∷ [])). subst (λ (x : Rule). Obeys x s) (sym (Memᴰ.eq_of_singleton i)) o) (Memᴰ.append_cases rs m);
    }))

-- ---- digits
-- every set marked is closed under no rules
pub closed_first_lem : {facts : ℕ} {w v : List ℕ} (rules : List ℕ) → Marked closed_at (words_of facts) w v (λ s. bit (ltb s (2 ^ facts)))
    → ClosedMarked (rules_in rules 0) facts v
closed_first_lem {facts} {w} {v} rules m =
    record {
      digits = λ s l. m.digits s l ∙ go (ltb s (2 ^ facts)) (ap (λ (rs : List Rule). eqb (closure rs s) s) (tabulate_none (rule_in rules)) ∙ closed_none s);
    }
  where
    go : (t : Bool) {u : Bool} → u ≡ true → bit t ≡ bit (t && u)
    go true e = rw e
    go false e = refl

-- the sets cleared that have the next rule's premise and not its conclusion
pub closed_next : {facts words p q : ℕ} {v u : List ℕ} (rules : List ℕ) (i : ℕ) → words ≡ words_of facts → p ≡ (rule_in rules i).premise
    → q ≡ (rule_in rules i).conclusion → ClosedMarked (rules_in rules i) facts v
    → Marked closed_at words v u (λ s. cond (includes s p && not (includes s q)) 0 (mark v closed_at s)) → ClosedMarked (rules_in rules (i + 1)) facts u
closed_next {facts} {v = v} rules i d e f c m =
    record {
      digits = λ s l.
          m.digits s (omega arith) ∙ ap₂ (λ (x y : ℕ). cond (includes s x && not (includes s y)) 0 (mark v closed_at s)) e f
          ∙ ap (cond (breaks s (rule_in rules i)) 0) (c.digits s l)
          ∙ go (ltb s (2 ^ facts)) (eqb (closure (rules_in rules i) s) s) (breaks s (rule_in rules i))
          ∙ ap (λ (t : Bool). bit (ltb s (2 ^ facts) && t))
          (sym (ap (λ (rs : List Rule). eqb (closure rs s) s) (tabulate_next (rule_in rules) i) ∙ closed_more (rules_in rules i) (rule_in rules i) s));
    }
  where
    go : (a b t : Bool) → cond t 0 (bit (a && b)) ≡ bit (a && (b && not t))
    go true true true = refl
    go true true false = refl
    go true false true = refl
    go true false false = refl
    go false b true = refl
    go false b false = refl

-- rules with the same closures have the same digits
pub closed_same : {rs qs : List Rule} {facts : ℕ} {w : List ℕ} → ((s : ℕ) → closure rs s ≡ closure qs s) → ClosedMarked rs facts w → ClosedMarked qs facts w
closed_same {facts = facts} e c =
    record { digits = λ s l. c.digits s l ∙ ap (λ (x : ℕ). bit (ltb s (2 ^ facts) && eqb x s)) (e s) }

-- fewer facts have no more words
pub words_few : (facts : ℕ) → facts ≤ max_facts → words_of facts ≤ words_of max_facts
words_few facts h = pow_mono {i = facts - 5} {j = max_facts - 5} (omega arith)

-- slices that agree up to the end of the table have the same digits
pub closed_agree : {rs : List Rule} {facts : ℕ} {w : List ℕ} (v : List ℕ) → facts ≤ max_facts → ClosedMarked rs facts w
    → ((i : ℕ) → i < table_end → get_or v i 0 ≡ get_or w i 0) → ClosedMarked rs facts v
closed_agree {facts = facts} {w} v h c e =
    record {
      digits = λ s l.
          marked_agree v w closed_at (words_of facts) (λ i k. e (closed_at + i) (omega (arith, words_few facts h))) s l ∙ c.digits s l;
    }
