-- Laws of rules that stand in a slice: put there one after the other, and a set grown by all of them at once.
use Rattle.std.specs.Prelude.{◌≡◌, refl, ◌⊎◌, Bool, true, false, cond, ℕ, ◌+◌, ◌%◌, ◌^◌, ◌≤◌, ◌<◌, length, get_or, set, eqb, ltb}
use Rattle.std.proofs.Common.{sym, ap, ap₂, ◌∙◌, subst, inl, inr, ⊎_elim, arith, length-set, get_or-set_same, get_or-set_other, eqb-true, eq-eqb, ne_eqb, ltb-true, ltb-false}
use mathlib.Core.List.Memᴰ
use mathlib.Core.List.{List, [], ◌∷◌, ◌++◌, Memᴰ}
use Rattle.std.specs.Int.Bits.{bit_and, bit_or, or_zero_r}
use Rattle.set_closure.specs.Frames.{SameOutside, outside_same, outside_set, outside_again}
use Rattle.set_closure.specs.Tabulate.{tabulate, tabulate_none, tabulate_next, tabulate_same}
use Rattle.set_closure.specs.TabulateLaws.{mem_tabulate, tabulate_mem}
use Rattle.set_closure.specs.FactSets.{Within}
use Rattle.set_closure.specs.Stores.{Rule, Closed, conclusions, closure}
use Rattle.set_closure.specs.FactSetLaws.{and_within, within_and, within_refl, within_trans, within_antisym, within_or_left, within_or_right, or_least, within_le, empty_within}
use Rattle.set_closure.specs.StoreLaws.{smallest_unique, closure_smallest, closure_lt, Between}
use Rattle.search_laws.specs.AskLaws.{conclusions_within}
use Rattle.set_closure.specs.RuleTable.{rule_in, rules_in}
use Rattle.held_rules.specs.HeldRules.{least_at, rules_end, held_rule, no_premise, few_rules, held_count, held_rules, RulesPut, RulesHeld, GrownBy, ReadClosure}
use Rattle.set_closure.specs.SheetLimits.{max_rules}

-- ---- rules that add nothing
-- conclusions that are all inside a set
conclusions_least : (rs : List Rule) (u : ℕ) → ((r : Rule) → Memᴰ r rs → Within r.conclusion u) → Within (conclusions rs) u
unfolding conclusions
conclusions_least [] u h = empty_within u
conclusions_least (r ∷ rs) u h = or_least (h r (Memᴰ.head refl)) (conclusions_least rs u (λ q m. h q (Memᴰ.tail m)))

-- hs has the rules rs, and else only rules without a conclusion
module _ (rs hs : List Rule) (there : (r : Rule) → Memᴰ r rs → Memᴰ r hs)
    (back : (r : Rule) → Memᴰ r hs → Memᴰ r rs ⊎ (r.conclusion ≡ 0)) where
  closed_there : {c : ℕ} → Closed hs c → Closed rs c
  closed_there k = record { obeys = λ r m. k.obeys r (there r m) }

  closed_back : {c : ℕ} → Closed rs c → Closed hs c
  closed_back {c} k =
      record {
        obeys = λ r m.
            ⊎_elim (λ (i : Memᴰ r rs). k.obeys r i)
            (λ (e : r.conclusion ≡ 0). record { follows = λ h. subst (λ (x : ℕ). Within x c) (sym e) (empty_within c) }) (back r m);
      }

  more_closure : (s : ℕ) → closure hs s ≡ closure rs s
  more_closure s =
      let small = closure_smallest hs s in
      smallest_unique {rs = rs} {s = s}
      (record { above = small.above; closed = closed_there small.closed; least = λ c k w. small.least c (closed_back k) w })
      (closure_smallest rs s)

  more_conclusions : conclusions hs ≡ conclusions rs
  more_conclusions =
      within_antisym
      (conclusions_least hs (conclusions rs)
      (λ r m. ⊎_elim (λ (i : Memᴰ r rs). conclusions_within rs r i)
      (λ (e : r.conclusion ≡ 0). subst (λ (x : ℕ). Within x (conclusions rs)) (sym e) (empty_within (conclusions rs))) (back r m)))
      (conclusions_least rs (conclusions hs) (λ r m. conclusions_within hs r (there r m)))

-- ---- rules put into a slice
-- of n rules those before place i stand there, and rules without a conclusion in the places from n on
pub record PutTo (rules : List ℕ) (n i : ℕ) (w v : List ℕ) : Type 0 where
  pub few : i ≤ max_rules
  pub rule : (j : ℕ) → j < i → j < n → held_rule v j ≡ rule_in rules j
  pub none : (j : ℕ) → j < i → n ≤ j → get_or v (max_rules + j) 0 ≡ 0
  pub low : (j : ℕ) → j < i → j < n → get_or v j 0 < no_premise
  pub same : SameOutside 0 least_at w v

pub put_none : (rules : List ℕ) (n : ℕ) (w : List ℕ) → PutTo rules n 0 w w
put_none rules n w =
    record {
      few = omega arith;
      rule = λ j l k. absurd (omega arith);
      none = λ j l k. absurd (omega arith);
      low = λ j l k. absurd (omega arith);
      same = outside_same 0 least_at w;
    }

-- the slice with rule i put in its place
abbrev pub put_held : List ℕ → ℕ → ℕ → ℕ → List ℕ
put_held v i p q = set (set v i p) (max_rules + i) q

module _ (v : List ℕ) (i p q : ℕ) (l : i < max_rules) (long : least_at ≤ length v) where
  put_premise : get_or (put_held v i p q) i 0 ≡ p
  put_premise = get_or-set_other (set v i p) (max_rules + i) i q 0 (omega arith) ∙ get_or-set_same v i p 0 (omega arith)

  put_conclusion : get_or (put_held v i p q) (max_rules + i) 0 ≡ q
  put_conclusion = get_or-set_same (set v i p) (max_rules + i) q 0 (simp length-set (omega arith))

  put_held_lem : held_rule (put_held v i p q) i ≡ record { premise = p; conclusion = q }
  put_held_lem = ap₂ (λ (x y : ℕ). record { premise = x; conclusion = y }) put_premise put_conclusion

  module _ (j : ℕ) (b : j < i) where
    put_premise_other : get_or (put_held v i p q) j 0 ≡ get_or v j 0
    put_premise_other =
        get_or-set_other (set v i p) (max_rules + i) j q 0 (omega arith) ∙ get_or-set_other v i j p 0 (omega arith)

    put_conclusion_other : get_or (put_held v i p q) (max_rules + j) 0 ≡ get_or v (max_rules + j) 0
    put_conclusion_other =
        get_or-set_other (set v i p) (max_rules + i) (max_rules + j) q 0 (omega arith) ∙ get_or-set_other v i (max_rules + j) p 0 (omega arith)

    put_held_other : held_rule (put_held v i p q) j ≡ held_rule v j
    put_held_other = ap₂ (λ (x y : ℕ). record { premise = x; conclusion = y }) put_premise_other put_conclusion_other

-- one place more: a rule, or none
pub put_next : {rules : List ℕ} {n i : ℕ} {w v : List ℕ} (p q : ℕ) → PutTo rules n i w v → i < max_rules → least_at ≤ length w
    → (i < n → record { premise = p; conclusion = q } ≡ rule_in rules i) → (n ≤ i → q ≡ 0) → (i < n → p < no_premise) → PutTo rules n (i + 1) w (put_held v i p q)
put_next {rules} {n} {i} {w} {v} p q h l long is not small =
    record {
      few = omega arith;
      rule = λ j b k. rule j k (ltb j i) refl b;
      none = λ j b k. none j k (ltb j i) refl b;
      low = λ j b k. low j k (ltb j i) refl b;
      same =
          outside_again h.same
          (outside_again (outside_set 0 least_at v i p (omega arith) (omega arith))
          (outside_set 0 least_at (set v i p) (max_rules + i) q (omega arith) (omega arith)));
    }
  where
    long_v : least_at ≤ length v
    long_v = omega (arith, h.same.long)

    rule : (j : ℕ) → j < n → (t : Bool) → ltb j i ≡ t → j < i + 1 → held_rule (put_held v i p q) j ≡ rule_in rules j
    rule j k true e b = put_held_other v i p q l long_v j (ltb-true j i e) ∙ h.rule j (ltb-true j i e) k
    rule j k false e b =
        let s : i ≡ j = omega (arith, ltb-false j i e) in
        subst (λ (x : ℕ). held_rule (put_held v i p q) x ≡ rule_in rules x) s (put_held_lem v i p q l long_v ∙ is (omega arith))

    none : (j : ℕ) → n ≤ j → (t : Bool) → ltb j i ≡ t → j < i + 1 → get_or (put_held v i p q) (max_rules + j) 0 ≡ 0
    none j k true e b = put_conclusion_other v i p q l long_v j (ltb-true j i e) ∙ h.none j (ltb-true j i e) k
    none j k false e b =
        let s : i ≡ j = omega (arith, ltb-false j i e) in
        subst (λ (x : ℕ). get_or (put_held v i p q) (max_rules + x) 0 ≡ 0) s (put_conclusion v i p q l long_v ∙ not (omega arith))

    low : (j : ℕ) → j < n → (t : Bool) → ltb j i ≡ t → j < i + 1 → get_or (put_held v i p q) j 0 < no_premise
    low j k true e b = omega (arith, put_premise_other v i p q l long_v j (ltb-true j i e), h.low j (ltb-true j i e) k)
    low j k false e b =
        let s : i ≡ j = omega (arith, ltb-false j i e) in
        subst (λ (x : ℕ). get_or (put_held v i p q) x 0 < no_premise) s (omega (arith, put_premise v i p q l long_v, small (omega arith)))

-- how many rules are read
pub count_none : (w : List ℕ) → get_or w 0 0 ≡ no_premise → held_count w ≡ 0
count_none w e = rw (eq-eqb (get_or w 0 0) no_premise e)

pub count_few : (w : List ℕ) → (get_or w 0 0 ≡ no_premise → ⊥) → get_or w few_rules 0 ≡ no_premise → held_count w ≡ few_rules
count_few w f e = rw (ne_eqb (get_or w 0 0) no_premise f, eq-eqb (get_or w few_rules 0) no_premise e)

pub count_many : (w : List ℕ) → (get_or w 0 0 ≡ no_premise → ⊥) → (get_or w few_rules 0 ≡ no_premise → ⊥) → held_count w ≡ max_rules
count_many w f g = rw (ne_eqb (get_or w 0 0) no_premise f, ne_eqb (get_or w few_rules 0) no_premise g)

pub count_fits : (w : List ℕ) → held_count w ≤ max_rules
count_fits w = go (eqb (get_or w 0 0) no_premise) (eqb (get_or w few_rules 0) no_premise)
  where
    go : (a b : Bool) → cond a 0 (cond b few_rules max_rules) ≤ max_rules
    go true b = omega arith
    go false true = omega arith
    go false false = omega arith

-- no rule is left out
count_whole : (w : List ℕ) (n : ℕ) → n ≤ max_rules → ((j : ℕ) → j < n → get_or w j 0 < no_premise) → n ≤ held_count w
count_whole w n few low = go (eqb (get_or w 0 0) no_premise) refl (eqb (get_or w few_rules 0) no_premise) refl
  where
    go : (a : Bool) → eqb (get_or w 0 0) no_premise ≡ a → (b : Bool) → eqb (get_or w few_rules 0) no_premise ≡ b → n ≤ cond a 0 (cond b few_rules max_rules)
    go true e b f = none (ltb 0 n) refl
      where
        none : (t : Bool) → ltb 0 n ≡ t → n ≤ 0
        none true q = absurd (omega (arith, low 0 (ltb-true 0 n q), eqb-true (get_or w 0 0) no_premise e))
        none false q = omega (arith, ltb-false 0 n q)
    go false e true f = some (ltb few_rules n) refl
      where
        some : (t : Bool) → ltb few_rules n ≡ t → n ≤ few_rules
        some true q = absurd (omega (arith, low few_rules (ltb-true few_rules n q), eqb-true (get_or w few_rules 0) no_premise f))
        some false q = omega (arith, ltb-false few_rules n q)
    go false e false f = few

-- every place
pub put_all : {rules : List ℕ} {n i : ℕ} {w v : List ℕ} → PutTo rules n i w v → max_rules ≤ i → n ≤ max_rules → RulesPut (rules_in rules n) v
put_all {rules} {n} {i} {w} {v} h l few =
    record {
      closures = more_closure (rules_in rules n) (held_rules v) there back;
      concluded = more_conclusions (rules_in rules n) (held_rules v) there back;
    }
  where
    whole : n ≤ held_count v
    whole = count_whole v n few (λ j b. h.low j (omega arith) b)

    there : (r : Rule) → Memᴰ r (rules_in rules n) → Memᴰ r (held_rules v)
    there r m =
        let j = tabulate_mem (rule_in rules) n m in
        subst (λ (x : Rule). Memᴰ x (held_rules v)) (h.rule j.0 (omega (arith, j.1)) j.1 ∙ sym j.2)
        (mem_tabulate (held_rule v) (held_count v) j.0 (omega (arith, j.1, whole)))

    back : (r : Rule) → Memᴰ r (held_rules v) → Memᴰ r (rules_in rules n) ⊎ (r.conclusion ≡ 0)
    back r m = let j = tabulate_mem (held_rule v) (held_count v) m in go j.0 (omega (arith, j.1, count_fits v)) j.2 (ltb j.0 n) refl
      where
        go : (j : ℕ) → j < max_rules → r ≡ held_rule v j → (t : Bool) → ltb j n ≡ t → Memᴰ r (rules_in rules n) ⊎ (r.conclusion ≡ 0)
        go j k e true t =
            let b : j < n = ltb-true j n t in
            inl (subst (λ (x : Rule). Memᴰ x (rules_in rules n)) (sym (e ∙ h.rule j (omega arith) b)) (mem_tabulate (rule_in rules) n j b))
        go j k e false t = inr (ap (λ (x : Rule). x.conclusion) e ∙ h.none j (omega arith) (omega (arith, ltb-false j n t)))

-- ---- a set grown by all rules at once
-- the first i rules made t of s
pub record GrownTo (w : List ℕ) (s i t : ℕ) : Type 0 where
  pub few : i ≤ held_count w
  pub above : Within s t
  pub inside : (c : ℕ) → Closed (held_rules w) c → Within s c → Within t c
  pub each : (j : ℕ) → j < i → Within (get_or w j 0) s → Within (get_or w (max_rules + j) 0) t

pub grown_none : (w : List ℕ) (s : ℕ) → GrownTo w s 0 s
grown_none w s = record { few = omega arith; above = within_refl s; inside = λ c k h. h; each = λ j l h. absurd (omega arith) }

module _ {w : List ℕ} {s i t : ℕ} (g : GrownTo w s i t) (l : i < held_count w) where
  -- a rule whose premise is inside s
  pub grown_fired : bit_and (get_or w i 0) s ≡ get_or w i 0 → GrownTo w s (i + 1) (bit_or t (get_or w (max_rules + i) 0))
  grown_fired e =
      record {
        few = omega arith;
        above = within_trans g.above (within_or_left t (get_or w (max_rules + i) 0));
        inside = λ c k h.
            or_least (g.inside c k h)
            ((k.obeys (held_rule w i) (mem_tabulate (held_rule w) (held_count w) i l)).follows (within_trans (and_within (get_or w i 0) s e) h));
        each = λ j b h. go j h (ltb j i) refl b;
      }
    where
      go : (j : ℕ) → Within (get_or w j 0) s → (b : Bool) → ltb j i ≡ b → j < i + 1
          → Within (get_or w (max_rules + j) 0) (bit_or t (get_or w (max_rules + i) 0))
      go j h true q b = within_trans (g.each j (ltb-true j i q) h) (within_or_left t (get_or w (max_rules + i) 0))
      go j h false q b =
          let same : i ≡ j = omega (arith, ltb-false j i q) in
          subst (λ (x : ℕ). Within (get_or w (max_rules + x) 0) (bit_or t (get_or w (max_rules + i) 0))) same
          (within_or_right t (get_or w (max_rules + i) 0))

  -- a rule whose premise is not
  grown_past : (bit_and (get_or w i 0) s ≡ get_or w i 0 → ⊥) → GrownTo w s (i + 1) t
  grown_past apart =
      record { few = omega arith; above = g.above; inside = g.inside; each = λ j b h. go j h (ltb j i) refl b }
    where
      go : (j : ℕ) → Within (get_or w j 0) s → (b : Bool) → ltb j i ≡ b → j < i + 1 → Within (get_or w (max_rules + j) 0) t
      go j h true q b = g.each j (ltb-true j i q) h
      go j h false q b =
          let same : j ≡ i = omega (arith, ltb-false j i q) in
          absurd (apart (within_and (subst (λ (x : ℕ). Within (get_or w x 0) s) same h)))

  -- nothing is added for it
  pub grown_idle : (m : ℕ) → m ≡ 0 → (bit_and (get_or w i 0) s ≡ get_or w i 0 → ⊥) → GrownTo w s (i + 1) (bit_or t m)
  grown_idle m e apart = subst (GrownTo w s (i + 1)) (sym (ap (bit_or t) e ∙ or_zero_r t)) (grown_past apart)

-- all rules
pub grown_all : {w : List ℕ} {s i t : ℕ} → GrownTo w s i t → held_count w ≤ i → GrownBy (held_rules w) s t
grown_all {w} {s} {i} {t} g l =
    record {
      above = g.above;
      inside = g.inside;
      same = λ e.
          record {
            obeys = λ r m.
                let j = tabulate_mem (held_rule w) (held_count w) m in
                record {
                  follows = λ h.
                      subst (λ (x : Rule). Within x.conclusion s) (sym j.2)
                      (subst (Within (get_or w (max_rules + j.0) 0)) e
                      (g.each j.0 (omega (arith, j.1)) (subst (λ (x : Rule). Within x.premise s) j.2 h)));
                };
          };
    }

-- ---- passes
module _ {rs : List Rule} {s t : ℕ} (b : Between rs s t) {u : ℕ} (g : GrownBy rs t u) where
  pub between_grown : Between rs s u
  between_grown = record { above = within_trans b.above g.above; below = λ c k h. g.inside c k (b.below c k h) }

  pub between_ends : u ≡ t → t ≡ closure rs s
  between_ends e =
      smallest_unique (record { above = b.above; closed = g.same e; least = λ c k h. b.below c k h }) (closure_smallest rs s)

pub grown_above : {rs : List Rule} {t u : ℕ} → GrownBy rs t u → (u ≡ t → ⊥) → t < u
grown_above g apart = omega (arith, within_le g.above, apart)

-- ---- what is read
-- the closure of a set of at most 16 facts, by rules about them, is not changed by being cut
pub closure_cut : (rs : List Rule) (n : ℕ) (w : List ℕ) (s : ℕ) → RulesHeld rs w → s < 2 ^ n → conclusions rs < 2 ^ n → 2 ^ n ≤ 65536
    → closure (held_rules w) s % 65536 ≡ closure rs s
closure_cut rs n w s h l c b = let q : closure (held_rules w) s ≡ closure rs s = h.put.closures s in omega (arith, closure_lt rs n s l c)

pub closure_read : (w : List ℕ) (s r : ℕ) → r ≡ closure (held_rules w) s % 65536 → ReadClosure w s r
closure_read w s r e = record { cut = e; closed = λ rs n h l c b. e ∙ closure_cut rs n w s h l c b }

-- slices that agree where the rules stand hold the same rules
pub rules_agree : (w v : List ℕ) → ((i : ℕ) → i < least_at → get_or v i 0 ≡ get_or w i 0) → held_rules v ≡ held_rules w
rules_agree w v e =
    ap (tabulate (held_rule v)) count
    ∙ tabulate_same (held_rule v) (held_rule w) (held_count w)
    (λ i l.
    let low : i < max_rules = omega (arith, l, count_fits w) in
    ap₂ (λ (x y : ℕ). record { premise = x; conclusion = y }) (e i (omega arith)) (e (max_rules + i) (omega arith)))
  where
    count : held_count v ≡ held_count w
    count = ap₂ (λ (x y : ℕ). cond (eqb x no_premise) 0 (cond (eqb y no_premise) few_rules max_rules)) (e 0 (omega arith)) (e few_rules (omega arith))

pub put_agree : {rs : List Rule} {w : List ℕ} (v : List ℕ) → RulesPut rs w → ((i : ℕ) → i < least_at → get_or v i 0 ≡ get_or w i 0) → RulesPut rs v
put_agree {rs} {w} v h e =
    record {
      closures = λ s. ap (λ (rules : List Rule). closure rules s) (rules_agree w v e) ∙ h.closures s;
      concluded = ap conclusions (rules_agree w v e) ∙ h.concluded;
    }

pub held_agree : {rs : List Rule} {w : List ℕ} (v : List ℕ) → RulesHeld rs w → ((i : ℕ) → i < rules_end → get_or v i 0 ≡ get_or w i 0) → RulesHeld rs v
held_agree v h e = record { put = put_agree v h.put (λ i l. e i (omega arith)); least = e least_at (omega arith) ∙ h.least }

-- the least store put behind the rules
pub least_held : {rs : List Rule} {w : List ℕ} (x : ℕ) → rules_end ≤ length w → RulesPut rs w → x ≡ closure (held_rules w) 0 → RulesHeld rs (set w least_at x)
least_held {rs} {w} x long h e =
    record {
      put = put_agree (set w least_at x) h (λ i l. get_or-set_other w least_at i x 0 (omega arith));
      least = get_or-set_same w least_at x 0 (omega arith) ∙ e ∙ h.closures 0;
    }

-- ---- all conclusions
conclusions_next : (rs : List Rule) (r : Rule) → conclusions (rs ++ (r ∷ [])) ≡ bit_or (conclusions rs) r.conclusion
conclusions_next rs r =
    within_antisym
    (conclusions_least (rs ++ (r ∷ [])) (bit_or (conclusions rs) r.conclusion)
    (λ q m. ⊎_elim (λ (i : Memᴰ q rs). within_trans (conclusions_within rs q i) (within_or_left (conclusions rs) r.conclusion))
    (λ (i : Memᴰ q (r ∷ [])).
    subst (λ (x : Rule). Within x.conclusion (bit_or (conclusions rs) r.conclusion)) (sym (Memᴰ.eq_of_singleton i))
    (within_or_right (conclusions rs) r.conclusion)) (Memᴰ.append_cases rs m)))
    (or_least (conclusions_least rs (conclusions (rs ++ (r ∷ []))) (λ q m. conclusions_within (rs ++ (r ∷ [])) q (Memᴰ.append_left (r ∷ []) m)))
    (conclusions_within (rs ++ (r ∷ [])) r (Memᴰ.append_right rs (Memᴰ.head refl))))

pub united_none : (w : List ℕ) → 0 ≡ conclusions (tabulate (held_rule w) 0)
unfolding conclusions
united_none w = sym (ap conclusions (tabulate_none (held_rule w)))

pub united_next : (w : List ℕ) (i u : ℕ) → u ≡ conclusions (tabulate (held_rule w) i)
    → bit_or u (get_or w (max_rules + i) 0) ≡ conclusions (tabulate (held_rule w) (i + 1))
united_next w i u e =
    ap (λ (x : ℕ). bit_or x (get_or w (max_rules + i) 0)) e
    ∙ sym (ap conclusions (tabulate_next (held_rule w) i) ∙ conclusions_next (tabulate (held_rule w) i) (held_rule w i))
