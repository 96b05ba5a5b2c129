-- The sections of a sheet: the ways that a rule and a start are read, and what holds where rules, nodes and starts are got.
use Rattle.std.specs.Prelude.{◌≡◌, Bool, true, false, cond, length, eqb, ltb}
use Rattle.std.proofs.Common.{sym, subst, ⊎_elim, suc-mul, arith, length-append, pow_pos}
use mathlib.Core.List.Memᴰ
use mathlib.Core.List.{List, [], ◌∷◌, ◌++◌, Memᴰ}
use Prim.Native.Nat.{ℕ, ◌+◌, ◌*◌, ◌^◌, ◌≤◌, ◌<◌}
use Rattle.std.proofs.Math.ListN.{get_or-append}
use Rattle.std.proofs.Math.Seq.{get_or-append_seam}
use borrow.Author.Tests.{ltb-true, ltb-false, lt-ltb, le-ltb}
use Rattle.store_laws.specs.TestLaws.{Tested, passes, fails, tested}
use Rattle.store_laws.specs.Stores.{Rule, Constraint, closure}
use Rattle.store_laws.specs.StoreLaws.{closure_constraint, conclusions_lt}
use Rattle.sheet_reading.specs.SheetLimits.{max_rules, min_nodes, max_nodes, min_starts, max_starts, max_threads, rule_length, node_length, start_length}
use Rattle.sheet_reading.specs.Sheet.{Node, stop, tell, ask, both, either, Configuration, node_of, opened, opened_all}
use Rattle.sheet_reading.specs.Reading.{Reading, got, refused, and_then, records_from, count_at, set_at, rule_at, rules_at, kind_at, first_at, second_at, node_from, node_at, nodes_at, thread_at, threads_from, start_at, starts_at}
use Rattle.sheet_reading.specs.WellFormed.{Process, RuleFits, NodeFits}
use Rattle.sheet_laws.specs.Ranks.{LowerNames, Ranked, rank_of}
use Rattle.sheet_laws.proofs.OpeningLaws.{ranked_none, ranked_next, opening_prefix, opened_process}
use Rattle.sheet_laws.specs.NodeFields.{node_fields_at, opens_to_many, node_checked}
use Rattle.sheet_laws.specs.Gets.{Gets, gets_less, got_gets, checked_gets, then_gets, then_checked_gets, records_gets}
use Rattle.sheet_laws.specs.FieldLaws.{Taken, taken_then, taken_section, count_gets, set_gets, kind_gets, unused_gets, below_gets, thread_gets, KindIs, is_stop, is_tell, is_ask, is_pair_lem, kind_is, pair_tests, first_unused, first_set, first_below, second_unused, second_any, second_below}

-- ---- a count, and so many records of at most so many bytes
pub record Counted (low high : ℕ) (s : List ℕ) (at bytes n next : ℕ) : Type 0 where
  pub some : low ≤ n
  pub few : n ≤ high
  pub taken : Taken s at (1 + high * bytes) next

module _ {A : Type 0} (s : List ℕ) (bytes : ℕ) where
  -- Q speaks of the records that are read
  records_taken : (item : List A → ℕ → Reading A) (Q : List A → Type 0)
      → ((read : List A) (p : ℕ) → Q read → Gets (λ r next. Taken s p bytes next × Q (read ++ (r ∷ []))) (item read p))
      → (n at : ℕ) → at ≤ length s → Q [] → Gets (λ all end. Taken s at (n * bytes) end × (length all ≡ n) × Q all) (records_from item n [] at)
  records_taken item Q step n at within none =
      gets_less (λ all end k. (record { within = k.0; most = omega (arith, k.1) }, omega (arith, k.2), k.3))
      (records_gets item (λ left read p. (p ≤ length s) × (p + left * bytes ≤ at + n * bytes) × (length read + left ≡ n) × Q read)
      (λ left read p k. gets_less (λ r next t. (
        t.0.within,
        omega (arith, k.1, t.0.most, suc-mul left bytes),
        omega (arith, k.2, length-append read (r ∷ [])),
        t.1,
      )) (step read p k.3))
      n [] at (within, omega arith, omega arith, none))

  -- Q speaks of their number too
  section_gets : (low high number at : ℕ) (item : ℕ → List A → ℕ → Reading A) (Q : ℕ → List A → Type 0)
      → ((n : ℕ) (read : List A) (p : ℕ) → Q n read → Gets (λ r next. Taken s p bytes next × Q n (read ++ (r ∷ []))) (item n read p))
      → ((n : ℕ) → Q n [])
      → Gets (λ all end. Counted low high s at bytes (length all) end × Q (length all) all)
      (and_then (count_at low high number s at) (λ n next. records_from (item n) n [] next))
  section_gets low high number at item Q step none =
      then_gets _ _ (count_at low high number s at) _ (count_gets s at low high number) (λ n next t.
      gets_less (λ all end k. (
        record { some = omega (arith, t.1, k.1); few = omega (arith, t.2, k.1); taken = taken_section high bytes n t.2 t.0 k.0 },
        subst (λ (m : ℕ). Q m all) (sym k.1) k.2,
      )) (records_taken (item n) (Q n) (step n) n next t.0.within (none n)))

-- all records have what each one has
each_next : {A : Type 0} (P : A → Type 0) (read : List A) (r : A) → ((a : A) → Memᴰ a read → P a) → P r
    → (a : A) → Memᴰ a (read ++ (r ∷ [])) → P a
each_next P read r h p a m =
    ⊎_elim (λ (o : Memᴰ a read). h a o) (λ (o : Memᴰ a (r ∷ [])). subst P (sym (Memᴰ.eq_of_singleton o)) p)
    (Memᴰ.append_cases read m)

-- ---- rules
module _ (facts : ℕ) (s : List ℕ) (at : ℕ) where
  pub rule_no_premise : {number place : ℕ} → set_at facts s at ≡ refused number place → rule_at facts s at ≡ refused number place
  unfolding rule_at
  rule_no_premise e = rw e

  pub rule_no_conclusion : {p q number place : ℕ} → set_at facts s at ≡ got p q → set_at facts s q ≡ refused number place
      → rule_at facts s at ≡ refused number place
  unfolding rule_at
  rule_no_conclusion e f = rw (e, f)

  pub rule_got : {p q c next : ℕ} → set_at facts s at ≡ got p q → set_at facts s q ≡ got c next
      → rule_at facts s at ≡ got (record { premise = p; conclusion = c }) next
  unfolding rule_at
  rule_got e f = rw (e, f)

  rule_gets : Gets (λ r next. Taken s at rule_length next × RuleFits facts r) (rule_at facts s at)
  unfolding rule_at
  rule_gets =
      then_gets _ _ (set_at facts s at) _ (set_gets s at facts) (λ p q h.
      then_gets _ _ (set_at facts s q) _ (set_gets s q facts) (λ c next k.
      got_gets _ (record { premise = p; conclusion = c }) next
      (taken_then h.0 k.0, record { premise = h.1; conclusion = k.1 })))

abbrev pub RulesFit : ℕ → List Rule → Type 0
RulesFit facts rules = (r : Rule) → Memᴰ r rules → RuleFits facts r

pub rules_gets : (facts : ℕ) (s : List ℕ) (at : ℕ)
    → Gets (λ rules next. Counted 0 max_rules s at rule_length (length rules) next × RulesFit facts rules) (rules_at facts s at)
unfolding rules_at
rules_gets facts s at =
    section_gets s rule_length 0 max_rules 4 at (λ n read p. rule_at facts s p) (λ n rules. RulesFit facts rules)
    (λ n read p fit. gets_less (λ r next h. (h.0, each_next (RuleFits facts) read r fit h.1)) (rule_gets facts s p))
    (λ n r m. absurd (Memᴰ.not-nil m))

-- where the rules fit, the closure of a set of the sheet is a constraint
rules_close : (facts : ℕ) (rules : List Rule) → RulesFit facts rules → (c : ℕ) → c < 2 ^ facts → Constraint facts rules (closure rules c)
rules_close facts rules fit c h = closure_constraint rules facts c h (conclusions_lt rules facts (λ r m. (fit r m).conclusion) (pow_pos facts))

-- ---- nodes
-- What holds of the node of each kind, with fields in range, holds of the node that is read.
module _ (facts : ℕ) (rules : List Rule) (nodes number : ℕ) (s : List ℕ) (at : ℕ) (K : Node → Type 0)
    (of-stop : K stop)
    (of_tell : (c : ℕ) → c < 2 ^ facts → K (tell (closure rules c)))
    (of_ask : (c q : ℕ) → c < 2 ^ facts → q < nodes → K (ask (closure rules c) q))
    (of-both : (p q : ℕ) → p < number → q < number → K (both p q))
    (of_either : (p q : ℕ) → p < number → q < number → K (either p q)) where
  node_fields_gets : Gets (λ n next. Taken s at node_length next × K n) (node_fields_at facts rules nodes number s at)
  unfolding node_fields_at
  node_fields_gets = then_gets _ _ (kind_at s at) _ (kind_gets s at) (λ kind p t. go kind p t.0 (kind_is kind))
    where
      fields : (kind p : ℕ) (P Q : ℕ → Type 0) → Taken s at 1 p → Gets (λ x q. Taken s p 2 q × P x) (first_at kind facts number s p)
          → ((q : ℕ) → Gets (λ y next. Taken s q 2 next × Q y) (second_at kind nodes number s q))
          → ((x y : ℕ) → P x → Q y → K (node_from rules kind x y))
          → Gets (λ n next. Taken s at node_length next × K n)
          (and_then (first_at kind facts number s p) (λ x q. and_then (second_at kind nodes number s q) (λ y next. got (node_from rules kind x y) next)))
      fields kind p P Q t first second made =
          then_gets _ _ (first_at kind facts number s p) _ first (λ x q u.
          then_gets _ _ (second_at kind nodes number s q) _ (second q) (λ y next v.
          got_gets _ (node_from rules kind x y) next (taken_then (taken_then t u.0) v.0, made x y u.1 v.1)))

      pair : (b : Bool) (x y : ℕ) → x < number → y < number → K (cond b (both x y) (either x y))
      pair true x y h k = of-both x y h k
      pair false x y h k = of_either x y h k

      go : (kind p : ℕ) → Taken s at 1 p → KindIs kind → Gets (λ n next. Taken s at node_length next × K n)
          (and_then (first_at kind facts number s p) (λ x q. and_then (second_at kind nodes number s q) (λ y next. got (node_from rules kind x y) next)))
      go kind p t (is_stop e) =
          fields kind p (λ x. x ≡ 0) (λ y. y ≡ 0) t (rw (first_unused kind facts number s p e) (unused_gets s p))
          (λ q. rw (second_unused kind nodes number s q (omega arith)) (unused_gets s q)) (λ x y h k. rw e of-stop)
      go kind p t (is_tell e) =
          fields kind p (λ x. x < 2 ^ facts) (λ y. y ≡ 0) t (rw (first_set kind facts number s p (omega arith) (omega arith)) (set_gets s p facts))
          (λ q. rw (second_unused kind nodes number s q (omega arith)) (unused_gets s q)) (λ x y h k. rw e (of_tell x h))
      go kind p t (is_ask e) =
          fields kind p (λ x. x < 2 ^ facts) (λ y. y < nodes) t (rw (first_set kind facts number s p (omega arith) (omega arith)) (set_gets s p facts))
          (λ q. rw (second_any kind nodes number s q e) (below_gets s q nodes)) (λ x y h k. rw e (of_ask x y h k))
      go kind p t (is_pair_lem l) =
          fields kind p (λ x. x < number) (λ y. y < number) t (rw (first_below kind facts number s p l) (below_gets s p number))
          (λ q. rw (second_below kind nodes number s q l) (below_gets s q number))
          (λ x y h k. let b = pair_tests l in rw (b.0, b.1, b.2) (pair (eqb kind 3) x y h k))

-- a both and an either name lower nodes
pub node_fields_lower : (facts : ℕ) (rules : List Rule) (nodes number : ℕ) (s : List ℕ) (at : ℕ)
    → Gets (λ n next. Taken s at node_length next × LowerNames number n) (node_fields_at facts rules nodes number s at)
node_fields_lower facts rules nodes number s at =
    node_fields_gets facts rules nodes number s at (LowerNames number) tt (λ c h. tt) (λ c q h k. tt) (λ p q h k. (h, k)) (λ p q h k. (h, k))

pub fits_lower : (facts : ℕ) (rules : List Rule) (total k : ℕ) (n : Node) → NodeFits facts rules total k n → LowerNames k n
fits_lower facts rules total k stop h = tt
fits_lower facts rules total k (tell c) h = tt
fits_lower facts rules total k (ask c q) h = tt
fits_lower facts rules total k (both p q) h = h
fits_lower facts rules total k (either p q) h = h

-- what holds at each place of a list and at its end holds at each place of the list with one more
places_next : (read : List Node) (n : Node) (P : ℕ → Type 0) → ((j : ℕ) → j < length read → P j) → P (length read)
    → (k : ℕ) → k < length (read ++ (n ∷ [])) → P k
places_next read n P h l k i = go (tested (ltb k (length read)))
  where
    go : Tested (ltb k (length read)) → P k
    go (passes t) = h k (ltb-true k (length read) t)
    go (fails t) = let q : length read ≡ k = omega (arith, length-append read (n ∷ []), ltb-false k (length read) t) in subst P q l

-- what the nodes read so far have, of `total` nodes
pub record NodesFit (facts : ℕ) (rules : List Rule) (total : ℕ) (read : List Node) : Type 0 where
  pub fit : (k : ℕ) → k < length read → NodeFits facts rules total k (node_of read k)
  pub opens : (k : ℕ) → k < length read → length (opened read k) ≤ max_threads
  pub ranked : Ranked rank_of read

module _ (facts : ℕ) (rules : List Rule) (rules_fit : RulesFit facts rules) (s : List ℕ) where
  node_gets : (nodes : ℕ) (read : List Node) (at : ℕ)
      → Gets (λ n next. Taken s at node_length next × NodeFits facts rules nodes (length read) n
      × (length (opened (read ++ (n ∷ [])) (length read)) ≤ max_threads)) (node_at facts rules nodes s read at)
  node_gets nodes read at =
      let close = rules_close facts rules rules_fit in
      rw (node_checked facts rules nodes s read at)
      (then_checked_gets _ (opens_to_many read) 15 at
      (node_fields_gets facts rules nodes (length read) s at (NodeFits facts rules nodes (length read))
      tt (λ c h. close c h) (λ c q h k. (close c h, k)) (λ p q h k. (h, k)) (λ p q h k. (h, k)))
      (λ n next h e. (h.0, h.1, ltb-false _ _ e)))

  nodes_fit_next : (total : ℕ) (read : List Node) (n : Node) → NodesFit facts rules total read → NodeFits facts rules total (length read) n
      → length (opened (read ++ (n ∷ [])) (length read)) ≤ max_threads → NodesFit facts rules total (read ++ (n ∷ []))
  nodes_fit_next total read n f fits opens =
      record {
        fit = places_next read n (λ j. NodeFits facts rules total j (node_of (read ++ (n ∷ [])) j))
            (λ j m. rw (get_or-append read (n ∷ []) stop j m) (f.fit j m)) (rw (get_or-append_seam read n [] stop) fits);
        opens = places_next read n (λ j. length (opened (read ++ (n ∷ [])) j) ≤ max_threads)
            (λ j m. rw (opening_prefix read (n ∷ []) f.ranked j m) (f.opens j m)) opens;
        ranked = ranked_next read n f.ranked (fits_lower facts rules total (length read) n fits);
      }

  pub nodes_gets : (at : ℕ)
      → Gets (λ nodes next. Counted min_nodes max_nodes s at node_length (length nodes) next × NodesFit facts rules (length nodes) nodes) (nodes_at facts rules s at)
  unfolding nodes_at
  nodes_gets at =
      section_gets s node_length min_nodes max_nodes 7 at (λ n. node_at facts rules n s) (NodesFit facts rules)
      (λ n read p f. gets_less (λ x next h. (h.0, nodes_fit_next n read x f h.1 h.2)) (node_gets n read p))
      (λ n. record { fit = λ k l. absurd (omega arith); opens = λ k l. absurd (omega arith); ranked = ranked_none })

-- ---- starts
module _ (facts : ℕ) (rules : List Rule) (ns : List Node) (s : List ℕ) (at : ℕ) where
  pub start_no_set : {number place : ℕ} → set_at facts s at ≡ refused number place → start_at facts rules ns s at ≡ refused number place
  unfolding start_at
  start_no_set e = rw e

  module _ {c p : ℕ} (e : set_at facts s at ≡ got c p) where
    pub start_no_count : {number place : ℕ} → count_at 0 max_threads 12 s p ≡ refused number place → start_at facts rules ns s at ≡ refused number place
    unfolding start_at
    start_no_count f = rw (e, f)

    module _ {n q : ℕ} (f : count_at 0 max_threads 12 s p ≡ got n q) where
      pub start_no_threads : {number place : ℕ} → threads_from n (length ns) s q ≡ refused number place → start_at facts rules ns s at ≡ refused number place
      unfolding start_at
      start_no_threads g = rw (e, f, g)

      module _ {ks : List ℕ} {next : ℕ} (g : threads_from n (length ns) s q ≡ got ks next) where
        pub start_many : max_threads < length (opened_all ns ks) → start_at facts rules ns s at ≡ refused 12 p
        unfolding start_at
        start_many h = rw (e, f, g, lt-ltb _ _ h)

        pub start_few : length (opened_all ns ks) ≤ max_threads
            → start_at facts rules ns s at ≡ got (record { store = closure rules c; threads = opened_all ns ks }) next
        unfolding start_at
        start_few h = rw (e, f, g, le-ltb _ _ h)

threads_gets : (n nodes : ℕ) (s : List ℕ) (at : ℕ) → at ≤ length s → Gets (λ ks next. Taken s at (n * 1) next) (threads_from n nodes s at)
unfolding threads_from
threads_gets n nodes s at within =
    gets_less (λ ks next t. t.0)
    (records_taken s 1 (λ read p. thread_at nodes s p) (λ ks. Unit {0}) (λ read p u. gets_less (λ k next t. (t.0, tt)) (thread_gets s p nodes)) n at within tt)

pub record StartFits (facts : ℕ) (rules : List Rule) (nodes : List Node) (p : Configuration) : Type 0 where
  pub store : Constraint facts rules p.store
  pub process : Process nodes p.threads
  pub few : length p.threads ≤ max_threads

module _ (facts : ℕ) (rules : List Rule) (rules_fit : RulesFit facts rules) (nodes : List Node) (s : List ℕ) where
  start_gets : (at : ℕ) → Gets (λ p next. Taken s at (start_length max_threads) next × StartFits facts rules nodes p) (start_at facts rules nodes s at)
  unfolding start_at
  start_gets at =
      then_gets _ _ (set_at facts s at) _ (set_gets s at facts) (λ c p h.
      then_gets _ _ (count_at 0 max_threads 12 s p) _ (count_gets s p 0 max_threads 12) (λ n q k.
      then_gets _ _ (threads_from n (length nodes) s q) _ (threads_gets n (length nodes) s q k.0.within) (λ ks next t.
      checked_gets _ (ltb max_threads (length (opened_all nodes ks))) 12 p _ (λ e.
      got_gets _ (record { store = closure rules c; threads = opened_all nodes ks }) next (
        taken_then h.0 (taken_section max_threads 1 n k.2 k.0 t),
        record { store = rules_close facts rules rules_fit c h.1; process = opened_process nodes ks; few = ltb-false _ _ e },
      )))))

  pub starts_gets : (at : ℕ)
      → Gets (λ starts next. Counted min_starts max_starts s at (start_length max_threads) (length starts) next
      × ((p : Configuration) → Memᴰ p starts → StartFits facts rules nodes p)) (starts_at facts rules nodes s at)
  unfolding starts_at
  starts_gets at =
      section_gets s (start_length max_threads) min_starts max_starts 11 at (λ n read p. start_at facts rules nodes s p)
      (λ n starts. (p : Configuration) → Memᴰ p starts → StartFits facts rules nodes p)
      (λ n read p fit. gets_less (λ x next h. (h.0, each_next (StartFits facts rules nodes) read x fit h.1)) (start_gets p))
      (λ n p m. absurd (Memᴰ.not-nil m))
