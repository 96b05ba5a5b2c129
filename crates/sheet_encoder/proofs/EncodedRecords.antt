-- The bytes of a name, a rule, a node and a start that fit their sheet are that name, rule, node and start: each field is written in
-- range, the sets are closed already, and the threads of a start open to themselves.
use Rattle.std.specs.Prelude.{◌≡◌, refl, ℕ, ◌+◌, ◌≤◌, ◌<◌, length, get_or, ltb}
use Rattle.std.proofs.Common.{sym, subst, ap, ap₂, ◌∙◌, arith, length-append, ltb-true, ltb-false}
use mathlib.Core.List.Memᴰ
use mathlib.Core.List.{List, [], ◌∷◌, ◌++◌, append_assoc, Memᴰ}
use Rattle.std.proofs.Math.ListN.{get_or-append, get_or-eq_default}
use Rattle.std.proofs.Math.Seq.{get_or-append_seam}
use Rattle.sheet_laws.specs.TestLaws.{Tested, passes, fails, tested}
use Rattle.sheet_laws.specs.AscendingLaws.{sort_up_same}
use Rattle.sheet_laws.specs.Lists.{sort_up, concat_map}
use Rattle.sheet_laws.specs.Stores.{Rule, Constraint, closure}
use Rattle.sheet_laws.specs.StoreLaws.{closure_same}
use Rattle.sheet_laws.specs.SheetLimits.{max_facts, max_nodes, max_threads, max_kind, name_length, node_length}
use Rattle.sheet_laws.specs.Sheet.{Node, stop, tell, ask, both, either, Configuration, node_of, opened, opened_all}
use Rattle.sheet_laws.specs.SheetBytes.{Field, thread_count, set, kind, thread, width, word_bytes, Printable, FieldIs, NameIs, SectionIs, RuleIs, KindIs, is_stop, is_tell, is_ask, is_both, is_either, NodeFieldsAre, fields, threads_of, NodeIs, ThreadIs, StartIs, start}
use Rattle.sheet_laws.specs.WellFormed.{Process, RuleFits, NodeFits}
use Rattle.sheet_laws.specs.Ranks.{OfParts, Part, Ranked, rank_of, parts_map}
use Rattle.sheet_laws.proofs.OpeningLaws.{opening_prefix, opened_inside}
use Rattle.sheet_encoder.specs.Encoder.{rule_bytes, node_bytes, start_bytes}
use Rattle.sheet_encoder.proofs.StandingBytes.{Stands, stands_front, stands_rest, WordFits, byte_field, word_field, threads_fit, kind_fits, thread_fits, set_fits, below_fits, unused_fits, section_stands}

-- ---- names
pub name_stands : {s : List ℕ} {at : ℕ} (name : List ℕ) → length name ≡ name_length → ((i : ℕ) → i < name_length → Printable (get_or name i 0))
    → Stands s at name → NameIs s at name (at + length name)
name_stands {s} {at} name long printable h =
    record {
      stands = omega (arith, h.inside, long);
      long = long;
      bytes = λ i l. let e = h.same i (omega (arith, long)) in (sym e, rw e (printable i l));
      after = ap (λ (k : ℕ). at + k) long;
    }

-- ---- rules
pub rule_stands : {facts n : ℕ} → facts ≤ max_facts → {s : List ℕ} {before : List Rule} {at : ℕ} (r : Rule) → RuleFits facts r → Stands s at (rule_bytes r)
    → RuleIs facts s n before at r (at + length (rule_bytes r))
rule_stands {facts} few {s} {at = at} r fit h =
    let second : ℕ = at + width (set facts) in
    let z : second + width (set facts) ≡ at + length (rule_bytes r) = omega arith in
    record {
      second = second;
      premise_field = word_field (set facts) (set_fits few fit.premise) (stands_front (word_bytes r.premise) (word_bytes r.conclusion) h);
      conclusion_field = subst (λ (k : ℕ). FieldIs (set facts) s second r.conclusion k) z
          (word_field (set facts) (set_fits few fit.conclusion) (stands_rest (word_bytes r.premise) (word_bytes r.conclusion) h));
    }

-- ---- nodes
module _ {facts : ℕ} (few : facts ≤ max_facts) (rules : List Rule) {n : ℕ} (few_nodes : n ≤ max_nodes) {s : List ℕ} {k at : ℕ} where
  -- a kind byte and two fields of two bytes
  three_stand : {b x y : ℕ} {f g : Field} {made : ℕ → ℕ → Node} → KindIs facts rules n k b f g made → b ≤ max_kind → WordFits f x → WordFits g y
      → Stands s at (b ∷ (word_bytes x ++ word_bytes y)) → NodeFieldsAre facts rules s n k at (made x y) (at + node_length)
  three_stand {b} {x} {y} {f} {g} d low v w h =
      let second : ℕ = at + width kind in
      let third : ℕ = second + length (word_bytes x) in
      let z : third + length (word_bytes y) ≡ at + node_length = omega arith in
      let rest : Stands s second (word_bytes x ++ word_bytes y) = stands_rest (b ∷ []) (word_bytes x ++ word_bytes y) h in
      fields (byte_field kind (kind_fits low) (stands_front (b ∷ []) (word_bytes x ++ word_bytes y) h)) d
      (word_field f v (stands_front (word_bytes x) (word_bytes y) rest))
      (subst (λ (j : ℕ). FieldIs g s third y j) z (word_field g w (stands_rest (word_bytes x) (word_bytes y) rest)))

  -- sets are closed already
  node_fields_stand : (node : Node) → k ≤ n → NodeFits facts rules n k node → Stands s at (node_bytes node)
      → NodeFieldsAre facts rules s n k at node (at + node_length)
  node_fields_stand stop l fit h = three_stand is_stop (omega arith) unused_fits unused_fits h
  node_fields_stand (tell c) l fit h =
      subst (λ (e : ℕ). NodeFieldsAre facts rules s n k at (tell e) (at + node_length)) (closure_same rules c fit.closed)
      (three_stand is_tell (omega arith) (set_fits few fit.facts) unused_fits h)
  node_fields_stand (ask c q) l fit h =
      subst (λ (e : ℕ). NodeFieldsAre facts rules s n k at (ask e q) (at + node_length)) (closure_same rules c fit.0.closed)
      (three_stand is_ask (omega arith) (set_fits few fit.0.facts) (below_fits few_nodes fit.1) h)
  node_fields_stand (both p q) l fit h =
      let low : k ≤ max_nodes = omega arith in
      three_stand is_both (omega arith) (below_fits low fit.0) (below_fits low fit.1) h
  node_fields_stand (either p q) l fit h =
      let low : k ≤ max_nodes = omega arith in
      three_stand is_either (omega arith) (below_fits low fit.0) (below_fits low fit.1) h

node_long : (node : Node) → length (node_bytes node) ≡ node_length
node_long stop = refl
node_long (tell c) = refl
node_long (ask c q) = refl
node_long (both p q) = refl
node_long (either p q) = refl

-- the first of some ranked nodes are ranked
ranked_front : (ns ms : List Node) → Ranked rank_of (ns ++ ms) → Ranked rank_of ns
unfolding rank_of
ranked_front ns ms low = record { parts = λ k. go k (tested (ltb k (length ns))); small = λ k l. l }
  where
    go : (k : ℕ) → Tested (ltb k (length ns)) → OfParts (Part rank_of (length ns) k) (node_of ns k)
    go k (passes t) =
        let l : k < length ns = ltb-true k (length ns) t in
        let e : node_of (ns ++ ms) k ≡ node_of ns k = get_or-append ns ms stop k l in
        parts_map (Part rank_of (length (ns ++ ms)) k) (Part rank_of (length ns) k)
        (λ p h. record { inside = omega (arith, h.lower, l); lower = h.lower }) (node_of ns k)
        (subst (λ (node : Node). OfParts (Part rank_of (length (ns ++ ms)) k) node) e (low.parts k))
    go k (fails t) = rw (get_or-eq_default ns stop {n = k} (ltb-false k (length ns) t)) tt

-- what a node opens to with those before it alone is what it opens to among all
threads_before : (before rest : List Node) (node : Node) → Ranked rank_of (before ++ (node ∷ rest))
    → threads_of before node ≡ opened (before ++ (node ∷ rest)) (length before)
threads_before before rest node low =
    let e : (before ++ (node ∷ [])) ++ rest ≡ before ++ (node ∷ rest) = append_assoc before (node ∷ []) rest in
    let r : Ranked rank_of (before ++ (node ∷ [])) =
    ranked_front (before ++ (node ∷ [])) rest (subst (λ (ns : List Node). Ranked rank_of ns) (sym e) low) in
    sym (opening_prefix (before ++ (node ∷ [])) rest r (length before) (omega (arith, length-append before (node ∷ []))))
    ∙ ap (λ (ns : List Node). opened ns (length before)) e

-- node k is the one after k others
module _ {facts : ℕ} (few : facts ≤ max_facts) (rules : List Rule) {nodes : List Node} (few_nodes : length nodes ≤ max_nodes) (ranked : Ranked rank_of nodes)
    (fit : (k : ℕ) → k < length nodes → NodeFits facts rules (length nodes) k (node_of nodes k))
    (opens : (k : ℕ) → k < length nodes → length (opened nodes k) ≤ max_threads) {s : List ℕ} where
  pub node_stands : (before rest : List Node) (node : Node) (at : ℕ) → before ++ (node ∷ rest) ≡ nodes → Stands s at (node_bytes node)
      → NodeIs facts rules s (length nodes) before at node (at + length (node_bytes node))
  node_stands before rest node at e h =
      let l : length before < length nodes = omega (arith, length-append before (node ∷ rest), ap length e) in
      let here : node_of nodes (length before) ≡ node = ap (λ (ns : List Node). node_of ns (length before)) (sym e) ∙ get_or-append_seam before node rest stop in
      let fits : NodeFits facts rules (length nodes) (length before) node =
      subst (λ (x : Node). NodeFits facts rules (length nodes) (length before) x) here (fit (length before) l) in
      let alike : threads_of before node ≡ opened nodes (length before) =
      threads_before before rest node (subst (λ (ns : List Node). Ranked rank_of ns) (sym e) ranked)
      ∙ ap (λ (ns : List Node). opened ns (length before)) e in
      let z : at + node_length ≡ at + length (node_bytes node) = ap (λ (j : ℕ). at + j) (sym (node_long node)) in
      record {
        three = subst (λ (j : ℕ). NodeFieldsAre facts rules s (length nodes) (length before) at node j) z
            (node_fields_stand few rules few_nodes node (omega arith) fits h);
        narrow = omega (arith, ap length alike, opens (length before) l);
      }

-- ---- starts
-- each number put in a list of its own, and the lists one after another
concat_map_single : (f : ℕ → List ℕ) (ks : List ℕ) → ((k : ℕ) → Memᴰ k ks → f k ≡ k ∷ []) → concat_map f ks ≡ ks
concat_map_single f [] h = refl
concat_map_single f (k ∷ ks) h =
    ap₂ (λ (xs ys : List ℕ). xs ++ ys) (h k (Memᴰ.head refl)) (concat_map_single f ks (λ j m. h j (Memᴰ.tail m)))

-- a process opens to itself
process_same : (nodes : List Node) (ks : List ℕ) → Process nodes ks → opened_all nodes ks ≡ ks
process_same nodes ks p = ap sort_up (concat_map_single (opened nodes) ks p.self_opening) ∙ sort_up_same ks p.ascending

-- a record in its place is one of them
pub record_there : {A : Type 0} (before rest : List A) (r : A) {all : List A} → before ++ (r ∷ rest) ≡ all → Memᴰ r all
record_there before rest r e = subst (λ (l : List _). Memᴰ r l) e (Memᴰ.append_right before (Memᴰ.head refl))

module _ (nodes : List Node) (s : List ℕ) where
  -- a thread count and its threads
  threads_stand : (at : ℕ) (ks : List ℕ) → length ks ≤ max_threads → ((k : ℕ) → Memᴰ k ks → k < length nodes)
      → Stands s at (length ks ∷ ks) → SectionIs thread_count (ThreadIs (length nodes) s) s at ks (at + length (length ks ∷ ks))
  threads_stand at ks few inside h =
      let single : concat_map (λ k. k ∷ []) ks ≡ ks = concat_map_single (λ k. k ∷ []) ks (λ k m. refl) in
      subst (λ (l : List ℕ). SectionIs thread_count (ThreadIs (length nodes) s) s at ks (at + length (length ks ∷ l))) single
      (section_stands thread_count (ThreadIs (length nodes) s) s at (λ k. k ∷ []) ks (threads_fit few)
      (λ before rest k p e t. byte_field (thread (length nodes)) (thread_fits (inside k (record_there before rest k e))) t)
      (subst (λ (l : List ℕ). Stands s at (length ks ∷ l)) (sym single) h))

  pub start_stands : {facts n : ℕ} → facts ≤ max_facts → (rules : List Rule) {before : List Configuration} {at : ℕ} (p : Configuration)
      → Constraint facts rules p.store → Process nodes p.threads → length p.threads ≤ max_threads
      → Stands s at (start_bytes p) → StartIs facts rules nodes s n before at p (at + length (start_bytes p))
  start_stands {facts} {n} few rules {before} {at} p c t short h =
      let ks : List ℕ = p.threads in
      let same : opened_all nodes ks ≡ ks = process_same nodes ks t in
      let second : ℕ = at + width (set facts) in
      let next : ℕ = second + length (length ks ∷ ks) in
      let z : next ≡ at + length (start_bytes p) = omega arith in
      subst (λ (k : ℕ). StartIs facts rules nodes s n before at p k) z
      (subst (λ (x : ℕ). StartIs facts rules nodes s n before at (record { store = x; threads = ks }) next)
      (closure_same rules p.store c.closed)
      (subst (λ (l : List ℕ). StartIs facts rules nodes s n before at (record { store = closure rules p.store; threads = l }) next)
      same
      (start (word_field (set facts) (set_fits few c.facts) (stands_front (word_bytes p.store) (length ks ∷ ks) h))
      (threads_stand second ks short (λ k m. opened_inside nodes k (t.self_opening k m)) (stands_rest (word_bytes p.store) (length ks ∷ ks) h))
      (omega (arith, ap length same)))))
