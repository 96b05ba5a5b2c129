-- Laws of opening: which nodes matter, one node more, and that a thread opens to itself.
use Rattle.std.specs.Prelude.{◌≡◌, refl, Bool, true, false, ℕ, zero, suc, ◌≤◌, ◌<◌, length, ltb}
use Rattle.std.proofs.Common.{sym, ap, ap₂, ◌∙◌, subst, ⊎_elim, arith, add-one, length-append, ltb-true, ltb-false}
use mathlib.Core.List.Memᴰ
use mathlib.Core.List.{List, [], ◌∷◌, ◌++◌, Memᴰ}
use Rattle.std.proofs.Math.ListN.{get_or-append, get_or-eq_default}
use Rattle.std.proofs.Math.Seq.{get_or-append_seam}
use Rattle.store_laws.specs.AscendingLaws.{sort_up_not_falling, sort_up_only}
use Rattle.store_laws.specs.Lists.{concat_map}
use Rattle.store_laws.specs.Members.{mem_concat_map}
use Rattle.store_laws.specs.TestLaws.{Tested, passes, fails, tested}
use Rattle.sheet_reading.specs.Sheet.{Node, stop, tell, ask, both, either, node_of, opening_of, open_within, opened, opened_all}
use Rattle.sheet_reading.specs.WellFormed.{Process}
use Rattle.sheet_laws.specs.Ranks.{LowerNames, OfParts, Part, Ranked, rank_of, parts_map}

-- only what the parts open to matters
pub opening_same : (inner other : ℕ → List ℕ) (k : ℕ) (n : Node) → OfParts (λ j. inner j ≡ other j) n → opening_of inner k n ≡ opening_of other k n
opening_same inner other k stop h = refl
opening_same inner other k (tell c) h = refl
opening_same inner other k (ask c q) h = refl
opening_same inner other k (both p q) h = ap₂ (λ (a b : List ℕ). a ++ b) h.0 h.1
opening_same inner other k (either p q) h = refl

-- Two lists with the same nodes up to the rank of k open k alike, through any number of nodes above that rank.
opening_agrees : {rank : ℕ → ℕ} (ns ms : List Node) → Ranked rank ns → (f g k : ℕ) → rank k < f → rank k < g
    → ((j : ℕ) → rank j ≤ rank k → node_of ns j ≡ node_of ms j) → open_within f ns k ≡ open_within g ms k
unfolding open_within
opening_agrees ns ms low zero g k a b h = absurd (omega arith)
opening_agrees ns ms low (suc f) zero k a b h = absurd (omega arith)
opening_agrees {rank} ns ms low (suc f) (suc g) k a b h =
    opening_same (open_within f ns) (open_within g ms) k (node_of ns k)
    (parts_map (Part rank (length ns) k) (λ j. open_within f ns j ≡ open_within g ms j)
    (λ j l. opening_agrees ns ms low f g j (omega (arith, l.lower)) (omega (arith, l.lower)) (λ i m. h i (omega (arith, l.lower))))
    (node_of ns k) (low.parts k))
    ∙ ap (opening_of (open_within g ms) k) (h k (omega arith))

-- any number of nodes above the rank of k will do
pub opening_enough : {rank : ℕ → ℕ} (ns : List Node) → Ranked rank ns → (f g k : ℕ) → rank k < f → rank k < g
    → open_within f ns k ≡ open_within g ns k
opening_enough ns low f g k a b = opening_agrees ns ns low f g k a b (λ j l. refl)

-- ---- one node more at the end, as nodes are read: these laws hold since a node's rank is its number
-- nodes after k do not matter
pub opening_prefix : (ns ms : List Node) → Ranked rank_of ns → (k : ℕ) → k < length ns → opened (ns ++ ms) k ≡ opened ns k
unfolding rank_of
opening_prefix ns ms low k l =
    sym (opening_agrees ns (ns ++ ms) low (length ns) (length (ns ++ ms)) k l (omega (arith, length-append ns ms))
    (λ j m. sym (get_or-append ns ms stop j (omega arith))))

length_more : (ns : List Node) (n : Node) → length (ns ++ (n ∷ [])) ≡ suc (length ns)
length_more ns n = length-append ns (n ∷ []) ∙ add-one (length ns)

-- one node more opens to what its parts open to
pub opening_next : (ns : List Node) (n : Node) → Ranked rank_of ns → LowerNames (length ns) n
    → opened (ns ++ (n ∷ [])) (length ns) ≡ opening_of (opened ns) (length ns) n
unfolding open_within rank_of
opening_next ns n low l =
    ap (λ (f : ℕ). open_within f (ns ++ (n ∷ [])) (length ns)) (length_more ns n)
    ∙ ap (opening_of (open_within (length ns) (ns ++ (n ∷ []))) (length ns)) (get_or-append_seam ns n [] stop)
    ∙ opening_same (open_within (length ns) (ns ++ (n ∷ []))) (opened ns) (length ns) n
    (parts_map (λ p. p < length ns) (λ j. open_within (length ns) (ns ++ (n ∷ [])) j ≡ opened ns j)
    (λ j m. sym (opening_agrees ns (ns ++ (n ∷ [])) low (length ns) (length ns) j m m
    (λ i o. sym (get_or-append ns (n ∷ []) stop i (omega arith))))) n l)

-- no node has parts
pub ranked_none : Ranked rank_of []
ranked_none = record { parts = λ k. tt; small = λ k l. absurd (omega arith) }

-- one node more that names lower nodes
pub ranked_next : (ns : List Node) (n : Node) → Ranked rank_of ns → LowerNames (length ns) n → Ranked rank_of (ns ++ (n ∷ []))
unfolding rank_of
ranked_next ns n low l = record { parts = λ k. go k (ltb k (length ns)) (ltb (length ns) k) refl refl; small = λ k h. h }
  where
    more : length (ns ++ (n ∷ [])) ≡ suc (length ns)
    more = length_more ns n

    go : (k : ℕ) (b c : Bool) → ltb k (length ns) ≡ b → ltb (length ns) k ≡ c
        → OfParts (Part rank_of (length (ns ++ (n ∷ []))) k) (node_of (ns ++ (n ∷ [])) k)
    go k true c e f =
        rw (get_or-append ns (n ∷ []) stop k (ltb-true k (length ns) e))
        (parts_map (Part rank_of (length ns) k) (Part rank_of (length (ns ++ (n ∷ []))) k)
        (λ p h. record { inside = omega (arith, h.inside, more); lower = h.lower }) (node_of ns k) (low.parts k))
    go k false true e f =
        let m = ltb-true (length ns) k f in
        rw (get_or-eq_default (ns ++ (n ∷ [])) stop {n = k} (omega (arith, m, more))) tt
    go k false false e f =
        let m : length ns ≡ k = omega (arith, ltb-false k (length ns) e, ltb-false (length ns) k f) in
        subst (λ (i : ℕ). OfParts (Part rank_of (length (ns ++ (n ∷ []))) i) (node_of (ns ++ (n ∷ [])) i)) m
        (rw (get_or-append_seam ns n [] stop)
        (parts_map (λ p. p < length ns) (Part rank_of (length (ns ++ (n ∷ []))) (length ns))
        (λ p h. record { inside = omega (arith, more); lower = h }) n l))

-- ---- threads
-- a node that opens to itself however its parts are opened is a node of the list
opens_alone : (ns : List Node) (k : ℕ) (n : Node) → node_of ns k ≡ n → ((inner : ℕ → List ℕ) → opening_of inner k n ≡ k ∷ [])
    → opened ns k ≡ k ∷ []
unfolding open_within
opens_alone ns k n e h = go (length ns) refl
  where
    go : (f : ℕ) → length ns ≡ f → open_within f ns k ≡ k ∷ []
    go zero z =
        let s : node_of ns k ≡ stop = get_or-eq_default ns stop {n = k} (omega arith) in
        ap (λ (m : Node). opening_of (λ _. []) k m) (sym s ∙ e) ∙ h (λ _. [])
    go (suc f) z = ap (opening_of (open_within f ns) k) e ∙ h (open_within f ns)

-- each thread that a node opens to opens to itself
thread_opens : (ns : List Node) (f k j : ℕ) → Memᴰ j (open_within f ns k) → opened ns j ≡ j ∷ []
unfolding open_within
thread_opens ns zero k j m = absurd (Memᴰ.not-nil m)
thread_opens ns (suc f) k j m = go (λ i o. thread_opens ns f i j o) (node_of ns k) refl m
  where
    here : (n : Node) → node_of ns k ≡ n → ((inner : ℕ → List ℕ) → opening_of inner k n ≡ k ∷ []) → Memᴰ j (k ∷ []) → opened ns j ≡ j ∷ []
    here n e h o = rw (Memᴰ.eq_of_singleton o) (opens_alone ns k n e h)

    go : ((i : ℕ) → Memᴰ j (open_within f ns i) → opened ns j ≡ j ∷ []) → (n : Node) → node_of ns k ≡ n
        → Memᴰ j (opening_of (open_within f ns) k n) → opened ns j ≡ j ∷ []
    go ih stop e o = absurd (Memᴰ.not-nil o)
    go ih (tell c) e o = here (tell c) e (λ inner. refl) o
    go ih (ask c q) e o = here (ask c q) e (λ inner. refl) o
    go ih (both p q) e o =
        ⊎_elim (λ (a : Memᴰ j (open_within f ns p)). ih p a) (λ (a : Memᴰ j (open_within f ns q)). ih q a)
        (Memᴰ.append_cases (open_within f ns p) o)
    go ih (either p q) e o = here (either p q) e (λ inner. refl) o

-- what is opened opens to itself
pub opened_opens : (ns : List Node) (k : ℕ) {j : ℕ} → Memᴰ j (opened ns k) → opened ns j ≡ j ∷ []
opened_opens ns k {j} m = thread_opens ns (length ns) k j m

-- only a node of the list opens to itself
pub opened_inside : (ns : List Node) (k : ℕ) → opened ns k ≡ k ∷ [] → k < length ns
unfolding open_within
opened_inside ns k e = go (tested (ltb k (length ns)))
  where
    beyond : (f : ℕ) → node_of ns k ≡ stop → open_within f ns k ≡ []
    beyond zero z = refl
    beyond (suc f) z = ap (opening_of (open_within f ns) k) z

    go : Tested (ltb k (length ns)) → k < length ns
    go (passes t) = ltb-true k (length ns) t
    go (fails t) =
        let none : opened ns k ≡ [] = beyond (length ns) (get_or-eq_default ns stop {n = k} (ltb-false k (length ns) t)) in
        absurd (omega (arith, ap length (sym none ∙ e)))

-- the threads that any nodes open to are a process
pub opened_process : (nodes : List Node) (ks : List ℕ) → Process nodes (opened_all nodes ks)
opened_process nodes ks =
    record {
      ascending = sort_up_not_falling (concat_map (opened nodes) ks);
      self_opening = λ k m.
          let i = mem_concat_map (opened nodes) ks (sort_up_only (concat_map (opened nodes) ks) m) in opened_opens nodes i.0 i.2;
    }
