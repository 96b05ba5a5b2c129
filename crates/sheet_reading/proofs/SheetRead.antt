-- Reading gets exactly the sheet that the bytes are, and is refused by exactly the number and place that refuse them.
use Rattle.std.specs.Prelude.{◌≡◌, ◌⊎◌, Bool, true, false, cond, ◌||◌, List, [], ◌∷◌, ◌++◌, ℕ, zero, suc, ◌+◌, ◌≤◌, ◌<◌, eqb, leb, ltb}
use Rattle.std.proofs.Math.Path.{refl}
use Rattle.std.proofs.Common.{sym, subst, ap, ◌∙◌, inl, inr, arith}
use Rattle.std.proofs.Math.ListN.{length}
use borrow.Author.Tests.{ltb-true, ltb-false, lt-ltb, le-ltb, leb-true, leb-false, le-leb, lt-leb, eqb-true, eqb-false}
use Rattle.sheets.specs.Stores.{Rule, closure}
use Rattle.sheets.specs.SheetLimits.{max_facts, max_rules, min_nodes, max_nodes, min_starts, max_starts, max_threads, max_kind}
use Rattle.sheets.specs.Refusals.{many_rules, wrong_nodes, wrong_starts, many_threads, bytes_left_lem, wide_node, absent_start}
use Rattle.sheets.specs.Sheet.{Node, stop, tell, ask, both, either, Configuration, Sheet, opened_all}
use Rattle.sheets.specs.SheetBytes.{Field, rule_count, node_count, start_count, thread_count, set, kind, unused, node_below, thread, no_kind, FieldIs, FieldRefused, RecordsAre, none, one_more, SectionIs, SectionRefused, FactIs, FactRefused, RuleIs, RuleRefused, by_premise, by_conclusion, KindIs, is_stop, is_tell, is_ask, is_both, is_either, NodeFieldsAre, fields, threads_of, NodeIs, NodeRefused, by_kind, by_first, by_second, wide, ThreadIs, ThreadRefused, StartIs, start, StartRefused, by_store, by_threads_lem, opened_many, FactsAre, RulesAre, NodesAre, StartsAre, SectionsAre, sections, SheetIs, SheetRefused, by_facts, by_rules, by_nodes, by_starts, bytes_left, ChoiceIs, ChoiceRefused, by_sheet, no_left, no_right, ExactlyOne, a_sheet, a_refusal}
use Rattle.sheet_reading.specs.Reading.{Reading, got, refused, and_then, refused_if, records_from, count_at, set_at, rule_at, rules_at, kind_at, first_at, second_at, node_from, node_at, nodes_at, thread_at, threads_from, start_at, starts_at, facts_at, read_sheet, read_choice}
use Rattle.sheet_reading.specs.Sound.{Sound, ReadsAs, sound_got, sound_refused, if_sound, then_sound, sound_as, got_not_refused}
use Rattle.sheet_reading.proofs.FieldsRead.{Reads, rules_count_reads, nodes_count_reads, starts_count_reads, threads_count_reads, set_reads, kind_reads, unused_reads, below_reads, thread_reads}
use Rattle.sheet_reading.proofs.RecordsRead.{section_reads}
use Rattle.sheet_reading.proofs.NamesRead.{facts_reads}

-- ---- rules
module _ (facts : ℕ) (s : List ℕ) where
  abbrev rule_steps : ℕ → Reading Rule
  rule_steps at = and_then (set_at facts s at) (λ p next. and_then (set_at facts s next) (λ c end. got (record { premise = p; conclusion = c }) end))

  pub rule_reads : (n : ℕ) (before : List Rule) (at : ℕ) → ReadsAs (RuleIs facts s n before at) (RuleRefused facts s n before at) (rule_at facts s at)
  unfolding rule_at
  rule_reads n before at =
      record {
        sound = then_sound (set_at facts s at) _ (set_reads s at facts).sound (λ number place h. by_premise h) (λ p q i.
            then_sound (set_at facts s q) _ (set_reads s q facts).sound (λ number place h. by_conclusion i h) (λ c next j.
            sound_got (record { premise = p; conclusion = c }) next (record { second = q; premise_field = i; conclusion_field = j })));
        is_got = λ r next h. rw (
          (set_reads s at facts).is_got r.premise h.second h.premise_field,
          (set_reads s h.second facts).is_got r.conclusion next h.conclusion_field,
        );
        is_refused = λ number place h. stops number place h;
      }
    where
      stops : (number place : ℕ) → RuleRefused facts s n before at number place
          → rule_steps at ≡ refused number place
      stops number place (by_premise h) = rw ((set_reads s at facts).is_refused number place h)
      stops number place (by_conclusion {p = p} {second = q} i h) =
          rw ((set_reads s at facts).is_got p q i, (set_reads s q facts).is_refused number place h)

  pub rules_reads : (at : ℕ) → ReadsAs (RulesAre facts s at) (SectionRefused rule_count (RuleIs facts s) (RuleRefused facts s) s at) (rules_at facts s at)
  unfolding rules_at
  rules_reads at =
      section_reads rule_count (RuleIs facts s) (RuleRefused facts s) s at (count_at 0 max_rules many_rules s at) (λ n read p. rule_at facts s p)
      (rules_count_reads s at) (λ n before p. rule_reads n before p)

-- ---- nodes
module _ (facts : ℕ) (rules : List Rule) (s : List ℕ) (n k : ℕ) where
  -- a kind byte that is right is one of the kinds
  record Row (b : ℕ) : Type 0 where
    f : Field
    g : Field
    made : ℕ → ℕ → Node
    decides : KindIs facts rules n k b f g made

  row_of : (b : ℕ) → b ≤ max_kind → Row b
  row_of b h = go (eqb b 0) (eqb b 1) (eqb b 2) (eqb b 3) refl refl refl refl
    where
      go : (x y z w : Bool) → eqb b 0 ≡ x → eqb b 1 ≡ y → eqb b 2 ≡ z → eqb b 3 ≡ w → Row b
      go true y z w e _ _ _ = let q : 0 ≡ b = sym (eqb-true b 0 e) in subst Row q (record { f = unused; g = unused; made = λ x y. stop; decides = is_stop })
      go false true z w _ e _ _ = let q : 1 ≡ b = sym (eqb-true b 1 e) in subst Row q (record { f = set facts; g = unused; made = λ c y. tell (closure rules c); decides = is_tell })
      go false false true w _ _ e _ = let q : 2 ≡ b = sym (eqb-true b 2 e) in subst Row q (record { f = set facts; g = node_below n; made = λ c q. ask (closure rules c) q; decides = is_ask })
      go false false false true _ _ _ e = let q : 3 ≡ b = sym (eqb-true b 3 e) in subst Row q (record { f = node_below k; g = node_below k; made = λ p q. both p q; decides = is_both })
      go false false false false e u v w =
          let q : 4 ≡ b = omega (arith, h, eqb-false b 0 e, eqb-false b 1 u, eqb-false b 2 v, eqb-false b 3 w) in
          subst Row q (record { f = node_below k; g = node_below k; made = λ p q. either p q; decides = is_either })

  -- the fields of a kind, and the node that they give
  first_reads : {b : ℕ} {f g : Field} {made : ℕ → ℕ → Node} → KindIs facts rules n k b f g made → (at : ℕ) → Reads f s at (first_at b facts k s at)
  unfolding first_at
  first_reads is_stop at = unused_reads s at
  first_reads is_tell at = set_reads s at facts
  first_reads is_ask at = set_reads s at facts
  first_reads is_both at = below_reads s at k
  first_reads is_either at = below_reads s at k

  second_reads : {b : ℕ} {f g : Field} {made : ℕ → ℕ → Node} → KindIs facts rules n k b f g made → (at : ℕ) → Reads g s at (second_at b n k s at)
  unfolding second_at
  second_reads is_stop at = unused_reads s at
  second_reads is_tell at = unused_reads s at
  second_reads is_ask at = below_reads s at n
  second_reads is_both at = below_reads s at k
  second_reads is_either at = below_reads s at k

  made_is : {b : ℕ} {f g : Field} {made : ℕ → ℕ → Node} → KindIs facts rules n k b f g made → (x y : ℕ) → node_from rules b x y ≡ made x y
  made_is is_stop x y = refl
  made_is is_tell x y = refl
  made_is is_ask x y = refl
  made_is is_both x y = refl
  made_is is_either x y = refl

module _ (facts : ℕ) (rules : List Rule) (s : List ℕ) where
  kind_low : {at b next : ℕ} → FieldIs kind s at b next → b ≤ max_kind
  kind_low {b = b} h = go (ltb max_kind b) refl
    where
      go : (x : Bool) → ltb max_kind b ≡ x → b ≤ max_kind
      go true e = absurd (h.right _ (no_kind (ltb-true max_kind b e)))
      go false e = ltb-false max_kind b e

  -- the check that comes after a node's fields
  abbrev narrow_node : List Node → ℕ → Node → ℕ → Reading Node
  narrow_node before at node next = refused_if (ltb max_threads (length (threads_of before node))) wide_node at (got node next)

  -- the reading of a node, as it is defined
  abbrev node_steps : ℕ → List Node → ℕ → Reading Node
  node_steps n before at =
      and_then (kind_at s at) (λ kind p.
      and_then (first_at kind facts (length before) s p) (λ first q.
      and_then (second_at kind n (length before) s q) (λ second next. narrow_node before at (node_from rules kind first second) next)))

  pub node_reads : (n : ℕ) (before : List Node) (at : ℕ)
      → ReadsAs (NodeIs facts rules s n before at) (NodeRefused facts rules s n before at) (node_at facts rules n s before at)
  unfolding node_at
  node_reads n before at =
      record {
        sound = then_sound (kind_at s at) _ (kind_reads s at).sound (λ number place h. by_kind h) (λ b p i.
            after b p i (row_of facts rules s n (length before) b (kind_low i)));
        is_got = λ node next h. right node next h.three h.narrow;
        is_refused = λ number place h. stops number place h;
      }
    where
      after : (b p : ℕ) → FieldIs kind s at b p → Row facts rules s n (length before) b
          → Sound (NodeIs facts rules s n before at) (NodeRefused facts rules s n before at)
          (and_then (first_at b facts (length before) s p) (λ first q. and_then (second_at b n (length before) s q) (λ second next.
          narrow_node before at (node_from rules b first second) next)))
      after b p i row =
          let d = row.decides in
          then_sound (first_at b facts (length before) s p) _ (first_reads facts rules s n (length before) d p).sound
          (λ number place h. by_first i d h) (λ x q j.
          then_sound (second_at b n (length before) s q) _ (second_reads facts rules s n (length before) d q).sound
          (λ number place h. by_second i d j h) (λ y next l.
          rw (made_is facts rules s n (length before) d x y)
          (if_sound (ltb max_threads (length (threads_of before (row.made x y)))) wide_node at (got (row.made x y) next)
          (λ e. wide (fields i d j l) (ltb-true max_threads (length (threads_of before (row.made x y))) e))
          (λ e. sound_got (row.made x y) next (record { three = fields i d j l; narrow = ltb-false max_threads (length (threads_of before (row.made x y))) e })))))

      -- its three fields are read
      three_read : {node : Node} {next : ℕ} → NodeFieldsAre facts rules s n (length before) at node next
          → node_steps n before at ≡ narrow_node before at node next
      three_read (fields {b = b} {x = x} {y = y} {second = p} {third = q} {next = next} i d j l) =
          rw (
            (kind_reads s at).is_got b p i,
            (first_reads facts rules s n (length before) d p).is_got x q j,
            (second_reads facts rules s n (length before) d q).is_got y next l,
            made_is facts rules s n (length before) d x y,
          )

      right : (node : Node) (next : ℕ) → NodeFieldsAre facts rules s n (length before) at node next → length (threads_of before node) ≤ max_threads
          → node_steps n before at ≡ got node next
      right node next h e = three_read h ∙ rw (le-ltb max_threads (length (threads_of before node)) e)

      stops : (number place : ℕ) → NodeRefused facts rules s n before at number place → node_steps n before at ≡ refused number place
      stops number place (by_kind h) = rw ((kind_reads s at).is_refused number place h)
      stops number place (by_first {b = b} {second = p} i d h) =
          rw ((kind_reads s at).is_got b p i, (first_reads facts rules s n (length before) d p).is_refused number place h)
      stops number place (by_second {b = b} {x = x} {second = p} {third = q} i d j h) =
          rw (
            (kind_reads s at).is_got b p i,
            (first_reads facts rules s n (length before) d p).is_got x q j,
            (second_reads facts rules s n (length before) d q).is_refused number place h,
          )
      stops _ _ (wide {node = node} h e) = three_read h ∙ rw (lt-ltb max_threads (length (threads_of before node)) e)

  pub nodes_reads : (at : ℕ) → ReadsAs (NodesAre facts rules s at) (SectionRefused node_count (NodeIs facts rules s) (NodeRefused facts rules s) s at) (nodes_at facts rules s at)
  unfolding nodes_at
  nodes_reads at =
      section_reads node_count (NodeIs facts rules s) (NodeRefused facts rules s) s at (count_at min_nodes max_nodes wrong_nodes s at) (λ n. node_at facts rules n s)
      (nodes_count_reads s at) (λ n before p. node_reads n before p)

-- ---- starts
module _ (facts : ℕ) (rules : List Rule) (nodes : List Node) (s : List ℕ) where
  -- a thread count and its threads
  threads_reads : (at : ℕ)
      → ReadsAs (SectionIs thread_count (ThreadIs (length nodes) s) s at) (SectionRefused thread_count (ThreadIs (length nodes) s) (ThreadRefused (length nodes) s) s at)
      (and_then (count_at 0 max_threads many_threads s at) (λ n next. threads_from n (length nodes) s next))
  unfolding threads_from
  threads_reads at =
      section_reads thread_count (ThreadIs (length nodes) s) (ThreadRefused (length nodes) s) s at (count_at 0 max_threads many_threads s at)
      (λ n read p. thread_at (length nodes) s p) (threads_count_reads s at) (λ n before p. thread_reads s p (length nodes))

  -- the check that comes after a start's threads
  abbrev narrow_start : ℕ → ℕ → List ℕ → ℕ → Reading Configuration
  narrow_start c p ks next =
      refused_if (ltb max_threads (length (opened_all nodes ks))) many_threads p (got (record { store = closure rules c; threads = opened_all nodes ks }) next)

  -- the reading of a start, its count and threads as one part
  abbrev start_steps : ℕ → Reading Configuration
  start_steps at =
      and_then (set_at facts s at) (λ c p.
      and_then (and_then (count_at 0 max_threads many_threads s p) (λ n next. threads_from n (length nodes) s next)) (λ ks next. narrow_start c p ks next))

  start_steps_lem : (at : ℕ) → start_at facts rules nodes s at ≡ start_steps at
  unfolding start_at
  start_steps_lem at = outer (set_at facts s at)
    where
      inner : (c p : ℕ) (r : Reading ℕ)
          → and_then r (λ n q. and_then (threads_from n (length nodes) s q) (λ ks next. narrow_start c p ks next))
          ≡ and_then (and_then r (λ n next. threads_from n (length nodes) s next)) (λ ks next. narrow_start c p ks next)
      inner c p (got v next) = refl
      inner c p (refused number place) = refl

      outer : (r : Reading ℕ)
          → and_then r (λ c p. and_then (count_at 0 max_threads many_threads s p) (λ n q. and_then (threads_from n (length nodes) s q) (λ ks next. narrow_start c p ks next)))
          ≡ and_then r (λ c p. and_then (and_then (count_at 0 max_threads many_threads s p) (λ n next. threads_from n (length nodes) s next)) (λ ks next. narrow_start c p ks next))
      outer (got c p) = inner c p (count_at 0 max_threads many_threads s p)
      outer (refused number place) = refl

  steps_read_lem : (n : ℕ) (before : List Configuration) (at : ℕ)
      → ReadsAs (StartIs facts rules nodes s n before at) (StartRefused facts rules nodes s n before at) (start_steps at)
  steps_read_lem n before at =
      record {
        sound = then_sound (set_at facts s at) _ (set_reads s at facts).sound (λ number place h. by_store h) (λ c p i.
            then_sound (and_then (count_at 0 max_threads many_threads s p) (λ n next. threads_from n (length nodes) s next)) _ (threads_reads p).sound
            (λ number place h. by_threads_lem i h) (λ ks next j.
            if_sound (ltb max_threads (length (opened_all nodes ks))) many_threads p _
            (λ e. opened_many i j (ltb-true max_threads (length (opened_all nodes ks)) e))
            (λ e. sound_got _ next (start i j (ltb-false max_threads (length (opened_all nodes ks)) e)))));
        is_got = λ p next h. right p next h;
        is_refused = λ number place h. stops number place h;
      }
    where
      right : (p : Configuration) (next : ℕ) → StartIs facts rules nodes s n before at p next → start_steps at ≡ got p next
      right _ _ (start {c = c} {second = q} {next = next} {written = ks} i j e) =
          rw ((set_reads s at facts).is_got c q i, (threads_reads q).is_got ks next j, le-ltb max_threads (length (opened_all nodes ks)) e)

      stops : (number place : ℕ) → StartRefused facts rules nodes s n before at number place → start_steps at ≡ refused number place
      stops number place (by_store h) = rw ((set_reads s at facts).is_refused number place h)
      stops number place (by_threads_lem {c = c} {second = q} i h) = rw ((set_reads s at facts).is_got c q i, (threads_reads q).is_refused number place h)
      stops _ _ (opened_many {c = c} {second = q} {next = next} {written = ks} i j e) =
          rw ((set_reads s at facts).is_got c q i, (threads_reads q).is_got ks next j, lt-ltb max_threads (length (opened_all nodes ks)) e)

  pub start_reads : (n : ℕ) (before : List Configuration) (at : ℕ)
      → ReadsAs (StartIs facts rules nodes s n before at) (StartRefused facts rules nodes s n before at) (start_at facts rules nodes s at)
  start_reads n before at = rw (start_steps_lem at) (steps_read_lem n before at)

  pub starts_reads : (at : ℕ)
      → ReadsAs (StartsAre facts rules nodes s at) (SectionRefused start_count (StartIs facts rules nodes s) (StartRefused facts rules nodes s) s at) (starts_at facts rules nodes s at)
  unfolding starts_at
  starts_reads at =
      section_reads start_count (StartIs facts rules nodes s) (StartRefused facts rules nodes s) s at (count_at min_starts max_starts wrong_starts s at)
      (λ n read p. start_at facts rules nodes s p) (starts_count_reads s at) (λ n before p. start_reads n before p)

-- ---- the whole sheet
module _ (s : List ℕ) where
  -- the sections, whatever follows them
  abbrev section_steps : Reading Sheet
  section_steps =
      and_then (facts_at s 0) (λ facts p.
      and_then (rules_at facts s p) (λ rules q.
      and_then (nodes_at facts rules s q) (λ nodes t.
      and_then (starts_at facts rules nodes s t) (λ starts end. got (record { facts = facts; rules = rules; nodes = nodes; starts = starts }) end))))

  abbrev sheet_steps : Reading Sheet
  sheet_steps =
      and_then (facts_at s 0) (λ facts p.
      and_then (rules_at facts s p) (λ rules q.
      and_then (nodes_at facts rules s q) (λ nodes t.
      and_then (starts_at facts rules nodes s t) (λ starts end.
      refused_if (ltb end (length s)) bytes_left_lem end (got (record { facts = facts; rules = rules; nodes = nodes; starts = starts }) end)))))

  -- they are read, and then the end is looked at
  sections_read : {sheet : Sheet} {end : ℕ} → SectionsAre s sheet end → sheet_steps ≡ refused_if (ltb end (length s)) bytes_left_lem end (got sheet end)
  sections_read (sections {p = p} {q = q} {t = t} {end = end} {names = names} {rules = rules} {nodes = nodes} {starts = starts} a b c d) =
      rw (
        (facts_reads s 0).is_got (length names) p (names, refl, a),
        (rules_reads (length names) s p).is_got rules q b,
        (nodes_reads (length names) rules s q).is_got nodes t c,
        (starts_reads (length names) rules nodes s t).is_got starts end d,
      )

  -- the starts end where the sheet does, or before
  threads_within : {nodes n at next : ℕ} {before rest : List ℕ} → RecordsAre (ThreadIs nodes s) n before at rest next → at ≤ length s → next ≤ length s
  threads_within none h = h
  threads_within (one_more i k) h = threads_within k (omega (arith, i.stands, i.after))

  start_within : {facts : ℕ} {rules : List Rule} {nodes : List Node} {n at next : ℕ} {before : List Configuration} {p : Configuration}
      → StartIs facts rules nodes s n before at p next → next ≤ length s
  start_within (start i j e) = threads_within j.records (omega (arith, j.counted.stands, j.counted.after))

  starts_within : {facts : ℕ} {rules : List Rule} {nodes : List Node} {n at next : ℕ} {before rest : List Configuration}
      → RecordsAre (StartIs facts rules nodes s) n before at rest next → at ≤ length s → next ≤ length s
  starts_within none h = h
  starts_within (one_more i k) h = starts_within k (start_within i)

  pub sections_within : {sheet : Sheet} {end : ℕ} → SectionsAre s sheet end → end ≤ length s
  sections_within (sections a b c d) = starts_within d.records (omega (arith, d.counted.stands, d.counted.after))

  pub sheet_reads : ReadsAs (λ sheet end. SheetIs s sheet × (end ≡ length s)) (SheetRefused s) (read_sheet s)
  unfolding read_sheet
  sheet_reads =
      record {
        sound = then_sound (facts_at s 0) _ (facts_reads s 0).sound (λ number place h. by_facts h) (λ facts p a.
            in_facts facts p a.0 a.1 a.2);
        is_got = λ sheet end h. right sheet end h.0 h.1;
        is_refused = λ number place h. stops number place h;
      }
    where
      ended : (sheet : Sheet) (end : ℕ) → SectionsAre s sheet end
          → Sound (λ sheet end. SheetIs s sheet × (end ≡ length s)) (SheetRefused s) (refused_if (ltb end (length s)) bytes_left_lem end (got sheet end))
      ended sheet end h =
          if_sound (ltb end (length s)) bytes_left_lem end (got sheet end) (λ e. bytes_left h (ltb-true end (length s) e))
          (λ e.
          let q : end ≡ length s = omega (arith, sections_within h, ltb-false end (length s) e) in
          sound_got sheet end (subst (λ (k : ℕ). SectionsAre s sheet k) q h, q))

      in_facts : (facts p : ℕ) (names : List (List ℕ)) → facts ≡ length names → FactsAre s 0 names p
          → Sound (λ sheet end. SheetIs s sheet × (end ≡ length s)) (SheetRefused s)
          (and_then (rules_at facts s p) (λ rules q.
          and_then (nodes_at facts rules s q) (λ nodes t.
          and_then (starts_at facts rules nodes s t) (λ starts end.
          refused_if (ltb end (length s)) bytes_left_lem end (got (record { facts = facts; rules = rules; nodes = nodes; starts = starts }) end)))))
      in_facts facts p names e a =
          rw e
          (then_sound (rules_at (length names) s p) _ (rules_reads (length names) s p).sound (λ number place h. by_rules a h) (λ rules q b.
          then_sound (nodes_at (length names) rules s q) _ (nodes_reads (length names) rules s q).sound (λ number place h. by_nodes a b h) (λ nodes t c.
          then_sound (starts_at (length names) rules nodes s t) _ (starts_reads (length names) rules nodes s t).sound (λ number place h. by_starts a b c h) (λ starts end d.
          ended (record { facts = length names; rules = rules; nodes = nodes; starts = starts }) end (sections a b c d)))))

      right : (sheet : Sheet) (end : ℕ) → SheetIs s sheet → end ≡ length s → sheet_steps ≡ got sheet end
      right sheet end h e = sections_read h ∙ rw (le-ltb (length s) (length s) (omega arith), e)

      stops : (number place : ℕ) → SheetRefused s number place → sheet_steps ≡ refused number place
      stops number place (by_facts h) = rw ((facts_reads s 0).is_refused number place h)
      stops number place (by_rules {p = p} {names = names} a h) =
          rw ((facts_reads s 0).is_got (length names) p (names, refl, a), (rules_reads (length names) s p).is_refused number place h)
      stops number place (by_nodes {p = p} {q = q} {names = names} {rules = rules} a b h) =
          rw (
            (facts_reads s 0).is_got (length names) p (names, refl, a),
            (rules_reads (length names) s p).is_got rules q b,
            (nodes_reads (length names) rules s q).is_refused number place h,
          )
      stops number place (by_starts {p = p} {q = q} {t = t} {names = names} {rules = rules} {nodes = nodes} a b c h) =
          rw (
            (facts_reads s 0).is_got (length names) p (names, refl, a),
            (rules_reads (length names) s p).is_got rules q b,
            (nodes_reads (length names) rules s q).is_got nodes t c,
            (starts_reads (length names) rules nodes s t).is_refused number place h,
          )
      stops _ _ (bytes_left {end = end} h e) = sections_read h ∙ rw (lt-ltb end (length s) e)

-- ---- the choice
pub choice_reads : (s : List ℕ) (left right : ℕ)
    → ReadsAs (λ sheet end. ChoiceIs s left right sheet × (end ≡ length s)) (ChoiceRefused s left right) (read_choice s left right)
unfolding read_choice
choice_reads s left right =
    record {
      sound = then_sound (read_sheet s) _ (sheet_reads s).sound (λ number place h. by_sheet h) (λ sheet end h.
          if_sound (leb (length sheet.starts) left) absent_start 0 _ (λ e. no_left h.0 (leb-true _ _ e)) (λ e.
          if_sound (leb (length sheet.starts) right) absent_start 1 _ (λ u. no_right h.0 (leb-false _ _ e) (leb-true _ _ u)) (λ u.
          sound_got sheet end (record { written = h.0; left_there = leb-false _ _ e; right_there = leb-false _ _ u }, h.1))));
      is_got = λ sheet end h. rw (
        (sheet_reads s).is_got sheet end (h.0.written, h.1),
        lt-leb (length sheet.starts) left h.0.left_there,
        lt-leb (length sheet.starts) right h.0.right_there,
      );
      is_refused = λ number place h. stops number place h;
    }
  where
    stops : (number place : ℕ) → ChoiceRefused s left right number place
        → and_then (read_sheet s) (λ sheet end. refused_if (leb (length sheet.starts) left) absent_start 0 (refused_if (leb (length sheet.starts) right) absent_start 1 (got sheet end)))
        ≡ refused number place
    stops number place (by_sheet h) = rw ((sheet_reads s).is_refused number place h)
    stops _ _ (no_left {sheet = sheet} h e) = rw ((sheet_reads s).is_got sheet (length s) (h, refl), le-leb (length sheet.starts) left e)
    stops _ _ (no_right {sheet = sheet} h l e) =
        rw ((sheet_reads s).is_got sheet (length s) (h, refl), lt-leb (length sheet.starts) left l, le-leb (length sheet.starts) right e)

-- ---- exactly one
pub same_sheet : {x y : Sheet} {a b : ℕ} → got x a ≡ got y b → x ≡ y
same_sheet e = cc

-- one byte string is one sheet
pub one_sheet : (s : List ℕ) {x y : Sheet} → SheetIs s x → SheetIs s y → x ≡ y
one_sheet s {x} {y} h k = same_sheet (sym ((sheet_reads s).is_got x (length s) (h, refl)) ∙ (sheet_reads s).is_got y (length s) (k, refl))

pub exactly_one : (s : List ℕ) → ExactlyOne s
exactly_one s = go (read_sheet s) refl
  where
    same_refusal : {n m p q : ℕ} → ◌≡◌ {A = Reading Sheet} (refused n p) (refused m q) → (n ≡ m) × (p ≡ q)
    same_refusal e = (cc, cc)

    go : (r : Reading Sheet) → read_sheet s ≡ r → ExactlyOne s
    go (got sheet end) e =
        let is : SheetIs s sheet = ((sheet_reads s).sound.got_is sheet end e).0 in
        a_sheet sheet is (λ x h. one_sheet s h is)
        (λ number place h. got_not_refused (sym e ∙ (sheet_reads s).is_refused number place h))
    go (refused number place) e =
        a_refusal number place ((sheet_reads s).sound.refused_is number place e)
        (λ n p h. same_refusal (sym ((sheet_reads s).is_refused n p h) ∙ e))
        (λ sheet h. got_not_refused (sym ((sheet_reads s).is_got sheet (length s) (h, refl)) ∙ e))
