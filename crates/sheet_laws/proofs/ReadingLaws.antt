-- Laws of reading a sheet and a choice: each way that the reading goes; what every sheet that is read has, as document 01, "The
-- sheet", says; and what follows of a well_formed sheet.
use Rattle.std.specs.Prelude.{◌≡◌, refl, List, ℕ, ◌≤◌, ◌<◌, length, ltb}
use Rattle.std.proofs.Common.{arith}
use Rattle.std.proofs.Math.ListN.{get_or-eq_default}
use borrow.Author.Tests.{ltb-true, ltb-false, lt-ltb, le-ltb, le-leb, lt-leb}
use Rattle.store_laws.specs.TestLaws.{Tested, passes, fails, tested}
use Rattle.store_laws.specs.Stores.{Rule}
use Rattle.sheet_reading.specs.SheetLimits.{longest_sheet}
use Rattle.sheet_reading.specs.Sheet.{Node, stop, Configuration, Sheet, node_of}
use Rattle.sheet_reading.specs.SheetBytes.{SheetIs}
use Rattle.sheet_reading.proofs.SheetRead.{sheet_reads}
use Rattle.sheet_reading.specs.Reading.{got, refused, facts_at, rules_at, nodes_at, starts_at, read_sheet, read_choice}
use Rattle.sheet_reading.specs.WellFormed.{WellFormed, Admissible}
use Rattle.sheet_laws.specs.Ranks.{OfParts, Part, Ranked, rank_of, parts_map}
use Rattle.sheet_laws.specs.Gets.{Gets, got_gets, checked_gets, then_gets}
use Rattle.sheet_laws.specs.FieldLaws.{Taken, taken_then, facts_gets}
use Rattle.sheet_laws.proofs.SectionLaws.{rules_gets, nodes_gets, starts_gets, fits_lower}

-- ---- the sheet, section by section
module _ (s : List ℕ) where
  pub no_facts : {number place : ℕ} → facts_at s 0 ≡ refused number place → read_sheet s ≡ refused number place
  unfolding read_sheet
  no_facts e = rw e

  module _ {facts p : ℕ} (f : facts_at s 0 ≡ got facts p) where
    pub no_rules : {number place : ℕ} → rules_at facts s p ≡ refused number place → read_sheet s ≡ refused number place
    unfolding read_sheet
    no_rules e = rw (f, e)

    module _ {rules : List Rule} {q : ℕ} (g : rules_at facts s p ≡ got rules q) where
      pub no_nodes_lem : {number place : ℕ} → nodes_at facts rules s q ≡ refused number place → read_sheet s ≡ refused number place
      unfolding read_sheet
      no_nodes_lem e = rw (f, g, e)

      module _ {nodes : List Node} {t : ℕ} (h : nodes_at facts rules s q ≡ got nodes t) where
        pub no_starts_lem : {number place : ℕ} → starts_at facts rules nodes s t ≡ refused number place → read_sheet s ≡ refused number place
        unfolding read_sheet
        no_starts_lem e = rw (f, g, h, e)

        module _ {starts : List Configuration} {end : ℕ} (k : starts_at facts rules nodes s t ≡ got starts end) where
          pub more_bytes : end < length s → read_sheet s ≡ refused 13 end
          unfolding read_sheet
          more_bytes l = rw (f, g, h, k, lt-ltb end (length s) l)

          pub all_read : length s ≤ end → read_sheet s ≡ got (record { facts = facts; rules = rules; nodes = nodes; starts = starts }) end
          unfolding read_sheet
          all_read l = rw (f, g, h, k, le-ltb end (length s) l)

-- ---- a sheet that is read
record SheetRead (s : List ℕ) (sheet : Sheet) (end : ℕ) : Type 0 where
  pub ends : end ≡ length s
  pub longest : length s ≤ longest_sheet
  pub admissible : Admissible sheet

sheet_gets : (s : List ℕ) → Gets (SheetRead s) (read_sheet s)
unfolding read_sheet
sheet_gets s =
    then_gets _ _ (facts_at s 0) _ (facts_gets s 0) (λ facts p a.
    then_gets _ _ (rules_at facts s p) _ (rules_gets facts s p) (λ rules q b.
    then_gets _ _ (nodes_at facts rules s q) _ (nodes_gets facts rules b.1 s q) (λ nodes t c.
    then_gets _ _ (starts_at facts rules nodes s t) _ (starts_gets facts rules b.1 nodes s t) (λ starts end d.
    checked_gets _ (ltb end (length s)) 13 end _ (λ e.
    let m : Taken s 0 longest_sheet end = taken_then (taken_then (taken_then a.1 b.0.taken) c.0.taken) d.0.taken in
    let l : end ≡ length s = omega (arith, ltb-false end (length s) e, m.within) in
    got_gets _ (record { facts = facts; rules = rules; nodes = nodes; starts = starts }) end
    (record {
      ends = l;
      longest = omega (arith, m.most);
      admissible = record {
        well_formed = record { rules_fit = b.1; nodes_fit = c.1.fit };
        within = record {
          few_facts = a.0;
          few_rules_lem = b.0.few;
          some_nodes = c.0.some;
          few_nodes = c.0.few;
          some_starts = d.0.some;
          few_starts = d.0.few;
          nodes_open = c.1.opens;
          starts_threads = λ x i. (d.1 x i).few;
        };
        starts_fit = λ x i. let h = d.1 x i in record { store = h.store; process = h.process };
      };
    }))))))

-- the whole byte string is read
pub read_ends : (s : List ℕ) (sheet : Sheet) (end : ℕ) → read_sheet s ≡ got sheet end → end ≡ length s
read_ends s sheet end e = ((sheet_gets s).holds sheet end e).ends

-- no sheet that is read is longer than the longest
pub read_longest : (s : List ℕ) (sheet : Sheet) (end : ℕ) → read_sheet s ≡ got sheet end → length s ≤ longest_sheet
read_longest s sheet end e = ((sheet_gets s).holds sheet end e).longest

-- every sheet that is read is well formed and within its limits, and has starts of its own
pub read_admissible : (s : List ℕ) (sheet : Sheet) (end : ℕ) → read_sheet s ≡ got sheet end → Admissible sheet
read_admissible s sheet end e = ((sheet_gets s).holds sheet end e).admissible

-- every byte string that is a sheet is such a one
pub written_admissible : (s : List ℕ) (sheet : Sheet) → SheetIs s sheet → Admissible sheet
written_admissible s sheet h = read_admissible s sheet (length s) ((sheet_reads s).is_got sheet (length s) (h, refl))

-- ---- the choice of two starts
module _ (s : List ℕ) (left right : ℕ) where
  -- a refusal of the sheet is handed up unaltered
  pub choice_no_sheet : {number place : ℕ} → read_sheet s ≡ refused number place → read_choice s left right ≡ refused number place
  unfolding read_choice
  choice_no_sheet e = rw e

  -- 14, for the left start first
  module _ {sheet : Sheet} {end : ℕ} (e : read_sheet s ≡ got sheet end) where
    pub choice_no_left : length sheet.starts ≤ left → read_choice s left right ≡ refused 14 0
    unfolding read_choice
    choice_no_left h = rw (e, le-leb (length sheet.starts) left h)

    pub choice_no_right : left < length sheet.starts → length sheet.starts ≤ right → read_choice s left right ≡ refused 14 1
    unfolding read_choice
    choice_no_right h k = rw (e, lt-leb (length sheet.starts) left h, le-leb (length sheet.starts) right k)

-- ---- what follows of a well_formed sheet
-- its nodes are ranked by their numbers, since a both and an either name lower nodes
pub well_formed_ranked : (sheet : Sheet) → WellFormed sheet → Ranked rank_of sheet.nodes
unfolding rank_of
well_formed_ranked sheet w = record { parts = λ k. go k (tested (ltb k (length sheet.nodes))); small = λ k l. l }
  where
    go : (k : ℕ) → Tested (ltb k (length sheet.nodes)) → OfParts (Part rank_of (length sheet.nodes) k) (node_of sheet.nodes k)
    go k (passes t) =
        let l = ltb-true k (length sheet.nodes) t in
        parts_map (λ p. p < k) (Part rank_of (length sheet.nodes) k) (λ p h. record { inside = omega arith; lower = h }) (node_of sheet.nodes k)
        (fits_lower sheet.facts sheet.rules (length sheet.nodes) k (node_of sheet.nodes k) (w.nodes_fit k l))
    go k (fails t) =
        rw (get_or-eq_default sheet.nodes stop {n = k} (ltb-false k (length sheet.nodes) t)) tt
