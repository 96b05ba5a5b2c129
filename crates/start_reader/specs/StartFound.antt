-- What the reader of a start finds, with the table of the nodes.
use Rattle.std.specs.Prelude.{◌≡◌, refl, List, [], ◌∷◌, ◌++◌, Result, Ok, Err, IfOk, ℕ, zero, suc, ◌≤◌, ◌<◌, length, get_or, take}
use Rattle.std.proofs.Common.{sym, ap, ap₂, ◌∙◌, arith, take-suc}
use Rattle.set_closure.specs.Lists.{sort_up, concat_map}
use Rattle.sheet_types.specs.Tabulate.{tabulate_length}
use Rattle.sheet_types.specs.AscendingLaws.{sort_up_length}
use Rattle.sheet_types.specs.SortingLaws.{concat_map_next}
use Rattle.set_closure.specs.Stores.{Rule, closure}
use Rattle.set_closure.specs.SheetLimits.{max_threads, max_nodes}
use Rattle.sheet_types.specs.Sheet.{Node, opened, opened_all}
use Rattle.sheet_types.specs.Sheet as spec
use Rattle.sheet_types.specs.Reading.{Reading, got, refused, set_at, count_at, threads_from, start_at}
use Rattle.sheet_fields.specs.SectionLaws.{start_no_threads, start_many, start_few}
use Rattle.refusals.specs.Numbers.{number}
use Rattle.refusals.specs.declared.Refused.{Refused}
use Rattle.sheet_fields.specs.Answers.{read_as}
use Rattle.sheet_types.specs.HeldSheet.{opened_in, OpenedHeld, configuration, node_in, nodes_in}
use Rattle.sheet_types.specs.NodeTable.{Nodes, Opened}
use Rattle.node_opening.specs.OpenedNodes.{OpenedTable, Few}
use Rattle.start_reader.specs.declared.OpenedThreads.{OpenedThreads}
use Rattle.start_reader.specs.declared.ThreadsRead.{ThreadsRead}
use Rattle.start_reader.specs.declared.StartRead.{StartRead}
use Rattle.start_reader.specs.ThreadsFound.{Below, ThreadsFound}
use Rattle.start_reader.specs.OpenedThreads.{NodesIn, threads_of_first, ThreadsFit}

-- ---- the table's threads are those of the nodes
first_opened : (ns : List Node) (o : Opened) (ks : List ℕ) (n : ℕ) → OpenedHeld ns o → Below (length ns) ks n → n ≤ length ks
    → threads_of_first o ks n ≡ concat_map (opened ns) (take n ks)
unfolding threads_of_first
first_opened ns o ks zero held below l = refl
first_opened ns o ks (suc n) held below l =
    let k : ℕ = get_or ks n 0 in
    let one : take (suc n) ks ≡ take n ks ++ (k ∷ []) = take-suc ks n 0 (omega arith) in
    ap (concat_map (opened_in o)) one
    ∙ concat_map_next (opened_in o) (take n ks) k
    ∙ ap₂ (λ (xs ys : List ℕ). xs ++ ys)
    (first_opened ns o ks n held (record { at = λ j m. below.at j (omega arith) }) (omega arith))
    (held.at k (below.at n (omega arith)))
    ∙ sym (concat_map_next (opened ns) (take n ks) k)
    ∙ sym (ap (concat_map (opened ns)) one)

-- ---- what the reader of a start finds

-- so many nodes, and this is the table of what they open to
pub record TableOf (n : ℕ) (o : Opened) (ns : List Node) : Type 0 where
  pub long : length ns ≡ n
  pub table : OpenedTable ns o

-- the nodes of the table of nodes
pub table_of : (t : Nodes) (n : ℕ) {o : Opened} → OpenedTable (nodes_in t n) o → TableOf n o (nodes_in t n)
table_of t n held = record { long = tabulate_length (node_in t) n; table = held }

-- the reading that it stands for
abbrev pub start_read : Result StartRead Refused → Reading spec.Configuration
start_read = read_as (λ x. configuration x.start) (λ x. x.next)

-- the start of document 01, whatever the nodes are whose table it was read with
pub record StartFound (facts : ℕ) (rules : List Rule) (nodes : ℕ) (o : Opened) (s : List ℕ) (at : ℕ) (r : Result StartRead Refused) : Type 0 where
  pub reading : (ns : List Node) → TableOf nodes o ns → start_read r ≡ start_at facts rules ns s at
  pub held : IfOk r (λ x. (x.next ≤ length s) × (x.start.count ≤ max_threads))

module _ (facts : ℕ) (rules : List Rule) (nodes : ℕ) (o : Opened) (s : List ℕ) (at : ℕ) where
  pub start_refused : (e : Refused) → ((ns : List Node) → TableOf nodes o ns → start_at facts rules ns s at ≡ refused (number e.refusal) e.place)
      → StartFound facts rules nodes o s at (Err e)
  start_refused e h = record { reading = λ ns of. sym (h ns of); held = tt }

  module _ {c p n q : ℕ} (e : set_at facts s at ≡ got c p) (f : count_at 0 max_threads 12 s p ≡ got n q) where
    pub threads_refused : (d : Refused) → ThreadsFound n nodes s q (Err d)
        → (ns : List Node) → TableOf nodes o ns → start_at facts rules ns s at ≡ refused (number d.refusal) d.place
    threads_refused d found ns of =
        start_no_threads facts rules ns s at e f (ap (λ (k : ℕ). threads_from n k s q) of.long ∙ sym found.reading)

    module _ (read : ThreadsRead) (found : ThreadsFound n nodes s q (Ok read)) where
      -- nodes of the table
      pub table_nodes : Few o nodes → nodes ≤ max_nodes → NodesIn o.counts read.threads n
      table_nodes few small =
          let below = found.held.below in
          record {
            node = λ j l. omega (arith, below.at j l);
            few = λ j l. few.at (get_or read.threads j 0) (below.at j l);
          }

      module _ (ns : List Node) (of : TableOf nodes o ns) where
        all : sort_up (threads_of_first o read.threads n) ≡ opened_all ns (take n read.threads)
        all =
            let below : Below (length ns) read.threads n = rw of.long found.held.below in
            ap sort_up (first_opened ns o read.threads n of.table.holds below found.held.room)

        count : length (threads_of_first o read.threads n) ≡ length (opened_all ns (take n read.threads))
        count = sym (sort_up_length (threads_of_first o read.threads n)) ∙ ap length all

        were_read : threads_from n (length ns) s q ≡ got (take n read.threads) read.next
        were_read = ap (λ (k : ℕ). threads_from n k s q) of.long ∙ sym found.reading

      pub opened_many : max_threads < length (threads_of_first o read.threads n) → (ns : List Node) → TableOf nodes o ns
          → start_at facts rules ns s at ≡ refused 12 p
      opened_many h ns of = start_many facts rules ns s at e f (were_read ns of) (rw (sym (count ns of)) h)

      pub opened_few : (t : OpenedThreads) → ThreadsFit o read.threads n t → (store : ℕ) → store ≡ closure rules c
          → StartFound facts rules nodes o s at
          (Ok (record { start = record { store = store; count = t.count; threads = t.threads }; next = read.next }))
      opened_few t fit store closed =
          record {
            reading = λ ns of.
                ap₂ (λ (d : ℕ) (ts : List ℕ). got (record { store = d; threads = ts }) read.next) closed (fit.threads ∙ all ns of)
                ∙ sym (start_few facts rules ns s at e f (were_read ns of) (rw (sym (fit.count ∙ count ns of)) fit.few));
            held = (found.held.within, fit.few);
          }
