-- A sheet moves as it does without its standing facts, with those facts in every store and label.
use Rattle.std.specs.Prelude.{◌≡◌, length, ltb}
use Rattle.std.proofs.Math.Path.{refl, ap, ap₂}
use Rattle.std.proofs.Common.{sym, ◌∙◌, subst, ⊎_elim, arith, ltb-true, ltb-false}
use mathlib.Core.List.Memᴰ
use mathlib.Core.List.{List, [], ◌∷◌, ◌++◌, map, map-append, Memᴰ}
use Prim.Native.Nat.{ℕ, zero, suc, ◌<◌}
use Rattle.std.proofs.lemmas.List.{length-map}
use Rattle.std.proofs.Math.ListN.{get_or-map, get_or-eq_default}
use Rattle.comparison_laws.specs.Lists.{arrange, sort_up}
use Rattle.comparison_laws.specs.TestLaws.{Tested, passes, fails, tested}
use Rattle.comparison_laws.specs.Members.{mem_map}
use Rattle.comparison_laws.specs.AscendingLaws.{arrange_only}
use Rattle.comparison_laws.specs.ImageLaws.{map_image, arrange_image}
use Rattle.comparison_laws.specs.FactSets.{Within}
use Rattle.comparison_laws.specs.Stores.{join, least_store}
use Rattle.sheet_encoder.specs.FactsOutside.{outside}
use Rattle.comparison_laws.specs.StoreLaws.{least_within}
use Rattle.comparison_laws.specs.Sheet.{Node, stop, tell, ask, both, either, Configuration, Sheet, node_of, opening_of, open_within, opened}
use Rattle.comparison_laws.specs.WellFormed.{NodeFits, WellFormed}
use Rattle.comparison_laws.specs.Orders.{Move, move_before}
use Rattle.comparison_laws.specs.Moves.{labels, Step, beside, steps_of, steps_within, steps, move_of, moves_from, moves}
use Rattle.comparison_laws.specs.OrderLaws.{move_order}
use Rattle.comparison_laws.specs.SheetMoves.{conclusions_fit}
use Rattle.standing_laws.specs.StandingFacts.{node_without, sheet_without, raised, raised_configuration, raised_move}
use Rattle.standing_laws.proofs.RaisedSets.{Free, free_empty, free_outside, free_join, raised_outside, below_raised, join_raised, least_without, least_raised}
use Rattle.standing_laws.proofs.RaisedLabels.{free_labels, labels_raised}
use Rattle.standing_laws.proofs.RaisedLists.{move_before_raised}
use Rattle.standing_laws.proofs.RaisedSheets.{RaisedBy}

-- a step of a node with z in its label and its store
abbrev raised_node_step : ℕ → Step → Step
raised_node_step z m = record { label = raised z m.label; store = raised z m.store; threads = m.threads }

-- ---- nodes open as they do
module _ (z : ℕ) (nodes : List Node) where
  pub node_without_lem : (k : ℕ) → node_of (map (node_without z) nodes) k ≡ node_without z (node_of nodes k)
  node_without_lem k = get_or-map (node_without z) nodes k stop

  open_without : (n k : ℕ) → open_within n (map (node_without z) nodes) k ≡ open_within n nodes k
  unfolding open_within
  open_without zero k = refl
  open_without (suc n) k = rw (node_without_lem k) (go (open_without n) (node_of nodes k))
    where
      go : ((j : ℕ) → open_within n (map (node_without z) nodes) j ≡ open_within n nodes j) → (node : Node)
          → opening_of (open_within n (map (node_without z) nodes)) k (node_without z node)
          ≡ opening_of (open_within n nodes) k node
      go ih stop = refl
      go ih (tell c) = refl
      go ih (ask c q) = refl
      go ih (both p q) = ap₂ ◌++◌ (ih p) (ih q)
      go ih (either p q) = refl

  pub opened_without : (k : ℕ) → opened (map (node_without z) nodes) k ≡ opened nodes k
  opened_without k = ap (λ (n : ℕ). open_within n (map (node_without z) nodes) k) (length-map nodes (node_without z)) ∙ open_without (length nodes) k

module _ (sheet : Sheet) (wf : WellFormed sheet) where
  -- the facts that always stand
  abbrev z : ℕ
  z = least_store sheet.rules

  -- the sheet without them
  abbrev lower : Sheet
  lower = sheet_without z sheet

  -- a node's set includes them
  abbrev SetHas : Node → Type 0
  SetHas stop = Unit {0}
  SetHas (tell c) = Within z c
  SetHas (ask c q) = Within z c
  SetHas (both p q) = Unit {0}
  SetHas (either p q) = Unit {0}

  fits_has : (n k : ℕ) (node : Node) → NodeFits sheet.facts sheet.rules n k node → SetHas node
  fits_has n k stop h = tt
  fits_has n k (tell c) h = least_within sheet.rules c h.closed
  fits_has n k (ask c q) h = least_within sheet.rules c h.0.closed
  fits_has n k (both p q) h = tt
  fits_has n k (either p q) h = tt

  node_has : (k : ℕ) → SetHas (node_of sheet.nodes k)
  node_has k = go (tested (ltb k (length sheet.nodes)))
    where
      go : Tested (ltb k (length sheet.nodes)) → SetHas (node_of sheet.nodes k)
      go (passes t) = fits_has (length sheet.nodes) k (node_of sheet.nodes k) (wf.nodes_fit k (ltb-true k (length sheet.nodes) t))
      go (fails t) = rw (get_or-eq_default sheet.nodes stop {n = k} (ltb-false k (length sheet.nodes) t)) tt

  -- ---- the steps of a node
  module _ (d : ℕ) (f : Free z d) where
    node_steps_raised : (n : ℕ)
        → ((k : ℕ) → steps_within n sheet (raised z d) k ≡ map (raised_node_step z) (steps_within n lower d k)) → (node : Node) → SetHas node
        → steps_of sheet (raised z d) (steps_within n sheet (raised z d)) node
        ≡ map (raised_node_step z) (steps_of lower d (steps_within n lower d) (node_without z node))
    node_steps_raised n ih stop h = refl
    node_steps_raised n ih (tell c) h =
        ap₂ (λ (a s : ℕ). told a s) (sym (least_raised sheet.rules))
        (ap (join sheet.rules (raised z d)) (sym (raised_outside z c h)) ∙ join_raised z sheet.rules d (outside z c) f (free_outside z c))
      where
        told : ℕ → ℕ → List Step
        told a s = record { label = a; store = s; threads = [] } ∷ []
    node_steps_raised n ih (ask c q) h =
        ap (map asked) (ap (labels sheet (raised z d)) (sym (raised_outside z c h))
        ∙ labels_raised sheet (conclusions_fit sheet wf) d (outside z c) f (free_outside z c))
        ∙ map_image (raised z) asked (λ a. record { label = a; store = join lower.rules d a; threads = opened lower.nodes q }) (raised_node_step z)
        (labels lower d (outside z c))
        (λ a m. ap₂ (λ (s : ℕ) (ts : List ℕ). record { label = raised z a; store = s; threads = ts })
        (join_raised z sheet.rules d a f (free_labels sheet z d (outside z c) f (free_outside z c) m)) (sym (opened_without z sheet.nodes q)))
      where
        asked : ℕ → Step
        asked a = record { label = a; store = join sheet.rules (raised z d) a; threads = opened sheet.nodes q }
    node_steps_raised n ih (both p q) h =
        ap₂ ◌++◌ (part p q) (part q p)
        ∙ sym (map-append (raised_node_step z) (map (beside (opened lower.nodes q)) (steps_within n lower d p))
        (map (beside (opened lower.nodes p)) (steps_within n lower d q)))
      where
        part : (p q : ℕ) → map (beside (opened sheet.nodes q)) (steps_within n sheet (raised z d) p)
            ≡ map (raised_node_step z) (map (beside (opened lower.nodes q)) (steps_within n lower d p))
        part p q =
            ap₂ (λ (ts : List ℕ) (l : List Step). map (beside ts) l) (sym (opened_without z sheet.nodes q)) (ih p)
            ∙ map_image (raised_node_step z) (beside (opened lower.nodes q)) (beside (opened lower.nodes q)) (raised_node_step z) (steps_within n lower d p)
            (λ a m. refl)
    node_steps_raised n ih (either p q) h =
        ap₂ ◌++◌ (ih p) (ih q) ∙ sym (map-append (raised_node_step z) (steps_within n lower d p) (steps_within n lower d q))

    steps_raised : (n k : ℕ) → steps_within n sheet (raised z d) k ≡ map (raised_node_step z) (steps_within n lower d k)
    unfolding steps_within
    steps_raised zero k = refl
    steps_raised (suc n) k =
        node_steps_raised n (steps_raised n) (node_of sheet.nodes k) (node_has k)
        ∙ ap (λ (node : Node). map (raised_node_step z) (steps_of lower d (steps_within n lower d) node)) (sym (node_without_lem z sheet.nodes k))

    -- ---- and their labels and stores have none of z
    abbrev StepFree : Step → Type 0
    StepFree m = Free z m.label × Free z m.store

    node_steps_free : (n : ℕ) → ((k : ℕ) (m : Step) → Memᴰ m (steps_within n lower d k) → StepFree m) → (node : Node) (m : Step)
        → Memᴰ m (steps_of lower d (steps_within n lower d) (node_without z node)) → StepFree m
    node_steps_free n ih stop m h = absurd (Memᴰ.not-nil h)
    node_steps_free n ih (tell c) m h =
        subst StepFree (sym (Memᴰ.eq_of_singleton h))
        (subst (Free z) (sym (least_without sheet.rules)) (free_empty z), free_join z sheet.rules d (outside z c) f (free_outside z c))
    node_steps_free n ih (ask c q) m h =
        let y = mem_map (λ (a : ℕ). record { label = a; store = join lower.rules d a; threads = opened lower.nodes q })
        (labels lower d (outside z c)) h in
        let g : Free z y.0 = free_labels sheet z d (outside z c) f (free_outside z c) y.1 in
        subst StepFree (sym y.2) (g, free_join z sheet.rules d y.0 f g)
    node_steps_free n ih (both p q) m h =
        ⊎_elim (part p q) (part q p) (Memᴰ.append_cases (map (beside (opened lower.nodes q)) (steps_within n lower d p)) h)
      where
        part : (p q : ℕ) → Memᴰ m (map (beside (opened lower.nodes q)) (steps_within n lower d p)) → StepFree m
        part p q i =
            let y = mem_map (beside (opened lower.nodes q)) (steps_within n lower d p) i in
            subst StepFree (sym y.2) (ih p y.0 y.1)
    node_steps_free n ih (either p q) m h =
        ⊎_elim (λ (i : Memᴰ m (steps_within n lower d p)). ih p m i) (λ (i : Memᴰ m (steps_within n lower d q)). ih q m i)
        (Memᴰ.append_cases (steps_within n lower d p) h)

    steps_free : (n k : ℕ) (m : Step) → Memᴰ m (steps_within n lower d k) → StepFree m
    unfolding steps_within
    steps_free zero k m h = absurd (Memᴰ.not-nil h)
    steps_free (suc n) k m h =
        node_steps_free n (steps_free n) (node_of sheet.nodes k) m
        (subst (λ (node : Node). Memᴰ m (steps_of lower d (steps_within n lower d) node)) (node_without_lem z sheet.nodes k) h)

    -- ---- the moves of several threads
    moves_from_raised : (passed ts : List ℕ) → moves_from sheet (raised z d) passed ts ≡ map (raised_move z) (moves_from lower d passed ts)
    moves_from_raised passed [] = refl
    moves_from_raised passed (t ∷ ts) =
        ap₂ ◌++◌ (ap (map (move_of (passed ++ ts))) steps_same
        ∙ map_image (raised_node_step z) (move_of (passed ++ ts)) (move_of (passed ++ ts)) (raised_move z) (steps lower d t) (λ a m. refl))
        (moves_from_raised (passed ++ (t ∷ [])) ts)
        ∙ sym (map-append (raised_move z) (map (move_of (passed ++ ts)) (steps lower d t)) (moves_from lower d (passed ++ (t ∷ [])) ts))
      where
        steps_same : steps sheet (raised z d) t ≡ map (raised_node_step z) (steps lower d t)
        steps_same =
            steps_raised (length sheet.nodes) t
            ∙ ap (λ (n : ℕ). map (raised_node_step z) (steps_within n lower d t)) (sym (length-map sheet.nodes (node_without z)))

    moves_from_free : (passed ts : List ℕ) (m : Move) → Memᴰ m (moves_from lower d passed ts) → Free z m.label × Free z m.target.store
    moves_from_free passed [] m h = absurd (Memᴰ.not-nil h)
    moves_from_free passed (t ∷ ts) m h =
        ⊎_elim
        (λ (i : Memᴰ m (map (move_of (passed ++ ts)) (steps lower d t))).
        let y = mem_map (move_of (passed ++ ts)) (steps lower d t) i in
        subst (λ (k : Move). Free z k.label × Free z k.target.store) (sym y.2) (steps_free (length lower.nodes) t y.0 y.1))
        (λ (i : Memᴰ m (moves_from lower d (passed ++ (t ∷ [])) ts)). moves_from_free (passed ++ (t ∷ [])) ts m i)
        (Memᴰ.append_cases (map (move_of (passed ++ ts)) (steps lower d t)) h)

  -- ---- the moves of a configuration, and adding
  configuration_moves_raised : (p : Configuration) → Free z p.store → moves sheet (raised_configuration z p) ≡ map (raised_move z) (moves lower p)
  unfolding moves
  configuration_moves_raised p f =
      ap (arrange move_before) (moves_from_raised p.store f [] p.threads)
      ∙ arrange_image (raised_move z) move_before move_before (move_before_raised z) (moves_from lower p.store [] p.threads)

  configuration_moves_free : (p : Configuration) → Free z p.store → (m : Move) → Memᴰ m (moves lower p)
      → Free z m.label × Free z m.target.store
  unfolding moves
  configuration_moves_free p f m h = moves_from_free p.store f [] p.threads m (arrange_only move_order (moves_from lower p.store [] p.threads) h)

  -- a well-formed sheet moves as it does without its standing facts, with those in every store and label
  pub standing_raised : RaisedBy z (Free z) lower sheet
  standing_raised =
      record {
        moves_raised = configuration_moves_raised;
        moves_in = configuration_moves_free;
        add_raised = λ a p f g. ap (λ (s : ℕ). record { store = s; threads = p.threads }) (join_raised z sheet.rules a p.store f g);
        add_in = λ a p f g. free_join z sheet.rules a p.store f g;
        below_raised = below_raised z;
      }
