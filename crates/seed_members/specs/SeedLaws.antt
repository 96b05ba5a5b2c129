-- Seeds entered one after another.
use Rattle.std.specs.Prelude.{◌≡◌, refl, Bool, true, false, ℕ, zero, suc, ◌+◌, ◌-◌, ◌≤◌, ◌<◌, length, get_or, take, ltb, replicate}
use Rattle.std.proofs.Common.{sym, ap, ◌∙◌, subst, inr, ⊎_elim, arith, length-append, length-take, length-take-le, length-drop, ltb-true, ltb-false}
use Rattle.std.proofs.lemmas.List.{length-replicate, get_or-replicate, get_or_append_left, get_or-append_right}
use borrow.Rule.Slice.PartMut.{put_mid, mid_of, post_of, mid_len, take_put, drop_put}
use mathlib.Core.List.Memᴰ
use mathlib.Core.List.{List, [], ◌∷◌, ◌++◌, Memᴰ}
use Rattle.move_entry.specs.Lists.{no_elements}
use Rattle.work_layout.specs.Frames.{SameOutside, outside_same, outside_again, outside_of_ends}
use Rattle.collected_moves.specs.Tabulate.{tabulate_none, tabulate_next}
use Rattle.collected_moves.specs.TabulateLaws.{tabulate_mem, mem_tabulate}
use Rattle.sheet_types.specs.Sheet.{Configuration}
use Rattle.work_layout.specs.Refinement.{seed}
use Rattle.work_layout.specs.Promise.{PassesLimit}
use Rattle.sheet_types.specs.declared.Configuration as held
use Rattle.sheet_types.specs.HeldSheet.{configuration, no_configuration, starts_in}
use Rattle.collected_moves.specs.MemberTable.{member_in}
use Rattle.move_entry.specs.TableInPart.{part_none}
use Rattle.collected_moves.specs.declared.Caps.{Caps}
use Rattle.collected_moves.specs.declared.Running.{Running}
use Rattle.std.specs.Prelude.{Option, Some, None}
use Rattle.collected_moves.specs.CollectedMoves.{NoRoomFor, EnteredAs, member_part, members_of, moves_of}
use Rattle.collected_moves.specs.CollectedLaws.{collecting_empty, moves_of_none}
use Rattle.set_growth.specs.SetGrowth.{Growth, Sound, InSet, InHand, Gathered}
use Rattle.set_growth.specs.SetGrowthLaws.{threads_pass, no_room_for_passes, grown_members}
use Rattle.seed_members.specs.Seeds.{CapsFit, Cleared, SeedOn, SeedOver, SeedEntered, SeededOn, SeededOver, Seeded}
use Rattle.work_layout.specs.WorkLayout.{work_end, table_length, spans_at, moves_at, members_at}

-- ---- spans
-- their part filled with 0
pub spans_filled : (v ys : List ℕ) → work_end ≤ length v → ys ≡ replicate (length (mid_of spans_at (moves_at - spans_at) v)) 0
    → Cleared v (put_mid spans_at (moves_at - spans_at) v ys)
spans_filled v ys h f =
    let k : ℕ = moves_at - spans_at in
    let post : List ℕ = post_of spans_at k v in
    let e : ys ≡ replicate k 0 = f ∙ ap (λ (n : ℕ). replicate n 0) (mid_len spans_at moves_at v (omega arith)) in
    let l : length ys ≡ k = ap length e ∙ length-replicate {A = ℕ} k 0 in
    let a : length (take spans_at v) ≡ spans_at = length-take-le spans_at v (omega arith) in
    record {
      none = λ id j.
          let back : spans_at + id - spans_at ≡ id = omega arith in
          get_or-append_right (take spans_at v) (ys ++ post) spans_at (spans_at + id) 0 a (omega arith)
          ∙ ap (λ (i : ℕ). get_or (ys ++ post) i 0) back
          ∙ get_or_append_left ys post 0 id (omega arith)
          ∙ ap (λ (z : List ℕ). get_or z id 0) e
          ∙ get_or-replicate k id 0 0 (omega arith);
      outside =
          outside_of_ends spans_at moves_at v (put_mid spans_at k v ys)
          (simp (length-append, length-take, length-drop) (omega arith))
          (take_put spans_at k v ys (omega arith)) (drop_put spans_at moves_at v ys (omega arith) (omega arith) l);
    }

-- ---- the seeds in their array
-- what stands past the end makes no difference before it
get_d_any : {A : Type 0} (xs : List A) (i : ℕ) (d e : A) → i < length xs → get_or xs i d ≡ get_or xs i e
get_d_any [] i d e h = absurd (omega arith)
get_d_any (x ∷ xs) zero d e h = refl
get_d_any (x ∷ xs) (suc i) d e h = get_d_any xs i d e (omega arith)

-- a seed as it is read
abbrev pub seed_at : List held.Configuration → ℕ → held.Configuration
seed_at seeds i = get_or seeds i (record { store = 0; count = 0; threads = [] })

pub seed_at_lem : (seeds : List held.Configuration) (i : ℕ) → i < length seeds → seed_at seeds i ≡ get_or seeds i no_configuration
seed_at_lem seeds i h = get_d_any seeds i (record { store = 0; count = 0; threads = [] }) no_configuration h

pub starts_next : (seeds : List held.Configuration) (i : ℕ) → i < length seeds
    → starts_in seeds (i + 1) ≡ starts_in seeds i ++ (configuration (seed_at seeds i) ∷ [])
starts_next seeds i h =
    tabulate_next (λ j. configuration (get_or seeds j no_configuration)) i
    ∙ ap (λ (s : held.Configuration). starts_in seeds i ++ (configuration s ∷ [])) (sym (seed_at_lem seeds i h))

pub starts_among : (seeds : List held.Configuration) (i k : ℕ) → i < k → i < length seeds → (x : Configuration)
    → Memᴰ x (starts_in seeds i ++ (configuration (seed_at seeds i) ∷ [])) → Memᴰ x (starts_in seeds k)
starts_among seeds i k h l x m =
    let j = tabulate_mem (λ n. configuration (get_or seeds n no_configuration)) (i + 1) (subst (Memᴰ x) (sym (starts_next seeds i l)) m) in
    subst (λ (y : Configuration). Memᴰ y (starts_in seeds k)) (sym j.2)
    (mem_tabulate (λ n. configuration (get_or seeds n no_configuration)) k j.0 (omega (arith, j.1)))

-- ---- before the first seed
abbrev pub no_members : Running
no_members = record { members = 0; moves = 0; low = 0 }

none_entered : (v : List ℕ) (caps : Caps) → work_end ≤ length v → CapsFit caps → SeededOn v caps [] v no_members
none_entered v caps h k =
    record {
      collecting = collecting_empty v no_members caps h k (part_none v members_at (omega arith)) (omega arith) (omega arith);
      no_moves = refl;
      lowest = refl;
      only = λ x m. absurd (Memᴰ.not-nil (subst (Memᴰ x) (tabulate_none (member_in (member_part v))) m));
      all = λ x m. absurd (Memᴰ.not-nil m);
      few = λ x m. absurd (Memᴰ.not-nil m);
      inside = outside_same members_at (members_at + table_length) v;
    }

pub seeded_none : (v : List ℕ) (caps : Caps) (seeds : List held.Configuration) → work_end ≤ length v → CapsFit caps
    → SeededOn v caps (starts_in seeds 0) v no_members
seeded_none v caps seeds h k =
    subst (λ (ps : List Configuration). SeededOn v caps ps v no_members) (sym (tabulate_none (λ j. configuration (get_or seeds j no_configuration))))
    (none_entered v caps h k)

module _ {v : List ℕ} {caps : Caps} {ps : List Configuration} {w : List ℕ} {t : Running} (a : SeededOn v caps ps w t) (p : Configuration) where
  -- ---- one seed more
  pub seeded_next : {z : List ℕ} {u : Running} → SeedOn w t caps p z u → SeededOn v caps (ps ++ (p ∷ [])) z u
  seeded_next {z} {u} b =
      let e = b.entered in
      record {
        collecting = e.collecting;
        no_moves = e.same_moves.0 ∙ a.no_moves;
        lowest = go (ltb 0 u.low) refl;
        only = λ x m.
            ⊎_elim (λ (q : x ≡ p). Memᴰ.append_right ps (Memᴰ.head q))
            (λ (q : Memᴰ x (members_of w t)). Memᴰ.append_left (p ∷ []) (a.only x q)) (e.members_only x m);
        all = λ x m.
            ⊎_elim (λ (q : Memᴰ x ps). grown_members e.grown (a.all x q))
            (λ (q : Memᴰ x (p ∷ [])).
            subst (λ (y : Configuration). Memᴰ y (members_of z u)) (sym (Memᴰ.eq_of_singleton q)) e.entered)
            (Memᴰ.append_cases ps m);
        few = λ x m.
            ⊎_elim (λ (q : Memᴰ x ps). a.few x q)
            (λ (q : Memᴰ x (p ∷ [])).
            subst (λ (y : Configuration). length y.threads ≤ caps.threads) (sym (Memᴰ.eq_of_singleton q)) b.few)
            (Memᴰ.append_cases ps m);
        inside = outside_again a.inside e.inside;
      }
    where
      go : (c : Bool) → ltb 0 u.low ≡ c → u.low ≡ 0
      go true q = absurd (omega (arith, a.lowest, (b.entered.grown.low 0 (ltb-true 0 u.low q)).0))
      go false q = omega (arith, ltb-false 0 u.low q)

  -- ---- a seed too many
  module _ (g : Growth) (sound : Sound g caps) (among : (x : Configuration) → Memᴰ x (ps ++ (p ∷ [])) → Memᴰ x g.seeds) where
    seed_in : InSet g p
    seed_in = seed (among p (Memᴰ.append_right ps (Memᴰ.head refl)))

    seed_in_hand : InHand g
    seed_in_hand =
        record {
          member = p;
          in_set = seed_in;
          earlier = [];
          distinct = no_elements;
          moves_of_lem = λ x m. absurd (Memᴰ.not-nil m);
          others = λ x m. absurd (Memᴰ.not-nil m);
        }

    seeds_gathered : Gathered g seed_in_hand w 0 t
    unfolding seed_in_hand
    seeds_gathered =
        record {
          before = refl;
          members_in_lem = λ x m. seed (among x (Memᴰ.append_left (p ∷ []) (a.only x m)));
          moves_of_lem = λ k m.
              absurd (Memᴰ.not-nil (subst (Memᴰ k)
              (subst (λ (n : ℕ). moves_of w n t ≡ []) a.no_moves (moves_of_none w t)) m));
        }

    seed_passes : {z : List ℕ} → SeedOver w t caps p z → PassesLimit g.sheet g.limits g.seeds
    seed_passes {z} b =
        ⊎_elim (λ (q : (caps.threads < length p.threads) × (z ≡ w)). threads_pass sound seed_in q.0)
        (λ (q : NoRoomFor w t caps p z). no_room_for_passes sound a.collecting seeds_gathered seed_in q) b.large

  pub seeded_over : {z : List ℕ} (qs : List Configuration) → ((x : Configuration) → Memᴰ x (ps ++ (p ∷ [])) → Memᴰ x qs)
      → SeedOver w t caps p z → SeededOver v caps qs z
  seeded_over {z} qs among b =
      record {
        passes = λ g sound h. seed_passes g sound (λ x m. h x (among x m)) b;
        inside =
            ⊎_elim
            (λ (q : (caps.threads < length p.threads) × (z ≡ w)).
            subst (SameOutside members_at (members_at + table_length) v) (sym q.1) a.inside)
            (λ (q : NoRoomFor w t caps p z). outside_again a.inside q.inside) b.large;
      }

-- ---- one seed
-- entered, where it has no more threads than allowed
pub seed_entered : (v : List ℕ) (s : Running) (caps : Caps) (w : List ℕ) (r : Option Running) {p q : Configuration} → q ≡ p
    → length p.threads ≤ caps.threads → EnteredAs v 0 s caps q w r → SeedEntered v s caps p w r
seed_entered v s caps w r {p} e h k = go r (subst (λ (x : Configuration). EnteredAs v 0 s caps x w r) e k)
  where
    go : (r : Option Running) → EnteredAs v 0 s caps p w r → SeedEntered v s caps p w r
    go (Some t) a = record { entered = a; few = h }
    go None a = record { large = inr a }

-- ---- the answer taken apart
module _ (v : List ℕ) (caps : Caps) (ps : List Configuration) (w : List ℕ) (r : Option Running) where
  pub seeds_on : {t : Running} → r ≡ Some t → Seeded v caps ps w r → SeededOn v caps ps w t
  seeds_on e h = subst (Seeded v caps ps w) e h

  pub seeds_over : r ≡ None → Seeded v caps ps w r → SeededOver v caps ps w
  seeds_over e h = subst (Seeded v caps ps w) e h
