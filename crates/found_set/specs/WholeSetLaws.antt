-- A set whose members are all explored is whole: it has the seeds and all that its members bring, so it passes no limit, and it is
-- the explored list.
use Rattle.std.specs.Prelude.{◌≡◌, refl, ◌⊎◌, Bool, true, false, ℕ, ◌+◌, ◌%◌, ◌≤◌, ◌<◌, length, get_or}
use Rattle.std.proofs.Common.{sym, ap, subst, ⊎_elim, arith}
use mathlib.Core.List.{List, Memᴰ}
use Rattle.sheet_types.specs.AscendingLaws.{ascends_unique}
use Rattle.set_order.specs.Counting.{distinct_length}
use Rattle.set_order.specs.Members.{mem_map}
use Rattle.collected_moves.specs.Tabulate.{tabulate_length}
use Rattle.collected_moves.specs.TabulateLaws.{tabulate_mem, mem_tabulate}
use Rattle.sheet_types.specs.StoreLaws.{within_below}
use Rattle.sheet_types.specs.Sheet.{Configuration}
use Rattle.sheet_types.specs.Orders.{Move}
use Rattle.exploration.specs.OrderLaws.{configuration_order}
use Rattle.sheet_types.specs.Moves.{moves}
use Rattle.seed_members.specs.StableRounds.{member_least}
use Rattle.seed_members.specs.Set.{explored, fits}
use Rattle.seed_members.specs.SheetTransitions.{transitions}
use Rattle.seed_members.specs.Promise.{MemberMove, PassesLimit, many_members, many_threads_lem, many_moves}
use Rattle.seed_members.specs.SetLaws.{explored_member, explored_ascends, explored_complete, fits_not_over, fits_exactly}
use Rattle.collected_moves.specs.MemberTable.{member_in, ordered_in}
use Rattle.collected_moves.specs.MemberLaws.{ordered_member, member_ordered}
use Rattle.collected_moves.specs.declared.Running.{Running}
use Rattle.collected_moves.specs.CollectedMoves.{member_part, members_of, move_in_lem}
use Rattle.seed_members.specs.SetGrowth.{Growth, Sound, InSet}
use Rattle.seed_members.specs.SetLayout.{SetHeld}
use Rattle.set_order.specs.OrderedSet.{span_numbers, SpanFits, Discovered}
use Rattle.set_order.specs.OrderedSetLaws.{arranged_held}
use Rattle.set_order.specs.SetOrderSteps.{DiscoveredSome, ArrangedAll}
use Rattle.exploration.specs.declared.Plan.{Plan}
use Rattle.exploration.specs.UnexploredMembers.{IsExplored}
use Rattle.exploration.specs.Exploration.{Exploring, ExploredFor}
use Rattle.collected_moves.specs.WorkLayout.{spans_at}

module _ {plan : Plan} {w : List ℕ} {t : Running} (ex : Exploring w plan t) (all : (id : ℕ) → id < t.members → IsExplored w id) where
  has_span : (id : ℕ) → id < t.members → SpanFits w t.members t.moves id
  has_span id h =
      ⊎_elim (λ (q : get_or w (spans_at + id) 0 ≡ 0). absurd (omega (arith, q, all id h)))
      (λ (q : SpanFits w t.members t.moves id). q) (ex.spans id h)

  pub all_discovered : Discovered w t.members t.moves
  all_discovered =
      record {
        long = ex.collecting.long;
        few = omega (arith, ex.collecting.room.2, ex.collecting.caps.1);
        kept = ex.collecting.kept;
        spans = has_span;
        apart = λ i j h k n. ex.apart i j h k (all i h) (all j k) n;
      }

  pub discovered_some : DiscoveredSome w t.members
  discovered_some = record { total = t.moves; discovered = all_discovered }

  module _ (g : Growth) (sound : Sound g plan.caps) (e : ExploredFor g w t) where
    -- ---- the members are closed
    -- the target of a member's move is a member
    target_kept : (id : ℕ) → id < t.members → (m : Move) → Memᴰ m (moves g.sheet (member_in (member_part w) id))
        → Memᴰ m.target (members_of w t)
    target_kept id h m i =
        let y = mem_map (move_in_lem w) (span_numbers w id) (((e.done id h (all id h)).moves_are m).1 i) in
        subst (λ (p : Configuration). Memᴰ p (members_of w t)) (sym (ap (λ (k : Move). k.target) y.2))
        (mem_tabulate (member_in (member_part w)) t.members (y.0 % 65536) ((has_span id h).ids y.0 y.1))

    -- every member of the set is kept
    in_members : (p : Configuration) → InSet g p → Memᴰ p (members_of w t)
    in_members =
        member_least (transitions g.sheet) g.seeds (λ p. Memᴰ p (members_of w t)) e.seeds_in
        (λ p u a i k.
        let x = tabulate_mem (member_in (member_part w)) t.members i in
        let m : Move = record { label = a; target = u } in
        target_kept x.0 x.1 m (subst (λ (c : Configuration). Memᴰ m (moves g.sheet c)) x.2 k))
        (λ p u z a b i k j s.
        let x = tabulate_mem (member_in (member_part w)) t.members i in
        let d = e.done x.0 x.1 (all x.0 x.1) in
        let ka : Move = record { label = a; target = u } in
        let kb : Move = record { label = b; target = z } in
        d.additions ka kb
        ((d.moves_are ka).1 (subst (λ (c : Configuration). Memᴰ ka (moves g.sheet c)) x.2 k))
        ((d.moves_are kb).1 (subst (λ (c : Configuration). Memᴰ kb (moves g.sheet c)) x.2 j))
        (within_below s.0 s.1))

    -- ---- no limit is passed
    no_limit : PassesLimit g.sheet g.limits g.seeds → ⊥
    no_limit (many_members x) =
        let l : length x.elements ≤ length (members_of w t) =
        distinct_length x.elements (members_of w t) x.distinct (λ p m. in_members p (x.all p m)) in
        omega (arith, l, x.more, tabulate_length (member_in (member_part w)) t.members, ex.collecting.room.0, sound.limits.0)
    no_limit (many_threads_lem p m h) =
        omega (arith, h, (ex.fit p (in_members p m)).threads.few, sound.limits.1)
    no_limit (many_moves x) =
        let l : length x.elements ≤ length e.counted.all =
        distinct_length x.elements e.counted.all x.distinct (λ y m. counted_all y (x.all y m).0 (x.all y m).1) in
        omega (arith, l, x.more, e.counted.count, ex.collecting.room.2, sound.limits.2)
      where
        counted_all : (y : MemberMove) → InSet g y.member → Memᴰ y.move (moves g.sheet y.member) → Memᴰ y e.counted.all
        counted_all y m i =
            let x = tabulate_mem (member_in (member_part w)) t.members (in_members y.member m) in
            subst (λ (c : Configuration). Memᴰ (record { member = c; move = y.move }) e.counted.all) (sym x.2)
            (e.counted.whole x.0 y.move x.1 (all x.0 x.1)
            (subst (λ (c : Configuration). Memᴰ y.move (moves g.sheet c)) x.2 i))

    pub set_fits : fits g.sheet g.limits (explored g.sheet g.limits g.seeds) ≡ true
    set_fits = go (fits g.sheet g.limits (explored g.sheet g.limits g.seeds)) refl
      where
        go : (b : Bool) → fits g.sheet g.limits (explored g.sheet g.limits g.seeds) ≡ b → b ≡ true
        go true q = refl
        go false q = absurd (no_limit ((fits_exactly g.sheet g.limits g.seeds).0 q))

    -- ---- the members in order are the explored list
    set_is : explored g.sheet g.limits g.seeds ≡ ordered_in (member_part w) t.members
    set_is =
        let k = ex.collecting.kept in
        ascends_unique configuration_order (explored g.sheet g.limits g.seeds) (ordered_in (member_part w) t.members)
        (explored_ascends g.sheet g.limits g.seeds) k.ascends
        (λ p m. member_ordered (member_part w) t.members k (in_members p (explored_member g.sheet g.limits g.seeds p m)))
        (λ p m.
        explored_complete g.sheet g.limits g.seeds (fits_not_over g.sheet g.limits g.seeds set_fits) p
        (e.members_in_lem p (ordered_member (member_part w) t.members k m)))

    -- put into order, the set is held
    pub set_held : (z : List ℕ) → ArrangedAll w t.members z
        → SetHeld g.sheet (explored g.sheet g.limits g.seeds) z t.members t.moves
    set_held z a =
        arranged_held all_discovered (a.arranged t.moves all_discovered) g.sheet (explored g.sheet g.limits g.seeds) set_is
        (λ id h k. (e.done id h (all id h)).moves_are k)
