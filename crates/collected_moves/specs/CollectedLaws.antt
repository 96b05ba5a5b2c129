-- What holds of members and moves that are collected: a move is told from its number, and what was collected stays collected as
-- it grows. What stores elsewhere leave alone is in CollectedFrames.
use Rattle.std.specs.Prelude.{◌≡◌, refl, ℕ, ◌+◌, ◌*◌, ◌/◌, ◌%◌, ◌≤◌, ◌<◌, length, get_or}
use Rattle.std.proofs.Common.{sym, ap, ◌∙◌, subst, arith}
use mathlib.Core.List.Memᴰ
use mathlib.Core.List.{List, [], map, Memᴰ}
use Rattle.member_table.specs.Members.{mem_map, map_mem}
use Rattle.member_table.specs.Tabulate.{tabulate_same, tabulate_at}
use Rattle.member_table.specs.Frames.{outside_same, outside_again}
use Rattle.member_table.specs.Sheet.{Configuration}
use Rattle.member_table.specs.Orders.{Move}
use Rattle.member_table.specs.NumberLaws.{numbers_none, numbers_none_ascend}
use Rattle.member_table.specs.MemberTable.{member_in, members_in, Kept}
use Rattle.member_table.specs.MemberLaws.{member_id}
use Rattle.collected_moves.specs.declared.Caps.{Caps}
use Rattle.collected_moves.specs.declared.Running.{Running}
use Rattle.collected_moves.specs.CollectedMoves.{member_part, move_in_lem, moves_of, Collecting, Grown}
use Rattle.member_table.specs.WorkLayout.{work_end, moves_at, member_room, move_room}
use Rattle.member_table.specs.SheetLimits.{max_threads}

-- ---- a move by its number
-- a move from its two parts
abbrev pub move_of : ℕ → Configuration → Move
move_of a p = record { label = a; target = p }

-- a label and an id in one number come out of it again
pub number_label : (label id : ℕ) → id < 65536 → (label * 65536 + id) / 65536 ≡ label
number_label label id h = omega arith

pub number_id : (label id : ℕ) → id < 65536 → (label * 65536 + id) % 65536 ≡ id
number_id label id h = omega arith

-- slices with the same members have the same member with each id
pub member_same : (v w : List ℕ) (n : ℕ) → members_in w n ≡ members_in v n → (i : ℕ) → i < n → member_in w i ≡ member_in v i
member_same v w n e i h =
    let none : Configuration = record { store = 0; threads = [] } in
    sym (tabulate_at (member_in w) n i none h) ∙ ap (λ (l : List Configuration). get_or l i none) e ∙ tabulate_at (member_in v) n i none h

-- and the first of them are the same
pub members_fewer : (v w : List ℕ) (m n : ℕ) → m ≤ n → members_in w n ≡ members_in v n → members_in w m ≡ members_in v m
members_fewer v w m n h e = tabulate_same (member_in w) (member_in v) m (λ i l. member_same v w n e i (omega arith))

-- a number whose id is one of theirs stands for the same move
pub move_same : (v w : List ℕ) (n : ℕ) → members_in (member_part w) n ≡ members_in (member_part v) n → (y : ℕ) → y % 65536 < n
    → move_in_lem w y ≡ move_in_lem v y
move_same v w n e y h = ap (move_of (y / 65536)) (member_same (member_part v) (member_part w) n e (y % 65536) h)

-- and numbers with such ids for the same moves
pub moves_carried : (v w : List ℕ) (n : ℕ) (ys : List ℕ) → members_in (member_part w) n ≡ members_in (member_part v) n
    → ((y : ℕ) → Memᴰ y ys → y % 65536 < n) → (k : Move) → Memᴰ k (map (move_in_lem v) ys) → Memᴰ k (map (move_in_lem w) ys)
moves_carried v w n ys e h k m =
    let y = mem_map (move_in_lem v) ys m in
    subst (λ (x : Move). Memᴰ x (map (move_in_lem w) ys)) (move_same v w n e y.0 (h y.0 y.1) ∙ sym y.2)
    (map_mem (move_in_lem w) y.1)

-- two numbers with the ids of members that stand for one move are equal
pub numbers_apart : (w : List ℕ) (n : ℕ) → Kept (member_part w) n → (x y : ℕ) → x % 65536 < n → y % 65536 < n → move_in_lem w x ≡ move_in_lem w y
    → x ≡ y
numbers_apart w n k x y h l e =
    let a : x / 65536 ≡ y / 65536 = ap (λ (m : Move). m.label) e in
    let b : x % 65536 ≡ y % 65536 = member_id (member_part w) n k (x % 65536) (y % 65536) h l (ap (λ (m : Move). m.target) e) in
    omega arith

-- ---- growing
pub grown_refl : (v : List ℕ) (first : ℕ) (s : Running) → Grown v first s v s
grown_refl v first s =
    record {
      members_same = refl;
      members_grow = omega arith;
      moves_keep = λ k m. m;
      low = λ j h. (h, refl);
      outside = outside_same (moves_at + first) work_end v;
    }

pub grown_trans : (u v w : List ℕ) (first : ℕ) (r s t : Running) → Grown u first r v s → Grown v first s w t → Grown u first r w t
grown_trans u v w first r s t g h =
    record {
      members_same =
          members_fewer (member_part v) (member_part w) r.members s.members g.members_grow h.members_same ∙ g.members_same;
      members_grow = omega (arith, g.members_grow, h.members_grow);
      moves_keep = λ k m. h.moves_keep k (g.moves_keep k m);
      low = λ j l. let a = h.low j l in let b = g.low j a.0 in (b.0, a.1 ∙ b.1);
      outside = outside_again g.outside h.outside;
    }

-- ---- nothing in hand
pub collecting_empty : (w : List ℕ) (s : Running) (l : Caps) → work_end ≤ length w
    → (l.members ≤ member_room) × (l.moves ≤ move_room) × (l.threads ≤ max_threads) → Kept (member_part w) s.members
    → s.members ≤ l.members → s.moves ≤ l.moves → Collecting w s.moves s l
collecting_empty w s l long caps kept p q =
    record {
      long = long;
      caps = caps;
      kept = kept;
      room = (p, omega arith, q);
      ascending = numbers_none_ascend w (moves_at + s.moves);
      ids = λ y m. absurd (Memᴰ.not-nil (subst (Memᴰ y) (numbers_none w (moves_at + s.moves)) m));
    }

-- and there is no move
pub moves_of_none : (w : List ℕ) (s : Running) → moves_of w s.moves s ≡ []
moves_of_none w s = ap (map (move_in_lem w)) (numbers_none w (moves_at + s.moves))
