-- What the work slice has to be like for its members, moves, kept moves and classes to be read, and what is left alone by code
-- that stores kept moves and lines.
use Rattle.std.specs.Prelude.{◌≡◌, refl, ◌⊎◌, List, ℕ, ◌+◌, ◌*◌, ◌/◌, ◌%◌, ◌≤◌, ◌<◌, length, get_or}
use Rattle.std.proofs.Common.{sym, ap, ◌∙◌, inl, inr, arith}
use Rattle.packing.specs.Tabulate.{tabulate_same}
use Rattle.packing.specs.Sheet.{Configuration, Sheet}
use Rattle.work_layout.specs.SetLayout.{first_move, move_total, SetHeld}
use Rattle.kept_classes.specs.RoundLayout.{SameSet, held_same, held_member_same, held_first_same, held_total_same, number_in, held_count_lem}
use Rattle.dominance_tests.specs.KeptNumbers.{KeptFits}
use Rattle.dominators.specs.KeptMoves.{DominatorsKept, RoundHeld, MemberHeld}
use Rattle.work_layout.specs.WorkLayout.{work_end, spans_at, moves_at, dominators_at, line_totals_at, classes_at, lines_at, member_room, move_room}
use Rattle.work_layout.specs.ClassLayout.{class_in, classes_in}

-- the number that is kept for the move at place j, and the place of its target
abbrev pub kept_at : List ℕ → ℕ → ℕ → ℕ
kept_at w first j = get_or w (dominators_at + first + j) 0

abbrev pub target_at : List ℕ → ℕ → ℕ → ℕ
target_at w first j = get_or w (moves_at + first + j) 0 % 65536

-- the move at place j was judged in the present classes: no move dominates it, or the kept one does
abbrev pub Stands : List ℕ → ℕ → ℕ → Type 0
Stands w first j =
    (kept_at w first j ≡ j * 65536 + 65535)
    ⊎ ((kept_at w first j % 65536 ≡ 65535 → ⊥) × (class_in w (kept_at w first j % 65536) ≡ class_in w (target_at w first j)))

-- it stands so where neither it nor the classes change
pub stands_same : (v w : List ℕ) (first j : ℕ) → kept_at w first j ≡ kept_at v first j → target_at w first j ≡ target_at v first j
    → ((i : ℕ) → i ≤ member_room → class_in w i ≡ class_in v i) → target_at v first j ≤ member_room → KeptFits (kept_at v first j) → Stands v first j
    → Stands w first j
stands_same v w first j ek et c lt lk (inl x) = inl (ek ∙ x)
stands_same v w first j ek et c lt lk (inr x) =
    let q : kept_at w first j % 65536 ≡ kept_at v first j % 65536 = ap (λ (z : ℕ). z % 65536) ek in
    inr (
      (λ z. x.0 (omega arith)),
      ap (class_in w) q ∙ c (kept_at v first j % 65536) (lk x.0) ∙ x.1 ∙ sym (ap (class_in w) et ∙ c (target_at v first j) lt),
    )

-- what reading the `total` moves from `first` on needs
pub record SpanFits (w : List ℕ) (n first total : ℕ) : Type 0 where
  pub long : work_end ≤ length w
  pub few : n ≤ member_room
  pub span : first + total ≤ move_room
  pub targets : (j : ℕ) → j < total → get_or w (moves_at + first + j) 0 % 65536 < n
  pub kept : (j : ℕ) → j < total → KeptFits (get_or w (dominators_at + first + j) 0)
  pub classes : (i : ℕ) → i < n → class_in w i < 65536

-- that of each of n members
pub record Shape (w : List ℕ) (n : ℕ) : Type 0 where
  pub long : work_end ≤ length w
  pub few : n ≤ member_room
  pub spans : (i : ℕ) → i < n → SpanFits w n (first_move w i) (move_total w i)

-- a set in the slice has this shape
pub held_shape : (sheet : Sheet) (set : List Configuration) (w : List ℕ) (n m : ℕ) (numbers : List ℕ) → SetHeld sheet set w n m
    → ((i : ℕ) → i < n → class_in w i < 65536) → DominatorsKept sheet set w n numbers → Shape w n
held_shape sheet set w n m numbers H f D = record {
  long = H.long;
  few = H.few.0;
  spans = λ i l. record {
    long = H.long;
    few = H.few.0;
    span = omega (arith, H.spans i l, H.few.1);
    targets = λ j h. H.targets i (get_or w (moves_at + first_move w i + j) 0) l (number_in sheet set w n m H i j l h);
    kept = λ j h d. omega (arith, ((D.at i j l h).shown d).1.inside, held_count_lem sheet set w n m H, H.few.0);
    classes = f;
  };
}

-- fewer moves
pub span_shorter : {w : List ℕ} {n first total : ℕ} → SpanFits w n first total → (less : ℕ) → less ≤ total → SpanFits w n first less
span_shorter S less h = record {
  long = S.long;
  few = S.few;
  span = omega (arith, S.span);
  targets = λ j l. S.targets j (omega arith);
  kept = λ j l. S.kept j (omega arith);
  classes = S.classes;
}

-- ---- what is left alone
-- nothing but kept moves and lines from `first` on, `total` of each, differs
pub record SpanOnly (first total : ℕ) (v w : List ℕ) : Type 0 where
  pub long : length w ≡ length v
  pub low : (k : ℕ) → k < dominators_at + first → get_or w k 0 ≡ get_or v k 0
  pub between : (k : ℕ) → dominators_at + first + total ≤ k → k < lines_at + first → get_or w k 0 ≡ get_or v k 0
  pub high : (k : ℕ) → lines_at + first + total ≤ k → get_or w k 0 ≡ get_or v k 0

pub only_none : (first total : ℕ) (v : List ℕ) → SpanOnly first total v v
only_none first total v = record { long = refl; low = λ k h. refl; between = λ k h l. refl; high = λ k h. refl }

pub only_then : {first total : ℕ} {u v w : List ℕ} → SpanOnly first total u v → SpanOnly first total v w → SpanOnly first total u w
only_then p q = record {
  long = q.long ∙ p.long;
  low = λ k h. q.low k h ∙ p.low k h;
  between = λ k h l. q.between k h l ∙ p.between k h l;
  high = λ k h. q.high k h ∙ p.high k h;
}

-- and the number of lines of the member at place i
pub record MemberOnly (i first total : ℕ) (v w : List ℕ) : Type 0 where
  pub long : length w ≡ length v
  pub low : (k : ℕ) → k < dominators_at + first → get_or w k 0 ≡ get_or v k 0
  pub between : (k : ℕ) → (k ≡ line_totals_at + i → ⊥) → dominators_at + first + total ≤ k → k < lines_at + first → get_or w k 0 ≡ get_or v k 0
  pub high : (k : ℕ) → lines_at + first + total ≤ k → get_or w k 0 ≡ get_or v k 0

-- nothing but kept moves, lines and numbers of lines differs
pub record LinedOnly (v w : List ℕ) : Type 0 where
  pub long : length w ≡ length v
  pub at_set : (k : ℕ) → spans_at ≤ k → k < line_totals_at → get_or w k 0 ≡ get_or v k 0
  pub at_classes : (k : ℕ) → classes_at ≤ k → k < lines_at → get_or w k 0 ≡ get_or v k 0
  pub at_end : (k : ℕ) → work_end ≤ k → get_or w k 0 ≡ get_or v k 0

pub lined_none : (v : List ℕ) → LinedOnly v v
lined_none v = record { long = refl; at_set = λ k h l. refl; at_classes = λ k h l. refl; at_end = λ k h. refl }

pub lined_then : {u v w : List ℕ} → LinedOnly u v → LinedOnly v w → LinedOnly u w
lined_then p q = record {
  long = q.long ∙ p.long;
  at_set = λ k h l. q.at_set k h l ∙ p.at_set k h l;
  at_classes = λ k h l. q.at_classes k h l ∙ p.at_classes k h l;
  at_end = λ k h. q.at_end k h ∙ p.at_end k h;
}

pub span_lined : {first total : ℕ} {v w : List ℕ} → first + total ≤ move_room → SpanOnly first total v w → LinedOnly v w
span_lined h p = record {
  long = p.long;
  at_set = λ k a b. p.between k (omega arith) (omega arith);
  at_classes = λ k a b. p.between k (omega arith) (omega arith);
  at_end = λ k a. p.high k (omega arith);
}

pub member_lined : {i first total : ℕ} {v w : List ℕ} → i < member_room → first + total ≤ move_room → MemberOnly i first total v w → LinedOnly v w
member_lined l h p = record {
  long = p.long;
  at_set = λ k a b. p.between k (λ e. omega arith) (omega arith) (omega arith);
  at_classes = λ k a b. p.between k (λ e. omega arith) (omega arith) (omega arith);
  at_end = λ k a. p.high k (omega arith);
}

-- ---- so a set and its classes stand as they did
module _ {v w : List ℕ} (o : LinedOnly v w) where
  pub lined_set : SameSet v w
  lined_set = record {
    long = o.long;
    at_moves = λ i h k. o.at_set i h (omega arith);
    at_members = λ i h k. o.at_set i (omega arith) (omega arith);
  }

  pub lined_class : (i : ℕ) → i ≤ member_room → class_in w i ≡ class_in v i
  lined_class i h = o.at_classes (classes_at + i) (omega arith) (omega arith)

  pub lined_first : (i : ℕ) → i < member_room → first_move w i ≡ first_move v i
  lined_first i h = ap (λ (x : ℕ). x / 65536) (o.at_set (spans_at + i) (omega arith) (omega arith))

  pub lined_total : (i : ℕ) → i < member_room → move_total w i ≡ move_total v i
  lined_total i h = ap (λ (x : ℕ). x % 65536) (o.at_set (spans_at + i) (omega arith) (omega arith))

  pub lined_classes : (n : ℕ) → n ≤ member_room → classes_in w n ≡ classes_in v n
  lined_classes n h = tabulate_same (class_in w) (class_in v) n (λ i l. lined_class i (omega arith))

  pub lined_round : {sheet : Sheet} {set : List Configuration} {numbers : List ℕ} {n m r : ℕ} → RoundHeld sheet set numbers v n m r
      → RoundHeld sheet set numbers w n m r
  lined_round {sheet} {set} {numbers} {n} {m} {r} R = record {
    held = held_same sheet set v w n m R.held lined_set;
    wf = R.wf;
    closed = R.closed;
    ascends = R.ascends;
    classes_are = lined_classes n R.held.few.0 ∙ R.classes_are;
    sharing = R.sharing;
  }

  pub lined_member : {sheet : Sheet} {set : List Configuration} {numbers : List ℕ} {p : Configuration} {n m r i first total : ℕ}
      → MemberHeld sheet set numbers p v n m r i first total → MemberHeld sheet set numbers p w n m r i first total
  lined_member {sheet} {set} {numbers} {p} {n} {m} {r} {i} M = record {
    round = lined_round M.round;
    inside = M.inside;
    member_is = held_member_same sheet set v w n m M.round.held lined_set i M.inside ∙ M.member_is;
    first_is = held_first_same sheet set v w n m M.round.held lined_set i M.inside ∙ M.first_is;
    total_is = held_total_same sheet set v w n m M.round.held lined_set i M.inside ∙ M.total_is;
  }

  -- the moves from `first` on can be read as before, where the kept ones can
  pub lined_fits : {n first total : ℕ} → SpanFits v n first total
      → ((j : ℕ) → j < total → KeptFits (get_or w (dominators_at + first + j) 0)) → SpanFits w n first total
  lined_fits {n} {first} {total} S f = record {
    long = omega (arith, S.long, o.long);
    few = S.few;
    span = S.span;
    targets = λ j h.
        omega (arith, S.targets j h, ap (λ (x : ℕ). x % 65536) (o.at_set (moves_at + first + j) (omega arith) (omega (arith, S.span))));
    kept = f;
    classes = λ i l. omega (arith, S.classes i l, lined_class i (omega (arith, S.few)));
  }
