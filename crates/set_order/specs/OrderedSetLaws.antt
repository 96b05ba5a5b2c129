-- A set that is arranged and whose moves were all found is held.
use Rattle.std.specs.Prelude.{◌≡◌, refl, ◌↔◌, Bool, true, false, cond, ℕ, ◌/◌, ◌%◌, ◌<◌, eqb, ltb}
use Rattle.std.proofs.Common.{sym, ap₂, ◌∙◌, subst, arith, ltb-true, lt-ltb, eqb-true}
use mathlib.Core.List.{List, [], ◌∷◌, map, Memᴰ}
use Rattle.std.proofs.lemmas.Bool.{eqb-false}
use Rattle.number_lists.specs.Members.{mem_map}
use Rattle.number_lists.specs.Tabulate.{tabulate_same}
use Rattle.number_lists.specs.TabulateLaws.{ascends_at}
use Rattle.number_lists.specs.AscendingLaws.{Order, ascends_head, ascends_tail, ascends_unique, arrange_ascends, number_order}
use Rattle.number_lists.specs.Lists.{Ascends, none_left, then_rest}
use Rattle.member_table.specs.Sheet.{Configuration, Sheet}
use Rattle.member_table.specs.Orders.{Move, configuration_before, move_before}
use Rattle.member_table.specs.OrderLaws.{configuration_order, move_order}
use Rattle.member_table.specs.Moves.{moves, moves_from}
use Rattle.member_table.specs.MemberTable.{member_in, id_in, placed_in, ordered_in}
use Rattle.collected_moves.specs.CollectedMoves.{member_part}
use Rattle.work_layout.specs.SetLayout.{member_at, move_numbers_at, move_from, moves_held_at, SetHeld}
use Rattle.set_order.specs.OrderedSet.{span_moves, Discovered, Arranged}

-- a map that keeps the order of a list's elements keeps the list ascending
ascends_image : {A B : Type 0} (O : Order A) (P : Order B) (f : A → B) (xs : List A) → Ascends O.before xs
    → ((a b : A) → Memᴰ a xs → Memᴰ b xs → O.before a b ≡ true → P.before (f a) (f b) ≡ true) → Ascends P.before (map f xs)
ascends_image O P f [] s h = none_left
ascends_image {A} {B} O P f (x ∷ xs) s h =
    then_rest
    (λ b m.
    let y = mem_map f xs m in
    subst (λ (z : B). P.before (f x) z ≡ true) (sym y.2)
    (h x y.0 (Memᴰ.head refl) (Memᴰ.tail y.1) (ascends_head O s y.0 y.1)))
    (ascends_image O P f xs (ascends_tail O s) (λ a b p q. h a b (Memᴰ.tail p) (Memᴰ.tail q)))

-- the moves of a configuration ascend
moves_rise : (sheet : Sheet) (p : Configuration) → Ascends move_before (moves sheet p)
unfolding moves
moves_rise sheet p = arrange_ascends move_order (moves_from sheet p.store [] p.threads)

module _ {v : List ℕ} {n m : ℕ} {w : List ℕ} (d : Discovered v n m) (a : Arranged v n m w) where
  -- the members stand in their order
  place_before : (i j : ℕ) → i < j → j < n → configuration_before (member_at w i) (member_at w j) ≡ true
  place_before i j h l =
      ap₂ configuration_before (a.members i (omega arith)) (a.members j l)
      ∙ ascends_at configuration_order (placed_in (member_part v)) n d.kept.ascends i j h l

  -- the lesser of two numbers stands for the earlier move
  move_before_lem : (y z : ℕ) → y < z → z % 65536 < n → move_before (move_from w y) (move_from w z) ≡ true
  move_before_lem y z h l = go (eqb (y / 65536) (z / 65536)) refl
    where
      go : (b : Bool) → eqb (y / 65536) (z / 65536) ≡ b
          → cond b (configuration_before (member_at w (y % 65536)) (member_at w (z % 65536))) (ltb (y / 65536) (z / 65536)) ≡ true
      go true e =
          let q : y / 65536 ≡ z / 65536 = eqb-true (y / 65536) (z / 65536) e in
          place_before (y % 65536) (z % 65536) (omega arith) l
      go false e =
          let q : y / 65536 ≡ z / 65536 → ⊥ = eqb-false (y / 65536) (z / 65536) e in
          lt-ltb (y / 65536) (z / 65536) (omega arith)

  -- so moves in ascending order of numbers are in their order
  pub held_ascend : (j : ℕ) → j < n → Ascends move_before (moves_held_at w j)
  held_ascend j h =
      ascends_image number_order move_order (move_from w) (move_numbers_at w j) (a.ascending j h)
      (λ y z p q e. move_before_lem y z (ltb-true y z e) (a.targets j z h q))

  pub arranged_held : (sheet : Sheet) (set : List Configuration) → set ≡ ordered_in (member_part v) n
      → ((id : ℕ) → id < n → (k : Move) → Memᴰ k (span_moves v id) ↔ Memᴰ k (moves sheet (member_in (member_part v) id)))
      → SetHeld sheet set w n m
  arranged_held sheet set e s =
      record {
        long = omega (arith, d.long, a.outside.long);
        few = (d.kept.room, d.few);
        members = tabulate_same (member_at w) (placed_in (member_part v)) n a.members ∙ sym e;
        packed = a.packed;
        spans = a.spans;
        apart = a.apart;
        targets = a.targets;
        moves_are = λ j h.
            ascends_unique move_order (moves_held_at w j) (moves sheet (member_at w j)) (held_ascend j h) (moves_rise sheet (member_at w j))
            (λ k i. down j h k ((a.moves_same j h k).0 i)) (λ k i. (a.moves_same j h k).1 (up j h k i));
      }
    where
      down : (j : ℕ) → j < n → (k : Move) → Memᴰ k (span_moves v (id_in (member_part v) j)) → Memᴰ k (moves sheet (member_at w j))
      down j h k i =
          subst (λ (p : Configuration). Memᴰ k (moves sheet p)) (sym (a.members j h))
          ((s (id_in (member_part v) j) (d.kept.ids j h) k).0 i)

      up : (j : ℕ) → j < n → (k : Move) → Memᴰ k (moves sheet (member_at w j)) → Memᴰ k (span_moves v (id_in (member_part v) j))
      up j h k i =
          (s (id_in (member_part v) j) (d.kept.ids j h) k).1
          (subst (λ (p : Configuration). Memᴰ k (moves sheet p)) (a.members j h) i)
