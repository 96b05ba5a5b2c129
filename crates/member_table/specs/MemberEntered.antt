-- One member more, by discovery and in the order.
use Rattle.std.specs.Prelude.{◌≡◌, refl, ◌⊎◌, Bool, true, false, ℕ, ◌+◌, ◌*◌, ◌-◌, ◌≤◌, ◌<◌, length, get_or, set, drop, ltb}
use Rattle.std.proofs.Common.{sym, ap, ap₂, ◌∙◌, subst, inl, inr, arith, length-set, get_or-set_same, get_or-set_other, drop-set-lt, ltb-true, ltb-false}
use mathlib.Core.List.{List, Memᴰ}
use Rattle.packing.specs.Tabulate.{tabulate_same}
use Rattle.packing.specs.TabulateLaws.{enter_tabulate, enter_there, mem_tabulate}
use Rattle.move_laws.specs.Lists.{Ascends, enter}
use Rattle.packing.specs.AscendingLaws.{enter_ascends}
use Rattle.packing.specs.Frames.{outside_same, outside_of_ends}
use Rattle.move_laws.specs.Sheet.{Configuration}
use Rattle.packing.specs.Orders.{configuration_before}
use Rattle.move_laws.specs.OrderLaws.{configuration_order}
use Rattle.packing.specs.declared.Numbers.{Numbers}
use Rattle.packing.specs.Packing.{unpacked, stands_for, PackedIn}
use Rattle.member_table.specs.MemberTable.{numbers_in, member_in, id_in, placed_in, members_in, ordered_in, Kept}
use Rattle.member_table.specs.MemberSearch.{StandsAt, MissingAt}
use Rattle.packing.specs.RaisedNumbers.{Raised, raised_behind}
use Rattle.member_table.specs.MemberLaws.{ordered_in_lem}
use Rattle.member_table.specs.EntryFound.{EnteredIn}
use Rattle.work_layout.specs.WorkLayout.{table_ids, table_length, member_room}

-- the three numbers of member n, put in their places
abbrev pub put_key : List ℕ → ℕ → Numbers → List ℕ
put_key w n x = set (set (set w (3 * n) x.a) (3 * n + 1) x.b) (3 * n + 2) x.c

-- member n was put in at a place of the order
pub record PutIn (v : List ℕ) (n at : ℕ) (x : Numbers) (w : List ℕ) : Type 0 where
  pub earlier : (j : ℕ) → j < at → get_or w (table_ids + j) 0 ≡ get_or v (table_ids + j) 0
  pub here : get_or w (table_ids + at) 0 ≡ n
  pub later : (j : ℕ) → at ≤ j → j < n → get_or w (table_ids + (j + 1)) 0 ≡ get_or v (table_ids + j) 0
  pub keys : (k : ℕ) → k < 3 * n → get_or w k 0 ≡ get_or v k 0
  pub key : (get_or w (3 * n) 0 ≡ x.a) × (get_or w (3 * n + 1) 0 ≡ x.b) × (get_or w (3 * n + 2) 0 ≡ x.c)
  pub rest : drop table_length w ≡ drop table_length v
  pub long : length w ≡ length v

module _ (u : List ℕ) (n : ℕ) (x : Numbers) where
  key_other : (k : ℕ) → (k < 3 * n) ⊎ (3 * n + 3 ≤ k) → get_or (put_key u n x) k 0 ≡ get_or u k 0
  key_other k (inl h) =
      get_or-set_other (set (set u (3 * n) x.a) (3 * n + 1) x.b) (3 * n + 2) k x.c 0 (omega arith)
      ∙ get_or-set_other (set u (3 * n) x.a) (3 * n + 1) k x.b 0 (omega arith)
      ∙ get_or-set_other u (3 * n) k x.a 0 (omega arith)
  key_other k (inr h) =
      get_or-set_other (set (set u (3 * n) x.a) (3 * n + 1) x.b) (3 * n + 2) k x.c 0 (omega arith)
      ∙ get_or-set_other (set u (3 * n) x.a) (3 * n + 1) k x.b 0 (omega arith)
      ∙ get_or-set_other u (3 * n) k x.a 0 (omega arith)

  key_same : 3 * n + 3 ≤ length u
      → (get_or (put_key u n x) (3 * n) 0 ≡ x.a) × (get_or (put_key u n x) (3 * n + 1) 0 ≡ x.b) × (get_or (put_key u n x) (3 * n + 2) 0 ≡ x.c)
  key_same h = (
    get_or-set_other (set (set u (3 * n) x.a) (3 * n + 1) x.b) (3 * n + 2) (3 * n) x.c 0 (omega arith)
        ∙ get_or-set_other (set u (3 * n) x.a) (3 * n + 1) (3 * n) x.b 0 (omega arith) ∙ get_or-set_same u (3 * n) x.a 0 (omega arith),
    get_or-set_other (set (set u (3 * n) x.a) (3 * n + 1) x.b) (3 * n + 2) (3 * n + 1) x.c 0 (omega arith)
        ∙ get_or-set_same (set u (3 * n) x.a) (3 * n + 1) x.b 0 (simp length-set (omega arith)),
    get_or-set_same (set (set u (3 * n) x.a) (3 * n + 1) x.b) (3 * n + 2) x.c 0 (simp length-set (omega arith)),
  )

  key_rest : (m : ℕ) → 3 * n + 3 ≤ m → drop m (put_key u n x) ≡ drop m u
  key_rest m h =
      drop-set-lt m (set (set u (3 * n) x.a) (3 * n + 1) x.b) (3 * n + 2) x.c (omega arith)
      ∙ drop-set-lt m (set u (3 * n) x.a) (3 * n + 1) x.b (omega arith)
      ∙ drop-set-lt m u (3 * n) x.a (omega arith)

  key_long : length (put_key u n x) ≡ length u
  key_long = simp length-set

-- the order moved up, the id and the numbers stored
pub put_in : (v u : List ℕ) (n at : ℕ) (x : Numbers) → Raised 1 v (table_ids + at) (table_ids + n) u → at ≤ n → n < member_room → table_length ≤ length v
    → PutIn v n at x (put_key (set u (table_ids + at) n) n x)
put_in v u n at x r h k l =
    let t : List ℕ = set u (table_ids + at) n in
    let s : length t ≡ length v = length-set u (table_ids + at) n ∙ r.long in
    record {
      earlier = λ j m.
          key_other t n x (table_ids + j) (inr (omega arith)) ∙ get_or-set_other u (table_ids + at) (table_ids + j) n 0 (omega arith) ∙ r.low (table_ids + j) (omega arith);
      here = key_other t n x (table_ids + at) (inr (omega arith)) ∙ get_or-set_same u (table_ids + at) n 0 (omega (arith, r.long));
      later = λ j m i.
          let q : table_ids + (j + 1) ≡ table_ids + j + 1 = omega arith in
          key_other t n x (table_ids + (j + 1)) (inr (omega arith)) ∙ get_or-set_other u (table_ids + at) (table_ids + (j + 1)) n 0 (omega arith)
          ∙ ap (λ (z : ℕ). get_or u z 0) q ∙ r.moved (table_ids + j) (omega arith) (omega arith);
      keys = λ i m. key_other t n x i (inl m) ∙ get_or-set_other u (table_ids + at) i n 0 (omega arith) ∙ r.low i (omega arith);
      key = key_same t n x (omega arith);
      rest =
          key_rest t n x table_length (omega arith) ∙ drop-set-lt table_length u (table_ids + at) n (omega arith) ∙ raised_behind r table_length (omega arith);
      long = key_long t n x ∙ s;
    }

module _ (v w : List ℕ) (n at : ℕ) (x : Numbers) (k : Kept v n) (i : PutIn v n at x w) where
  member_same : (j : ℕ) → j < n → member_in w j ≡ member_in v j
  member_same j h =
      let o = i.keys (3 * j) (omega arith) in
      let y = i.keys (3 * j + 1) (omega arith) in
      let z = i.keys (3 * j + 2) (omega arith) in
      ap (λ (s : ℕ). unpacked s (get_or w (3 * j + 1) 0) (get_or w (3 * j + 2) 0)) o
      ∙ ap₂ (λ (s t : ℕ). unpacked (get_or v (3 * j) 0) s t) y z

  member_new : member_in w n ≡ stands_for x
  member_new =
      ap (λ (s : ℕ). unpacked s (get_or w (3 * n + 1) 0) (get_or w (3 * n + 2) 0)) i.key.0
      ∙ ap₂ (λ (s t : ℕ). unpacked x.a s t) i.key.1 i.key.2

  pub put_ordered : MissingAt v n (stands_for x) at → ordered_in w (n + 1) ≡ enter configuration_before (stands_for x) (ordered_in v n)
  put_ordered p =
      enter_tabulate configuration_order (placed_in v) (placed_in w) (stands_for x) at n p.within p.below p.above
      (λ j h. ap (member_in w) (i.earlier j h) ∙ member_same (id_in v j) (k.ids j (omega (arith, p.within))))
      (ap (member_in w) i.here ∙ member_new)
      (λ j h l. ap (member_in w) (i.later j h l) ∙ member_same (id_in v j) (k.ids j l))

  put_packed : PackedIn x → (j : ℕ) → j < n + 1 → PackedIn (numbers_in w j)
  put_packed q j h = go (ltb j n) refl
    where
      go : (t : Bool) → ltb j n ≡ t → PackedIn (numbers_in w j)
      go true t =
          let l : j < n = ltb-true j n t in
          rw (i.keys (3 * j) (omega arith), i.keys (3 * j + 1) (omega arith), i.keys (3 * j + 2) (omega arith)) (k.packed j l)
      go false t =
          let l : n ≤ j = ltb-false j n t in
          let e : j ≡ n = omega arith in
          rw (e, i.key.0, i.key.1, i.key.2) q

  put_ids : at ≤ n → (j : ℕ) → j < n + 1 → get_or w (table_ids + j) 0 < n + 1
  put_ids l j h = go (ltb j at) refl (ltb at j) refl
    where
      go : (s : Bool) → ltb j at ≡ s → (t : Bool) → ltb at j ≡ t → get_or w (table_ids + j) 0 < n + 1
      go true s t e =
          let m : j < at = ltb-true j at s in
          omega (arith, i.earlier j m, k.ids j (omega arith))
      go false s true e =
          let m : at < j = ltb-true at j e in
          let q : j - 1 + 1 ≡ j = omega arith in
          let r : get_or w (table_ids + j) 0 ≡ get_or v (table_ids + (j - 1)) 0 =
          ap (λ (z : ℕ). get_or w (table_ids + z) 0) (sym q) ∙ i.later (j - 1) (omega arith) (omega arith) in
          omega (arith, r, k.ids (j - 1) (omega arith))
      go false s false e =
          let m : at ≤ j = ltb-false j at s in
          let m' : j ≤ at = ltb-false at j e in
          let q : j ≡ at = omega arith in
          let r : get_or w (table_ids + j) 0 ≡ n = ap (λ (z : ℕ). get_or w (table_ids + z) 0) q ∙ i.here in
          omega (arith, r)

  -- p was no member
  pub entered_new : (limit : ℕ) → n < limit → limit ≤ member_room → PackedIn x → MissingAt v n (stands_for x) at
      → EnteredIn v n limit (stands_for x) w n (n + 1) at
  entered_new limit h z q p =
      record {
        kept = record {
          room = omega arith;
          long = omega (arith, i.long, k.long);
          packed = put_packed q;
          ids = put_ids p.within;
          ascends =
              subst (Ascends configuration_before) (sym (put_ordered p)) (enter_ascends configuration_order (stands_for x) (ordered_in v n) k.ascends);
        };
        most = omega arith;
        ordered = put_ordered p;
        members = tabulate_same (member_in w) (member_in v) n member_same;
        named = (omega arith, member_new);
        placed = (omega (arith, p.within), i.here);
        earlier = i.earlier;
        fresh = inr (refl, refl);
        outside = outside_of_ends 0 table_length v w i.long refl i.rest;
      }

-- p stands there already
pub entered_old : (v : List ℕ) (n limit : ℕ) (p : Configuration) (at : ℕ) → Kept v n → n ≤ limit → StandsAt v n p at
    → EnteredIn v n limit p v (id_in v at) n at
entered_old v n limit p at k l q =
    record {
      kept = k;
      most = l;
      ordered =
          sym (enter_there configuration_order p (ordered_in v n) k.ascends
          (subst (λ (x : Configuration). Memᴰ x (ordered_in v n)) q.same (mem_tabulate (placed_in v) n at q.within)));
      members = refl;
      named = (k.ids at q.within, q.same);
      placed = (q.within, refl);
      earlier = λ j l. refl;
      fresh = inl (refl, refl);
      outside = outside_same 0 table_length v;
    }

-- p stands nowhere
pub placed_apart : (v : List ℕ) (n : ℕ) (p : Configuration) (at : ℕ) → Kept v n → MissingAt v n p at → Memᴰ p (members_in v n) → ⊥
placed_apart v n p at k q m =
    let j = ordered_in_lem v n k m in
    let e : p ≡ placed_in v j.0 = j.2 in
    go j.0 j.1 e (ltb j.0 at) refl
  where
    never : configuration_before p p ≡ true → ⊥
    never h = configuration_order.irreflexive p h

    go : (j : ℕ) → j < n → p ≡ placed_in v j → (t : Bool) → ltb j at ≡ t → ⊥
    go j h e true t = never (subst (λ (z : Configuration). configuration_before z p ≡ true) (sym e) (q.below j (ltb-true j at t)))
    go j h e false t = never (subst (λ (z : Configuration). configuration_before p z ≡ true) (sym e) (q.above j (ltb-false j at t) h))
