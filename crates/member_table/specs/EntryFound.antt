-- What entering a configuration gives.
use Rattle.std.specs.Prelude.{Option, Some, None, ◌≡◌, ◌⊎◌, ℕ, ◌+◌, ◌≤◌, ◌<◌}
use Rattle.std.proofs.Common.{subst}
use mathlib.Core.List.{List, Memᴰ}
use Rattle.move_laws.specs.Lists.{enter}
use Rattle.packing.specs.Frames.{SameOutside}
use Rattle.move_laws.specs.Sheet.{Configuration}
use Rattle.packing.specs.Orders.{configuration_before}
use Rattle.member_table.specs.declared.Entry.{Entry}
use Rattle.member_table.specs.MemberTable.{member_in, id_in, members_in, ordered_in, Kept}
use Rattle.work_layout.specs.WorkLayout.{table_length}

-- of n members in v, p entered gives m members in w, at most limit; p has this id and this place in the order
pub record EnteredIn (v : List ℕ) (n limit : ℕ) (p : Configuration) (w : List ℕ) (id m at : ℕ) : Type 0 where
  pub kept : Kept w m
  pub most : m ≤ limit
  pub ordered : ordered_in w m ≡ enter configuration_before p (ordered_in v n)
  pub members : members_in w n ≡ members_in v n
  pub named : (id < m) × (member_in w id ≡ p)
  pub placed : (at < m) × (id_in w at ≡ id)
  pub earlier : (j : ℕ) → j < at → id_in w j ≡ id_in v j
  pub fresh : ((m ≡ n) × (w ≡ v)) ⊎ ((m ≡ n + 1) × (id ≡ n))
  pub outside : SameOutside 0 table_length v w

-- by the answer: p is a member now, or there is no room for it
abbrev pub EntryIn : List ℕ → ℕ → ℕ → Configuration → List ℕ → Option Entry → Type 0
EntryIn v n limit p w (Some e) = EnteredIn v n limit p w e.id e.members e.at
EntryIn v n limit p w None = (n ≡ limit) × (w ≡ v) × (Memᴰ p (members_in v n) → ⊥)

-- ---- the answer taken apart
module _ {v : List ℕ} {n limit : ℕ} {p : Configuration} {w : List ℕ} {r : Option Entry} where
  pub entry_member : {e : Entry} → r ≡ Some e → EntryIn v n limit p w r → EnteredIn v n limit p w e.id e.members e.at
  entry_member e h = subst (EntryIn v n limit p w) e h

  pub entry_full : r ≡ None → EntryIn v n limit p w r → (n ≡ limit) × (w ≡ v) × (Memᴰ p (members_in v n) → ⊥)
  entry_full e h = subst (EntryIn v n limit p w) e h
