-- A member of an ascending set stands at its place, and has the class whose number stands there.
use Rattle.std.specs.Prelude.{◌≡◌, ◌↔◌, true, List, ℕ, ◌<◌, length, get_or}
use Rattle.std.proofs.Common.{sym, ap, ◌∙◌, subst, eqb-true, eq-eqb}
use Rattle.move_laws.specs.TestLaws.{neither_below}
use Rattle.move_laws.specs.Lists.{Ascends}
use Rattle.move_laws.specs.ListPlaces.{get_d_in, get_d_any, ascends_places}
use Rattle.move_laws.specs.Sheet.{Configuration}
use Rattle.move_laws.specs.Orders.{configuration_before}
use Rattle.move_laws.specs.OrderLaws.{configuration_order}
use Rattle.comparison.specs.Classes.{place_of, share}
use Rattle.comparison_laws.specs.ClassLaws.{place_of_lt, place_of_at}

-- no two places have one member
pub places_apart : (set : List Configuration) → Ascends configuration_before set → (d : Configuration) (i j : ℕ) → i < j → j < length set
    → get_or set i d ≡ get_or set j d → ⊥
places_apart set asc d i j h l e =
    configuration_order.irreflexive (get_or set j d)
    (subst (λ (p : Configuration). configuration_before p (get_or set j d) ≡ true) e (ascends_places configuration_order set asc i j d h l))

-- the place of the i-th member of an ascending set is i
pub place_of_member : (set : List Configuration) → Ascends configuration_before set → (d : Configuration) (i : ℕ) → i < length set
    → place_of set (get_or set i d) ≡ i
place_of_member set asc d i l =
    let p : Configuration = get_or set i d in
    let j : ℕ = place_of set p in
    let k : j < length set = place_of_lt set p (get_d_in set i d l) in
    let e : get_or set j d ≡ get_or set i d = get_d_any set j d p k ∙ place_of_at set p (get_d_in set i d l) in
    neither_below j i (λ h. places_apart set asc d j i h l e) (λ h. places_apart set asc d i j h k (sym e))

-- two members share a class exactly when the numbers at their places are equal
pub share_places : (set : List Configuration) → Ascends configuration_before set → (numbers : List ℕ) (d : Configuration) (i j : ℕ)
    → i < length set → j < length set → (share set numbers (get_or set i d) (get_or set j d) ≡ true) ↔ (get_or numbers i 0 ≡ get_or numbers j 0)
share_places set asc numbers d i j l k =
    let ei = ap (λ (n : ℕ). get_or numbers n 0) (place_of_member set asc d i l) in
    let ej = ap (λ (n : ℕ). get_or numbers n 0) (place_of_member set asc d j k) in
    ((λ h. sym ei ∙ eqb-true _ _ h ∙ ej), (λ e. eq-eqb _ _ (ei ∙ e ∙ sym ej)))
