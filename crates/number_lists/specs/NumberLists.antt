-- Numbers in a part of a slice, and what the functions on them promise, but for entering (Entered.antt).
use Rattle.std.specs.Prelude.{◌≡◌, Bool, true, false, ℕ, ◌-◌, ◌≤◌, ◌<◌, get_or, take, drop}
use mathlib.Core.List.{List, Memᴰ}
use Rattle.list_laws.specs.Halving.{Halving}

-- the numbers of a slice at the places from `from` up to `end`
unfoldable pub numbers_in : List ℕ → ℕ → ℕ → List ℕ
numbers_in w from end = take (end - from) (drop from w)

-- x belongs between the places low and high: the numbers of the part below low are less than x, those from high on are not
abbrev pub Between : List ℕ → ℕ → ℕ → ℕ → ℕ → ℕ → Type 0
Between w from end x low high = Halving (λ j. get_or w j 0 < x) (λ j. x ≤ get_or w j 0) from end low high

-- r says whether x is a number of the part
pub record HasNumber (w : List ℕ) (from end x : ℕ) (r : Bool) : Type 0 where
  pub there : r ≡ true → Memᴰ x (numbers_in w from end)
  pub missing : r ≡ false → Memᴰ x (numbers_in w from end) → ⊥
