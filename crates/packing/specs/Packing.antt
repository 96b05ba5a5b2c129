-- A configuration as three numbers: its store with the number of its threads, its first four threads, its last four.
use Rattle.std.specs.Prelude.{◌≡◌, Bool, true, false, cond, ℕ, zero, suc, ◌+◌, ◌*◌, ◌/◌, ◌%◌, ◌≤◌, ◌<◌, length, take, drop, eqb, ltb}
use Rattle.std.specs.declared.cmp.Ordering.{Ordering}
use Rattle.std.specs.declared.cmp.Ordering.TheVariants.{Less, Equal, Greater}
use mathlib.Core.List.{List, [], ◌∷◌, Memᴰ}
use Rattle.moves.specs.Sheet.{Configuration}
use Rattle.packing.specs.declared.Numbers.{Numbers}

-- k bytes from the left put after a number; 0 where the list has ended
abbrev pub bytes_after : ℕ → ℕ → List ℕ → ℕ
bytes_after acc zero ts = acc
bytes_after acc (suc k) [] = bytes_after (acc * 256) k []
bytes_after acc (suc k) (t ∷ ts) = bytes_after (acc * 256 + t) k ts

-- ---- the three numbers of a configuration
-- the store, then the number of threads
abbrev pub number0 : Configuration → ℕ
number0 p = p.store * 256 + length p.threads

-- the first four threads
abbrev pub number1 : Configuration → ℕ
number1 p = bytes_after 0 4 p.threads

-- the threads after them
abbrev pub number2 : Configuration → ℕ
number2 p = bytes_after 0 4 (drop 4 p.threads)

-- what the three numbers can hold
pub record Fits (p : Configuration) : Type 0 where
  pub few : length p.threads ≤ 8
  pub bytes : (t : ℕ) → Memᴰ t p.threads → t < 256
  pub small : p.store < 65536

-- the eight bytes of two numbers, from the high end
abbrev pub eight_bytes : ℕ → ℕ → List ℕ
eight_bytes b c = b / 16777216 ∷ b / 65536 % 256 ∷ b / 256 % 256 ∷ b % 256 ∷ c / 16777216 ∷ c / 65536 % 256 ∷ c / 256 % 256 ∷ c % 256 ∷ []

-- the configuration that three numbers stand for
abbrev pub unpacked : ℕ → ℕ → ℕ → Configuration
unpacked a b c = record { store = a / 256; threads = take (a % 256) (eight_bytes b c) }

-- the numbers are those of the configuration that they stand for
pub record Packed (a b c : ℕ) : Type 0 where
  pub fits : Fits (unpacked a b c)
  pub first : number0 (unpacked a b c) ≡ a
  pub second : number1 (unpacked a b c) ≡ b
  pub third : number2 (unpacked a b c) ≡ c

-- three numbers compared from the left
abbrev pub numbers_before : ℕ → ℕ → ℕ → ℕ → ℕ → ℕ → Bool
numbers_before a b c x y z = cond (eqb a x) (cond (eqb b y) (ltb c z) (ltb b y)) (ltb a x)

-- where the first of two stands beside the second: before it, after it, or neither
abbrev pub side_of : Bool → Bool → Ordering
side_of true c = Less
side_of false true = Greater
side_of false false = Equal

-- ---- the same of the struct
-- the configuration that the struct stands for
abbrev pub stands_for : Numbers → Configuration
stands_for x = unpacked x.a x.b x.c

-- its numbers are those of that configuration
abbrev pub PackedIn : Numbers → Type 0
PackedIn x = Packed x.a x.b x.c

-- one compared with another from the left
abbrev pub before : Numbers → Numbers → Bool
before x y = numbers_before x.a x.b x.c y.a y.b y.c
