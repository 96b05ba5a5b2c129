-- The checksum of a set that stands in the work slice, and the words of the lines that tell of a set.
use Rattle.std.specs.Prelude.{List, [], ◌∷◌, ℕ, zero, suc, ◌+◌, ◌*◌, ◌/◌, ◌%◌, get_or}
use Rattle.work_layout.specs.WorkLayout.{spans_at, moves_at, members_at}

-- a number mixed into a checksum
abbrev pub mixed_of : ℕ → ℕ → ℕ
mixed_of sum x = (sum * 31 + x) % 4294967296

-- k numbers from a place on, mixed into a checksum one after another
unfoldable pub mix_all : List ℕ → ℕ → ℕ → ℕ → ℕ
mix_all w from zero sum = sum
mix_all w from (suc k) sum = mixed_of (mix_all w from k sum) (get_or w (from + k) 0)

-- how many moves a member with this span has, and these moves, mixed into a checksum
abbrev pub mix_span : List ℕ → ℕ → ℕ → ℕ
mix_span w span sum = mix_all w (moves_at + span / 65536) (span % 65536) (mixed_of sum (span % 65536))

-- those of the member at place i
abbrev pub mix_moves : List ℕ → ℕ → ℕ → ℕ
mix_moves w i sum = mix_span w (get_or w (spans_at + i) 0) sum

-- those of the first n members, one after another
unfoldable pub mix_members : List ℕ → ℕ → ℕ → ℕ
mix_members w zero sum = sum
mix_members w (suc n) sum = mix_moves w n (mix_members w n sum)

-- the checksum of a set of n members: their numbers, then for each how many moves it has and these
abbrev pub checksum_of : List ℕ → ℕ → ℕ
checksum_of w n = mix_members w n (mix_all w members_at (3 * n) 0)

-- WHOLE
abbrev pub whole_word : List ℕ
whole_word = 87 ∷ 72 ∷ 79 ∷ 76 ∷ 69 ∷ []
