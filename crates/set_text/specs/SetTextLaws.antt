-- Laws of the checksum: nothing mixed in yet, and one more.
use Rattle.std.specs.Prelude.{◌≡◌, refl, List, ℕ, ◌+◌, get_or}
use Rattle.std.proofs.Common.{add-one}
use Rattle.set_text.specs.SetText.{mixed_of, mix_all, mix_moves, mix_members}

-- no number
pub mix_none : (w : List ℕ) (from sum : ℕ) → sum ≡ mix_all w from 0 sum
unfolding mix_all
mix_none w from sum = refl

-- one number more
pub mix_next : (w : List ℕ) (from k sum : ℕ) → mixed_of (mix_all w from k sum) (get_or w (from + k) 0) ≡ mix_all w from (k + 1) sum
unfolding mix_all
mix_next w from k sum = rw (add-one k)

-- no member
pub members_none : (w : List ℕ) (sum : ℕ) → sum ≡ mix_members w 0 sum
unfolding mix_members
members_none w sum = refl

-- one member more
pub members_next : (w : List ℕ) (n sum : ℕ) → mix_moves w n (mix_members w n sum) ≡ mix_members w (n + 1) sum
unfolding mix_members
members_next w n sum = rw (add-one n)
