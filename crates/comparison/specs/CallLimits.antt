-- The numbers of document 01, "The report" and "Refused by the state", and of document 02, card 3, each named once. A caller's limits
-- are given.
use Rattle.std.specs.Prelude.{◌≡◌, refl, ℕ, ◌+◌, ◌-◌, ◌*◌, ◌≤◌}
use Rattle.sheet_reading.specs.SheetLimits.{max_threads}

-- How many members, threads of a member, and moves of all members together a comparison may have.
pub record Limits : Type 0 where
  pub members : ℕ
  pub threads : ℕ
  pub moves : ℕ

-- l is nowhere above m
pub record NoGreater (l m : Limits) : Type 0 where
  pub members : l.members ≤ m.members
  pub threads : l.threads ≤ m.threads
  pub moves : l.moves ≤ m.moves

-- document 01's limits
abbrev pub limits : Limits
limits = record { members = 512; threads = max_threads; moves = 4096 }

-- document 02, card 3: the desk's limits; a member's threads are limited as before
abbrev pub desk_limits : Limits
desk_limits = record { members = 64; threads = max_threads; moves = 512 }

-- the numbers of 32 bits in the work slice
abbrev pub work_length : ℕ
work_length = 16384

-- what stands for no reply in a step's bytes
abbrev pub no_reply : ℕ
no_reply = 65535

-- ---- the answer's bytes
-- a two-byte number
abbrev pub word_length : ℕ
word_length = 2

-- a member of t threads: store, thread count, threads, class
abbrev pub member_length : ℕ → ℕ
member_length t = word_length + (1 + t) + word_length

-- a step of the trail: side, label, mover's target, reply's target
abbrev pub step_length : ℕ
step_length = 1 + word_length + word_length + word_length

-- the longest report: as many members as allowed, each with as many threads, and fewer steps than members
abbrev pub report_room : Limits → ℕ
report_room l = word_length + l.members * member_length l.threads + word_length + (l.members - 1) * step_length

-- 10,237 bytes always suffice
pub report_room_is : report_room limits ≡ 10237
report_room_is = refl

-- and 1,277 within the desk's limits
pub desk_room_is : report_room desk_limits ≡ 1277
desk_room_is = refl
