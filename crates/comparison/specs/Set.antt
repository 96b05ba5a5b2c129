-- Document 01, "Configurations and moves": the set of a comparison as a list in its order, worked out step by step, with the
-- limits of "Refused by the state". `Member` of crate refinement is the set itself, which may be infinite.
use Rattle.std.specs.Prelude.{Bool, true, false, not, ◌&&◌, ◌||◌, List, [], ◌∷◌, ◌++◌, map, ℕ, zero, suc, ◌+◌, length, eqb, leb, ltb}
use Rattle.moves.specs.Lists.{select, any, concat_map, arrange}
use Rattle.moves.specs.Stores.{strictly_below}
use Rattle.moves.specs.Sheet.{Configuration, Sheet}
use Rattle.moves.specs.Orders.{Move, configuration_before}
use Rattle.moves.specs.Moves.{moves, add}
use Rattle.comparison.specs.CallLimits.{Limits}

-- the targets of the moves k with a label strictly below that of m, with m's label added
abbrev pub added_below : Sheet → List Move → Move → List Configuration
added_below sheet ms m = map (λ k. add sheet m.label k.target) (select (λ k. strictly_below k.label m.label) ms)

-- what a member brings into the set: the targets of its moves, and where it has moves with labels a strictly below b, the
-- target of the first with b added
abbrev pub reached : Sheet → Configuration → List Configuration
reached sheet p = let ms = moves sheet p in map (λ m. m.target) ms ++ concat_map (added_below sheet ms) ms

-- the set with all that its members bring
abbrev pub grown : Sheet → List Configuration → List Configuration
grown sheet set = arrange configuration_before (set ++ concat_map (reached sheet) set)

-- too many members, or a member of too many threads
abbrev pub over : Limits → List Configuration → Bool
over l set = ltb l.members (length set) || any (λ p. ltb l.threads (length p.threads)) set

-- grown until nothing is added or a limit is passed, at most n times
unfoldable pub explored_from : ℕ → Sheet → Limits → List Configuration → List Configuration
explored_from zero sheet l set = set
explored_from (suc n) sheet l set =
    elim (over l set) [
      | true ↦ set
      | false ↦
          let next = grown sheet set in
          elim (eqb (length next) (length set)) [ true ↦ set | false ↦ explored_from n sheet l next ]
    ]

-- The set that grows from the seeds, in ascending order. Each growth but the last adds a member.
unfoldable pub explored : Sheet → Limits → List Configuration → List Configuration
explored sheet l seeds = explored_from (suc l.members) sheet l (arrange configuration_before seeds)

-- the moves of all members together, equal ones of one member counted once
abbrev pub move_count : Sheet → List Configuration → ℕ
move_count sheet [] = 0
move_count sheet (p ∷ ps) = length (moves sheet p) + move_count sheet ps

-- no limit is passed: 21 is not given
abbrev pub fits : Sheet → Limits → List Configuration → Bool
fits sheet l set = not (over l set) && leb (move_count sheet set) l.moves
