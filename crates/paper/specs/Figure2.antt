-- Source 001, Figure 2: the partitions of the running example, round by round, from the seeds R' + S, S and R + S. A block is
-- a list of configurations; blocks and their members stand in the order of document 01.
--
-- The text beside the figure says what the rounds do, and so it is here: in round 1 the final states leave their blocks and T'
-- is told apart from T at z < 5 ⊔ x < 5; in round 2 P + Q' at z < 5 leaves its block; in round 3 R' + S leaves its block; round
-- 4 is round 3. Where the figure as printed differs from its text and from the definitions:
--   P⁰ lists no P at z < 7, a member by rule (RS);
--   P¹ and P² have T' and T at z < 5 ⊔ x < 5 in one block, and P at z < 7 with them, though its store differs; P³ has T' and T
--   in one block;
--   P² and P³ have P + Q' at z < 5 in one block with P + Q and P (source 003, another copy of the paper, has it in a block of
--   its own there, as here).
-- The text speaks of transitions of R' + S and R + S labelled x < 5; by the rules, and in its own list (f), they have the label
-- z < 5.
use Rattle.std.specs.Prelude.{◌≡◌, refl, true, false, List, [], ◌∷◌, map, ℕ, zero, suc, length, eqb}
use Rattle.comparison_laws.specs.Lists.{select}
use Rattle.comparison_laws.specs.Stores.{closure, passes, pass, conclusions}
use Rattle.comparison_laws.specs.Sheet.{tell, ask, either, Configuration, Sheet, open_within}
use Rattle.comparison_laws.specs.WellFormed.{WellFormed, Admissible}
use Rattle.comparison_laws.specs.Reading.{got, records_from, count_at, set_at, name_bytes, name_at, names_from, facts_at, rule_at, rules_at, kind_at, first_at, second_at, node_at, nodes_at, thread_at, threads_from, start_at, starts_at, read_sheet}
use Rattle.comparison_laws.specs.ReadingLaws.{read_admissible}
use Rattle.comparison_laws.specs.Moves.{labels, steps_within, moves}
use Rattle.comparison_laws.specs.CallLimits.{limits}
use Rattle.comparison_laws.specs.Classes.{numbered_from, class_of}
use Rattle.comparison_laws.specs.Set.{explored_from, explored}
use Rattle.comparison_laws.specs.Rounds.{refined, classes, rounds_from, rounds, result_of}
use Rattle.comparison_laws.specs.KnownSheets.{bytes_of_paper}

-- ---- the constraints: facts 0 to 4 are z < 7, z < 5, x < 7, x < 5, y = 1
abbrev pub no_facts : ℕ
no_facts = 0

abbrev pub z<7 : ℕ
z<7 = 1

abbrev pub z<5 : ℕ
z<5 = 3

abbrev pub z<7⊔x<7 : ℕ
z<7⊔x<7 = 5

abbrev pub z<5⊔x<7 : ℕ
z<5⊔x<7 = 7

abbrev pub z<5⊔x<5 : ℕ
z<5⊔x<5 = 15

abbrev pub z<5⊔x<5⊔y=1 : ℕ
z<5⊔x<5⊔y=1 = 31

-- ---- the sheet that the bytes of the running example are: its nodes are T, P, Q, P + Q, R, S, R + S, T', Q', P + Q', R', R' + S
abbrev pub sheet_of_paper : Sheet
sheet_of_paper =
    record {
      facts = 5;
      rules = record { premise = 2; conclusion = 1 } ∷ record { premise = 8; conclusion = 4 } ∷ [];
      nodes =
          tell 0 ∷ ask 4 0 ∷ ask 12 0 ∷ either 1 2 ∷ ask 3 3 ∷ ask 1 1 ∷ either 4 5
          ∷ tell 16 ∷ ask 12 7 ∷ either 1 8 ∷ ask 3 9 ∷ either 10 5 ∷ [];
      starts =
          record { store = 0; threads = 5 ∷ [] } ∷ record { store = 0; threads = 6 ∷ [] } ∷ record { store = 0; threads = 11 ∷ [] } ∷ [];
    }

pub paper_reads : read_sheet bytes_of_paper ≡ got sheet_of_paper (length bytes_of_paper)
unfolding read_sheet records_from count_at set_at name_bytes name_at names_from facts_at rule_at rules_at kind_at first_at second_at node_at nodes_at thread_at threads_from start_at starts_at open_within closure passes pass conclusions
paper_reads = refl

pub paper_admissible : Admissible sheet_of_paper
paper_admissible = read_admissible bytes_of_paper sheet_of_paper (length bytes_of_paper) paper_reads

pub paper_well_formed : WellFormed sheet_of_paper
paper_well_formed = paper_admissible.well_formed

-- ---- the configurations: a process, then its store
abbrev pub conf : List ℕ → ℕ → Configuration
conf threads store = record { store = store; threads = threads }

-- the paper's 0
abbrev pub O : List ℕ
O = []

abbrev pub T : List ℕ
T = 0 ∷ []

abbrev pub P : List ℕ
P = 1 ∷ []

abbrev pub P+Q : List ℕ
P+Q = 3 ∷ []

abbrev pub S : List ℕ
S = 5 ∷ []

abbrev pub R+S : List ℕ
R+S = 6 ∷ []

abbrev pub T' : List ℕ
T' = 7 ∷ []

abbrev pub P+Q' : List ℕ
P+Q' = 9 ∷ []

abbrev pub R'+S : List ℕ
R'+S = 11 ∷ []

-- ---- the partitions
-- IS
abbrev pub seeds : List Configuration
seeds = conf R'+S no_facts ∷ conf S no_facts ∷ conf R+S no_facts ∷ []

-- IS*
abbrev pub members : List Configuration
members = explored sheet_of_paper limits seeds

-- the blocks that class numbers below n make
abbrev pub blocks_of : List Configuration → List ℕ → ℕ → ℕ → List (List Configuration)
blocks_of set numbers zero k = []
blocks_of set numbers (suc n) k = select (λ p. eqb (class_of set numbers p) k) set ∷ blocks_of set numbers n (suc k)

-- how many classes a list of class numbers has: they are numbered from 0 by first member
abbrev pub classes_in : List ℕ → ℕ → ℕ
classes_in [] n = n
classes_in (k ∷ ks) n = elim (eqb k n) [ true ↦ classes_in ks (suc n) | false ↦ classes_in ks n ]

-- the partition of round n
abbrev pub partition : ℕ → List (List Configuration)
partition n = let numbers = classes sheet_of_paper members n in blocks_of members numbers (classes_in numbers 0) 0

-- P⁰: equal stores
abbrev pub P⁰ : List (List Configuration)
P⁰ =
    (conf S no_facts ∷ conf R+S no_facts ∷ conf R'+S no_facts ∷ [])
    ∷ (conf P z<7 ∷ [])
    ∷ (conf P z<5 ∷ conf P+Q z<5 ∷ conf P+Q' z<5 ∷ [])
    ∷ (conf O z<7⊔x<7 ∷ conf T z<7⊔x<7 ∷ [])
    ∷ (conf O z<5⊔x<7 ∷ conf T z<5⊔x<7 ∷ [])
    ∷ (conf O z<5⊔x<5 ∷ conf T z<5⊔x<5 ∷ conf T' z<5⊔x<5 ∷ [])
    ∷ (conf O z<5⊔x<5⊔y=1 ∷ [])
    ∷ []

-- P¹: final states apart, and T' from T
abbrev pub P¹ : List (List Configuration)
P¹ =
    (conf S no_facts ∷ conf R+S no_facts ∷ conf R'+S no_facts ∷ [])
    ∷ (conf P z<7 ∷ [])
    ∷ (conf P z<5 ∷ conf P+Q z<5 ∷ conf P+Q' z<5 ∷ [])
    ∷ (conf O z<7⊔x<7 ∷ [])
    ∷ (conf T z<7⊔x<7 ∷ [])
    ∷ (conf O z<5⊔x<7 ∷ [])
    ∷ (conf T z<5⊔x<7 ∷ [])
    ∷ (conf O z<5⊔x<5 ∷ [])
    ∷ (conf T z<5⊔x<5 ∷ [])
    ∷ (conf T' z<5⊔x<5 ∷ [])
    ∷ (conf O z<5⊔x<5⊔y=1 ∷ [])
    ∷ []

-- P²: P + Q' apart from P and P + Q
abbrev pub P² : List (List Configuration)
P² =
    (conf S no_facts ∷ conf R+S no_facts ∷ conf R'+S no_facts ∷ [])
    ∷ (conf P z<7 ∷ [])
    ∷ (conf P z<5 ∷ conf P+Q z<5 ∷ [])
    ∷ (conf P+Q' z<5 ∷ [])
    ∷ (conf O z<7⊔x<7 ∷ [])
    ∷ (conf T z<7⊔x<7 ∷ [])
    ∷ (conf O z<5⊔x<7 ∷ [])
    ∷ (conf T z<5⊔x<7 ∷ [])
    ∷ (conf O z<5⊔x<5 ∷ [])
    ∷ (conf T z<5⊔x<5 ∷ [])
    ∷ (conf T' z<5⊔x<5 ∷ [])
    ∷ (conf O z<5⊔x<5⊔y=1 ∷ [])
    ∷ []

-- P³: R' + S apart from S and R + S
abbrev pub P³ : List (List Configuration)
P³ =
    (conf S no_facts ∷ conf R+S no_facts ∷ [])
    ∷ (conf R'+S no_facts ∷ [])
    ∷ (conf P z<7 ∷ [])
    ∷ (conf P z<5 ∷ conf P+Q z<5 ∷ [])
    ∷ (conf P+Q' z<5 ∷ [])
    ∷ (conf O z<7⊔x<7 ∷ [])
    ∷ (conf T z<7⊔x<7 ∷ [])
    ∷ (conf O z<5⊔x<7 ∷ [])
    ∷ (conf T z<5⊔x<7 ∷ [])
    ∷ (conf O z<5⊔x<5 ∷ [])
    ∷ (conf T z<5⊔x<5 ∷ [])
    ∷ (conf T' z<5⊔x<5 ∷ [])
    ∷ (conf O z<5⊔x<5⊔y=1 ∷ [])
    ∷ []

-- P⁰ to P⁴, where P⁴ is P³
pub figure_2 : map partition (0 ∷ 1 ∷ 2 ∷ 3 ∷ 4 ∷ []) ≡ (P⁰ ∷ P¹ ∷ P² ∷ P³ ∷ P³ ∷ [])
unfolding closure passes pass conclusions moves steps_within labels open_within numbered_from refined classes explored_from explored
figure_2 = refl

-- round 3 is the first one equal to its successor
pub figure_2_result : result_of (rounds sheet_of_paper members) ≡ 3
unfolding closure passes pass conclusions moves steps_within labels open_within numbered_from refined classes rounds_from rounds explored_from explored
figure_2_result = refl
