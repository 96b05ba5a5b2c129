-- Document 01, "Known sheets", the program: what is printed of an outcome. Fields are parted by one space, and every line ends
-- in a line feed.
use Rattle.std.specs.Prelude.{List, [], ◌∷◌, ◌++◌, ℕ, length}
use Rattle.moves.specs.Lists.{concat_map}
use Rattle.printed_lines.specs.Decimal.{decimal}
use Rattle.printed_lines.specs.Lines.{space, line_feed, field, line, refused_word}
use Rattle.moves.specs.Sheet.{Configuration}
use Rattle.comparison.specs.Classes.{place_of, class_of}
use Rattle.comparison.specs.Trail.{Side, left, right, Reply, none, move, TrailStep}
use Rattle.comparison.specs.Report.{Verdict, SAME, DIFF, Compares}
use Rattle.comparison.specs.Outcome.{reported, refusal}

-- SAME or DIFF
abbrev pub verdict_word : Verdict → List ℕ
verdict_word SAME = 83 ∷ 65 ∷ 77 ∷ 69 ∷ []
verdict_word DIFF = 68 ∷ 73 ∷ 70 ∷ 70 ∷ []

-- CONFIGURATIONS
abbrev pub configurations_word : List ℕ
configurations_word = 67 ∷ 79 ∷ 78 ∷ 70 ∷ 73 ∷ 71 ∷ 85 ∷ 82 ∷ 65 ∷ 84 ∷ 73 ∷ 79 ∷ 78 ∷ 83 ∷ []

-- TRAIL
abbrev pub trail_word : List ℕ
trail_word = 84 ∷ 82 ∷ 65 ∷ 73 ∷ 76 ∷ []

abbrev pub plus : ℕ
plus = 43

abbrev pub hyphen : ℕ
hyphen = 45

-- threads joined by +, or - for none
abbrev pub more_threads : List ℕ → List ℕ
more_threads [] = []
more_threads (t ∷ ts) = (plus ∷ decimal t) ++ more_threads ts

abbrev pub threads_text : List ℕ → List ℕ
threads_text [] = hyphen ∷ []
threads_text (t ∷ ts) = decimal t ++ more_threads ts

-- position, store, class, threads
abbrev pub member_line : ℕ → Configuration → ℕ → List ℕ
member_line position p class = decimal position ++ field p.store ++ field class ++ (space ∷ threads_text p.threads) ++ (line_feed ∷ [])

abbrev pub member_lines : List Configuration → List ℕ → List ℕ
member_lines set classes = concat_map (λ p. member_line (place_of set p) p (class_of set classes p)) set

-- L or R
abbrev pub side_letter : Side → ℕ
side_letter left = 76
side_letter right = 82

-- the reply's position, or - for none
abbrev pub reply_text : List Configuration → Reply → List ℕ
reply_text set none = hyphen ∷ []
reply_text set (move k) = decimal (place_of set k.target)

-- L or R, label, target position, reply position
abbrev pub step_line : List Configuration → TrailStep → List ℕ
step_line set s =
    (side_letter s.side ∷ []) ++ field s.label ++ field (place_of set s.target) ++ (space ∷ reply_text set s.reply) ++ (line_feed ∷ [])

-- verdict and round; the members; the steps; or the refusal
abbrev pub printed : Compares → List ℕ
printed (reported r) =
    line (verdict_word r.verdict) (r.round ∷ [])
    ++ line configurations_word (length r.members ∷ [])
    ++ member_lines r.members r.classes
    ++ line trail_word (length r.steps ∷ [])
    ++ concat_map (step_line r.members) r.steps
printed (refusal number place) = line refused_word (number ∷ place ∷ [])
