-- The words of the line that tells what the second checker found.
use Rattle.std.specs.Prelude.{List, [], ◌∷◌, ℕ}
use Rattle.text.specs.Lines.{line}
use Rattle.level_check.specs.declared.Checked.{Checked}
use Rattle.level_check.specs.declared.Checked.TheVariants.{Agree, TooLarge, Members, Places, Verdict, Round, Classes}

-- LEVELS AGREE
abbrev pub agree_word : List ℕ
agree_word = 76 ∷ 69 ∷ 86 ∷ 69 ∷ 76 ∷ 83 ∷ 32 ∷ 65 ∷ 71 ∷ 82 ∷ 69 ∷ 69 ∷ []

-- LEVELS TOO LARGE
abbrev pub large_words : List ℕ
large_words = 76 ∷ 69 ∷ 86 ∷ 69 ∷ 76 ∷ 83 ∷ 32 ∷ 84 ∷ 79 ∷ 79 ∷ 32 ∷ 76 ∷ 65 ∷ 82 ∷ 71 ∷ 69 ∷ []

-- LEVELS DIFFER MEMBERS
abbrev pub members_words : List ℕ
members_words = 76 ∷ 69 ∷ 86 ∷ 69 ∷ 76 ∷ 83 ∷ 32 ∷ 68 ∷ 73 ∷ 70 ∷ 70 ∷ 69 ∷ 82 ∷ 32 ∷ 77 ∷ 69 ∷ 77 ∷ 66 ∷ 69 ∷ 82 ∷ 83 ∷ []

-- LEVELS DIFFER PLACES
abbrev pub places_words : List ℕ
places_words = 76 ∷ 69 ∷ 86 ∷ 69 ∷ 76 ∷ 83 ∷ 32 ∷ 68 ∷ 73 ∷ 70 ∷ 70 ∷ 69 ∷ 82 ∷ 32 ∷ 80 ∷ 76 ∷ 65 ∷ 67 ∷ 69 ∷ 83 ∷ []

-- LEVELS DIFFER VERDICT
abbrev pub verdict_words : List ℕ
verdict_words = 76 ∷ 69 ∷ 86 ∷ 69 ∷ 76 ∷ 83 ∷ 32 ∷ 68 ∷ 73 ∷ 70 ∷ 70 ∷ 69 ∷ 82 ∷ 32 ∷ 86 ∷ 69 ∷ 82 ∷ 68 ∷ 73 ∷ 67 ∷ 84 ∷ []

-- LEVELS DIFFER ROUND
abbrev pub round_words : List ℕ
round_words = 76 ∷ 69 ∷ 86 ∷ 69 ∷ 76 ∷ 83 ∷ 32 ∷ 68 ∷ 73 ∷ 70 ∷ 70 ∷ 69 ∷ 82 ∷ 32 ∷ 82 ∷ 79 ∷ 85 ∷ 78 ∷ 68 ∷ []

-- LEVELS DIFFER CLASSES
abbrev pub classes_words : List ℕ
classes_words = 76 ∷ 69 ∷ 86 ∷ 69 ∷ 76 ∷ 83 ∷ 32 ∷ 68 ∷ 73 ∷ 70 ∷ 70 ∷ 69 ∷ 82 ∷ 32 ∷ 67 ∷ 76 ∷ 65 ∷ 83 ∷ 83 ∷ 69 ∷ 83 ∷ []

-- the line
abbrev pub checked_text : Checked → List ℕ
checked_text (Agree configurations levels) = line agree_word (configurations ∷ levels ∷ [])
checked_text TooLarge = line large_words []
checked_text Members = line members_words []
checked_text Places = line places_words []
checked_text Verdict = line verdict_words []
checked_text Round = line round_words []
checked_text Classes = line classes_words []
