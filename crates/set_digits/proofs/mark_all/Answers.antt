-- Each word is the first word.
use native.Mathlib.Omega.{arith}
use Rattle.std.proofs.Common.{◌≡◌, ◌^◌, ◌+◌, ◌-◌, ltb, replicate}
use Rattle.std.proofs.lemmas.Grind.{common_steps}
use Rattle.set_digits.specs.SetDigits.{bit, words_of}
use Rattle.set_digits.specs.FilledWords.{filled_run, filled_marked}
use Rattle.set_digits.specs.MarkedLaws.{first_word_digit}
use Rattle.set_digits.proofs.mark_all.Goals as goal

pub returns : goal.returns
returns c =
    let b = c.args in
    let n = c.words_of-words.result in
    let f = c.first_word-full in
    let run : c.fill.new.self ≡ replicate n f.result = grind (arith, common_steps) in
    filled_marked (filled_run b.at (b.at + n - b.at) n f.result b.work.now c.fill.new.self (omega arith) (omega arith) run)
    (words_of b.facts) (omega arith) (λ s. bit (ltb s (2 ^ b.facts))) (first_word_digit b.facts f.result f.ensures)
