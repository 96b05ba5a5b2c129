-- One pass for each of the five facts.
use Rattle.digit_spread.specs.WordLaws.{word_spread}
use Rattle.digit_spread.proofs.spread_word.Goals as goal

pub returns : goal.returns
returns c =
    word_spread c.down_once-a.ensures c.down_once-b.ensures
    c.down_once-c.ensures c.down_once-d.ensures c.down_once.ensures
