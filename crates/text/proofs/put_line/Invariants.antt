-- The word and the fields of the numbers so far stand in the slice.
use Rattle.std.proofs.Common.{◌+◌, ◌*◌, ◌≤◌, length, ◌++◌, take}
use Rattle.text.specs.Slices.{Stored}
use Rattle.text.specs.StoredText.{head_fields}
use Rattle.text.proofs.put_line.Given as goal

abbrev pub invariant-loop-n : goal.invariant-loop-n
invariant-loop-n l =
    Stored l.fn.out l.at (l.word ++ head_fields (take l.n-index l.numbers)) l.out l.next × (l.next ≤ l.at + length l.word + 21 * l.n-index)
