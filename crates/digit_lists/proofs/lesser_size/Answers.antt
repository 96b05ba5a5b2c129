-- `lesser_size` adds the facts of the word's number and of its first layer.
use native.Mathlib.Omega.{arith}
use Rattle.set_digits.specs.SizeLaws.{count_most}
use Rattle.digit_lists.proofs.lesser_size.Goals as goal

pub overflow_add-k : goal.overflow_add-k
overflow_add-k c = omega (arith, c.fact_count.ensures, count_most 16 c.args.i, c.first_layer.ensures.few)
