-- Three numbers compared from the left.
use Rattle.std.specs.declared.cmp.Ordering.{Ordering}
use Rattle.packing.specs.declared.Numbers.{Numbers}
use Rattle.packing.specs.Packing.{side_of, before}

-- the side of one struct beside another
abbrev pub compared : Numbers → Numbers → Ordering
compared x y = side_of (before x y) (before y x)
