-- Document 01's kind byte of each kind of node.
use Rattle.std.specs.Prelude.{ℕ}
use Rattle.sheet_types.specs.declared.Kind.{Kind}
use Rattle.sheet_types.specs.declared.Kind.TheVariants.{Stop, Tell, Ask, Both, Either}

abbrev pub kind_byte : Kind → ℕ
kind_byte Stop = 0
kind_byte Tell = 1
kind_byte Ask = 2
kind_byte Both = 3
kind_byte Either = 4
