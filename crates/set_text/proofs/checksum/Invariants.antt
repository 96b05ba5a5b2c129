-- After the members' numbers, turn i mixes in the moves of the member at place i.
use mathlib.Core.Path.{◌≡◌}
use Prim.Native.Nat.{◌*◌}
use Rattle.set_text.specs.SetText.{mix_all, mix_members}
use Rattle.work_layout.specs.WorkLayout.{members_at}
use Rattle.set_text.proofs.checksum.Given as goal

abbrev pub invariant-loop-i : goal.invariant-loop-i
invariant-loop-i l = l.s ≡ mix_members l.work l.i (mix_all l.work members_at (3 * l.n) 0)
