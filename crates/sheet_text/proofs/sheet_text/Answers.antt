-- The text is that of what the call returned and wrote, in slices that are long enough.
use mathlib.Core.Path.{◌≡◌, ap, sym, ◌∙◌}
use mathlib.Core.List.{List}
use Prim.Native.Nat.{ℕ}
use borrow.Author.Rules.{rules}
use lib.ListN.{length, replicate, length-replicate}
use Rattle.work_layout.specs.WorkLayout.{work_end}
use Rattle.sheet_text.specs.SheetTextLaws.{sheet_written}
use Rattle.sheet_text.proofs.sheet_text.Goals as goal

room-length : {v : List ℕ} → v ≡ replicate work_end 0 → work_end ≡ length v
room-length e = sym (ap length e ∙ length-replicate {A = ℕ} work_end 0)

pub returns : goal.returns
returns c =
    sheet_written c.args.sheet.now (room-length c.work_room-work.ensures) c.answer_room-answer.ensures c.compare-r.ensures
    c.outcome_text.ensures
