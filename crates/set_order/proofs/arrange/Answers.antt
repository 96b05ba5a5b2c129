-- `arrange` finds the places, gives each move its target's place while members stand by discovery, and then moves members and spans.
use Prim.Native.Nat.{◌*◌}
use Rattle.set_order.specs.CopyLaws.{copied_within}
use Rattle.set_order.specs.SetOrderLaws.{ids_ready, spans_kept, arranged_whole}
use Rattle.work_layout.specs.WorkLayout.{spans_at, members_at, spare_members_at, spare_spans_at}
use Rattle.set_order.proofs.arrange.Goals as goal

pub arrange_all-requires : goal.arrange_all-requires
arrange_all-requires c = ids_ready c.requires.discovered c.place_ids.ensures

pub copy_all_aside-requires : goal.copy_all_aside-requires
copy_all_aside-requires c = spans_kept c.requires.discovered c.place_ids.ensures c.arrange_all.ensures

pub returns : goal.returns
returns c =
    let n = c.args.n in
    let w = c.copy_all_aside.new.work in
    let f = c.copy_within in
    let g = c.copy_within-2 in
    record {
      arranged = λ m d.
          arranged_whole d c.place_ids.ensures c.arrange_all.ensures c.copy_all_aside.ensures
          (copied_within w f.new.self spare_members_at (3 * n) members_at f.ensures.len f.ensures.by_index)
          (copied_within f.new.self g.new.self spare_spans_at n spans_at g.ensures.len g.ensures.by_index);
    }
