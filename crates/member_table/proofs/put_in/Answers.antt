-- `put_in` makes room in the order, and stores the id and the numbers.
use Rattle.member_table.specs.MemberEntered.{put_in}
use Rattle.member_table.proofs.put_in.Goals as goal

pub returns : goal.returns
returns c =
    let g = c.args in
    let u = c.shift_up in
    rw c.put_three.ensures
    (put_in g.work.now u.new.work g.n g.at g.x u.ensures c.requires.0 c.requires.1 c.requires.2)
