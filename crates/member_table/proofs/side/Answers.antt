-- `side` compares the numbers of the member whose id stands at the place.
use Rattle.member_table.specs.MemberSearch.{side_at}
use Rattle.member_table.proofs.side.Goals as goal

pub returns : goal.returns
returns c =
    let g = c.args in
    let i = c.id_in-id in
    side_at g.work.now g.n g.j i.result g.x c.key_in-key.result c.compare.result c.requires.0 c.requires.1 c.requires.2
    i.ensures.0 c.key_in-key.ensures c.compare.ensures
