-- `tells` looks for a dominating move only where there is no answer.
use Rattle.telling_moves.specs.TrailTests.{move_fits}
use Rattle.telling_moves.proofs.tells.Goals as goal

pub answered_in-requires : goal.answered_in-requires
answered_in-requires c =
    let p = c.requires in
    let m = move_fits p.0 p.1 in
    record { n = c.args.n; follows = p.0; left = m.target; right = p.2 }
