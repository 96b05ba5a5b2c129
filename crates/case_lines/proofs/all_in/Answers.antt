-- The search asks of each byte whether it is of the class.
use Rattle.std.proofs.Common.{rules, tests, ◌∙◌}
use Rattle.std.proofs.lemmas.Iterator.{YieldsList-from_slice}
use Rattle.std.proofs.lemmas.Iterator.Search.{all_from_yields_List}
use Rattle.case_lines.specs.Lines.{in_class}
use Rattle.case_lines.specs.LineLaws.{all_is}
use Rattle.case_lines.proofs.all_in.Goals as goal

pub returns : goal.returns
returns c =
    let s = c.args.s.now in
    let test = in_class c.args.class in
    all_from_yields_List test _ _ _ c.all.ensures.ran (YieldsList-from_slice s cc) (λ x b q k. search (rules, tests)) ∙ all_is test s
