-- The words are tried one after another.
use Rattle.std.proofs.Common.{◌≡◌, false}
use Rattle.list_laws.specs.Lists.{same_numbers}
use Rattle.case_lines.specs.Lines.{read_name, set_name, compare_name, all_name, rounds_name}
use Rattle.case_lines.proofs.call_of.Goals as goal

pub returns-else-eq-5 : goal.returns-else-eq-5
returns-else-eq-5 c =
    let w = c.args.word.now in
    let no_read : same_numbers w read_name ≡ false = cc in
    let no_set : same_numbers w set_name ≡ false = cc in
    let no_compare : same_numbers w compare_name ≡ false = cc in
    let no_all : same_numbers w all_name ≡ false = cc in
    let no_rounds : same_numbers w rounds_name ≡ false = cc in
    rw (no_read, no_set, no_compare, no_all, no_rounds)
