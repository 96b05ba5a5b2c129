-- The numbers of document 01 for the refusals.
use Rattle.std.specs.Prelude.{ℕ}
use Rattle.sheets.specs.Refusals.{cut_off_lem, many_facts, unprintable, many_rules, absent_fact, wrong_nodes, wrong_kind, wrong_node, used_field, wrong_starts, many_threads, bytes_left_lem, wide_node, absent_start, large_set, short_answer, short_work}
use Rattle.refusals.specs.declared.Refusal.{Refusal}
use Rattle.refusals.specs.declared.Refusal.TheVariants.{CutOff, ManyFacts, Unprintable, ManyRules, AbsentFact, WrongNodes, WrongKind, WrongNode, UsedField, WrongStarts, ManyThreads, BytesLeft, WideNode, AbsentStart, LargeSet, ShortAnswer, ShortWork}

abbrev pub number : Refusal → ℕ
number CutOff = cut_off_lem
number ManyFacts = many_facts
number Unprintable = unprintable
number ManyRules = many_rules
number AbsentFact = absent_fact
number WrongNodes = wrong_nodes
number WrongKind = wrong_kind
number WrongNode = wrong_node
number UsedField = used_field
number WrongStarts = wrong_starts
number ManyThreads = many_threads
number BytesLeft = bytes_left_lem
number WideNode = wide_node
number AbsentStart = absent_start
number LargeSet = large_set
number ShortAnswer = short_answer
number ShortWork = short_work
