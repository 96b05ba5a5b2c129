-- The numbers of document 01, "The sheet", each named once. The code has them as associated constants of its sheet type.
use Rattle.std.specs.Prelude.{◌≡◌, refl, ℕ, ◌+◌, ◌*◌}

abbrev pub max_facts : ℕ
max_facts = 12

abbrev pub max_rules : ℕ
max_rules = 32

abbrev pub min_nodes : ℕ
min_nodes = 1

abbrev pub max_nodes : ℕ
max_nodes = 64

abbrev pub min_starts : ℕ
min_starts = 2

abbrev pub max_starts : ℕ
max_starts = 16

-- threads of a configuration that the program handles
abbrev pub max_threads : ℕ
max_threads = 8

-- the highest kind of a node
abbrev pub max_kind : ℕ
max_kind = 4

-- a name's bytes, and the bytes allowed in it
abbrev pub name_length : ℕ
name_length = 8

abbrev pub first_printable : ℕ
first_printable = 32

abbrev pub last_printable : ℕ
last_printable = 126

-- bytes of a rule and of a node, and of a start with t threads
abbrev pub rule_length : ℕ
rule_length = 4

abbrev pub node_length : ℕ
node_length = 5

abbrev pub start_length : ℕ → ℕ
start_length t = 3 + t

-- four count bytes, and each section as long as it can be
abbrev pub longest_sheet : ℕ
longest_sheet =
    (1 + max_facts * name_length) + (1 + max_rules * rule_length) + (1 + max_nodes * node_length) + (1 + max_starts * start_length max_threads)

pub longest_sheet_is : longest_sheet ≡ 724
longest_sheet_is = refl
