-- Document 02, card 2: facts that always stand. They are the facts of the least store, z. Without them a sheet has the same facts and
-- names, and no set of it has a fact of z; with them a report has z in every store and every label.
use Rattle.std.specs.Prelude.{List, map, ℕ, ◌+◌}
use Rattle.comparison_laws.specs.Stores.{Rule}
use Rattle.sheet_encoder.specs.FactsOutside.{outside}
use Rattle.comparison_laws.specs.Sheet.{Node, stop, tell, ask, both, either, Configuration, Sheet}
use Rattle.comparison_laws.specs.Orders.{Move}
use Rattle.comparison_laws.specs.Outcome.{Outcome, reported, refusal}
use Rattle.comparison_laws.specs.Trail.{Reply, none, move, TrailStep}
use Rattle.comparison_laws.specs.Report.{Report}
use Rattle.all_starts.specs.Grouping.{Grouping}
use Rattle.after_rounds.specs.AfterRounds.{AfterRounds}

-- ---- the facts of z taken out of every set
abbrev pub rule_without : ℕ → Rule → Rule
rule_without z r = record { premise = outside z r.premise; conclusion = outside z r.conclusion }

abbrev pub node_without : ℕ → Node → Node
node_without z stop = stop
node_without z (tell c) = tell (outside z c)
node_without z (ask c q) = ask (outside z c) q
node_without z (both p q) = both p q
node_without z (either p q) = either p q

abbrev pub configuration_without : ℕ → Configuration → Configuration
configuration_without z p = record { store = outside z p.store; threads = p.threads }

abbrev pub sheet_without : ℕ → Sheet → Sheet
sheet_without z sheet =
    record {
      facts = sheet.facts;
      rules = map (rule_without z) sheet.rules;
      nodes = map (node_without z) sheet.nodes;
      starts = map (configuration_without z) sheet.starts;
    }

-- ---- z joined to every store and label
-- A set that has no fact of z, with the facts of z: the number of the union is the sum (`raised_union`).
abbrev pub raised : ℕ → ℕ → ℕ
raised z s = s + z

abbrev pub raised_configuration : ℕ → Configuration → Configuration
raised_configuration z p = record { store = raised z p.store; threads = p.threads }

abbrev pub raised_move : ℕ → Move → Move
raised_move z m = record { label = raised z m.label; target = raised_configuration z m.target }

abbrev pub raised_reply : ℕ → Reply → Reply
raised_reply z none = none
raised_reply z (move k) = move (raised_move z k)

abbrev pub raised_step : ℕ → TrailStep → TrailStep
raised_step z s =
    record { side = s.side; label = raised z s.label; target = raised_configuration z s.target; reply = raised_reply z s.reply }

-- verdict, round, places and classes stay
abbrev pub raised_report : ℕ → Report → Report
raised_report z r =
    record {
      verdict = r.verdict;
      round = r.round;
      left_place = r.left_place;
      right_place = r.right_place;
      members = map (raised_configuration z) r.members;
      classes = r.classes;
      steps = map (raised_step z) r.steps;
    }

-- the grouping of all starts (card 1), and an answer after so many rounds (card 13)
abbrev pub raised_grouping : ℕ → Grouping → Grouping
raised_grouping z g =
    record {
      round = g.round;
      members = map (raised_configuration z) g.members;
      classes = g.classes;
      start_classes = g.start_classes;
    }

abbrev pub raised_after : ℕ → AfterRounds → AfterRounds
raised_after z a = record { verdict = a.verdict; members = map (raised_configuration z) a.members; classes = a.classes }

-- a refusal stays as it is
abbrev pub outcome_by : {A B : Type 0} → (A → B) → Outcome A → Outcome B
outcome_by f (reported a) = reported (f a)
outcome_by f (refusal number place) = refusal number place
