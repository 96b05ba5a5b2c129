-- Of two sheets of which one moves as the other does with z in every store and label, a call gives for the one what it gives for the
-- other, raised, where what it makes of the set is raised and as long.
use Rattle.std.specs.Prelude.{◌≡◌, refl, Bool, true, false, cond, List, map, ℕ, suc, ◌+◌, length, ltb}
use Rattle.std.proofs.Common.{sym, ap, ap₂, ◌∙◌, length-append}
use Rattle.comparison_laws.specs.Lists.{concat_map}
use Rattle.comparison_laws.specs.Refusals.{large_set, short_answer, short_work}
use Rattle.comparison_laws.specs.Sheet.{Configuration, Sheet}
use Rattle.comparison_laws.specs.SheetBytes.{word_bytes}
use Rattle.comparison_laws.specs.CallLimits.{Limits, work_length}
use Rattle.comparison_laws.specs.Rounds.{classes}
use Rattle.comparison_laws.specs.Set.{explored, fits}
use Rattle.comparison_laws.specs.Outcome.{Outcome, reported, refusal}
use Rattle.comparison_laws.specs.Frame.{with_room, with_set, with_work}
use Rattle.comparison_laws.specs.Report.{members_bytes}
use Rattle.comparison_laws.specs.ReportLaws.{members_length_lem}
use Rattle.all_starts.specs.Grouping.{Grouping, grouping_bytes}
use Rattle.after_rounds.specs.AfterRounds.{AfterRounds, after_bytes}
use Rattle.standing_laws.specs.StandingFacts.{raised_configuration, raised_grouping, raised_after, outcome_by}
use Rattle.standing_laws.proofs.RaisedSheets.{RaisedBy, AllIn}
use Rattle.standing_laws.proofs.RaisedSet.{explored_in, explored_raised, fits_raised}
use Rattle.standing_laws.proofs.RaisedReport.{members_raised_length}

-- ---- the frame of a call: what is made of the set is raised, and as long
module _ {z : ℕ} {In : ℕ → Type 0} {low high : Sheet} (R : RaisedBy z In low high) {A : Type 0} (up : A → A) (bytes : A → List ℕ)
    (as_long : (a : A) → length (bytes (up a)) ≡ length (bytes a)) (l : Limits) (seeds : List Configuration) (allIn : AllIn In seeds)
    (below above : List Configuration → A) (made : (set : List Configuration) → AllIn In set → above (map (raised_configuration z) set) ≡ up (below set))
    (work answer : ℕ) where
  room_raised : (a : A) → with_room bytes answer (up a) ≡ outcome_by up (with_room bytes answer a)
  room_raised a = rw (as_long a) (go (ltb answer (length (bytes a))))
    where
      go : (b : Bool) → cond b (refusal short_answer (length (bytes a))) (reported (up a))
          ≡ outcome_by up (cond b (refusal short_answer (length (bytes a))) (reported a))
      go true = refl
      go false = refl

  abbrev on_set : Sheet → List Configuration → (List Configuration → A) → Outcome A
  on_set sheet from make = with_set l sheet from (λ set. with_room bytes answer (make set))

  set_raised : on_set high (map (raised_configuration z) seeds) above ≡ outcome_by up (on_set low seeds below)
  set_raised =
      let set : List Configuration = explored low l seeds in
      let inside : AllIn In set = explored_in R l seeds allIn in
      ap (λ (s : List Configuration). elim (fits high l s) [ true ↦ with_room bytes answer (above s) | false ↦ refusal large_set 0 ])
      (explored_raised R l seeds allIn)
      ∙ ap₂ (λ (b : Bool) (o : Outcome A). elim b [ true ↦ o | false ↦ refusal large_set 0 ]) (fits_raised R l set inside)
      (ap (with_room bytes answer) (made set inside) ∙ room_raised (below set))
      ∙ go (fits low l set) (with_room bytes answer (below set))
    where
      go : (b : Bool) (o : Outcome A) → elim b [ true ↦ outcome_by up o | false ↦ refusal large_set 0 ]
          ≡ outcome_by up (elim b [ true ↦ o | false ↦ refusal large_set 0 ])
      go true o = refl
      go false o = refl

  pub framed_raised : with_work work (on_set high (map (raised_configuration z) seeds) above) ≡ outcome_by up (with_work work (on_set low seeds below))
  framed_raised = rw set_raised (go (ltb work work_length))
    where
      go : (b : Bool) → elim b [ true ↦ refusal short_work 0 | false ↦ outcome_by up (on_set low seeds below) ]
          ≡ outcome_by up (elim b [ true ↦ refusal short_work 0 | false ↦ on_set low seeds below ])
      go true = refl
      go false = refl

-- ---- the lengths of the other answers
pub after_as_long : (z : ℕ) (a : AfterRounds) → length (after_bytes (raised_after z a)) ≡ length (after_bytes a)
after_as_long z a =
    ap (λ (n : ℕ). suc (suc n))
    (members_length_lem (map (raised_configuration z) a.members) a.classes ∙ members_raised_length z a.members
    ∙ sym (members_length_lem a.members a.classes))

pub grouping_as_long : (z : ℕ) (g : Grouping) → length (grouping_bytes (raised_grouping z g)) ≡ length (grouping_bytes g)
grouping_as_long z g =
    let rest : List ℕ = concat_map word_bytes g.start_classes in
    let up : List ℕ = members_bytes (map (raised_configuration z) g.members) g.classes in
    let own : List ℕ = members_bytes g.members g.classes in
    let same : length up ≡ length own =
    members_length_lem (map (raised_configuration z) g.members) g.classes ∙ members_raised_length z g.members
    ∙ sym (members_length_lem g.members g.classes) in
    ap (λ (n : ℕ). suc (suc n)) (length-append up rest ∙ ap (λ (n : ℕ). n + length rest) same ∙ sym (length-append own rest))
