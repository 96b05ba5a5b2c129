-- Document 02, card 2, as a law: what a call gives for a sheet whose standing facts are z is what it gives for the sheet without them, with
-- z in every store and every label. Verdict, round, places, classes, length and every refusal are the same. For any limits and slices.
use Rattle.std.specs.Prelude.{◌≡◌, refl, ℕ, ◌<◌}
use Rattle.std.proofs.Common.{sym, ap, ◌∙◌}
use Rattle.std.proofs.Math.Path.{subst}
use mathlib.Core.List.{List}
use Rattle.std.proofs.Math.ListN.{length, length-map}
use Rattle.comparison_laws.specs.Stores.{least_store}
use Rattle.comparison_laws.specs.Sheet.{Configuration, Sheet, start}
use Rattle.comparison_laws.specs.SheetBytes.{SheetIs}
use Rattle.comparison_laws.specs.WellFormed.{Admissible}
use Rattle.comparison_laws.specs.Reading.{got, read_sheet, read_choice}
use Rattle.comparison_laws.specs.SheetRead.{sheet_reads, one_sheet}
use Rattle.comparison_laws.specs.ReadingLaws.{written_admissible}
use Rattle.comparison_laws.specs.CallLimits.{Limits}
use Rattle.comparison_laws.specs.Frame.{with_room, with_set, with_work}
use Rattle.comparison_laws.specs.Outcome.{reported}
use Rattle.comparison_laws.specs.Set.{explored}
use Rattle.comparison_laws.specs.Report.{Report, report_on, report_bytes}
use Rattle.comparison_laws.specs.Promise.{starts_of}
use Rattle.comparison_laws.specs.Call.{compare_with}
use Rattle.comparison_laws.specs.CallTheorem.{reports_exactly}
use Rattle.all_starts.specs.Grouping.{grouping_on, grouping_bytes, compare_all_with}
use Rattle.after_rounds.specs.AfterRounds.{after_on, after_bytes, compare_rounds_with}
use Rattle.standing_laws.specs.StandingFacts.{configuration_without, sheet_without, raised_report, raised_grouping, raised_after, outcome_by}
use Rattle.standing_laws.proofs.RaisedSets.{Free}
use Rattle.standing_laws.proofs.RaisedSheets.{AllIn}
use Rattle.standing_laws.proofs.RaisedSet.{explored_in}
use Rattle.standing_laws.proofs.RaisedReport.{report_raised, raised_length}
use Rattle.standing_laws.proofs.RaisedCalls.{framed_raised, after_as_long, grouping_as_long}
use Rattle.standing_laws.proofs.StandingCalls.{z, lower, raised_moves, starts_raised, starts_free, start_free, pair_free, choice_raised, grouped_raised, reached_raised}

module _ (bytes lowered : List ℕ) (sheet : Sheet) (is : SheetIs bytes sheet)
    (below : SheetIs lowered (sheet_without (least_store sheet.rules) sheet)) (l : Limits) (work answer : ℕ) where
  fine : Admissible sheet
  fine = written_admissible bytes sheet is

  reads : read_sheet bytes ≡ got sheet (length bytes)
  reads = (sheet_reads bytes).is_got sheet (length bytes) (is, refl)

  lower_reads : read_sheet lowered ≡ got (lower sheet fine) (length lowered)
  lower_reads = (sheet_reads lowered).is_got (lower sheet fine) (length lowered) (below, refl)

  -- two starts compared, whichever they are
  pub standing_report : (left right : ℕ)
      → compare_with l bytes left right work answer ≡ outcome_by (raised_report (least_store sheet.rules)) (compare_with l lowered left right work answer)
  unfolding compare_with read_choice
  standing_report left right =
      rw (reads, lower_reads)
      (choice_raised sheet fine (raised_report (z sheet fine)) report_bytes (raised_length (z sheet fine)) report_on
      (λ p q f g set inside. report_raised (raised_moves sheet fine) set inside p q f g) l left right work answer (length bytes) (length lowered))

  -- no store of the report without z has a fact of z: with z it is the union
  pub lowered_free : (left right : ℕ) (r : Report) → compare_with l lowered left right work answer ≡ reported r
      → AllIn (Free (least_store sheet.rules)) r.members
  unfolding report_on
  lowered_free left right r e =
      let given = (reports_exactly l lowered left right work answer r).0 e in
      let same : given.sheet ≡ lower sheet fine = one_sheet lowered given.read.written below in
      subst (λ (report : Report). AllIn (Free (z sheet fine)) report.members) (sym given.given)
      (subst (λ (s : Sheet). AllIn (Free (z sheet fine)) (explored s l (starts_of s left right))) (sym same)
      (explored_in (raised_moves sheet fine) l (starts_of (lower sheet fine) left right)
      (pair_free sheet fine (start (lower sheet fine) left) (start (lower sheet fine) right)
      (start_free sheet fine left (there same left given.read.left_there)) (start_free sheet fine right (there same right given.read.right_there)))))
    where
      there : {s : Sheet} → s ≡ lower sheet fine → (k : ℕ) → k < length s.starts → k < length sheet.starts
      there e k h =
          subst (λ (n : ℕ). k < n) (ap (λ (s : Sheet). length s.starts) e ∙ length-map sheet.starts (configuration_without (z sheet fine))) h

  -- all starts
  pub standing_grouping : compare_all_with l bytes work answer ≡ outcome_by (raised_grouping (least_store sheet.rules)) (compare_all_with l lowered work answer)
  unfolding compare_all_with
  standing_grouping =
      rw (reads, lower_reads)
      (ap (λ (ps : List Configuration). with_work work (with_set l sheet ps (λ set. with_room grouping_bytes answer (grouping_on sheet set))))
      (sym (starts_raised sheet fine))
      ∙ framed_raised (raised_moves sheet fine) (raised_grouping (z sheet fine)) grouping_bytes (grouping_as_long (z sheet fine)) l
      (lower sheet fine).starts (starts_free sheet fine)
      (grouping_on (lower sheet fine)) (grouping_on sheet) (grouped_raised sheet fine) work answer)

  -- two starts after so many rounds
  pub standing_rounds : (left right k : ℕ)
      → compare_rounds_with l bytes left right k work answer
      ≡ outcome_by (raised_after (least_store sheet.rules)) (compare_rounds_with l lowered left right k work answer)
  unfolding compare_rounds_with read_choice
  standing_rounds left right k =
      rw (reads, lower_reads)
      (choice_raised sheet fine (raised_after (z sheet fine)) after_bytes (after_as_long (z sheet fine)) (λ s set p q. after_on s set k p q)
      (λ p q f g set inside. reached_raised sheet fine k p q f g set inside) l left right work answer (length bytes) (length lowered))
