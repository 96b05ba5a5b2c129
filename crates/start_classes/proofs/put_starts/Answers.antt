-- Each turn stores the class of one start more: after i of them the classes of the first i starts stand in the slice.
use mathlib.Core.List.{[]}
use mathlib.Core.Path.{◌≡◌, ap, ◌∙◌, subst}
use Prim.Native.Nat.{ℕ, ◌<◌}
use native.Mathlib.Omega.{arith}
use lib.ListN.{get_or}
use Rattle.packing.specs.ListPlaces.{get_d_any}
use Rattle.packing.specs.SheetBytes.{word_bytes}
use Rattle.sheet_types.specs.declared.Configuration.{Configuration}
use Rattle.sheet_types.specs.HeldSheet.{configuration, no_configuration}
use Rattle.report_records.specs.Slices.{Stored}
use Rattle.report_records.specs.StoredText.{stored_length}
use Rattle.report_bytes.specs.BytesStored.{stored_none, stored_next}
use Rattle.start_classes.specs.StartClasses.{class_held, start_bytes_at}
use Rattle.start_classes.specs.StartClassLaws.{start_held, starts_length}
use Rattle.start_classes.proofs.put_starts.Goals as goal

pub loop-i-init : goal.loop-i-init
loop-i-init c =
    let args = c.args in
    stored_none (start_bytes_at args.work.now args.n args.starts) args.out.now args.at

pub class_of-class-requires : goal.class_of-class-requires
class_of-class-requires c =
    let args = c.args in
    let i : ℕ = c.loop-i.i in
    let l : i < args.k = omega arith in
    let d : Configuration = record { store = 0; count = 0; threads = [] } in
    rw (get_d_any args.starts i d no_configuration (omega (arith, c.requires.0.count))) (start_held c.requires.0 l)

pub put_word-next-requires : goal.put_word-next-requires
put_word-next-requires c =
    let args = c.args in
    let s = c.loop-i.invariant in
    omega (
      arith,
      c.requires.1,
      s.place,
      stored_length s,
      starts_length args.work.now args.n args.starts c.loop-i.i,
    )

pub loop-i-preserved : goal.loop-i-preserved
loop-i-preserved c =
    let args = c.args in
    let i : ℕ = c.loop-i.i in
    let l : i < args.k = omega arith in
    let d : Configuration = record { store = 0; count = 0; threads = [] } in
    let put = c.put_word-next in
    let read : get_or args.starts i d ≡ get_or args.starts i no_configuration =
    get_d_any args.starts i d no_configuration (omega (arith, c.requires.0.count)) in
    let class = c.class_of-class.ensures ∙ ap (λ (p : Configuration). class_held args.work.now args.n (configuration p)) read in stored_next (start_bytes_at args.work.now args.n args.starts) i c.loop-i.invariant
    (subst (λ (x : ℕ). Stored c.loop-i.out c.loop-i.next (word_bytes x) put.new.out put.result) class put.ensures)
