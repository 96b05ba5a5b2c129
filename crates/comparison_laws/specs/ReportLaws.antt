-- How many bytes a report has, and that the room named by the limits suffices for it.
use Rattle.std.specs.Prelude.{◌≡◌, refl, false, ℕ, ◌+◌, ◌*◌, ◌≤◌, length, ltb}
use Rattle.std.proofs.Common.{◌∙◌, arith, suc-mul, le_trans, mul-le-mul_right, length-append, ltb-false}
use mathlib.Core.List.{List, [], ◌∷◌, ◌++◌, Memᴰ}
use Rattle.move_laws.specs.TestLaws.{or_false}
use Rattle.move_laws.specs.Lists.{any, concat_map}
use Rattle.move_laws.specs.Members.{any_no}
use Rattle.move_laws.specs.Sheet.{Configuration, Sheet}
use Rattle.comparison.specs.CallLimits.{Limits, word_length, member_length, step_length, report_room}
use Rattle.comparison.specs.Set.{over}
use Rattle.comparison.specs.Classes.{class_of}
use Rattle.comparison.specs.Rounds.{rounds}
use Rattle.comparison.specs.Trail.{TrailStep}
use Rattle.comparison.specs.SheetBytes.{word_bytes}
use Rattle.comparison.specs.Report.{member_bytes, members_bytes, step_bytes, Report, report_on, report_bytes}
use Rattle.comparison_laws.specs.TrailLaws.{trail_length}

-- the bytes of the members, one after another
abbrev pub members_length : List Configuration → ℕ
members_length [] = 0
members_length (p ∷ ps) = member_length (length p.threads) + members_length ps

pub member_length_lem : (p : Configuration) (class : ℕ) → length (member_bytes p class) ≡ member_length (length p.threads)
member_length_lem p class = let e : length (p.threads ++ word_bytes class) ≡ length p.threads + 2 = length-append p.threads (word_bytes class) in omega arith

pub members_length_lem : (set : List Configuration) (classes : List ℕ) → length (members_bytes set classes) ≡ members_length set
members_length_lem set classes = each set
  where
    each : (ps : List Configuration) → length (concat_map (λ p. member_bytes p (class_of set classes p)) ps) ≡ members_length ps
    each [] = refl
    each (p ∷ ps) =
        length-append (member_bytes p (class_of set classes p)) (concat_map (λ p. member_bytes p (class_of set classes p)) ps)
        ∙ rw (member_length_lem p (class_of set classes p), each ps)

pub steps_length : (set : List Configuration) (steps : List TrailStep) → length (concat_map (step_bytes set) steps) ≡ length steps * step_length
steps_length set [] = refl
steps_length set (s ∷ ss) = omega (arith, steps_length set ss)

-- A report's length: the count of members, the members, the count of steps, the steps.
pub report_length_lem : (r : Report)
    → length (report_bytes r) ≡ word_length + members_length r.members + word_length + length r.steps * step_length
report_length_lem r =
    let ms : List ℕ = members_bytes r.members r.classes in
    let ss : List ℕ = concat_map (step_bytes r.members) r.steps in
    let a : length ((ms ++ word_bytes (length r.steps)) ++ ss) ≡ length (ms ++ word_bytes (length r.steps)) + length ss = length-append (ms ++ word_bytes (length r.steps)) ss in
    let b : length (ms ++ word_bytes (length r.steps)) ≡ length ms + 2 = length-append ms (word_bytes (length r.steps)) in
    omega (arith, a, b, members_length_lem r.members r.classes, steps_length r.members r.steps)

-- members of at most t threads
members_short : (t : ℕ) (ps : List Configuration) → ((p : Configuration) → Memᴰ p ps → length p.threads ≤ t) → members_length ps ≤ length ps * member_length t
members_short t [] f = omega arith
members_short t (p ∷ ps) f =
    let ih : members_length ps ≤ length ps * member_length t = members_short t ps (λ q m. f q (Memᴰ.tail m)) in
    let here : length p.threads ≤ t = f p (Memᴰ.head refl) in
    rw (suc-mul (length ps) (member_length t)) (omega arith)

-- a set that passes no limit has at most so many members, each of at most so many threads
pub within_limits : (l : Limits) (set : List Configuration) → over l set ≡ false
    → (length set ≤ l.members) × ((m : Configuration) → Memᴰ m set → length m.threads ≤ l.threads)
within_limits l set within =
    let no = or_false (ltb l.members (length set)) (any (λ m. ltb l.threads (length m.threads)) set) within in (
      ltb-false l.members (length set) no.0,
      (λ m i. ltb-false l.threads (length m.threads) (any_no (λ m. ltb l.threads (length m.threads)) set no.1 i)),
    )

members_shorter : (l : Limits) (set : List Configuration) → over l set ≡ false → members_length set ≤ l.members * member_length l.threads
members_shorter l set within =
    let h = within_limits l set within in
    le_trans (members_short l.threads set h.1) (mul-le-mul_right (member_length l.threads) h.0)

-- the room that the limits name for the members of a set that passes none of them
pub members_room : (l : Limits) (set : List Configuration) (classes : List ℕ) → over l set ≡ false
    → length (members_bytes set classes) ≤ l.members * member_length l.threads
members_room l set classes within = omega (arith, members_length_lem set classes, members_shorter l set within)

-- The room named by the limits suffices for a report on a set that passes none of them, where it has no more rounds than members.
pub report_room_within : (sheet : Sheet) (l : Limits) (set : List Configuration) (p q : Configuration)
    → over l set ≡ false → length (rounds sheet set) ≤ length set → length (report_bytes (report_on sheet set p q)) ≤ report_room l
unfolding report_on
report_room_within sheet l set p q within rounds_few =
    omega (
      arith,
      report_length_lem (report_on sheet set p q),
      members_shorter l set within,
      (within_limits l set within).0,
      trail_length sheet set (rounds sheet set) p q,
    )
