-- Document 01's reading, with 6 for an empty premise, and the reading of card 2: the same for every sheet without an empty premise, and
-- every other refusal stays.
use Rattle.std.specs.Prelude.{◌≡◌, refl, Bool, true, false, length, eqb, ltb}
use Rattle.std.proofs.Common.{sym, ◌∙◌, eqb-true}
use Rattle.std.proofs.Math.Path.{ap, subst}
use Rattle.std.proofs.Math.Logic.{⊎_elim}
use mathlib.Core.List.Memᴰ
use mathlib.Core.List.{List, [], ◌∷◌, ◌++◌, Memᴰ}
use Prim.Native.Nat.{ℕ, zero, suc}
use Rattle.std.proofs.lemmas.Bool.{eqb-false}
use Rattle.comparison_laws.specs.Stores.{Rule}
use Rattle.comparison_laws.specs.SheetLimits.{max_rules}
use Rattle.comparison_laws.specs.Refusals.{many_rules, bytes_left_lem}
use Rattle.comparison_laws.specs.Sheet.{Configuration, Sheet}
use Rattle.comparison_laws.specs.Reading.{Reading, got, refused, and_then, refused_if, records_from, count_at, set_at, facts_at, rule_at, rules_at, nodes_at, starts_at, read_sheet, read_choice, from_nodes}
use Rattle.comparison_laws.specs.SheetBytes.{SheetIs}
use Rattle.comparison_laws.specs.Sound.{got_not_refused}
use Rattle.comparison_laws.specs.SheetRead.{sheet_reads}
use Rattle.comparison_laws.specs.CallLimits.{Limits}
use Rattle.comparison_laws.specs.Outcome.{Outcome}
use Rattle.comparison_laws.specs.Frame.{with_sheet}
use Rattle.comparison_laws.specs.Call.{after_reading, compare_with}
use Rattle.standing_laws.specs.EarlierSheets.{NoneStands, empty_premise, earlier_rule, earlier_rules, earlier_sheet, earlier_choice}

-- ---- two readings, the earlier first: they are the same, or the earlier is refused 6 and what is got now has not the property
pub data Agrees {A : Type 0} (Had : A → Type 0) : Reading A → Reading A → Type 0 where
  same_got : {v : A} {next : ℕ} → Had v → Agrees Had (got v next) (got v next)
  same_refused : {number place : ℕ} → Agrees Had (refused number place) (refused number place)
  refused_empty : {r : Reading A} {place : ℕ} → ((v : A) (next : ℕ) → r ≡ got v next → Had v → ⊥) → Agrees Had (refused empty_premise place) r

-- one reading after another
then_agrees : {A B : Type 0} {HadA : A → Type 0} {HadB : B → Type 0} {e r : Reading A} (f g : A → ℕ → Reading B) → Agrees HadA e r
    → ((v : A) (next : ℕ) → HadA v → Agrees HadB (f v next) (g v next))
    → ((v : A) (next : ℕ) (w : B) (end : ℕ) → g v next ≡ got w end → HadB w → HadA v)
    → Agrees HadB (and_then e f) (and_then r g)
then_agrees f g (same_got h) on back = on _ _ h
then_agrees f g (same_refused) on back = same_refused
then_agrees {A} {B} {HadA} {HadB} f g (refused_empty {r = r} lost) on back = refused_empty (λ w end q h. go r lost w end q h)
  where
    go : (r : Reading A) → ((v : A) (next : ℕ) → r ≡ got v next → HadA v → ⊥) → (w : B) (end : ℕ) → and_then r g ≡ got w end → HadB w → ⊥
    go (got v next) lost w end q h = lost v next refl (back v next w end q h)
    go (refused number place) lost w end q h = got_not_refused (sym q)

-- what is read in one way
itself_agrees : {A : Type 0} {Had : A → Type 0} (r : Reading A) → ((v : A) (next : ℕ) → r ≡ got v next → Had v) → Agrees Had r r
itself_agrees (got v next) h = same_got (h v next refl)
itself_agrees (refused number place) h = same_refused

-- ---- rules
-- a rule whose premise is not empty
abbrev Starts : Rule → Type 0
Starts r = r.premise ≡ 0 → ⊥

module _ (facts : ℕ) (s : List ℕ) where
  rule_agrees : (at : ℕ) → Agrees Starts (earlier_rule facts s at) (rule_at facts s at)
  unfolding rule_at
  rule_agrees at =
      then_agrees _ _ (itself_agrees {Had = λ p. Unit {0}} (set_at facts s at) (λ p next e. tt)) (λ p next h. go p next (eqb p 0) refl)
      (λ p next w end e h. tt)
    where
      concluded : (p : ℕ) → Reading ℕ → Reading Rule
      concluded p r = and_then r (λ c end. got (record { premise = p; conclusion = c }) end)

      premise_of_lem : (p : ℕ) (r : Reading ℕ) (w : Rule) (end : ℕ) → concluded p r ≡ got w end → w.premise ≡ p
      premise_of_lem p (got c next) w end e = cc
      premise_of_lem p (refused number place) w end e = absurd (got_not_refused (sym e))

      go : (p next : ℕ) (b : Bool) → eqb p 0 ≡ b
          → Agrees Starts (refused_if b empty_premise at (concluded p (set_at facts s next))) (concluded p (set_at facts s next))
      go p next true e = refused_empty (λ w end q h. h (premise_of_lem p (set_at facts s next) w end q ∙ eqb-true p 0 e))
      go p next false e =
          itself_agrees (concluded p (set_at facts s next)) (λ w end q z. eqb-false p 0 e (sym (premise_of_lem p (set_at facts s next) w end q) ∙ z))

  -- what was read before stays among the records
  records_keep : (n : ℕ) (read : List Rule) (at : ℕ) (rules : List Rule) (end : ℕ)
      → records_from (λ read p. rule_at facts s p) n read at ≡ got rules end
      → (r : Rule) → Memᴰ r read → Memᴰ r rules
  unfolding records_from
  records_keep zero read at rules end e r m = let q : read ≡ rules = cc in subst (λ (l : List Rule). Memᴰ r l) q m
  records_keep (suc n) read at rules end e r m =
      go (λ q next i. records_keep n (read ++ (q ∷ [])) next rules end i r (Memᴰ.append_left (q ∷ []) m)) (rule_at facts s at) e
    where
      go : ((q : Rule) (next : ℕ) → records_from (λ read p. rule_at facts s p) n (read ++ (q ∷ [])) next ≡ got rules end → Memᴰ r rules)
          → (x : Reading Rule) → and_then x (λ q next. records_from (λ read p. rule_at facts s p) n (read ++ (q ∷ [])) next) ≡ got rules end
          → Memᴰ r rules
      go on (got q next) i = on q next i
      go on (refused number place) i = absurd (got_not_refused (sym i))

  rules_agree : (n : ℕ) (read : List Rule) (at : ℕ) → NoneStands read
      → Agrees NoneStands (records_from (λ read p. earlier_rule facts s p) n read at) (records_from (λ read p. rule_at facts s p) n read at)
  unfolding records_from
  rules_agree zero read at h = same_got h
  rules_agree (suc n) read at h =
      then_agrees _ _ (rule_agrees at)
      (λ q next k. rules_agree n (read ++ (q ∷ [])) next (λ r m. ⊎_elim (λ (o : Memᴰ r read). h r o)
      (λ (o : Memᴰ r (q ∷ [])). subst Starts (sym (Memᴰ.eq_of_singleton o)) k) (Memᴰ.append_cases read m)))
      (λ q next rules end e k. k q (records_keep n (read ++ (q ∷ [])) next rules end e q (Memᴰ.append_right read (Memᴰ.head refl))))

  rule_sections_agree : (at : ℕ) → Agrees NoneStands (earlier_rules facts s at) (rules_at facts s at)
  unfolding rules_at
  rule_sections_agree at =
      then_agrees _ _ (itself_agrees {Had = λ n. Unit {0}} (count_at 0 max_rules many_rules s at) (λ n next e. tt))
      (λ n next h. rules_agree n [] next (λ r m. absurd (Memᴰ.not-nil m))) (λ n next w end e h. tt)

-- ---- the sheet
-- the rules of a sheet are those that were read
rules_are : (facts : ℕ) (s : List ℕ) (rules : List Rule) (q : ℕ) (sheet : Sheet) (end : ℕ)
    → from_nodes facts s rules q ≡ got sheet end → sheet.rules ≡ rules
rules_are facts s rules q sheet end e = nodes (nodes_at facts rules s q) e
  where
    last : (b : Bool) (n : ℕ) (x : Sheet) → refused_if b bytes_left_lem n (got x n) ≡ got sheet end → x ≡ sheet
    last true n x i = absurd (got_not_refused (sym i))
    last false n x i = cc

    starts : (nodes : _) (r : Reading (List Configuration))
        → and_then r (λ starts n.
        refused_if (ltb n (length s)) bytes_left_lem n (got (record { facts = facts; rules = rules; nodes = nodes; starts = starts }) n)) ≡ got sheet end
        → sheet.rules ≡ rules
    starts nodes (got v n) i = ap (λ (x : Sheet). x.rules) (sym (last (ltb n (length s)) n _ i))
    starts nodes (refused number place) i = absurd (got_not_refused (sym i))

    nodes : (r : Reading _) → and_then r (λ nodes t.
        and_then (starts_at facts rules nodes s t) (λ starts n.
        refused_if (ltb n (length s)) bytes_left_lem n (got (record { facts = facts; rules = rules; nodes = nodes; starts = starts }) n))) ≡ got sheet end
        → sheet.rules ≡ rules
    nodes (got v t) i = starts v (starts_at facts rules v s t) i
    nodes (refused number place) i = absurd (got_not_refused (sym i))

-- Document 01's reading and that of card 2, for every byte string: the same, or 6 then and, where it is a sheet now, one with an empty premise.
pub readings_agree : (s : List ℕ) → Agrees (λ sheet. NoneStands sheet.rules) (earlier_sheet s) (read_sheet s)
unfolding read_sheet
readings_agree s =
    then_agrees _ _ (itself_agrees {Had = λ n. Unit {0}} (facts_at s 0) (λ n next e. tt))
    (λ facts p h. then_agrees (from_nodes facts s) (from_nodes facts s) (rule_sections_agree facts s p)
    (λ rules q k. itself_agrees (from_nodes facts s rules q) (λ sheet end e. subst NoneStands (sym (rules_are facts s rules q sheet end e)) k))
    (λ rules q sheet end e k. subst NoneStands (rules_are facts s rules q sheet end e) k))
    (λ facts p w end e h. tt)

-- ---- what follows for a byte string
module _ (s : List ℕ) where
  -- a sheet without an empty premise is read as it was
  pub sheet_as_before : (sheet : Sheet) (end : ℕ) → read_sheet s ≡ got sheet end → NoneStands sheet.rules → earlier_sheet s ≡ read_sheet s
  sheet_as_before sheet end e k = go (readings_agree s) e
    where
      go : {x y : Reading Sheet} → Agrees (λ sheet. NoneStands sheet.rules) x y → y ≡ got sheet end → x ≡ y
      go (same_got h) i = refl
      go (same_refused) i = refl
      go (refused_empty lost) i = absurd (lost sheet end i k)

  -- what was read is read, and has no empty premise
  pub sheet_kept : (sheet : Sheet) (end : ℕ) → earlier_sheet s ≡ got sheet end → (read_sheet s ≡ got sheet end) × NoneStands sheet.rules
  sheet_kept sheet end e = go (readings_agree s) e
    where
      go : {x y : Reading Sheet} → Agrees (λ sheet. NoneStands sheet.rules) x y → x ≡ got sheet end → (y ≡ got sheet end) × NoneStands sheet.rules
      go (same_got {v = v} h) i = let q : v ≡ sheet = cc in (i, subst (λ (x : Sheet). NoneStands x.rules) q h)
      go (same_refused) i = absurd (got_not_refused (sym i))
      go (refused_empty lost) i = absurd (got_not_refused (sym i))

  -- what was refused is refused by the same number at the same place, but for 6
  pub refusal_kept : (number place : ℕ) → earlier_sheet s ≡ refused number place → (number ≡ empty_premise → ⊥)
      → read_sheet s ≡ refused number place
  refusal_kept number place e k = go (readings_agree s) e
    where
      go : {x y : Reading Sheet} → Agrees (λ sheet. NoneStands sheet.rules) x y → x ≡ refused number place → y ≡ refused number place
      go (same_got h) i = absurd (got_not_refused i)
      go (same_refused) i = i
      go (refused_empty lost) i = let q : number ≡ empty_premise = cc in absurd (k q)

-- ---- what follows for every call, which goes by the sheet or by the choice
module _ (s : List ℕ) (sheet : Sheet) (is : SheetIs s sheet) (none : NoneStands sheet.rules) where
  pub bytes_as_before : earlier_sheet s ≡ read_sheet s
  bytes_as_before = sheet_as_before s sheet (length s) ((sheet_reads s).is_got sheet (length s) (is, refl)) none

  pub choice_as_before : (left right : ℕ) → earlier_choice s left right ≡ read_choice s left right
  unfolding read_choice
  choice_as_before left right = rw bytes_as_before

  -- whatever a call makes of a sheet without an empty premise
  pub call_as_before : {A : Type 0} (on : Sheet → Outcome A) (left right : ℕ)
      → with_sheet (earlier_choice s left right) on ≡ with_sheet (read_choice s left right) on
  call_as_before on left right = ap (λ (r : Reading Sheet). with_sheet r on) (choice_as_before left right)

  pub call_of_all_as_before : {A : Type 0} (on : Sheet → Outcome A) → with_sheet (earlier_sheet s) on ≡ with_sheet (read_sheet s) on
  call_of_all_as_before on = ap (λ (r : Reading Sheet). with_sheet r on) bytes_as_before

  -- the comparing call, within any limits: the report that it got before, byte for byte
  pub report_as_before : (l : Limits) (left right work answer : ℕ)
      → after_reading l left right work answer (earlier_choice s left right) ≡ compare_with l s left right work answer
  unfolding compare_with
  report_as_before l left right work answer = ap (after_reading l left right work answer) (choice_as_before left right)
