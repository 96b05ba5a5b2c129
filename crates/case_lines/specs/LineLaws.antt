-- Laws of places, of bytes of a class, and of digits read one after another.
use Rattle.std.specs.Prelude.{Option, Some, None, ◌≡◌, refl, Bool, true, false, cond, ◌&&◌, List, [], ◌∷◌, ◌++◌, ℕ, zero, suc, ◌+◌, ◌*◌, ◌-◌, ◌/◌, ◌^◌, ◌≤◌, ◌<◌, length, get_or, take, drop, set, eqb, leb}
use Rattle.std.proofs.Math.Path.{sym}
use Rattle.std.proofs.Common.{ap, ◌∙◌, pow-suc, add-one, arith, length-append, length-drop, drop_of_length-le, drop-cons, take-suc, eq-eqb, ne_eqb, leb-true}
use Rattle.std.proofs.Math.Nat.{pow-le-pow_right}
use Rattle.std.proofs.lemmas.List.{set_at}
use Rattle.std.proofs.Math.Seq.{append_snoc}
use Rattle.std.specs.List.{list_all}
use Rattle.list_laws.specs.TestLaws.{and_left, and_right}
use Rattle.list_laws.specs.Lists.{all}
use Rattle.list_laws.specs.Tabulate.{tabulate, tabulate_next, tabulate_length}
use Rattle.printed_lines.specs.Decimal.{value_from, value}
use Rattle.printed_lines.specs.Lines.{space}
use Rattle.case_lines.specs.Lines.{before, end_from, after_from, between, byte_of, most_digits, field_at, number_of, call_of, wrong_name, bytes_of, undecodable, Decoded, passed_over, case_of, line_of, Inside}
use Rattle.case_lines.specs.declared.Call.{Call}
use Rattle.case_lines.specs.declared.Case.{Case}
use Rattle.case_lines.specs.declared.Line.{Line}
use Rattle.case_lines.specs.declared.Line.TheVariants.{Passed, Malformed, Holds}

-- ---- places
pub end_there : (stop : ℕ) (s : List ℕ) (i : ℕ) → i < length s → get_or s i 0 ≡ stop → end_from stop s i ≡ i
unfolding before
end_there stop s i h e = rw (drop-cons s i 0 h, before, eq-eqb (get_or s i 0) stop e) (omega arith)

pub end_further : (stop : ℕ) (s : List ℕ) (i : ℕ) → i < length s → (get_or s i 0 ≡ stop → ⊥) → end_from stop s i ≡ end_from stop s (i + 1)
unfolding before
end_further stop s i h e = rw (drop-cons s i 0 h, before, ne_eqb (get_or s i 0) stop e, add-one i) (omega arith)

pub end_past : (stop : ℕ) (s : List ℕ) (i : ℕ) → length s ≤ i → end_from stop s i ≡ i
unfolding before
end_past stop s i h = rw (drop_of_length-le s h, before) (omega arith)

before_within : (stop : ℕ) (s : List ℕ) → before stop s ≤ length s
unfolding before
before_within stop [] = omega arith
before_within stop (b ∷ bs) = go (before_within stop bs) (eqb b stop)
  where
    go : before stop bs ≤ length bs → (t : Bool) → cond t 0 (suc (before stop bs)) ≤ suc (length bs)
    go ih true = omega arith
    go ih false = omega arith

-- a field's end is within the line
pub end_within : (stop : ℕ) (s : List ℕ) (at : ℕ) → at ≤ length s → end_from stop s at ≤ length s
end_within stop s at h = omega (arith, before_within stop (drop at s), length-drop at s)

-- ---- bytes of a class
-- std's test is the same
pub all_is : (p : ℕ → Bool) (s : List ℕ) → list_all p s ≡ all p s
all_is p [] = refl
all_is p (b ∷ bs) = ap (λ (r : Bool). p b && r) (all_is p bs)

pub all_at : (p : ℕ → Bool) (s : List ℕ) → all p s ≡ true → (i : ℕ) → i < length s → p (get_or s i 0) ≡ true
all_at p [] h i l = absurd (omega arith)
all_at p (b ∷ bs) h zero l = and_left (p b) (all p bs) h
all_at p (b ∷ bs) h (suc i) l = all_at p bs (and_right (p b) (all p bs) h) i (omega arith)

pub record Within (low high b : ℕ) : Type 0 where
  pub above : low ≤ b
  pub below : b ≤ high

pub between_within : (low high b : ℕ) → between low high b ≡ true → Within low high b
between_within low high b h =
    record { above = leb-true low b (and_left (leb low b) (leb b high) h); below = leb-true b high (and_right (leb low b) (leb b high) h) }

-- ---- digits one after another
value_more : (n : ℕ) (ds : List ℕ) (d : ℕ) → value_from n (ds ++ (d ∷ [])) ≡ 10 * value_from n ds + (d - 48)
unfolding value_from
value_more n [] d = refl
value_more n (x ∷ ds) d = value_more (10 * n + (x - 48)) ds d

pub value_none : (s : List ℕ) → value (take 0 s) ≡ 0
unfolding value_from
value_none s = refl

pub value_next : (s : List ℕ) (i : ℕ) → i < length s → value (take (i + 1) s) ≡ 10 * value (take i s) + (get_or s i 0 - 48)
value_next s i h = rw (add-one i, take-suc s i 0 h) (value_more 0 (take i s) (get_or s i 0))

-- one byte more from the start on
pub stored_next : (f : ℕ → ℕ) (l : List ℕ) (i : ℕ) → i < length l → set (tabulate f i ++ drop i l) i (f i) ≡ tabulate f (i + 1) ++ drop (i + 1) l
stored_next f l i h =
    rw (drop-cons l i 0 h, tabulate_next f i, add-one i) (set_at (tabulate f i) (get_or l i 0) (drop (suc i) l) (f i) i (tabulate_length f i) ∙ sym (append_snoc (tabulate f i) (f i) (drop (suc i) l)))

-- a number with one digit more
pub digits_more : (n i d : ℕ) → n < 10 ^ i → d ≤ 57 → 10 * n + (d - 48) < 10 ^ (i + 1)
digits_more n i d h k = rw (add-one i) (omega (arith, pow-suc 10 i))

-- so many digits fit
pub digits_fit : (n i : ℕ) → n < 10 ^ i → i < most_digits → 10 * n + 9 < 2 ^ 64
digits_fit n i h k = omega (arith, pow-le-pow_right {n = 10} (omega arith) {i = i} {j = 18} (omega arith))

-- ---- a case, field after field
module _ (call : Call) (line : List ℕ) (at : ℕ) where
  pub case_no_name : wrong_name (field_at line at) ≡ true → case_of call line at ≡ Malformed
  unfolding case_of
  case_no_name h = rw (case_of, h)

  module _ (named : wrong_name (field_at line at) ≡ false) {p : ℕ} (first : p ≡ after_from space line at) where
    pub case_no_left : number_of (field_at line p) ≡ None → case_of call line at ≡ Malformed
    unfolding case_of
    case_no_left h = rw (case_of, named, sym first, h)

    module _ {q l : ℕ} (left : number_of (field_at line p) ≡ Some l) (second : q ≡ after_from space line p) where
      pub case_no_right : number_of (field_at line q) ≡ None → case_of call line at ≡ Malformed
      unfolding case_of
      case_no_right h = rw (case_of, named, sym first, left, sym second, h)

      pub case_holds : {r d : ℕ} → number_of (field_at line q) ≡ Some r → d ≡ after_from space line q
          → case_of call line at ≡ Holds (record { call = call; name = at; until = end_from space line at; left = l; right = r; digits = d })
      unfolding case_of
      case_holds h third = rw (case_of, named, sym first, left, sym second, h, sym third)

-- ---- a line whose first field names a call, and one whose does not
module _ (line : List ℕ) (kept : passed_over line ≡ false) where
  pub line_unknown : call_of (field_at line 0) ≡ None → line_of line ≡ Malformed
  line_unknown h = rw (kept, h)

  pub line_named : {call : Call} → call_of (field_at line 0) ≡ Some call → line_of line ≡ case_of call line (after_from space line 0)
  line_named h = rw (kept, h)

-- ---- what callers lend is within
-- the bytes that were decoded are within the slice
pub decoded_inside : {ds before after : List ℕ} {r : Option ℕ} {n : ℕ} → Decoded ds before after r → r ≡ Some n → n ≤ length after
decoded_inside {ds} {before} {after} {r} {n} d e = go (undecodable ds before) refl
  where
    go : (t : Bool) → undecodable ds before ≡ t → n ≤ length after
    go true h =
        let f : r ≡ None = rw h at d.count in
        let z : ◌≡◌ {A = ℕ} 0 1 = cc in
        absurd (omega arith)
    go false h =
        let f : r ≡ Some (length ds / 2) = rw h at d.count in
        let k : length ds / 2 ≡ n = cc in
        let g : after ≡ bytes_of ds ++ drop (length ds / 2) before = rw h at d.slice in
        omega (arith, ap length g, length-append (bytes_of ds) (drop (length ds / 2) before), tabulate_length (byte_of ds) (length ds / 2))

-- a case's name and digits are on its line
pub case_inside : (line : List ℕ) {k : Case} → line_of line ≡ Holds k → Inside line k
case_inside line {k} e = go (passed_over line) refl (call_of (field_at line 0)) refl
  where
    never : {A : Type 0} (l : Line) → l ≡ Holds k → l ≡ Malformed → A
    never l f g = let z : ◌≡◌ {A = ℕ} 0 1 = cc in absurd (omega arith)

    held : (call : Call) (at : ℕ) → at ≤ length line → case_of call line at ≡ Holds k → (w : Bool) → wrong_name (field_at line at) ≡ w
        → (l : Option ℕ) → number_of (field_at line (after_from space line at)) ≡ l
        → (r : Option ℕ) → number_of (field_at line (after_from space line (after_from space line at))) ≡ r → Inside line k
    held call at h f true hw l hl r hr = never (case_of call line at) f (case_no_name call line at hw)
    held call at h f false hw None hl r hr = never (case_of call line at) f (case_no_left call line at hw refl hl)
    held call at h f false hw (Some l) hl None hr = never (case_of call line at) f (case_no_right call line at hw refl hl refl hr)
    held call at h f false hw (Some l) hl (Some r) hr =
        let d = after_from space line (after_from space line (after_from space line at)) in
        let i : record { call = call; name = at; until = end_from space line at; left = l; right = r; digits = d } ≡ k =
        cc (case_holds call line at hw refl hl refl hr refl) in
        record {
          begins = omega (arith, ap (λ (x : Case). x.name) i, ap (λ (x : Case). x.until) i);
          ends = omega (arith, ap (λ (x : Case). x.until) i, end_within space line at h);
          digits = omega (arith, ap (λ (x : Case). x.digits) i);
        }

    go : (t : Bool) → passed_over line ≡ t → (m : Option Call) → call_of (field_at line 0) ≡ m → Inside line k
    go true h m hm =
        let e' : Passed ≡ Holds k = rw h at e in
        let z : ◌≡◌ {A = ℕ} 0 1 = cc in
        absurd (omega arith)
    go false h None hm = never (line_of line) e (line_unknown line h hm)
    go false h (Some call) hm =
        let at = after_from space line 0 in
        held call at (omega arith) (sym (line_named line h hm) ∙ e) (wrong_name (field_at line at)) refl (number_of (field_at line (after_from space line at))) refl
        (number_of (field_at line (after_from space line (after_from space line at)))) refl
