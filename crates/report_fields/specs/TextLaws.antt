-- Laws of threads joined by plus signs, of short numbers, and of a text that is stored from a slice's start.
use Rattle.std.specs.Prelude.{◌≡◌, refl, List, [], ◌∷◌, ◌++◌, ℕ, zero, suc, ◌+◌, ◌-◌, ◌≤◌, ◌<◌, length, drop, get_or}
use Rattle.std.proofs.Common.{sym, ap, ap₂, ◌∙◌, subst, append_assoc, append-nil, zero-add, arith, eq-eqb, ne_eqb}
use Rattle.std.proofs.lemmas.List.Edits.{sets-eq}
use Rattle.text.specs.Tabulate.{tabulate, tabulate_none, tabulate_next, tabulate_same}
use Rattle.text.specs.Decimal.{decimal}
use Rattle.text.specs.DecimalLaws.{decimal_short}
use Rattle.comparison.specs.CallLimits.{no_reply}
use Rattle.comparison.specs.Print.{plus, hyphen, more_threads, threads_text}
use Rattle.text.specs.Slices.{Stored}
use Rattle.report_fields.specs.AnswerFields.{threads_in, reply_of}

more_next : (ts : List ℕ) (t : ℕ) → more_threads (ts ++ (t ∷ [])) ≡ more_threads ts ++ (plus ∷ decimal t)
more_next [] t = append-nil (plus ∷ decimal t)
more_next (x ∷ ts) t =
    ap (λ (l : List ℕ). (plus ∷ decimal x) ++ l) (more_next ts t) ∙ sym (append_assoc (plus ∷ decimal x) (more_threads ts) (plus ∷ decimal t))

-- no thread after a plus sign yet, and one more
pub more_none : (f : ℕ → ℕ) → [] ≡ more_threads (tabulate f 0)
more_none f = ap more_threads (sym (tabulate_none f))

pub more_one : (f : ℕ → ℕ) (n : ℕ) → more_threads (tabulate f n) ++ (plus ∷ decimal (f n)) ≡ more_threads (tabulate f (n + 1))
more_one f n = sym (ap more_threads (tabulate_next f n) ∙ more_next (tabulate f n) (f n))

-- the first element, and the others
tabulate_first : (f : ℕ → ℕ) (n : ℕ) → tabulate f (suc n) ≡ f 0 ∷ tabulate (λ j. f (suc j)) n
unfolding tabulate
tabulate_first f zero = refl
tabulate_first f (suc n) = ap (λ (l : List ℕ). l ++ (f (suc n) ∷ [])) (tabulate_first f n)

-- no thread: a hyphen
pub threads_none : (s : List ℕ) (from n : ℕ) → n ≡ 0 → hyphen ∷ [] ≡ threads_text (threads_in s from n)
threads_none s from n e = ap threads_text (sym (ap (threads_in s from) e ∙ tabulate_none (λ j. get_or s (from + j) 0)))

-- the first thread's digits, and the others after plus signs
pub threads_some : (s : List ℕ) (from n : ℕ) → 0 < n
    → decimal (get_or s from 0) ++ more_threads (threads_in s (from + 1) (n - 1)) ≡ threads_text (threads_in s from n)
threads_some s from n h =
    let k : n ≡ suc (n - 1) = omega arith in
    let z : from + 0 ≡ from = omega arith in
    let others : tabulate (λ j. get_or s (from + suc j) 0) (n - 1) ≡ threads_in s (from + 1) (n - 1) =
    tabulate_same (λ j. get_or s (from + suc j) 0) (λ j. get_or s (from + 1 + j) 0) (n - 1)
    (λ j _. let e : from + suc j ≡ from + 1 + j = omega arith in ap (λ (i : ℕ). get_or s i 0) e) in
    let split : threads_in s from n ≡ get_or s from 0 ∷ threads_in s (from + 1) (n - 1) =
    ap (threads_in s from) k
    ∙ tabulate_first (λ j. get_or s (from + j) 0) (n - 1)
    ∙ ap₂ (λ (i : ℕ) (l : List ℕ). get_or s i 0 ∷ l) z others in
    ap threads_text (sym split)

-- a byte has at most three digits, a two-byte number five, a position three
pub byte_short : (n : ℕ) → n < 256 → length (decimal n) ≤ 3
byte_short n h = decimal_short 2 n (omega arith)

pub word_short : (n : ℕ) → n < 65536 → length (decimal n) ≤ 5
word_short n h = decimal_short 4 n (omega arith)

pub position_short : (n : ℕ) → n < 512 → length (decimal n) ≤ 3
position_short n h = decimal_short 2 n (omega arith)

-- a text stored from the slice's start stands there, and the rest stays
pub stored_front : {out after text : List ℕ} {next : ℕ} → Stored out 0 text after next → next ≤ length out
    → after ≡ text ++ drop (length text) out
stored_front {out} {after} {text} s h =
    s.list ∙ sets-eq text out 0 (omega (arith, s.place)) ∙ ap (λ (k : ℕ). text ++ drop k out) (zero-add (length text))

-- the same text, said otherwise
pub stored_as : {before after : List ℕ} {at next : ℕ} {a b : List ℕ} → a ≡ b → Stored before at a after next → Stored before at b after next
stored_as {before} {after} {at} {next} e s = subst (λ (t : List ℕ). Stored before at t after next) e s

-- the two ways of a reply
pub reply_none : (n : ℕ) → n ≡ no_reply → hyphen ∷ [] ≡ reply_of n
reply_none n e = rw (eq-eqb n no_reply e)

pub reply_some : (n : ℕ) → (n ≡ no_reply → ⊥) → decimal n ≡ reply_of n
reply_some n e = rw (ne_eqb n no_reply e)

-- nothing stored yet
pub stored_none : (out : List ℕ) (at : ℕ) → Stored out at [] out at
stored_none out at = record { place = omega arith; list = refl }
