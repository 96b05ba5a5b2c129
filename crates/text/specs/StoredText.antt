-- Laws of text that is stored piece after piece.
use Rattle.std.specs.Prelude.{◌≡◌, refl, List, [], ◌∷◌, ◌++◌, ℕ, suc, ◌+◌, ◌-◌, ◌≤◌, ◌<◌, length, get_or, take, drop, set}
use Rattle.std.proofs.Common.{sym, ap, ◌∙◌, subst, zero-add, add-one, arith, length-append, append_assoc, set-set, take-suc, length-take-le, lt-ltb, le-ltb}
use borrow.Rule.Slice.PartMut.{put_mid}
use Rattle.std.proofs.lemmas.List.{append-nil, drop-drop}
use Rattle.std.proofs.lemmas.List.Edits.{sets, sets-eq}
use Rattle.std.proofs.Math.Seq.{length-sets, take_all}
use Rattle.list_laws.specs.Storing.{sets_append}
use Rattle.printed_lines.specs.Lines.{line_feed, field, fields, line}
use Rattle.text.specs.Slices.{Stored, line_room, Written}

-- from the slice's start
sets_front : (l t : List ℕ) → length t ≤ length l → sets l 0 t ≡ t ++ drop (length t) l
sets_front l t h = sets-eq t l 0 (omega arith) ∙ ap (λ (k : ℕ). t ++ drop k l) (zero-add (length t))

-- a text stored over its first byte
sets_over : (l : List ℕ) (at d : ℕ) (t : List ℕ) → 0 < length t → sets (set l at d) at t ≡ sets l at t
sets_over l at d [] h = absurd (omega arith)
sets_over l at d (x ∷ t) h = ap (λ (r : List ℕ). sets r (suc at) t) (set-set l at d x)

-- ---- texts one after another
pub stored_then : {before middle after : List ℕ} {at mid next : ℕ} {a b : List ℕ}
    → Stored before at a middle mid → Stored middle mid b after next → Stored before at (a ++ b) after next
stored_then {before} {at = at} {a = a} {b} s t =
    record {
      place = omega (arith, s.place, t.place, length-append a b);
      list = t.list ∙ rw (s.list, s.place) (sets_append before at a b);
    }

pub stored_byte : (out : List ℕ) (at b : ℕ) → Stored out at (b ∷ []) (set out at b) (at + 1)
stored_byte out at b = record { place = refl; list = refl }

-- a text put over as many bytes
pub stored_whole : (out : List ℕ) (at : ℕ) (text part : List ℕ) → at + length text ≤ length out → part ≡ text
    → Stored out at text (put_mid at (at + length text - at) out part) (at + length text)
stored_whole out at text part h e =
    let n : at + length text - at ≡ length text = omega arith in
    record {
      place = refl;
      list = rw (e, n, drop-drop (length text) at out, sets-eq text out at h) (sym (append_assoc (take at out) text (drop (at + length text) out)));
    }

-- one byte more of a text
pub stored_more : {before after : List ℕ} {at next : ℕ} (text : List ℕ) (i : ℕ) → i < length text → Stored before at (take i text) after next
    → Stored before at (take (i + 1) text) (set after next (get_or text i 0)) (next + 1)
stored_more {before} {after} {at} {next} text i h s =
    subst (λ (t : List ℕ). Stored before at t (set after next (get_or text i 0)) (next + 1))
    (sym (take-suc text i 0 h) ∙ ap (λ (k : ℕ). take k text) (sym (add-one i))) (stored_then s (stored_byte after next (get_or text i 0)))

-- a text whose first byte stood there already
pub stored_over : (before : List ℕ) (at d : ℕ) {after text : List ℕ} {next : ℕ} → 0 < length text → Stored (set before at d) at text after next
    → Stored before at text after next
stored_over before at d {text = text} h s = record { place = s.place; list = s.list ∙ sets_over before at d text h }

pub stored_length : {before after text : List ℕ} {at next : ℕ} → Stored before at text after next → length after ≡ length before
stored_length {before} {text = text} {at} s = ap length s.list ∙ length-sets before at text

-- a line stored from the slice's start, where there is room
pub line_written_lem : {out after text : List ℕ} {next : ℕ} → Stored out 0 text after next → line_room ≤ length out → next ≤ line_room
    → Written text out after next
line_written_lem {out} {after} {text} {next} s h k =
    let fits : next ≤ length after = omega (arith, stored_length s) in
    record {
      count = rw (le-ltb (length out) line_room h) (omega (arith, s.place));
      slice = rw (le-ltb (length out) line_room h) (s.list ∙ sets_front out text (omega (arith, s.place)));
      inside = fits;
      counted = sym (length-take-le next after fits);
    }

-- a slice without room
pub line_kept : {text out : List ℕ} → length out < line_room → Written text out out 0
line_kept {out = out} h =
    record { count = rw (lt-ltb (length out) line_room h); slice = rw (lt-ltb (length out) line_room h); inside = omega arith; counted = refl }

-- ---- a line, field after field
unfoldable pub head_fields : List ℕ → List ℕ
head_fields [] = []
head_fields (n ∷ ns) = field n ++ head_fields ns

fields_ended : (ns : List ℕ) → head_fields ns ++ (line_feed ∷ []) ≡ fields ns
unfolding head_fields
fields_ended [] = refl
fields_ended (n ∷ ns) = append_assoc (field n) (head_fields ns) (line_feed ∷ []) ∙ ap (λ (x : List ℕ). field n ++ x) (fields_ended ns)

fields_more : (ns : List ℕ) (n : ℕ) → head_fields (ns ++ (n ∷ [])) ≡ head_fields ns ++ field n
unfolding head_fields
fields_more [] n = append-nil (field n)
fields_more (m ∷ ns) n = ap (λ (x : List ℕ). field m ++ x) (fields_more ns n) ∙ sym (append_assoc (field m) (head_fields ns) (field n))

-- the word
pub line_begun : {before after word : List ℕ} {at next : ℕ} (ns : List ℕ) → Stored before at word after next
    → Stored before at (word ++ head_fields (take 0 ns)) after next
unfolding head_fields
line_begun {before} {after} {word} {at} {next} ns s = subst (λ (t : List ℕ). Stored before at t after next) (sym (append-nil word)) s

-- one field more
pub line_continued : {before middle after : List ℕ} {at mid next : ℕ} (word ns : List ℕ) (i : ℕ) → i < length ns
    → Stored before at (word ++ head_fields (take i ns)) middle mid → Stored middle mid (field (get_or ns i 0)) after next
    → Stored before at (word ++ head_fields (take (i + 1) ns)) after next
line_continued {before} {after = after} {at} {next = next} word ns i h s t =
    let more : take (i + 1) ns ≡ take i ns ++ (get_or ns i 0 ∷ []) = ap (λ (k : ℕ). take k ns) (add-one i) ∙ take-suc ns i 0 h in
    let e : (word ++ head_fields (take i ns)) ++ field (get_or ns i 0) ≡ word ++ head_fields (take (i + 1) ns) =
    append_assoc word (head_fields (take i ns)) (field (get_or ns i 0))
    ∙ ap (λ (x : List ℕ). word ++ x) (sym (fields_more (take i ns) (get_or ns i 0)) ∙ ap head_fields (sym more)) in
    subst (λ (x : List ℕ). Stored before at x after next) e (stored_then s t)

-- the line's end
pub line_ended : {before middle after : List ℕ} {at mid next : ℕ} (word ns : List ℕ) (i : ℕ) → length ns ≤ i
    → Stored before at (word ++ head_fields (take i ns)) middle mid → Stored middle mid (line_feed ∷ []) after next
    → Stored before at (line word ns) after next
line_ended {before} {after = after} {at} {next = next} word ns i h s t =
    let e : (word ++ head_fields (take i ns)) ++ (line_feed ∷ []) ≡ line word ns =
    append_assoc word (head_fields (take i ns)) (line_feed ∷ [])
    ∙ ap (λ (x : List ℕ). word ++ x) (fields_ended (take i ns) ∙ ap fields (take_all i ns h)) in
    subst (λ (x : List ℕ). Stored before at x after next) e (stored_then s t)
