-- The sets are spread for the facts below b + 5.
use borrow.Author.Rules.{rules}
use native.Mathlib.Omega.{arith}
use Prim.Native.Nat.{ℕ, ◌+◌, ◌-◌, ◌*◌, ◌%◌, ◌^◌, ◌≤◌, ◌<◌}
use mathlib.Core.Path.{◌≡◌, sym, ap, ◌∙◌, subst}
use lib.Pow.{pow_mono, shl_exact}
use Rattle.set_digits.specs.SheetLimits.{max_facts}
use Rattle.set_digits.specs.SetDigits.{words_of}
use Rattle.digit_spread.specs.DigitSpread.{WordsJoined}
use Rattle.digit_spread.specs.JoinLaws.{blocks_of_lem, spread_next, spread_all, sets_fit}
use Rattle.digit_spread.proofs.spread_down.Goals as goal

blocks-whole : (facts b : ℕ) → facts ≤ max_facts → b + 5 < facts → words_of facts ≡ 2 * (1 * 2 ^ (facts - 6 - b) % 2 ^ 64) * 2 ^ b
blocks-whole facts b h l =
    let exact : 1 * 2 ^ (facts - 6 - b) % 2 ^ 64 ≡ 1 * 2 ^ (facts - 6 - b) = shl_exact {a = 1} 1 (facts - 6 - b) 64 (omega arith) (omega arith) in
    let e : 1 * 2 ^ (facts - 6 - b) % 2 ^ 64 ≡ 2 ^ (facts - 6 - b) = omega arith in
    let f : facts - 5 - 1 - b ≡ facts - 6 - b = omega arith in
    sym (blocks_of_lem (facts - 5) b (omega arith)) ∙ ap (λ n. 2 * 2 ^ n * 2 ^ b) f ∙ ap (λ n. 2 * n * 2 ^ b) (sym e)

pub join_words-requires : goal.join_words-requires
join_words-requires c =
    let a = c.args in
    let l = c.loop-b in
    let e = blocks-whole a.facts l.b (omega arith) (omega arith) in
    let few : 2 ^ (a.facts - 5) ≤ words_of max_facts = pow_mono {i = a.facts - 5} {j = max_facts - 5} (omega arith) in
    (omega arith, omega arith, omega arith)

pub loop-b-preserved : goal.loop-b-preserved
loop-b-preserved c =
    let a = c.args in
    let l = c.loop-b in
    let blocks = 1 * 2 ^ (a.facts - 6 - l.b) % 2 ^ 64 in
    let e = blocks-whole a.facts l.b (omega arith) (omega arith) in
    let j : WordsJoined l.b a.at (words_of a.facts) l.work c.join_words.new.work =
    subst (λ n. WordsJoined l.b a.at n l.work c.join_words.new.work) (sym e) c.join_words.ensures in
    (search rules, j.same.long ∙ l.invariant.1, λ w p. spread_next blocks e (l.invariant.2 w p) j)

pub returns : goal.returns
returns c =
    let a = c.args in
    let e : c.words_of-words.result ≡ words_of a.facts = omega arith in
    let l = c.loop-b in
    spread_all (sets_fit {facts = a.facts} {m = l.b + 5} (omega arith) (omega arith))
    (sets_fit {facts = a.facts} {m = max_facts} (omega arith) (omega arith))
    (l.invariant.2 a.work.now (rw e at c.spread_words.ensures))
