-- Each word is looked at, as the definition has it.
use Rattle.std.proofs.Common.{◌≡◌, ℕ, List, [], ◌∷◌, Bool, eqb, take, drop, refl, ap, ◌∙◌, ◌&&◌, arith, rules, tests, ◌+◌, ◌-◌}
use Rattle.std.specs.List.{list_all}
use Rattle.std.proofs.lemmas.Iterator.{YieldsList-from_slice}
use Rattle.std.proofs.lemmas.Iterator.Search.{all_from_yields_List}
use Rattle.search_laws.specs.Lists.{all}
use Rattle.set_digits.proofs.none_marked.Goals as goal

all_same : (p : ℕ → Bool) (xs : List ℕ) → list_all p xs ≡ all p xs
all_same p [] = refl
all_same p (x ∷ xs) = ap (λ (b : Bool). p x && b) (all_same p xs)

pub returns : goal.returns
returns c =
    let xs = take (c.args.at + c.args.words - c.args.at) (drop c.args.at c.args.work.now) in
    let e : c.args.at + c.args.words - c.args.at ≡ c.args.words = omega arith in
    all_from_yields_List (λ x. eqb x 0) _ _ _ c.all.ensures.ran (YieldsList-from_slice xs cc) (λ x b q h. search (rules, tests))
    ∙ all_same (λ x. eqb x 0) xs ∙ ap (λ (n : ℕ). all (λ x. eqb x 0) (take n (drop c.args.at c.args.work.now))) e
