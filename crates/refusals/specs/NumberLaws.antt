-- No two refusals have one number.
use Rattle.std.specs.Prelude.{◌≡◌, refl, [], ◌∷◌, ℕ, get_or}
use Rattle.std.proofs.Common.{sym, ap, ◌∙◌}
use Rattle.refusals.specs.Numbers.{number}
use Rattle.refusals.specs.declared.Refusal.{Refusal}
use Rattle.refusals.specs.declared.Refusal.TheVariants.{CutOff, ManyFacts, Unprintable, ManyRules, AbsentFact, WrongNodes, WrongKind, WrongNode, UsedField, WrongStarts, ManyThreads, BytesLeft, WideNode, AbsentStart, LargeSet, ShortAnswer, ShortWork}

-- the refusal that has a number; CutOff stands where none has it
abbrev refusal_numbered : ℕ → Refusal
refusal_numbered n =
    get_or (CutOff ∷ CutOff ∷ ManyFacts ∷ Unprintable ∷ ManyRules ∷ AbsentFact ∷ CutOff ∷ WrongNodes ∷ WrongKind ∷ WrongNode ∷ UsedField
    ∷ WrongStarts ∷ ManyThreads ∷ BytesLeft ∷ AbsentStart ∷ WideNode ∷ CutOff ∷ CutOff ∷ CutOff ∷ CutOff ∷ CutOff ∷ LargeSet ∷ ShortAnswer
    ∷ ShortWork ∷ []) n CutOff

back : (r : Refusal) → refusal_numbered (number r) ≡ r
back CutOff = refl
back ManyFacts = refl
back Unprintable = refl
back ManyRules = refl
back AbsentFact = refl
back WrongNodes = refl
back WrongKind = refl
back WrongNode = refl
back UsedField = refl
back WrongStarts = refl
back ManyThreads = refl
back BytesLeft = refl
back WideNode = refl
back AbsentStart = refl
back LargeSet = refl
back ShortAnswer = refl
back ShortWork = refl

pub one_number : {r s : Refusal} → number r ≡ number s → r ≡ s
one_number {r} {s} e = sym (back r) ∙ ap (λ (n : ℕ). refusal_numbered n) e ∙ back s
