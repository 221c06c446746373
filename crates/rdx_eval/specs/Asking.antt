-- Contracts: what is handed to a metafunction, a judgement or a relation, and what it makes, has to match a pattern, where there is one. A term
-- matches it where the listing of what is seen of the bindings by which it does is not empty; else it is a fault.
use Rattle.std.specs.Prelude.{◌≡◌, List, [], ◌∷◌, Option, Some, None}
use Rattle.rdx_term.specs.Tree.{Tree}
use Rattle.rdx_lang.specs.Bindings.{Binding}
use Rattle.rdx_lang.specs.Listing.{IsSeen}
use Rattle.rdx_lang.specs.Order.{binding_cmp}
use Rattle.rdx_lang.specs.Patterns.{Pattern, Language}
use Rattle.rdx_lang.specs.Rules.{Match}
use Rattle.rdx_eval.specs.Answers.{Answer, fault, Fault, Then, Lists}

-- this fault where there are no bindings, and R where there are some
abbrev pub Decided : {A : Type 0} → Fault → (Answer A → Type 0) → List Binding → Answer A → Type 0
Decided bad R [] = λ r. r ≡ fault bad
Decided bad R (b ∷ bs) = R

-- R where p matches t, and else this fault
abbrev pub Asked : {A : Type 0} → Language → Pattern → Tree → Fault → (Answer A → Type 0) → Answer A → Type 0
Asked L p t bad R = Then (Lists binding_cmp (IsSeen (Match L p t))) (Decided bad R)

-- the same of a pattern that there may be; without one, nothing is asked
abbrev pub AskedIf : {A : Type 0} → Language → Option Pattern → Tree → Fault → (Answer A → Type 0) → Answer A → Type 0
AskedIf L None t bad R = R
AskedIf L (Some p) t bad R = Asked L p t bad R

-- what a contract asks of what is handed to a call: its first pattern
abbrev pub asked_in : Option (Pattern × Pattern) → Option Pattern
asked_in None = None
asked_in (Some c) = Some c.0

-- what it asks of what the call makes: its second pattern
abbrev pub asked_out : Option (Pattern × Pattern) → Option Pattern
asked_out None = None
asked_out (Some c) = Some c.1
