-- Rules with their places: all steps are what comes of the rules one after the other, as of the members of any list.
use Rattle.std.proofs.Common.{◌≡◌, ◌<◌, ◌≤◌, ℕ, suc, ◌+◌, List, [], ◌∷◌, length, drop, get_or, map, ap, add-one}
use Rattle.rdx_term.specs.Tree.{Tree}
use Rattle.rdx_lang.specs.Patterns.{Language}
use Rattle.rdx_lang.specs.Programs.{Relation, Rule}
use Rattle.rdx_lang.proofs.Rest.{rest_at, rest_none}
use Rattle.rdx_eval.specs.Answers.{Answer, stops, goes, Gather}
use Rattle.rdx_eval.specs.Calls.{Calls}
use Rattle.rdx_reduce.specs.Steps.{Step, RuleSteps, AllSteps}

-- the members with their places, of which the first is i
abbrev pub numbered : {A : Type 0} → ℕ → List A → List (ℕ × A)
numbered i [] = []
numbered i (x ∷ xs) = (i, x) ∷ numbered (suc i) xs

-- at the element x the rest begins with x at its place
pub numbered-at : {A B : Type 0} (f : A → B) (xs : List A) (i : ℕ) (x : A) → i < length xs → x ≡ get_or xs i x
    → numbered i (map f (drop i xs)) ≡ (i, f x) ∷ numbered (i + 1) (map f (drop (i + 1) xs))
numbered-at {A} {B} f xs i x h e = let k = ap (λ (ys : List B). numbered i ys) (rest_at f xs i x h e) in rw add-one (rw add-one at k)

-- behind the last element nothing is left
pub numbered-none : {A B : Type 0} (f : A → B) (xs : List A) (i : ℕ) → length xs ≤ i → numbered i (map f (drop i xs)) ≡ []
numbered-none {A} {B} f xs i h = ap (λ (ys : List B). numbered i ys) (rest_none f xs i h)

-- the steps by a rule at its place
abbrev pub StepsAt : Language → Calls → Relation → Tree → ℕ × Rule → Answer (List Step) → Type 0
StepsAt L C R t p = RuleSteps L C R t p.0 p.1

-- what is gathered of rules with their places are the steps by all of them
pub all_gathered : (L : Language) (C : Calls) (R : Relation) (t : Tree) (i : ℕ) (rs : List Rule) (a : Answer (List Step))
    → Gather (StepsAt L C R t) (numbered i rs) a → AllSteps L C R t i rs a
all_gathered L C R t i [] a h = h
all_gathered L C R t i (r ∷ rs) a (stops h) = stops h
all_gathered L C R t i (r ∷ rs) a (goes h (stops l)) = goes h (stops (all_gathered L C R t (suc i) rs _ l))
all_gathered L C R t i (r ∷ rs) a (goes h (goes l e)) = goes h (goes (all_gathered L C R t (suc i) rs _ l) e)
