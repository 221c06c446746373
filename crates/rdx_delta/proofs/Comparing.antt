-- Comparing the rest of the arguments, after none of them or after one.
use Rattle.std.proofs.Common.{◌≡◌, ℤ, Bool, true, false, ◌&&◌, Option, Some, None, List, [], ◌∷◌, refl, sym, ◌∙◌, ap}
use Rattle.rdx_term.specs.Tree.{Tree, integer, truth}
use Rattle.rdx_term.specs.declared.term.Term.{Term}
use Rattle.rdx_term.specs.declared.term.Term.TheVariants.{Int}
use Rattle.rdx_term.specs.View.{tree_of}
use Rattle.rdx_delta.specs.Reply.{Reply, value, host_domain}
use Rattle.rdx_delta.specs.Delta.{neighbours, compared, in_front, integers, of_integers}
use Rattle.rdx_delta.proofs.Folding.{integers-stopped}

-- whether all that came before stood so, and each integer of these to the next
abbrev judged : (ℤ → ℤ → Bool) → Bool → List ℤ → Reply
judged test all [] = host_domain
judged test all (n ∷ ns) = value (truth (all && neighbours test (n ∷ ns)))

-- the same of the rest, after no integer or after one
abbrev pub compared_on : (ℤ → ℤ → Bool) → Bool → Option ℤ → List Tree → Reply
compared_on test all None ts = of_integers (judged test all) (integers ts)
compared_on test all (Some m) ts = of_integers (λ ns. value (truth (all && neighbours test (m ∷ ns)))) (integers ts)

-- at the start that is the answer
pub compared_on-start : (test : ℤ → ℤ → Bool) (ts : List Tree) → compared_on test true None ts ≡ of_integers (compared test) (integers ts)
compared_on-start test ts = go (integers ts)
  where
    go : (o : Option (List ℤ)) → of_integers (judged test true) o ≡ of_integers (compared test) o
    go None = refl
    go (Some []) = refl
    go (Some (n ∷ ns)) = refl

-- behind the last argument it is what was found
pub compared_on-end : (test : ℤ → ℤ → Bool) (all : Bool) (o : Option ℤ) (m : ℤ) (ts : List Tree) → o ≡ Some m → ts ≡ [] → compared_on test all o ts ≡ value (truth all)
compared_on-end test all None m ts e d = cc
compared_on-end test true (Some u) m [] e d = refl
compared_on-end test false (Some u) m [] e d = refl
compared_on-end test all (Some u) m (t ∷ ts) e d = cc

-- and without an argument there is no answer
pub compared_on-none : (test : ℤ → ℤ → Bool) (all : Bool) (o : Option ℤ) (ts : List Tree) → o ≡ None → ts ≡ [] → compared_on test all o ts ≡ host_domain
compared_on-none test all None [] e d = refl
compared_on-none test all None (t ∷ ts) e d = cc
compared_on-none test all (Some u) ts e d = cc

-- an argument that is no integer is the answer, whatever came before
pub compared_on-stopped : (test : ℤ → ℤ → Bool) (all : Bool) (o : Option ℤ) (t : Term) (ts us : List Tree) → ts ≡ tree_of t ∷ us → ((n : ℤ) → t ≡ Int n → ⊥) → compared_on test all o ts ≡ host_domain
compared_on-stopped test all None t ts us e h = ap (λ z. of_integers (judged test all) (integers z)) e ∙ ap (of_integers (judged test all)) (integers-stopped t us h)
compared_on-stopped test all (Some m) t ts us e h =
    ap (λ z. of_integers (λ ns. value (truth (all && neighbours test (m ∷ ns)))) (integers z)) e ∙ ap (of_integers (λ ns. value (truth (all && neighbours test (m ∷ ns))))) (integers-stopped t us h)

-- a first integer moves from the rest to what came before
first : (test : ℤ → ℤ → Bool) (all : Bool) (n : ℤ) (us : List Tree) → compared_on test all (Some n) us ≡ compared_on test all None (integer n ∷ us)
first test all n us = go (integers us)
  where
    go : (o : Option (List ℤ)) → of_integers (λ ns. value (truth (all && neighbours test (n ∷ ns)))) o ≡ of_integers (judged test all) (in_front n o)
    go None = refl
    go (Some ns) = refl

-- three tests in a row, put together from either side
regroup : (a b c : Bool) → ((a && b) && c) ≡ (a && (b && c))
regroup true b c = refl
regroup false b c = refl

-- and so does an integer behind another
later : (test : ℤ → ℤ → Bool) (all : Bool) (m n : ℤ) (us : List Tree) → compared_on test (all && test m n) (Some n) us ≡ compared_on test all (Some m) (integer n ∷ us)
later test all m n us = go (integers us)
  where
    go : (o : Option (List ℤ)) → of_integers (λ ns. value (truth ((all && test m n) && neighbours test (n ∷ ns)))) o ≡ of_integers (λ ns. value (truth (all && neighbours test (m ∷ ns)))) (in_front n o)
    go None = refl
    go (Some ns) = ap (λ b. value (truth b)) (regroup all (test m n) (neighbours test (n ∷ ns)))

-- one argument more, behind one
pub compared_on-later : (test : ℤ → ℤ → Bool) (all now : Bool) (o : Option ℤ) (m n : ℤ) (t : Term) (ts us : List Tree) → o ≡ Some m → t ≡ Int n → ts ≡ tree_of t ∷ us → now ≡ (all && test m n)
    → compared_on test now (Some n) us ≡ compared_on test all o ts
compared_on-later test all now o m n t ts us e k d s =
    ap (λ b. compared_on test b (Some n) us) s ∙ later test all m n us ∙ ap (λ z. compared_on test all z (integer n ∷ us)) (sym e) ∙ ap (compared_on test all o) (ap (λ z. tree_of z ∷ us) (sym k) ∙ sym d)

-- and the first one
pub compared_on-first : (test : ℤ → ℤ → Bool) (all now : Bool) (o : Option ℤ) (n : ℤ) (t : Term) (ts us : List Tree) → o ≡ None → t ≡ Int n → ts ≡ tree_of t ∷ us → now ≡ all
    → compared_on test now (Some n) us ≡ compared_on test all o ts
compared_on-first test all now o n t ts us e k d s =
    ap (λ b. compared_on test b (Some n) us) s ∙ first test all n us ∙ ap (λ z. compared_on test all z (integer n ∷ us)) (sym e) ∙ ap (compared_on test all o) (ap (λ z. tree_of z ∷ us) (sym k) ∙ sym d)
