-- At most one nonterminal is the first that reaches itself. What the crates above need of it.
use Rattle.std.proofs.Common.{◌≡◌, ◌++◌, ℕ, List, [], ◌∷◌, sym, ◌∙◌, ap, subst}
use Rattle.rdx_lang.specs.Edges.{IsFree, IsFirstRecursive, IsRecursive}
use Rattle.rdx_lang.specs.Members.{In, here, there}
use Rattle.rdx_lang.specs.Patterns.{Pattern, Definition, Language}
use Rattle.rdx_lang.specs.declared.pattern.Ref.{Ref}
use Rattle.rdx_lang.specs.declared.pattern.Ref.TheVariants.{Nt}

-- the nonterminal of the first definition
head_of : Ref → List Definition → Ref
head_of x [] = x
head_of x (d ∷ ds) = d.0

-- the definitions but the first
tail_of : List Definition → List Definition
tail_of [] = []
tail_of (d ∷ ds) = ds

-- the first of which R holds is one
one_first : (R : Ref → Type 0) (bs cs es fs : List Definition) (x y : Ref) (ps qs : List Pattern) → bs ++ (x, ps) ∷ es ≡ cs ++ (y, qs) ∷ fs → ((d : Definition) → In d bs → ¬ R d.0) → ((d : Definition) → In d cs → ¬ R d.0) → R x → R y → x ≡ y
unfolding head_of tail_of
one_first R [] [] es fs x y ps qs e f g h k = ap (head_of x) e
one_first R [] (c ∷ cs) es fs x y ps qs e f g h k = absurd (g c (here (λ i. c)) (subst R (ap (head_of x) e) h))
one_first R (b ∷ bs) [] es fs x y ps qs e f g h k = absurd (f b (here (λ i. b)) (subst R (sym (ap (head_of x) e)) k))
one_first R (b ∷ bs) (c ∷ cs) es fs x y ps qs e f g h k =
    one_first R bs cs es fs x y ps qs (ap tail_of e) (λ d i. f d (there i)) (λ d i. g d (there i)) h k

-- one nonterminal at most is the first
pub first_recursive-same : (L : Language) (x y : Ref) → IsFirstRecursive L x → IsFirstRecursive L y → x ≡ y
first_recursive-same L x y a b =
    one_first (IsRecursive L) a.before b.before a.behind b.behind x y a.alternatives b.alternatives (sym a.defined ∙ b.defined) a.first b.first a.recursive b.recursive

-- so there is one name of it at most
pub first_recursive-one : (L : Language) (x y : List ℕ) → IsFirstRecursive L (Nt x) → IsFirstRecursive L (Nt y) → x ≡ y
first_recursive-one L x y a b = let e : Nt x ≡ Nt y = first_recursive-same L (Nt x) (Nt y) a b in cc

-- where one is the first, the language isn't free
pub first_recursive-free : (L : Language) (x : Ref) → IsFree L → IsFirstRecursive L x → ⊥
first_recursive-free L x f a = f x a.recursive
