-- Whether some of several patterns matches, tried one after the other.
use Rattle.std.proofs.Common.{◌≡◌, List, [], ◌∷◌, refl, sym, subst}
use Rattle.rdx_term.specs.Tree.{Tree}
use Rattle.rdx_lang.specs.Bindings.{Binding}
use Rattle.rdx_lang.specs.Members.{In, here, there}
use Rattle.rdx_lang.specs.Patterns.{Pattern, Language}
use Rattle.rdx_lang.specs.Rules.{Match}
use Rattle.rdx_lang.proofs.Collecting.{In_along, no_member}

-- of all patterns only those of rest may match t
pub record Untried (L : Language) (all rest : List Pattern) (t : Tree) : Type 0 where
  pub part : (p : Pattern) → In p rest → In p all
  pub still : (p : Pattern) (b : Binding) → In p all → Match L p t b → In p rest

module _ (L : Language) (all : List Pattern) (t : Tree) where
  -- the next pattern is among all
  pub untried_first : (p : Pattern) (more rest : List Pattern) → rest ≡ p ∷ more → Untried L all rest t → In p all
  untried_first p more rest e u = u.part p (In_along (p ∷ more) rest (sym e) (here refl))

  -- the next pattern does not match
  pub untried_next : (p : Pattern) (more rest : List Pattern) → rest ≡ p ∷ more → ((b : Binding) → Match L p t b → ⊥) → Untried L all rest t → Untried L all more t
  untried_next p more rest e f u = record {
    part = λ q h. u.part q (In_along (p ∷ more) rest (sym e) (there h));
    still = λ q b h m. later q b m (In_along rest (p ∷ more) e (u.still q b h m));
  }
    where
      later : (q : Pattern) (b : Binding) → Match L q t b → In q (p ∷ more) → In q more
      later q b m (here g) = absurd (f b (subst (λ (r : Pattern). Match L r t b) g m))
      later q b m (there h) = h

  -- none is left, so none matches
  pub untried_none : (rest : List Pattern) → rest ≡ [] → Untried L all rest t → (p : Pattern) (b : Binding) → In p all → Match L p t b → ⊥
  untried_none rest e u p b h m = no_member (In_along rest [] e (u.still p b h m))
