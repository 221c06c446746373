-- That facts of a language are so is so in one way at most.
use Rattle.std.specs.Prelude.{List, [], ◌∷◌, Option, Some, None, IfSome, Vec, ℕ}
use Rattle.std.specs.declared.alloc.Global.{Global}
use Rattle.std.proofs.Props.{props}
use Rattle.rdx_lang.specs.Facts.{IsAtMost, AreEach, IsKnown, AreKnown, AreMentioned, AreFacts}
use Rattle.rdx_lang.specs.Patterns.{Pattern, Definition, Language}
use Rattle.rdx_lang.specs.declared.facts.Each.{Each}
use Rattle.rdx_lang.specs.declared.facts.Facts.{Facts}
use Rattle.rdx_lang.specs.declared.facts.Known.{Known}
use Rattle.rdx_lang.specs.declared.facts.May.{May}
use mathlib.Core.HLevel.{×_prop, Unit-prop, ⊥_prop}

-- what a pattern never does is so in one way at most
IsAtMost-prop : (L : Language) (may : May) (p : Pattern) → IsProp (IsAtMost L may p)
IsAtMost-prop L may p = hlevel props

-- so is what alternatives never do
AreEach-prop : (L : Language) (ps : List Pattern) (es : List Each) → IsProp (AreEach L ps es)
AreEach-prop L [] [] = Unit-prop
AreEach-prop L [] (e ∷ es) = ⊥_prop
AreEach-prop L (p ∷ ps) [] = ⊥_prop
AreEach-prop L (p ∷ ps) (e ∷ es) = ×_prop (IsAtMost-prop L e.may p) (AreEach-prop L ps es)

-- what is known of a nonterminal
IsKnown-prop : (L : Language) (d : Definition) (k : Known) → IsProp (IsKnown L d k)
IsKnown-prop L d k a b i = record {
  whole = IsAtMost-prop L k.may _ a.whole b.whole i;
  each = AreEach-prop L d.1 k.each.items a.each b.each i;
}

-- and of all
AreKnown-prop : (L : Language) (ds : List Definition) (ks : List Known) → IsProp (AreKnown L ds ks)
AreKnown-prop L [] [] = Unit-prop
AreKnown-prop L [] (k ∷ ks) = ⊥_prop
AreKnown-prop L (d ∷ ds) [] = ⊥_prop
AreKnown-prop L (d ∷ ds) (k ∷ ks) = ×_prop (IsKnown-prop L d k) (AreKnown-prop L ds ks)

-- the symbols are the literals in one way at most
AreMentioned-prop : (L : Language) (o : Option (Vec (List ℕ) Global)) → IsProp (AreMentioned L o)
AreMentioned-prop L None = Unit-prop
AreMentioned-prop L (Some rs) = hlevel props

-- facts are those of a language in one way at most
AreFacts-prop : (L : Language) (f : Facts) → IsProp (AreFacts L f)
AreFacts-prop L f a b i = record {
  nonterminals = AreKnown-prop L L.nonterminals f.nonterminals.items a.nonterminals b.nonterminals i;
  mentioned = AreMentioned-prop L f.mentioned a.mentioned b.mentioned i;
}

-- so they are where there are any
pub some-prop : (L : Language) (o : Option Facts) → IsProp (IfSome o (λ f. AreFacts L f))
some-prop L None = Unit-prop
some-prop L (Some f) = AreFacts-prop L f
