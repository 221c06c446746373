-- A language whose definitions have symbols, and whose literals are counted, is counted.
use Rattle.std.proofs.Common.{◌<◌, ◌^◌, List, [], ◌∷◌, length, subst, sym, ap}
use Rattle.rdx_lang.specs.Members.{In, here, there}
use Rattle.rdx_lang.specs.Patterns.{Pattern, Definition, Language}
use Rattle.rdx_lang.specs.declared.pattern.Ref.{Ref}
use Rattle.rdx_gen.specs.Inside.Symbols.{AllHaveSymbols, DefinitionsHaveSymbols}
use Rattle.rdx_gen.specs.Literals.{language_literals}
use Rattle.rdx_gen.specs.Matching.{HasSymbols, IsCounted}

among : (ps : List Pattern) (p : Pattern) → AllHaveSymbols ps → In p ps → HasSymbols p
among [] p h i = elim i [ ]
among (q ∷ ps) p h (here e) = subst HasSymbols (sym e) h.0
among (q ∷ ps) p h (there i) = among ps p h.1 i

defined : (ds : List Definition) (x : Ref) (ps : List Pattern) → DefinitionsHaveSymbols ds → In (x, ps) ds → AllHaveSymbols ps
defined [] x ps h i = elim i [ ]
defined (d ∷ ds) x ps h (here e) = subst AllHaveSymbols (sym (ap (λ (c : Definition). c.1) e)) h.0
defined (d ∷ ds) x ps h (there i) = defined ds x ps h.1 i

pub counted : (L : Language) → DefinitionsHaveSymbols L.nonterminals → length (language_literals L) < 2 ^ 64 → IsCounted L
counted L h l = record { alternatives = λ x p a. among a.all p (defined L.nonterminals x a.all h a.defined) a.among; literals = l }
