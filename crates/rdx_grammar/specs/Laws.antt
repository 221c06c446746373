-- What follows from the definitions of languages, stated for the contracts of the module of laws.
use Rattle.std.specs.Prelude.{◌≡◌, ℕ, List, Option}
use Rattle.rdx_sexp.specs.Sexp.{Sexp}
use Rattle.rdx_lang.specs.Edges.{IsFirstRecursive}
use Rattle.rdx_lang.specs.Patterns.{Language}
use Rattle.rdx_lang.specs.declared.pattern.Ref.{Ref}
use Rattle.rdx_lang.specs.declared.pattern.Ref.TheVariants.{Nt}
use Rattle.rdx_grammar.specs.Forms.{GrammarForm}
use Rattle.rdx_grammar.specs.Languages.{language_over}
use Rattle.rdx_patterns.specs.Refusal.{Refusal}
use Rattle.rdx_grammar.specs.Refused.{IsLanguage, IsRefused}

-- ---- forms, by their parts and over a base

-- a form is one language at most
abbrev pub OneLanguage : Type 0
OneLanguage = (base : Language) (d : Sexp) (g : Option GrammarForm) (L M : Language) → IsLanguage base d g L → IsLanguage base d g M → L ≡ M

-- a form has one refusal at most
abbrev pub OneRefusal : Type 0
OneRefusal = (base : Language) (d : Sexp) (g : Option GrammarForm) (r q : Refusal) → IsRefused base d g r → IsRefused base d g q → r ≡ q

-- a form that is a language isn't refused
abbrev pub NeverBothLanguage : Type 0
NeverBothLanguage = (base : Language) (d : Sexp) (g : Option GrammarForm) (L : Language) (r : Refusal) → IsLanguage base d g L → IsRefused base d g r → ⊥

-- ---- the languages of forms, over a base

-- the first left-recursive nonterminal is no cross nonterminal, so it is the one that a refusal names
abbrev pub RecursionIsPlain : Type 0
RecursionIsPlain = (base : Language) (g : GrammarForm) (x : Ref) → IsFirstRecursive (language_over base g) x → (y : List ℕ) × (x ≡ Nt y)
