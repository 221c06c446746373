-- Worked examples: the language that an extension is, the refusals of forms that two checks refuse, those of lists that would ask Racket, and
-- contexts from a nonterminal to itself.
use Rattle.std.specs.Prelude.{ℕ, ◌+◌, true, List, [], ◌∷◌, Some, codes}
use Rattle.rdx_base.specs.declared.place.Span.{Span}
use Rattle.rdx_sexp.specs.Sexp.{truth, Sexp, leaf}
use Rattle.rdx_lang.specs.Patterns.{of_kind, Language}
use Rattle.rdx_lang.specs.declared.pattern.Kind.TheVariants.{Any, Number, Text, Boolean}
use Rattle.rdx_lang.specs.declared.pattern.Ref.TheVariants.{Nt}
use Rattle.rdx_grammar.specs.Forms.{language_form, extension_form}
use Rattle.rdx_grammar.specs.Languages.{empty_language}
use Rattle.rdx_grammar.specs.Refused.{IsLanguage, IsRefused}
use Rattle.rdx_patterns.specs.declared.shape.fault.DefKind.TheVariants.{Duplicate, LeftRecursive}
use Rattle.rdx_patterns.specs.Examples.{word, group, columns, asks_at, split_across}

-- ---- an extension

-- the language of `(define-language B (e number) (f boolean))`
abbrev pub base : Language
base = record { name = codes "B"; nonterminals = (Nt (codes "e"), of_kind Number ∷ []) ∷ (Nt (codes "f"), of_kind Boolean ∷ []) ∷ [] }

-- `(g any) (e string ....)`
abbrev pub definitions : Span → List Sexp
definitions s =
    group s (word s (codes "g") ∷ word s (codes "any") ∷ [])
    ∷ group s (word s (codes "e") ∷ word s (codes "string") ∷ word s (codes "....") ∷ []) ∷ []

-- `(define-extended-language M B (g any) (e string ....))`, wherever it stands
abbrev pub extension : Span → Sexp
extension s = group s (word s (codes "define-extended-language") ∷ word s (codes "M") ∷ word s (codes "B") ∷ definitions s)

-- the language that it is
abbrev pub extended : Language
extended = record {
  name = codes "M";
  nonterminals = (Nt (codes "e"), of_kind Text ∷ of_kind Number ∷ []) ∷ (Nt (codes "f"), of_kind Boolean ∷ []) ∷ (Nt (codes "g"), of_kind Any ∷ []) ∷ [];
}

-- The inherited alternative stands where `....` is written, `e` stays in the place that it has in the base, `f` is taken over, and `g`, which
-- is new, comes last, although it is written first.
abbrev pub InheritsInPlace : Type 0
InheritsInPlace = (s : Span) → IsLanguage base (extension s) (extension_form (extension s)) extended

-- ---- two checks

-- `(define-language L (e foo_1) (e number))`
abbrev pub defined_twice : Sexp
defined_twice =
    group (columns 1 41) (word (columns 2 17) (codes "define-language") ∷ word (columns 18 19) (codes "L")
    ∷ group (columns 20 29) (word (columns 21 22) (codes "e") ∷ word (columns 23 28) (codes "foo_1") ∷ [])
    ∷ group (columns 30 40) (word (columns 31 32) (codes "e") ∷ word (columns 33 39) (codes "number") ∷ []) ∷ [])

-- The symbol `foo_1`, which is no pattern, stands before the second `e`. But the check for nonterminals that are defined twice has a lesser
-- number than that of patterns, so the second `e` is reported.
abbrev pub LeastCheckFirst : Type 0
LeastCheckFirst =
    IsRefused empty_language defined_twice (language_form defined_twice)
    (record { kind = Duplicate; place = record { line = 1; column = 31 }; name = Some (codes "e") })

-- ---- lists that would ask Racket

-- `(side-condition e #t)`, from one column on
abbrev pub conditioned : ℕ → Sexp
conditioned n =
    group (columns n (n + 21)) (word (columns (n + 1) (n + 15)) (codes "side-condition")
    ∷ word (columns (n + 16) (n + 17)) (codes "e") ∷ leaf (truth true) (columns (n + 18) (n + 20)) ∷ [])

-- `(define-language L (e number (side-condition e #t)))`
abbrev pub conditioned_language : Sexp
conditioned_language =
    group (columns 1 53) (word (columns 2 17) (codes "define-language") ∷ word (columns 18 19) (codes "L")
    ∷ group (columns 20 52) (word (columns 21 22) (codes "e") ∷ word (columns 23 29) (codes "number") ∷ conditioned 30 ∷ []) ∷ [])

-- A language is refused at such a list, however deep it stands. What stands in the list is not read, and `e` there is no left edge.
abbrev pub AsksInLanguage : Type 0
AsksInLanguage = IsRefused empty_language conditioned_language (language_form conditioned_language) (asks_at 30)

-- `(define-language L (e e (side-condition e #t)))`
abbrev pub conditioned_loop : Sexp
conditioned_loop =
    group (columns 1 48) (word (columns 2 17) (codes "define-language") ∷ word (columns 18 19) (codes "L")
    ∷ group (columns 20 47) (word (columns 21 22) (codes "e") ∷ word (columns 23 24) (codes "e") ∷ conditioned 25 ∷ []) ∷ [])

-- Where the language is left-recursive too, that is reported.
abbrev pub RecursionFirst : Type 0
RecursionFirst =
    IsRefused empty_language conditioned_loop (language_form conditioned_loop)
    (record { kind = LeftRecursive; place = record { line = 1; column = 1 }; name = Some (codes "e") })

-- ---- contexts from a nonterminal to itself

-- `(define-language L (e (in-hole (cross e) e)))`
abbrev pub crossed_loop : Sexp
crossed_loop =
    group (columns 1 46) (word (columns 2 17) (codes "define-language") ∷ word (columns 18 19) (codes "L")
    ∷ group (columns 20 45) (word (columns 21 22) (codes "e") ∷ split_across 23 (codes "e") ∷ []) ∷ [])

-- The hole is a context from an e to an e, so `e` is left-recursive by what stands in it.
abbrev pub CrossesLoop : Type 0
CrossesLoop =
    IsRefused empty_language crossed_loop (language_form crossed_loop)
    (record { kind = LeftRecursive; place = record { line = 1; column = 1 }; name = Some (codes "e") })
