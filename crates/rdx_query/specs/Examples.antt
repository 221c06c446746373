-- Worked examples: short files, with the text that they write or their refusal. They are proved, as the clauses of `laws::worked_examples`.
use Rattle.std.specs.Prelude.{ℕ, Bool, true, false, pos, List, [], ◌∷◌, codes}
use Rattle.rdx_base.specs.declared.place.Span.{Span}
use Rattle.rdx_sexp.specs.Sexp.{Sexp, symbol, integer, text, keyword, leaf, list, sexps}
use Rattle.rdx_patterns.specs.Refusal.{unnamed, named, named_at}
use Rattle.rdx_patterns.specs.declared.shape.fault.DefKind.TheVariants.{Shape, RacketEscape, UnknownLanguage, Duplicate, LeftRecursive}
use Rattle.rdx_query.specs.Writing.{Writes}
use Rattle.rdx_query.specs.File.{IsFileRefusal}

-- what the data of a file write where it is only run
abbrev pub WritesRun : List Sexp → List ℕ → Bool → Type 0
WritesRun ds written met = Writes ds [] written met

-- ---- data with this span

-- a symbol
abbrev pub word : Span → List ℕ → Sexp
word s x = leaf (symbol x) s

-- an integer
abbrev pub number : Span → ℕ → Sexp
number s n = leaf (integer (pos n)) s

-- a list
abbrev pub form : Span → List Sexp → Sexp
form s ds = list (sexps ds) s

-- `(define-language l (e p))`
abbrev pub defines : Span → Sexp → Sexp → Sexp
defines s l p = form s (word s (codes "define-language") ∷ l ∷ form s (word s (codes "e") ∷ p ∷ []) ∷ [])

-- `(define-language L (e 1))`
abbrev pub defines_L : Span → Sexp
defines_L s = defines s (word s (codes "L")) (number s 1)

-- `(define-extended-language M l (e ....))`
abbrev pub extends : Span → Sexp → Sexp
extends s l = form s (word s (codes "define-extended-language") ∷ word s (codes "M") ∷ l ∷ form s (word s (codes "e") ∷ word s (codes "....") ∷ []) ∷ [])

-- `(head l p (term t))`
abbrev pub query : Span → List ℕ → Sexp → Sexp → Sexp → Sexp
query s head l p t = form s (word s head ∷ l ∷ p ∷ form s (word s (codes "term") ∷ t ∷ []) ∷ [])

-- `(redex-match l p (term t))`
abbrev pub asks : Span → Sexp → Sexp → Sexp → Sexp
asks s l p t = query s (codes "redex-match") l p t

-- `(redex-decompose l p (term t))`
abbrev pub decomposes : Span → Sexp → Sexp → Sexp → Sexp
decomposes s l p t = query s (codes "redex-decompose") l p t

-- `(redex-match? x e (term n))`
abbrev pub asks_e : Span → List ℕ → ℕ → Sexp
asks_e s x n = form s (word s (codes "redex-match?") ∷ word s x ∷ word s (codes "e") ∷ form s (word s (codes "term") ∷ number s n ∷ []) ∷ [])

-- `(term t)`
abbrev pub asks_term : Span → Sexp → Sexp
asks_term s t = form s (word s (codes "term") ∷ t ∷ [])

-- `(in-hole c t)`
abbrev pub fills : Span → Sexp → Sexp → Sexp
fills s c t = form s (word s (codes "in-hole") ∷ c ∷ t ∷ [])

-- `(define R (reduction-relation L (--> 1 2 a) (--> 1 2 "b c")))`
abbrev pub defines_R : Span → Sexp
defines_R s =
    let case : Sexp → Sexp = λ x. form s (word s (codes "-->") ∷ number s 1 ∷ number s 2 ∷ x ∷ []) in
    form s (word s (codes "define") ∷ word s (codes "R")
    ∷ form s (word s (codes "reduction-relation") ∷ word s (codes "L") ∷ case (word s (codes "a")) ∷ case (leaf (text (codes "b c")) s) ∷ []) ∷ [])

-- `(head R (term 1))`
abbrev pub applies_R : Span → List ℕ → Sexp
applies_R s head = form s (word s head ∷ word s (codes "R") ∷ asks_term s (number s 1) ∷ [])

-- `(J d ...)`
abbrev pub about_J : Span → List Sexp → Sexp
about_J s ds = form s (word s (codes "J") ∷ ds)

-- `(define-judgment-form L #:mode (J i ...) r ...)`
abbrev pub defines_J : Span → List Sexp → List Sexp → Sexp
defines_J s is rs = form s (word s (codes "define-judgment-form") ∷ word s (codes "L") ∷ leaf (keyword (codes "mode")) s ∷ about_J s is ∷ rs)

-- ---- what files write

-- Answers come in the file's order. The pairs of a binding come by the bytes of their names, whatever the order in the pattern, and a match
-- that binds nothing has a line too. So `(define-language L (e 1)) (redex-match L (any_y any_x) (term (1 2))) (redex-match L 1 (term 1))`
-- writes these four lines.
abbrev pub AnswersInOrder : Type 0
AnswersInOrder = (s : Span) →
    WritesRun (defines_L s ∷ asks s (word s (codes "L")) (form s (word s (codes "any_y") ∷ word s (codes "any_x") ∷ [])) (form s (number s 1 ∷ number s 2 ∷ []))
    ∷ asks s (word s (codes "L")) (number s 1) (number s 1) ∷ [])
    (codes "match 1\n  any_x = 2, any_y = 1\nmatch 1\n  -\n") true

-- A file with its whole answer: `(define-language L (e 1)) (redex-match? L e (term 1)) (redex-match? L e (term 2))`.
abbrev pub WholeAnswer : Type 0
WholeAnswer = (s : Span) → WritesRun (defines_L s ∷ asks_e s (codes "L") 1 ∷ asks_e s (codes "L") 2 ∷ []) (codes "matches #t\nmatches #f\n") true

-- At `....` stand the alternatives of the language that is extended: `(define-language L (e 1)) (define-extended-language M L (e ....))
-- (redex-match? M e (term 1))`.
abbrev pub Inherited : Type 0
Inherited = (s : Span) → WritesRun (defines_L s ∷ extends s (word s (codes "L")) ∷ asks_e s (codes "M") 1 ∷ []) (codes "matches #t\n") true

-- A split has its context, with the path of its own hole, and the part that stands there. The other hole is the term's own. So
-- `(define-language L (e 1)) (redex-decompose L (hole any) (term (1 hole)))` writes these two lines.
abbrev pub OneSplit : Type 0
OneSplit = (s : Span) →
    WritesRun (defines_L s ∷ decomposes s (word s (codes "L")) (form s (word s (codes "hole") ∷ word s (codes "any") ∷ [])) (form s (number s 1 ∷ word s (codes "hole") ∷ [])) ∷ [])
    (codes "splits 1\n  (hole hole) at [0] is 1 with any = hole\n") true

-- A host expression is a template, which is filled where it has to be: `(term (in-hole (1 hole) 2))`.
abbrev pub FilledTerm : Type 0
FilledTerm = (s : Span) →
    WritesRun (asks_term s (fills s (form s (number s 1 ∷ word s (codes "hole") ∷ [])) (number s 2)) ∷ []) (codes "value (1 2)\n") true

-- A fault is an answer, by which something stays unmet, and the queries behind it are answered: `(term (in-hole 1 2)) (term 1)`.
abbrev pub FaultAnswered : Type 0
FaultAnswered = (s : Span) →
    WritesRun (asks_term s (fills s (number s 1) (number s 2)) ∷ asks_term s (number s 1) ∷ []) (codes "fault NotContext 0\nvalue 1\n") false

-- Where two rules lead to one term, that is one reduct and two steps: `(define-language L (e 1)) (define R (reduction-relation L (--> 1 2 a)
-- (--> 1 2 "b c"))) (apply-reduction-relation R (term 1)) (apply-reduction-relation/tag-with-names R (term 1))`.
abbrev pub OneReductTwoSteps : Type 0
OneReductTwoSteps = (s : Span) →
    WritesRun (defines_L s ∷ defines_R s ∷ applies_R s (codes "apply-reduction-relation") ∷ applies_R s (codes "apply-reduction-relation/tag-with-names") ∷ [])
    (codes "reducts 1\n  2\nsteps 2\n  a 2\n  \"b c\" 2\n") true

-- A premise is met where its judgement has outputs for the inputs, also outputs of no terms: `(define-language L (e 1)) (define-judgment-form L
-- #:mode (J I) [(J 1)]) (judgment-holds (J 1))`.
abbrev pub PremiseMet : Type 0
PremiseMet = (s : Span) →
    WritesRun
    (defines_L s
    ∷ defines_J s (word s (codes "I") ∷ []) (form s (about_J s (number s 1 ∷ []) ∷ []) ∷ [])
    ∷ form s (word s (codes "judgment-holds") ∷ about_J s (number s 1 ∷ []) ∷ []) ∷ [])
    (codes "holds #t\n") true

-- All rules give their outputs, and what the template makes of them is listed ascending, not by the rules: `(define-language L (e 1))
-- (define-judgment-form L #:mode (J I O) [(J 1 3)] [(J 1 2)]) (judgment-holds (J 1 any) any)`.
abbrev pub OutputsListed : Type 0
OutputsListed = (s : Span) →
    let rule : ℕ → Sexp = λ n. form s (about_J s (number s 1 ∷ number s n ∷ []) ∷ []) in
    WritesRun
    (defines_L s
    ∷ defines_J s (word s (codes "I") ∷ word s (codes "O") ∷ []) (rule 3 ∷ rule 2 ∷ [])
    ∷ form s (word s (codes "judgment-holds") ∷ about_J s (number s 1 ∷ word s (codes "any") ∷ []) ∷ word s (codes "any") ∷ []) ∷ [])
    (codes "answers 2\n  2\n  3\n") true

-- ---- why files are refused

-- The first form that is refused counts, although a later one is refused by a check with a lesser number: in
-- `(define-language L (e 1)) (redex-match M 1 (term 1)) (redex-match L 1)` it is M that is not known, and not that the last form has no term.
abbrev pub FirstRefusedForm : Type 0
FirstRefusedForm = (s m : Span) →
    IsFileRefusal (defines_L s ∷ asks s (word m (codes "M")) (number s 1) (number s 1) ∷ form s (word s (codes "redex-match") ∷ word s (codes "L") ∷ number s 1 ∷ []) ∷ []) (named UnknownLanguage (word m (codes "M")))

-- An extension sees the languages before it, and no later one: `(define-extended-language M L (e ....)) (define-language L (e 1))` is
-- refused at L, which is not known there.
abbrev pub EarlierLanguagesOnly : Type 0
EarlierLanguagesOnly = (s l : Span) → IsFileRefusal (extends s (word l (codes "L")) ∷ defines_L s ∷ []) (named UnknownLanguage (word l (codes "L")))

-- A file that is refused at its second form: `(define-language L (e 1)) (define-language L (e 1))` takes the name L again.
abbrev pub TakenName : Type 0
TakenName = (s l : Span) → IsFileRefusal (defines_L s ∷ defines s (word l (codes "L")) (number s 1) ∷ []) (named Duplicate (word l (codes "L")))

-- The fourth item of a query is a host expression: `(define-language L (e 1)) (redex-match L 1 x)` is refused at the x.
abbrev pub HostExpression : Type 0
HostExpression = (s h : Span) →
    IsFileRefusal (defines_L s ∷ form s (word s (codes "redex-match") ∷ word s (codes "L") ∷ number s 1 ∷ word h (codes "x") ∷ []) ∷ [])
    (unnamed RacketEscape (word h (codes "x")))

-- A form that is none of ours has to be a host expression: `(list 1)` is refused as a whole, and `(+ 1 2)` writes `value 3`.
abbrev pub OtherForm : Type 0
OtherForm = (s : Span) →
    let other : Sexp = form s (word s (codes "list") ∷ number s 1 ∷ []) in
    IsFileRefusal (other ∷ []) (unnamed RacketEscape other)

abbrev pub Sum : Type 0
Sum = (s : Span) → WritesRun (form s (word s (codes "+") ∷ number s 1 ∷ number s 2 ∷ []) ∷ []) (codes "value 3\n") true

-- What is wanted of Redex is passed over, and other modules are refused: `(require redex)` writes nothing, `(require redex math)` is refused at math.
abbrev pub Wanted : Type 0
Wanted = (s : Span) → WritesRun (form s (word s (codes "require") ∷ word s (codes "redex") ∷ []) ∷ []) [] true

abbrev pub OtherModule : Type 0
OtherModule = (s m : Span) →
    IsFileRefusal (form s (word s (codes "require") ∷ word s (codes "redex") ∷ word m (codes "math") ∷ []) ∷ [])
    (unnamed RacketEscape (word m (codes "math")))

-- A metafunction is known before its form: of `(term (f 1)) (define-language L (e 1)) (define-metafunction L [(f 1) 2])` the text is `value 2`.
abbrev pub KnownBefore : Type 0
KnownBefore = (s : Span) →
    WritesRun
    (asks_term s (form s (word s (codes "f") ∷ number s 1 ∷ []))
    ∷ defines_L s
    ∷ form s (word s (codes "define-metafunction") ∷ word s (codes "L")
    ∷ form s (form s (word s (codes "f") ∷ number s 1 ∷ []) ∷ number s 2 ∷ []) ∷ []) ∷ [])
    (codes "value 2\n") true

-- A query has four items: `(redex-match L 1)`.
abbrev pub FewItems : Type 0
FewItems = (s : Span) →
    let query : Sexp = form s (word s (codes "redex-match") ∷ word s (codes "L") ∷ number s 1 ∷ []) in
    IsFileRefusal (query ∷ []) (unnamed Shape query)

-- A language may not be left-recursive: `(define-language L (e e))`.
abbrev pub LeftRecursion : Type 0
LeftRecursion = (s : Span) →
    let language : Sexp = defines s (word s (codes "L")) (word s (codes "e")) in
    IsFileRefusal (language ∷ []) (named_at LeftRecursive language (codes "e"))
