-- Worked examples: what closures make of relations of one rule. They are proved, as the clauses of `laws::worked_closures`.
use Rattle.std.specs.Prelude.{◌≡◌, ℕ, pos, List, [], ◌∷◌, Option, Some, None, codes}
use Rattle.rdx_lang.specs.Closures.{closed_rule, context_closure, compatible_closure}
use Rattle.rdx_lang.specs.Examples.{int, list_of_two, seq_of_two, any, number, E, Numbers, Contexts}
use Rattle.rdx_lang.specs.Patterns as pattern
use Rattle.rdx_lang.specs.Patterns.{Pattern, wild, hole, nt, named, in_hole, closed}
use Rattle.rdx_lang.specs.Programs.{Relation}
use Rattle.rdx_lang.specs.Templates as templates
use Rattle.rdx_lang.specs.Templates.{Template, lit, var, fill, host, term}
use Rattle.rdx_lang.specs.declared.operation.HostOp.TheVariants.{Quotient}
use Rattle.rdx_lang.specs.declared.pattern.Ref.TheVariants.{Cross}
use Rattle.rdx_eval.specs.Answers.{value, fault, not_context, divide_by_zero}
use Rattle.rdx_eval.specs.CallExamples.{of_two}
use Rattle.rdx_eval.specs.FreshExamples.{x, x1, fresh_x}
use Rattle.rdx_reduce.specs.Examples.{leads_where, step, TakeIn}

-- ---- rules and relations of the examples

-- the relation x over L of one rule, `(--> p t)`, with the name of the rule, where it has one
abbrev pub alone : List ℕ → Option (List ℕ) → Pattern → Template → Relation
alone x n p t = record { name = x; language = codes "L"; domain = None; rules = record { name = n; pattern = p; extras = []; result = t } ∷ [] }

-- `(in-hole x p)`, where x stands for a context that q matches
abbrev pub around : List ℕ → Pattern → Pattern → Pattern
around x q p = in_hole (named x (closed q)) p

-- `(in-hole x t)`
abbrev pub inside : List ℕ → Template → Template
inside x t = fill (var x 0) t

-- ---- closures

-- a rule keeps its name: the compatible closure of `(--> 1 2 step)` for e has `(--> (in-hole context 1) (in-hole context 2) step)`
abbrev pub NameStays : Type 0
NameStays =
    (e x y : List ℕ)
    → compatible_closure e y (alone x (Some (codes "step")) (pattern.lit (int 1)) (lit (int 2)))
    ≡ alone y (Some (codes "step")) (around (codes "context") (nt (Cross e e)) (pattern.lit (int 1))) (inside (codes "context") (lit (int 2)))

-- the context of a rule that binds `context` is `context1`: `(--> (name context _) context)`
abbrev pub NameIsTaken : Type 0
NameIsTaken =
    (q : Pattern) (x y : List ℕ)
    → context_closure q y (alone x None (named (codes "context") wild) (var (codes "context") 0))
    ≡ alone y None (around (codes "context1") q (named (codes "context") wild)) (inside (codes "context1") (var (codes "context") 0))

-- the closure of a closure has a context in a context: `(--> 1 2)`
abbrev pub ClosureOfClosure : Type 0
ClosureOfClosure =
    (p q : Pattern) (x y z : List ℕ)
    → context_closure q z (context_closure p y (alone x None (pattern.lit (int 1)) (lit (int 2))))
    ≡ alone z None (around (codes "context1") q (around (codes "context") p (pattern.lit (int 1))))
    (inside (codes "context1") (inside (codes "context") (lit (int 2))))

-- ---- steps of closures

-- the closure by `(hole any)` of `(--> 1 2)`
abbrev pub at_first : Relation
at_first = context_closure (seq_of_two hole any) (codes "y") (alone (codes "x") None (pattern.lit (int 1)) (lit (int 2)))

-- it takes a step where the pattern splits, and nowhere else: `(1 1)` to `(2 1)` alone
abbrev pub StepsInside : Type 0
StepsInside = TakeIn Numbers at_first.rules (list_of_two (int 1) (int 1)) (value (step 0 (list_of_two (int 2) (int 1)) ∷ []))

-- the relation's own step from 1 is none of the closure's, since the pattern does not split 1
abbrev pub NoStepAtTop : Type 0
NoStepAtTop = TakeIn Numbers at_first.rules (int 1) (value [])

-- fresh names avoid what stands around the part, too: `(--> 1 x (fresh x))` takes 1 to `x`, and its closure by `(hole any)` takes `(1 x)` to `(x1 x)`
abbrev pub FreshAvoidsContext : Type 0
FreshAvoidsContext =
    TakeIn Numbers (leads_where (pattern.lit (int 1)) (var (codes "x") 0) fresh_x ∷ []) (int 1) (value (step 0 x ∷ []))
    × TakeIn Numbers (closed_rule (seq_of_two hole any) (leads_where (pattern.lit (int 1)) (var (codes "x") 0) fresh_x) ∷ []) (list_of_two (int 1) x)
    (value (step 0 (list_of_two x1 x) ∷ []))

-- where E is `hole`, `(E any)` or `(any E)`, the closure by E of `(--> number_1 0)` takes one step from `(1 2)` in each place
abbrev pub StepsInEachPlace : Type 0
StepsInEachPlace =
    TakeIn Contexts (context_closure (nt E) (codes "y") (alone (codes "x") None (named (codes "number_1") number) (lit (int 0)))).rules
    (list_of_two (int 1) (int 2)) (value (step 0 (list_of_two (int 0) (int 2)) ∷ step 0 (list_of_two (int 1) (int 0)) ∷ []))

-- ---- faults of closures

-- the closure by `(hole any)` of `(--> 1 (in-hole 2 2))`, where 2 is no context
abbrev pub no_context_at_first : Relation
no_context_at_first =
    context_closure (seq_of_two hole any) (codes "y") (alone (codes "x") None (pattern.lit (int 1)) (fill (lit (int 2)) (lit (int 2))))

-- it has the fault where the pattern splits, and nowhere else: from `(1 1)`, and not from 1
abbrev pub FaultInside : Type 0
FaultInside =
    TakeIn Numbers no_context_at_first.rules (list_of_two (int 1) (int 1)) (fault (not_context 0))
    × TakeIn Numbers no_context_at_first.rules (int 1) (value [])

-- where both places have a fault, the answer is that of the first: where E is `hole`, `(E any)` or `(any E)`, the closure by E of
-- `(--> number_1 ,(quotient number_1 0))` divides 1 by zero from `(1 2)`
abbrev pub FirstPlaceFails : Type 0
FirstPlaceFails =
    TakeIn Contexts (context_closure (nt E) (codes "y") (alone (codes "x") None (named (codes "number_1") number)
    (host (of_two Quotient (term (var (codes "number_1") 0)) (templates.number (pos 0)))))).rules
    (list_of_two (int 1) (int 2)) (fault (divide_by_zero Quotient (int 1 ∷ int 0 ∷ [])))
