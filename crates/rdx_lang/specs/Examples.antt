-- Worked examples: what the definitions say of small languages, patterns and terms. They are proved, as the clauses of
-- `laws::worked_examples`.
use Rattle.std.specs.Prelude.{◌≡◌, ℕ, pos, List, [], ◌∷◌, Some, None, codes}
use Rattle.std.specs.declared.cmp.Ordering.TheVariants.{Less}
use Rattle.rdx_term.specs.Tree.{Tree, integer, symbol, list, cons}
use Rattle.rdx_term.specs.Tree.{nil as no_trees}
use Rattle.rdx_term.specs.Tree.{hole as the_hole}
use Rattle.rdx_lang.specs.Bindings.{Binding, of_pairs, no_names, one_name}
use Rattle.rdx_lang.specs.Bindings.{one as one_term}
use Rattle.rdx_lang.specs.Decompositions.{Decomposition}
use Rattle.rdx_lang.specs.Edges.{IsFree, IsFirstRecursive}
use Rattle.rdx_lang.specs.Empty.{IsEmpty}
use Rattle.rdx_lang.specs.Listing.{Matches, Splits}
use Rattle.rdx_lang.specs.Order.{binding_cmp}
use Rattle.rdx_lang.specs.Patterns.{Pattern, of_kind, except, hole, lit, nt, named, in_hole, hide_hole, seq, nil, one, Language}
use Rattle.rdx_lang.specs.declared.pattern.Kind.TheVariants.{Any, Number, Natural, Unmentioned}
use Rattle.rdx_lang.specs.declared.pattern.Ref.{Ref}
use Rattle.rdx_lang.specs.declared.pattern.Ref.TheVariants.{Nt}

-- ---- terms, patterns and languages of the examples

-- an integer
abbrev pub int : ℕ → Tree
int n = integer (pos n)

-- lists of one term and of two, without a mark
abbrev pub list_of_one : Tree → Tree
list_of_one t = list None (cons t no_trees)

abbrev pub list_of_two : Tree → Tree → Tree
list_of_two t u = list None (cons t (cons u no_trees))

-- lists of two terms, marked at the first and at the second
abbrev pub marked_first : Tree → Tree → Tree
marked_first t u = list (Some 0) (cons t (cons u no_trees))

abbrev pub marked_second : Tree → Tree → Tree
marked_second t u = list (Some 1) (cons t (cons u no_trees))

-- the contexts `(hole hole)` with their first and with their second hole marked
abbrev pub first_marked : Tree
first_marked = marked_first the_hole the_hole

abbrev pub second_marked : Tree
second_marked = marked_second the_hole the_hole

-- the binding of one name alone, to a term
abbrev pub binds : List ℕ → Tree → Binding
binds x t = one_name x (one_term t)

-- list patterns of one item and of two
abbrev pub seq_of_one : Pattern → Pattern
seq_of_one p = seq (one p nil)

abbrev pub seq_of_two : Pattern → Pattern → Pattern
seq_of_two p q = seq (one p (one q nil))

-- the nonterminals e and f
abbrev pub e : Ref
e = Nt (codes "e")

abbrev pub f : Ref
f = Nt (codes "f")

-- `e_1` in a language with the nonterminal e
abbrev pub e_1 : Pattern
e_1 = named (codes "e_1") (nt e)

-- `(define-language L (e number))`
abbrev pub Numbers : Language
Numbers = record { name = codes "L"; nonterminals = (e, of_kind Number ∷ []) ∷ [] }

-- `(define-language L (e number natural (e_1 e_1)))`
abbrev pub Twins : Language
Twins = record { name = codes "L"; nonterminals = (e, of_kind Number ∷ of_kind Natural ∷ seq_of_two e_1 e_1 ∷ []) ∷ [] }

-- ---- a name that stands twice has equal values

-- `(e_1 e_1)` matches `(1 1)`, with e_1 = 1 alone
abbrev pub TwoEqual : Type 0
TwoEqual = Matches Numbers (seq_of_two e_1 e_1) (list_of_two (int 1) (int 1)) (binds (codes "e_1") (int 1) ∷ [])

-- it does not match `(1 2)`
abbrev pub TwoDifferent : Type 0
TwoDifferent = Matches Numbers (seq_of_two e_1 e_1) (list_of_two (int 1) (int 2)) []

-- marks count: `(any_1 any_1)` does not match a list of two contexts that differ only in which of their two holes is marked
abbrev pub TwoMarks : Type 0
TwoMarks =
    Matches Numbers (seq_of_two (named (codes "any_1") (of_kind Any)) (named (codes "any_1") (of_kind Any)))
    (list_of_two first_marked second_marked) []

-- ---- a name around a pattern is joined with what the pattern binds

-- `(name x (e_1 e))` matches `(1 2)` with e_1 = 1 and x = (1 2)
abbrev pub NameAround : Type 0
NameAround =
    Matches Numbers (named (codes "x") (seq_of_two e_1 (nt e))) (list_of_two (int 1) (int 2))
    (of_pairs ((codes "e_1", one_term (int 1)) ∷ (codes "x", one_term (list_of_two (int 1) (int 2))) ∷ []) ∷ [])

-- the outer name hides no inner one: `(name x ((name x e)))` does not match `(1)`, since x would be `(1)` and 1
abbrev pub NameAroundItself : Type 0
NameAroundItself = Matches Numbers (named (codes "x") (seq_of_one (named (codes "x") (nt e)))) (list_of_one (int 1)) []

-- ---- a nonterminal forgets what its alternatives bind

-- `(e e)` matches `((1 1) (2 2))`, where e_1 is 1 in the one item and 2 in the other, and binds nothing
abbrev pub Forgotten : Type 0
Forgotten = Matches Twins (seq_of_two (nt e) (nt e)) (list_of_two (list_of_two (int 1) (int 1)) (list_of_two (int 2) (int 2)))
    (no_names ∷ [])

-- `e_1` matches 1 by two alternatives, and the one binding is listed once
abbrev pub OnceForTwo : Type 0
OnceForTwo = Matches Twins e_1 (int 1) (binds (codes "e_1") (int 1) ∷ [])

-- ---- `variable-not-otherwise-mentioned`

-- `(define-language L (e ((if e)) (variable-except then)))`
abbrev pub Mentions : Language
Mentions = record {
  name = codes "L";
  nonterminals = (e, seq_of_one (seq_of_two (lit (symbol (codes "if"))) (nt e)) ∷ except (codes "then" ∷ []) ∷ []) ∷ [];
}

-- it does not match `if`, a literal in a list inside a list
abbrev pub Mentioned : Type 0
Mentioned = Matches Mentions (of_kind Unmentioned) (symbol (codes "if")) []

-- it matches `then`, which `variable-except` names
abbrev pub ExceptMentionsNone : Type 0
ExceptMentionsNone = Matches Mentions (of_kind Unmentioned) (symbol (codes "then")) (no_names ∷ [])

-- it matches `e`, which is a nonterminal
abbrev pub NonterminalsAreNotMentioned : Type 0
NonterminalsAreNotMentioned = Matches Mentions (of_kind Unmentioned) (symbol (codes "e")) (no_names ∷ [])

-- ---- the order of bindings

-- x = (1) comes before x = (1 2), a proper prefix before the longer list
abbrev pub PrefixFirst : Type 0
PrefixFirst = binding_cmp (binds (codes "x") (list_of_one (int 1))) (binds (codes "x") (list_of_two (int 1) (int 2))) ≡ Less

-- x = (1 2) comes before x = (2), since the first items decide
abbrev pub ItemsDecide : Type 0
ItemsDecide = binding_cmp (binds (codes "x") (list_of_two (int 1) (int 2))) (binds (codes "x") (list_of_one (int 2))) ≡ Less

-- x = (1), y = 3 comes before x = (1 2), y = 0, since the first pairs decide
abbrev pub FirstPairDecides : Type 0
FirstPairDecides =
    binding_cmp (of_pairs ((codes "x", one_term (list_of_one (int 1))) ∷ (codes "y", one_term (int 3)) ∷ []))
    (of_pairs ((codes "x", one_term (list_of_two (int 1) (int 2))) ∷ (codes "y", one_term (int 0)) ∷ [])) ≡ Less

-- ---- left edges

-- `(define-language L (e (f)) (f number (name x f)))`
abbrev pub ThroughAName : Language
ThroughAName = record {
  name = codes "L";
  nonterminals = (e, seq_of_one (nt f) ∷ []) ∷ (f, of_kind Number ∷ named (codes "x") (nt f) ∷ []) ∷ [];
}

-- f reaches itself through a name, and is the first to do so: e leads into a list only
abbrev pub NameKeepsTheTerm : Type 0
NameKeepsTheTerm = IsFirstRecursive ThroughAName f

-- `(define-language L (e number (e e)))`
abbrev pub UnderAList : Language
UnderAList = record { name = codes "L"; nonterminals = (e, of_kind Number ∷ seq_of_two (nt e) (nt e) ∷ []) ∷ [] }

-- e stands under a list, which no left edge enters
abbrev pub ListTakesOff : Type 0
ListTakesOff = IsFree UnderAList

-- ---- contexts

-- the nonterminal E
abbrev pub E : Ref
E = Nt (codes "E")

-- `E_1` in a language with the nonterminal E
abbrev pub E_1 : Pattern
E_1 = named (codes "E_1") (nt E)

-- `any` and `number`
abbrev pub any : Pattern
any = of_kind Any

abbrev pub number : Pattern
number = of_kind Number

-- `(define-language L (E hole (E any) (any E)))`
abbrev pub Contexts : Language
Contexts = record { name = codes "L"; nonterminals = (E, hole ∷ seq_of_two (nt E) any ∷ seq_of_two any (nt E) ∷ []) ∷ [] }

-- a context and a part, with what the names stand for
abbrev pub split_into : Tree → Tree → Binding → Decomposition
split_into C s b = record { context = C; part = s; binding = b }

-- E_1 stands for a context, and number_1 for a term
abbrev pub in_place : Tree → Tree → Binding
in_place C t = of_pairs ((codes "E_1", one_term C) ∷ (codes "number_1", one_term t) ∷ [])

-- `(in-hole E_1 number_1)` matches `(1 2)` in both places: with E_1 = (hole 2) and number_1 = 1, and with E_1 = (1 hole) and number_1 = 2
abbrev pub InEachPlace : Type 0
InEachPlace =
    Matches Contexts (in_hole E_1 (named (codes "number_1") number)) (list_of_two (int 1) (int 2))
    (in_place (marked_first the_hole (int 2)) (int 1) ∷ in_place (marked_second (int 1) the_hole) (int 2) ∷ [])

-- E splits `(hole hole)` into the hole and itself, and at either hole; these two contexts differ in their marks alone
abbrev pub AtEitherHole : Type 0
AtEitherHole =
    Splits Contexts (nt E) (list_of_two the_hole the_hole)
    (split_into the_hole (list_of_two the_hole the_hole) no_names ∷ split_into first_marked the_hole no_names
    ∷ split_into second_marked the_hole no_names ∷ [])

-- `(hide-hole hole)` matches the hole and splits nothing, while `hole` splits it into the hole and itself
abbrev pub HiddenSplitsNothing : Type 0
HiddenSplitsNothing =
    Matches Contexts (hide_hole hole) the_hole (no_names ∷ []) × Splits Contexts (hide_hole hole) the_hole []
    × Splits Contexts hole the_hole (split_into the_hole the_hole no_names ∷ [])

-- the pattern `(hole hole)` splits the list `(hole hole)` at one item, and matches the other
abbrev pub OneItemSplits : Type 0
OneItemSplits =
    Splits Contexts (seq_of_two hole hole) (list_of_two the_hole the_hole)
    (split_into first_marked the_hole no_names ∷ split_into second_marked the_hole no_names ∷ [])

-- it does not split `(1 2)`: both items would have to split at once
abbrev pub NeverAtBoth : Type 0
NeverAtBoth = Splits Contexts (seq_of_two hole hole) (list_of_two (int 1) (int 2)) []

-- the context `((1 hole) 3)`
abbrev pub nested : Tree
nested = marked_first (marked_second (int 1) the_hole) (int 3)

-- `(name x (in-hole (hole any) (any hole)))` splits `((1 2) 3)` into x = ((1 hole) 3) and 2: the one context is put into the other
abbrev pub ContextInContext : Type 0
ContextInContext =
    Splits Contexts (named (codes "x") (in_hole (seq_of_two hole any) (seq_of_two any hole)))
    (list_of_two (list_of_two (int 1) (int 2)) (int 3)) (split_into nested (int 2) (binds (codes "x") nested) ∷ [])

-- where a pattern matches, the name stands for the term: `(name x (in-hole (hole any) number))` matches `(1 2)` with x = (1 2)
abbrev pub NameOfATerm : Type 0
NameOfATerm =
    Matches Contexts (named (codes "x") (in_hole (seq_of_two hole any) number)) (list_of_two (int 1) (int 2))
    (binds (codes "x") (list_of_two (int 1) (int 2)) ∷ [])

-- a name that stands twice has equal contexts: `((in-hole E_1 number) (in-hole E_1 number))` matches `((1 2) (3 2))` at the first places alone
abbrev pub EqualContexts : Type 0
EqualContexts =
    Matches Contexts (seq_of_two (in_hole E_1 number) (in_hole E_1 number))
    (list_of_two (list_of_two (int 1) (int 2)) (list_of_two (int 3) (int 2))) (binds (codes "E_1") (marked_first the_hole (int 2)) ∷ [])

-- it does not match `((1 hole) (hole 2))`, where both contexts are (hole hole), one with its first hole marked and one with its second
abbrev pub ContextsWithMarks : Type 0
ContextsWithMarks =
    Matches Contexts (seq_of_two (in_hole E_1 number) (in_hole E_1 number))
    (list_of_two (marked_second (int 1) the_hole) (marked_first the_hole (int 2))) []

-- ---- Empty patterns, and what they lead to

-- `(define-language L (e f) (f (name x hole)))`
abbrev pub Through : Language
Through = record { name = codes "L"; nonterminals = (e, nt f ∷ []) ∷ (f, named (codes "x") hole ∷ []) ∷ [] }

-- e is Empty by way of f
abbrev pub EmptyThroughAnother : Type 0
EmptyThroughAnother = IsEmpty Through (nt e)

-- `(define-language L (e (in-hole f e)) (f hole))`
abbrev pub BehindEmpty : Language
BehindEmpty = record { name = codes "L"; nonterminals = (e, in_hole (nt f) (nt e) ∷ []) ∷ (f, hole ∷ []) ∷ [] }

-- e reaches itself, since f is Empty: what stands in its hole is the term itself
abbrev pub EmptyLeadsOn : Type 0
EmptyLeadsOn = IsFirstRecursive BehindEmpty e

-- `(define-language L (e (in-hole f e)) (f (hole any)))`
abbrev pub BehindAList : Language
BehindAList = record { name = codes "L"; nonterminals = (e, in_hole (nt f) (nt e) ∷ []) ∷ (f, seq_of_two hole any ∷ []) ∷ [] }

-- no left edge leads on to e there, since f takes a list off
abbrev pub ContextTakesOff : Type 0
ContextTakesOff = IsFree BehindAList
