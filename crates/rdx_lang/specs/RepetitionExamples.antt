-- Worked examples of repetitions: what the definitions say of list patterns with ellipses. They are proved, as clauses of
-- `laws::worked_examples`.
use Rattle.std.specs.Prelude.{ℕ, List, [], ◌∷◌, Option, Some, None, codes}
use Rattle.rdx_term.specs.Tree.{Tree, list}
use Rattle.rdx_term.specs.Tree.{nil as no_trees}
use Rattle.rdx_term.specs.Tree.{hole as the_hole}
use Rattle.rdx_lang.specs.Bindings.{Value, many, len, values, Binding, of_pairs, no_names, one_name}
use Rattle.rdx_lang.specs.Bindings.{one as one_term}
use Rattle.rdx_lang.specs.Examples.{int, list_of_one, list_of_two, first_marked, second_marked, any, Numbers, Contexts, split_into}
use Rattle.rdx_lang.specs.Listing.{Matches, Splits}
use Rattle.rdx_lang.specs.Patterns.{Pattern, hole, named, seq, nil}
use Rattle.rdx_lang.specs.Patterns.{many as repeated}

-- ---- patterns and values of the examples

-- the list without items
abbrev pub empty_list : Tree
empty_list = list None no_trees

-- list patterns of one repetition, and of two
abbrev pub seq_of_any : Pattern → Option (List ℕ) → Pattern
seq_of_any p n = seq (repeated p n nil)

abbrev pub seq_of_both : Pattern → Option (List ℕ) → Pattern → Option (List ℕ) → Pattern
seq_of_both p n q m = seq (repeated p n (repeated q m nil))

-- `any_1` and `any_2`
abbrev pub any_1 : Pattern
any_1 = named (codes "any_1") any

abbrev pub any_2 : Pattern
any_2 = named (codes "any_2") any

-- what a name before an ellipsis stands for: these values, one for each turn
abbrev pub in_turns : List Value → Value
in_turns vs = many (values vs)

-- any_1 and any_2 stand for these values
abbrev pub both_bound : Value → Value → Binding
both_bound v w = of_pairs ((codes "any_1", v) ∷ (codes "any_2", w) ∷ [])

-- ---- what repetitions match

-- each way to divide the items counts: `(any_1 ... any_2 ...)` matches `(1)` with any_1 = () and any_2 = (1), and with any_1 = (1) and
-- any_2 = ()
abbrev pub EachDivision : Type 0
EachDivision =
    Matches Numbers (seq_of_both any_1 None any_2 None) (list_of_one (int 1))
    (both_bound (in_turns []) (in_turns (one_term (int 1) ∷ [])) ∷ both_bound (in_turns (one_term (int 1) ∷ [])) (in_turns []) ∷ [])

-- no turn at all: `(any_1 ..._n)` matches `()`, where any_1 stands for no term and ..._n for 0
abbrev pub NoTurn : Type 0
NoTurn =
    Matches Numbers (seq_of_any any_1 (Some (codes "..._n"))) empty_list
    (of_pairs ((codes "..._n", len 0) ∷ (codes "any_1", in_turns []) ∷ []) ∷ [])

-- one length name means equal lengths: `(any_1 ..._n any_2 ..._n)` matches `(1 2)` with one turn each alone
abbrev pub EqualLengths : Type 0
EqualLengths =
    Matches Numbers (seq_of_both any_1 (Some (codes "..._n")) any_2 (Some (codes "..._n"))) (list_of_two (int 1) (int 2))
    (of_pairs ((codes "..._n", len 1) ∷ (codes "any_1", in_turns (one_term (int 1) ∷ [])) ∷ (codes "any_2", in_turns (one_term (int 2) ∷ [])) ∷ []) ∷ [])

-- a name that stands twice has equal sequences: `(any_1 ... any_1 ...)` matches `(1 1)` with any_1 = (1) alone, and does not match `(1 2)`
abbrev pub EqualSequences : Type 0
EqualSequences =
    Matches Numbers (seq_of_both any_1 None any_1 None) (list_of_two (int 1) (int 1))
    (one_name (codes "any_1") (in_turns (one_term (int 1) ∷ [])) ∷ [])
    × Matches Numbers (seq_of_both any_1 None any_1 None) (list_of_two (int 1) (int 2)) []

-- two ellipses, a sequence of sequences: `((any_1 ...) ...)` matches `((1) ())` with any_1 = ((1) ())
abbrev pub SequenceOfSequences : Type 0
SequenceOfSequences =
    Matches Numbers (seq_of_any (seq_of_any any_1 None) None) (list_of_two (list_of_one (int 1)) empty_list)
    (one_name (codes "any_1") (in_turns (in_turns (one_term (int 1) ∷ []) ∷ in_turns [] ∷ [])) ∷ [])

-- ---- what they split

-- one turn splits and each other matches: `(hole ...)` splits `(hole hole)` at either item, and each context has two items
abbrev pub OneTurnSplits : Type 0
OneTurnSplits =
    Splits Contexts (seq_of_any hole None) (list_of_two the_hole the_hole)
    (split_into first_marked the_hole no_names ∷ split_into second_marked the_hole no_names ∷ [])
