-- The worked examples hold.
use Rattle.std.proofs.Common.{◌≡◌, ℕ, List, [], ◌∷◌, None, Some, refl, sym, ◌∙◌, ap, subst, ◌⊎◌, inl, inr, append-nil, codes}
use Rattle.rdx_term.specs.Bare.{bare}
use Rattle.rdx_term.specs.Tree.{Tree}
use Rattle.rdx_term.specs.Tree.{hole as the_hole}
use Rattle.rdx_lang.specs.Ascending.{IsAscending}
use Rattle.rdx_lang.specs.Bindings.{Binding, no_names, visible}
use Rattle.rdx_lang.specs.Decompositions.{Decomposition}
use Rattle.rdx_lang.specs.Examples.{int, binds, list_of_two, seq_of_two, first_marked, second_marked, split_into, E, E_1, number, Numbers, Contexts}
use Rattle.rdx_lang.specs.Join.{IsJoin}
use Rattle.rdx_lang.specs.Listing.{Matches, SplitsInto}
use Rattle.rdx_lang.specs.Members.{In, here, there}
use Rattle.rdx_lang.specs.Order.{binding_cmp}
use Rattle.rdx_lang.specs.Patterns as pattern
use Rattle.rdx_lang.specs.Patterns.{Pattern, Language, hole, nt, in_hole}
use Rattle.rdx_lang.specs.Programs.{Extra, such_as, Relation, Rule}
use Rattle.rdx_lang.specs.RepetitionExamples.{any_1}
use Rattle.rdx_lang.specs.Rules.{Match, match_kind, match_lit, match_hole, match_named, match_in_hole, match_seq, match_none, match_one, Split, split_named}
use Rattle.rdx_lang.specs.Templates.{Template, lit, var, fill}
use Rattle.rdx_lang.proofs.Collecting.{only}
use Rattle.rdx_lang.proofs.Examples.{listed, one_alone, no_member, named_kind_binds, at_either_hole}
use Rattle.rdx_lang.proofs.JoinLaws.{unit_left, unit_right, unit_left-only, unit_right-only}
use Rattle.rdx_lang.proofs.NameLaws.{match-ascends, split-ascends}
use Rattle.rdx_lang.proofs.RepetitionExamples.{each_division}
use Rattle.rdx_lang.proofs.RuleSteps.{kind_inside, lit_inside, hole_inside, in_hole_inside, nt_splits, named_splits}
use Rattle.rdx_lang.proofs.SeenListings.{matches_listed}
use Rattle.rdx_eval.specs.Answers.{value, stops, goes, Gather, Single, Lists, lists}
use Rattle.rdx_eval.specs.Calls.{Calls}
use Rattle.rdx_eval.specs.Extending.{By, matched, joins_none}
use Rattle.rdx_eval.specs.Fresh.{avoiding}
use Rattle.rdx_eval.specs.Heights.{calls_at}
use Rattle.rdx_eval.specs.Examples.{x}
use Rattle.rdx_eval.specs.Examples.{any_1 as template_any_1}
use Rattle.rdx_eval.specs.Instantiation.{Makes}
use Rattle.rdx_eval.specs.Making.{filled_no_context}
use Rattle.rdx_reduce.specs.Examples.{leads, leads_where, step, of_rules, is_two, OneStep, StepByEach, OnceForTwo, FaultAlone, RulesInOrder, MarksCount, FirstFault, ConditionHolds, ConditionFails, WhereFails, TermOutside, ReductOutside, BothInside}
use Rattle.rdx_reduce.specs.Steps.{Step, step_cmp, StepBy, RuleSteps, Steps}

-- ---- what patterns bind

-- any_1 = 1
abbrev one_bound : Binding
one_bound = binds (codes "any_1") (int 1)

-- `any_1` matches 1
one_matches : Matches Numbers any_1 (int 1) (one_bound ∷ [])
one_matches = matches_listed (refl, tt) (one_alone one_bound (match_named (match_kind refl) (unit_left one_bound ((tt, tt), (tt, tt)))) (λ b h. named_kind_binds h))

-- what `(x any_1)` binds at `(x 1)`
pair_binds : {b : Binding} → Match Numbers (seq_of_two (pattern.lit x) any_1) (list_of_two x (int 1)) b → b ≡ one_bound
pair_binds (match_seq {b = b} (match_one (match_lit e) (match_one {b = c} h match_none k) j)) =
    let d : c ≡ one_bound = unit_right-only (match-ascends h) k ∙ named_kind_binds h in
    unit_left-only ((tt, tt), (tt, tt)) (subst (λ (s : Binding). IsJoin no_names s b) d j)

-- `(x any_1)` matches `(x 1)`
pair_matches : Matches Numbers (seq_of_two (pattern.lit x) any_1) (list_of_two x (int 1)) (one_bound ∷ [])
pair_matches =
    matches_listed (refl, tt) (one_alone one_bound
    (match_seq (match_one (match_lit refl) (match_one (match_named (match_kind refl) (unit_left one_bound ((tt, tt), (tt, tt)))) match_none
    (unit_right one_bound ((tt, tt), (tt, tt)))) (unit_left one_bound ((tt, tt), (tt, tt))))) (λ b h. pair_binds h))

-- ---- steps by a rule

-- a relation without a domain; of its rules the steps by one of them say nothing
abbrev pub anywhere : Relation
anywhere = of_rules None []

-- a rule whose pattern has one binding takes one step
pub one_taken : (L : Language) (C : Calls) (t : Tree) (i : ℕ) (p : Pattern) (s : Template) (b : Binding) (u : Tree) → Matches L p t (b ∷ [])
    → Makes C b s (value u) → RuleSteps L C anywhere t i (leads p s) (value (step i u ∷ []))
one_taken L C t i p s b u m h = goes (goes (lists m) refl) (goes (goes (goes (goes h refl) refl) refl) (goes refl refl))

-- a rule whose pattern has two bindings takes two
pub two_taken : (L : Language) (C : Calls) (t : Tree) (i : ℕ) (p : Pattern) (s : Template) (b c : Binding) (u v : Tree) → Matches L p t (b ∷ c ∷ [])
    → Makes C b s (value u) → Makes C c s (value v) → RuleSteps L C anywhere t i (leads p s) (value (step i u ∷ step i v ∷ []))
two_taken L C t i p s b c u v m h k =
    goes (goes (lists m) refl)
    (goes (goes (goes (goes h refl) refl) refl) (goes (goes (goes (goes (goes k refl) refl) refl) (goes refl refl)) refl))

-- one whose pattern has none takes none
pub none_taken : (L : Language) (C : Calls) (t : Tree) (i : ℕ) (p : Pattern) (s : Template) → Matches L p t []
    → RuleSteps L C anywhere t i (leads p s) (value [])
none_taken L C t i p s m = goes (goes (lists m) refl) refl

-- the steps of a rule alone
pub of_one : (L : Language) (C : Calls) (t : Tree) (r : Rule) (ss : List Step) → IsAscending step_cmp ss → RuleSteps L C anywhere t 0 r (value ss)
    → Steps L C (of_rules None (r ∷ [])) t (value ss)
of_one L C t r ss a h =
    goes (goes h (goes refl refl)) (subst (λ (us : List Step). Lists step_cmp (λ s. In s us) (value ss)) (sym (append-nil ss))
    (lists (record { ascending = a; sound = λ s i. i; complete = λ s i. i })))

-- ---- the examples

-- two equal steps are one
twice : {s u : Step} → In u (s ∷ s ∷ []) → u ≡ s
twice (here e) = e
twice (there i) = only i

pub one_step : OneStep
one_step P n =
    goes (goes (one_taken Numbers (calls_at P n) (list_of_two x (int 1)) 0 (seq_of_two (pattern.lit x) any_1) (template_any_1 0) one_bound (int 1)
    pair_matches refl) (goes refl refl))
    (lists (one_alone (step 0 (int 1)) (here refl) (λ s i. only i)))

pub step_by_each : StepByEach
step_by_each P n =
    goes (goes (one_taken Numbers (calls_at P n) (int 1) 0 any_1 (template_any_1 0) one_bound (int 1) one_matches refl)
    (goes (goes (one_taken Numbers (calls_at P n) (int 1) 1 any_1 (lit (int 1)) one_bound (int 1) one_matches refl) (goes refl refl)) refl))
    (lists (listed (step 0 (int 1) ∷ step 1 (int 1) ∷ []) ((refl, tt), (tt, tt)) (here refl, (there (here refl), tt)) (λ s i. i)))

pub once_for_two : OnceForTwo
once_for_two P n =
    goes (goes (goes (goes (lists each_division) refl)
    (goes (goes (goes (goes refl refl) refl) refl) (goes (goes (goes (goes (goes refl refl) refl) refl) (goes refl refl)) refl))) (goes refl refl))
    (lists (one_alone (step 0 (int 1)) (here refl) (λ s i. twice i)))

pub fault_alone : FaultAlone
fault_alone P n =
    stops (goes (one_taken Numbers (calls_at P n) (int 1) 0 any_1 (template_any_1 0) one_bound (int 1) one_matches refl)
    (stops (stops (goes (goes (lists one_matches) refl) (stops (stops (stops (stops (goes refl (goes refl (filled_no_context (refl, refl))))))))))))

pub rules_in_order : RulesInOrder
rules_in_order P n =
    goes (goes (one_taken Numbers (calls_at P n) (int 1) 0 any_1 (lit (int 2)) one_bound (int 2) one_matches refl)
    (goes (goes (one_taken Numbers (calls_at P n) (int 1) 1 any_1 (lit (int 1)) one_bound (int 1) one_matches refl) (goes refl refl)) refl))
    (lists (listed (step 0 (int 2) ∷ step 1 (int 1) ∷ []) ((refl, tt), (tt, tt)) (here refl, (there (here refl), tt)) (λ s i. i)))

-- what E splits `(hole hole)` into
abbrev e_splits : List Decomposition
e_splits =
    split_into the_hole (list_of_two the_hole the_hole) no_names ∷ split_into first_marked the_hole no_names
    ∷ split_into second_marked the_hole no_names ∷ []

-- what `(in-hole E_1 hole)` binds at `(hole hole)`
at_holes : (d : Decomposition) {b : Binding} → SplitsInto Contexts (nt E) (list_of_two the_hole the_hole) d → Match Contexts hole d.part b
    → (binds (codes "E_1") d.context ≡ binds (codes "E_1") first_marked) ⊎ (binds (codes "E_1") d.context ≡ binds (codes "E_1") second_marked)
at_holes d {b} h g = by_place (at_either_hole.complete (split_into d.context d.part (visible d.binding)) (record { whole = d.binding; holds = h; seen = refl }))
  where
    by_place : In (split_into d.context d.part (visible d.binding)) e_splits
        → (binds (codes "E_1") d.context ≡ binds (codes "E_1") first_marked) ⊎ (binds (codes "E_1") d.context ≡ binds (codes "E_1") second_marked)
    by_place (here e) =
        let k : d.part ≡ list_of_two the_hole the_hole = ap (λ (c : Decomposition). c.part) e in
        let l : d.part ≡ the_hole = (hole_inside g).0 in absurd cc
    by_place (there (here e)) = inl (ap (λ (c : Decomposition). binds (codes "E_1") c.context) e)
    by_place (there (there (here e))) = inr (ap (λ (c : Decomposition). binds (codes "E_1") c.context) e)
    by_place (there (there (there i))) = elim i [ ]

-- E_1 = `(hole hole)`, with its first and with its second hole marked
holes_match :
    Matches Contexts (in_hole E_1 hole) (list_of_two the_hole the_hole) (binds (codes "E_1") first_marked ∷ binds (codes "E_1") second_marked ∷ [])
holes_match =
    matches_listed (refl, (refl, tt))
    (listed members ((refl, tt), (tt, tt)) (at_hole first_marked (there (here refl)), (at_hole second_marked (there (there (here refl))), tt)) only)
  where
    members : List Binding
    members = binds (codes "E_1") first_marked ∷ binds (codes "E_1") second_marked ∷ []

    at_hole : (C : Tree) → In (split_into C the_hole no_names) e_splits
        → Match Contexts (in_hole E_1 hole) (list_of_two the_hole the_hole) (binds (codes "E_1") C)
    at_hole C i =
        let s = at_either_hole.sound (split_into C the_hole no_names) i in
        let h : Split Contexts (nt E) (list_of_two the_hole the_hole) C the_hole no_names =
        subst (λ (c : Binding). Split Contexts (nt E) (list_of_two the_hole the_hole) C the_hole c) (nt_splits s.holds).1 s.holds in
        match_in_hole (split_named h (unit_left (binds (codes "E_1") C) ((tt, tt), (tt, tt)))) match_hole (unit_right (binds (codes "E_1") C) ((tt, tt), (tt, tt)))

    only : (b : Binding) → Match Contexts (in_hole E_1 hole) (list_of_two the_hole the_hole) b → In b members
    only b h =
        let k = in_hole_inside h in
        let n = named_splits k.split in
        let d : Decomposition = split_into k.context k.part n.inside in
        let none : n.inside ≡ no_names = (nt_splits n.split).1 in
        let named : k.outer ≡ binds (codes "E_1") k.context =
        unit_left-only ((tt, tt), (tt, tt)) (subst (λ (c : Binding). IsJoin c (binds (codes "E_1") k.context) k.outer) none n.joined) in
        let e : b ≡ binds (codes "E_1") k.context =
        unit_right-only (split-ascends k.split) (subst (λ (c : Binding). IsJoin k.outer c b) (hole_inside k.matched).1 k.joined) ∙ named in
        elim (at_holes d n.split k.matched) [ inl l ↦ here (e ∙ l) | inr r ↦ there (here (e ∙ r)) ]

pub marks_count : MarksCount
marks_count P n =
    of_one Contexts (calls_at P n) (list_of_two the_hole the_hole) (leads (in_hole E_1 hole) (var (codes "E_1") 0))
    (step 0 first_marked ∷ step 0 second_marked ∷ [])
    ((refl, tt), (tt, tt))
    (two_taken Contexts (calls_at P n) (list_of_two the_hole the_hole) 0 (in_hole E_1 hole) (var (codes "E_1") 0) (binds (codes "E_1") first_marked)
    (binds (codes "E_1") second_marked) first_marked second_marked holes_match refl refl)

pub first_fault : FirstFault
first_fault P n =
    stops (stops (goes (goes (lists one_matches) refl) (stops (stops (stops (stops (goes refl (goes refl (filled_no_context (refl, refl))))))))))

-- ---- extras

-- the steps of a rule with an extra that leaves these bindings of one
pub after_extra : (C : Calls) (t : Tree) (i : ℕ) (p : Pattern) (s : Template) (e : Extra) (b : Binding) (cs : List Binding) (ss : List Step)
    → Matches Numbers p t (b ∷ []) → By Numbers C (avoiding t) e b (value cs) → IsAscending binding_cmp cs
    → Gather (λ c. Single (StepBy Numbers C anywhere i (leads_where p s e) c)) cs (value ss)
    → RuleSteps Numbers C anywhere t i (leads_where p s e) (value ss)
after_extra C t i p s e b cs ss m h a g =
    goes (goes (lists m) (goes (goes (goes h (goes refl refl))
    (subst (λ (ds : List Binding). Lists binding_cmp (λ c. In c ds) (value cs)) (sym (append-nil cs))
    (lists (record { ascending = a; sound = λ c j. j; complete = λ c j. j })))) refl)) g

-- any_1 = n
abbrev bound_to : ℕ → Binding
bound_to n = binds (codes "any_1") (int n)

-- `any_1` matches it
any_matches : (n : ℕ) → Matches Numbers any_1 (int n) (bound_to n ∷ [])
any_matches n =
    matches_listed (refl, tt) (one_alone (bound_to n) (match_named (match_kind refl) (unit_left (bound_to n) ((tt, tt), (tt, tt)))) (λ b h. named_kind_binds h))

pub condition_holds : ConditionHolds
condition_holds P n =
    of_one Numbers (calls_at P n) (int 2) (leads_where any_1 (lit (int 3)) is_two) (step 0 (int 3) ∷ []) (tt, tt)
    (after_extra (calls_at P n) (int 2) 0 any_1 (lit (int 3)) is_two (bound_to 2) (bound_to 2 ∷ []) (step 0 (int 3) ∷ []) (any_matches 2)
    (goes (goes (goes (goes refl refl) (goes (goes (goes refl refl) (goes refl refl)) refl)) refl) refl) (tt, tt)
    (goes (goes (goes (goes refl refl) refl) refl) (goes refl refl)))

pub condition_fails : ConditionFails
condition_fails P n =
    of_one Numbers (calls_at P n) (int 1) (leads_where any_1 (lit (int 3)) is_two) [] tt
    (after_extra (calls_at P n) (int 1) 0 any_1 (lit (int 3)) is_two (bound_to 1) [] [] (any_matches 1)
    (goes (goes (goes (goes refl refl) (goes (goes (goes refl refl) (goes refl refl)) refl)) refl) refl) tt refl)

-- 2 does not match 1
other_number : {b : Binding} → Match Numbers (pattern.lit (int 2)) (int 1) b → ⊥
other_number h = let k : bare (int 1) ≡ bare (int 2) = (lit_inside h).0 in absurd cc

-- `(--> any_1 (in-hole any_1 1) (where 2 any_1))`
abbrev where_two : Rule
where_two = leads_where any_1 (fill (template_any_1 0) (lit (int 1))) (such_as (pattern.lit (int 2)) (template_any_1 0))

pub where_fails : WhereFails
where_fails P n =
    of_one Numbers (calls_at P n) (int 1) where_two [] tt
    (after_extra (calls_at P n) (int 1) 0 any_1 (fill (template_any_1 0) (lit (int 1))) (such_as (pattern.lit (int 2)) (template_any_1 0))
    (bound_to 1) [] [] (any_matches 1) (goes refl (matched (matches_listed tt (no_member (λ b h. other_number h))) joins_none)) tt refl)

-- ---- domains

-- a number is one, and x is none
number_matches : (n : ℕ) → Matches Numbers number (int n) (no_names ∷ [])
number_matches n = matches_listed (refl, tt) (one_alone no_names (match_kind refl) (λ b h. (kind_inside h).1))

x_is_no_number : {b : Binding} → Match Numbers number x b → ⊥
x_is_no_number (match_kind e) = absurd cc

x_matches_none : Matches Numbers number x []
x_matches_none = matches_listed tt (no_member (λ b h. x_is_no_number h))

-- a relation of numbers; of its rules the steps by one of them say nothing
abbrev on_numbers : Relation
on_numbers = of_rules (Some number) []

-- its rule `(--> any_1 n)` takes a step from 1
number_taken : (C : Calls) (i n : ℕ) → RuleSteps Numbers C on_numbers (int 1) i (leads any_1 (lit (int n))) (value (step i (int n) ∷ []))
number_taken C i n =
    goes (goes (lists one_matches) refl) (goes (goes (goes (goes refl (goes (lists (number_matches n)) refl)) refl) refl) (goes refl refl))

pub term_outside : TermOutside
term_outside P n = goes (lists x_matches_none) refl

pub reduct_outside : ReductOutside
reduct_outside P n =
    goes (lists (number_matches 1))
    (stops (goes (number_taken (calls_at P n) 0 2)
    (stops (stops (goes (goes (lists one_matches) refl) (stops (stops (stops (goes refl (goes (lists x_matches_none) refl))))))))))

pub both_inside : BothInside
both_inside P n =
    goes (lists (number_matches 1))
    (goes (goes (number_taken (calls_at P n) 0 2) (goes refl refl)) (lists (one_alone (step 0 (int 2)) (here refl) (λ s i. only i))))
