-- The worked examples hold.
use Rattle.std.proofs.Common.{◌≡◌, ℕ, pos, List, [], ◌∷◌, ◌++◌, Some, None, map, refl, ap, sym, ◌∙◌, subst, codes, arith}
use Rattle.std.specs.Str.{chars}
use Rattle.std.specs.Prelude.{true, false}
use Rattle.rdx_base.specs.declared.place.Span.{Span}
use Rattle.std.specs.declared.cmp.Ordering.{Ordering}
use Rattle.rdx_term.specs.Items.{put_at}
use Rattle.rdx_term.specs.Tree as tree
use Rattle.rdx_lang.specs.Bindings.{Binding, of_pairs, no_names, one_name}
use Rattle.rdx_lang.specs.Bindings.{one as one_term}
use Rattle.rdx_lang.specs.Decompositions.{Decomposition}
use Rattle.rdx_lang.specs.Edges.{Reaches, at_once, further, edge_nt, IsFree, IsFirstRecursive}
use Rattle.rdx_lang.specs.Join.{IsJoin}
use Rattle.rdx_lang.proofs.JoinLaws.{one_join, turned_join, unit_left, unit_right, one_name-ascends, none_left, none_left-only, one_left-only, one_right-only}
use Rattle.rdx_lang.specs.Listing.{IsListing, Matches, SplitsInto, Splits}
use Rattle.rdx_lang.specs.Members.{In, here, there}
use Rattle.rdx_lang.specs.Patterns.{Pattern, of_kind, hole, lit, nt, named, seq, nil, one, Definition, Language}
use Rattle.rdx_lang.specs.Rules.{Match, MatchItems, SplitItems, IsAlternative, match_kind, match_lit, match_nt, match_named, match_seq, match_none, match_one, split_hole, split_seq, split_here, split_behind}
use Rattle.rdx_lang.specs.declared.pattern.Kind.TheVariants.{Any}
use Rattle.rdx_lang.specs.declared.pattern.Ref.{Ref}
use Rattle.rdx_lang.specs.declared.pattern.Ref.TheVariants.{Nt}
use Rattle.rdx_lang.specs.Programs.{Clause, JudgementRule, Metafunction, Mode, Premise, Program, Relation, Rule}
use Rattle.rdx_lang.specs.Templates as template
use Rattle.rdx_lang.specs.Templates.{Host, term, apply, more, none}
use Rattle.rdx_lang.specs.declared.operation.HostOp.TheVariants.{Add}
use Rattle.rdx_lang.proofs.Examples.{listed as listing, two_pairs}
use Rattle.rdx_lang.proofs.SeenListings.{matches_listed, splits_listed}
use Rattle.rdx_eval.specs.Answers.{value, goes, lists, not_context}
use Rattle.rdx_eval.specs.Calls.{Calls}
use Rattle.rdx_eval.specs.Extending.{Matched, matched, joins_none, joins_more}
use Rattle.rdx_eval.specs.Heights.{calls_at, height}
use Rattle.rdx_eval.specs.Instantiation.{MakeList}
use Rattle.rdx_eval.specs.Judgements.{RuleOutputs}
use Rattle.rdx_eval.specs.Metafunctions.{one_of}
use Rattle.rdx_eval.specs.Making.{listed, filled, filled_no_context}
use Rattle.rdx_templates.specs.Scope.{Scope}
use Rattle.rdx_reduce.specs.Relations.{AreSteps}
use Rattle.rdx_reduce.specs.Steps.{Step, RuleSteps}
use Rattle.rdx_answer.proofs.PrintedExamples.{digit_0, digit_1, digit_2, digit_3}
use Rattle.rdx_answer.specs.AnswerText.{answers_text, matches_text, splits_text, value_line, reducts_text, steps_text, fault_line}
use Rattle.rdx_answer.specs.Answering.{HostValue, over_value, over_fault, no_answers, more_answers}
use Rattle.rdx_answer.specs.Bound.{Bound}
use Rattle.rdx_answer.specs.Examples.{marked_pair}
use Rattle.rdx_forms.specs.Definitions.{language}
use Rattle.rdx_query.specs.Examples.{defines_L, AnswersInOrder, WholeAnswer, Inherited, OneSplit, FilledTerm, FaultAnswered, OneReductTwoSteps, PremiseMet, OutputsListed, FirstRefusedForm, EarlierLanguagesOnly, TakenName, HostExpression, OtherForm, Sum, Wanted, OtherModule, KnownBefore, FewItems, LeftRecursion}
use Rattle.rdx_forms.specs.OneForm.{Defines, by_check, by_recursion}
use Rattle.rdx_query.specs.File.{accepts_none, accepts_definition, accepts_query, accepts_passed, refuses_here, refuses_behind_definition}
use Rattle.rdx_answer.specs.HoldsAnswers.{FindsMet, whether_found, ValuesOf, values_of, values_found}
use Rattle.rdx_forms.specs.Known.{empty_program, nothing_in}
use Rattle.rdx_answer.specs.Queries.{matches, whether, splits, value as itself, holds, reducts, tagged}
use Rattle.rdx_answer.specs.StepAnswers.{reducts_in, AreReducts, named_steps, reducts_found, steps_found}

-- ---- languages with one nonterminal e, whose alternatives are literals

-- these integers as patterns
abbrev literals : List ℕ → List Pattern
literals [] = []
literals (n ∷ ns) = lit (tree.integer (pos n)) ∷ literals ns

-- the language of this name
abbrev literal_language : List ℕ → List ℕ → Language
literal_language x ns = record { name = x; nonterminals = (Nt (codes "e"), literals ns) ∷ [] }

-- what `(define-language L (e 1))` defines
abbrev L : Language
L = literal_language (codes "L") (1 ∷ [])

-- what `(define-extended-language M L (e ....))` defines
abbrev M : Language
M = literal_language (codes "M") (1 ∷ [])

-- the member of a list of one
only_member : {A : Type 0} (x y : A) → In x (y ∷ []) → x ≡ y
only_member x y (here e) = e
only_member x y (there i) = elim i [ ]

-- an alternative is one of the literals
among_literals : (x : List ℕ) (ns : List ℕ) (y : Ref) (p : Pattern) → IsAlternative (literal_language x ns) y p → In p (literals ns)
among_literals x ns y p a =
    subst (λ (ps : List Pattern). In p ps) (ap (λ (d : Definition). d.1) (only_member (y, a.all) (Nt (codes "e"), literals ns) a.defined)) a.among

-- nothing is reached from them
none_from : (x : List ℕ) (ns ms : List ℕ) (p q : Pattern) → In p (literals ms) → Reaches (literal_language x ns) p q → ⊥
none_from x ns [] p q i r = elim i [ ]
none_from x ns (m ∷ ms) p q (here e) r = from_literal (subst (λ (o : Pattern). Reaches (literal_language x ns) o q) e r)
  where
    from_literal : Reaches (literal_language x ns) (lit (tree.integer (pos m))) q → ⊥
    from_literal (at_once f) = elim f [ ]
    from_literal (further f h) = elim f [ ]
none_from x ns (m ∷ ms) p q (there i) r = none_from x ns ms p q i r

-- no literal is a nonterminal
not_literal : (ms : List ℕ) (y : Ref) → In (nt y) (literals ms) → ⊥
not_literal [] y i = elim i [ ]
not_literal (m ∷ ms) y (here e) = absurd cc
not_literal (m ∷ ms) y (there i) = not_literal ms y i

-- no nonterminal reaches itself
free : (x : List ℕ) (ns : List ℕ) → IsFree (literal_language x ns)
free x ns y (at_once (edge_nt a)) = not_literal ns y (among_literals x ns y (nt y) a)
free x ns y (further (edge_nt {p = p} a) r) = none_from x ns ns p (nt y) (among_literals x ns y p a) r

-- the first form defines L, whatever the file defines and asks for
defines : (S : Scope) (ls : List (List ℕ × List ℕ)) (ys : List (List ℕ)) (bs : List Bound) (s : Span)
    → Defines (nothing_in S ls ys bs) (defines_L s) (language L)
defines S ls ys bs s = record { passes = refl; means = refl; sound = free (codes "L") (1 ∷ []); passes_late = refl }

-- ---- listings

-- the listing of one member
one_alone : {A : Type 0} {cmp : A → A → Ordering} {R : A → Type 0} (b : A) → R b → ((c : A) → R c → c ≡ b) → IsListing cmp (b ∷ []) R
one_alone {R = R} b r only = record {
  ascending = (tt, tt);
  sound = λ c i. subst R (sym (only_member c b i)) r;
  complete = λ c h. here (only c h);
}

-- ---- the first query

-- the binding of one name
abbrev binds : List ℕ → ℕ → Binding
binds x n = one_name x (one_term (tree.integer (pos n)))

-- any_x = 2, any_y = 1
abbrev both : Binding
both = of_pairs ((codes "any_x", one_term (tree.integer (pos 2))) ∷ (codes "any_y", one_term (tree.integer (pos 1))) ∷ [])

-- the pattern and the term
abbrev pattern : Pattern
pattern = seq (one (named (codes "any_y") (of_kind Any)) (one (named (codes "any_x") (of_kind Any)) nil))

abbrev pair : tree.Tree
pair = tree.list None (tree.cons (tree.integer (pos 1)) (tree.cons (tree.integer (pos 2)) tree.nil))

-- a binding joined with nothing
with_nothing : (x : List ℕ) (n : ℕ) → IsJoin no_names (binds x n) (binds x n)
with_nothing x n = unit_left (binds x n) (one_name-ascends x (one_term (tree.integer (pos n))))

-- and with nothing behind it
nothing_behind : (x : List ℕ) (n : ℕ) → IsJoin (binds x n) no_names (binds x n)
nothing_behind x n = unit_right (binds x n) (one_name-ascends x (one_term (tree.integer (pos n))))

-- the two bindings joined
joined : IsJoin (binds (codes "any_y") 1) (binds (codes "any_x") 2) both
joined =
    turned_join (binds (codes "any_x") 2) (binds (codes "any_y") 1) both
    (two_pairs (codes "any_x", one_term (tree.integer (pos 2))) (codes "any_y", one_term (tree.integer (pos 1))) refl)

-- a named built-in name binds its name alone
named_binds : (x : List ℕ) (n : ℕ) (b : Binding) → Match L (named x (of_kind Any)) (tree.integer (pos n)) b → b ≡ binds x n
named_binds x n b (match_named (match_kind h) j) = one_left-only j

named_matches : (x : List ℕ) (n : ℕ) → Match L (named x (of_kind Any)) (tree.integer (pos n)) (binds x n)
named_matches x n = match_named (match_kind refl) (with_nothing x n)

-- the pattern matches with this binding alone
only_both : (b : Binding) → Match L pattern pair b → b ≡ both
only_both b (match_seq (match_one {c = c} g (match_one {c = d} {d = n} {b = e} h match_none k) j)) =
    let y : c ≡ binds (codes "any_y") 1 = named_binds (codes "any_y") 1 c g in
    let x : d ≡ binds (codes "any_x") 2 = named_binds (codes "any_x") 2 d h in
    let z : e ≡ binds (codes "any_x") 2 = one_right-only (subst (λ (a : Binding). IsJoin a no_names e) x k) in
    one_join (binds (codes "any_y") 1) (binds (codes "any_x") 2) b both
    (subst (λ (a : Binding). IsJoin (binds (codes "any_y") 1) a b) z (subst (λ (a : Binding). IsJoin a e b) y j)) joined

first_listing : Matches L pattern pair (both ∷ [])
first_listing =
    matches_listed (refl, tt)
    (one_alone both
    (match_seq (match_one (named_matches (codes "any_y") 1) (match_one (named_matches (codes "any_x") 2) match_none (nothing_behind (codes "any_x") 2)) joined))
    only_both)

-- ---- the second query

-- a literal binds nothing
only_nothing : (b : Binding) → Match L (lit (tree.integer (pos 1))) (tree.integer (pos 1)) b → b ≡ no_names
only_nothing b (match_lit e) = refl

second_listing : Matches L (lit (tree.integer (pos 1))) (tree.integer (pos 1)) (no_names ∷ [])
second_listing = matches_listed (refl, tt) (one_alone no_names (match_lit refl) only_nothing)

-- ---- the queries for e

-- the pattern `e`
abbrev named_e : Pattern
named_e = named (codes "e") (nt (Nt (codes "e")))

-- it matches 1 with one binding
e_listing : (x : List ℕ) → Matches (literal_language x (1 ∷ [])) named_e (tree.integer (pos 1)) (binds (codes "e") 1 ∷ [])
e_listing x =
    matches_listed (refl, tt)
    (one_alone (binds (codes "e") 1)
    (match_named (match_nt (record { all = literals (1 ∷ []); defined = here refl; among = here refl }) (match_lit refl)) (with_nothing (codes "e") 1))
    only)
  where
    only : (b : Binding) → Match (literal_language x (1 ∷ [])) named_e (tree.integer (pos 1)) b → b ≡ binds (codes "e") 1
    only b (match_named (match_nt a h) j) = one_left-only j

-- a literal matches no other
other_literal : (c : Binding) → Match L (lit (tree.integer (pos 1))) (tree.integer (pos 2)) c → ⊥
other_literal c (match_lit f) = absurd cc

-- and 2 with none
no_match : (p : Pattern) (c : Binding) → p ≡ lit (tree.integer (pos 1)) → Match L p (tree.integer (pos 2)) c → ⊥
no_match p c e h = other_literal c (subst (λ (q : Pattern). Match L q (tree.integer (pos 2)) c) e h)

none_listing : Matches L named_e (tree.integer (pos 2)) []
none_listing = matches_listed tt (record { ascending = tt; sound = λ b i. elim i [ ]; complete = λ b h. absurd (none b h) })
  where
    none : (b : Binding) → Match L named_e (tree.integer (pos 2)) b → ⊥
    none b (match_named (match_nt {x = y} {p = p} {c = c} a h) j) =
        no_match p c (only_member p (lit (tree.integer (pos 1))) (among_literals (codes "L") (1 ∷ []) y p a)) h

-- ---- the query for a split

-- `(hole any)`, and the term `(1 hole)`
abbrev split_pattern : Pattern
split_pattern = seq (one hole (one (named (codes "any") (of_kind Any)) nil))

abbrev split_term : tree.Tree
split_term = marked_pair (Some 1) (tree.integer (pos 1)) tree.hole

-- any = hole
abbrev binds_hole : Binding
binds_hole = one_name (codes "any") (one_term tree.hole)

-- the split
abbrev split : Decomposition
split = record { context = marked_pair (Some 0) tree.hole tree.hole; part = tree.integer (pos 1); binding = binds_hole }

-- a binding of one name joined with nothing, on either side
nothing_before : IsJoin no_names binds_hole binds_hole
nothing_before = unit_left binds_hole (one_name-ascends (codes "any") (one_term tree.hole))

nothing_after : IsJoin binds_hole no_names binds_hole
nothing_after = unit_right binds_hole (one_name-ascends (codes "any") (one_term tree.hole))

-- `any` binds the second item
only_second : (b : Binding) → MatchItems L (one (named (codes "any") (of_kind Any)) nil) (tree.cons tree.hole tree.nil) b → b ≡ binds_hole
only_second b (match_one {c = c} (match_named (match_kind h) k) match_none j) =
    let e : c ≡ binds_hole = one_left-only k in
    one_right-only (subst (λ (a : Binding). IsJoin a no_names b) e j)

-- the first item alone splits, since `hole` does not match the first
record IsOnlySplit (k : ℕ) (D s : tree.Tree) (b : Binding) : Type 0 where
  pub place : k ≡ 0
  pub context : D ≡ tree.hole
  pub part : s ≡ tree.integer (pos 1)
  pub binding : b ≡ binds_hole

no_hole : (c : Binding) → Match L hole (tree.integer (pos 1)) c → ⊥
no_hole c m = elim m [ ]

only_item : (k : ℕ) (D s : tree.Tree) (b : Binding) →
    SplitItems L (one hole (one (named (codes "any") (of_kind Any)) nil)) (tree.cons (tree.integer (pos 1)) (tree.cons tree.hole tree.nil)) k D s b → IsOnlySplit k D s b
only_item k D s b (split_here {d = d} split_hole m j) = record {
  place = refl;
  context = refl;
  part = refl;
  binding = one_left-only (subst (λ (a : Binding). IsJoin no_names a b) (only_second d m) j);
}
only_item k D s b (split_behind {c = c} m r j) = absurd (no_hole c m)

only_split : (d : Decomposition) → SplitsInto L split_pattern split_term d → d ≡ split
only_split d (split_seq {k = k} {D = D} h e) =
    let o = only_item k D d.part d.binding h in
    let c : d.context ≡ marked_pair (Some 0) tree.hole tree.hole =
    e ∙ (λ i. tree.list (Some (o.place i)) (put_at (tree.cons (tree.integer (pos 1)) (tree.cons tree.hole tree.nil)) (o.place i) (o.context i))) in
    λ i. record { context = c i; part = o.part i; binding = o.binding i }

split_listing : Splits L split_pattern split_term (split ∷ [])
split_listing =
    splits_listed (refl, tt)
    (one_alone split
    (split_seq (split_here split_hole (match_one (match_named (match_kind refl) nothing_before) match_none nothing_after) nothing_before) refl) only_split)

-- ---- what is printed

first_printed : codes "match 1\n  any_x = 2, any_y = 1\n" ≡ matches_text (both ∷ [])
first_printed = λ i. codes "match" ++ codes " " ++ digit_1 i ++ codes "\n"
    ++ (codes "  " ++ ((codes "any_x" ++ codes " = " ++ digit_2 i ++ []) ++ (codes ", " ++ (codes "any_y" ++ codes " = " ++ digit_1 i ++ []) ++ [])) ++ codes "\n" ++ [])

second_printed : codes "match 1\n  -\n" ≡ matches_text (no_names ∷ [])
second_printed = λ i. codes "match" ++ codes " " ++ digit_1 i ++ codes "\n" ++ (codes "  " ++ codes "-" ++ codes "\n" ++ [])

split_printed : codes "splits 1\n  (hole hole) at [0] is 1 with any = hole\n" ≡ splits_text (split ∷ [])
split_printed = λ i. codes "splits" ++ codes " " ++ digit_1 i ++ codes "\n"
    ++ (codes "  " ++ (codes "(hole hole)" ++ (codes " at [" ++ (digit_0 i ++ []) ++ codes "]") ++ codes " is " ++ digit_1 i ++ codes " with " ++ codes "any = hole") ++ codes "\n" ++ [])

-- ---- what host expressions make

-- L alone
abbrev program_L : Program
program_L = record { languages = L ∷ []; metafunctions = []; judgements = []; relations = [] }

-- a literal makes itself
abbrev literal : ℕ → Host
literal n = term (template.lit (tree.integer (pos n)))

-- `(1 2)`
abbrev pair_template : Host
pair_template = term (template.seq (template.one (template.lit (tree.integer (pos 1))) (template.one (template.lit (tree.integer (pos 2))) template.nil)))

pair_made : (P : Program) → HostValue P pair_template (value pair)
pair_made P = goes (goes (goes refl refl) (goes (goes (goes refl refl) (goes refl refl)) refl)) (listed (record { shallow = omega arith; small = omega arith }))

-- `(1 hole)`
abbrev split_template : template.Template
split_template = template.seq (template.one (template.lit (tree.integer (pos 1))) (template.one (template.lit tree.hole) template.nil))

split_made : (P : Program) → HostValue P (term split_template) (value split_term)
split_made P = goes (goes (goes refl refl) (goes (goes (goes refl refl) (goes refl refl)) refl)) (listed (record { shallow = omega arith; small = omega arith }))

-- `(in-hole (1 hole) 2)`
filled_made : (P : Program) → HostValue P (term (template.fill split_template (template.lit (tree.integer (pos 2))))) (value pair)
filled_made P = goes (split_made P) (goes refl (filled refl (record { shallow = omega arith; small = omega arith })))

-- `(in-hole 1 2)`
abbrev unfilled : Host
unfilled = term (template.fill (template.lit (tree.integer (pos 1))) (template.lit (tree.integer (pos 2))))

-- ---- the steps of R

-- `(--> 1 2 x)`
abbrev rule_named : List ℕ → Rule
rule_named x = record { name = Some x; pattern = lit (tree.integer (pos 1)); extras = []; result = template.lit (tree.integer (pos 2)) }

-- what the form defines
abbrev R : Relation
R = record { name = codes "R"; language = codes "L"; domain = None; rules = rule_named (codes "a") ∷ rule_named (codes "b c") ∷ [] }

-- L and R
abbrev program_R : Program
program_R = record { languages = L ∷ []; metafunctions = []; judgements = []; relations = R ∷ [] }

-- the step by the rule at this place
abbrev step : ℕ → Step
step i = record { rule = i; reduct = tree.integer (pos 2) }

abbrev both_steps : List Step
both_steps = step 0 ∷ step 1 ∷ []

-- each rule takes one
one_taken : (C : Calls) (i : ℕ) (x : List ℕ) → RuleSteps L C R (tree.integer (pos 1)) i (rule_named x) (value (step i ∷ []))
one_taken C i x = goes (goes (lists second_listing) refl) (goes (goes (goes (goes refl refl) refl) refl) (goes refl refl))

-- and these are all
taken : AreSteps program_R R (tree.integer (pos 1)) (value both_steps)
taken =
    let C : Calls = calls_at program_R height in
    goes (goes (one_taken C 0 (codes "a")) (goes (goes (one_taken C 1 (codes "b c")) (goes refl refl)) refl))
    (lists (listing both_steps ((refl, tt), (tt, tt)) (here refl, (there (here refl), tt)) (λ s i. i)))

-- both lead to one term
same_reduct : (t : tree.Tree) → In t (reducts_in both_steps) → t ≡ tree.integer (pos 2)
same_reduct t (here e) = e
same_reduct t (there (here e)) = e
same_reduct t (there (there i)) = elim i [ ]

one_reduct : AreReducts both_steps (tree.integer (pos 2) ∷ [])
one_reduct = one_alone (tree.integer (pos 2)) (here refl) same_reduct

reducts_printed : codes "reducts 1\n  2\n" ≡ reducts_text (tree.integer (pos 2) ∷ [])
reducts_printed = λ i. codes "reducts" ++ codes " " ++ digit_1 i ++ codes "\n" ++ (codes "  " ++ digit_2 i ++ codes "\n" ++ [])

steps_printed : codes "steps 2\n  a 2\n  \"b c\" 2\n" ≡ steps_text (named_steps R.rules both_steps)
unfolding chars
steps_printed = λ i. codes "steps" ++ codes " " ++ digit_2 i ++ codes "\n"
    ++ (codes "  " ++ (codes "a" ++ codes " " ++ digit_2 i) ++ codes "\n" ++ (codes "  " ++ (codes "\"b c\"" ++ codes " " ++ digit_2 i) ++ codes "\n" ++ []))

-- ---- the examples

pub answers_in_order : AnswersInOrder
unfolding chars
answers_in_order s = record {
  program = program_L;
  queries = matches (codes "L") pattern pair_template ∷ matches (codes "L") (lit (tree.integer (pos 1))) (literal 1) ∷ [];
  accepted =
      accepts_definition (defines _ _ _ _ s) (accepts_query (record { passes = refl; means = refl }) (accepts_query (record { passes = refl; means = refl }) accepts_none));
  answers =
      more_answers (codes "match 1\n  any_x = 2, any_y = 1\n") (codes "match 1\n  -\n") true true
      (over_value pair (pair_made program_L)
      (record { found = both ∷ []; finds = record { language = L; known = refl; listing = first_listing }; printed = first_printed; is_met = refl }))
      (more_answers (codes "match 1\n  -\n") [] true true
      (over_value (tree.integer (pos 1)) refl
      (record { found = no_names ∷ []; finds = record { language = L; known = refl; listing = second_listing }; printed = second_printed; is_met = refl })) no_answers);
}

pub first_refused_form : FirstRefusedForm
first_refused_form s m = refuses_behind_definition (defines _ _ _ _ s) (refuses_here (by_check refl))

pub earlier_languages_only : EarlierLanguagesOnly
earlier_languages_only s l = refuses_here (by_check refl)

pub whole_answer : WholeAnswer
unfolding chars
whole_answer s = record {
  program = program_L;
  queries = whether (codes "L") named_e (literal 1) ∷ whether (codes "L") named_e (literal 2) ∷ [];
  accepted =
      accepts_definition (defines _ _ _ _ s) (accepts_query (record { passes = refl; means = refl }) (accepts_query (record { passes = refl; means = refl }) accepts_none));
  answers =
      more_answers (codes "matches #t\n") (codes "matches #f\n") true true
      (over_value (tree.integer (pos 1)) refl
      (record { found = binds (codes "e") 1 ∷ []; finds = record { language = L; known = refl; listing = e_listing (codes "L") }; printed = refl; is_met = refl }))
      (more_answers (codes "matches #f\n") [] true true
      (over_value (tree.integer (pos 2)) refl
      (record { found = []; finds = record { language = L; known = refl; listing = none_listing }; printed = refl; is_met = refl })) no_answers);
}

pub inherited : Inherited
unfolding chars
inherited s = record {
  program = record { languages = L ∷ M ∷ []; metafunctions = []; judgements = []; relations = [] };
  queries = whether (codes "M") named_e (literal 1) ∷ [];
  accepted =
      accepts_definition (defines _ _ _ _ s)
      (accepts_definition (record { passes = refl; means = refl; sound = free (codes "M") (1 ∷ []); passes_late = refl }) (accepts_query (record { passes = refl; means = refl }) accepts_none));
  answers =
      more_answers (codes "matches #t\n") [] true true
      (over_value (tree.integer (pos 1)) refl
      (record { found = binds (codes "e") 1 ∷ []; finds = record { language = M; known = refl; listing = e_listing (codes "M") }; printed = refl; is_met = refl })) no_answers;
}

pub one_split : OneSplit
unfolding chars
one_split s = record {
  program = program_L;
  queries = splits (codes "L") split_pattern (term split_template) ∷ [];
  accepted = accepts_definition (defines _ _ _ _ s) (accepts_query (record { passes = refl; means = refl }) accepts_none);
  answers =
      more_answers (codes "splits 1\n  (hole hole) at [0] is 1 with any = hole\n") [] true true
      (over_value split_term (split_made program_L)
      (record { found = split ∷ []; finds = record { language = L; known = refl; listing = split_listing }; printed = split_printed; is_met = refl })) no_answers;
}

value_printed : codes "value (1 2)\n" ≡ value_line pair
value_printed = λ i. codes "value " ++ (codes "(" ++ (digit_1 i ++ (codes " " ++ digit_2 i ++ [])) ++ codes ")") ++ codes "\n"

pub filled_term : FilledTerm
unfolding chars
filled_term s = record {
  program = empty_program;
  queries = itself (term (template.fill split_template (template.lit (tree.integer (pos 2))))) ∷ [];
  accepted = accepts_query (record { passes = refl; means = refl }) accepts_none;
  answers = more_answers (codes "value (1 2)\n") [] true true (over_value pair (filled_made empty_program) (record { printed = value_printed; is_met = refl })) no_answers;
}

fault_printed : codes "fault NotContext 0\n" ≡ fault_line (not_context 0)
fault_printed = λ i. codes "fault " ++ (codes "NotContext " ++ digit_0 i) ++ codes "\n"

one_printed : codes "value 1\n" ≡ value_line (tree.integer (pos 1))
one_printed = λ i. codes "value " ++ digit_1 i ++ codes "\n"

pub fault_answered : FaultAnswered
fault_answered s = record {
  program = empty_program;
  queries = itself unfilled ∷ itself (literal 1) ∷ [];
  accepted = accepts_query (record { passes = refl; means = refl }) (accepts_query (record { passes = refl; means = refl }) accepts_none);
  answers =
      more_answers (codes "fault NotContext 0\n") (codes "value 1\n") false true
      (over_fault (not_context 0) (goes refl (goes refl (filled_no_context (refl, refl)))) fault_printed refl)
      (more_answers (codes "value 1\n") [] true true (over_value (tree.integer (pos 1)) refl (record { printed = one_printed; is_met = refl })) no_answers);
}

pub one_reduct_two_steps : OneReductTwoSteps
unfolding chars
one_reduct_two_steps s = record {
  program = program_R;
  queries = reducts (codes "R") (literal 1) ∷ tagged (codes "R") (literal 1) ∷ [];
  accepted =
      accepts_definition (defines _ _ _ _ s)
      (accepts_definition (record { passes = refl; means = refl; sound = tt; passes_late = refl })
      (accepts_query (record { passes = refl; means = refl }) (accepts_query (record { passes = refl; means = refl }) accepts_none)));
  answers =
      more_answers (codes "reducts 1\n  2\n") (codes "steps 2\n  a 2\n  \"b c\" 2\n") true true
      (over_value (tree.integer (pos 1)) refl
      (record { relation = R; known = refl; answer = value both_steps; steps = taken; written = reducts_found (tree.integer (pos 2) ∷ []) one_reduct reducts_printed refl }))
      (more_answers (codes "steps 2\n  a 2\n  \"b c\" 2\n") [] true true
      (over_value (tree.integer (pos 1)) refl
      (record { relation = R; known = refl; answer = value both_steps; steps = taken; written = steps_found steps_printed refl })) no_answers);
}

pub taken_name : TakenName
taken_name s l = refuses_behind_definition (defines _ _ _ _ s) (refuses_here (by_check refl))

pub host_expression : HostExpression
host_expression s h = refuses_behind_definition (defines _ _ _ _ s) (refuses_here (by_check refl))

pub other_form : OtherForm
other_form s = refuses_here (by_check refl)

-- `(+ 1 2)`
abbrev sum_of_two : Host
sum_of_two = apply Add (more (template.number (pos 1)) (more (template.number (pos 2)) none))

sum_made : (P : Program) → HostValue P sum_of_two (value (tree.integer (pos 3)))
sum_made P = goes (goes (goes refl refl) (goes (goes (goes refl refl) (goes refl refl)) refl)) refl

three_printed : codes "value 3\n" ≡ value_line (tree.integer (pos 3))
three_printed = λ i. codes "value " ++ digit_3 i ++ codes "\n"

pub sum : Sum
sum s = record {
  program = empty_program;
  queries = itself sum_of_two ∷ [];
  accepted = accepts_query (record { passes = refl; means = refl }) accepts_none;
  answers =
      more_answers (codes "value 3\n") [] true true
      (over_value (tree.integer (pos 3)) (sum_made empty_program) (record { printed = three_printed; is_met = refl })) no_answers;
}

pub wanted : Wanted
wanted s = record {
  program = empty_program;
  queries = [];
  accepted = accepts_passed (record { passes = refl; means = refl }) accepts_none;
  answers = no_answers;
}

pub other_module : OtherModule
other_module s m = refuses_here (by_check refl)

-- ---- the value of f

-- `((f 1) 2)`
abbrev clause_of_f : Clause
clause_of_f = record { arguments = seq (one (lit (tree.integer (pos 1))) nil); extras = []; result = template.lit (tree.integer (pos 2)) }

-- what the form defines
abbrev f : Metafunction
f = record { name = codes "f"; language = codes "L"; contract = None; clauses = clause_of_f ∷ [] }

-- L and f
abbrev program_f : Program
program_f = record { languages = L ∷ []; metafunctions = f ∷ []; judgements = []; relations = [] }

-- `(f 1)`
abbrev call_of_f : Host
call_of_f = term (template.call (codes "f") (template.one (template.lit (tree.integer (pos 1))) template.nil))

-- its arguments
abbrev arguments_of_f : tree.Tree
arguments_of_f = tree.list None (tree.cons (tree.integer (pos 1)) tree.nil)

-- they are taken by no name
only_no_names : (b : Binding) → Match L clause_of_f.arguments arguments_of_f b → b ≡ no_names
only_no_names b (match_seq (match_one (match_lit e) match_none j)) = none_left-only j

taken_by_f : Matches L clause_of_f.arguments arguments_of_f (no_names ∷ [])
taken_by_f = matches_listed (refl, tt) (one_alone no_names (match_seq (match_one (match_lit refl) match_none none_left)) only_no_names)

-- its value is 2
value_of_f : HostValue program_f call_of_f (value (tree.integer (pos 2)))
unfolding calls_at
value_of_f =
    goes (goes (goes (goes refl refl) (goes refl refl)) (listed (record { shallow = omega arith; small = omega arith })))
    (goes
    (goes (goes (lists taken_by_f) refl)
    (goes (goes (goes refl refl) (goes refl refl)) (one_of (one_alone (tree.integer (pos 2)) (here refl) (λ t i. only_member t (tree.integer (pos 2)) i)))))
    refl)

two_printed : codes "value 2\n" ≡ value_line (tree.integer (pos 2))
two_printed = λ i. codes "value " ++ digit_2 i ++ codes "\n"

pub known_before : KnownBefore
unfolding chars
known_before s = record {
  program = program_f;
  queries = itself call_of_f ∷ [];
  accepted =
      accepts_query (record { passes = refl; means = refl })
      (accepts_definition (defines _ _ _ _ s) (accepts_definition (record { passes = refl; means = refl; sound = tt; passes_late = refl }) accepts_none));
  answers =
      more_answers (codes "value 2\n") [] true true
      (over_value (tree.integer (pos 2)) value_of_f (record { printed = two_printed; is_met = refl })) no_answers;
}

-- ---- what J gives for 1

-- `[(J 1 n ...)]`
abbrev rule_of_J : List ℕ → JudgementRule
rule_of_J ns = record { name = None; inputs = clause_of_f.arguments; extras = []; outputs = map (λ n. template.lit (tree.integer (pos n))) ns }

-- L and J, with this mode and these rules
abbrev program_J : Mode → List JudgementRule → Program
program_J m rs = record {
  languages = L ∷ [];
  metafunctions = [];
  judgements = record { name = codes "J"; language = codes "L"; mode = m; contract = None; rules = rs } ∷ [];
  relations = [];
}

-- the input of a premise
abbrev input_of_J : List template.Template
input_of_J = template.lit (tree.integer (pos 1)) ∷ []

input_made : (C : Calls) → MakeList C no_names input_of_J (value arguments_of_f)
input_made C = goes (goes (goes refl refl) (goes refl refl)) (listed (record { shallow = omega arith; small = omega arith }))

-- ---- J without outputs

-- the list of no outputs
abbrev no_outputs : tree.Tree
no_outputs = tree.list None tree.nil

-- the rule gives it
given_none : (C : Calls) → RuleOutputs L C (codes "J") None arguments_of_f (rule_of_J []) (value (no_outputs ∷ []))
given_none C =
    goes (goes (lists taken_by_f) refl)
    (goes (goes (goes (goes refl (listed (record { shallow = omega arith; small = omega arith }))) refl) refl) (goes refl refl))

-- it matches with no names
only_empty : (b : Binding) → Match L (seq nil) no_outputs b → b ≡ no_names
only_empty b (match_seq match_none) = refl

empty_listing : Matches L (seq nil) no_outputs (no_names ∷ [])
empty_listing = matches_listed (refl, tt) (one_alone no_names (match_seq match_none) only_empty)

-- so the premise is met
abbrev program_met : Program
program_met = program_J (true ∷ []) (rule_of_J [] ∷ [])

abbrev premise_met_by : Premise
premise_met_by = record { judgement = codes "J"; inputs = input_of_J; outputs = seq nil }

met_once : FindsMet program_met premise_met_by (value (no_names ∷ []))
unfolding calls_at
met_once = record {
  judgement = record { name = codes "J"; language = codes "L"; mode = true ∷ []; contract = None; rules = rule_of_J [] ∷ [] };
  named = refl;
  language = L;
  known = refl;
  meets =
      goes
      (goes
      (goes (input_made (calls_at program_met height))
      (goes (goes (given_none (calls_at program_met 399)) (goes refl refl)) (lists (one_alone no_outputs (here refl) (λ t i. only_member t no_outputs i)))))
      (goes (matched empty_listing (joins_more none_left joins_none)) (goes refl refl)))
      (lists (one_alone no_names (here refl) (λ b i. only_member b no_names i)));
}

pub premise_met : PremiseMet
unfolding chars
premise_met s = record {
  program = program_met;
  queries = holds premise_met_by None ∷ [];
  accepted =
      accepts_definition (defines _ _ _ _ s)
      (accepts_definition (record { passes = refl; means = refl; sound = tt; passes_late = refl }) (accepts_query (record { passes = refl; means = refl }) accepts_none));
  answers =
      more_answers (codes "holds #t\n") [] true true (record { found = value (no_names ∷ []); finds = met_once; written = whether_found refl refl }) no_answers;
}

-- ---- J with an output

-- the list of one output
abbrev output : ℕ → tree.Tree
output n = tree.list None (tree.cons (tree.integer (pos n)) tree.nil)

-- a rule gives it
given_one : (C : Calls) (n : ℕ) → RuleOutputs L C (codes "J") None arguments_of_f (rule_of_J (n ∷ [])) (value (output n ∷ []))
given_one C n =
    goes (goes (lists taken_by_f) refl)
    (goes (goes (goes (goes (goes (goes refl refl) (goes refl refl)) (listed (record { shallow = omega arith; small = omega arith }))) refl) refl)
    (goes refl refl))

-- `any` binds it
abbrev output_pattern : Pattern
output_pattern = seq (one (named (codes "any") (of_kind Any)) nil)

only_output : (n : ℕ) (b : Binding) → Match L output_pattern (output n) b → b ≡ binds (codes "any") n
only_output n b (match_seq (match_one {c = c} g match_none k)) =
    one_right-only (subst (λ (a : Binding). IsJoin a no_names b) (named_binds (codes "any") n c g) k)

output_listing : (n : ℕ) → Matches L output_pattern (output n) (binds (codes "any") n ∷ [])
output_listing n =
    matches_listed (refl, tt)
    (one_alone (binds (codes "any") n) (match_seq (match_one (named_matches (codes "any") n) match_none (nothing_behind (codes "any") n))) (only_output n))

output_matched : (n : ℕ) → Matched L output_pattern no_names (output n) (value (binds (codes "any") n ∷ []))
output_matched n = matched (output_listing n) (joins_more (with_nothing (codes "any") n) joins_none)

-- 3 and 2 are listed the other way round
turned : (t : tree.Tree) → In t (output 3 ∷ output 2 ∷ []) → In t (output 2 ∷ output 3 ∷ [])
turned t (here e) = there (here e)
turned t (there (here e)) = here e
turned t (there (there i)) = elim i [ ]

-- two bindings meet the premise
abbrev program_listed : Program
program_listed = program_J (true ∷ false ∷ []) (rule_of_J (3 ∷ []) ∷ rule_of_J (2 ∷ []) ∷ [])

abbrev premise_listed : Premise
premise_listed = record { judgement = codes "J"; inputs = input_of_J; outputs = output_pattern }

abbrev two_bindings : List Binding
two_bindings = binds (codes "any") 2 ∷ binds (codes "any") 3 ∷ []

met_twice : FindsMet program_listed premise_listed (value two_bindings)
unfolding calls_at
met_twice =
    let C : Calls = calls_at program_listed 399 in
    record {
      judgement = record { name = codes "J"; language = codes "L"; mode = true ∷ false ∷ []; contract = None; rules = rule_of_J (3 ∷ []) ∷ rule_of_J (2 ∷ []) ∷ [] };
      named = refl;
      language = L;
      known = refl;
      meets =
          goes
          (goes
          (goes (input_made (calls_at program_listed height))
          (goes (goes (given_one C 3) (goes (goes (given_one C 2) (goes refl refl)) refl))
          (lists (listing (output 2 ∷ output 3 ∷ []) ((refl, tt), (tt, tt)) (there (here refl), (here refl, tt)) turned))))
          (goes (output_matched 2) (goes (goes (output_matched 3) (goes refl refl)) refl)))
          (lists (listing two_bindings ((refl, tt), (tt, tt)) (here refl, (there (here refl), tt)) (λ b i. i)));
    }

-- the template makes a value of each
abbrev two_values : List tree.Tree
two_values = tree.integer (pos 2) ∷ tree.integer (pos 3) ∷ []

values_made : (C : Calls) → ValuesOf C (template.var (codes "any") 0) (value two_bindings) (value two_values)
values_made C =
    values_of
    (goes (goes (goes refl refl) (goes (goes (goes refl refl) (goes refl refl)) refl))
    (lists (listing two_values ((refl, tt), (tt, tt)) (here refl, (there (here refl), tt)) (λ t i. i))))

answers_printed : codes "answers 2\n  2\n  3\n" ≡ answers_text two_values
answers_printed = λ i. codes "answers" ++ codes " " ++ digit_2 i ++ codes "\n"
    ++ (codes "  " ++ digit_2 i ++ codes "\n" ++ (codes "  " ++ digit_3 i ++ codes "\n" ++ []))

pub outputs_listed : OutputsListed
unfolding chars
outputs_listed s = record {
  program = program_listed;
  queries = holds premise_listed (Some (template.var (codes "any") 0)) ∷ [];
  accepted =
      accepts_definition (defines _ _ _ _ s)
      (accepts_definition (record { passes = refl; means = refl; sound = tt; passes_late = refl }) (accepts_query (record { passes = refl; means = refl }) accepts_none));
  answers =
      more_answers (codes "answers 2\n  2\n  3\n") [] true true
      (record {
        found = value two_bindings;
        finds = met_twice;
        values = value two_values;
        made = values_made (calls_at program_listed height);
        written = values_found answers_printed refl;
      }) no_answers;
}

pub few_items : FewItems
few_items s = refuses_here (by_check refl)

-- what `(define-language L (e e))` defines
abbrev looping : Language
looping = record { name = codes "L"; nonterminals = (Nt (codes "e"), nt (Nt (codes "e")) ∷ []) ∷ [] }

-- its nonterminal reaches itself
loops : IsFirstRecursive looping (Nt (codes "e"))
loops = record {
  before = [];
  alternatives = nt (Nt (codes "e")) ∷ [];
  behind = [];
  defined = refl;
  recursive = at_once (edge_nt (record { all = nt (Nt (codes "e")) ∷ []; defined = here refl; among = here refl }));
  first = λ d i. elim i [ ];
}

pub left_recursion : LeftRecursion
unfolding chars
left_recursion s = refuses_here (by_recursion looping (Nt (codes "e")) refl refl loops refl)
