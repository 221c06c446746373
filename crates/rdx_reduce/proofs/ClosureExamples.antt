-- The worked examples of closures.
use Rattle.std.proofs.Common.{◌≡◌, ◌++◌, ℕ, List, [], ◌∷◌, Some, None, Option, refl, sym, ◌∙◌, ap, subst, codes, arith}
use Rattle.std.proofs.lemmas.Fmt.{decimal_digit}
use Rattle.std.specs.Str.{chars}
use Rattle.rdx_term.specs.Items.{put_at}
use Rattle.rdx_term.specs.Tree.{Tree, Trees, symbol, list, cons}
use Rattle.rdx_term.specs.Tree.{nil as no_trees}
use Rattle.rdx_term.specs.Tree.{hole as the_hole}
use Rattle.rdx_lang.specs.Bindings.{Pair, Binding, of_pairs, no_names}
use Rattle.rdx_lang.specs.Bindings.{one as one_term}
use Rattle.rdx_lang.specs.Closures.{closed_rule}
use Rattle.rdx_lang.specs.Examples.{int, binds, list_of_two, marked_first, marked_second, seq_of_two, any, number, in_place, E, E_1, Numbers, Contexts}
use Rattle.rdx_lang.specs.Join.{IsJoin}
use Rattle.rdx_lang.specs.Listing.{Matches}
use Rattle.rdx_lang.specs.Members.{In, here, there}
use Rattle.rdx_lang.specs.Patterns as pattern
use Rattle.rdx_lang.specs.Patterns.{Pattern, wild, hole, nt, named, in_hole, one, nil}
use Rattle.rdx_lang.specs.Programs.{Program, Rule}
use Rattle.rdx_lang.specs.Rules.{Match, match_kind, match_lit, match_none, match_one, match_named, match_in_hole, Split, SplitItems, split_hole, split_nt, split_named, split_seq, split_here, split_behind}
use Rattle.rdx_lang.specs.Templates.{lit, var, fill}
use Rattle.rdx_lang.specs.Variants.{before_number, variant}
use Rattle.rdx_lang.proofs.Examples.{listed, one_alone, no_member, named_kind_binds, two_pairs, in_each_place}
use Rattle.rdx_lang.proofs.JoinLaws.{one_join, none_left, unit_left, unit_right, unit_right-only}
use Rattle.rdx_lang.proofs.RuleSteps.{lit_inside, kind_splits, nt_splits, seq_splits}
use Rattle.rdx_lang.proofs.SeenListings.{matches_listed}
use Rattle.rdx_eval.specs.Answers.{value, stops, goes, lists}
use Rattle.rdx_eval.specs.Heights.{calls_at}
use Rattle.rdx_eval.specs.Extending.{joined, joins_none, joins_more}
use Rattle.rdx_eval.specs.FreshExamples.{x, fresh_x}
use Rattle.rdx_eval.specs.Making.{filled, filled_no_context}
use Rattle.rdx_reduce.specs.ClosureExamples.{alone, around, inside, NameStays, NameIsTaken, ClosureOfClosure, StepsInside, NoStepAtTop, FreshAvoidsContext, StepsInEachPlace, FaultInside, FirstPlaceFails}
use Rattle.rdx_reduce.specs.Examples.{leads, leads_where, step, of_rules}
use Rattle.rdx_reduce.specs.Steps.{Steps}
use Rattle.rdx_reduce.proofs.ClosureLaws.{matches_in_context}
use Rattle.rdx_reduce.proofs.Examples.{one_taken, two_taken, none_taken, of_one, after_extra}

-- the second name of a context
second_context : variant (codes "context") 1 ≡ codes "context1"
unfolding chars
second_context = ap (λ ds. codes "context" ++ before_number (codes "context") ++ ds) (decimal_digit 1 (omega arith))

-- a rule keeps its name
pub name_stays : NameStays
name_stays e x y = refl

-- the context of a rule that binds `context`
pub name_is_taken : NameIsTaken
name_is_taken q x y =
    (λ i. alone y None (around (second_context i) q (named (codes "context") wild)) (inside (second_context i) (var (codes "context") 0)))

-- a context in a context
pub closure_of_closure : ClosureOfClosure
closure_of_closure p q x y z =
    (λ i. alone z None (around (second_context i) q (around (codes "context") p (pattern.lit (int 1))))
    (inside (second_context i) (inside (codes "context") (lit (int 2)))))

-- ---- steps of closures

-- `context` stands for a context
abbrev in_context : Tree → Binding
in_context C = binds (codes "context") C

-- `(hole any)` splits a list of two terms at the first
splits_first : {m : Option ℕ} {ts : Trees} {C s : Tree} {b : Binding} → Split Numbers (seq_of_two hole any) (list m ts) C s b
    → (u : Tree) × (ts ≡ cons s (cons u no_trees)) × (C ≡ marked_first the_hole u)
splits_first (split_seq h e) = by_item h e
  where
    by_item : {ts : Trees} {k : ℕ} {C D s : Tree} {b : Binding} → SplitItems Numbers (one hole (one any nil)) ts k D s b
        → C ≡ list (Some k) (put_at ts k D) → (u : Tree) × (ts ≡ cons s (cons u no_trees)) × (C ≡ marked_first the_hole u)
    by_item (split_here split_hole (match_one {t = u} h match_none k) j) e = (u, refl, e)
    by_item (split_behind h (split_here g i k) j) e = absurd (kind_splits g)
    by_item (split_behind h (split_behind g i k) j) e = elim i [ ]

-- `(--> 1 2)`
abbrev one_to_two : Rule
one_to_two = leads (pattern.lit (int 1)) (lit (int 2))

-- closed by `(hole any)`
abbrev first_pattern : Pattern
first_pattern = around (codes "context") (seq_of_two hole any) (pattern.lit (int 1))

-- for a list of 1 and another term the context is the list with the hole in place of 1
first_matches : (u : Tree) → Matches Numbers first_pattern (list_of_two (int 1) u) (in_context (marked_first the_hole u) ∷ [])
first_matches u = matches_listed (refl, tt) (one_alone (in_context (marked_first the_hole u)) by_split only)
  where
    by_split : Match Numbers first_pattern (list_of_two (int 1) u) (in_context (marked_first the_hole u))
    by_split =
        (matches_in_context Numbers (seq_of_two hole any) one_to_two (list_of_two (int 1) u) (in_context (marked_first the_hole u))).1 (record {
          context = marked_first the_hole u;
          part = int 1;
          forgotten = no_names;
          inner = no_names;
          split = split_seq (split_here split_hole (match_one (match_kind refl) match_none none_left) none_left) refl;
          matched = match_lit refl;
          joined = unit_right (in_context (marked_first the_hole u)) ((tt, tt), (tt, tt));
        })

    only : (b : Binding) → Match Numbers first_pattern (list_of_two (int 1) u) b → b ≡ in_context (marked_first the_hole u)
    only b h =
        let m = (matches_in_context Numbers (seq_of_two hole any) one_to_two (list_of_two (int 1) u) b).0 h in
        let k = splits_first m.split in
        let same : k.0 ≡ u = cc in
        let named : b ≡ in_context m.context =
        unit_right-only ((tt, tt), (tt, tt)) (subst (λ (c : Binding). IsJoin (in_context m.context) c b) (lit_inside m.matched).1 m.joined) in
        named ∙ ap in_context (k.2 ∙ ap (λ (v : Tree). marked_first the_hole v) same)

pub steps_inside : StepsInside
steps_inside P n =
    of_one Numbers (calls_at P n) (list_of_two (int 1) (int 1)) (closed_rule (seq_of_two hole any) one_to_two)
    (step 0 (list_of_two (int 2) (int 1)) ∷ []) (tt, tt)
    (one_taken Numbers (calls_at P n) (list_of_two (int 1) (int 1)) 0 first_pattern (inside (codes "context") (lit (int 2)))
    (in_context (marked_first the_hole (int 1))) (list_of_two (int 2) (int 1)) (first_matches (int 1))
    (goes refl (goes refl (filled refl (record { shallow = omega arith; small = omega arith })))))

-- the first variant of `x` with a number
x_one : variant (codes "x") 1 ≡ codes "x1"
unfolding chars
x_one = ap (λ ds. codes "x" ++ before_number (codes "x") ++ ds) (decimal_digit 1 (omega arith))

-- `(--> 1 x (fresh x))`
abbrev to_fresh : Rule
to_fresh = leads_where (pattern.lit (int 1)) (var (codes "x") 0) fresh_x

-- 1 matches itself
one_matches : Matches Numbers (pattern.lit (int 1)) (int 1) (no_names ∷ [])
one_matches = matches_listed (refl, tt) (one_alone no_names (match_lit refl) (λ b h. (lit_inside h).1))

-- the context `(hole x)`, and a symbol for x
abbrev with_fresh : List ℕ → Binding
with_fresh w = of_pairs ((codes "context", one_term (marked_first the_hole x)) ∷ (codes "x", one_term (symbol w)) ∷ [])

fresh_in_context : (P : Program) (n : ℕ)
    → Steps Numbers (calls_at P n) (of_rules None (closed_rule (seq_of_two hole any) to_fresh ∷ [])) (list_of_two (int 1) x)
    (value (step 0 (list_of_two (symbol (variant (codes "x") 1)) x) ∷ []))
fresh_in_context P n =
    let w : List ℕ = variant (codes "x") 1 in
    of_one Numbers (calls_at P n) (list_of_two (int 1) x) (closed_rule (seq_of_two hole any) to_fresh) (step 0 (list_of_two (symbol w) x) ∷ [])
    (tt, tt)
    (after_extra (calls_at P n) (list_of_two (int 1) x) 0 first_pattern (inside (codes "context") (var (codes "x") 0)) fresh_x
    (in_context (marked_first the_hole x))
    (with_fresh w ∷ []) (step 0 (list_of_two (symbol w) x) ∷ []) (first_matches x)
    (joined (joins_more (two_pairs (codes "context", one_term (marked_first the_hole x)) (codes "x", one_term (symbol w)) refl) joins_none)) (tt, tt)
    (goes (goes (goes (goes (goes refl (goes refl (filled refl (record { shallow = omega arith; small = omega arith })))) refl) refl) refl)
    (goes refl refl)))

pub fresh_avoids_context : FreshAvoidsContext
fresh_avoids_context = (
  λ P n. of_one Numbers (calls_at P n) (int 1) to_fresh (step 0 x ∷ []) (tt, tt)
      (after_extra (calls_at P n) (int 1) 0 (pattern.lit (int 1)) (var (codes "x") 0) fresh_x no_names (binds (codes "x") x ∷ [])
      (step 0 x ∷ []) one_matches
      (joined (joins_more (unit_left (binds (codes "x") x) ((tt, tt), (tt, tt))) joins_none)) (tt, tt)
      (goes (goes (goes (goes refl refl) refl) refl) (goes refl refl))),
  λ P n. subst (λ (w : List ℕ). Steps Numbers (calls_at P n) (of_rules None (closed_rule (seq_of_two hole any) to_fresh ∷ [])) (list_of_two (int 1) x)
      (value (step 0 (list_of_two (symbol w) x) ∷ [])))
      x_one (fresh_in_context P n),
)

-- `(hole any)` splits no integer
no_split : {C s : Tree} {b : Binding} → Split Numbers (seq_of_two hole any) (int 1) C s b → ⊥
no_split h = let k = (seq_splits h).same in absurd cc

pub no_step_at_top : NoStepAtTop
no_step_at_top P n =
    of_one Numbers (calls_at P n) (int 1) (closed_rule (seq_of_two hole any) one_to_two) [] tt
    (none_taken Numbers (calls_at P n) (int 1) 0 first_pattern (inside (codes "context") (lit (int 2)))
    (matches_listed tt (no_member (λ b h. no_split ((matches_in_context Numbers (seq_of_two hole any) one_to_two (int 1) b).0 h).split))))

-- `(--> number_1 0)`
abbrev number_1 : Pattern
number_1 = named (codes "number_1") number

abbrev to_zero : Rule
to_zero = leads number_1 (lit (int 0))

-- closed by E
abbrev each_pattern : Pattern
each_pattern = around (codes "context") (nt E) number_1

-- a context, and a number in its hole
abbrev number_in : Tree → Tree → Binding
number_in C t = of_pairs ((codes "context", one_term C) ∷ (codes "number_1", one_term t) ∷ [])

-- these are the joins of both
number_joined : (C t : Tree) → IsJoin (in_context C) (binds (codes "number_1") t) (number_in C t)
number_joined C t = two_pairs (codes "context", one_term C) (codes "number_1", one_term t) refl

-- equal bindings of E_1 and number_1 have equal parts
same_parts : (C s D u : Tree) → in_place C s ≡ in_place D u → (C ≡ D) × (s ≡ u)
same_parts C s D u e =
    let f : (in_place C s).pairs ≡ (in_place D u).pairs = ap (λ (b : Binding). b.pairs) e in
    let p : ◌≡◌ {A = Pair} (codes "E_1", one_term C) (codes "E_1", one_term D) = cc in
    let q : ◌≡◌ {A = Pair} (codes "number_1", one_term s) (codes "number_1", one_term u) = cc in
    let c : one_term C ≡ one_term D = ap (λ (r : Pair). r.1) p in
    let d : one_term s ≡ one_term u = ap (λ (r : Pair). r.1) q in
    (cc, cc)

-- an alternative of E
by_alternative : {p : Pattern} {t C s : Tree} → In p (hole ∷ seq_of_two (nt E) any ∷ seq_of_two any (nt E) ∷ []) → Split Contexts p t C s no_names
    → Split Contexts (nt E) t C s no_names
by_alternative i h = split_nt (record { all = hole ∷ seq_of_two (nt E) any ∷ seq_of_two any (nt E) ∷ []; defined = here refl; among = i }) h

-- E splits a list of two at both places
at_left : (t u : Tree) → Split Contexts (nt E) (list_of_two t u) (marked_first the_hole u) t no_names
at_left t u =
    by_alternative (there (here refl))
    (split_seq (split_here (by_alternative (here refl) split_hole) (match_one (match_kind refl) match_none none_left) none_left) refl)

at_right : (t u : Tree) → Split Contexts (nt E) (list_of_two t u) (marked_second t the_hole) u no_names
at_right t u =
    by_alternative (there (there (here refl)))
    (split_seq (split_behind (match_kind refl) (split_here (by_alternative (here refl) split_hole) match_none none_left) none_left) refl)

-- `(hole 2)` with 1 in the hole, and `(1 hole)` with 2
each_matches : Matches Contexts each_pattern (list_of_two (int 1) (int 2))
    (number_in (marked_first the_hole (int 2)) (int 1) ∷ number_in (marked_second (int 1) the_hole) (int 2) ∷ [])
each_matches =
    matches_listed (refl, (refl, tt)) (listed members ((refl, tt), (tt, tt)) (
      by_split (marked_first the_hole (int 2)) 1 (at_left (int 1) (int 2)),
      (by_split (marked_second (int 1) the_hole) 2 (at_right (int 1) (int 2)), tt),
    ) only)
  where
    members : List Binding
    members = number_in (marked_first the_hole (int 2)) (int 1) ∷ number_in (marked_second (int 1) the_hole) (int 2) ∷ []

    by_split : (C : Tree) (k : ℕ) → Split Contexts (nt E) (list_of_two (int 1) (int 2)) C (int k) no_names
        → Match Contexts each_pattern (list_of_two (int 1) (int 2)) (number_in C (int k))
    by_split C k h = (matches_in_context Contexts (nt E) to_zero (list_of_two (int 1) (int 2)) (number_in C (int k))).1 (record {
      context = C;
      part = int k;
      forgotten = no_names;
      inner = binds (codes "number_1") (int k);
      split = h;
      matched = match_named (match_kind refl) (unit_left (binds (codes "number_1") (int k)) ((tt, tt), (tt, tt)));
      joined = number_joined C (int k);
    })

    placed : (C s : Tree)
        → In (in_place C s) (in_place (marked_first the_hole (int 2)) (int 1) ∷ in_place (marked_second (int 1) the_hole) (int 2) ∷ [])
        → In (number_in C s) members
    placed C s (here e) = let k = same_parts C s (marked_first the_hole (int 2)) (int 1) e in here (λ i. number_in (k.0 i) (k.1 i))
    placed C s (there (here e)) = let k = same_parts C s (marked_second (int 1) the_hole) (int 2) e in there (here (λ i. number_in (k.0 i) (k.1 i)))
    placed C s (there (there i)) = elim i [ ]

    only : (b : Binding) → Match Contexts each_pattern (list_of_two (int 1) (int 2)) b → In b members
    only b h =
        let m = (matches_in_context Contexts (nt E) to_zero (list_of_two (int 1) (int 2)) b).0 h in
        let inner : m.inner ≡ binds (codes "number_1") m.part = named_kind_binds m.matched in
        let split : Split Contexts (nt E) (list_of_two (int 1) (int 2)) m.context m.part no_names =
        subst (λ (c : Binding). Split Contexts (nt E) (list_of_two (int 1) (int 2)) m.context m.part c) (nt_splits m.split).1 m.split in
        let plain : Match Contexts (in_hole E_1 number_1) (list_of_two (int 1) (int 2)) (in_place m.context m.part) =
        match_in_hole (split_named split (unit_left (binds (codes "E_1") m.context) ((tt, tt), (tt, tt))))
        (subst (λ (c : Binding). Match Contexts number_1 m.part c) inner m.matched)
        (two_pairs (codes "E_1", one_term m.context) (codes "number_1", one_term m.part) refl) in
        let same : b ≡ number_in m.context m.part =
        one_join _ _ b (number_in m.context m.part) (subst (λ (c : Binding). IsJoin (in_context m.context) c b) inner m.joined)
        (number_joined m.context m.part) in
        subst (λ (c : Binding). In c members) (sym same) (placed m.context m.part (in_each_place.complete (in_place m.context m.part)
        (record { whole = in_place m.context m.part; holds = plain; seen = refl })))

pub steps_in_each_place : StepsInEachPlace
steps_in_each_place P n =
    of_one Contexts (calls_at P n) (list_of_two (int 1) (int 2)) (closed_rule (nt E) to_zero)
    (step 0 (list_of_two (int 0) (int 2)) ∷ step 0 (list_of_two (int 1) (int 0)) ∷ []) ((refl, tt), (tt, tt))
    (two_taken Contexts (calls_at P n) (list_of_two (int 1) (int 2)) 0 each_pattern (inside (codes "context") (lit (int 0)))
    (number_in (marked_first the_hole (int 2)) (int 1)) (number_in (marked_second (int 1) the_hole) (int 2)) (list_of_two (int 0) (int 2))
    (list_of_two (int 1) (int 0)) each_matches (goes refl (goes refl (filled refl (record { shallow = omega arith; small = omega arith }))))
    (goes refl (goes refl (filled refl (record { shallow = omega arith; small = omega arith })))))

-- `(--> 1 (in-hole 2 2))`
abbrev to_no_context : Rule
to_no_context = leads (pattern.lit (int 1)) (fill (lit (int 2)) (lit (int 2)))

pub fault_inside : FaultInside
fault_inside = (
  λ P n. stops (stops (goes (goes (lists (first_matches (int 1))) refl)
      (stops (stops (stops (stops (goes refl (stops (goes refl (goes refl (filled_no_context (refl, refl)))))))))))),
  λ P n. of_one Numbers (calls_at P n) (int 1) (closed_rule (seq_of_two hole any) to_no_context) [] tt
      (none_taken Numbers (calls_at P n) (int 1) 0 first_pattern (inside (codes "context") (fill (lit (int 2)) (lit (int 2))))
      (matches_listed tt (no_member (λ b h. no_split ((matches_in_context Numbers (seq_of_two hole any) to_no_context (int 1) b).0 h).split)))),
)

pub first_place_fails : FirstPlaceFails
first_place_fails P n =
    stops (stops (goes (goes (lists each_matches) refl)
    (stops (stops (stops (stops (goes refl (stops (goes (goes (goes refl refl) (goes (goes (goes refl refl) (goes refl refl)) refl)) refl)))))))))
