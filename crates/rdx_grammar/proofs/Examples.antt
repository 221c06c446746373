-- The worked examples.
use Rattle.std.proofs.Common.{◌≡◌, Bool, true, false, List, [], ◌∷◌, refl, sym, subst}
use Rattle.std.specs.Prelude.{codes}
use Rattle.std.specs.Str.{chars}
use Rattle.rdx_lang.specs.Empty.{empty_hole, empty_nt}
use Rattle.rdx_lang.specs.Edges.{Edge, edge_nt, edge_named, edge_differ, edge_hide_hole, edge_closed, edge_left, edge_right, Reaches, at_once, further, IsFree, IsFirstRecursive}
use Rattle.rdx_lang.specs.Members.{In, here, there}
use Rattle.rdx_lang.specs.Patterns.{Pattern, wild, of_kind, hole, nt, in_hole, Definition, Language}
use Rattle.rdx_lang.specs.WellFormed.{all_patterns, all_alternatives}
use Rattle.rdx_lang.specs.declared.pattern.Kind.TheVariants.{Number}
use Rattle.rdx_lang.specs.declared.pattern.Ref.{Ref}
use Rattle.rdx_lang.specs.declared.pattern.Ref.TheVariants.{Nt, Cross}
use Rattle.rdx_grammar.specs.Examples.{definitions, extended, InheritsInPlace, LeastCheckFirst, conditioned, AsksInLanguage, RecursionFirst, CrossesLoop}
use Rattle.rdx_patterns.specs.Examples.{word, group, columns, split_across}
use Rattle.rdx_grammar.specs.Refused.{by_check, by_recursion, by_escape}
use Rattle.rdx_patterns.proofs.Booleans.{and_true}

-- ---- languages whose alternatives are built-in names, or match everything

-- the pattern is such a one
abbrev is_built_in : Pattern → Bool
is_built_in wild = true
is_built_in (of_kind k) = true
is_built_in p = false

-- one of several patterns that pass a test
patterns-in : (test : Pattern → Bool) (ps : List Pattern) (p : Pattern) → all_patterns test ps ≡ true → In p ps → test p ≡ true
patterns-in test [] p h i = elim i [ ]
patterns-in test (q ∷ ps) p h (here e) = subst (λ (r : Pattern). test r ≡ true) (sym e) (and_true (test q) (all_patterns test ps) h).0
patterns-in test (q ∷ ps) p h (there i) = patterns-in test ps p (and_true (test q) (all_patterns test ps) h).1 i

-- an alternative of definitions whose alternatives pass it
alternatives-in : (test : Pattern → Bool) (ds : List Definition) (d : Definition) (p : Pattern) → all_alternatives test ds ≡ true → In d ds → In p d.1 → test p ≡ true
alternatives-in test [] d p h i j = elim i [ ]
alternatives-in test (c ∷ ds) d p h (here e) j = patterns-in test c.1 p (and_true (all_patterns test c.1) (all_alternatives test ds) h).0 (subst (λ (b : Definition). In p b.1) e j)
alternatives-in test (c ∷ ds) d p h (there i) j = alternatives-in test ds d p (and_true (all_patterns test c.1) (all_alternatives test ds) h).1 i j

module _ (L : Language) (all : all_alternatives is_built_in L.nonterminals ≡ true) where
  -- no left edge leads from a built-in name
  no_edge : {p q : Pattern} → Edge L p q → is_built_in p ≡ true → ⊥
  no_edge (edge_nt {x = x} {p = p} a) e = absurd cc
  no_edge (edge_named {x = x} {q = q}) e = absurd cc
  no_edge (edge_differ {x = x} {q = q}) e = absurd cc
  no_edge (edge_hide_hole {q = q}) e = absurd cc
  no_edge (edge_closed {q = q}) e = absurd cc
  no_edge (edge_left {q = q} {r = r}) e = absurd cc
  no_edge (edge_right {q = q} {r = r} h) e = absurd cc

  -- so nothing is reached from it
  nothing_behind : {p q : Pattern} → Reaches L p q → is_built_in p ≡ true → ⊥
  nothing_behind (at_once e) h = no_edge e h
  nothing_behind (further e w) h = no_edge e h

  -- those of a nonterminal lead to built-in names
  edge_to : {x : Ref} {q : Pattern} → Edge L (nt x) q → is_built_in q ≡ true
  edge_to (edge_nt {x = x} {p = p} a) = alternatives-in is_built_in L.nonterminals (x, a.all) p all a.defined a.among

  -- so these alone are reached from it
  built_in-reached : {x : Ref} {q : Pattern} → Reaches L (nt x) q → is_built_in q ≡ true
  built_in-reached (at_once e) = edge_to e
  built_in-reached (further e w) = absurd (nothing_behind w (edge_to e))

  -- no nonterminal reaches itself
  free : IsFree L
  free x w = let e : is_built_in (nt x) ≡ true = built_in-reached w in absurd cc

-- ---- the examples

pub inherits_in_place : InheritsInPlace
unfolding chars
inherits_in_place s = record {
  passes = refl;
  parts = record { name = word s (codes "M"); definitions = definitions s };
  are = refl;
  reads = refl;
  free = free extended refl;
  asks_nothing = refl;
}

pub least_check_first : LeastCheckFirst
least_check_first = by_check refl

-- the language of `(define-language L (e number (side-condition e #t)))`, if it were not refused
abbrev conditioned_number : Language
conditioned_number = record { name = codes "L"; nonterminals = (Nt (codes "e"), of_kind Number ∷ wild ∷ []) ∷ [] }

pub asks_in_language : AsksInLanguage
unfolding chars
asks_in_language =
    by_escape
    (record {
      name = word (columns 18 19) (codes "L");
      definitions = group (columns 20 52) (word (columns 21 22) (codes "e") ∷ word (columns 23 29) (codes "number") ∷ conditioned 30 ∷ []) ∷ [];
    })
    refl refl (free conditioned_number refl) refl

-- the alternatives of `(define-language L (e e (side-condition e #t)))`, and their language
abbrev looping : List Pattern
looping = nt (Nt (codes "e")) ∷ wild ∷ []

abbrev conditioned_loop : Language
conditioned_loop = record { name = codes "L"; nonterminals = (Nt (codes "e"), looping) ∷ [] }

-- its nonterminal reaches itself
loops : IsFirstRecursive conditioned_loop (Nt (codes "e"))
loops = record {
  before = [];
  alternatives = looping;
  behind = [];
  defined = refl;
  recursive = at_once (edge_nt (record { all = looping; defined = here refl; among = here refl }));
  first = λ d i. elim i [ ];
}

pub recursion_first : RecursionFirst
unfolding chars
recursion_first =
    by_recursion
    (record {
      name = word (columns 18 19) (codes "L");
      definitions = group (columns 20 47) (word (columns 21 22) (codes "e") ∷ word (columns 23 24) (codes "e") ∷ conditioned 25 ∷ []) ∷ [];
    })
    (Nt (codes "e")) refl refl loops refl

-- ---- contexts from a nonterminal to itself

-- the alternatives of `(define-language L (e (in-hole (cross e) e)))`, and their language with what it needs
abbrev e_to_e : Ref
e_to_e = Cross (codes "e") (codes "e")

abbrev splitting_itself : List Pattern
splitting_itself = in_hole (nt e_to_e) (nt (Nt (codes "e"))) ∷ []

abbrev crossed_language : Language
crossed_language = record { name = codes "L"; nonterminals = (Nt (codes "e"), splitting_itself) ∷ (e_to_e, hole ∷ []) ∷ [] }

-- it reaches itself, since the hole is such a context
loops_across : IsFirstRecursive crossed_language (Nt (codes "e"))
loops_across = record {
  before = [];
  alternatives = splitting_itself;
  behind = (e_to_e, hole ∷ []) ∷ [];
  defined = refl;
  recursive =
      further (edge_nt (record { all = splitting_itself; defined = here refl; among = here refl }))
      (at_once (edge_right (empty_nt (record { all = hole ∷ []; defined = there (here refl); among = here refl }) empty_hole)));
  first = λ d i. elim i [ ];
}

pub crosses_loop : CrossesLoop
unfolding chars
crosses_loop =
    by_recursion
    (record {
      name = word (columns 18 19) (codes "L");
      definitions = group (columns 20 45) (word (columns 21 22) (codes "e") ∷ split_across 23 (codes "e") ∷ []) ∷ [];
    })
    (Nt (codes "e")) refl refl loops_across refl
