-- Which patterns and languages are well formed.
use Rattle.std.specs.Prelude.{Bool, true, ◌&&◌, IsTrue, List, [], ◌∷◌, map}
use Rattle.rdx_lang.specs.Depths.{has_fitting_names}
use Rattle.rdx_lang.specs.Patterns.{Pattern, wild, of_kind, except, prefix, hole, lit, nt, named, differ, in_hole, hide_hole, closed, seq, Items, nil, one, many, Definition, Language}
use Rattle.rdx_lang.specs.References.{is_among, are_distinct}
use Rattle.rdx_lang.specs.declared.pattern.Ref.{Ref}

abbrev mutual
  -- each nonterminal that stands in the pattern is one of these
  pub has_known_nonterminals : List Ref → Pattern → Bool
  has_known_nonterminals xs wild = true
  has_known_nonterminals xs (of_kind k) = true
  has_known_nonterminals xs (except rs) = true
  has_known_nonterminals xs (prefix r) = true
  has_known_nonterminals xs hole = true
  has_known_nonterminals xs (lit u) = true
  has_known_nonterminals xs (nt x) = is_among x xs
  has_known_nonterminals xs (named x q) = has_known_nonterminals xs q
  has_known_nonterminals xs (differ x q) = has_known_nonterminals xs q
  has_known_nonterminals xs (in_hole q r) = has_known_nonterminals xs q && has_known_nonterminals xs r
  has_known_nonterminals xs (hide_hole q) = has_known_nonterminals xs q
  has_known_nonterminals xs (closed q) = has_known_nonterminals xs q
  has_known_nonterminals xs (seq ps) = have_known_nonterminals xs ps

  -- each nonterminal that stands in the items is
  pub have_known_nonterminals : List Ref → Items → Bool
  have_known_nonterminals xs nil = true
  have_known_nonterminals xs (one p ps) = has_known_nonterminals xs p && have_known_nonterminals xs ps
  have_known_nonterminals xs (many p n ps) = has_known_nonterminals xs p && have_known_nonterminals xs ps

-- the pattern is well formed where these nonterminals are defined: each that stands in it is one of them, and its names are at one depth
abbrev pub is_well_formed : List Ref → Pattern → Bool
is_well_formed xs p = has_known_nonterminals xs p && has_fitting_names p

-- all patterns of a list pass
abbrev pub all_patterns : (Pattern → Bool) → List Pattern → Bool
all_patterns test [] = true
all_patterns test (p ∷ ps) = test p && all_patterns test ps

-- all alternatives of a language pass
abbrev pub all_alternatives : (Pattern → Bool) → List Definition → Bool
all_alternatives test [] = true
all_alternatives test (d ∷ ds) = all_patterns test d.1 && all_alternatives test ds

-- the nonterminals of a language, in their order
abbrev pub defined : Language → List Ref
defined L = map (λ d. d.0) L.nonterminals

-- the pattern is well formed in the language
abbrev pub is_well_formed_in : Language → Pattern → Bool
is_well_formed_in L p = is_well_formed (defined L) p

-- all alternatives of the language are well formed in it
abbrev pub has_well_formed_alternatives : Language → Bool
has_well_formed_alternatives L = all_alternatives (is_well_formed_in L) L.nonterminals

-- its nonterminals are distinct, and each of its patterns is well formed in it
pub record IsWellFormed (L : Language) : Type 0 where
  pub distinct : IsTrue (are_distinct (defined L))
  pub well_formed : IsTrue (has_well_formed_alternatives L)
