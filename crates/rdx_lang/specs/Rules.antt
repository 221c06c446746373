-- When a pattern of a language matches a term, and when it splits a term into a context and a part, and with which binding: the two least
-- relations with these rules, a constructor for each (Klein, McCarthy, Jaconette and Findler, "A semantics for context-sensitive reduction
-- semantics", APLAS 2011).
use Rattle.std.specs.Prelude.{◌≡◌, ◌↔◌, ℕ, zero, suc, ℤ, pos, negsuc, nat_eq, Bool, true, false, not, IsTrue, IsFalse, List, [], ◌∷◌, Option, Some, bytes_eq}
use Rattle.std.specs.List.{list_any, starts_with}
use Rattle.rdx_term.specs.Tree.{Tree, integer, truth, text, symbol, list, Trees, cons}
use Rattle.rdx_term.specs.Tree.{nil as no_trees}
use Rattle.rdx_term.specs.Tree.{hole as the_hole}
use Rattle.rdx_term.specs.Bare.{bare}
use Rattle.rdx_term.specs.Fill.{fill_of}
use Rattle.rdx_term.specs.Items.{put_at}
use Rattle.rdx_lang.specs.Members.{In}
use Rattle.rdx_lang.specs.Bindings.{Binding, no_names, one_name, one_differs}
use Rattle.rdx_lang.specs.Bindings.{one as one_term}
use Rattle.rdx_lang.specs.Collections.{IsRepetition}
use Rattle.rdx_lang.specs.Join.{IsJoin}
use Rattle.rdx_lang.specs.Literals.{is_mentioned}
use Rattle.rdx_lang.specs.Names.{names}
use Rattle.rdx_lang.specs.Patterns.{Pattern, wild, of_kind, except, prefix, hole, lit, nt, named, differ, in_hole, hide_hole, closed, seq, Items, nil, one, many, Language}
use Rattle.rdx_lang.specs.declared.pattern.Kind.{Kind}
use Rattle.rdx_lang.specs.declared.pattern.Kind.TheVariants.{Any, Number, Natural, Integer, Real, Text, Boolean, Variable, Unmentioned}
use Rattle.rdx_lang.specs.declared.pattern.Ref.{Ref}

-- the integer is not negative
abbrev pub is_not_negative : ℤ → Bool
is_not_negative (pos n) = true
is_not_negative (negsuc n) = false

-- the term is an integer
abbrev pub is_integer : Tree → Bool
is_integer (integer z) = true
is_integer t = false

-- the term is an integer that is not negative
abbrev pub is_natural : Tree → Bool
is_natural (integer z) = is_not_negative z
is_natural t = false

-- the term is a string
abbrev pub is_string : Tree → Bool
is_string (text s) = true
is_string t = false

-- the term is a truth value
abbrev pub is_boolean : Tree → Bool
is_boolean (truth b) = true
is_boolean t = false

-- the term is a symbol
abbrev pub is_variable : Tree → Bool
is_variable (symbol s) = true
is_variable t = false

-- the term is a symbol that no alternative of the language has as a literal
abbrev pub is_unmentioned : Language → Tree → Bool
is_unmentioned L (symbol s) = not (is_mentioned L s)
is_unmentioned L t = false

-- The terms that a built-in name stands for in a language. All numbers are integers.
abbrev pub is_of_kind : Language → Kind → Tree → Bool
is_of_kind L Any t = true
is_of_kind L Number t = is_integer t
is_of_kind L Natural t = is_natural t
is_of_kind L Integer t = is_integer t
is_of_kind L Real t = is_integer t
is_of_kind L Text t = is_string t
is_of_kind L Boolean t = is_boolean t
is_of_kind L Variable t = is_variable t
is_of_kind L Unmentioned t = is_unmentioned L t

-- the symbol is one of these
abbrev pub is_one_of : List (List ℕ) → List ℕ → Bool
is_one_of rs s = list_any (λ r. bytes_eq r s) rs

-- p is an alternative of the nonterminal x
pub record IsAlternative (L : Language) (x : Ref) (p : Pattern) : Type 0 where
  pub all : List Pattern
  pub defined : In (x, all) L.nonterminals
  pub among : In p all

-- these are the alternatives of the nonterminal x
abbrev pub AreAlternatives : Language → Ref → List Pattern → Type 0
AreAlternatives L x ps = (p : Pattern) → (In p ps ↔ IsAlternative L x p)

-- The rules of matching. A literal matches the terms that are equal to it with marks forgotten, and `hole` the hole. A nonterminal matches
-- what one of its alternatives matches, and binds nothing, whatever the alternative binds. A pattern with a name binds what its part binds,
-- joined with the name for the term, and one with a mismatch name the same with the set of this term alone; `in-hole` what its left part
-- binds as it splits the term, joined with what its right part binds as it matches what stands in the hole; a list pattern the join of what
-- its items bind. A repetition matches any number of items, one after the other, each by its pattern, and binds each name to the sequence of
-- what the turns bind, each mismatch name to the sets of all turns together, and its length name to their number. Where a join does not exist
-- there is no match. The marks of a term count in joins alone.
--
-- The rules of splitting. `hole` splits each term into the hole and the term. A nonterminal splits it as its alternatives do, and binds
-- nothing. A pattern with a name binds the name to the context, and one with a mismatch name has the context in its set. `in-hole` splits
-- what its left part has left in the hole once more, by its right part, and puts the second context into the first. A list pattern splits a
-- list where exactly one of its items splits and all others match, be it by itself or in a turn of a repetition; the context is the list with
-- the item's context in place of the item, marked there. No other pattern splits a term: `hide-hole` does not, whatever its part does.
mutual
  -- p matches t and binds b
  pub data Match (L : Language) : Pattern → Tree → Binding → Type 0 where
    match_wild : {t : Tree} → Match L wild t no_names
    match_kind : {k : Kind} {t : Tree} → IsTrue (is_of_kind L k t) → Match L (of_kind k) t no_names
    match_except : {rs : List (List ℕ)} {s : List ℕ} → IsFalse (is_one_of rs s) → Match L (except rs) (symbol s) no_names
    match_prefix : {r s : List ℕ} → IsTrue (starts_with nat_eq s r) → Match L (prefix r) (symbol s) no_names
    match_hole : Match L hole the_hole no_names
    match_lit : {u t : Tree} → bare t ≡ bare u → Match L (lit u) t no_names
    match_nt : {x : Ref} {p : Pattern} {t : Tree} {c : Binding} → IsAlternative L x p → Match L p t c → Match L (nt x) t no_names
    match_named : {x : List ℕ} {q : Pattern} {t : Tree} {c b : Binding} →
        Match L q t c → IsJoin c (one_name x (one_term t)) b → Match L (named x q) t b
    match_differ : {x : List ℕ} {q : Pattern} {t : Tree} {c b : Binding} →
        Match L q t c → IsJoin c (one_differs x t) b → Match L (differ x q) t b
    match_in_hole : {q r : Pattern} {t C u : Tree} {c d b : Binding} →
        Split L q t C u c → Match L r u d → IsJoin c d b → Match L (in_hole q r) t b
    match_hide_hole : {q : Pattern} {t : Tree} {b : Binding} → Match L q t b → Match L (hide_hole q) t b
    match_closed : {q : Pattern} {t : Tree} {c : Binding} → Match L q t c → Match L (closed q) t no_names
    match_seq : {ps : Items} {m : Option ℕ} {ts : Trees} {b : Binding} → MatchItems L ps ts b → Match L (seq ps) (list m ts) b

  -- the items of a list pattern match the terms of a list, and bind b together
  pub data MatchItems (L : Language) : Items → Trees → Binding → Type 0 where
    match_none : MatchItems L nil no_trees no_names
    match_one : {p : Pattern} {ps : Items} {t : Tree} {ts : Trees} {c d b : Binding} →
        Match L p t c → MatchItems L ps ts d → IsJoin c d b → MatchItems L (one p ps) (cons t ts) b
    match_many : {p : Pattern} {n : Option (List ℕ)} {ps : Items} {ts : Trees} {cs : List Binding} {c d b : Binding} →
        MatchRun L p ps ts cs d → IsRepetition (names p) cs n c → IsJoin c d b → MatchItems L (many p n ps) ts b

  -- p matches some first terms of a list, or none, one after the other, and binds cs in these turns; the items ps match the others, and
  -- bind d
  pub data MatchRun (L : Language) : Pattern → Items → Trees → List Binding → Binding → Type 0 where
    run_end : {p : Pattern} {ps : Items} {ts : Trees} {d : Binding} → MatchItems L ps ts d → MatchRun L p ps ts [] d
    run_more : {p : Pattern} {ps : Items} {t : Tree} {ts : Trees} {c d : Binding} {cs : List Binding} →
        Match L p t c → MatchRun L p ps ts cs d → MatchRun L p ps (cons t ts) (c ∷ cs) d

  -- p splits t into the context C and the part s, and binds b
  pub data Split (L : Language) : Pattern → Tree → Tree → Tree → Binding → Type 0 where
    split_hole : {t : Tree} → Split L hole t the_hole t no_names
    split_nt : {x : Ref} {p : Pattern} {t C s : Tree} {c : Binding} → IsAlternative L x p → Split L p t C s c → Split L (nt x) t C s no_names
    split_named : {x : List ℕ} {q : Pattern} {t C s : Tree} {c b : Binding} →
        Split L q t C s c → IsJoin c (one_name x (one_term C)) b → Split L (named x q) t C s b
    split_differ : {x : List ℕ} {q : Pattern} {t C s : Tree} {c b : Binding} →
        Split L q t C s c → IsJoin c (one_differs x C) b → Split L (differ x q) t C s b
    split_in_hole : {q r : Pattern} {t C D E u s : Tree} {c d b : Binding} →
        Split L q t D u c → Split L r u E s d → C ≡ fill_of D E → IsJoin c d b → Split L (in_hole q r) t C s b
    split_closed : {q : Pattern} {t C s : Tree} {c : Binding} → Split L q t C s c → Split L (closed q) t C s no_names
    split_seq : {ps : Items} {m : Option ℕ} {ts : Trees} {k : ℕ} {C D s : Tree} {b : Binding} →
        SplitItems L ps ts k D s b → C ≡ list (Some k) (put_at ts k D) → Split L (seq ps) (list m ts) C s b

  -- one item of a list pattern, at place k, splits its term into the context D and the part s, all others match theirs, and they bind b
  -- together
  pub data SplitItems (L : Language) : Items → Trees → ℕ → Tree → Tree → Binding → Type 0 where
    split_here : {p : Pattern} {ps : Items} {t D s : Tree} {ts : Trees} {c d b : Binding} →
        Split L p t D s c → MatchItems L ps ts d → IsJoin c d b → SplitItems L (one p ps) (cons t ts) zero D s b
    split_behind : {p : Pattern} {ps : Items} {t D s : Tree} {ts : Trees} {k : ℕ} {c d b : Binding} →
        Match L p t c → SplitItems L ps ts k D s d → IsJoin c d b → SplitItems L (one p ps) (cons t ts) (suc k) D s b
    split_many : {p : Pattern} {n : Option (List ℕ)} {ps : Items} {ts : Trees} {k : ℕ} {D s : Tree} {cs : List Binding} {c d b : Binding} →
        SplitRun L p ps ts k D s cs d → IsRepetition (names p) cs n c → IsJoin c d b → SplitItems L (many p n ps) ts k D s b

  -- the same as in MatchRun, but that exactly one term, at place k, is split into D and s: in one of the turns, or behind them
  pub data SplitRun (L : Language) : Pattern → Items → Trees → ℕ → Tree → Tree → List Binding → Binding → Type 0 where
    run_here : {p : Pattern} {ps : Items} {t D s : Tree} {ts : Trees} {c d : Binding} {cs : List Binding} →
        Split L p t D s c → MatchRun L p ps ts cs d → SplitRun L p ps (cons t ts) zero D s (c ∷ cs) d
    run_there : {p : Pattern} {ps : Items} {t D s : Tree} {ts : Trees} {k : ℕ} {c d : Binding} {cs : List Binding} →
        Match L p t c → SplitRun L p ps ts k D s cs d → SplitRun L p ps (cons t ts) (suc k) D s (c ∷ cs) d
    run_behind : {p : Pattern} {ps : Items} {ts : Trees} {k : ℕ} {D s : Tree} {d : Binding} →
        SplitItems L ps ts k D s d → SplitRun L p ps ts k D s [] d
