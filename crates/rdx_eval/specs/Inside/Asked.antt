-- The pattern of a contract that was found, that a term matches it, and the patterns that match whatever they are asked of.
use Rattle.std.specs.Prelude.{◌≡◌, Bool, true, false, ◌&&◌, Option, Some, None, option_map}
use Rattle.std.specs.Borrow.{Bor}
use Rattle.rdx_lang.specs.Checked.{pattern_in}
use Rattle.rdx_lang.specs.Patterns.{Pattern, wild, of_kind, except, prefix, hole, lit, nt, named, differ, in_hole, hide_hole, closed, seq, Items, nil, one, many}
use Rattle.rdx_lang.specs.declared.checked.CheckedPat.{CheckedPat}
use Rattle.rdx_lang.specs.declared.pattern.Kind.{Kind}
use Rattle.rdx_lang.specs.declared.pattern.Kind.TheVariants.{Any, Number, Natural, Integer, Real, Text, Boolean, Variable, Unmentioned}
use Rattle.rdx_term.specs.Tree.{Tree, integer, truth, text, symbol, list}
use Rattle.rdx_term.specs.Tree.{hole as the_hole}
use Rattle.rdx_eval.specs.Answers.{Answer, value}

-- the pattern that was found, where there is one
abbrev pub pattern_found : Option (Bor CheckedPat) → Option Pattern
pattern_found o = option_map (λ p. pattern_in p.now) o

-- nothing more is said of a term that matches
abbrev pub passed : Unit {0} → Unit {0}
passed x = x

-- it matches
abbrev pub Passes : Answer (Unit {0}) → Type 0
Passes r = r ≡ value tt

-- the built-in name is `any`
abbrev pub is_any_kind : Kind → Bool
is_any_kind Any = true
is_any_kind Number = false
is_any_kind Natural = false
is_any_kind Integer = false
is_any_kind Real = false
is_any_kind Text = false
is_any_kind Boolean = false
is_any_kind Variable = false
is_any_kind Unmentioned = false

-- the pattern is `_` or `any`
abbrev pub is_any : Pattern → Bool
is_any wild = true
is_any (of_kind k) = is_any_kind k
is_any (except rs) = false
is_any (prefix r) = false
is_any hole = false
is_any (lit u) = false
is_any (nt x) = false
is_any (named x q) = false
is_any (differ x q) = false
is_any (in_hole q r) = false
is_any (hide_hole q) = false
is_any (closed q) = false
is_any (seq ps) = false

-- it is one of them, or one of them under a name
abbrev pub takes_inside : Pattern → Bool
takes_inside wild = true
takes_inside (of_kind k) = is_any_kind k
takes_inside (except rs) = false
takes_inside (prefix r) = false
takes_inside hole = false
takes_inside (lit u) = false
takes_inside (nt x) = false
takes_inside (named x q) = is_any q
takes_inside (differ x q) = false
takes_inside (in_hole q r) = false
takes_inside (hide_hole q) = false
takes_inside (closed q) = false
takes_inside (seq ps) = false

-- it is `_` or `any`, or closed, where it may be under a name
abbrev pub takes_each : Pattern → Bool
takes_each wild = true
takes_each (of_kind k) = is_any_kind k
takes_each (except rs) = false
takes_each (prefix r) = false
takes_each hole = false
takes_each (lit u) = false
takes_each (nt x) = false
takes_each (named x q) = false
takes_each (differ x q) = false
takes_each (in_hole q r) = false
takes_each (hide_hole q) = false
takes_each (closed q) = takes_inside q
takes_each (seq ps) = false

-- there is one item, under an ellipsis without a length name, and it takes each term
abbrev pub takes_lists : Items → Bool
takes_lists nil = false
takes_lists (one p ps) = false
takes_lists (many p (Some x) ps) = false
takes_lists (many p None nil) = takes_each p
takes_lists (many p None (one q ps)) = false
takes_lists (many p None (many q x ps)) = false

-- the term is a list
abbrev pub is_a_list : Tree → Bool
is_a_list the_hole = false
is_a_list (integer z) = false
is_a_list (truth b) = false
is_a_list (text s) = false
is_a_list (symbol s) = false
is_a_list (list m ts) = true

-- the pattern matches the term, by what it is: it takes each term, or each list
abbrev pub takes_all : Pattern → Tree → Bool
takes_all wild t = true
takes_all (of_kind k) t = is_any_kind k
takes_all (except rs) t = false
takes_all (prefix r) t = false
takes_all hole t = false
takes_all (lit u) t = false
takes_all (nt x) t = false
takes_all (named x q) t = false
takes_all (differ x q) t = false
takes_all (in_hole q r) t = false
takes_all (hide_hole q) t = false
takes_all (closed q) t = takes_inside q
takes_all (seq ps) t = is_a_list t && takes_lists ps
