-- What patterns may do, where E tells it of nonterminals.
use Rattle.std.specs.Prelude.{ℕ, suc, ◌+◌, min, nat_eq, nat_le, Bool, true, false, not, ◌&&◌, ◌||◌, List, [], ◌∷◌, is_some, map, slice_index_or, if◌then◌else◌}
use Rattle.rdx_term.specs.Tree.{Tree, tree_holes}
use Rattle.rdx_lang.specs.Facts as facts
use Rattle.rdx_lang.specs.Facts.{greatest}
use Rattle.rdx_lang.specs.Patterns.{Pattern, wild, of_kind, except, prefix, hole, lit, nt, named, differ, in_hole, hide_hole, closed, seq, Items, nil, one, many, Definition, Language}
use Rattle.rdx_lang.specs.References.{is_same}
use Rattle.rdx_lang.specs.declared.facts.Each.{Each}
use Rattle.rdx_lang.specs.declared.facts.Known.{Known}
use Rattle.rdx_lang.specs.declared.facts.May.{May}
use Rattle.rdx_lang.specs.declared.pattern.Kind.{Kind}
use Rattle.rdx_lang.specs.declared.pattern.Kind.TheVariants.{Any, Number, Natural, Integer, Real, Text, Boolean, Variable, Unmentioned}
use Rattle.rdx_lang.specs.declared.pattern.Ref.{Ref}

-- ---- by parts

-- nothing
abbrev pub nothing : May
nothing = record { split = false; atoms = false; least = greatest; most = 0; solid = false; bind = false }

-- what matches each term
abbrev pub anything : May
anything = record { split = false; atoms = true; least = 0; most = greatest; solid = true; bind = false }

-- what matches atoms alone, and not the hole
abbrev pub atoms : May
atoms = record { split = false; atoms = true; least = greatest; most = 0; solid = true; bind = false }

-- the hole, which splits each term
abbrev pub at_hole : May
at_hole = record { split = true; atoms = true; least = 0; most = greatest; solid = false; bind = false }

-- a built-in name
abbrev pub kind_may : Kind → May
kind_may Any = anything
kind_may Number = atoms
kind_may Natural = atoms
kind_may Integer = atoms
kind_may Real = atoms
kind_may Text = atoms
kind_may Boolean = atoms
kind_may Variable = atoms
kind_may Unmentioned = atoms

-- the term is a list
abbrev pub is_list : Tree → Bool
is_list t = facts.is_list t

-- how many items the term has
abbrev pub count_of : Tree → ℕ
count_of t = facts.item_count t

-- a literal term
abbrev pub literal : Tree → May
literal u = record {
  split = false;
  atoms = not (is_list u);
  least = if is_list u then count_of u else greatest;
  most = count_of u;
  solid = nat_eq (tree_holes u) 0;
  bind = false;
}

-- a pattern with a name or a mismatch name, by its part
abbrev pub with_name : May → May
with_name m = record { split = m.split; atoms = m.atoms; least = m.least; most = m.most; solid = m.solid; bind = true }

-- a closed pattern
abbrev pub with_none : May → May
with_none m = record { split = m.split; atoms = m.atoms; least = m.least; most = m.most; solid = m.solid; bind = false }

-- a hidden pattern
abbrev pub hidden : May → May
hidden m = record { split = false; atoms = m.atoms; least = m.least; most = m.most; solid = m.solid; bind = m.bind }

-- `in-hole`: what it matches or splits its left part splits
abbrev pub filled : May → May → May
filled l r = record {
  split = l.split && r.split;
  atoms = l.split && r.atoms;
  least = if l.split then l.least else greatest;
  most = if l.split then l.most else 0;
  solid = l.split && r.solid;
  bind = l.bind || r.bind;
}

-- a list of no items
abbrev pub empty : May
empty = record { split = false; atoms = false; least = 0; most = 0; solid = true; bind = false }

-- one item more
abbrev pub with_one : May → May → May
with_one m k = record {
  split = m.split || k.split;
  atoms = false;
  least = min (m.least + 1) greatest;
  most = min (m.most + 1) greatest;
  solid = m.solid && k.solid;
  bind = m.bind || k.bind;
}

-- one repetition more, with a length name or without one: it can have no turn, so it takes nothing away, and any number of them
abbrev pub with_many : May → May → Bool → May
with_many m k counted = record {
  split = m.split || k.split;
  atoms = false;
  least = m.least;
  most = greatest;
  solid = m.solid;
  bind = m.bind || (k.bind || counted);
}

-- ---- patterns

abbrev mutual
  -- what a pattern may do
  pub may_of : (Ref → May) → Pattern → May
  may_of E wild = anything
  may_of E (of_kind k) = kind_may k
  may_of E (except rs) = atoms
  may_of E (prefix r) = atoms
  may_of E hole = at_hole
  may_of E (lit u) = literal u
  may_of E (nt x) = E x
  may_of E (named x q) = with_name (may_of E q)
  may_of E (differ x q) = with_name (may_of E q)
  may_of E (in_hole q r) = filled (may_of E q) (may_of E r)
  may_of E (hide_hole q) = hidden (may_of E q)
  may_of E (closed q) = with_none (may_of E q)
  may_of E (seq ps) = items_may E empty ps

  -- what a list pattern may do, where it may do m before these items
  pub items_may : (Ref → May) → May → Items → May
  items_may E m nil = m
  items_may E m (one p ps) = items_may E (with_one m (may_of E p)) ps
  items_may E m (many p n ps) = items_may E (with_many m (may_of E p) (is_some n)) ps

-- ---- languages

-- what the marks of definitions, the first of which has the place i, say of x: those of its first definition
abbrev pub marks_at : List May → ℕ → List Definition → Ref → May
marks_at ms i [] x = nothing
marks_at ms i (d ∷ ds) x = if is_same x d.0 then slice_index_or ms i nothing else marks_at ms (suc i) ds x

-- what the marks of a language's definitions say of x
abbrev pub may_by : Language → List May → Ref → May
may_by L ms x = marks_at ms 0 L.nonterminals x

-- k may do what m may; names are not looked at
abbrev pub is_within : May → May → Bool
is_within m k =
    (not m.split || k.split) && (not m.atoms || k.atoms) && nat_le k.least m.least && nat_le m.most k.most && (not m.solid || k.solid)

-- k may do what each of these patterns may
abbrev pub are_within : (Ref → May) → List Pattern → May → Bool
are_within E [] k = true
are_within E (p ∷ ps) k = is_within (may_of E p) k && are_within E ps k

-- each nonterminal may do what each of its alternatives may
abbrev pub is_closed : (Ref → May) → List Definition → Bool
is_closed E [] = true
is_closed E (d ∷ ds) = are_within E d.1 (E d.0) && is_closed E ds

-- ---- what is found

-- what alternatives may do
abbrev pub mays : List Each → List May
mays es = map (λ e. e.may) es

-- what a nonterminal may do, and its alternatives
abbrev pub flags_of : Known → May × List May
flags_of k = (k.may, mays k.each.items)

-- the same where E tells it
abbrev pub flags_by : (Ref → May) → Definition → May × List May
flags_by E d = (E d.0, map (λ p. may_of E p) d.1)
