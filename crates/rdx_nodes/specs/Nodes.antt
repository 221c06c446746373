-- What the nodes of patterns stand for.
use Rattle.std.specs.Prelude.{◌≡◌, ℕ, ◌+◌, ◌<◌, List, [], ◌∷◌, ◌++◌, length, map, get_or, Option, Some, None, option_copied, Vec}
use Rattle.std.specs.declared.alloc.Global.{Global}
use Rattle.rdx_term.specs.Tree.{Tree}
use Rattle.rdx_term.specs.View.{tree_of}
use Rattle.rdx_lang.specs.Names.{names}
use Rattle.rdx_lang.specs.Patterns.{Pattern, wild, of_kind, except, prefix, hole, lit, nt, in_hole, hide_hole, closed, seq, Language}
use Rattle.rdx_lang.specs.PatternView.{Slot, just, repeated, patterns_of, items_of}
use Rattle.rdx_lang.specs.Rules.{AreAlternatives}
use Rattle.rdx_bind.specs.Namings.{naming_of, under}
use Rattle.rdx_bind.specs.Searching.{AnyMatches, AnySplits}
use Rattle.rdx_bind.specs.Spots.{Spot}
use Rattle.rdx_nodes.specs.declared.node.Entry.{Entry}
use Rattle.rdx_nodes.specs.declared.node.Entry.TheVariants as entry
use Rattle.rdx_nodes.specs.declared.node.Form.{Form}
use Rattle.rdx_nodes.specs.declared.node.Form.TheVariants as form
use Rattle.rdx_nodes.specs.declared.node.Node.{Node}
use Rattle.rdx_nodes.specs.declared.node.Nonterminal.{Nonterminal}

-- the pattern with this number; `_` for a number that is not given
abbrev pub pattern_at : List Pattern → ℕ → Pattern
pattern_at ps n = get_or ps n wild

-- the patterns with these numbers
abbrev pub patterns_at : List Pattern → List ℕ → List Pattern
patterns_at ps ns = map (pattern_at ps) ns

-- the item that an entry stands for, where these are the patterns
abbrev pub slot_at : List Pattern → Entry → Slot
slot_at ps (entry.One n) = just (pattern_at ps n)
slot_at ps (entry.Many u) = repeated (pattern_at ps u.number) (option_copied u.length)

-- items in their order
abbrev pub slots_at : List Pattern → List Entry → List Slot
slots_at ps es = map (slot_at ps) es

-- the pattern of this form, where these are the patterns
abbrev pub pattern_by : List Pattern → Form → Pattern
pattern_by ps form.Wild = wild
pattern_by ps (form.Kind k) = of_kind k
pattern_by ps (form.Except rs) = except rs.now
pattern_by ps (form.Prefix r) = prefix r.now
pattern_by ps form.Hole = hole
pattern_by ps (form.Lit u) = lit (tree_of u.now)
pattern_by ps (form.Nt x) = nt x.name.now
pattern_by ps (form.Named x n) = under (naming_of x) (pattern_at ps n)
pattern_by ps (form.InHole m n) = in_hole (pattern_at ps m) (pattern_at ps n)
pattern_by ps (form.HideHole n) = hide_hole (pattern_at ps n)
pattern_by ps (form.Closed n) = closed (pattern_at ps n)
pattern_by ps (form.Seq es) = seq (items_of (slots_at ps es.items))

-- these patterns, and those of the nodes, each made of patterns before it
abbrev pub patterns_from : List Pattern → List Node → List Pattern
patterns_from ps [] = ps
patterns_from ps (n ∷ ns) = patterns_from (ps ++ pattern_by ps n.form ∷ []) ns

-- the patterns of nodes, in the order of their numbers
abbrev pub patterns_in : List Node → List Pattern
patterns_in ns = patterns_from [] ns

-- ---- when nodes are right

-- these patterns do as well as those: where one of these matches or splits a term one of those does, and the other way, their names forgotten
pub record DoAsWell (L : Language) (ps qs : List Pattern) : Type 0 where
  pub matches : (t : Tree) → AnyMatches L ps t → AnyMatches L qs t
  pub matches_back : (t : Tree) → AnyMatches L qs t → AnyMatches L ps t
  pub splits : (t : Tree) (r : Spot) → AnySplits L ps t r → AnySplits L qs t r
  pub splits_back : (t : Tree) (r : Spot) → AnySplits L qs t r → AnySplits L ps t r

-- all these numbers are below n
abbrev pub AreBelow : List ℕ → ℕ → Type 0
AreBelow [] n = Unit {0}
AreBelow (k ∷ ks) n = (k < n) × AreBelow ks n

-- the number of an entry is below n, and the names of a repetition are those of its pattern
abbrev pub IsEntry : List Pattern → ℕ → Entry → Type 0
IsEntry ps n (entry.One k) = k < n
IsEntry ps n (entry.Many u) = (u.number < n) × (u.names.items ≡ names (pattern_at ps u.number))

-- the same of all
abbrev pub AreEntries : List Pattern → ℕ → List Entry → Type 0
AreEntries ps n [] = Unit {0}
AreEntries ps n (e ∷ es) = IsEntry ps n e × AreEntries ps n es

-- the nodes that are made for alternatives, if they are, do as well as these, and their numbers are below n
abbrev pub AreOpened : Language → List Pattern → ℕ → List Pattern → Option (List ℕ) → Type 0
AreOpened L ps n qs None = Unit {0}
AreOpened L ps n qs (Some ks) = AreBelow ks n × DoAsWell L (patterns_at ps ks) qs

-- the numbers that are made, if they are
abbrev pub made : Option (Vec ℕ Global) → Option (List ℕ)
made None = None
made (Some v) = Some v.items

abbrev pub opened_in : Nonterminal → Option (List ℕ)
opened_in x = made x.opened

-- a node with the number n is right, where there are m patterns: its parts stand before it; a nonterminal has its alternatives, and the nodes
-- that are made for them do as well
abbrev pub IsForm : Language → List Pattern → ℕ → ℕ → Form → Type 0
IsForm L ps n m form.Wild = Unit {0}
IsForm L ps n m (form.Kind k) = Unit {0}
IsForm L ps n m (form.Except rs) = Unit {0}
IsForm L ps n m (form.Prefix r) = Unit {0}
IsForm L ps n m form.Hole = Unit {0}
IsForm L ps n m (form.Lit u) = Unit {0}
IsForm L ps n m (form.Nt x) = AreAlternatives L x.name.now (patterns_of x.alternatives.now) × AreOpened L ps m (patterns_of x.alternatives.now) (opened_in x)
IsForm L ps n m (form.Named x k) = k < n
IsForm L ps n m (form.InHole j k) = (j < n) × (k < n)
IsForm L ps n m (form.HideHole k) = k < n
IsForm L ps n m (form.Closed k) = k < n
IsForm L ps n m (form.Seq es) = AreEntries ps n es.items

-- all nodes are right, the first of which has the number n
abbrev pub AreForms : Language → List Pattern → ℕ → ℕ → List Node → Type 0
AreForms L ps n m [] = Unit {0}
AreForms L ps n m (x ∷ xs) = IsForm L ps n m x.form × AreForms L ps (n + 1) m xs

-- all nodes are right
abbrev pub AreNodes : Language → List Node → Type 0
AreNodes L ns = AreForms L (patterns_in ns) 0 (length ns) ns
