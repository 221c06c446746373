-- What a search works on.
use Rattle.std.specs.Prelude.{◌≡◌, ◌↔◌, ℕ, ◌+◌, ◌<◌, List, [], ◌∷◌, ◌++◌, length, get_or, Option, Some, None, Vec}
use Rattle.std.specs.declared.alloc.Global.{Global}
use Rattle.rdx_term.specs.Tree.{Tree}
use Rattle.rdx_lang.specs.Bindings.{Binding}
use Rattle.rdx_lang.specs.Checked.{language_in}
use Rattle.rdx_lang.specs.Patterns.{Pattern, Language}
use Rattle.rdx_lang.specs.Rules.{Match}
use Rattle.rdx_bind.specs.Spots.{Spot, SplitsAt}
use Rattle.rdx_nodes.specs.Index.{IsIndex}
use Rattle.rdx_nodes.specs.Nodes.{patterns_in, AreNodes}
use Rattle.rdx_nodes.specs.declared.node.Form.{Form}
use Rattle.rdx_nodes.specs.declared.node.Form.TheVariants as form
use Rattle.rdx_nodes.specs.declared.node.Node.{Node}
use Rattle.rdx_nodes.specs.declared.setting.Setting.{Setting}

-- the language
abbrev pub language_at : Setting → Language
language_at s = language_in s.language.now

-- the patterns, by their numbers
abbrev pub patterns_at_hand : Setting → List Pattern
patterns_at_hand s = patterns_in s.nodes.items

-- the terms, by their ids
abbrev pub trees_at_hand : Setting → List Tree
trees_at_hand s = s.store.now

-- the nodes are right, and so are the numbers in the index
pub record IsReady (s : Setting) : Type 0 where
  pub nodes : AreNodes (language_at s) s.nodes.items
  pub index : IsIndex (patterns_at_hand s) s.index

-- new works on the language and the terms of old, and has its patterns at their numbers, and maybe more
pub record Grows (old new : Setting) : Type 0 where
  pub language : language_at new ≡ language_at old
  pub terms : trees_at_hand new ≡ trees_at_hand old
  pub more : List Pattern
  pub patterns : patterns_at_hand new ≡ patterns_at_hand old ++ more

-- p does as well as q: it matches the same terms with the same bindings, and splits them in the same ways
pub record DoesAsWell (L : Language) (p q : Pattern) : Type 0 where
  pub matches : (t : Tree) (b : Binding) → (Match L p t b ↔ Match L q t b)
  pub splits : (t : Tree) (s : Spot) → (SplitsAt L p t s ↔ SplitsAt L q t s)

-- ---- nonterminals whose alternatives have no nodes yet

-- one where no nodes are made
abbrev pub doors_by : Option (Vec ℕ Global) → ℕ
doors_by None = 1
doors_by (Some v) = 0

-- one for such a form, and else none
abbrev pub doors_of : Form → ℕ
doors_of form.Wild = 0
doors_of (form.Kind k) = 0
doors_of (form.Except rs) = 0
doors_of (form.Prefix r) = 0
doors_of form.Hole = 0
doors_of (form.Lit u) = 0
doors_of (form.Nt x) = doors_by x.opened
doors_of (form.Named x k) = 0
doors_of (form.InHole j k) = 0
doors_of (form.HideHole k) = 0
doors_of (form.Closed k) = 0
doors_of (form.Seq es) = 0

-- how many there are
abbrev pub doors_in : List Node → ℕ
doors_in [] = 0
doors_in (n ∷ ns) = doors_of n.form + doors_in ns

abbrev pub closed_doors : Setting → ℕ
closed_doors s = doors_in s.nodes.items

-- the node with this number is such a nonterminal
pub record IsClosedDoor (s : Setting) (n : ℕ) : Type 0 where
  pub number : n < length s.nodes.items
  pub node : Node
  pub there : get_or s.nodes.items n node ≡ node
  pub closed : doors_of node.form ≡ 1
