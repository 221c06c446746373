-- What nodes are added to.
use Rattle.std.specs.Prelude.{◌≡◌, List, [], ◌++◌, Option, Some, Vec, ℕ}
use Rattle.std.specs.declared.alloc.Global.{Global}
use Rattle.rdx_lang.specs.Patterns.{Pattern}
use Rattle.rdx_lang.specs.PatternView.{Slot, just, repeated, patterns_of}
use Rattle.rdx_nodes.specs.Settings.{language_at, trees_at_hand, IsReady}
use Rattle.rdx_nodes.specs.Inside.Forgetting.{Forgets, ForgetsLength}
use Rattle.rdx_nodes.specs.declared.node.Form.{Form}
use Rattle.rdx_nodes.specs.declared.node.Form.TheVariants as form
use Rattle.rdx_nodes.specs.declared.node.Node.{Node}
use Rattle.rdx_nodes.specs.declared.setting.Setting.{Setting}

-- new has the nodes of old and maybe more behind them, all right
pub record Adds (old new : Setting) : Type 0 where
  pub language : language_at new ≡ language_at old
  pub terms : trees_at_hand new ≡ trees_at_hand old
  pub more : List Node
  pub nodes : new.nodes.items ≡ old.nodes.items ++ more
  pub ready : IsReady new

-- the item s is r without the names xs
pub data ForgetsSlot (xs : List (List ℕ)) : Slot → Slot → Type 0 where
  forgets_just : {p q : Pattern} → Forgets xs p q → ForgetsSlot xs (just p) (just q)
  forgets_repeated : {p q : Pattern} {n m : Option (List ℕ)} → Forgets xs p q → ForgetsLength xs n m → ForgetsSlot xs (repeated p n) (repeated q m)

-- the alternatives of a nonterminal; none of another form
abbrev pub alternatives_by : Form → List Pattern
alternatives_by form.Wild = []
alternatives_by (form.Kind k) = []
alternatives_by (form.Except rs) = []
alternatives_by (form.Prefix r) = []
alternatives_by form.Hole = []
alternatives_by (form.Lit u) = []
alternatives_by (form.Nt x) = patterns_of x.alternatives.now
alternatives_by (form.Named x k) = []
alternatives_by (form.InHole j k) = []
alternatives_by (form.HideHole k) = []
alternatives_by (form.Closed k) = []
alternatives_by (form.Seq es) = []

-- a nonterminal with these nodes for its alternatives; another form stays
abbrev pub opened_by : Vec ℕ Global → Form → Form
opened_by ks form.Wild = form.Wild
opened_by ks (form.Kind k) = form.Kind k
opened_by ks (form.Except rs) = form.Except rs
opened_by ks (form.Prefix r) = form.Prefix r
opened_by ks form.Hole = form.Hole
opened_by ks (form.Lit u) = form.Lit u
opened_by ks (form.Nt x) = form.Nt (record { name = x.name; alternatives = x.alternatives; opened = Some ks })
opened_by ks (form.Named x k) = form.Named x k
opened_by ks (form.InHole j k) = form.InHole j k
opened_by ks (form.HideHole k) = form.HideHole k
opened_by ks (form.Closed k) = form.Closed k
opened_by ks (form.Seq es) = form.Seq es
