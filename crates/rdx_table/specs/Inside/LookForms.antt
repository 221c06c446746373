-- The forms of the patterns that a look has at hand.
use Rattle.std.specs.Prelude.{◌≡◌, ℕ, length, List, []}
use Rattle.rdx_nodes.specs.Nodes.{pattern_at, pattern_by, IsForm}
use Rattle.rdx_nodes.specs.Settings.{doors_of, IsClosedDoor}
use Rattle.rdx_nodes.specs.declared.node.Entry.{Entry}
use Rattle.rdx_nodes.specs.declared.node.Form.{Form}
use Rattle.rdx_nodes.specs.declared.node.Form.TheVariants as form
use Rattle.rdx_table.specs.Inside.Looks.{language_of_look, patterns_of_look}
use Rattle.rdx_table.specs.declared.look.Look.{Look}

-- the pattern with this number has this form, which is right
pub record IsFormOf (l : Look) (n : ℕ) (f : Form) : Type 0 where
  pub pattern : pattern_at (patterns_of_look l) n ≡ pattern_by (patterns_of_look l) f
  pub right : IsForm (language_of_look l) (patterns_of_look l) n (length (patterns_of_look l)) f
  pub door : doors_of f ≡ 1 → IsClosedDoor l.setting.now n

-- the entries of a list pattern; none of another form
abbrev pub entries_in : Form → List Entry
entries_in form.Wild = []
entries_in (form.Kind k) = []
entries_in (form.Except rs) = []
entries_in (form.Prefix r) = []
entries_in form.Hole = []
entries_in (form.Lit u) = []
entries_in (form.Nt x) = []
entries_in (form.Named x n) = []
entries_in (form.InHole m n) = []
entries_in (form.HideHole n) = []
entries_in (form.Closed n) = []
entries_in (form.Seq es) = es.items
