-- Which patterns match by the term alone.
use Rattle.std.specs.Prelude.{Bool, true, false}
use Rattle.rdx_nodes.specs.declared.node.Form.{Form}
use Rattle.rdx_nodes.specs.declared.node.Form.TheVariants as form

-- whether more than the term decides about a pattern of this form: its parts do
abbrev pub has_parts : Form → Bool
has_parts form.Wild = false
has_parts (form.Kind k) = false
has_parts (form.Except rs) = false
has_parts (form.Prefix r) = false
has_parts form.Hole = false
has_parts (form.Lit u) = false
has_parts (form.Nt x) = true
has_parts (form.Named x n) = true
has_parts (form.InHole m n) = true
has_parts (form.HideHole n) = true
has_parts (form.Closed n) = true
has_parts (form.Seq es) = true
