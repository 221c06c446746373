use Rattle.std.proofs.Common.{◌≤◌}
use Rattle.rdx_lang.specs.Checked.{language_in}
use Rattle.rdx_why.proofs.FormLaws.{KeepsSplit}
use Rattle.rdx_why.proofs.forms.+splitting_forms.Given as goal

abbrev pub invariant-may_split_items-loop-i : goal.invariant-may_split_items-loop-i
invariant-may_split_items-loop-i l = KeepsSplit (language_in l.language) l.items l.terms l.place l.i × (l.i ≤ l.place)
