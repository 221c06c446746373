use Rattle.std.proofs.Common.{◌≤◌, length}
use Rattle.rdx_lang.specs.Checked.{language_in}
use Rattle.rdx_why.proofs.FormLaws.{KeepsMatch}
use Rattle.rdx_why.proofs.forms.+forms.Given as goal

abbrev pub invariant-may_match_items-loop-i : goal.invariant-may_match_items-loop-i
invariant-may_match_items-loop-i l = KeepsMatch (language_in l.language) l.items l.terms l.i × (l.i ≤ length l.terms)
