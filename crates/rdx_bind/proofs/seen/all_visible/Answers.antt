use Rattle.rdx_lang.specs.Shown.{bindings_of}
use Rattle.rdx_bind.proofs.Seeing.{all_whole}
use Rattle.rdx_bind.proofs.seen.all_visible.Goals as goal

pub returns-then-are_plain : goal.returns-then-are_plain
returns-then-are_plain c = all_whole (bindings_of c.args.found.items) (rw c.deref.ensures.value at (c.are_plain.ensures cc))
