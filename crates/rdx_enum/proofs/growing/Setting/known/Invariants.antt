use Rattle.std.proofs.Common.{map}
use Rattle.rdx_lang.specs.Checked.{language_in}
use Rattle.rdx_term.specs.View.{tree_of}
use Rattle.rdx_enum.proofs.KnownRows.{KnownBelow}
use Rattle.rdx_enum.proofs.growing.Setting.known.Given as goal

abbrev pub invariant-loop-m : goal.invariant-loop-m
invariant-loop-m l = KnownBelow (language_in l.self.language.now) (map tree_of l.self.pool.now) l.name l.m l.terms.items l.contexts.items
