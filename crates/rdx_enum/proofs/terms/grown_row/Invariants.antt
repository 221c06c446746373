use Rattle.std.proofs.Common.{drop, map}
use Rattle.rdx_lang.specs.Checked.{language_in}
use Rattle.rdx_lang.specs.PatternView.{patterns_of}
use Rattle.rdx_term.specs.View.{tree_of}
use Rattle.rdx_enum.specs.Inside.Rows.{row_of}
use Rattle.rdx_enum.proofs.TableRows.{SoFar}
use Rattle.rdx_enum.proofs.terms.grown_row.Given as goal

abbrev pub invariant-loop-pat : goal.invariant-loop-pat
invariant-loop-pat l = SoFar (language_in l.setting.language.now) (map tree_of l.setting.pool.now) l.n l.name (patterns_of l.pat-items) (patterns_of (drop l.pat-index l.pat-items)) (row_of l.terms) (row_of l.contexts)
