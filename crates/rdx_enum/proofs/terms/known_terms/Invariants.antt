use Rattle.std.proofs.Common.{List}
use Rattle.rdx_lang.specs.Patterns.{Language}
use Rattle.rdx_term.specs.Tree.{Tree}
use Rattle.rdx_enum.specs.Inside.Rows.{row_of}
use Rattle.rdx_enum.specs.Inside.Tables.{AreTables}
use Rattle.rdx_enum.proofs.TableLaws.{Knows}
use Rattle.rdx_enum.proofs.terms.known_terms.Given as goal

abbrev pub invariant-loop-m : goal.invariant-loop-m
invariant-loop-m l = (L : Language) (P : List Tree) → AreTables L P l.tables → Knows L P l.name l.m (row_of l.found)
