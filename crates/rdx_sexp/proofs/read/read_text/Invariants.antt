use Rattle.std.proofs.Common.{List, [], length}
use Rattle.rdx_sexp.specs.Lexeme.{Lexeme}
use Rattle.rdx_sexp.specs.Inside.Machine.{run}
use Rattle.rdx_sexp.specs.Reads.{Lexes}
use Rattle.rdx_sexp.specs.Inside.Cursor.{text_from}
use Rattle.rdx_sexp.specs.Inside.Stack.{frames}
use Rattle.rdx_sexp.proofs.Lexing.{Goes}
use Rattle.rdx_sexp.proofs.read.read_text.Given as goal

abbrev pub invariant-loop-items : goal.invariant-loop-items
invariant-loop-items l = (ls : List Lexeme) → Lexes (text_from l.fn.text) ls → Goes (run [] [] ls) (text_from l.at) (frames l.stack.items) l.items.items

abbrev pub decreases-loop-items : goal.decreases-loop-items
decreases-loop-items l = length l.at.rest.now
