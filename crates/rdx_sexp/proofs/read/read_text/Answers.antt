use Rattle.std.proofs.Common.{◌≡◌, Some, [], arith}
use Rattle.rdx_sexp.specs.Inside.Cursor.{text_from}
use Rattle.rdx_sexp.specs.Lex.{first_lexeme}
use Rattle.rdx_sexp.specs.Inside.Machine.{run}
use Rattle.rdx_sexp.specs.Inside.Stack.{frames}
use Rattle.rdx_sexp.specs.Inside.Lexemes.{lexeme_of}
use Rattle.rdx_sexp.proofs.Behind.{first_lexeme_is_shorter}
use Rattle.rdx_sexp.proofs.Lexing.{goes_on}
use Rattle.rdx_sexp.proofs.read.read_text.Goals as goal

pub loop-items-smaller : goal.loop-items-smaller
loop-items-smaller c =
    let e : first_lexeme (text_from c.loop-items.at) ≡ Some (lexeme_of c.in-Some.lexeme, text_from c.in-Some.rest) = grind (arith, c.in_ok-lexeme.ensures) in
    omega (arith, first_lexeme_is_shorter (text_from c.loop-items.at) (lexeme_of c.in-Some.lexeme, text_from c.in-Some.rest) e)

pub loop-items-preserved : goal.loop-items-preserved
loop-items-preserved c = λ ls lexed.
    let e : first_lexeme (text_from c.loop-items.at) ≡ Some (lexeme_of c.in-Some.lexeme, text_from c.in-Some.rest) = grind (arith, c.in_ok-lexeme.ensures) in
    goes_on (run [] [] ls) (text_from c.loop-items.at) (frames c.loop-items.stack.items) c.loop-items.items.items (lexeme_of c.in-Some.lexeme) (text_from c.in-Some.rest)
    (frames c.take.new.stack.items) c.take.new.items.items e (λ ms. c.in_ok-take.ensures ms) (c.loop-items.invariant ls lexed)
