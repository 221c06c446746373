-- What bytes are: data, or a text with a first fault.
use Rattle.std.specs.Prelude.{◌≡◌, ℕ, List, [], ◌∷◌, take, Some, None}
use Rattle.std.specs.Str.{chars, IsUtf8, IsValidUpTo}
use Rattle.rdx_sexp.specs.declared.fault.ReadKind.TheVariants.{NotUtf8}
use Rattle.rdx_sexp.specs.declared.fault.ReadRefusal.{ReadRefusal}
use Rattle.rdx_sexp.specs.Begin.{body}
use Rattle.rdx_sexp.specs.Fault.{FaultOf}
use Rattle.rdx_sexp.specs.Grammar.{Many}
use Rattle.rdx_sexp.specs.Lex.{first_lexeme}
use Rattle.rdx_sexp.specs.Lexeme.{Lexeme}
use Rattle.rdx_sexp.specs.Refusal.{refusal}
use Rattle.rdx_sexp.specs.Sexp.{Sexp}
use Rattle.rdx_sexp.specs.Text.{Text, start, after_all}

-- the text is these lexemes, with white space and comments between them
pub data Lexes : Text → List Lexeme → Type 0 where
  lexes_end : {t : Text} → first_lexeme t ≡ None → Lexes t []
  lexes_more : {t rest : Text} {l : Lexeme} {ls : List Lexeme} → first_lexeme t ≡ Some (l, rest) → Lexes rest ls → Lexes t (l ∷ ls)

-- the bytes are these data: they are characters in UTF-8, which are cut into lexemes, which spell the data and nothing else
pub record Reads (bytes : List ℕ) (ds : List Sexp) : Type 0 where
  pub utf8 : IsUtf8 bytes
  pub lexemes : List Lexeme
  pub lexed : Lexes (body (chars bytes)) lexemes
  pub data_are : Many 0 lexemes ds []

-- Why bytes are no data: they are not UTF-8, at the place behind the longest front that is (F1); or the lexemes of their characters are
-- refused.
pub data FirstFault (bytes : List ℕ) (r : ReadRefusal) : Type 0 where
  not_utf8 : (n : ℕ) → IsValidUpTo bytes n → r ≡ refusal NotUtf8 (after_all start (chars (take n bytes))) → FirstFault bytes r
  in_text : (ls : List Lexeme) → IsUtf8 bytes → Lexes (body (chars bytes)) ls → FaultOf ls r → FirstFault bytes r
