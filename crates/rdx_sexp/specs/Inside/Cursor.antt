-- The text that a cursor has before it, and what steps over it give.
use Rattle.std.specs.Prelude.{◌≡◌, List, [], ℕ, ◌++◌, Result, Ok, Err, Option, Some, None, option_map, string_bytes}
use Rattle.std.specs.Str.{encode_utf8_all}
use Rattle.std.specs.declared.string.String.{String}
use Rattle.rdx_base.specs.declared.place.Place.{Place}
use Rattle.rdx_sexp.specs.declared.cursor.Cursor.{Cursor}
use Rattle.rdx_sexp.specs.declared.fault.ReadFault.{ReadFault}
use Rattle.rdx_sexp.specs.declared.fault.ReadFault.TheVariants.{Refused, NoMemory}
use Rattle.rdx_sexp.specs.declared.fault.ReadKind.TheVariants.{Unclosed}
use Rattle.rdx_sexp.specs.declared.fault.ReadRefusal.{ReadRefusal}
use Rattle.rdx_sexp.specs.declared.lexeme.Atom.{Atom}
use Rattle.rdx_sexp.specs.declared.lexeme.Lexeme.{Lexeme as LexemeCode}
use Rattle.rdx_base.specs.declared.place.Span.{Span}
use Rattle.rdx_sexp.specs.Lex.{Step}
use Rattle.rdx_sexp.specs.Lexeme.{Lexeme, word, bad}
use Rattle.rdx_sexp.specs.Refusal.{refusal}
use Rattle.rdx_sexp.specs.Inside.Lexemes.{atom_of, lexeme_of}
use Rattle.rdx_sexp.specs.Strings.{Body}
use Rattle.rdx_sexp.specs.Text.{Text, at}

-- the text from a cursor on
abbrev pub text_from : Cursor → Text
text_from c = at c.place c.rest.now

-- the refusal is the unclosed comment that was found, or memory ran out
abbrev pub StopsAt : ReadFault → Result Text Place → Type 0
StopsAt (Refused r) found = (o : Place) × (found ≡ Err o) × (r ≡ refusal Unclosed o)
StopsAt NoMemory found = Unit {0}

-- bytes before the bytes of a string's characters
abbrev pub with_bytes : List ℕ → Body → Result (List ℕ × Text) ReadRefusal
with_bytes bs (Ok x) = Ok (bs ++ encode_utf8_all x.0, x.1)
with_bytes bs (Err r) = Err r

-- the refusal is the string's, or memory ran out
abbrev pub FailsBody : ReadFault → Body → Type 0
FailsBody (Refused r) body = body ≡ Err r
FailsBody NoMemory body = Unit {0}

-- the text and the cursor are the string's, or the refusal is
abbrev pub GivesBody : {A : Type 0} → Result (String A × Cursor) ReadFault → Body → Type 0
GivesBody (Ok x) body = with_bytes [] body ≡ Ok (string_bytes x.0, text_from x.1)
GivesBody (Err e) body = FailsBody e body

-- the lexeme is refused for this, or memory ran out
abbrev pub FailsLexeme : ReadFault → Lexeme → Type 0
FailsLexeme (Refused r) l = l ≡ bad r
FailsLexeme NoMemory l = Unit {0}

-- the atom with this span is the lexeme, or the refusal is
abbrev pub GivesWord : Result Atom ReadFault → Span → Lexeme → Type 0
GivesWord (Ok a) s l = l ≡ word (atom_of a) s
GivesWord (Err e) s l = FailsLexeme e l

-- the step's lexeme is refused for this, or memory ran out
abbrev pub FailsPair : ReadFault → Step → Type 0
FailsPair (Refused r) step = step.0 ≡ bad r
FailsPair NoMemory step = Unit {0}

-- the lexeme and the cursor are the step, or the refusal is its lexeme
abbrev pub GivesPair : Result (LexemeCode × Cursor) ReadFault → Step → Type 0
GivesPair (Ok x) step = step ≡ (lexeme_of x.0, text_from x.1)
GivesPair (Err e) step = FailsPair e step

-- the same of a step that there may be
abbrev pub FailsStep : ReadFault → Option Step → Type 0
FailsStep (Refused r) step = option_map (λ s. s.0) step ≡ Some (bad r)
FailsStep NoMemory step = Unit {0}

-- the lexeme and the cursor are the step, or there is none, or the refusal is its lexeme
abbrev pub GivesStep : Result (Option (LexemeCode × Cursor)) ReadFault → Option Step → Type 0
GivesStep (Ok None) step = step ≡ None
GivesStep (Ok (Some x)) step = step ≡ Some (lexeme_of x.0, text_from x.1)
GivesStep (Err e) step = FailsStep e step
