-- Text that is spelled as a symbol is read as that one symbol.
use Rattle.std.proofs.Common.{◌≡◌, true, false, ℕ, List, [], ◌∷◌, refl, sym, ap, ◌∙◌, subst, append-nil}
use Rattle.std.specs.Str.{chars, IsUtf8}
use Rattle.std.proofs.lemmas.Str.{encodes-chars}
use Rattle.rdx_base.specs.declared.place.Span.{Span}
use Rattle.rdx_term.specs.Spelling.{begins_with_hash, is_symbol_spelling}
use Rattle.rdx_sexp.specs.Begin.{has_lang_line, body}
use Rattle.rdx_sexp.specs.Grammar.{one_leaf, many_none, many_more}
use Rattle.rdx_sexp.specs.Laws.{whole_span}
use Rattle.rdx_sexp.specs.Lex.{first_lexeme}
use Rattle.rdx_sexp.specs.Lexeme.{word}
use Rattle.rdx_sexp.specs.Reads.{Lexes, lexes_end, lexes_more, Reads}
use Rattle.rdx_sexp.specs.Sexp.{leaf, symbol}
use Rattle.rdx_sexp.specs.Text.{Text, at, start, after_all}
use Rattle.rdx_sexp.proofs.PrintedAtoms.{IsSymbol-is_symbol_spelling, begins_with_hash-encodes, first_lexeme-symbol}
use Rattle.rdx_sexp.proofs.PrintedFirstLine.{has_lang_line-no_hash}
use Rattle.rdx_sexp.proofs.PrintedTests.{if-false}
use Rattle.rdx_sexp.proofs.PrintedTokens.{first_lexeme-end}
use Rattle.rdx_sexp.proofs.Spelled.{data_are_spelled}

-- what is spelled as a symbol is read as it
pub symbol_read : (bytes : List ℕ) → IsUtf8 bytes → is_symbol_spelling bytes ≡ true → Reads bytes (leaf (symbol bytes) (whole_span bytes) ∷ [])
symbol_read bytes u e =
    let n = IsSymbol-is_symbol_spelling bytes e in
    let cs : List ℕ = chars bytes in
    let hash : begins_with_hash cs ≡ false = begins_with_hash-encodes cs (subst (λ (l : List ℕ). begins_with_hash l ≡ false) (sym (encodes-chars bytes u)) n.hash) in
    let whole : body cs ≡ at start cs = if-false (has_lang_line cs) _ _ (has_lang_line-no_hash cs hash) in
    let first = first_lexeme-symbol start bytes cs [] (encodes-chars bytes u) n.token n refl in
    record {
      utf8 = u;
      lexemes = word (symbol bytes) (whole_span bytes) ∷ [];
      lexed = subst (λ (t : Text). Lexes t (word (symbol bytes) (whole_span bytes) ∷ [])) (sym whole)
          (lexes_more (ap (λ (l : List ℕ). first_lexeme (at start l)) (sym (append-nil cs)) ∙ first) (lexes_end (first_lexeme-end (after_all start cs))));
      data_are = many_more one_leaf many_none;
    }

-- and what is read as one symbol of all its bytes is spelled so
pub symbol_spelled : (bytes : List ℕ) (s : Span) → Reads bytes (leaf (symbol bytes) s ∷ []) → IsUtf8 bytes × (is_symbol_spelling bytes ≡ true)
symbol_spelled bytes s r =
    let all = data_are_spelled bytes r.lexemes (leaf (symbol bytes) s ∷ []) r.utf8 r.lexed r.data_are in
    (r.utf8, all.0)
