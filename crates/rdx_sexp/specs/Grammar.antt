-- The data that lexemes spell.
use Rattle.std.specs.Prelude.{◌≡◌, ℕ, suc, ◌<◌, List, [], ◌∷◌, codes}
use Rattle.rdx_base.specs.declared.place.Span.{Span}
use Rattle.rdx_sexp.specs.Lexeme.{Bracket, QuoteMark, quote, quasiquote, unquote, unquote_splicing}
use Rattle.rdx_sexp.specs.Lexeme.{Lexeme, opening, closing, quote_mark, skip, word}
use Rattle.rdx_sexp.specs.Sexp.{Atom, symbol, Sexp, leaf, list, nil, cons, sexps, span_of}

-- from the first of the one to the last of the other
abbrev pub joined : Span → Span → Span
joined s t = record { start = s.start; end = t.end }

-- the list of these data between brackets at s and t
abbrev pub listed : List Sexp → Span → Span → Sexp
listed ds s t = list (sexps ds) (joined s t)

-- the symbol that a quote mark stands for
abbrev pub quote_name : QuoteMark → List ℕ
quote_name quote = codes "quote"
quote_name quasiquote = codes "quasiquote"
quote_name unquote = codes "unquote"
quote_name unquote_splicing = codes "unquote-splicing"

-- the list that a quote mark at s and the datum behind it stand for
abbrev pub quoted : QuoteMark → Span → Sexp → Sexp
quoted m s d = list (cons (leaf (symbol (quote_name m)) s) (cons d nil)) (joined s (span_of d))

-- how many brackets, quote marks and `#;` may be open at once
abbrev pub max_open : ℕ
max_open = 500

-- With n of them open, `One n ls d rest` says that the lexemes ls begin with the datum d, and that the lexemes `rest` follow it, and
-- `Many n ls ds rest` the same of the data ds, of which there may be none. Each list is closed by the bracket of its own kind. A mark `#;`
-- drops the datum behind it, be it before another datum or at the end of the data.
mutual
  pub data One : ℕ → List Lexeme → Sexp → List Lexeme → Type 0 where
    one_leaf : {n : ℕ} {a : Atom} {s : Span} {ls : List Lexeme} → One n (word a s ∷ ls) (leaf a s) ls
    one_list : {n : ℕ} {b : Bracket} {s t : Span} {ds : List Sexp} {d : Sexp} {ls rest : List Lexeme}
        → n < max_open → Many (suc n) ls ds (closing b t ∷ rest) → listed ds s t ≡ d → One n (opening b s ∷ ls) d rest
    one_quoted : {n : ℕ} {m : QuoteMark} {s : Span} {d e : Sexp} {ls rest : List Lexeme}
        → n < max_open → One (suc n) ls e rest → quoted m s e ≡ d → One n (quote_mark m s ∷ ls) d rest
    one_skipped : {n : ℕ} {s : Span} {d e : Sexp} {ls mid rest : List Lexeme}
        → n < max_open → One (suc n) ls d mid → One n mid e rest → One n (skip s ∷ ls) e rest

  pub data Many : ℕ → List Lexeme → List Sexp → List Lexeme → Type 0 where
    many_none : {n : ℕ} {ls : List Lexeme} → Many n ls [] ls
    many_more : {n : ℕ} {d : Sexp} {ds : List Sexp} {ls mid rest : List Lexeme}
        → One n ls d mid → Many n mid ds rest → Many n ls (d ∷ ds) rest
    many_skipped : {n : ℕ} {s : Span} {d : Sexp} {ds : List Sexp} {ls mid rest : List Lexeme}
        → n < max_open → One (suc n) ls d mid → Many n mid ds rest → Many n (skip s ∷ ls) ds rest
