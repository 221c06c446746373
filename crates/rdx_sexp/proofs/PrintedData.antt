-- The canonical text of the data of a text is read as the same data, spans aside.
use Rattle.std.proofs.Common.{◌≡◌, ◌≤◌, ◌<◌, ◌+◌, ◌==◌, ◌||◌, ℕ, suc, true, false, List, [], ◌∷◌, ◌++◌, length, chars, encode_utf8_all, codes, bytes_eq, refl, sym, ap, ap₂, ◌∙◌, subst, append_assoc, true≢false, arith}
use Rattle.std.specs.Fmt.{signed_decimal}
use Rattle.std.specs.List.{list_any}
use Rattle.std.proofs.lemmas.Str.{encodes-chars, scalars-chars}
use Rattle.rdx_base.specs.declared.place.Place.{Place}
use Rattle.rdx_base.specs.declared.place.Span.{Span}
use Rattle.rdx_term.specs.Spelling.{is_symbol_quote, begins_with_hash}
use Rattle.rdx_term.specs.Text.{all_escaped, truth_text}
use Rattle.rdx_sexp.specs.Begin.{has_lang_line, body}
use Rattle.rdx_sexp.specs.Grammar.{One, one_leaf, one_list, Many, many_none, many_more, listed}
use Rattle.rdx_sexp.specs.Laws.{ReadsTheSame}
use Rattle.rdx_sexp.specs.Lex.{span}
use Rattle.rdx_sexp.specs.Lexeme.{round, Lexeme, opening, closing, word}
use Rattle.rdx_sexp.specs.Print.{atom_text, sexp_text, sexps_text, spaced_text, canonical_text}
use Rattle.rdx_sexp.specs.Reads.{Reads, Lexes, lexes_end, lexes_more}
use Rattle.rdx_sexp.specs.Sexp.{Atom, integer, truth, text, symbol, keyword, Sexp, Sexps, leaf, list, nil, cons, sexps}
use Rattle.rdx_sexp.specs.Size.{sexp_depth, sexps_depth}
use Rattle.rdx_sexp.specs.Text.{Text, at, start, after, after_all}
use Rattle.rdx_sexp.specs.Token.{token_lexeme}
use Rattle.rdx_sexp.specs.Unplaced.{no_span, unplaced, all_unplaced}
use Rattle.rdx_sexp.proofs.Numbers.{FitsSigned-fits}
use Rattle.rdx_sexp.proofs.PrintedTests.{if-false, or_false}
use Rattle.rdx_sexp.proofs.PrintedIntegers.{IsInteger-signed_decimal, IsInteger-ascii}
use Rattle.rdx_sexp.proofs.PrintedChars.{Encodes, IsUtf8-Encodes, chars-Encodes, Encodes-append, Encodes-chars, Encodes-ascii, Encodes-all_ascii, Encodes-all_escaped, encode_utf8_all-ascii, truth_text-ascii}
use Rattle.rdx_sexp.proofs.PrintedTokens.{Word, Word-token, Word-text, is_delimited, first_lexeme-open, first_lexeme-close, first_lexeme-end, Lexes-space, Lexes-line_end}
use Rattle.rdx_sexp.proofs.PrintedAtoms.{IsSymbol-is_symbol_spelling, Word-integer, first_lexeme-symbol, begins_with_hash-integer, begins_with_hash-encodes}
use Rattle.rdx_sexp.proofs.PrintedFirstLine.{has_lang_line-no_hash}
use Rattle.rdx_sexp.proofs.Readable.{IsReadable, IsReadableSexp, AreReadable}
use Rattle.rdx_sexp.proofs.Sizes.{data_are_shallow}
use Rattle.rdx_sexp.proofs.Spelled.{data_are_readable}

-- ---- characters

-- the characters of a printed atom, in front of these
abbrev atom_chars : Atom → List ℕ → List ℕ
atom_chars (integer n) rest = signed_decimal n ++ rest
atom_chars (truth b) rest = truth_text b ++ rest
atom_chars (text t) rest = 34 ∷ (all_escaped (chars t) ++ (34 ∷ rest))
atom_chars (symbol t) rest = chars t ++ rest
atom_chars (keyword t) rest = 35 ∷ 58 ∷ (chars t ++ rest)

-- those of a printed datum
abbrev mutual
  sexp_chars : Sexp → List ℕ → List ℕ
  sexp_chars (leaf a s) rest = atom_chars a rest
  sexp_chars (list ds s) rest = 40 ∷ sexps_chars ds (41 ∷ rest)

  -- those of the items of a list, with one space between two
  sexps_chars : Sexps → List ℕ → List ℕ
  sexps_chars nil rest = rest
  sexps_chars (cons d ds) rest = sexp_chars d (spaced_chars ds rest)

  -- with a space before each
  spaced_chars : Sexps → List ℕ → List ℕ
  spaced_chars nil rest = rest
  spaced_chars (cons d ds) rest = 32 ∷ sexp_chars d (spaced_chars ds rest)

-- those of the canonical text
abbrev canonical_chars : List Sexp → List ℕ
canonical_chars [] = []
canonical_chars (d ∷ ds) = sexp_chars d (10 ∷ canonical_chars ds)

-- the printed bytes of a readable atom are these characters
Encodes-atom : (a : Atom) (cs bs : List ℕ) → IsReadable a → Encodes cs bs → Encodes (atom_chars a cs) (atom_text a ++ bs)
Encodes-atom (integer n) cs bs r e = Encodes-all_ascii (signed_decimal n) cs bs (IsInteger-ascii n (signed_decimal n) (IsInteger-signed_decimal n (FitsSigned-fits n r))) e
Encodes-atom (truth b) cs bs r e = Encodes-all_ascii (truth_text b) cs bs (truth_text-ascii b) e
Encodes-atom (text t) cs bs r e =
    let inner = Encodes-all_escaped (chars t) (34 ∷ cs) (34 ∷ bs) (scalars-chars t r) (Encodes-ascii 34 cs bs (omega arith) e) in
    let same : all_escaped (encode_utf8_all (chars t)) ++ (34 ∷ bs) ≡ (all_escaped t ++ (34 ∷ [])) ++ bs =
    ap (λ (l : List ℕ). all_escaped l ++ (34 ∷ bs)) (encodes-chars t r) ∙ sym (append_assoc (all_escaped t) (34 ∷ []) bs) in
    Encodes-ascii 34 _ _ (omega arith) (subst (λ (l : List ℕ). Encodes (all_escaped (chars t) ++ (34 ∷ cs)) l) same inner)
Encodes-atom (symbol t) cs bs r e = Encodes-append (chars t) cs t bs (Encodes-chars t r.0) e
Encodes-atom (keyword t) cs bs r e =
    Encodes-ascii 35 _ _ (omega arith) (Encodes-ascii 58 _ _ (omega arith) (Encodes-append (chars t) cs t bs (Encodes-chars t r.utf8) e))

-- those of readable data too
mutual
  Encodes-sexp : (d : Sexp) (cs bs : List ℕ) → IsReadableSexp d → Encodes cs bs → Encodes (sexp_chars d cs) (sexp_text d ++ bs)
  Encodes-sexp (leaf a s) cs bs r e = Encodes-atom a cs bs r e
  Encodes-sexp (list ds s) cs bs r e =
      let inner = Encodes-sexps ds (41 ∷ cs) (41 ∷ bs) r (Encodes-ascii 41 cs bs (omega arith) e) in
      Encodes-ascii 40 _ _ (omega arith) (subst (λ (l : List ℕ). Encodes (sexps_chars ds (41 ∷ cs)) l) (sym (append_assoc (sexps_text ds) (41 ∷ []) bs)) inner)

  -- the same of the items of a list
  Encodes-sexps : (ds : Sexps) (cs bs : List ℕ) → AreReadable ds → Encodes cs bs → Encodes (sexps_chars ds cs) (sexps_text ds ++ bs)
  Encodes-sexps nil cs bs r e = e
  Encodes-sexps (cons d ds) cs bs r e =
      let more = Encodes-spaced ds cs bs r.1 e in
      subst (λ (l : List ℕ). Encodes (sexp_chars d (spaced_chars ds cs)) l) (sym (append_assoc (sexp_text d) (spaced_text ds) bs)) (Encodes-sexp d _ _ r.0 more)

  -- with a space before each
  Encodes-spaced : (ds : Sexps) (cs bs : List ℕ) → AreReadable ds → Encodes cs bs → Encodes (spaced_chars ds cs) (spaced_text ds ++ bs)
  Encodes-spaced nil cs bs r e = e
  Encodes-spaced (cons d ds) cs bs r e =
      let more = Encodes-spaced ds cs bs r.1 e in
      let inner = subst (λ (l : List ℕ). Encodes (sexp_chars d (spaced_chars ds cs)) l) (sym (append_assoc (sexp_text d) (spaced_text ds) bs)) (Encodes-sexp d _ _ r.0 more) in
      Encodes-ascii 32 _ _ (omega arith) inner

-- and of a canonical text
Encodes-canonical : (ds : List Sexp) → AreReadable (sexps ds) → Encodes (canonical_chars ds) (canonical_text ds)
Encodes-canonical [] r = record { valid = refl; same = refl }
Encodes-canonical (d ∷ ds) r =
    subst (λ (l : List ℕ). Encodes (sexp_chars d (10 ∷ canonical_chars ds)) l) (sym (append_assoc (sexp_text d) (10 ∷ []) (canonical_text ds)))
    (Encodes-sexp d _ _ r.0 (Encodes-ascii 10 _ _ (omega arith) (Encodes-canonical ds r.1)))

-- ---- atoms

-- a keyword's token is that keyword
token_lexeme-keyword : (t : List ℕ) (s : Span) → (length t == 0) ≡ false → list_any is_symbol_quote t ≡ false → token_lexeme (35 ∷ 58 ∷ t) s ≡ word (keyword t) s
token_lexeme-keyword [] s f q = absurd (true≢false f)
token_lexeme-keyword (d ∷ ds) s f q =
    if-false (list_any is_symbol_quote (35 ∷ 58 ∷ d ∷ ds) || bytes_eq (35 ∷ 58 ∷ d ∷ ds) (codes ".")) _ _ (or_false (list_any is_symbol_quote (35 ∷ 58 ∷ d ∷ ds)) _ q refl)

-- each readable atom is one lexeme
Word-atom : (p : Place) (a : Atom) (rest : List ℕ) → IsReadable a → is_delimited rest ≡ true → Word p (atom_chars a rest) a rest
Word-atom p (integer n) rest r d = Word-integer p n (signed_decimal n) rest (IsInteger-signed_decimal n (FitsSigned-fits n r)) r d
Word-atom p (truth true) rest r d =
    Word-token p 35 (116 ∷ []) rest (truth true) refl d refl refl (λ s. ap (λ (l : List ℕ). token_lexeme l s) (encode_utf8_all-ascii (codes "#t") refl))
Word-atom p (truth false) rest r d =
    Word-token p 35 (102 ∷ []) rest (truth false) refl d refl refl (λ s. ap (λ (l : List ℕ). token_lexeme l s) (encode_utf8_all-ascii (codes "#f") refl))
Word-atom p (text t) rest r d =
    subst (λ (l : List ℕ). Word p (atom_chars (text t) rest) (text l) rest) (encodes-chars t r) (Word-text p (chars t) rest)
Word-atom p (symbol t) rest r d =
    let n = IsSymbol-is_symbol_spelling t r.1 in
    record { end = after_all p (chars t); first = first_lexeme-symbol p t (chars t) rest (encodes-chars t r.0) n.token n d }
Word-atom p (keyword t) rest r d =
    let e : Encodes (35 ∷ 58 ∷ chars t) (35 ∷ 58 ∷ t) = Encodes-ascii 35 _ _ (omega arith) (Encodes-ascii 58 _ _ (omega arith) (Encodes-chars t r.utf8)) in
    Word-token p 35 (58 ∷ chars t) rest (keyword t) r.token d refl refl
    (λ s. ap (λ (l : List ℕ). token_lexeme l s) e.same ∙ token_lexeme-keyword t s r.filled r.quotes)

-- ---- data

-- With n brackets open, the characters of d in front of `rest`, from p on, are the lexemes of one datum, which is d with spans of its own;
-- then the lexemes of `rest` follow.
record IsDatum (n : ℕ) (p : Place) (d : Sexp) (rest : List ℕ) : Type 0 where
  again : Sexp
  same : unplaced again ≡ unplaced d
  end : Place
  before : List Lexeme → List Lexeme
  lexed : (ls : List Lexeme) → Lexes (at end rest) ls → Lexes (at p (sexp_chars d rest)) (before ls)
  one : (ls : List Lexeme) → One n (before ls) again ls

-- the same of these characters and data
record AreData (n : ℕ) (p : Place) (ds : Sexps) (cs rest : List ℕ) : Type 0 where
  again : List Sexp
  same : all_unplaced (sexps again) ≡ all_unplaced ds
  end : Place
  before : List Lexeme → List Lexeme
  lexed : (ls : List Lexeme) → Lexes (at end rest) ls → Lexes (at p cs) (before ls)
  many : (ls : List Lexeme) → Many n (before ls) again ls

-- an atom
IsDatum-atom : (n : ℕ) (p : Place) (a : Atom) (s : Span) (rest : List ℕ) → Word p (atom_chars a rest) a rest → IsDatum n p (leaf a s) rest
IsDatum-atom n p a s rest w = record {
  again = leaf a (span p w.end);
  same = refl;
  end = w.end;
  before = λ ls. word a (span p w.end) ∷ ls;
  lexed = λ ls l. lexes_more w.first l;
  one = λ ls. one_leaf;
}

-- a list, by its items
IsDatum-list : (n : ℕ) (p : Place) (ds : Sexps) (s : Span) (rest : List ℕ) → n < 500
    → AreData (suc n) (after p 40) ds (sexps_chars ds (41 ∷ rest)) (41 ∷ rest) → IsDatum n p (list ds s) rest
IsDatum-list n p ds s rest h b = record {
  again = listed b.again (span p (after p 40)) (span b.end (after b.end 41));
  same = ap (λ (l : Sexps). list l no_span) b.same;
  end = after b.end 41;
  before = λ ls. opening round (span p (after p 40)) ∷ b.before (closing round (span b.end (after b.end 41)) ∷ ls);
  lexed = λ ls l. lexes_more (first_lexeme-open p (sexps_chars ds (41 ∷ rest))) (b.lexed (closing round (span b.end (after b.end 41)) ∷ ls) (lexes_more (first_lexeme-close b.end rest) l));
  one = λ ls. one_list h (b.many (closing round (span b.end (after b.end 41)) ∷ ls)) refl;
}

-- no items
AreData-nil : (n : ℕ) (p : Place) (rest : List ℕ) → AreData n p nil rest rest
AreData-nil n p rest = record {
  again = [];
  same = refl;
  end = p;
  before = λ ls. ls;
  lexed = λ ls l. l;
  many = λ ls. many_none;
}

-- one item, what stands behind it, and others
AreData-cons : (n : ℕ) (p : Place) (d : Sexp) (ds : Sexps) (cs rest : List ℕ) (a : IsDatum n p d cs)
    → AreData n a.end ds cs rest → AreData n p (cons d ds) (sexp_chars d cs) rest
AreData-cons n p d ds cs rest a b = record {
  again = a.again ∷ b.again;
  same = ap₂ cons a.same b.same;
  end = b.end;
  before = λ ls. a.before (b.before ls);
  lexed = λ ls l. a.lexed (b.before ls) (b.lexed ls l);
  many = λ ls. many_more (a.one (b.before ls)) (b.many ls);
}

-- a space before them
AreData-space : (n : ℕ) (p : Place) (ds : Sexps) (cs rest : List ℕ) → AreData n (after p 32) ds cs rest → AreData n p ds (32 ∷ cs) rest
AreData-space n p ds cs rest b = record {
  again = b.again;
  same = b.same;
  end = b.end;
  before = b.before;
  lexed = λ ls l. Lexes-space p cs (b.before ls) (b.lexed ls l);
  many = b.many;
}

-- or a line end
AreData-line_end : (n : ℕ) (p : Place) (ds : Sexps) (cs rest : List ℕ) → AreData n (after p 10) ds cs rest → AreData n p ds (10 ∷ cs) rest
AreData-line_end n p ds cs rest b = record {
  again = b.again;
  same = b.same;
  end = b.end;
  before = b.before;
  lexed = λ ls l. Lexes-line_end p cs (b.before ls) (b.lexed ls l);
  many = b.many;
}

-- a token ends before more items
is_delimited-spaced : (ds : Sexps) (rest : List ℕ) → is_delimited rest ≡ true → is_delimited (spaced_chars ds rest) ≡ true
is_delimited-spaced nil rest d = d
is_delimited-spaced (cons t ts) rest d = refl

-- each readable datum of which no list is too deep
mutual
  IsDatum-sexp : (n : ℕ) (p : Place) (d : Sexp) (rest : List ℕ) → sexp_depth d + n ≤ 500 → IsReadableSexp d → is_delimited rest ≡ true → IsDatum n p d rest
  IsDatum-sexp n p (leaf a s) rest h r e = IsDatum-atom n p a s rest (Word-atom p a rest r e)
  IsDatum-sexp n p (list ds s) rest h r e =
      IsDatum-list n p ds s rest (omega arith) (AreData-sexps (suc n) (after p 40) ds (41 ∷ rest) (omega arith) r refl)

  -- the items of a list
  AreData-sexps : (n : ℕ) (p : Place) (ds : Sexps) (rest : List ℕ) → sexps_depth ds + n ≤ 500 → AreReadable ds → is_delimited rest ≡ true → AreData n p ds (sexps_chars ds rest) rest
  AreData-sexps n p nil rest h r e = AreData-nil n p rest
  AreData-sexps n p (cons d ds) rest h r e =
      let a = IsDatum-sexp n p d (spaced_chars ds rest) (omega arith) r.0 (is_delimited-spaced ds rest e) in
      AreData-cons n p d ds (spaced_chars ds rest) rest a (AreData-spaced n a.end ds rest (omega arith) r.1 e)

  -- with a space before each
  AreData-spaced : (n : ℕ) (p : Place) (ds : Sexps) (rest : List ℕ) → sexps_depth ds + n ≤ 500 → AreReadable ds → is_delimited rest ≡ true → AreData n p ds (spaced_chars ds rest) rest
  AreData-spaced n p nil rest h r e = AreData-nil n p rest
  AreData-spaced n p (cons d ds) rest h r e =
      let a = IsDatum-sexp n (after p 32) d (spaced_chars ds rest) (omega arith) r.0 (is_delimited-spaced ds rest e) in
      let b = AreData-cons n (after p 32) d ds (spaced_chars ds rest) rest a (AreData-spaced n a.end ds rest (omega arith) r.1 e) in
      AreData-space n p (cons d ds) (sexp_chars d (spaced_chars ds rest)) rest b

-- so the canonical text of such data
AreData-canonical : (p : Place) (ds : List Sexp) → sexps_depth (sexps ds) ≤ 500 → AreReadable (sexps ds) → AreData 0 p (sexps ds) (canonical_chars ds) []
AreData-canonical p [] h r = AreData-nil 0 p []
AreData-canonical p (d ∷ ds) h r =
    let a = IsDatum-sexp 0 p d (10 ∷ canonical_chars ds) (omega arith) r.0 refl in
    AreData-cons 0 p d (sexps ds) (10 ∷ canonical_chars ds) [] a
    (AreData-line_end 0 a.end (sexps ds) (canonical_chars ds) [] (AreData-canonical (after a.end 10) ds (omega arith) r.1))

-- ---- the first line

-- what does not begin with `#` does not do so in front of a line end
begins_with_hash-line : (cs rest : List ℕ) → begins_with_hash cs ≡ false → begins_with_hash (cs ++ (10 ∷ rest)) ≡ false
begins_with_hash-line [] rest h = refl
begins_with_hash-line (c ∷ cs) rest h = h

-- no printed atom begins a line that names the language
has_lang_line-atom : (a : Atom) (rest : List ℕ) → IsReadable a → has_lang_line (atom_chars a (10 ∷ rest)) ≡ false
has_lang_line-atom (integer n) rest r =
    has_lang_line-no_hash (signed_decimal n ++ (10 ∷ rest))
    (begins_with_hash-line (signed_decimal n) rest (begins_with_hash-integer (signed_decimal n) (IsInteger-signed_decimal n (FitsSigned-fits n r)).integral))
has_lang_line-atom (truth true) rest r = refl
has_lang_line-atom (truth false) rest r = refl
has_lang_line-atom (text t) rest r = refl
has_lang_line-atom (symbol t) rest r =
    let hash = subst (λ (l : List ℕ). begins_with_hash l ≡ false) (sym (encodes-chars t r.0)) (IsSymbol-is_symbol_spelling t r.1).hash in
    has_lang_line-no_hash (chars t ++ (10 ∷ rest)) (begins_with_hash-line (chars t) rest (begins_with_hash-encodes (chars t) hash))
has_lang_line-atom (keyword t) rest r = refl

-- so none begins a canonical text
has_lang_line-canonical : (ds : List Sexp) → AreReadable (sexps ds) → has_lang_line (canonical_chars ds) ≡ false
has_lang_line-canonical [] r = refl
has_lang_line-canonical (leaf a s ∷ ds) r = has_lang_line-atom a (canonical_chars ds) r.0
has_lang_line-canonical (list ts s ∷ ds) r = refl

-- ---- the law

pub data_read_back : (bytes : List ℕ) (ds : List Sexp) → Reads bytes ds → ReadsTheSame ds
data_read_back bytes ds reads =
    let r = data_are_readable bytes reads.lexemes ds reads.utf8 reads.lexed reads.data_are in
    let d = AreData-canonical start ds (data_are_shallow reads.lexemes ds reads.data_are) r in
    let e = Encodes-canonical ds r in
    let text_is : body (chars (canonical_text ds)) ≡ at start (canonical_chars ds) =
    ap body (chars-Encodes (canonical_chars ds) (canonical_text ds) e) ∙ if-false (has_lang_line (canonical_chars ds)) _ _ (has_lang_line-canonical ds r) in
    record {
      again = d.again;
      read = record {
        utf8 = IsUtf8-Encodes (canonical_chars ds) (canonical_text ds) e;
        lexemes = d.before [];
        lexed = subst (λ (x : Text). Lexes x (d.before [])) (sym text_is) (d.lexed [] (lexes_end (first_lexeme-end d.end)));
        data_are = d.many [];
      };
      same = d.same;
    }
