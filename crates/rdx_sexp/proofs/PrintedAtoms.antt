-- Each term that is no list is printed as one atom, which stands for it.
use Rattle.std.proofs.Common.{◌≡◌, ◌==◌, ◌&&◌, ◌||◌, not, nat_lt, length, ℕ, ℤ, Bool, true, false, List, [], ◌∷◌, ◌++◌, IsUtf8, chars, encode_utf8_all, bytes_eq, codes, Some, inl, inr, refl, sym, ap, ◌∙◌, subst, ne_eqb, eqb-true, true≢false, arith}
use Rattle.std.proofs.lemmas.Bool.{and_parts, and_left, not-true, cases_eq}
use Rattle.std.proofs.lemmas.Str.{encode_ascii, encodes-chars}
use Rattle.std.specs.Char.{is_ascii_digit}
use Rattle.std.specs.List.{list_any, list_all}
use Rattle.std.specs.Fmt.{signed_decimal}
use Rattle.rdx_base.specs.declared.place.Place.{Place}
use Rattle.rdx_base.specs.declared.place.Span.{Span}
use Rattle.rdx_term.specs.Spelling.{ends_token, is_symbol_quote, begins_with_hash, begins_unsigned, begins_number, is_reserved, is_token, is_symbol_token, is_symbol_spelling, is_name}
use Rattle.rdx_term.specs.Tree.{Tree, hole}
use Rattle.rdx_term.specs.Terms.{IsSpelled}
use Rattle.rdx_term.specs.Tree as tree
use Rattle.rdx_sexp.specs.Lex.{span, first_lexeme}
use Rattle.rdx_sexp.specs.Lexeme.{word}
use Rattle.rdx_sexp.specs.Text.{at, after_all}
use Rattle.rdx_sexp.specs.Meaning.{atom_tree}
use Rattle.rdx_sexp.specs.Sexp.{Atom, integer, truth, text, symbol}
use Rattle.rdx_sexp.specs.Token.{fits, is_integer, integer_lexeme, token_lexeme}
use Rattle.rdx_sexp.proofs.PrintedTests.{if-false, if-true, false_from_not, or_false, or_left, bytes_unlike, list_any-excluded}
use Rattle.rdx_sexp.proofs.PrintedIntegers.{in_integer, in_integer-excluded, IsInteger, IsInteger-signed_decimal, IsInteger-ascii, fits-FitsSigned, without_leading_sign-unsigned}
use Rattle.rdx_sexp.proofs.PrintedChars.{tree_chars, encode_utf8_all-ascii}
use Rattle.rdx_sexp.proofs.PrintedTokens.{Word, first_lexeme-token, Word-token, Word-text, is_delimited}

-- the term t is printed, from p on, as an atom that stands for it
pub record IsAtom (p : Place) (t : Tree) (rest : List ℕ) : Type 0 where
  pub atom : Atom
  pub read : Word p (tree_chars t rest) atom rest
  pub stands : atom_tree atom ≡ Some t

-- ---- integers

-- an integer's token is that integer
token_lexeme-integer : (n : ℤ) (bs : List ℕ) (s : Span) → IsInteger n bs → fits n ≡ true → begins_with_hash bs ≡ false → token_lexeme bs s ≡ word (integer n) s
token_lexeme-integer n bs s i f h =
    let quotes : list_any is_symbol_quote bs ≡ false = list_any-excluded is_symbol_quote in_integer (in_integer-excluded is_symbol_quote refl) bs i.integral in
    let point : bytes_eq bs (codes ".") ≡ false = bytes_unlike (λ (l : List ℕ). not (is_integer l)) bs (codes ".") (ap not i.token) refl in
    if-false (list_any is_symbol_quote bs || bytes_eq bs (codes ".")) _ _ (or_false _ _ quotes point) ∙ if-false (begins_with_hash bs) _ _ h
    ∙ if-true (is_integer bs) _ _ i.token ∙ ap (λ (k : ℤ). integer_lexeme k s) i.value ∙ if-true (fits n) _ _ f

-- an integer does not begin with `#`
pub begins_with_hash-integer : (bs : List ℕ) → list_all in_integer bs ≡ true → begins_with_hash bs ≡ false
begins_with_hash-integer [] h = refl
begins_with_hash-integer (b ∷ bs) h = in_integer-excluded (λ (x : ℕ). x == 35) refl b (and_parts (in_integer b) (list_all in_integer bs) h).0

-- so is its text
pub Word-integer : (p : Place) (n : ℤ) (bs rest : List ℕ) → IsInteger n bs → fits n ≡ true → is_delimited rest ≡ true → Word p (bs ++ rest) (integer n) rest
Word-integer p n [] rest i f d = absurd (true≢false (sym i.token))
Word-integer p n (b ∷ bs) rest i f d =
    let hash = begins_with_hash-integer (b ∷ bs) i.integral in
    let ascii : encode_utf8_all (b ∷ bs) ≡ b ∷ bs = encode_utf8_all-ascii (b ∷ bs) (IsInteger-ascii n (b ∷ bs) i) in
    Word-token p b bs rest (integer n) (list_any-excluded ends_token in_integer (in_integer-excluded ends_token refl) (b ∷ bs) i.integral) d
    (and_left _ _ hash) (and_left _ _ hash) (λ s. ap (λ (l : List ℕ). token_lexeme l s) ascii ∙ token_lexeme-integer n (b ∷ bs) s i f hash)

-- ---- symbols

-- the first of the digits
first_digit : (d : ℕ) (ds : List ℕ) → (nat_lt 0 (length (d ∷ ds)) && list_all is_ascii_digit (d ∷ ds)) ≡ true → is_ascii_digit d ≡ true
first_digit d ds e =
    let all = and_parts (nat_lt 0 (length (d ∷ ds))) (list_all is_ascii_digit (d ∷ ds)) e in
    (and_parts (is_ascii_digit d) (list_all is_ascii_digit ds) all.1).0

-- digits behind `-` begin like a number
begins_number-minus : (bs : List ℕ) → is_integer (45 ∷ bs) ≡ true → begins_number (45 ∷ bs) ≡ true
begins_number-minus [] e = absurd (true≢false (sym e))
begins_number-minus (d ∷ ds) e = or_left (is_ascii_digit d) _ (first_digit d ds e)

-- so do digits behind `+`
begins_number-plus : (bs : List ℕ) → is_integer (43 ∷ bs) ≡ true → begins_number (43 ∷ bs) ≡ true
begins_number-plus [] e = absurd (true≢false (sym e))
begins_number-plus (d ∷ ds) e = or_left (is_ascii_digit d) _ (first_digit d ds e)

-- and digits alone
begins_number-unsigned : (b : ℕ) (bs : List ℕ) → (b == 45) ≡ false → (b == 43) ≡ false → is_integer (b ∷ bs) ≡ true → begins_number (b ∷ bs) ≡ true
begins_number-unsigned b bs m p e =
    let digits = subst (λ (l : List ℕ). (nat_lt 0 (length l) && list_all is_ascii_digit l) ≡ true) (without_leading_sign-unsigned b bs m p) e in
    or_left (begins_unsigned (b ∷ bs)) _ (or_left (is_ascii_digit b) _ (first_digit b bs digits))

-- so what is an integer does
begins_number-integer : (bs : List ℕ) → is_integer bs ≡ true → begins_number bs ≡ true
begins_number-integer [] e = absurd (true≢false (sym e))
begins_number-integer (b ∷ bs) e = elim (cases_eq b 45) [
  | inl m ↦ subst (λ (x : ℕ). begins_number (x ∷ bs) ≡ true) (sym m) (begins_number-minus bs (subst (λ (x : ℕ). is_integer (x ∷ bs) ≡ true) m e))
  | inr m ↦ elim (cases_eq b 43) [
    | inl p ↦ subst (λ (x : ℕ). begins_number (x ∷ bs) ≡ true) (sym p) (begins_number-plus bs (subst (λ (x : ℕ). is_integer (x ∷ bs) ≡ true) p e))
    | inr p ↦ begins_number-unsigned b bs (ne_eqb b 45 m) (ne_eqb b 43 p) e
  ]
]

-- what is known of the spelling of a symbol
pub record IsSymbol (bs : List ℕ) : Type 0 where
  pub filled : (length bs == 0) ≡ false
  pub token : list_any ends_token (chars bs) ≡ false
  pub quotes : list_any is_symbol_quote bs ≡ false
  pub hash : begins_with_hash bs ≡ false
  pub number : begins_number bs ≡ false
  pub reserved : is_reserved bs ≡ false

pub IsSymbol-is_symbol_spelling : (bs : List ℕ) → is_symbol_spelling bs ≡ true → IsSymbol bs
IsSymbol-is_symbol_spelling bs e =
    let b = and_parts (is_token bs) (is_symbol_token bs) e in
    let t = and_parts (not (length bs == 0)) (not (list_any ends_token (chars bs))) b.0 in
    let q = and_parts (not (list_any is_symbol_quote bs)) _ b.1 in
    let h = and_parts (not (begins_with_hash bs)) _ q.1 in
    let n = and_parts (not (begins_number bs)) (not (is_reserved bs)) h.1 in
    record {
      filled = not-true _ t.0;
      token = not-true _ t.1;
      quotes = not-true _ q.0;
      hash = not-true _ h.0;
      number = not-true _ n.0;
      reserved = not-true _ n.1;
    }

-- each name is one
pub IsSymbol-is_name : (bs : List ℕ) → is_name bs ≡ true → IsSymbol bs
IsSymbol-is_name bs e = IsSymbol-is_symbol_spelling bs (and_parts (is_symbol_spelling bs) (not (bytes_eq bs (codes "hole"))) e).0

-- other than `hole`
not_hole : (bs : List ℕ) → is_name bs ≡ true → bytes_eq bs (codes "hole") ≡ false
not_hole bs e = not-true _ (and_parts (is_symbol_spelling bs) (not (bytes_eq bs (codes "hole"))) e).1

-- its token is that symbol
token_lexeme-symbol : (bs : List ℕ) (s : Span) → IsSymbol bs → token_lexeme bs s ≡ word (symbol bs) s
token_lexeme-symbol bs s n =
    let point : bytes_eq bs (codes ".") ≡ false = bytes_unlike is_reserved bs (codes ".") n.reserved refl in
    let integral : is_integer bs ≡ false = false_from_not (is_integer bs) (λ t. true≢false (sym (begins_number-integer bs t) ∙ n.number)) in
    if-false (list_any is_symbol_quote bs || bytes_eq bs (codes ".")) _ _ (or_false _ _ n.quotes point) ∙ if-false (begins_with_hash bs) _ _ n.hash
    ∙ if-false (is_integer bs) _ _ integral ∙ if-false (begins_number bs || is_reserved bs) _ _ (or_false _ _ n.number n.reserved)

-- what begins with `#` does so in UTF-8
pub begins_with_hash-encodes : (cs : List ℕ) → begins_with_hash (encode_utf8_all cs) ≡ false → begins_with_hash cs ≡ false
begins_with_hash-encodes [] h = refl
begins_with_hash-encodes (c ∷ cs) h = false_from_not (c == 35) (λ t.
    let e : encode_utf8_all (c ∷ cs) ≡ 35 ∷ encode_utf8_all cs =
    ap (λ (x : ℕ). encode_utf8_all (x ∷ cs)) (eqb-true c 35 t) ∙ ap (λ (l : List ℕ). l ++ encode_utf8_all cs) (encode_ascii 35 (omega arith)) in
    true≢false (subst (λ (l : List ℕ). begins_with_hash l ≡ false) e h))

-- so is its text
pub first_lexeme-symbol : (p : Place) (bs cs rest : List ℕ) → encode_utf8_all cs ≡ bs → list_any ends_token cs ≡ false → IsSymbol bs → is_delimited rest ≡ true
    → first_lexeme (at p (cs ++ rest)) ≡ Some (word (symbol bs) (span p (after_all p cs)), at (after_all p cs) rest)
first_lexeme-symbol p bs [] rest e t n d = absurd (true≢false (subst (λ (l : List ℕ). (length l == 0) ≡ false) (sym e) n.filled))
first_lexeme-symbol p bs (c ∷ cs) rest e t n d =
    let hash : (c == 35) ≡ false = begins_with_hash-encodes (c ∷ cs) (subst (λ (l : List ℕ). begins_with_hash l ≡ false) (sym e) n.hash) in
    first_lexeme-token p c cs rest (symbol bs) t d (and_left _ _ hash) (and_left _ _ hash)
    (λ s. ap (λ (l : List ℕ). token_lexeme l s) e ∙ token_lexeme-symbol bs s n)

-- ---- all of them

-- the hole
pub IsAtom-hole : (p : Place) (rest : List ℕ) → is_delimited rest ≡ true → IsAtom p hole rest
IsAtom-hole p rest d = record {
  atom = symbol (codes "hole");
  read = Word-token p 104 (111 ∷ 108 ∷ 101 ∷ []) rest (symbol (codes "hole")) refl d refl refl
      (λ s. ap (λ (l : List ℕ). token_lexeme l s) (encode_utf8_all-ascii (codes "hole") refl));
  stands = refl;
}

-- integers
pub IsAtom-integer : (p : Place) (n : ℤ) (rest : List ℕ) → IsSpelled (tree.integer n) → is_delimited rest ≡ true → IsAtom p (tree.integer n) rest
IsAtom-integer p n rest s d = record {
  atom = integer n;
  read = Word-integer p n (signed_decimal n) rest (IsInteger-signed_decimal n s) (fits-FitsSigned n s) d;
  stands = refl;
}

-- truth values
pub IsAtom-truth : (p : Place) (b : Bool) (rest : List ℕ) → is_delimited rest ≡ true → IsAtom p (tree.truth b) rest
IsAtom-truth p true rest d = record {
  atom = truth true;
  read = Word-token p 35 (116 ∷ []) rest (truth true) refl d refl refl (λ s. ap (λ (l : List ℕ). token_lexeme l s) (encode_utf8_all-ascii (codes "#t") refl));
  stands = refl;
}
IsAtom-truth p false rest d = record {
  atom = truth false;
  read = Word-token p 35 (102 ∷ []) rest (truth false) refl d refl refl (λ s. ap (λ (l : List ℕ). token_lexeme l s) (encode_utf8_all-ascii (codes "#f") refl));
  stands = refl;
}

-- strings
pub IsAtom-text : (p : Place) (t rest : List ℕ) → IsUtf8 t → IsAtom p (tree.text t) rest
IsAtom-text p t rest u = record {
  atom = text t;
  read = subst (λ (l : List ℕ). Word p (tree_chars (tree.text t) rest) (text l) rest) (encodes-chars t u) (Word-text p (chars t) rest);
  stands = refl;
}

-- symbols
pub IsAtom-symbol : (p : Place) (t rest : List ℕ) → IsSpelled (tree.symbol t) → is_delimited rest ≡ true → IsAtom p (tree.symbol t) rest
IsAtom-symbol p t rest s d =
    let n = IsSymbol-is_name t s.1 in
    record {
      atom = symbol t;
      read = record { end = after_all p (chars t); first = first_lexeme-symbol p t (chars t) rest (encodes-chars t s.0) n.token n d };
      stands = if-false (bytes_eq t (codes "hole")) _ _ (not_hole t s.1);
    }
