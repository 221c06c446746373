-- Each atom in the data of a text is readable; so each symbol is spelled as the symbols of terms are.
use Rattle.std.proofs.Common.{◌≡◌, ℕ, suc, ◌==◌, ◌&&◌, ◌||◌, List, [], ◌∷◌, length, Bool, true, false, not, cond, Option, Some, None, Result, Ok, Err, ◌++◌, refl, sym, ap, ap₂, ◌∙◌, subst, eqb-true, arith}
use Rattle.std.proofs.lemmas.Bool.Decides.{nat_tests}
use Rattle.std.proofs.Math.Utf8.{scalar, scalars, encode}
use Rattle.std.proofs.lemmas.Str.{chars-encodes, chars-nil, scalars-chars, encode_ascii, IsUtf8-past_char, chars_past_char}
use Rattle.std.specs.Char.{is_whitespace}
use Rattle.std.specs.List.{list_any}
use Rattle.std.specs.Prelude.{ℤ, codes, bytes_eq}
use Rattle.std.specs.Str.{byte, chars, encode_utf8_all, IsUtf8}
use Rattle.std.specs.Str.Parse.{signed_digits_value}
use Rattle.rdx_base.specs.declared.place.Place.{Place}
use Rattle.rdx_base.specs.declared.place.Span.{Span}
use Rattle.rdx_term.specs.Spelling.{ends_token, is_symbol_quote, begins_with_hash, begins_number, is_reserved, is_symbol_spelling}
use Rattle.rdx_sexp.specs.declared.fault.ReadKind.TheVariants.{BadString, BadToken, NumberRange, NumberForm, Unclosed}
use Rattle.rdx_sexp.specs.Blanks.{begins_block, ends_block, past_blanks, past_comment}
use Rattle.rdx_sexp.specs.Begin.{body}
use Rattle.rdx_sexp.specs.Grammar.{quote_name, One, one_leaf, one_list, one_quoted, one_skipped, Many, many_none, many_more, many_skipped}
use Rattle.rdx_sexp.specs.Lex.{Step, span, until, string_step, token_step, lexeme_from, lexeme_at, first_from, first_lexeme}
use Rattle.rdx_sexp.specs.Lexeme.{round, square, curly, QuoteMark, quote, quasiquote, unquote, unquote_splicing}
use Rattle.rdx_sexp.specs.Lexeme.{Lexeme, opening, closing, quote_mark, skip, word, bad}
use Rattle.rdx_sexp.specs.Reads.{Lexes, lexes_end, lexes_more}
use Rattle.rdx_sexp.specs.Refusal.{refusal}
use Rattle.rdx_sexp.specs.Sexp.{integer, truth, symbol, Sexp, sexps}
use Rattle.rdx_sexp.specs.Size.{AreSpelled}
use Rattle.rdx_sexp.specs.Strings.{escape_of, Body, with_char, with_escape, string_body}
use Rattle.rdx_sexp.specs.Text.{Text, at, after, next_is, skip_one}
use Rattle.rdx_sexp.specs.Token.{token_chars, past_token, is_integer, fits, integer_lexeme, keyword_name, keyword_lexeme, hash_lexeme, token_lexeme}
use Rattle.rdx_sexp.proofs.Behind.{IsEnd, whole, behind, IsBehind, remaining, past_blanks_is_end, first_lexeme_is_behind, body_is_end}
use Rattle.rdx_sexp.proofs.PrintedChars.{encode_utf8_all-ascii}
use Rattle.rdx_sexp.proofs.Readable.{IsKeyword, IsReadable, IsReadableSexp, AreReadable, AreSpelled-readable}

-- ---- the tests of a token

-- neither of two tests holds
neither : (a b : Bool) → (a || b) ≡ false → (a ≡ false) × (b ≡ false)
neither false b e = (refl, e)
neither true b e = cc

-- both tests hold
both : (a b : Bool) → (a && b) ≡ true → (a ≡ true) × (b ≡ true)
both true b e = (refl, e)
both false b e = cc

and_true : (a b : Bool) → a ≡ true → b ≡ true → (a && b) ≡ true
and_true a b e f = ap (λ x. x && b) e ∙ f

not_false : (a : Bool) → a ≡ false → not a ≡ true
not_false a e = ap not e

-- no character of a token ends it
none_ends : (b : Bool) (c : ℕ) (cs : List ℕ) → ends_token c ≡ b → list_any ends_token cs ≡ false → list_any ends_token (cond b [] (c ∷ cs)) ≡ false
none_ends true c cs e f = refl
none_ends false c cs e f = ap (λ x. x || list_any ends_token cs) e ∙ f

list_any-token_chars : (cs : List ℕ) → list_any ends_token (token_chars cs) ≡ false
list_any-token_chars [] = refl
list_any-token_chars (c ∷ cs) = none_ends (ends_token c) c (token_chars cs) refl (list_any-token_chars cs)

-- the characters of a token are characters of the text
scalars_of_either : (b : Bool) (cs : List ℕ) → scalars cs ≡ true → scalars (cond b [] cs) ≡ true
scalars_of_either true cs e = refl
scalars_of_either false cs e = e

scalars-token_chars : (cs : List ℕ) → scalars cs ≡ true → scalars (token_chars cs) ≡ true
scalars-token_chars [] e = refl
scalars-token_chars (c ∷ cs) e =
    let parts = both (scalar c) (scalars cs) e in
    scalars_of_either (ends_token c) (c ∷ token_chars cs) (and_true (scalar c) (scalars (token_chars cs)) parts.0 (scalars-token_chars cs parts.1))

-- a text with a character is not empty
not_empty : (bs cs : List ℕ) (c : ℕ) → chars bs ≡ c ∷ cs → (length bs == 0) ≡ false
not_empty [] cs c e = let f = chars-nil in cc
not_empty (b ∷ bs) cs c e = grind (arith, nat_tests)

-- what the tests say of a symbol is that it is spelled so
spelled : (bs cs : List ℕ) (c : ℕ) → chars bs ≡ c ∷ cs → list_any ends_token (c ∷ cs) ≡ false → list_any is_symbol_quote bs ≡ false → begins_with_hash bs ≡ false → begins_number bs ≡ false → is_reserved bs ≡ false → is_symbol_spelling bs ≡ true
spelled bs cs c e f g h k l =
    let some : (length bs == 0) ≡ false = not_empty bs cs c e in
    let none : list_any ends_token (chars bs) ≡ false = ap (list_any ends_token) e ∙ f in
    and_true _ _ (and_true _ _ (not_false _ some) (not_false _ none))
    (and_true _ _ (not_false _ g) (and_true _ _ (not_false _ h) (and_true _ _ (not_false _ k) (not_false _ l))))

-- ---- lexemes

-- so are the symbols of quote marks
quote_name_is_spelled : (m : QuoteMark) → is_symbol_spelling (quote_name m) ≡ true
unfolding chars
quote_name_is_spelled quote = refl
quote_name_is_spelled quasiquote = refl
quote_name_is_spelled unquote = refl
quote_name_is_spelled unquote_splicing = refl

-- whose texts are ASCII
IsUtf8-quote_name : (m : QuoteMark) → IsUtf8 (quote_name m)
IsUtf8-quote_name quote = (codes "quote", (refl, encode_utf8_all-ascii (codes "quote") refl))
IsUtf8-quote_name quasiquote = (codes "quasiquote", (refl, encode_utf8_all-ascii (codes "quasiquote") refl))
IsUtf8-quote_name unquote = (codes "unquote", (refl, encode_utf8_all-ascii (codes "unquote") refl))
IsUtf8-quote_name unquote_splicing = (codes "unquote-splicing", (refl, encode_utf8_all-ascii (codes "unquote-splicing") refl))

-- an atom that is a lexeme is readable
abbrev IsReadableLexeme : Lexeme → Type 0
IsReadableLexeme (opening b s) = Unit {0}
IsReadableLexeme (closing b s) = Unit {0}
IsReadableLexeme (quote_mark m s) = Unit {0}
IsReadableLexeme (skip s) = Unit {0}
IsReadableLexeme (word a s) = IsReadable a
IsReadableLexeme (bad r) = Unit {0}

record Spelled (l : Lexeme) : Type 0 where
  is : IsReadableLexeme l

-- a choice of two, by its test
chosen : (b : Bool) (x y : Lexeme) → Spelled x → (b ≡ false → Spelled y) → Spelled (cond b x y)
chosen true x y h k = h
chosen false x y h k = k refl

-- the same, where the test says something of the first
chosen_by : (b : Bool) (x y : Lexeme) → (b ≡ true → Spelled x) → Spelled y → Spelled (cond b x y)
chosen_by true x y h k = h refl
chosen_by false x y h k = k

-- a keyword of this name, where the test holds
chosen_name : (b : Bool) (t : List ℕ) (s : Span) → (b ≡ true → IsKeyword t) → Spelled (keyword_lexeme (cond b (Some t) None) s)
chosen_name true t s h = record { is = h refl }
chosen_name false t s h = record { is = tt }

chosen_step : (b : Bool) (x y : Step) → Spelled x.0 → (b ≡ false → Spelled y.0) → Spelled (cond b x y).0
chosen_step true x y h k = h
chosen_step false x y h k = k refl

-- a text with a byte is not empty
filled_cons : (d : ℕ) (ds : List ℕ) → (length (d ∷ ds) == 0) ≡ false
filled_cons d ds = grind (arith, nat_tests)

-- what stands behind `#:` in a token
keyword_of_token : (d : ℕ) (ds : List ℕ) → IsUtf8 (35 ∷ 58 ∷ d ∷ ds) → list_any ends_token (chars (35 ∷ 58 ∷ d ∷ ds)) ≡ false → list_any is_symbol_quote (35 ∷ 58 ∷ d ∷ ds) ≡ false → IsKeyword (d ∷ ds)
keyword_of_token d ds u f g =
    let hash : (35 ∷ 58 ∷ d ∷ ds) ≡ encode 35 ++ (58 ∷ d ∷ ds) = sym (ap (λ (l : List ℕ). l ++ (58 ∷ d ∷ ds)) (encode_ascii 35 (omega arith))) in
    let colon : (58 ∷ d ∷ ds) ≡ encode 58 ++ (d ∷ ds) = sym (ap (λ (l : List ℕ). l ++ (d ∷ ds)) (encode_ascii 58 (omega arith))) in
    let v : IsUtf8 (58 ∷ d ∷ ds) = IsUtf8-past_char (35 ∷ 58 ∷ d ∷ ds) (58 ∷ d ∷ ds) 35 u hash in
    let all : chars (35 ∷ 58 ∷ d ∷ ds) ≡ 35 ∷ 58 ∷ chars (d ∷ ds) =
    chars_past_char (35 ∷ 58 ∷ d ∷ ds) (58 ∷ d ∷ ds) 35 u hash ∙ ap (λ (l : List ℕ). 35 ∷ l) (chars_past_char (58 ∷ d ∷ ds) (d ∷ ds) 58 v colon) in
    let none : list_any ends_token (35 ∷ 58 ∷ chars (d ∷ ds)) ≡ false = subst (λ (l : List ℕ). list_any ends_token l ≡ false) all f in
    record {
      utf8 = IsUtf8-past_char (58 ∷ d ∷ ds) (d ∷ ds) 58 v colon;
      filled = filled_cons d ds;
      token = none;
      quotes = g;
    }

keyword_is_spelled : (bs : List ℕ) (s : Span) → IsUtf8 bs → list_any ends_token (chars bs) ≡ false → list_any is_symbol_quote bs ≡ false → Spelled (keyword_lexeme (keyword_name bs) s)
keyword_is_spelled [] s u f g = record { is = tt }
keyword_is_spelled (h ∷ []) s u f g = record { is = tt }
keyword_is_spelled (h ∷ c ∷ []) s u f g = record { is = tt }
keyword_is_spelled (h ∷ c ∷ d ∷ ds) s u f g =
    chosen_name (h == byte "#" && c == byte ":") (d ∷ ds) s (λ e.
    let p = both (h == byte "#") (c == byte ":") e in
    let same : (h ∷ c ∷ d ∷ ds) ≡ 35 ∷ 58 ∷ d ∷ ds = ap₂ (λ (x y : ℕ). x ∷ y ∷ d ∷ ds) (eqb-true h 35 p.0) (eqb-true c 58 p.1) in
    keyword_of_token d ds (subst IsUtf8 same u) (subst (λ (l : List ℕ). list_any ends_token (chars l) ≡ false) same f)
    (subst (λ (l : List ℕ). list_any is_symbol_quote l ≡ false) same g))

hash_is_spelled : (bs : List ℕ) (s : Span) → IsUtf8 bs → list_any ends_token (chars bs) ≡ false → list_any is_symbol_quote bs ≡ false → Spelled (hash_lexeme bs s)
hash_is_spelled bs s u f g =
    chosen (bytes_eq bs (codes "#t") || bytes_eq bs (codes "#true")) (word (truth true) s) _ (record { is = tt }) (λ e.
    chosen (bytes_eq bs (codes "#f") || bytes_eq bs (codes "#false")) (word (truth false) s) (keyword_lexeme (keyword_name bs) s) (record { is = tt }) (λ h.
    keyword_is_spelled bs s u f g))

integer_is_spelled : (n : ℤ) (s : Span) → Spelled (integer_lexeme n s)
integer_is_spelled n s = chosen_by (fits n) (word (integer n) s) (bad (refusal NumberRange s.start)) (λ e. record { is = e }) (record { is = tt })

-- a token with these characters is, if it has one and none ends it
token_is_spelled : (bs cs : List ℕ) (c : ℕ) (s : Span) → IsUtf8 bs → chars bs ≡ c ∷ cs → list_any ends_token (c ∷ cs) ≡ false → Spelled (token_lexeme bs s)
token_is_spelled bs cs c s u e f =
    chosen (list_any is_symbol_quote bs || bytes_eq bs (codes ".")) (bad (refusal BadToken s.start)) _ (record { is = tt }) (λ g.
    chosen (begins_with_hash bs) (hash_lexeme bs s) _ (hash_is_spelled bs s u (ap (list_any ends_token) e ∙ f) (neither (list_any is_symbol_quote bs) (bytes_eq bs (codes ".")) g).0) (λ h.
    chosen (is_integer bs) (integer_lexeme (signed_digits_value 10 bs) s) _ (integer_is_spelled (signed_digits_value 10 bs) s) (λ i.
    chosen (begins_number bs || is_reserved bs) (bad (refusal NumberForm s.start)) (word (symbol bs) s) (record { is = tt }) (λ k.
    let no = neither (begins_number bs) (is_reserved bs) k in
    record { is = (u, spelled bs cs c e f (neither (list_any is_symbol_quote bs) (bytes_eq bs (codes ".")) g).0 h no.0 no.1) }))))

-- the characters of a string are characters
abbrev IsGoodBody : Body → Type 0
IsGoodBody (Ok x) = scalars x.0 ≡ true
IsGoodBody (Err r) = Unit {0}

record GoodBody (b : Body) : Type 0 where
  is : IsGoodBody b

chosen_body : (b : Bool) (x y : Body) → GoodBody x → GoodBody y → GoodBody (cond b x y)
chosen_body true x y h k = h
chosen_body false x y h k = k

good-with_char : (c : ℕ) (b : Body) → scalar c ≡ true → GoodBody b → GoodBody (with_char c b)
good-with_char c (Ok x) e g = record { is = and_true (scalar c) (scalars x.0) e g.is }
good-with_char c (Err r) e g = record { is = tt }

abbrev IsGoodEscape : Option ℕ → Type 0
IsGoodEscape (Some c) = scalar c ≡ true
IsGoodEscape None = Unit {0}

record GoodEscape (o : Option ℕ) : Type 0 where
  is : IsGoodEscape o

chosen_escape : (b : Bool) (x y : Option ℕ) → GoodEscape x → GoodEscape y → GoodEscape (cond b x y)
chosen_escape true x y h k = h
chosen_escape false x y h k = k

good-escape_of : (c : ℕ) → GoodEscape (escape_of c)
good-escape_of c =
    chosen_escape (c == byte "\"") (Some (byte "\"")) _ (record { is = refl })
    (chosen_escape (c == byte "\\") (Some (byte "\\")) _ (record { is = refl })
    (chosen_escape (c == byte "n") (Some (byte "\n")) _ (record { is = refl })
    (chosen_escape (c == byte "t") (Some (byte "\t")) _ (record { is = refl })
    (chosen_escape (c == byte "r") (Some (byte "\r")) None (record { is = refl }) (record { is = tt })))))

good-with_escape : (o : Option ℕ) (p : Place) (b : Body) → GoodEscape o → GoodBody b → GoodBody (with_escape o p b)
good-with_escape (Some c) p b e g = good-with_char c b e.is g
good-with_escape None p b e g = record { is = tt }

good-string_body : (o p : Place) (cs : List ℕ) → scalars cs ≡ true → GoodBody (string_body o p cs)
good-string_body o p [] u = record { is = tt }
good-string_body o p (c ∷ []) u = chosen_body (c == byte "\"") (Ok ([], at (after p c) [])) (Err (refusal BadString o)) (record { is = refl }) (record { is = tt })
good-string_body o p (c ∷ d ∷ cs) u =
    let one = both (scalar c) (scalars (d ∷ cs)) u in
    let two = both (scalar d) (scalars cs) one.1 in
    chosen_body (c == byte "\"") (Ok ([], at (after p c) (d ∷ cs))) _ (record { is = refl })
    (chosen_body (c == byte "\\") _ _ (good-with_escape (escape_of d) p (string_body o (after (after p c) d) cs) (good-escape_of d) (good-string_body o (after (after p c) d) cs two.1))
    (good-with_char c (string_body o (after p c) (d ∷ cs)) one.0 (good-string_body o (after p c) (d ∷ cs) one.1)))

string_is_spelled : (p : Place) (b : Body) (t : Text) → GoodBody b → Spelled (string_step p b t).0
string_is_spelled p (Ok x) t g = record { is = (x.0, (g.is, refl)) }
string_is_spelled p (Err r) t g = record { is = tt }

-- a character that is none of those with which other lexemes begin ends no token
ends_no_token : (c : ℕ) → is_whitespace c ≡ false → (c == byte ";") ≡ false → (c == byte "(") ≡ false → (c == byte ")") ≡ false
    → (c == byte "[") ≡ false → (c == byte "]") ≡ false → (c == byte "{") ≡ false → (c == byte "}") ≡ false
    → (c == byte "'") ≡ false → (c == byte "`") ≡ false → (c == byte ",") ≡ false → (c == byte "\"") ≡ false → ends_token c ≡ false
ends_no_token c a b d e f g h i j k l m = simp (a, b, d, e, f, g, h, i, j, k, l, m)

-- the token that begins with such a character
token_step_is_spelled : (p : Place) (c : ℕ) (r : Text) → scalars (c ∷ r.chars) ≡ true → ends_token c ≡ false → Spelled (token_step p c r).0
token_step_is_spelled p c r u e =
    let parts = both (scalar c) (scalars r.chars) u in
    let all : scalars (c ∷ token_chars r.chars) ≡ true = and_true (scalar c) (scalars (token_chars r.chars)) parts.0 (scalars-token_chars r.chars parts.1) in
    token_is_spelled (encode_utf8_all (c ∷ token_chars r.chars)) (token_chars r.chars) c (span p (past_token r.place r.chars).place)
    (c ∷ token_chars r.chars, (all, refl)) (chars-encodes (c ∷ token_chars r.chars) all) (ap (λ x. x || list_any ends_token (token_chars r.chars)) e ∙ list_any-token_chars r.chars)

lexeme_from_is_spelled : (p : Place) (c : ℕ) (r : Text) → scalars (c ∷ r.chars) ≡ true → is_whitespace c ≡ false → (c == byte ";") ≡ false → Spelled (lexeme_from p c r).0
lexeme_from_is_spelled p c r u v w =
    let one : Text = skip_one r.place r.chars in
    chosen_step (c == byte "(") (until (opening round) p r) _ (record { is = tt }) (λ d.
    chosen_step (c == byte ")") (until (closing round) p r) _ (record { is = tt }) (λ e.
    chosen_step (c == byte "[") (until (opening square) p r) _ (record { is = tt }) (λ f.
    chosen_step (c == byte "]") (until (closing square) p r) _ (record { is = tt }) (λ g.
    chosen_step (c == byte "{") (until (opening curly) p r) _ (record { is = tt }) (λ h.
    chosen_step (c == byte "}") (until (closing curly) p r) _ (record { is = tt }) (λ i.
    chosen_step (c == byte "'") (until (quote_mark quote) p r) _ (record { is = tt }) (λ j.
    chosen_step (c == byte "`") (until (quote_mark quasiquote) p r) _ (record { is = tt }) (λ k.
    chosen_step (c == byte ",") _ _ (chosen_step (next_is (byte "@") r.chars) (until (quote_mark unquote_splicing) p one) (until (quote_mark unquote) p r) (record { is = tt }) (λ x. record { is = tt })) (λ l.
    chosen_step (c == byte "\"") _ _ (string_is_spelled p (string_body p r.place r.chars) r (good-string_body p r.place r.chars (both (scalar c) (scalars r.chars) u).1)) (λ m.
    chosen_step (c == byte "#" && next_is (byte ";") r.chars) (until skip p one) (token_step p c r) (record { is = tt }) (λ x.
    token_step_is_spelled p c r u (ends_no_token c v w d e f g h i j k l m))))))))))))

-- ---- the first lexeme of a text

-- a text of characters whose first, if there is one, is neither white space nor `;`
abbrev IsLead : List ℕ → Type 0
IsLead [] = Unit {0}
IsLead (c ∷ cs) = (is_whitespace c ≡ false) × ((c == byte ";") ≡ false)

abbrev LeadsTo : Result Text Place → Type 0
LeadsTo (Ok t) = IsLead t.chars
LeadsTo (Err o) = Unit {0}

record Leads (r : Result Text Place) : Type 0 where
  is : LeadsTo r

chosen_lead : (b : Bool) (x y : Result Text Place) → Leads x → (b ≡ false → Leads y) → Leads (cond b x y)
chosen_lead true x y h k = h
chosen_lead false x y h k = k refl

-- white space and comments end before such a text
mutual
  past_blanks_leads : (os : List Place) (p : Place) (cs : List ℕ) → Leads (past_blanks os p cs)
  past_blanks_leads [] p [] = record { is = tt }
  past_blanks_leads [] p (c ∷ []) =
      chosen_lead (c == byte ";" || is_whitespace c) (Ok (at (after p c) [])) (Ok (at p (c ∷ []))) (record { is = tt }) (λ e.
      let no = neither (c == byte ";") (is_whitespace c) e in record { is = (no.1, no.0) })
  past_blanks_leads [] p (c ∷ d ∷ cs) =
      chosen_lead (c == byte ";") _ _ (past_comment_leads (after p c) (d ∷ cs)) (λ e.
      chosen_lead (begins_block c d) _ _ (past_blanks_leads (p ∷ []) (after (after p c) d) cs) (λ f.
      chosen_lead (is_whitespace c) _ (Ok (at p (c ∷ d ∷ cs))) (past_blanks_leads [] (after p c) (d ∷ cs)) (λ g. record { is = (g, e) })))
  past_blanks_leads (o ∷ os) p [] = record { is = tt }
  past_blanks_leads (o ∷ os) p (c ∷ []) = record { is = tt }
  past_blanks_leads (o ∷ os) p (c ∷ d ∷ cs) =
      chosen_lead (begins_block c d) _ _ (past_blanks_leads (p ∷ o ∷ os) (after (after p c) d) cs) (λ e.
      chosen_lead (ends_block c d) _ _ (past_blanks_leads os (after (after p c) d) cs) (λ f.
      past_blanks_leads (o ∷ os) (after p c) (d ∷ cs)))

  past_comment_leads : (p : Place) (cs : List ℕ) → Leads (past_comment p cs)
  past_comment_leads p [] = record { is = tt }
  past_comment_leads p (c ∷ cs) =
      chosen_lead (c == byte "\n") _ _ (past_blanks_leads [] (after p c) cs) (λ e. past_comment_leads (after p c) cs)

-- an end of characters is characters
scalars-end : (es cs : List ℕ) → IsEnd es cs → scalars cs ≡ true → scalars es ≡ true
scalars-end es cs whole u = u
scalars-end es (c ∷ cs) (behind e) u = scalars-end es cs e (both (scalar c) (scalars cs) u).1

scalars-behind : (es cs : List ℕ) → IsBehind es cs → scalars cs ≡ true → scalars es ≡ true
scalars-behind es [] h u = absurd h
scalars-behind es (c ∷ cs) e u = scalars-end es cs e (both (scalar c) (scalars cs) u).1

lexeme_at_is_spelled : (p : Place) (cs : List ℕ) (s : Step) → scalars cs ≡ true → IsLead cs → lexeme_at p cs ≡ Some s → Spelled s.0
lexeme_at_is_spelled p [] s u h e = cc
lexeme_at_is_spelled p (c ∷ cs) s u h e =
    let same : lexeme_from p c (at (after p c) cs) ≡ s = cc in
    subst (λ (x : Step). Spelled x.0) same (lexeme_from_is_spelled p c (at (after p c) cs) u h.0 h.1)

bad_is_spelled : (o : Place) (s : Step) → (let a : Option Step = Some (bad (refusal Unclosed o), at o []) in a) ≡ Some s → Spelled s.0
bad_is_spelled o s e =
    let same : (let a : Step = (bad (refusal Unclosed o), at o []) in a) ≡ s = cc in
    subst (λ (x : Step). Spelled x.0) same (record { is = tt })

first_from_is_spelled : (r : Result Text Place) (s : Step) → scalars (remaining r) ≡ true → Leads r → first_from r ≡ Some s → Spelled s.0
first_from_is_spelled (Ok t) s u h e = lexeme_at_is_spelled t.place t.chars s u h.is e
first_from_is_spelled (Err o) s u h e = bad_is_spelled o s e

first_lexeme_is_spelled : (t : Text) (s : Step) → scalars t.chars ≡ true → first_lexeme t ≡ Some s → Spelled s.0
unfolding first_lexeme
first_lexeme_is_spelled t s u e =
    let found = past_blanks [] t.place t.chars in
    first_from_is_spelled found s (scalars-end (remaining found) t.chars (past_blanks_is_end [] t.place t.chars) u) (past_blanks_leads [] t.place t.chars) e

-- ---- data

abbrev AreReadableLexemes : List Lexeme → Type 0
AreReadableLexemes [] = Unit {0}
AreReadableLexemes (l ∷ ls) = IsReadableLexeme l × AreReadableLexemes ls

-- all lexemes of a text are
lexemes_are_spelled : (ls : List Lexeme) (t : Text) → scalars t.chars ≡ true → Lexes t ls → AreReadableLexemes ls
lexemes_are_spelled [] t u (lexes_end e) = tt
lexemes_are_spelled (l ∷ ls) t u (lexes_more {rest} e more) =
    ((first_lexeme_is_spelled t (l, rest) u e).is, lexemes_are_spelled ls rest (scalars-behind rest.chars t.chars (first_lexeme_is_behind t (l, rest) e) u) more)

-- so are the data that they spell, and the lexemes that follow
mutual
  one_is_spelled : (n : ℕ) (ls rest : List Lexeme) (d : Sexp) → AreReadableLexemes ls → One n ls d rest → IsReadableSexp d × AreReadableLexemes rest
  one_is_spelled n ls rest d a one_leaf = a
  one_is_spelled n ls rest d a (one_list {ds} {ls = inner} lt many is) =
      let f = many_are_spelled (suc n) inner _ ds a.1 many in
      (subst IsReadableSexp is f.0, f.1.1)
  one_is_spelled n ls rest d a (one_quoted {m} {s} {e} {ls = inner} lt one is) =
      let f = one_is_spelled (suc n) inner rest e a.1 one in
      (subst IsReadableSexp is ((IsUtf8-quote_name m, quote_name_is_spelled m), (f.0, tt)), f.1)
  one_is_spelled n ls rest d a (one_skipped {d = x} {ls = inner} {mid} lt one then) =
      one_is_spelled n mid rest d (one_is_spelled (suc n) inner mid x a.1 one).1 then

  many_are_spelled : (n : ℕ) (ls rest : List Lexeme) (ds : List Sexp) → AreReadableLexemes ls → Many n ls ds rest → AreReadable (sexps ds) × AreReadableLexemes rest
  many_are_spelled n ls rest ds a many_none = (tt, a)
  many_are_spelled n ls rest ds a (many_more {d} {ds = es} {mid} one many) =
      let f = one_is_spelled n ls mid d a one in
      let g = many_are_spelled n mid rest es f.1 many in
      ((f.0, g.0), g.1)
  many_are_spelled n ls rest ds a (many_skipped {d} {ls = inner} {mid} lt one many) =
      many_are_spelled n mid rest ds (one_is_spelled (suc n) inner mid d a.1 one).1 many

-- the data of a text are readable
pub data_are_readable : (bytes : List ℕ) (ls : List Lexeme) (ds : List Sexp) → IsUtf8 bytes → Lexes (body (chars bytes)) ls → Many 0 ls ds [] → AreReadable (sexps ds)
data_are_readable bytes ls ds utf8 lexed many =
    let u = scalars-end (body (chars bytes)).chars (chars bytes) (body_is_end (chars bytes)) (scalars-chars bytes utf8) in
    (many_are_spelled 0 ls [] ds (lexemes_are_spelled ls (body (chars bytes)) u lexed) many).0

-- and have symbols spelled so
pub data_are_spelled : (bytes : List ℕ) (ls : List Lexeme) (ds : List Sexp) → IsUtf8 bytes → Lexes (body (chars bytes)) ls → Many 0 ls ds [] → AreSpelled (sexps ds)
data_are_spelled bytes ls ds utf8 lexed many = AreSpelled-readable (sexps ds) (data_are_readable bytes ls ds utf8 lexed many)
