-- The first lexeme of a text that begins with a token, a string or a bracket, or with a space.
use Rattle.std.proofs.Common.{◌≡◌, ◌==◌, ◌&&◌, ◌||◌, ℕ, Bool, true, false, List, [], ◌∷◌, ◌++◌, encode_utf8_all, Some, None, Ok, inl, inr, refl, sym, ap, ap₂, ◌∙◌, subst, append_assoc, ne_eqb}
use Rattle.std.proofs.lemmas.Bool.{cases_eq}
use Rattle.std.specs.Char.{is_whitespace}
use Rattle.std.specs.Str.{byte}
use Rattle.std.specs.List.{list_any}
use Rattle.rdx_base.specs.declared.place.Place.{Place}
use Rattle.rdx_base.specs.declared.place.Span.{Span}
use Rattle.rdx_term.specs.Spelling.{ends_token, is_bracket, is_quotation}
use Rattle.rdx_term.specs.Text.{escaped, all_escaped}
use Rattle.rdx_sexp.specs.Blanks.{past_blanks}
use Rattle.rdx_sexp.specs.Lexeme.{round, Lexeme, opening, closing, word}
use Rattle.rdx_sexp.specs.Reads.{Lexes, lexes_end, lexes_more}
use Rattle.rdx_sexp.specs.Sexp.{Atom, text}
use Rattle.rdx_sexp.specs.Strings.{Body, string_body, with_char}
use Rattle.rdx_sexp.specs.Text.{Text, at, after, after_all, next_is}
use Rattle.rdx_sexp.specs.Token.{token_chars, past_token, token_lexeme}
use Rattle.rdx_sexp.specs.Lex.{Step, span, string_step, token_step, lexeme_from, first_from, first_lexeme}
use Rattle.rdx_sexp.proofs.Steps.{outside_step, body_step}
use Rattle.rdx_sexp.proofs.PrintedTests.{if-false, or_parts, unlike}

-- the first lexeme of these characters, from p on, is the atom a, before `rest`
pub record Word (p : Place) (cs : List ℕ) (a : Atom) (rest : List ℕ) : Type 0 where
  pub end : Place
  pub first : first_lexeme (at p cs) ≡ Some (word a (span p end), at end rest)

-- ---- tokens

-- a token ends before these characters
abbrev pub is_delimited : List ℕ → Bool
is_delimited [] = true
is_delimited (c ∷ cs) = ends_token c

-- a token goes over its characters
token_chars-token : (cs rest : List ℕ) → list_any ends_token cs ≡ false → is_delimited rest ≡ true → token_chars (cs ++ rest) ≡ cs
token_chars-token [] [] h d = refl
token_chars-token [] (r ∷ rest) h d = rw d refl
token_chars-token (c ∷ cs) rest h d =
    let p = or_parts (ends_token c) (list_any ends_token cs) h in
    if-false (ends_token c) _ _ p.0 ∙ ap (λ (l : List ℕ). c ∷ l) (token_chars-token cs rest p.1 d)

-- and ends behind them
past_token-token : (p : Place) (cs rest : List ℕ) → list_any ends_token cs ≡ false → is_delimited rest ≡ true → past_token p (cs ++ rest) ≡ at (after_all p cs) rest
past_token-token p [] [] h d = refl
past_token-token p [] (r ∷ rest) h d = rw d refl
past_token-token p (c ∷ cs) rest h d =
    let q = or_parts (ends_token c) (list_any ends_token cs) h in
    if-false (ends_token c) _ _ q.0 ∙ past_token-token (after p c) cs rest q.1 d

-- no white space and no comment begins with a character of a token, other than `#|`
past_blanks-token : (p : Place) (c : ℕ) (cs : List ℕ) → ends_token c ≡ false → (c == byte "#" && next_is (byte "|") cs) ≡ false → past_blanks [] p (c ∷ cs) ≡ Ok (at p (c ∷ cs))
past_blanks-token p c cs h b =
    outside_step p c cs ∙ if-false (c == byte ";") _ _ (unlike ends_token c (byte ";") h refl) ∙ if-false (c == byte "#" && next_is (byte "|") cs) _ _ b
    ∙ if-false (is_whitespace c) _ _ (or_parts (is_whitespace c) (is_bracket c) (or_parts (is_whitespace c || is_bracket c) (is_quotation c) h).0).0

-- a token begins with each other than `#;`
lexeme_from-token : (p : Place) (c : ℕ) (r : Text) → ends_token c ≡ false → (c == byte "#" && next_is (byte ";") r.chars) ≡ false → lexeme_from p c r ≡ token_step p c r
lexeme_from-token p c r h b =
    if-false (c == byte "(") _ _ (unlike ends_token c (byte "(") h refl) ∙ if-false (c == byte ")") _ _ (unlike ends_token c (byte ")") h refl)
    ∙ if-false (c == byte "[") _ _ (unlike ends_token c (byte "[") h refl) ∙ if-false (c == byte "]") _ _ (unlike ends_token c (byte "]") h refl)
    ∙ if-false (c == byte "{") _ _ (unlike ends_token c (byte "{") h refl) ∙ if-false (c == byte "}") _ _ (unlike ends_token c (byte "}") h refl)
    ∙ if-false (c == byte "'") _ _ (unlike ends_token c (byte "'") h refl) ∙ if-false (c == byte "`") _ _ (unlike ends_token c (byte "`") h refl)
    ∙ if-false (c == byte ",") _ _ (unlike ends_token c (byte ",") h refl) ∙ if-false (c == byte "\"") _ _ (unlike ends_token c (byte "\"") h refl)
    ∙ if-false (c == byte "#" && next_is (byte ";") r.chars) _ _ b

-- a token that is an atom
pub first_lexeme-token : (p : Place) (c : ℕ) (cs rest : List ℕ) (a : Atom) → list_any ends_token (c ∷ cs) ≡ false → is_delimited rest ≡ true
    → (c == byte "#" && next_is (byte "|") (cs ++ rest)) ≡ false → (c == byte "#" && next_is (byte ";") (cs ++ rest)) ≡ false
    → ((s : Span) → token_lexeme (encode_utf8_all (c ∷ cs)) s ≡ word a s)
    → first_lexeme (at p (c ∷ (cs ++ rest))) ≡ Some (word a (span p (after_all p (c ∷ cs))), at (after_all p (c ∷ cs)) rest)
unfolding first_lexeme
first_lexeme-token p c cs rest a h d block skipping is =
    let q = or_parts (ends_token c) (list_any ends_token cs) h in
    let from = after p c in
    let until = after_all from cs in
    let blanks : first_from (past_blanks [] p (c ∷ (cs ++ rest))) ≡ Some (lexeme_from p c (at from (cs ++ rest))) =
    ap first_from (past_blanks-token p c (cs ++ rest) q.0 block) in
    let step : lexeme_from p c (at from (cs ++ rest)) ≡ token_step p c (at from (cs ++ rest)) = lexeme_from-token p c (at from (cs ++ rest)) q.0 skipping in
    let reach : token_step p c (at from (cs ++ rest)) ≡ (token_lexeme (encode_utf8_all (c ∷ cs)) (span p until), at until rest) =
    ap₂ (λ (l : List ℕ) (t : Text). (token_lexeme (encode_utf8_all (c ∷ l)) (span p t.place), t)) (token_chars-token cs rest q.1 d) (past_token-token from cs rest q.1 d) in
    let atom : (token_lexeme (encode_utf8_all (c ∷ cs)) (span p until), at until rest) ≡ (word a (span p until), at until rest) =
    ap (λ (l : Lexeme). (l, at until rest)) (is (span p until)) in
    blanks ∙ ap (λ (s : Step). Some s) (step ∙ reach ∙ atom)

pub Word-token : (p : Place) (c : ℕ) (cs rest : List ℕ) (a : Atom) → list_any ends_token (c ∷ cs) ≡ false → is_delimited rest ≡ true
    → (c == byte "#" && next_is (byte "|") (cs ++ rest)) ≡ false → (c == byte "#" && next_is (byte ";") (cs ++ rest)) ≡ false
    → ((s : Span) → token_lexeme (encode_utf8_all (c ∷ cs)) s ≡ word a s) → Word p (c ∷ (cs ++ rest)) a rest
Word-token p c cs rest a h d block skipping is = record { end = after_all p (c ∷ cs); first = first_lexeme-token p c cs rest a h d block skipping is }

-- ---- strings

-- these characters in a string, from p on, stand for c, whatever follows
record Char (p : Place) (c : ℕ) (cs : List ℕ) : Type 0 where
  next : Place
  same : (o : Place) (more : List ℕ) → string_body o p (cs ++ more) ≡ with_char c (string_body o next more)

-- an escape, or a character that has none
Char-escaped : (p : Place) (c : ℕ) → Char p c (escaped c)
Char-escaped p c = elim (cases_eq c (byte "\"")) [
  | inl e ↦ subst (λ (x : ℕ). Char p x (escaped x)) (sym e) (record { next = after (after p 92) 34; same = λ o more. refl })
  | inr quotation ↦ elim (cases_eq c (byte "\\")) [
    | inl e ↦ subst (λ (x : ℕ). Char p x (escaped x)) (sym e) (record { next = after (after p 92) 92; same = λ o more. refl })
    | inr backslash ↦ elim (cases_eq c (byte "\n")) [
      | inl e ↦ subst (λ (x : ℕ). Char p x (escaped x)) (sym e) (record { next = after (after p 92) 110; same = λ o more. refl })
      | inr lf ↦ elim (cases_eq c (byte "\t")) [
        | inl e ↦ subst (λ (x : ℕ). Char p x (escaped x)) (sym e) (record { next = after (after p 92) 116; same = λ o more. refl })
        | inr tab ↦ elim (cases_eq c (byte "\r")) [
          | inl e ↦ subst (λ (x : ℕ). Char p x (escaped x)) (sym e) (record { next = after (after p 92) 114; same = λ o more. refl })
          | inr cr ↦
              let plain : escaped c ≡ c ∷ [] =
              if-false (c == 34) _ _ (ne_eqb c 34 quotation) ∙ if-false (c == 92) _ _ (ne_eqb c 92 backslash) ∙ if-false (c == 10) _ _ (ne_eqb c 10 lf)
              ∙ if-false (c == 9) _ _ (ne_eqb c 9 tab) ∙ if-false (c == 13) _ _ (ne_eqb c 13 cr) in
              subst (λ (l : List ℕ). Char p c l) (sym plain) (record {
                next = after p c;
                same = λ o more. body_step o p c more ∙ if-false (c == 34) _ _ (ne_eqb c 34 quotation) ∙ if-false (c == 92) _ _ (ne_eqb c 92 backslash);
              })
        ]
      ]
    ]
  ]
]

-- a string's characters, and the text behind its quotation mark
record Closed (p : Place) (cs rest : List ℕ) : Type 0 where
  end : Place
  same : (o : Place) → string_body o p (all_escaped cs ++ (34 ∷ rest)) ≡ Ok (cs, at end rest)

-- each escaped text is read as itself
Closed-all_escaped : (p : Place) (cs rest : List ℕ) → Closed p cs rest
Closed-all_escaped p [] rest = record { end = after p 34; same = λ o. body_step o p 34 rest }
Closed-all_escaped p (c ∷ cs) rest =
    let one = Char-escaped p c in
    let others = Closed-all_escaped one.next cs rest in
    record {
      end = others.end;
      same = λ o. ap (λ (l : List ℕ). string_body o p l) (append_assoc (escaped c) (all_escaped cs) (34 ∷ rest))
          ∙ one.same o (all_escaped cs ++ (34 ∷ rest)) ∙ ap (with_char c) (others.same o);
    }

-- a string
pub Word-text : (p : Place) (cs rest : List ℕ) → Word p (34 ∷ (all_escaped cs ++ (34 ∷ rest))) (text (encode_utf8_all cs)) rest
unfolding first_lexeme
Word-text p cs rest =
    let r = Closed-all_escaped (after p 34) cs rest in
    record {
      end = r.end;
      first = ap first_from (outside_step p 34 (all_escaped cs ++ (34 ∷ rest)))
          ∙ ap (λ (b : Body). Some (string_step p b (at (after p 34) (all_escaped cs ++ (34 ∷ rest))))) (r.same p);
    }

-- ---- brackets, the end and spaces

-- a round bracket opens
pub first_lexeme-open : (p : Place) (cs : List ℕ) → first_lexeme (at p (40 ∷ cs)) ≡ Some (opening round (span p (after p 40)), at (after p 40) cs)
unfolding first_lexeme
first_lexeme-open p cs = ap first_from (outside_step p 40 cs)

-- or closes
pub first_lexeme-close : (p : Place) (cs : List ℕ) → first_lexeme (at p (41 ∷ cs)) ≡ Some (closing round (span p (after p 41)), at (after p 41) cs)
unfolding first_lexeme
first_lexeme-close p cs = ap first_from (outside_step p 41 cs)

-- at the end none is left
pub first_lexeme-end : (p : Place) → first_lexeme (at p []) ≡ None
unfolding first_lexeme
first_lexeme-end p = refl

-- a space is passed over
first_lexeme-space : (p : Place) (cs : List ℕ) → first_lexeme (at p (32 ∷ cs)) ≡ first_lexeme (at (after p 32) cs)
unfolding first_lexeme
first_lexeme-space p cs = ap first_from (outside_step p 32 cs)

-- so is a line end
first_lexeme-line_end : (p : Place) (cs : List ℕ) → first_lexeme (at p (10 ∷ cs)) ≡ first_lexeme (at (after p 10) cs)
unfolding first_lexeme
first_lexeme-line_end p cs = ap first_from (outside_step p 10 cs)

-- texts with the same first lexeme have the same lexemes
Lexes-same : (t u : Text) (ls : List Lexeme) → first_lexeme t ≡ first_lexeme u → Lexes u ls → Lexes t ls
Lexes-same t u [] e (lexes_end d) = lexes_end (e ∙ d)
Lexes-same t u (l ∷ ls) e (lexes_more d more) = lexes_more (e ∙ d) more

-- so has a text behind a space
pub Lexes-space : (p : Place) (cs : List ℕ) (ls : List Lexeme) → Lexes (at (after p 32) cs) ls → Lexes (at p (32 ∷ cs)) ls
Lexes-space p cs ls l = Lexes-same (at p (32 ∷ cs)) (at (after p 32) cs) ls (first_lexeme-space p cs) l

-- and one behind a line end
pub Lexes-line_end : (p : Place) (cs : List ℕ) (ls : List Lexeme) → Lexes (at (after p 10) cs) ls → Lexes (at p (10 ∷ cs)) ls
Lexes-line_end p cs ls l = Lexes-same (at p (10 ∷ cs)) (at (after p 10) cs) ls (first_lexeme-line_end p cs) l
