-- What follows a lexeme is an end of the text, and shorter.
use Rattle.std.proofs.Common.{◌≡◌, ◌<◌, ◌≤◌, ◌==◌, ◌&&◌, ◌||◌, ℕ, List, [], ◌∷◌, length, Bool, true, false, cond, Option, Some, None, Result, Ok, Err, refl, sym, subst, arith}
use Rattle.std.specs.Char.{is_whitespace}
use Rattle.std.specs.Str.{byte}
use Rattle.rdx_base.specs.declared.place.Place.{Place}
use Rattle.rdx_term.specs.Spelling.{ends_token}
use Rattle.rdx_sexp.specs.Begin.{has_lang_line, past_line, body}
use Rattle.rdx_sexp.specs.Blanks.{begins_block, ends_block, past_blanks, past_comment}
use Rattle.rdx_sexp.specs.Lex.{Step, string_step, token_step, lexeme_from, lexeme_at, first_from, first_lexeme}
use Rattle.rdx_sexp.specs.Lexeme.{Lexeme}
use Rattle.rdx_sexp.specs.Refusal.{refusal}
use Rattle.rdx_sexp.specs.declared.fault.ReadKind.TheVariants.{BadString}
use Rattle.rdx_sexp.specs.Strings.{Body, string_body, with_char, with_escape, escape_of}
use Rattle.rdx_sexp.specs.Text.{Text, at, start, after, next_is, skip_one}
use Rattle.rdx_sexp.specs.Token.{past_token}

-- the second list begins with some characters, and then it is the first
pub data IsEnd : List ℕ → List ℕ → Type 0 where
  whole : {cs : List ℕ} → IsEnd cs cs
  behind : {c : ℕ} {es cs : List ℕ} → IsEnd es cs → IsEnd es (c ∷ cs)

-- behind the first character, if there is one
abbrev pub IsBehind : List ℕ → List ℕ → Type 0
IsBehind es [] = ⊥
IsBehind es (c ∷ cs) = IsEnd es cs

-- nothing is an end
IsEnd-nil : (cs : List ℕ) → IsEnd [] cs
IsEnd-nil [] = whole
IsEnd-nil (c ∷ cs) = behind (IsEnd-nil cs)

-- an end is no longer
IsEnd_is_no_longer : (es cs : List ℕ) → IsEnd es cs → length es ≤ length cs
IsEnd_is_no_longer es cs whole = omega arith
IsEnd_is_no_longer es (c ∷ cs) (behind e) = omega (arith, IsEnd_is_no_longer es cs e)

-- what is behind an end is behind the whole
behind_end : (es ds cs : List ℕ) → IsBehind es ds → IsEnd ds cs → IsBehind es cs
behind_end es [] cs h e = absurd h
behind_end es (d ∷ ds) cs h whole = h
behind_end es (d ∷ ds) (c ∷ cs) h (behind e) = end_of_behind es (d ∷ ds) cs (behind_end es (d ∷ ds) cs h e)
  where
    end_of_behind : (es ds cs : List ℕ) → IsBehind es cs → IsEnd es cs
    end_of_behind es ds [] h = absurd h
    end_of_behind es ds (c ∷ cs) h = behind h

-- both choices are ends
either : {A : Type 0} (f : A → List ℕ) (cs : List ℕ) (b : Bool) (x y : A) → IsEnd (f x) cs → IsEnd (f y) cs → IsEnd (f (cond b x y)) cs
either f cs true x y h k = h
either f cs false x y h k = k

-- ---- white space and comments

-- the characters that are left
abbrev pub remaining : Result Text Place → List ℕ
remaining (Ok t) = t.chars
remaining (Err o) = []

-- white space and comments leave an end
mutual
  pub past_blanks_is_end : (os : List Place) (p : Place) (cs : List ℕ) → IsEnd (remaining (past_blanks os p cs)) cs
  past_blanks_is_end [] p [] = whole
  past_blanks_is_end [] p (c ∷ []) =
      either remaining (c ∷ []) (c == byte ";" || is_whitespace c) (Ok (at (after p c) [])) (Ok (at p (c ∷ []))) (behind whole) whole
  past_blanks_is_end [] p (c ∷ d ∷ cs) =
      either remaining (c ∷ d ∷ cs) (c == byte ";") _ _ (behind (past_comment_is_end (after p c) (d ∷ cs)))
      (either remaining (c ∷ d ∷ cs) (begins_block c d) _ _ (behind (behind (past_blanks_is_end (p ∷ []) (after (after p c) d) cs)))
      (either remaining (c ∷ d ∷ cs) (is_whitespace c) _ (Ok (at p (c ∷ d ∷ cs))) (behind (past_blanks_is_end [] (after p c) (d ∷ cs))) whole))
  past_blanks_is_end (o ∷ os) p [] = whole
  past_blanks_is_end (o ∷ os) p (c ∷ []) = behind whole
  past_blanks_is_end (o ∷ os) p (c ∷ d ∷ cs) =
      either remaining (c ∷ d ∷ cs) (begins_block c d) _ _ (behind (behind (past_blanks_is_end (p ∷ o ∷ os) (after (after p c) d) cs)))
      (either remaining (c ∷ d ∷ cs) (ends_block c d) _ _ (behind (behind (past_blanks_is_end os (after (after p c) d) cs)))
      (behind (past_blanks_is_end (o ∷ os) (after p c) (d ∷ cs))))

  past_comment_is_end : (p : Place) (cs : List ℕ) → IsEnd (remaining (past_comment p cs)) cs
  past_comment_is_end p [] = whole
  past_comment_is_end p (c ∷ cs) =
      either remaining (c ∷ cs) (c == byte "\n") _ _ (behind (past_blanks_is_end [] (after p c) cs)) (behind (past_comment_is_end (after p c) cs))

-- ---- tokens and strings

abbrev chars_of : Text → List ℕ
chars_of t = t.chars

-- so does a token
past_token_is_end : (p : Place) (cs : List ℕ) → IsEnd (past_token p cs).chars cs
past_token_is_end p [] = whole
past_token_is_end p (c ∷ cs) = either chars_of (c ∷ cs) (ends_token c) (at p (c ∷ cs)) (past_token (after p c) cs) whole (behind (past_token_is_end (after p c) cs))

-- and one character
skip_one_is_end : (p : Place) (cs : List ℕ) → IsEnd (skip_one p cs).chars cs
skip_one_is_end p [] = whole
skip_one_is_end p (c ∷ cs) = behind whole

-- the characters that a string leaves
abbrev remaining_in : Body → List ℕ
remaining_in (Ok x) = x.1.chars
remaining_in (Err r) = []

remaining_in-with_char : (c : ℕ) (b : Body) → remaining_in (with_char c b) ≡ remaining_in b
remaining_in-with_char c (Ok x) = refl
remaining_in-with_char c (Err r) = refl

-- one more character in front leaves the same
with_char_is_end : (c : ℕ) (b : Body) (cs : List ℕ) → IsEnd (remaining_in b) cs → IsEnd (remaining_in (with_char c b)) cs
with_char_is_end c b cs h = subst (λ (es : List ℕ). IsEnd es cs) (sym (remaining_in-with_char c b)) h

with_escape_is_end : (e : Option ℕ) (p : Place) (b : Body) (cs : List ℕ) → IsEnd (remaining_in b) cs → IsEnd (remaining_in (with_escape e p b)) cs
with_escape_is_end (Some c) p b cs h = with_char_is_end c b cs h
with_escape_is_end None p b cs h = IsEnd-nil cs

-- a string leaves an end
string_body_is_end : (o p : Place) (cs : List ℕ) → IsEnd (remaining_in (string_body o p cs)) cs
string_body_is_end o p [] = whole
string_body_is_end o p (c ∷ []) =
    either remaining_in (c ∷ []) (c == byte "\"") (Ok ([], at (after p c) [])) (Err (refusal BadString o)) (behind whole) (behind whole)
string_body_is_end o p (c ∷ d ∷ cs) =
    either remaining_in (c ∷ d ∷ cs) (c == byte "\"") (Ok ([], at (after p c) (d ∷ cs))) _ (behind whole)
    (either remaining_in (c ∷ d ∷ cs) (c == byte "\\") _ _
    (with_escape_is_end (escape_of d) p (string_body o (after (after p c) d) cs) (c ∷ d ∷ cs) (behind (behind (string_body_is_end o (after (after p c) d) cs))))
    (with_char_is_end c (string_body o (after p c) (d ∷ cs)) (c ∷ d ∷ cs) (behind (string_body_is_end o (after p c) (d ∷ cs)))))

-- ---- lexemes

-- the characters that follow a lexeme
abbrev pub rest_of : Step → List ℕ
rest_of s = s.1.chars

string_step_is_end : (p : Place) (b : Body) (t : Text) (cs : List ℕ) → IsEnd (remaining_in b) cs → IsEnd t.chars cs → IsEnd (rest_of (string_step p b t)) cs
string_step_is_end p (Ok x) t cs h k = h
string_step_is_end p (Err r) t cs h k = k

-- what follows a lexeme is an end of what follows its first character
lexeme_from_is_end : (p : Place) (c : ℕ) (r : Text) → IsEnd (rest_of (lexeme_from p c r)) r.chars
lexeme_from_is_end p c r =
    let one : IsEnd (skip_one r.place r.chars).chars r.chars = skip_one_is_end r.place r.chars in
    either rest_of _ (c == byte "(") _ _ whole (either rest_of _ (c == byte ")") _ _ whole
    (either rest_of _ (c == byte "[") _ _ whole (either rest_of _ (c == byte "]") _ _ whole
    (either rest_of _ (c == byte "{") _ _ whole (either rest_of _ (c == byte "}") _ _ whole
    (either rest_of _ (c == byte "'") _ _ whole (either rest_of _ (c == byte "`") _ _ whole
    (either rest_of _ (c == byte ",") _ _ (either rest_of _ (next_is (byte "@") r.chars) _ _ one whole)
    (either rest_of _ (c == byte "\"") _ _ (string_step_is_end p (string_body p r.place r.chars) r r.chars (string_body_is_end p r.place r.chars) whole)
    (either rest_of _ (c == byte "#" && next_is (byte ";") r.chars) _ (token_step p c r) one
    (past_token_is_end r.place r.chars)))))))))))

lexeme_at_is_behind : (p : Place) (cs : List ℕ) (s : Step) → lexeme_at p cs ≡ Some s → IsBehind (rest_of s) cs
lexeme_at_is_behind p [] s e = cc
lexeme_at_is_behind p (c ∷ cs) s e =
    let same : lexeme_from p c (at (after p c) cs) ≡ s = cc in
    subst (λ (x : Step). IsEnd (rest_of x) cs) same (lexeme_from_is_end p c (at (after p c) cs))

-- nothing follows a comment without an end
of_none : (l : Lexeme) (o : Place) (c : ℕ) (cs : List ℕ) (s : Step) → (let a : Option Step = Some (l, at o []) in a) ≡ Some s → IsEnd (rest_of s) cs
of_none l o c cs s e =
    let same : (let a : Step = (l, at o []) in a) ≡ s = cc in
    subst (λ (x : Step). IsEnd (rest_of x) cs) same (IsEnd-nil cs)

first_from_is_behind : (r : Result Text Place) (c : ℕ) (cs : List ℕ) (s : Step) → IsEnd (remaining r) (c ∷ cs) → first_from r ≡ Some s → IsEnd (rest_of s) cs
first_from_is_behind (Ok t) c cs s h e = behind_end (rest_of s) t.chars (c ∷ cs) (lexeme_at_is_behind t.place t.chars s e) h
first_from_is_behind (Err o) c cs s h e = of_none _ o c cs s e

first_at_is_behind : (p : Place) (cs : List ℕ) (s : Step) → first_lexeme (at p cs) ≡ Some s → IsBehind (rest_of s) cs
unfolding first_lexeme
first_at_is_behind p [] s e = cc
first_at_is_behind p (c ∷ cs) s e = first_from_is_behind (past_blanks [] p (c ∷ cs)) c cs s (past_blanks_is_end [] p (c ∷ cs)) e

-- what follows the first lexeme is an end of the text behind its first character
pub first_lexeme_is_behind : (t : Text) (s : Step) → first_lexeme t ≡ Some s → IsBehind (rest_of s) t.chars
first_lexeme_is_behind t s e = first_at_is_behind t.place t.chars s e

behind_is_shorter : (es cs : List ℕ) → IsBehind es cs → length es < length cs
behind_is_shorter es [] h = absurd h
behind_is_shorter es (c ∷ cs) h = omega (arith, IsEnd_is_no_longer es cs h)

-- so it is shorter
pub first_lexeme_is_shorter : (t : Text) (s : Step) → first_lexeme t ≡ Some s → length (rest_of s) < length t.chars
first_lexeme_is_shorter t s e = behind_is_shorter (rest_of s) t.chars (first_lexeme_is_behind t s e)

-- ---- the first line

past_line_is_end : (p : Place) (cs : List ℕ) → IsEnd (past_line p cs).chars cs
past_line_is_end p [] = whole
past_line_is_end p (c ∷ cs) = either chars_of (c ∷ cs) (c == byte "\n") (at (after p c) cs) (past_line (after p c) cs) (behind whole) (behind (past_line_is_end (after p c) cs))

-- the text with the data is an end of the file
pub body_is_end : (cs : List ℕ) → IsEnd (body cs).chars cs
body_is_end cs = either chars_of cs (has_lang_line cs) (past_line start cs) (at start cs) (past_line_is_end start cs) whole

pub body_is_no_longer : (cs : List ℕ) → length (body cs).chars ≤ length cs
body_is_no_longer cs = IsEnd_is_no_longer (body cs).chars cs (body_is_end cs)
