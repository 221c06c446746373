-- The worked examples: the lexemes of each text, and the data that these spell or their first fault.
use Rattle.std.proofs.Common.{◌≡◌, ◌+◌, ℕ, zero, suc, pos, negsuc, true, false, IsUtf8, List, [], ◌∷◌, length, cond, nat_lt, Err, codes, refl, sym, ap, ◌∙◌, subst, arith}
use Rattle.std.proofs.Math.Utf8.{encode}
use Rattle.std.proofs.lemmas.Bool.{lt-ltb, le-ltb}
use Rattle.std.proofs.lemmas.List.{take_all}
use Rattle.std.proofs.lemmas.Str.{is_utf8-from_IsUtf8}
use Rattle.std.specs.List.{repeat}
use Rattle.std.specs.Str.{is_utf8, chars, IsValidUpTo}
use Rattle.rdx_sexp.specs.declared.fault.ReadKind.TheVariants.{BadToken, NumberForm, NumberRange, BadString, TooDeep}
use Rattle.rdx_sexp.specs.declared.fault.ReadRefusal.{ReadRefusal}
use Rattle.rdx_sexp.specs.Begin.{body}
use Rattle.rdx_sexp.specs.Examples as example
use Rattle.rdx_sexp.specs.Examples.{place, columns}
use Rattle.rdx_sexp.specs.Grammar.{max_open, Many, one_leaf, one_quoted, one_skipped, many_none, many_more, many_skipped}
use Rattle.rdx_sexp.specs.Inside.Machine.{nest, Frame, frame, Outcome, run}
use Rattle.rdx_sexp.specs.Lex.{first_lexeme, span}
use Rattle.rdx_sexp.specs.Lexeme.{round, square, quote, Lexeme, opening, closing, quote_mark as marked, skip, word, bad}
use Rattle.rdx_sexp.specs.Reads.{Lexes, lexes_end, lexes_more, Reads, FirstFault, not_utf8, in_text}
use Rattle.rdx_sexp.specs.Refusal.{refusal}
use Rattle.rdx_sexp.specs.Sexp.{Sexp, integer, truth, text, symbol, keyword}
use Rattle.rdx_sexp.specs.Text.{at}
use Rattle.rdx_sexp.proofs.PrintedChars.{Encodes, Encodes-ascii, IsUtf8-Encodes, chars-Encodes}
use Rattle.rdx_sexp.proofs.PrintedTokens.{first_lexeme-open, first_lexeme-end}
use Rattle.rdx_sexp.proofs.ReadSoFar.{fault_from_run}

-- a text of ASCII characters that are these lexemes, which spell these data
reads : (bs : List ℕ) (ls : List Lexeme) (ds : List Sexp) → Encodes bs bs → Lexes (body bs) ls → Many 0 ls ds [] → Reads bs ds
reads bs ls ds e l m = record {
  utf8 = IsUtf8-Encodes bs bs e;
  lexemes = ls;
  lexed = subst (λ (cs : List ℕ). Lexes (body cs) ls) (sym (chars-Encodes bs bs e)) l;
  data_are = m;
}

-- one of lexemes at which the machine stops, for this
fails : (bs : List ℕ) (ls : List Lexeme) (r : ReadRefusal) → Encodes bs bs → Lexes (body bs) ls → run [] [] ls ≡ Err r → FirstFault bs r
fails bs ls r e l f =
    in_text ls (IsUtf8-Encodes bs bs e) (subst (λ (cs : List ℕ). Lexes (body cs) ls) (sym (chars-Encodes bs bs e)) l) (fault_from_run ls r f)

pub nested_comment : example.NestedComment
unfolding first_lexeme encode
nested_comment =
    reads (codes "#| #| |# ( |# b") (word (symbol (codes "b")) (columns 15 16) ∷ []) _ (record { valid = refl; same = refl })
    (lexes_more refl (lexes_end refl)) (many_more one_leaf many_none)

pub two_dropped : example.TwoDropped
unfolding first_lexeme encode
two_dropped =
    reads (codes "#; #; a b c")
    (skip (columns 1 3) ∷ skip (columns 4 6) ∷ word (symbol (codes "a")) (columns 7 8) ∷ word (symbol (codes "b")) (columns 9 10) ∷ word (symbol (codes "c")) (columns 11 12) ∷ [])
    _ (record { valid = refl; same = refl })
    (lexes_more refl (lexes_more refl (lexes_more refl (lexes_more refl (lexes_more refl (lexes_end refl))))))
    (many_more (one_skipped (omega arith) (one_skipped (omega arith) one_leaf one_leaf) one_leaf) many_none)

pub comments_alone : example.CommentsAlone
unfolding first_lexeme encode
comments_alone =
    reads (codes "#; a ; b") (skip (columns 1 3) ∷ word (symbol (codes "a")) (columns 4 5) ∷ []) _ (record { valid = refl; same = refl })
    (lexes_more refl (lexes_more refl (lexes_end refl))) (many_skipped (omega arith) one_leaf many_none)

pub quote_mark : example.QuoteMark
unfolding first_lexeme encode
quote_mark =
    reads (codes "'#;a b")
    (marked quote (columns 1 2) ∷ skip (columns 2 4) ∷ word (symbol (codes "a")) (columns 4 5) ∷ word (symbol (codes "b")) (columns 6 7) ∷ [])
    _ (record { valid = refl; same = refl })
    (lexes_more refl (lexes_more refl (lexes_more refl (lexes_more refl (lexes_end refl)))))
    (many_more (one_quoted (omega arith) (one_skipped (omega arith) one_leaf one_leaf) refl) many_none)

pub wrong_bracket : example.WrongBracket
unfolding first_lexeme encode
wrong_bracket =
    fails (codes "(]") (opening round (columns 1 2) ∷ closing square (columns 2 3) ∷ []) _ (record { valid = refl; same = refl })
    (lexes_more refl (lexes_more refl (lexes_end refl))) refl

pub innermost_open : example.InnermostOpen
unfolding first_lexeme encode
innermost_open =
    fails (codes "(a\n(b")
    (opening round (columns 1 2) ∷ word (symbol (codes "a")) (columns 2 3) ∷ opening round (span (place 2 1) (place 2 2)) ∷ word (symbol (codes "b")) (span (place 2 2) (place 2 3)) ∷ [])
    _ (record { valid = refl; same = refl })
    (lexes_more refl (lexes_more refl (lexes_more refl (lexes_more refl (lexes_end refl))))) refl

-- what stands behind the quotation mark is a token that is refused too, but later
pub unknown_escape : example.UnknownEscape
unfolding first_lexeme encode
unknown_escape =
    fails (codes "\"a\\q") (bad (refusal BadString (place 1 3)) ∷ bad (refusal BadToken (place 1 2)) ∷ []) _ (record { valid = refl; same = refl })
    (lexes_more refl (lexes_more refl (lexes_end refl))) refl

-- ---- the first line

pub lang_line : example.LangLine
unfolding first_lexeme encode
lang_line =
    reads (codes "#lang racket\na") (word (symbol (codes "a")) (span (place 2 1) (place 2 2)) ∷ []) _ (record { valid = refl; same = refl })
    (lexes_more refl (lexes_end refl)) (many_more one_leaf many_none)

pub other_lang : example.OtherLang
unfolding first_lexeme encode
other_lang =
    fails (codes "#lang plt") (bad (refusal BadToken (place 1 1)) ∷ word (symbol (codes "plt")) (columns 7 10) ∷ []) _ (record { valid = refl; same = refl })
    (lexes_more refl (lexes_more refl (lexes_end refl))) refl

-- ---- tokens

pub small_integers : example.SmallIntegers
unfolding first_lexeme encode
small_integers =
    reads (codes "-007 +5 +") (word (integer (negsuc 6)) (columns 1 5) ∷ word (integer (pos 5)) (columns 6 8) ∷ word (symbol (codes "+")) (columns 9 10) ∷ [])
    _ (record { valid = refl; same = refl })
    (lexes_more refl (lexes_more refl (lexes_more refl (lexes_end refl)))) (many_more one_leaf (many_more one_leaf (many_more one_leaf many_none)))

pub largest_integer : example.LargestInteger
unfolding first_lexeme encode
largest_integer =
    reads (codes "170141183460469231731687303715884105727") (word (integer (pos 170141183460469231731687303715884105727)) (columns 1 40) ∷ [])
    _ (record { valid = refl; same = refl }) (lexes_more refl (lexes_end refl)) (many_more one_leaf many_none)

pub smallest_integer : example.SmallestInteger
unfolding first_lexeme encode
smallest_integer =
    reads (codes "-170141183460469231731687303715884105728") (word (integer (negsuc 170141183460469231731687303715884105727)) (columns 1 41) ∷ [])
    _ (record { valid = refl; same = refl }) (lexes_more refl (lexes_end refl)) (many_more one_leaf many_none)

pub tokens : example.Tokens
unfolding first_lexeme encode
tokens =
    reads (codes "#true #f #:k a#b")
    (word (truth true) (columns 1 6) ∷ word (truth false) (columns 7 9) ∷ word (keyword (codes "k")) (columns 10 13) ∷ word (symbol (codes "a#b")) (columns 14 17) ∷ [])
    _ (record { valid = refl; same = refl })
    (lexes_more refl (lexes_more refl (lexes_more refl (lexes_more refl (lexes_end refl)))))
    (many_more one_leaf (many_more one_leaf (many_more one_leaf (many_more one_leaf many_none))))

pub string_behind_token : example.StringBehindToken
unfolding first_lexeme encode
string_behind_token =
    reads (codes "a\"\\n\\\"\"") (word (symbol (codes "a")) (columns 1 2) ∷ word (text (codes "\n\"")) (columns 2 8) ∷ [])
    _ (record { valid = refl; same = refl })
    (lexes_more refl (lexes_more refl (lexes_end refl))) (many_more one_leaf (many_more one_leaf many_none))

-- ---- faults

pub single_point : example.SinglePoint
unfolding first_lexeme encode
single_point =
    fails (codes "(a . b)")
    (opening round (columns 1 2) ∷ word (symbol (codes "a")) (columns 2 3) ∷ bad (refusal BadToken (place 1 4)) ∷ word (symbol (codes "b")) (columns 6 7) ∷ closing round (columns 7 8) ∷ [])
    _ (record { valid = refl; same = refl })
    (lexes_more refl (lexes_more refl (lexes_more refl (lexes_more refl (lexes_more refl (lexes_end refl)))))) refl

pub fraction : example.Fraction
unfolding first_lexeme encode
fraction =
    fails (codes "a 1/2") (word (symbol (codes "a")) (columns 1 2) ∷ bad (refusal NumberForm (place 1 3)) ∷ []) _ (record { valid = refl; same = refl })
    (lexes_more refl (lexes_more refl (lexes_end refl))) refl

pub out_of_range : example.OutOfRange
unfolding first_lexeme encode
out_of_range =
    fails (codes "170141183460469231731687303715884105728") (bad (refusal NumberRange (place 1 1)) ∷ []) _ (record { valid = refl; same = refl })
    (lexes_more refl (lexes_end refl)) refl

pub open_string : example.OpenString
unfolding first_lexeme encode
open_string =
    fails (codes "a \"b") (word (symbol (codes "a")) (columns 1 2) ∷ bad (refusal BadString (place 1 3)) ∷ word (symbol (codes "b")) (columns 4 5) ∷ [])
    _ (record { valid = refl; same = refl })
    (lexes_more refl (lexes_more refl (lexes_more refl (lexes_end refl)))) refl

-- the two bytes are no text
no_text_whole : is_utf8 (41 ∷ 255 ∷ []) ≡ false
unfolding is_utf8 chars encode
no_text_whole = refl

-- their first byte is, and nothing longer
no_text_front : IsValidUpTo (41 ∷ 255 ∷ []) 1
unfolding encode
no_text_front = record {
  short = omega arith;
  front = (41 ∷ [], (refl, refl));
  longest = λ m lt u.
      let all = subst IsUtf8 (take_all m (41 ∷ 255 ∷ []) (omega arith)) u in
      let t : is_utf8 (41 ∷ 255 ∷ []) ≡ true = is_utf8-from_IsUtf8 (41 ∷ 255 ∷ []) all in
      let f = no_text_whole in
      cc;
}

pub no_text : example.NoText
unfolding chars encode
no_text = not_utf8 1 no_text_front refl

-- ---- 501 brackets

-- so many opening brackets from this column on
abbrev brackets : ℕ → ℕ → List Lexeme
brackets zero j = []
brackets (suc n) j = opening round (columns j (j + 1)) ∷ brackets n (j + 1)

lexes_brackets : (n j : ℕ) → Lexes (at (place 1 j) (repeat n (codes "("))) (brackets n j)
lexes_brackets zero j = lexes_end (first_lexeme-end (place 1 j))
lexes_brackets (suc n) j = lexes_more (first_lexeme-open (place 1 j) (repeat n (codes "("))) (lexes_brackets n (j + 1))

encodes_brackets : (n : ℕ) → Encodes (repeat n (codes "(")) (repeat n (codes "("))
encodes_brackets zero = record { valid = refl; same = refl }
encodes_brackets (suc n) = Encodes-ascii 40 (repeat n (codes "(")) (repeat n (codes "(")) (omega arith) (encodes_brackets n)

abbrev stopped : ℕ → Outcome
stopped c = Err (refusal TooDeep (place 1 c))

-- one more than may be open is the fault
run_brackets : (k j : ℕ) (fs : List Frame) (items : List Sexp) → length fs + k ≡ max_open → run fs items (brackets (suc k) j) ≡ Err (refusal TooDeep (place 1 (j + k)))
run_brackets zero j fs items e =
    let full : nat_lt (length fs) max_open ≡ false = le-ltb (length fs) max_open (omega arith) in
    let same : j ≡ j + 0 = omega arith in
    ap (λ b. cond b (run (frame (nest round (columns j (j + 1))) items ∷ fs) [] []) (Err (refusal TooDeep (place 1 j)))) full
    ∙ ap (λ (c : ℕ). stopped c) same
run_brackets (suc k) j fs items e =
    let more : nat_lt (length fs) max_open ≡ true = lt-ltb (length fs) max_open (omega arith) in
    let same : j + 1 + k ≡ j + suc k = omega arith in
    ap (λ b. cond b (run (frame (nest round (columns j (j + 1))) items ∷ fs) [] (brackets (suc k) (j + 1))) (Err (refusal TooDeep (place 1 j)))) more
    ∙ run_brackets k (j + 1) (frame (nest round (columns j (j + 1))) items ∷ fs) [] (omega arith)
    ∙ ap (λ (c : ℕ). stopped c) same

pub too_many_open : example.TooManyOpen
too_many_open =
    fails (repeat 501 (codes "(")) (brackets 501 1) (refusal TooDeep (place 1 501)) (encodes_brackets 501) (lexes_brackets 501 1) (run_brackets 500 1 [] [] (omega arith))
