-- The worked examples: the lexemes of each file, the data that these spell, and what is written for them.
use Rattle.std.proofs.Common.{◌≡◌, ℕ, zero, suc, IsUtf8, pos, List, [], ◌∷◌, ◌++◌, length, refl, ap, sym, ◌∙◌, subst, codes, arith, encode_utf8_all}
use Rattle.std.proofs.Math.Utf8.{encode}
use Rattle.std.proofs.lemmas.Fmt.{decimal_digit, decimal_step}
use Rattle.std.proofs.lemmas.Str.{chars_from_encodes}
use Rattle.std.specs.Prelude.{Bool, true, false, Option, Some, None, is_none, decimal}
use Rattle.std.specs.Str.{chars}
use Rattle.rdx_base.specs.declared.place.Span.{Span}
use Rattle.rdx_sexp.specs.Begin.{body}
use Rattle.rdx_sexp.specs.Examples.{place, columns, CommentsAlone, NoText, WrongBracket}
use Rattle.rdx_sexp.specs.Grammar.{Many, one_leaf, one_list, many_none, many_more}
use Rattle.rdx_sexp.specs.Lex.{Step, first_lexeme}
use Rattle.rdx_sexp.specs.Lexeme.{Lexeme}
use Rattle.rdx_sexp.specs.Reads.{Lexes, lexes_end, lexes_more, Reads}
use Rattle.rdx_sexp.specs.Refusal.{refusal}
use Rattle.rdx_sexp.specs.Sexp.{Sexp, integer, symbol, leaf, list, sexps}
use Rattle.rdx_sexp.specs.Text.{Text}
use Rattle.rdx_sexp.specs.declared.fault.ReadKind.TheVariants.{NotUtf8, WrongClose}
use Rattle.rdx_patterns.specs.declared.shape.fault.DefKind.TheVariants.{UnknownLanguage}
use Rattle.rdx_patterns.specs.Refusal.{named as named_refusal}
use Rattle.rdx_answer.specs.Answering.{no_answers}
use Rattle.rdx_forms.specs.Definitions.{Defined}
use Rattle.rdx_query.specs.Examples.{word, number, defines_L, asks, AnswersInOrder}
use Rattle.rdx_query.specs.Examples.{form as spanned}
use Rattle.rdx_forms.specs.Forms.{form_refusal, form_definition}
use Rattle.rdx_forms.specs.Known.{Known, empty_program, nothing_in, with_definition}
use Rattle.rdx_query.specs.File.{Accepts, accepts_none, accepts_definition, accepts_query, accepts_passed, refuses_here}
use Rattle.rdx_forms.specs.OneForm.{by_check}
use Rattle.rdx_cli.specs.Examples.{QueriesAreAnswered, CommentsAreAnswered, FormIsRefused, BracketIsRefused, NoTextIsRefused, LongFileIsRefused}
use Rattle.rdx_cli.specs.Refusals.{refusal_line, form_line}
use Rattle.rdx_cli.specs.Transcript.{AreData, too_long, at_fault, unread, refused, answered}

-- ---- data

-- ASCII text that is these lexemes, which spell these data
reads : (bs : List ℕ) (ls : List Lexeme) (ds : List Sexp) → IsUtf8 bs → encode_utf8_all bs ≡ bs → Lexes (body bs) ls → Many 0 ls ds [] → Reads bs ds
reads bs ls ds u e l m = record {
  utf8 = u;
  lexemes = ls;
  lexed = subst (λ (cs : List ℕ). Lexes (body cs) ls) (chars_from_encodes bs bs u e) l;
  data_are = m;
}

-- a symbol, the integer 1 and a list, each from its first column up to the one before the other
abbrev name : List ℕ → ℕ → ℕ → Sexp
name x a b = leaf (symbol x) (columns a b)

abbrev one_at : ℕ → ℕ → Sexp
one_at a b = leaf (integer (pos 1)) (columns a b)

abbrev form : List Sexp → ℕ → ℕ → Sexp
form ds a b = list (sexps ds) (columns a b)

-- a lexeme before those of the text behind it
abbrev with_rest : (Text → List Lexeme) → Option Step → List Lexeme
with_rest rest None = []
with_rest rest (Some s) = s.0 ∷ rest s.1

-- the first n lexemes of a text
abbrev lexemes : ℕ → Text → List Lexeme
lexemes zero t = []
lexemes (suc n) t = with_rest (lexemes n) (first_lexeme t)

-- no lexeme is left behind as many
abbrev behind_one : (Text → Bool) → Option Step → Bool
behind_one ends None = false
behind_one ends (Some s) = ends s.1

abbrev ends_behind : ℕ → Text → Bool
ends_behind zero t = is_none (first_lexeme t)
ends_behind (suc n) t = behind_one (ends_behind n) (first_lexeme t)

-- so these are all
none_left : (o : Option Step) → is_none o ≡ true → o ≡ None
none_left None h = refl
none_left (Some s) h = absurd cc

lexes_one : (n : ℕ) (rest : (u : Text) → ends_behind n u ≡ true → Lexes u (lexemes n u)) (t : Text) (o : Option Step) →
    first_lexeme t ≡ o → behind_one (ends_behind n) o ≡ true → Lexes t (with_rest (lexemes n) o)
lexes_one n rest t None e h = absurd cc
lexes_one n rest t (Some s) e h = lexes_more e (rest s.1 h)

lexes : (n : ℕ) (t : Text) → ends_behind n t ≡ true → Lexes t (lexemes n t)
lexes zero t h = lexes_end (none_left (first_lexeme t) h)
lexes (suc n) t h = lexes_one n (lexes n) t (first_lexeme t) refl h

-- ---- a language and two queries

-- the file, and its data; (1 2) stands for the pattern and the term of the first query
abbrev answered_file : List ℕ
answered_file = codes "(define-language L (e 1)) (redex-match L (any_y any_x) (term (1 2))) (redex-match L 1 (term 1))"

abbrev definition : Sexp
definition = form (name (codes "define-language") 2 17 ∷ name (codes "L") 18 19 ∷ form (name (codes "e") 21 22 ∷ one_at 23 24 ∷ []) 20 25 ∷ []) 1 26

abbrev first_query : Sexp
first_query =
    form (name (codes "redex-match") 28 39 ∷ name (codes "L") 40 41 ∷ form (name (codes "any_y") 43 48 ∷ name (codes "any_x") 49 54 ∷ []) 42 55
    ∷ form (name (codes "term") 57 61 ∷ form (one_at 63 64 ∷ leaf (integer (pos 2)) (columns 65 66) ∷ []) 62 67 ∷ []) 56 68 ∷ []) 27 69

abbrev second_query : Sexp
second_query =
    form (name (codes "redex-match") 71 82 ∷ name (codes "L") 83 84 ∷ one_at 85 86 ∷ form (name (codes "term") 88 92 ∷ one_at 93 94 ∷ []) 87 95 ∷ []) 70 96

abbrev answered_forms : List Sexp
answered_forms = definition ∷ first_query ∷ second_query ∷ []

answered_lexed : Lexes (body answered_file) (lexemes 32 (body answered_file))
unfolding first_lexeme encode
answered_lexed = lexes 32 (body answered_file) refl

answered_spelled : Many 0 (lexemes 32 (body answered_file)) answered_forms []
unfolding first_lexeme encode
answered_spelled =
    many_more (one_list (omega arith)
    (many_more one_leaf (many_more one_leaf (many_more (one_list (omega arith) (many_more one_leaf (many_more one_leaf many_none)) refl) many_none))) refl)
    (many_more (one_list (omega arith)
    (many_more one_leaf (many_more one_leaf (many_more (one_list (omega arith) (many_more one_leaf (many_more one_leaf many_none)) refl)
    (many_more (one_list (omega arith) (many_more one_leaf (many_more (one_list (omega arith) (many_more one_leaf (many_more one_leaf many_none)) refl) many_none)) refl)
    many_none)))) refl)
    (many_more (one_list (omega arith)
    (many_more one_leaf (many_more one_leaf (many_more one_leaf (many_more (one_list (omega arith) (many_more one_leaf (many_more one_leaf many_none)) refl) many_none)))) refl)
    many_none))

answered_data : AreData answered_file answered_forms
unfolding encode
answered_data =
    let size : length answered_file ≡ 95 = refl in
    record {
      limit = omega (arith, size);
      read = reads answered_file (lexemes 32 (body answered_file)) answered_forms (answered_file, (refl, refl)) refl answered_lexed answered_spelled;
    }

-- the same forms with one span for all, of which the answers are known
abbrev sample : Span
sample = columns 1 1

abbrev sample_first : Sexp
sample_first =
    asks sample (word sample (codes "L")) (spanned sample (word sample (codes "any_y") ∷ word sample (codes "any_x") ∷ []))
    (spanned sample (number sample 1 ∷ number sample 2 ∷ []))

abbrev sample_second : Sexp
sample_second = asks sample (word sample (codes "L")) (number sample 1) (number sample 1)

-- what is known before the first form: none of them defines a metafunction or a judgement, or asks for cross nonterminals, and the language L has no
-- binding forms
abbrev start : Known
start = nothing_in (record { metafunctions = []; judgements = [] }) [] [] ((codes "L", []) ∷ [])

-- what is known behind it
abbrev behind : Option Defined → Known
behind None = start
behind (Some x) = with_definition start x

-- the forms are accepted as those are, since spans count in refusals alone
second_accepted : {x K qs : _} → form_definition start (defines_L sample) ≡ Some x → Accepts (with_definition start x) (sample_second ∷ []) K qs →
    Accepts (with_definition start x) (second_query ∷ []) K qs
second_accepted e (accepts_definition d a) = let n = d.means in absurd cc
second_accepted e (accepts_passed d a) = let n = d.means in absurd cc
second_accepted e (accepts_query a accepts_none) =
    accepts_query (record { passes = subst (λ o. form_refusal (behind o) second_query ≡ None) e refl; means = a.means }) accepts_none

queries_accepted : {x K qs : _} → form_definition start (defines_L sample) ≡ Some x → Accepts (with_definition start x) (sample_first ∷ sample_second ∷ []) K qs →
    Accepts (with_definition start x) (first_query ∷ second_query ∷ []) K qs
queries_accepted e (accepts_definition d a) = let n = d.means in absurd cc
queries_accepted e (accepts_passed d a) = let n = d.means in absurd cc
queries_accepted e (accepts_query a b) =
    accepts_query (record { passes = subst (λ o. form_refusal (behind o) first_query ≡ None) e refl; means = a.means }) (second_accepted e b)

forms_accepted : {K qs : _} → Accepts start (defines_L sample ∷ sample_first ∷ sample_second ∷ []) K qs → Accepts start answered_forms K qs
forms_accepted (accepts_definition d a) =
    accepts_definition (record { passes = refl; means = d.means; sound = d.sound; passes_late = refl }) (queries_accepted d.means a)
forms_accepted (accepts_query a b) = let n = a.means in absurd cc
forms_accepted (accepts_passed a b) = let n = a.means in absurd cc

pub queries_are_answered : AnswersInOrder → QueriesAreAnswered
unfolding chars
queries_are_answered answers_in_order =
    let w = answers_in_order sample in
    answered answered_forms true answered_data
    (record { program = w.program; queries = w.queries; accepted = forms_accepted w.accepted; answers = w.answers }) refl

-- ---- no form

pub comments_are_answered : CommentsAlone → CommentsAreAnswered
comments_are_answered comments_alone =
    let size : length (codes "#; a ; b") ≡ 8 = refl in
    answered [] true (record { limit = omega (arith, size); read = comments_alone })
    (record { program = empty_program; queries = []; accepted = accepts_none; answers = no_answers }) refl

-- ---- a form that is refused

abbrev refused_file : List ℕ
refused_file = codes "(redex-match M e (term 1))"

abbrev refused_query : Sexp
refused_query =
    form (name (codes "redex-match") 2 13 ∷ name (codes "M") 14 15 ∷ name (codes "e") 16 17 ∷ form (name (codes "term") 19 23 ∷ one_at 24 25 ∷ []) 18 26 ∷ []) 1 27

refused_lexed : Lexes (body refused_file) (lexemes 9 (body refused_file))
unfolding first_lexeme encode
refused_lexed = lexes 9 (body refused_file) refl

refused_spelled : Many 0 (lexemes 9 (body refused_file)) (refused_query ∷ []) []
unfolding first_lexeme encode
refused_spelled =
    many_more (one_list (omega arith)
    (many_more one_leaf (many_more one_leaf (many_more one_leaf (many_more (one_list (omega arith) (many_more one_leaf (many_more one_leaf many_none)) refl) many_none)))) refl)
    many_none

refused_data : AreData refused_file (refused_query ∷ [])
unfolding encode
refused_data =
    let size : length refused_file ≡ 26 = refl in
    record {
      limit = omega (arith, size);
      read = reads refused_file (lexemes 9 (body refused_file)) (refused_query ∷ []) (refused_file, (refl, refl)) refl refused_lexed refused_spelled;
    }

-- the line with the column printed
form_line_is : codes "refused S2 UnknownLanguage at 1:14 M\n" ≡ form_line (named_refusal UnknownLanguage (name (codes "M") 14 15))
form_line_is =
    let one : codes "1" ≡ decimal 1 = sym (decimal_digit 1 (omega arith)) in
    let fourteen : codes "14" ≡ decimal 14 = ap (λ (l : List ℕ). l ++ codes "4") one ∙ sym (decimal_step 14 (omega arith) (omega arith)) in
    λ i. (codes "refused " ++ codes "S2 UnknownLanguage" ++ codes " at " ++ one i ++ codes ":" ++ fourteen i) ++ (codes " " ++ codes "M") ++ codes "\n"

pub form_is_refused : FormIsRefused
form_is_refused =
    refused (refused_query ∷ []) (named_refusal UnknownLanguage (name (codes "M") 14 15)) refused_data (refuses_here (by_check refl)) form_line_is refl

-- ---- no data

-- the line of a refusal at the second column, with the place printed
line_at : (kind : List ℕ) →
    (codes "refused " ++ kind ++ codes " at " ++ codes "1" ++ codes ":" ++ codes "2") ++ [] ++ codes "\n" ≡ refusal_line kind (place 1 2) None
line_at kind =
    let one : codes "1" ≡ decimal 1 = sym (decimal_digit 1 (omega arith)) in
    let two : codes "2" ≡ decimal 2 = sym (decimal_digit 2 (omega arith)) in
    λ i. (codes "refused " ++ kind ++ codes " at " ++ one i ++ codes ":" ++ two i) ++ [] ++ codes "\n"

pub bracket_is_refused : WrongBracket → BracketIsRefused
bracket_is_refused wrong_bracket =
    let size : length (codes "(]") ≡ 2 = refl in
    unread (at_fault (omega (arith, size)) (refusal WrongClose (place 1 2)) wrong_bracket (line_at (codes "F3 WrongClose"))) refl

pub no_text_is_refused : NoText → NoTextIsRefused
no_text_is_refused no_text =
    let file : List ℕ = 41 ∷ 255 ∷ [] in
    let size : length file ≡ 2 = refl in
    unread (at_fault (omega (arith, size)) (refusal NotUtf8 (place 1 2)) no_text (line_at (codes "F1 NotUtf8"))) refl

pub long_file_is_refused : LongFileIsRefused
long_file_is_refused bytes long = unread (too_long long refl) refl
