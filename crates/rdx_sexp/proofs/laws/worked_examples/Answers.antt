use Rattle.rdx_sexp.proofs.WorkedExamples as examples
use Rattle.rdx_sexp.proofs.laws.worked_examples.Goals as goal

pub returns-clause-nested_comment : goal.returns-clause-nested_comment
returns-clause-nested_comment c = examples.nested_comment

pub returns-clause-two_dropped : goal.returns-clause-two_dropped
returns-clause-two_dropped c = examples.two_dropped

pub returns-clause-comments_alone : goal.returns-clause-comments_alone
returns-clause-comments_alone c = examples.comments_alone

pub returns-clause-quote_mark : goal.returns-clause-quote_mark
returns-clause-quote_mark c = examples.quote_mark

pub returns-clause-lang_line : goal.returns-clause-lang_line
returns-clause-lang_line c = examples.lang_line

pub returns-clause-other_lang : goal.returns-clause-other_lang
returns-clause-other_lang c = examples.other_lang

pub returns-clause-small_integers : goal.returns-clause-small_integers
returns-clause-small_integers c = examples.small_integers

pub returns-clause-largest_integer : goal.returns-clause-largest_integer
returns-clause-largest_integer c = examples.largest_integer

pub returns-clause-smallest_integer : goal.returns-clause-smallest_integer
returns-clause-smallest_integer c = examples.smallest_integer

pub returns-clause-tokens : goal.returns-clause-tokens
returns-clause-tokens c = examples.tokens

pub returns-clause-string_behind_token : goal.returns-clause-string_behind_token
returns-clause-string_behind_token c = examples.string_behind_token

pub returns-clause-no_text : goal.returns-clause-no_text
returns-clause-no_text c = examples.no_text

pub returns-clause-innermost_open : goal.returns-clause-innermost_open
returns-clause-innermost_open c = examples.innermost_open

pub returns-clause-wrong_bracket : goal.returns-clause-wrong_bracket
returns-clause-wrong_bracket c = examples.wrong_bracket

pub returns-clause-single_point : goal.returns-clause-single_point
returns-clause-single_point c = examples.single_point

pub returns-clause-fraction : goal.returns-clause-fraction
returns-clause-fraction c = examples.fraction

pub returns-clause-out_of_range : goal.returns-clause-out_of_range
returns-clause-out_of_range c = examples.out_of_range

pub returns-clause-unknown_escape : goal.returns-clause-unknown_escape
returns-clause-unknown_escape c = examples.unknown_escape

pub returns-clause-open_string : goal.returns-clause-open_string
returns-clause-open_string c = examples.open_string

pub returns-clause-too_many_open : goal.returns-clause-too_many_open
returns-clause-too_many_open c = examples.too_many_open
