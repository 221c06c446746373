use Rattle.rdx_cli.proofs.WordExamples as words
use Rattle.rdx_cli.proofs.WorkedExamples as examples
use Rattle.rdx_cli.proofs.laws.worked_examples.Goals as goal

pub returns-clause-queries_are_answered : goal.returns-clause-queries_are_answered
returns-clause-queries_are_answered c = examples.queries_are_answered c.worked_examples-2.ensures.answers_in_order

pub returns-clause-comments_are_answered : goal.returns-clause-comments_are_answered
returns-clause-comments_are_answered c = examples.comments_are_answered c.worked_examples.ensures.comments_alone

pub returns-clause-form_is_refused : goal.returns-clause-form_is_refused
returns-clause-form_is_refused c = examples.form_is_refused

pub returns-clause-bracket_is_refused : goal.returns-clause-bracket_is_refused
returns-clause-bracket_is_refused c = examples.bracket_is_refused c.worked_examples.ensures.wrong_bracket

pub returns-clause-no_text_is_refused : goal.returns-clause-no_text_is_refused
returns-clause-no_text_is_refused c = examples.no_text_is_refused c.worked_examples.ensures.no_text

pub returns-clause-long_file_is_refused : goal.returns-clause-long_file_is_refused
returns-clause-long_file_is_refused c bytes h = examples.long_file_is_refused bytes h

pub returns-clause-step_alone : goal.returns-clause-step_alone
returns-clause-step_alone c = words.step_alone

pub returns-clause-most_tests : goal.returns-clause-most_tests
returns-clause-most_tests c = words.most_tests

pub returns-clause-no_words : goal.returns-clause-no_words
returns-clause-no_words c = words.no_words

pub returns-clause-words_behind_run : goal.returns-clause-words_behind_run
returns-clause-words_behind_run c = words.words_behind_run

pub returns-clause-zero_in_front : goal.returns-clause-zero_in_front
returns-clause-zero_in_front c = words.zero_in_front

pub returns-clause-no_tests : goal.returns-clause-no_tests
returns-clause-no_tests c = words.no_tests

pub returns-clause-too_many_tests : goal.returns-clause-too_many_tests
returns-clause-too_many_tests c = words.too_many_tests

pub returns-clause-largest_size : goal.returns-clause-largest_size
returns-clause-largest_size c = words.largest_size

pub returns-clause-hole_is_no_name : goal.returns-clause-hole_is_no_name
returns-clause-hole_is_no_name c = words.hole_is_no_name

pub returns-clause-too_large : goal.returns-clause-too_large
returns-clause-too_large c = words.too_large

pub returns-clause-zero_before_size : goal.returns-clause-zero_before_size
returns-clause-zero_before_size c = words.zero_before_size

pub returns-clause-no_size : goal.returns-clause-no_size
returns-clause-no_size c = words.no_size
