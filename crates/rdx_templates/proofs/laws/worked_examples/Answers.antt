use Rattle.rdx_templates.proofs.Examples.{repeats, fills, stands_for_itself, keyword_refused, keyword_first, shape_refused, depth_refused, undriven_refused, calls, lists_behind, evaluates, escape_refused, count_refused, bare_ellipsis_refused}
use Rattle.rdx_templates.proofs.laws.worked_examples.Goals as goal

pub returns-clause-repeats : goal.returns-clause-repeats
returns-clause-repeats c = repeats

pub returns-clause-fills : goal.returns-clause-fills
returns-clause-fills c = fills

pub returns-clause-stands_for_itself : goal.returns-clause-stands_for_itself
returns-clause-stands_for_itself c = stands_for_itself

pub returns-clause-keyword : goal.returns-clause-keyword
returns-clause-keyword c = keyword_refused

pub returns-clause-keyword_first : goal.returns-clause-keyword_first
returns-clause-keyword_first c = keyword_first

pub returns-clause-shape : goal.returns-clause-shape
returns-clause-shape c = shape_refused

pub returns-clause-depth : goal.returns-clause-depth
returns-clause-depth c = depth_refused

pub returns-clause-undriven : goal.returns-clause-undriven
returns-clause-undriven c = undriven_refused

pub returns-clause-calls : goal.returns-clause-calls
returns-clause-calls c = calls

pub returns-clause-lists_behind : goal.returns-clause-lists_behind
returns-clause-lists_behind c = lists_behind

pub returns-clause-evaluates : goal.returns-clause-evaluates
returns-clause-evaluates c = evaluates

pub returns-clause-escape : goal.returns-clause-escape
returns-clause-escape c = escape_refused

pub returns-clause-count : goal.returns-clause-count
returns-clause-count c = count_refused

pub returns-clause-bare_ellipsis : goal.returns-clause-bare_ellipsis
returns-clause-bare_ellipsis c = bare_ellipsis_refused
