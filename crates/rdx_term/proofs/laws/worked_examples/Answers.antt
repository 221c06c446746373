use Rattle.rdx_term.proofs.Examples.{printed_list, printed_context, one_hole, two_holes, mark_at_no_context, bare_forgets, names, numbers_are_no_names, others_are_no_names, hole_is_no_name, depth_limit, node_limit}
use Rattle.rdx_term.proofs.laws.worked_examples.Goals as goal

pub returns-clause-printed_list : goal.returns-clause-printed_list
returns-clause-printed_list c = printed_list

pub returns-clause-printed_context : goal.returns-clause-printed_context
returns-clause-printed_context c = printed_context

pub returns-clause-one_hole : goal.returns-clause-one_hole
returns-clause-one_hole c = one_hole

pub returns-clause-two_holes : goal.returns-clause-two_holes
returns-clause-two_holes c = two_holes

pub returns-clause-mark_at_no_context : goal.returns-clause-mark_at_no_context
returns-clause-mark_at_no_context c = mark_at_no_context

pub returns-clause-bare_forgets : goal.returns-clause-bare_forgets
returns-clause-bare_forgets c = bare_forgets

pub returns-clause-names : goal.returns-clause-names
returns-clause-names c = names

pub returns-clause-numbers_are_no_names : goal.returns-clause-numbers_are_no_names
returns-clause-numbers_are_no_names c = numbers_are_no_names

pub returns-clause-others_are_no_names : goal.returns-clause-others_are_no_names
returns-clause-others_are_no_names c = others_are_no_names

pub returns-clause-hole_is_no_name : goal.returns-clause-hole_is_no_name
returns-clause-hole_is_no_name c = hole_is_no_name

pub returns-clause-depth_limit : goal.returns-clause-depth_limit
returns-clause-depth_limit c = depth_limit

pub returns-clause-node_limit : goal.returns-clause-node_limit
returns-clause-node_limit c = node_limit
