use Rattle.rdx_lang.proofs.Examples.{two_equal, two_different, two_marks, name_around, name_around_itself, forgotten, once_for_two, mentioned, except_mentions_none, nonterminals_are_not_mentioned, prefix_first, items_decide, first_pair_decides, name_keeps_the_term, list_takes_off}
use Rattle.rdx_lang.proofs.Examples.{in_each_place, at_either_hole, hidden_splits_nothing, one_item_splits, never_at_both, context_in_context, name_of_a_term, equal_contexts, contexts_with_marks, empty_through_another, empty_leads_on, context_takes_off}
use Rattle.rdx_lang.proofs.RepetitionExamples.{each_division, no_turn, equal_lengths, equal_sequences, sequence_of_sequences, one_turn_splits}
use Rattle.rdx_lang.proofs.laws.worked_examples.Goals as goal

pub returns-clause-two_equal : goal.returns-clause-two_equal
returns-clause-two_equal c = two_equal

pub returns-clause-two_different : goal.returns-clause-two_different
returns-clause-two_different c = two_different

pub returns-clause-two_marks : goal.returns-clause-two_marks
returns-clause-two_marks c = two_marks

pub returns-clause-name_around : goal.returns-clause-name_around
returns-clause-name_around c = name_around

pub returns-clause-name_around_itself : goal.returns-clause-name_around_itself
returns-clause-name_around_itself c = name_around_itself

pub returns-clause-forgotten : goal.returns-clause-forgotten
returns-clause-forgotten c = forgotten

pub returns-clause-once_for_two : goal.returns-clause-once_for_two
returns-clause-once_for_two c = once_for_two

pub returns-clause-mentioned : goal.returns-clause-mentioned
returns-clause-mentioned c = mentioned

pub returns-clause-except_mentions_none : goal.returns-clause-except_mentions_none
returns-clause-except_mentions_none c = except_mentions_none

pub returns-clause-nonterminals_are_not_mentioned : goal.returns-clause-nonterminals_are_not_mentioned
returns-clause-nonterminals_are_not_mentioned c = nonterminals_are_not_mentioned

pub returns-clause-prefix_first : goal.returns-clause-prefix_first
returns-clause-prefix_first c = prefix_first

pub returns-clause-items_decide : goal.returns-clause-items_decide
returns-clause-items_decide c = items_decide

pub returns-clause-first_pair_decides : goal.returns-clause-first_pair_decides
returns-clause-first_pair_decides c = first_pair_decides

pub returns-clause-name_keeps_the_term : goal.returns-clause-name_keeps_the_term
returns-clause-name_keeps_the_term c = name_keeps_the_term

pub returns-clause-list_takes_off : goal.returns-clause-list_takes_off
returns-clause-list_takes_off c = list_takes_off

pub returns-clause-in_each_place : goal.returns-clause-in_each_place
returns-clause-in_each_place c = in_each_place

pub returns-clause-at_either_hole : goal.returns-clause-at_either_hole
returns-clause-at_either_hole c = at_either_hole

pub returns-clause-hidden_splits_nothing : goal.returns-clause-hidden_splits_nothing
returns-clause-hidden_splits_nothing c = hidden_splits_nothing

pub returns-clause-one_item_splits : goal.returns-clause-one_item_splits
returns-clause-one_item_splits c = one_item_splits

pub returns-clause-never_at_both : goal.returns-clause-never_at_both
returns-clause-never_at_both c = never_at_both

pub returns-clause-context_in_context : goal.returns-clause-context_in_context
returns-clause-context_in_context c = context_in_context

pub returns-clause-name_of_a_term : goal.returns-clause-name_of_a_term
returns-clause-name_of_a_term c = name_of_a_term

pub returns-clause-equal_contexts : goal.returns-clause-equal_contexts
returns-clause-equal_contexts c = equal_contexts

pub returns-clause-contexts_with_marks : goal.returns-clause-contexts_with_marks
returns-clause-contexts_with_marks c = contexts_with_marks

pub returns-clause-empty_through_another : goal.returns-clause-empty_through_another
returns-clause-empty_through_another c = empty_through_another

pub returns-clause-empty_leads_on : goal.returns-clause-empty_leads_on
returns-clause-empty_leads_on c = empty_leads_on

pub returns-clause-context_takes_off : goal.returns-clause-context_takes_off
returns-clause-context_takes_off c = context_takes_off

pub returns-clause-each_division : goal.returns-clause-each_division
returns-clause-each_division c = each_division

pub returns-clause-no_turn : goal.returns-clause-no_turn
returns-clause-no_turn c = no_turn

pub returns-clause-equal_lengths : goal.returns-clause-equal_lengths
returns-clause-equal_lengths c = equal_lengths

pub returns-clause-equal_sequences : goal.returns-clause-equal_sequences
returns-clause-equal_sequences c = equal_sequences

pub returns-clause-sequence_of_sequences : goal.returns-clause-sequence_of_sequences
returns-clause-sequence_of_sequences c = sequence_of_sequences

pub returns-clause-one_turn_splits : goal.returns-clause-one_turn_splits
returns-clause-one_turn_splits c = one_turn_splits
