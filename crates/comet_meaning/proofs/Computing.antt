-- All that a run of a small program computes with: who unfolds `everything` unfolds each of these. Terms aren't among it,
-- since what holds of a term is known by laws alone.
use Rattle.std.specs.Fmt.{digits}
use Rattle.model_values.specs.OfCblViolations.Violations.WeightedTotal.{weighted_total_value}
use Rattle.model_view.specs.OfLayerPlan.Dependencies.{list_of}
use Rattle.model_values.specs.Dependence.{depends_through}
use Rattle.model_values.specs.VarOutcomes.{outcomes_through}
use Rattle.model_view.specs.Building.{empty_model}
use Rattle.model_view.specs.Naming.{named_cycle}
use Rattle.comet_meaning.specs.Solvers.{fresh_values}
use Rattle.comet_meaning.specs.Words.{share}
use Rattle.comet_meaning.specs.Draws.{next_word, below, draw}
use Rattle.comet_meaning.specs.Candidates.{values_now, last_form, candidates_form}
use Rattle.comet_meaning.specs.Selection.{key_form, rated_form, scanned, scan_form, chosen_of, choice_form, select_form, select_by_form}
use Rattle.comet_meaning.specs.Changes.{notice, noticed}
use Rattle.comet_meaning.specs.Events.{closed_over, run_closure, whenever_form, put_queue, put_running, next_event, run_all, run_queue}
use Rattle.comet_meaning.specs.Moves.{make_selector, neighbor_form, has_move, get_move, called_move, choose_form}
use Rattle.comet_meaning.specs.Solutions.{make_solution, restoring, restore_in, restore}
use Rattle.comet_meaning.specs.Outcome.{charge, each_in}
use Rattle.comet_meaning.specs.Cells.{look, put, in_scope, in_frame, cells, new_array, variables, new_variables, extent, count_cells, cell, put_number}
use Rattle.comet_meaning.specs.Parts.{variable_value, read, value, number, truth, bounds, condition, values, term, terms, each_term, constraint}
use Rattle.comet_meaning.specs.Taking.{read_each, read_array, taken_whole}
use Rattle.comet_meaning.specs.Operators.{unary_form, compare_form, link_form, links_form, chain_form, range_form, conditional_form}
use Rattle.comet_meaning.specs.Arrays.{list_form, index_form, cell_form, count_form}
use Rattle.comet_meaning.specs.Builtins.{builtin_form}
use Rattle.comet_meaning.specs.Generators.{bind, generated, each_tuple}
use Rattle.comet_meaning.specs.Aggregates.{element_form, aggregate_form}
use Rattle.comet_meaning.specs.Data.{next_number}
use Rattle.comet_meaning.specs.Models.{make_solver, put_evaluated, closing, close, move, assigning, assign, swapping, swap, defining, define, domain_at, domain_of}
use Rattle.comet_meaning.specs.Members.{with_system, with_objective, with_member}
use Rattle.comet_meaning.specs.Systems.{adding_system, make_system, adding_sum, make_sum, posting, post_to, posting_user, post_user_to, adding_objective, make_objective, valuing, whole_value, asking, variable_violations, delta}
use Rattle.comet_meaning.specs.Posting.{weight_form, post_one, post_taken, post_named, post_constraint, post_part}
use Rattle.comet_meaning.specs.TakingUsers.{take_user}
use Rattle.comet_meaning.specs.Methods.{method_value, object_value, asked_value, asked_values, called_form, restore_form, method_form}
use Rattle.comet_meaning.specs.Calls.{argument_form, arguments_form, body_form, call_form}
use Rattle.comet_meaning.specs.Expressions.{set_form, value_of_form, value_of_expression}
use Rattle.comet_meaning.specs.Terms.{standing}
use Rattle.comet_meaning.specs.TermForms.{linked_term, joined_form, chain_term, list_term, moving_term}
use Rattle.comet_meaning.specs.ConstraintForms.{kept_cells, kept_set, all_different_form, bounded_form, knapsack_form, multi_knapsack_form, sequence_form, constraint_call, user_places, function_form, constraint_form}
use Rattle.comet_meaning.specs.InTerms.{incremental_form, term_of_expression}
use Rattle.comet_meaning.specs.Writes.{element_of, name_target, index_target, cell_target, target_of_form, target_of_expression, old_value, write, assign_form, add_form, define_form, swap_form, write_form, step_form}
use Rattle.comet_meaning.specs.Declarations.{copied_form, scalar_form, dimensions_form, every_cell, start_number, next_cell, listed_form, started_cells, numbers_form, array_form, make_input, made_in, made_of_term, made_of_range, object_form}
use Rattle.comet_meaning.specs.Variables as variables_of
use Rattle.comet_meaning.specs.Variables.{domain_form, started_form, beginning_form, adding, new_variable, variable_in, single_form, several_form, variable_form}
use Rattle.comet_meaning.specs.Blocks.{commit_waiting, outermost, within_solver, together_form}
use Rattle.comet_meaning.specs.Printing.{array_text, variables_text, value_text, print, shown_form, print_form}
use Rattle.comet_meaning.specs.Loops.{tasks_form, if_form, if_else_form, turns, repeated, turn_form, while_form, counter_form, for_form, visited, for_all_form}
use Rattle.comet_meaning.specs.Statements.{alone_form, deed_form, return_form, action_form, meaning_of_form, meaning_of_statement}
use Rattle.comet_meaning.specs.Program.{level, meaning_of_program, run}

unfoldable pub everything : Unit {0}
unfolding digits weighted_total_value depends_through list_of outcomes_through empty_model named_cycle fresh_values share next_word below draw values_now last_form candidates_form key_form rated_form scanned scan_form chosen_of choice_form select_form select_by_form notice noticed closed_over run_closure whenever_form put_queue put_running next_event run_all run_queue make_selector neighbor_form has_move get_move called_move choose_form make_solution restoring restore_in restore charge each_in look put in_scope in_frame cells new_array variables new_variables extent count_cells cell put_number variable_value read value number truth bounds condition values term terms each_term constraint read_each read_array taken_whole unary_form compare_form link_form links_form chain_form range_form conditional_form list_form index_form cell_form count_form builtin_form bind generated each_tuple element_form aggregate_form next_number make_solver put_evaluated closing close move assigning assign swapping swap defining define domain_at domain_of with_system with_objective with_member adding_system make_system adding_sum make_sum posting post_to posting_user post_user_to adding_objective make_objective valuing whole_value asking variable_violations delta take_user weight_form post_one post_taken post_named post_constraint post_part method_value object_value asked_value asked_values called_form restore_form method_form argument_form arguments_form body_form call_form set_form value_of_form value_of_expression standing linked_term joined_form chain_term list_term moving_term kept_cells kept_set all_different_form bounded_form knapsack_form multi_knapsack_form sequence_form constraint_call user_places function_form constraint_form incremental_form term_of_expression element_of name_target index_target cell_target target_of_form target_of_expression old_value write assign_form add_form define_form swap_form write_form step_form copied_form scalar_form dimensions_form every_cell start_number next_cell listed_form started_cells numbers_form array_form make_input made_in made_of_term made_of_range object_form variables_of.next_cell domain_form started_form beginning_form adding new_variable variable_in single_form several_form variable_form commit_waiting outermost within_solver together_form array_text variables_text value_text print shown_form print_form tasks_form if_form if_else_form turns repeated turn_form while_form counter_form for_form visited for_all_form alone_form deed_form return_form action_form meaning_of_form meaning_of_statement level meaning_of_program run
everything = tt
