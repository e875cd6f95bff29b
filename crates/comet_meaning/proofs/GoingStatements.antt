-- Statements and whole programs go onward.
use Rattle.std.proofs.Common.{◌≤◌, refl, ℕ, zero, suc, ℤ, List, [], ◌∷◌, Option, Some, None, arith}
use Rattle.cbl_base.specs.declared.place.Place.{Place}
use Rattle.term_model.specs.declared.term.Term.{Term}
use Rattle.comet_syntax.specs.declared.tree.statements.Step.{Step}
use Rattle.comet_syntax.specs.declared.tree.statements.WriteOperator.{WriteOperator}
use Rattle.comet_syntax.specs.declared.tree.statements.WriteOperator.TheVariants as writes
use Rattle.checked_tree.specs.declared.kind.Kind.{Kind}
use Rattle.checked_tree.specs.declared.kind.Kind.TheVariants as kinds
use Rattle.checked_tree.specs.declared.expressions.Slot.{Slot}
use Rattle.checked_tree.specs.Shape as shapes
use Rattle.checked_tree.specs.Shape.{Shape, Seen, whole, optional}
use Rattle.checked_tree.specs.Actions as deeds
use Rattle.checked_tree.specs.Actions.{Deed, Shown}
use Rattle.checked_tree.specs.Tasks as works
use Rattle.checked_tree.specs.Tasks.{Work, Counted, Whole}
use Rattle.comet_meaning.specs.Values.{Value, Array, Row, Variables, number_of}
use Rattle.comet_meaning.specs.State.{State, left}
use Rattle.comet_meaning.specs.Outcome.{Outcome, Went, Halted, Act}
use Rattle.comet_meaning.specs.Levels.{Code, Level, Flow, Next, Returned, Target, Nowhere, Name, Element, Moved}
use Rattle.comet_meaning.specs.Writes.{element_of, name_target, index_target, cell_target, target_of_form, target_of_expression, old_value, write, assign_form, changed, add_form, defined_at, define_form, swapped_at, swap_form, write_form, stepped, step_form}
use Rattle.comet_meaning.specs.Printing.{array_text, variables_text, value_text, print, shown_form, print_form}
use Rattle.comet_meaning.specs.Loops.{tasks, then_next, tasks_form, if_form, if_else_form, behind_body, turn_form, while_form, counter_form, for_form, is_next, visited, for_all_form}
use Rattle.comet_meaning.specs.Statements.{alone_form, deed_form, return_form, action_form, step_of, meaning_of_form, meaning_of_statement}
use Rattle.comet_meaning.specs.Program.{level, meaning_of_program, meant, run}
use Rattle.comet_meaning.specs.Onward.{IsOnward, IsFront, left_by, GoesOn}
use Rattle.comet_meaning.proofs.GoingOn.{goes_then, goes_give, goes_fault, goes_if, goes_give_or, goes_charge, goes_look, goes_put, goes_cells, goes_variables, goes_extent, goes_cell_of, goes_found_at, goes_put_number}
use Rattle.comet_meaning.proofs.GoingParts.{LevelGoesOn, goes_value, goes_number, goes_truth, goes_condition, goes_one_term, goes_each_tuple, goes_read_each}
use Rattle.comet_meaning.proofs.GoingModels.{goes_assign, goes_swap, goes_define}
use Rattle.comet_meaning.proofs.GoingEvents.{goes_repeated, goes_noticed, goes_whenever, goes_behind_commit}
use Rattle.comet_meaning.proofs.GoingSearch.{goes_select, goes_select_by, goes_neighbor, goes_choose}
use Rattle.comet_meaning.proofs.GoingExpressions.{goes_expression}
use Rattle.comet_meaning.proofs.GoingConstraints.{goes_term}
use Rattle.comet_meaning.proofs.GoingDeclarations.{goes_scalar, goes_array, goes_object}
use Rattle.comet_meaning.proofs.GoingVariables.{goes_variable, goes_together}

-- writes

pub goes_name_target : (k : Kind) (slot : Slot) → GoesOn (name_target k slot)
unfolding name_target
goes_name_target kinds.Variable slot = goes_then (goes_look slot) (λ v. goes_give)
goes_name_target kinds.SetVariable slot = goes_then (goes_look slot) (λ v. goes_give)
goes_name_target k slot = goes_give

pub goes_element : (v : Value) (k : ℕ) → GoesOn (element_of v k)
unfolding element_of
goes_element (Array n) k = goes_give
goes_element (Variables n) k = goes_then (goes_cell_of (Variables n) k) (λ v. goes_give)
goes_element v k = goes_give

pub goes_index_target : (l : Level) → LevelGoesOn l → (at : Place) (a i : Shape) → GoesOn (index_target l at a i)
unfolding index_target
goes_index_target l h at a i =
    goes_then (goes_value l h a) (λ v. goes_then (goes_number l h i) (λ z. goes_then (goes_extent v) (λ b. goes_then (goes_found_at at _) (λ k. goes_element v k))))

pub goes_cell_target : (l : Level) → LevelGoesOn l → (at : Place) (a i j : Shape) → GoesOn (cell_target l at a i j)
unfolding cell_target
goes_cell_target l h at a i j =
    goes_then (goes_value l h a) (λ v. goes_then (goes_number l h i) (λ y. goes_then (goes_number l h j) (λ z. goes_then (goes_extent v) (λ b. goes_then (goes_found_at at _) (λ k. goes_element v k)))))

pub goes_target_of_form : (l : Level) → LevelGoesOn l → (at : Place) (k : Kind) (form : Shape) → GoesOn (target_of_form l at k form)
unfolding target_of_form
goes_target_of_form l h at k (shapes.name slot) = goes_name_target k slot
goes_target_of_form l h at k (shapes.parentheses e) = h.target e
goes_target_of_form l h at k (shapes.index a i) = goes_index_target l h at a i
goes_target_of_form l h at k (shapes.cell a i j) = goes_cell_target l h at a i j
goes_target_of_form l h at k form = goes_give

pub goes_target : (l : Level) → LevelGoesOn l → (e : Shape) → GoesOn (target_of_expression l e)
unfolding target_of_expression
goes_target l h (shapes.typed start at kind moving form) = goes_target_of_form l h at kind form
goes_target l h e = goes_give

pub goes_old_value : (t : Target) → GoesOn (old_value t)
unfolding old_value
goes_old_value (Name slot) = goes_look slot
goes_old_value (Element n k) = goes_then (goes_cells (Array n)) (λ c. goes_give)
goes_old_value t = goes_give

pub goes_write : (at : Place) (t : Target) (v : Value) → GoesOn (write at t v)
unfolding write
goes_write at Nowhere v = goes_give
goes_write at (Name slot) v = goes_put slot v
goes_write at (Element n k) v = goes_put_number n k _
goes_write at (Moved x) v = goes_noticed x.solver (goes_assign at x _)

pub goes_assigning : (l : Level) → LevelGoesOn l → (at : Place) (t e : Seen) → GoesOn (assign_form l at t e)
unfolding assign_form
goes_assigning l h at t e =
    goes_then (h.target (whole t)) (λ x. goes_then (goes_value l h (whole e)) (λ v. goes_then (goes_write at x _) (λ _. goes_behind_commit l h at x)))

pub goes_changed : (at : Place) (t : Target) (z : ℤ) → GoesOn (changed at t z)
goes_changed at t z = goes_then (goes_give_or at _) (λ x. goes_write at t _)

pub goes_adding : (l : Level) → LevelGoesOn l → (at : Place) (f : ℤ → ℤ → ℤ) (t e : Seen) → GoesOn (add_form l at f t e)
unfolding add_form
goes_adding l h at f t e =
    goes_then (h.target (whole t)) (λ x. goes_then (goes_old_value x) (λ old. goes_then (goes_number l h (whole e)) (λ z. goes_changed at x (f (number_of old) z))))

pub goes_defined_at : (at : Place) (t : Target) (u : Term) → GoesOn (defined_at at t u)
goes_defined_at at (Moved x) u = goes_define at x u
goes_defined_at at t u = goes_give

pub goes_definition : (l : Level) → LevelGoesOn l → (at : Place) (t e : Seen) → GoesOn (define_form l at t e)
unfolding define_form
goes_definition l h at t e = goes_then (h.target (whole t)) (λ x. goes_then (goes_one_term l h (whole e)) (λ u. goes_defined_at at x u))

pub goes_swapped_at : (at : Place) (t u : Target) → GoesOn (swapped_at at t u)
goes_swapped_at at (Moved x) (Moved y) = goes_noticed x.solver (goes_swap at x y)
goes_swapped_at at t u = goes_give

pub goes_swapping : (l : Level) → LevelGoesOn l → (at : Place) (a b : Seen) → GoesOn (swap_form l at a b)
unfolding swap_form
goes_swapping l h at a b =
    goes_then (h.target (whole a)) (λ x. goes_then (h.target (whole b)) (λ y. goes_then (goes_swapped_at at x y) (λ _. goes_behind_commit l h at x)))

pub goes_writing : (l : Level) → LevelGoesOn l → (at : Place) (o : WriteOperator) (t e : Seen) → GoesOn (write_form l at o t e)
unfolding write_form
goes_writing l h at writes.Set t e = goes_assigning l h at t e
goes_writing l h at writes.Assign t e = goes_assigning l h at t e
goes_writing l h at writes.Add t e = goes_adding l h at _ t e
goes_writing l h at writes.Subtract t e = goes_adding l h at _ t e
goes_writing l h at writes.Define t e = goes_definition l h at t e

pub goes_stepping : (l : Level) → LevelGoesOn l → (at : Place) (x : Step) (t : Seen) → GoesOn (step_form l at x t)
unfolding step_form
goes_stepping l h at x t = goes_then (h.target (whole t)) (λ y. goes_then (goes_old_value y) (λ old. goes_changed at y (stepped x (number_of old))))

-- printing

pub goes_array_text : (at : Place) (v : Value) → GoesOn (array_text at v)
unfolding array_text
goes_array_text at v = goes_then (goes_cells v) (λ c. goes_then (goes_charge _ at) (λ _. goes_give))

pub goes_variables_text : (at : Place) (v : Value) → GoesOn (variables_text at v)
unfolding variables_text
goes_variables_text at v =
    goes_then (goes_variables v) (λ c. goes_then (goes_charge _ at) (λ _. goes_then (goes_read_each at c.variables []) (λ vs. goes_give)))

pub goes_value_text : (at : Place) (v : Value) → GoesOn (value_text at v)
unfolding value_text
goes_value_text at (Array n) = goes_array_text at (Array n)
goes_value_text at (Row xs) = goes_array_text at (Row xs)
goes_value_text at (Variables n) = goes_variables_text at (Variables n)
goes_value_text at v = goes_give

pub goes_print : (text : List ℕ) → GoesOn (print text)
unfolding print
goes_print text = record { from = λ s. record { fuel = omega arith; printed = (text, refl) } }

pub goes_shown : (l : Level) → LevelGoesOn l → (x : Shown) → GoesOn (shown_form l x)
unfolding shown_form
goes_shown l h (deeds.value e) = goes_then (goes_value l h (whole e)) (λ v. goes_then (goes_value_text e.place v) (λ text. goes_print text))
goes_shown l h (deeds.text t) = goes_print t
goes_shown l h deeds.end_line = goes_print (10 ∷ [])

pub goes_printing : (l : Level) → LevelGoesOn l → (xs : List Shown) → GoesOn (print_form l xs)
unfolding print_form
goes_printing l h [] = goes_give
goes_printing l h (x ∷ xs) = goes_then (goes_shown l h x) (λ _. goes_printing l h xs)

-- statements in statements

pub goes_then_next : {next : Act Flow} → GoesOn next → (flow : Flow) → GoesOn (then_next next flow)
goes_then_next k Next = k
goes_then_next k (Returned v) = goes_give

pub goes_tasks : (l : Level) → LevelGoesOn l → (ws : List Work) → GoesOn (tasks_form l ws)
unfolding tasks_form
goes_tasks l h [] = goes_give
goes_tasks l h (w ∷ ws) = goes_then (h.stmt w) (λ flow. goes_then_next (goes_tasks l h ws) flow)

pub goes_when : (l : Level) → LevelGoesOn l → (e : Seen) (a : Work) → GoesOn (if_form l e a)
unfolding if_form
goes_when l h e a = goes_then (goes_truth l h (whole e)) (λ t. goes_if t (h.stmt a) goes_give)

pub goes_when_else : (l : Level) → LevelGoesOn l → (e : Seen) (a b : Work) → GoesOn (if_else_form l e a b)
unfolding if_else_form
goes_when_else l h e a b = goes_then (goes_truth l h (whole e)) (λ t. goes_if t (h.stmt a) (h.stmt b))

pub goes_behind_body : {step : Act (Unit {0})} → GoesOn step → (flow : Flow) → GoesOn (behind_body step flow)
goes_behind_body k Next = goes_then k (λ _. goes_give)
goes_behind_body k (Returned v) = goes_give

pub goes_turn : (l : Level) → LevelGoesOn l → (at : Place) (test : Shape) {step : Act (Unit {0})} → GoesOn step → (body : Work) → GoesOn (turn_form l at test step body)
unfolding turn_form
goes_turn l h at test k body =
    goes_then (goes_charge 1 at) (λ _. goes_then (goes_condition l h test) (λ t. goes_if t (goes_then (h.stmt body) (λ flow. goes_behind_body k flow)) goes_give))

pub goes_while : (l : Level) → LevelGoesOn l → (at : Place) (test : Seen) (body : Work) → GoesOn (while_form l at test body)
unfolding while_form
goes_while l h at test body = goes_repeated at (goes_turn l h at (whole test) goes_give body)

pub goes_counter : (l : Level) → LevelGoesOn l → (c : Option Counted) → GoesOn (counter_form l c)
unfolding counter_form
goes_counter l h None = goes_give
goes_counter l h (Some c) = goes_then (goes_number l h (whole c.start)) (λ z. goes_put c.slot _)

pub goes_for : (l : Level) → LevelGoesOn l → (at : Place) (c : Option Counted) (test : Option Seen) {step : Act (Unit {0})} → GoesOn step → (body : Work) → GoesOn (for_form l at c test step body)
unfolding for_form
goes_for l h at c test k body = goes_then (goes_counter l h c) (λ _. goes_repeated at (goes_turn l h at (optional whole test) k body))

pub goes_visited : (l : Level) → LevelGoesOn l → (c : Shape) (body : Work) (v : ℤ) (flow : Flow) → GoesOn (visited l c body v flow)
unfolding visited
goes_visited l h c body v flow = goes_then (goes_condition l h c) (λ t. goes_if t (h.stmt body) goes_give)

pub goes_for_all : (l : Level) → LevelGoesOn l → (at : Place) (gs : List Shape) (c : Option Seen) (body : Work) → GoesOn (for_all_form l at gs c body)
unfolding for_all_form
goes_for_all l h at gs c body = goes_each_tuple l h at is_next _ [] gs Next (λ v flow. goes_visited l h (optional whole c) body v flow)

-- statements

pub goes_alone : (l : Level) → LevelGoesOn l → (e : Seen) → GoesOn (alone_form l e)
unfolding alone_form
goes_alone l h e = goes_then (goes_value l h (whole e)) (λ v. goes_give)

pub goes_deed : (l : Level) → LevelGoesOn l → (at : Place) (d : Deed) → GoesOn (deed_form l at d)
unfolding deed_form
goes_deed l h at deeds.nothing = goes_give
goes_deed l h at (deeds.declaring slot k e) = goes_scalar l h at slot k e
goes_deed l h at (deeds.declaring_array slot k sizes x) = goes_array l h at slot sizes x
goes_deed l h at (deeds.declaring_variable v) = goes_variable l h at v
goes_deed l h at (deeds.making slot k es) = goes_object l h at slot k es
goes_deed l h at (deeds.writing o t e) = goes_writing l h at o t e
goes_deed l h at (deeds.swapping a b) = goes_swapping l h at a b
goes_deed l h at (deeds.stepping x t) = goes_stepping l h at x t
goes_deed l h at (deeds.doing e) = goes_alone l h e
goes_deed l h at (deeds.choosing e) = goes_choose l h e
goes_deed l h at (deeds.printing xs) = goes_printing l h xs
goes_deed l h at d = goes_give

pub goes_return : (l : Level) → LevelGoesOn l → (e : Option Seen) → GoesOn (return_form l e)
unfolding return_form
goes_return l h None = goes_give
goes_return l h (Some e) = goes_then (goes_value l h (whole e)) (λ v. goes_give)

pub goes_action : (l : Level) → LevelGoesOn l → (at : Place) (d : Deed) → GoesOn (action_form l at d)
unfolding action_form
goes_action l h at (deeds.returning e) = goes_return l h e
goes_action l h at d = goes_then (goes_deed l h at d) (λ _. goes_give)

pub goes_step : (l : Level) → LevelGoesOn l → (at : Place) (d : Option Deed) → GoesOn (step_of l at d)
goes_step l h at None = goes_give
goes_step l h at (Some d) = goes_deed l h at d

pub goes_meaning_of_form : (l : Level) → LevelGoesOn l → (at : Place) (w : Work) → GoesOn (meaning_of_form l at w)
unfolding meaning_of_form
goes_meaning_of_form l h at (works.action d) = goes_action l h at d
goes_meaning_of_form l h at (works.block ws) = goes_tasks l h (tasks ws)
goes_meaning_of_form l h at (works.when e a) = goes_when l h e a
goes_meaning_of_form l h at (works.when_else e a b) = goes_when_else l h e a b
goes_meaning_of_form l h at (works.loop test body) = goes_while l h at test body
goes_meaning_of_form l h at (works.counting c test step body) = goes_for l h at c test (goes_step l h at step) body
goes_meaning_of_form l h at (works.for_all gs c body) = goes_for_all l h at gs c body
goes_meaning_of_form l h at (works.selecting gs c body) = goes_select l h at gs c body
goes_meaning_of_form l h at (works.selecting_by x gs c key body) = goes_select_by l h at x gs c key body
goes_meaning_of_form l h at (works.submitting e slot body) = goes_neighbor l h e slot body
goes_meaning_of_form l h at (works.watching x names body) = goes_whenever l h x names body
goes_meaning_of_form l h at (works.at_once mode slot body) = goes_together l h at slot body
goes_meaning_of_form l h at w = goes_give

pub goes_statement : (l : Level) → LevelGoesOn l → (w : Work) → GoesOn (meaning_of_statement l w)
unfolding meaning_of_statement
goes_statement l h (works.task at w) = goes_then (goes_charge 1 at) (λ _. goes_meaning_of_form l h at w)
goes_statement l h w = goes_give

-- programs

pub goes_level : (c : Code) (d : ℕ) → LevelGoesOn (level c d)
unfolding level
goes_level c zero = record { expr = λ e. goes_fault; target = λ e. goes_fault; term = λ e. goes_fault; stmt = λ w. goes_fault }
goes_level c (suc d) = record {
  expr = λ e. goes_expression c (level c d) (goes_level c d) e;
  target = λ e. goes_target (level c d) (goes_level c d) e;
  term = λ e. goes_term c (level c d) (goes_level c d) e;
  stmt = λ w. goes_statement (level c d) (goes_level c d) w;
}

pub goes_program : (p : Whole) → GoesOn (meaning_of_program p)
unfolding meaning_of_program
goes_program p = goes_tasks _ (goes_level _ _) p.tasks

meant_fuel : {A : Type 0} (s : State) (o : Outcome A) → IsOnward (left s) (left_by o) → (meant o).fuel ≤ s.fuel
meant_fuel s (Went x t) h = h.fuel
meant_fuel s (Halted e t) h = h.fuel

meant_printed : {A : Type 0} (s : State) (o : Outcome A) → IsOnward (left s) (left_by o) → IsFront s.printed (meant o).printed
meant_printed s (Went x t) h = h.printed
meant_printed s (Halted e t) h = h.printed

pub run_fuel : (p : Whole) (s : State) → (run p s).fuel ≤ s.fuel
unfolding run
run_fuel p s = meant_fuel s (meaning_of_program p s) ((goes_program p).from s)

pub run_printed : (p : Whole) (s : State) → IsFront s.printed (run p s).printed
unfolding run
run_printed p s = meant_printed s (meaning_of_program p s) ((goes_program p).from s)
