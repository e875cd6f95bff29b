-- Each act on systems and objectives in a state is a change of one solver, or a question to one.
use Rattle.std.proofs.Common.{◌≡◌, refl, sym, ◌∙◌, ap, ℕ, ℤ, pos, false, ◌&&◌, List, [], ◌∷◌, length, Option, Result, Ok, arith, rules}
use Rattle.std.specs.Prelude.{int_le}
use Rattle.std.specs.List.{list_all}
use Rattle.cbl_base.specs.declared.ids.VarId.{VarId}
use Rattle.cbl_base.specs.declared.place.Place.{Place}
use Rattle.cbl_base.specs.declared.faults.Limit.TheVariants.{TermNodes}
use Rattle.cbl_base.specs.declared.faults.RunFault.TheVariants.{AlreadyClosed, NotClosed, OutOfRange, TooMany, WrongSolver}
use Rattle.posted_users.specs.KeptRule.{KeptRule, users_of}
use Rattle.term_model.specs.declared.posting.Side.TheVariants.{Systems, Objectives}
use Rattle.term_model.specs.declared.term.Term.{Term}
use Rattle.model_values.specs.Delta.{value_of}
use Rattle.model_values.specs.declared.asked.AskStop.{AskStop}
use Rattle.model_values.specs.declared.deltas.Move.{Move}
use Rattle.model_values.specs.declared.wholes.Whole.{Whole}
use Rattle.model_values.specs.declared.wholes.Whole.TheVariants as wholes
use Rattle.model_view.specs.Building.{empty_model}
use Rattle.model_view.specs.Variables.{all_variables}
use Rattle.comet_meaning.specs.Members.{with_objective, with_system}
use Rattle.comet_meaning.specs.Values.{Nothing, Number, System, Objective}
use Rattle.comet_meaning.specs.State.{State, left}
use Rattle.comet_meaning.specs.Outcome.{Faulted, Halted, ◌>>=◌, give, give_or_met, unless}
use Rattle.comet_meaning.specs.Solvers.{SolverState, new_solver}
use Rattle.comet_meaning.specs.Parts.{solver_at}
use Rattle.comet_meaning.specs.Models.{owns, has_room}
use Rattle.comet_meaning.specs.Systems.{adding_objective, adding_sum, adding_system, asking, delta, delta_answer, first_variable, give_asked, has_whole, make_objective, make_sum, make_system, number_for, objective_by, post_to, posted_in, posting, posting_user, post_user_to, user_node, valuing, variable_violations, violations_answer, whole_value, with_rule}
use Rattle.run_solvers.specs.Changing.{changed, objective_one, posted_one, posted_user_one, refused, total_one}
use Rattle.run_solvers.proofs.Acts.{tested, tested_not, then_given}
use Rattle.run_solvers.proofs.FoundSolvers.{IsNoCycle, either}

pub makes_system : (at : Place) (k : ℕ) (s : State) → make_system at k s ≡ changed (System k (length (solver_at s k).model.systems.items)) k (total_one at Systems (solver_at s k)) s
unfolding make_system adding_system
makes_system at k s =
    let m = solver_at s k in tested_not m.closed at AlreadyClosed (System k (length m.model.systems.items)) k _ (Ok (record m { model = with_system m.model at })) s refl

pub makes_sum : (at : Place) (k : ℕ) (s : State) → make_sum at k s ≡ changed (Objective k (length (solver_at s k).model.objectives.items)) k (total_one at Objectives (solver_at s k)) s
unfolding make_sum adding_sum
makes_sum at k s =
    let m = solver_at s k in tested_not m.closed at AlreadyClosed (Objective k (length m.model.objectives.items)) k _ (Ok (record m { model = with_objective m.model at })) s refl

posts_one : (at : Place) (k : ℕ) (w : Whole) (t : Term) (weight : ℤ) (m : SolverState) (s : State) → posting at k w t weight m s ≡ changed tt k (posted_one at k w t weight m) s
unfolding posting
posts_one at k w t weight m s =
    tested_not m.closed at AlreadyClosed tt k _ _ s
    (tested (has_whole m w && all_variables (owns k m) t) at WrongSolver tt k _ _ s
    (tested (int_le (pos 0) weight) at OutOfRange tt k _ _ s
    (tested (has_room m (number_for m t)) at (TooMany TermNodes) tt k _ (Ok (posted_in m w t weight)) s refl)))

pub posts : (at : Place) (t : Term) (weight : ℤ) (k : ℕ) (w : Whole) (s : State) → post_to at t weight k w s ≡ changed Nothing k (posted_one at k w t weight (solver_at s k)) s
unfolding post_to
posts at t weight k w s = let m = solver_at s k in then_given (posting at k w t weight m) Nothing k (posted_one at k w t weight m) s (posts_one at k w t weight m s)

pub posts_user : (at : Place) (rule : KeptRule) (ts : List Term) (weight : ℤ) (k : ℕ) (w : Whole) (s : State) → post_user_to at rule ts weight k w s ≡ changed Nothing k (posted_user_one at k w rule ts weight (solver_at s k)) s
unfolding post_user_to posting_user
posts_user at rule ts weight k w s =
    let m = solver_at s k in
    let t = user_node ts m in
    let more = with_rule rule m in then_given (posting at k w t weight more) Nothing k (posted_one at k w t weight more) s (posts_one at k w t weight more s)

pub makes_objective : (at : Place) (k : ℕ) (t : Term) (m : SolverState) (s : State) → adding_objective at k t m s ≡ changed (Objective k (length m.model.objectives.items)) k (objective_one at k t m) s
unfolding adding_objective
makes_objective at k t m s =
    let n = length m.model.objectives.items in
    let more = record m { model = with_objective m.model at } in
    tested_not m.closed at AlreadyClosed (Objective k n) k _ (posted_one at k (wholes.Objective n) t (pos 1) more) s
    (then_given (posting at k (wholes.Objective n) t (pos 1) more) (Objective k n) k (posted_one at k (wholes.Objective n) t (pos 1) more) s (posts_one at k (wholes.Objective n) t (pos 1) more s))

-- none ends with a cycle

pub total_none : (at : Place) (m : SolverState) → IsNoCycle (total_one at Systems m)
total_none at m = either m.closed _ _ tt tt

pub sum_none : (at : Place) (m : SolverState) → IsNoCycle (total_one at Objectives m)
sum_none at m = either m.closed _ _ tt tt

pub posted_none : (at : Place) (k : ℕ) (w : Whole) (t : Term) (weight : ℤ) (m : SolverState) → IsNoCycle (posted_one at k w t weight m)
posted_none at k w t weight m =
    either m.closed _ _ tt (either (has_whole m w && all_variables (owns k m) t) _ _ (either (int_le (pos 0) weight) _ _ (either (has_room m (number_for m t)) _ _ tt tt) tt) tt)

pub posted_user_none : (at : Place) (k : ℕ) (w : Whole) (rule : KeptRule) (ts : List Term) (weight : ℤ) (m : SolverState) → IsNoCycle (posted_user_one at k w rule ts weight m)
posted_user_none at k w rule ts weight m = posted_none at k w (user_node ts m) weight (with_rule rule m)

pub objective_none : (at : Place) (k : ℕ) (t : Term) (m : SolverState) → IsNoCycle (objective_one at k t m)
objective_none at k t m =
    either m.closed _ _ tt (posted_none at k (wholes.Objective (length m.model.objectives.items)) t (pos 1) (record m { model = with_objective m.model at }))

-- ---- one that isn't there

has_nothing : (w : Whole) → has_whole new_solver w ≡ false
unfolding empty_model
has_nothing (wholes.System i) = search (rules, arith)
has_nothing (wholes.Objective i) = search (rules, arith)

pub posted_nowhere : (at : Place) (k : ℕ) (w : Whole) (t : Term) (weight : ℤ) (m : SolverState) → m ≡ new_solver → posted_one at k w t weight m ≡ refused at WrongSolver
posted_nowhere at k w t weight m e = rw (e, has_nothing w) refl

posted_away : (at : Place) (k : ℕ) (w : Whole) (t : Term) (weight : ℤ) (m : SolverState) → m.closed ≡ false → has_whole m w ≡ false → posted_one at k w t weight m ≡ refused at WrongSolver
posted_away at k w t weight m open_ away = rw (open_, away) refl

nothing_with : (rule : KeptRule) (w : Whole) → has_whole (with_rule rule new_solver) w ≡ false
nothing_with rule (wholes.System i) = has_nothing (wholes.System i)
nothing_with rule (wholes.Objective i) = has_nothing (wholes.Objective i)

pub posted_user_nowhere : (at : Place) (k : ℕ) (w : Whole) (rule : KeptRule) (ts : List Term) (weight : ℤ) (m : SolverState) → m ≡ new_solver → posted_user_one at k w rule ts weight m ≡ refused at WrongSolver
posted_user_nowhere at k w rule ts weight m e =
    ap (λ (n : SolverState). posted_user_one at k w rule ts weight n) e ∙ posted_away at k w (user_node ts new_solver) weight (with_rule rule new_solver) refl (nothing_with rule w)

asked_nowhere : (at : Place) (k : ℕ) (w : Whole) (xs : List VarId) (answer : Result ℤ AskStop) (m : SolverState) (s : State) → m ≡ new_solver → asking at k w xs answer m s ≡ Halted (Faulted at NotClosed) (left s)
unfolding asking
asked_nowhere at k w xs answer m s e =
    ap (λ b. (unless b at NotClosed >>= λ _. unless (has_whole m w && list_all (owns k m) xs) at WrongSolver >>= λ _. give_asked at answer) s) (ap (λ (n : SolverState). n.closed) e)

valued_nowhere : (at : Place) (w : Whole) (m : SolverState) (s : State) → m ≡ new_solver → valuing at w m s ≡ Halted (Faulted at NotClosed) (left s)
unfolding valuing
valued_nowhere at w m s e =
    ap (λ b. (unless b at NotClosed >>= λ _. unless (has_whole m w) at WrongSolver >>= λ _. give_or_met (value_of (users_of m.rules) m.model m.assignment w) >>= λ z. give (Number z)) s) (ap (λ (n : SolverState). n.closed) e)

-- ---- questions are asked of one solver

pub value_asked : (at : Place) (k : ℕ) (w : Whole) (s : State) → whole_value at k w s ≡ valuing at w (solver_at s k) s
unfolding whole_value
value_asked at k w s = refl

pub violations_asked : (at : Place) (x : VarId) (k : ℕ) (w : Whole) (s : State) → variable_violations at x k w s ≡ asking at k w (x ∷ []) (violations_answer (solver_at s k) w x) (solver_at s k) s
unfolding variable_violations
violations_asked at x k w s = refl

pub delta_asked : (at : Place) (xs : List VarId) (move : Move) (k : ℕ) (w : Whole) (s : State) → delta at xs move k w s ≡ asking at k w xs (delta_answer (solver_at s k) w move) (solver_at s k) s
unfolding delta
delta_asked at xs move k w s = refl

pub value_nowhere : (at : Place) (k : ℕ) (w : Whole) (s : State) → solver_at s k ≡ new_solver → whole_value at k w s ≡ Halted (Faulted at NotClosed) (left s)
value_nowhere at k w s e = value_asked at k w s ∙ valued_nowhere at w (solver_at s k) s e

pub violations_nowhere : (at : Place) (x : VarId) (k : ℕ) (w : Whole) (s : State) → solver_at s k ≡ new_solver → variable_violations at x k w s ≡ Halted (Faulted at NotClosed) (left s)
violations_nowhere at x k w s e = violations_asked at x k w s ∙ asked_nowhere at k w (x ∷ []) _ (solver_at s k) s e

pub delta_nowhere : (at : Place) (xs : List VarId) (move : Move) (k : ℕ) (w : Whole) (s : State) → solver_at s k ≡ new_solver → delta at xs move k w s ≡ Halted (Faulted at NotClosed) (left s)
delta_nowhere at xs move k w s e = delta_asked at xs move k w s ∙ asked_nowhere at k w xs _ (solver_at s k) s e

-- ---- an objective of one term is of the solver of its first variable

pub by_first : (at : Place) (t : Term) (o : Option VarId) (s : State) → o ≡ first_variable t → make_objective at t s ≡ objective_by at t o s
unfolding make_objective
by_first at t o s e = ap (λ (p : Option VarId). objective_by at t p s) (sym e)
