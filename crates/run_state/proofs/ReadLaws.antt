-- Variables that are read one after another: what one gives, and what all come to.
use Rattle.std.proofs.Common.{◌≡◌, ℕ, zero, suc, ◌+◌, ◌<◌, ℤ, Bool, true, false, List, [], ◌∷◌, ◌++◌, length, get_or, map, Result, Ok, Err, IfOk, refl, sym, ◌∙◌, ap, subst, append_assoc, append-nil, arith}
use Rattle.std.specs.Prelude.{if◌then◌else◌, IfErr}
use Rattle.cbl_base.specs.declared.ids.VarId.{VarId}
use Rattle.cbl_base.specs.declared.place.Place.{Place}
use Rattle.cbl_base.specs.declared.faults.RunFault.TheVariants.{NotClosed, WrongSolver}
use Rattle.comet_meaning.specs.Values.{Value, Variable, Variables, number_of}
use Rattle.comet_meaning.specs.Solvers.{has_variable}
use Rattle.comet_meaning.specs.State.{State, Cells}
use Rattle.comet_meaning.specs.Outcome.{Outcome, Went, Halted, Act, then_do, give, fault}
use Rattle.comet_meaning.specs.Parts.{solver_at, needs_close, value_now, variable_value, read}
use Rattle.comet_meaning.specs.Taking.{read_each, read_cells, read_array}
use Rattle.comet_meaning.specs.Cells.{variables, variables_of}
use Rattle.comet_meaning.specs.Printing.{grid_text, plain_text}
use Rattle.comet_meaning.proofs.Endings.{halted_then}
use Rattle.comet_meaning.proofs.RowsOfTerms.{ReadLeft, read_at, read_step}
use Rattle.run_values.specs.Did.{Did, Stopped, IsFaultOrMemory}
use Rattle.run_values.specs.Views.{value_seen}
use Rattle.run_values.specs.declared.values.Value as code
use Rattle.run_values.specs.declared.stop.Stop.{Stop}
use Rattle.run_values.specs.declared.stop.Stop.TheVariants as stops
use Rattle.run_values.specs.declared.stop.Stop.TheVariants.{Fault, Spent, NoMemory, Output}
use Rattle.run_state.specs.Acts.{values_now, numbers_read, text_read}

-- what stops a part stops the whole
pub stopped_behind : {A B : Type 0} (stop : Stop) (s : State) (o : Outcome A) (f : A → Act B) → Stopped stop s o → Stopped stop s (then_do o f)
stopped_behind (Fault place f) s o g e = halted_then g e
stopped_behind (Spent place) s o g e = halted_then g e
stopped_behind (stops.Cyclic place names) s o g e = halted_then g e
stopped_behind NoMemory s o g e = tt
stopped_behind (Output stop) s o g e = tt

pub stopped_to : {A B : Type 0} (stop : Stop) (s : State) (o : Outcome A) (f : A → Act B) (w : Outcome B) → then_do o f ≡ w → Stopped stop s o → Stopped stop s w
stopped_to stop s o f w e h = subst (Stopped stop s) e (stopped_behind stop s o f h)

pub read_is : (at : Place) (x : VarId) (s : State) → read at (Variable x) s ≡ variable_value at x.index (solver_at s x.solver) s
unfolding read
read_is at x s = refl

-- what the solvers give of a variable is what is read of it
pub read_so : (at : Place) (x : VarId) (s : State) (r : Result code.Value Stop) → Did value_seen r s (variable_value at x.index (solver_at s x.solver) s) → Did value_seen r s (read at (Variable x) s)
unfolding read
read_so at x s r h = h

-- a variable that is read is what it comes to, and changes nothing
read_value : (b c : Bool) (at : Place) (v : Value) (s : State) (w : Value) (t : State) → (if b then (if c then fault at NotClosed else give v) else fault at WrongSolver) s ≡ Went w t → (w ≡ v) × (t ≡ s)
read_value true false at v s w t e = (cc, cc)
read_value true true at v s w t e = absurd cc
read_value false c at v s w t e = absurd cc

pub read_now : (at : Place) (x : VarId) (s : State) (w : Value) (t : State) → read at (Variable x) s ≡ Went w t → (w ≡ value_now (solver_at s x.solver) x.index) × (t ≡ s)
unfolding read variable_value
read_now at x s w t e = read_value (has_variable (solver_at s x.solver) x.index) (needs_close (solver_at s x.solver) x.index) at (value_now (solver_at s x.solver) x.index) s w t e

-- all that are read are what they come to
one_behind : (at : Place) (x : VarId) (xs : List VarId) (vs ws : List Value) (s t : State) (o : Outcome Value) →
    ((w : Value) (r : State) → o ≡ Went w r → (w ≡ value_now (solver_at s x.solver) x.index) × (r ≡ s)) →
    ((v : Value) (r : State) → read_each at xs (vs ++ v ∷ []) r ≡ Went ws t → (ws ≡ (vs ++ v ∷ []) ++ values_now r xs) × (t ≡ r)) →
    then_do o (λ v. read_each at xs (vs ++ v ∷ [])) ≡ Went ws t → (ws ≡ vs ++ values_now s (x ∷ xs)) × (t ≡ s)
one_behind at x xs vs ws s t (Halted h l) known rest q = absurd cc
one_behind at x xs vs ws s t (Went w r) known rest q =
    let first = known w r refl in
    let all = rest w r q in
    (all.0 ∙ append_assoc vs (w ∷ []) (values_now r xs) ∙ ap (λ v. vs ++ v ∷ values_now r xs) first.0 ∙ ap (λ q. vs ++ value_now (solver_at s x.solver) x.index ∷ values_now q xs) first.1, all.1 ∙ first.1)

each_behind : (at : Place) (xs : List VarId) (vs ws : List Value) (s t : State) → read_each at xs vs s ≡ Went ws t → (ws ≡ vs ++ values_now s xs) × (t ≡ s)
unfolding read_each
each_behind at [] vs ws s t e = (let same : ws ≡ vs = cc in same ∙ sym (append-nil vs), cc)
each_behind at (x ∷ xs) vs ws s t e = one_behind at x xs vs ws s t (read at (Variable x) s) (read_now at x s) (λ v r. each_behind at xs (vs ++ v ∷ []) ws r t) e

pub each_now : (at : Place) (xs : List VarId) (s : State) (ws : List Value) (t : State) → read_each at xs [] s ≡ Went ws t → (ws ≡ values_now s xs) × (t ≡ s)
each_now at xs s ws t e = each_behind at xs [] ws s t e

-- one more variable is read, which is the next one

same_there : {X : Type 0} (xs : List X) (i : ℕ) (d e : X) → i < length xs → get_or xs i d ≡ get_or xs i e
same_there [] i d e lt = absurd (omega (arith, lt))
same_there (x ∷ xs) zero d e lt = refl
same_there (x ∷ xs) (suc i) d e lt = same_there xs i d e (omega (arith, lt))

module _ {at : Place} {xs : List VarId} {i : ℕ} {vs : List Value} {s : State} {w : Outcome (List Value)} (m : ReadLeft at xs i vs s w) (d : VarId) (lt : i < length xs) where
  pub read_went : (us : List Value) (v : Value) → read at (Variable (get_or xs i d)) s ≡ Went v s → us ≡ vs ++ v ∷ [] → ReadLeft at xs (i + 1) us s w
  read_went us v e same = subst (λ ys. ReadLeft at xs (i + 1) ys s w) (sym same) (read_step m (get_or xs i d) lt (same_there xs i d (get_or xs i d) lt) e)

  pub read_stopped : (stop : Stop) → Stopped stop s (read at (Variable (get_or xs i d)) s) → Stopped stop s w
  read_stopped stop e = stopped_to stop s (read at (Variable (get_or xs i d)) s) _ w (read_at m (get_or xs i d) lt (same_there xs i d (get_or xs i d) lt)) e

-- the numbers and the text of an array of variables, from their values

pub variables_numbers : (at : Place) (n : ℕ) (s : State) (vs : List Value) → read_each at (variables_of s (Variables n)).variables [] s ≡ Went vs s → numbers_read at (Variables n) s ≡ Went (map number_of vs) s
unfolding read_array variables
variables_numbers at n s vs e = rw e refl

pub numbers_unread : (at : Place) (n : ℕ) (s : State) (stop : Stop) → Stopped stop s (read_each at (variables_of s (Variables n)).variables [] s) → Stopped stop s (numbers_read at (Variables n) s)
unfolding read_array variables
numbers_unread at n s stop e =
    stopped_behind stop s (then_do (read_each at (variables_of s (Variables n)).variables [] s) (λ vs. give (read_cells (variables_of s (Variables n)) vs))) (λ c. give c.numbers)
    (stopped_behind stop s (read_each at (variables_of s (Variables n)).variables [] s) (λ vs. give (read_cells (variables_of s (Variables n)) vs)) e)

pub variables_text : (at : Place) (n : ℕ) (s : State) (vs : List Value) → read_each at (variables_of s (Variables n)).variables [] s ≡ Went vs s →
    text_read at (Variables n) s ≡ Went (grid_text (variables_of s (Variables n)).rows (map plain_text vs) (variables_of s (Variables n)).columns) s
unfolding variables
variables_text at n s vs e = rw e refl

pub text_unread : (at : Place) (n : ℕ) (s : State) (stop : Stop) → Stopped stop s (read_each at (variables_of s (Variables n)).variables [] s) → Stopped stop s (text_read at (Variables n) s)
unfolding variables
text_unread at n s stop e =
    stopped_behind stop s (read_each at (variables_of s (Variables n)).variables [] s) (λ vs. give (grid_text (variables_of s (Variables n)).rows (map plain_text vs) (variables_of s (Variables n)).columns)) e

pub map_twice : {X Y Z : Type 0} (f : Y → Z) (g : X → Y) (xs : List X) → map f (map g xs) ≡ map (λ x. f (g x)) xs
map_twice f g [] = refl
map_twice f g (x ∷ xs) = ap (λ ys. f (g x) ∷ ys) (map_twice f g xs)

-- what was made of an outcome, or there was no memory for it
pub did_made : {X A : Type 0} (view : X → A) (r : Result X Stop) (x : A) (s : State) (o : Outcome A) → o ≡ Went x s → IfOk r (λ y. view y ≡ x) → IfErr r (λ stop. stop ≡ NoMemory) → Did view r s o
did_made view (Ok y) x s o e h m = e ∙ ap (λ z. Went z s) (sym h)
did_made view (Err stop) x s o e h m = rw m tt

pub memory_so : {X : Type 0} (r : Result X Stop) → IfErr r (λ stop. stop ≡ NoMemory) → IfErr r IsFaultOrMemory
memory_so (Ok y) m = tt
memory_so (Err stop) m = rw m tt

-- the numbers of an array go on to what stands behind it
pub numbers_then : {B : Type 0} (o : Outcome Cells) (f : List ℤ → Act B) (xs : List ℤ) (s : State) → then_do o (λ c. give c.numbers) ≡ Went xs s → then_do o (λ c. f c.numbers) ≡ f xs s
numbers_then (Went c t) f xs s e = (let same : c.numbers ≡ xs = cc in let kept : t ≡ s = cc in rw (same, kept) refl)
numbers_then (Halted h l) f xs s e = absurd cc

pub numbers_stopped : {B : Type 0} (stop : Stop) (s : State) (o : Outcome Cells) (f : Cells → Act B) → Stopped {A = List ℤ} stop s (then_do o (λ c. give c.numbers)) → Stopped {A = B} stop s (then_do o f)
numbers_stopped (Fault place f) s (Went c t) g e = absurd cc
numbers_stopped (Fault place f) s (Halted h l) g e = cc
numbers_stopped (Spent place) s (Went c t) g e = absurd cc
numbers_stopped (Spent place) s (Halted h l) g e = cc
numbers_stopped (stops.Cyclic place names) s (Went c t) g e = absurd cc
numbers_stopped (stops.Cyclic place names) s (Halted h l) g e = cc
numbers_stopped NoMemory s o g e = tt
numbers_stopped (Output stop) s o g e = tt
