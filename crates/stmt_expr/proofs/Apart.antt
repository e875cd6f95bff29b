-- A pure expression that is evaluated apart, in a copy without data, with another search, and over an output of its own, has its value in the
-- state itself.
use Rattle.std.proofs.Common.{◌≡◌, ◌∙◌, ap, subst, sym}
use Rattle.std.specs.Prelude.{ℕ, Bool, true, List, [], Result, Ok, Err}
use Rattle.checked_tree.specs.Shape.{Shape}
use Rattle.comet_meaning.specs.Values as values
use Rattle.comet_meaning.specs.State.{State}
use Rattle.comet_meaning.specs.Outcome.{Act, Outcome, Went}
use Rattle.comet_meaning.specs.Levels.{Code}
use Rattle.comet_meaning.specs.Program.{level}
use Rattle.comet_meaning.specs.Purity.{is_pure, pure_functions}
use Rattle.comet_meaning.specs.Spending.{IsSpent, Outside, with_outside, leaving, OnlySpends}
use Rattle.comet_meaning.proofs.SpendingPrograms.{pure_spends}
use Rattle.interpreter.specs.OfRunSteps.Does.{Does}
use Rattle.run_standing.specs.Seen.{plain_with}
use Rattle.run_values.specs.Views.{value_seen}
use Rattle.run_values.specs.declared.values.Value.{Value}
use Rattle.run_values.specs.declared.stop.Stop.{Stop}
use Rattle.run_values.specs.declared.stop.Stop.TheVariants as stops
use Rattle.stmt_expr.specs.Evaluation.{with_fuel, Gives, Evaluates, answer_seen}

-- where the code knows which functions are pure, a pure expression only spends fuel
pub spends_known : (c : Code) → c.pure ≡ pure_functions c.functions → (d : ℕ) (e : Shape) → is_pure c.pure e ≡ true → OnlySpends ((level c d).expr e)
spends_known c k d e p =
    subst (λ x. OnlySpends ((level x d).expr e)) (ap {A = List Bool} (λ ps. record { functions = c.functions; pure = ps }) (sym k))
    (pure_spends c.functions d e (subst (λ ps. is_pure ps e ≡ true) k p))

-- the state that the expression is evaluated in
abbrev pub apart : ℕ → State → State
apart fuel s = plain_with fuel (record s { printed = [] })

-- what it leaves out
abbrev outside_of : State → Outside
outside_of s = record { inputs = s.inputs; data_text = s.data_text; search = s.search; users = s.users; printed = s.printed }

given : (s : State) (fuel : ℕ) (r : Result Value Stop) (t : State) (o : Outcome values.Value) →
    IsSpent (apart fuel s) o → Does value_seen r t o → Gives (answer_seen r) (with_fuel t.fuel s) (leaving (outside_of s) o)
given s fuel (Ok v) t o spent did =
    let kept : t ≡ record (apart fuel s) { fuel = t.fuel } = subst (IsSpent (apart fuel s)) did spent in
    ap (leaving (outside_of s)) did ∙ ap (λ u. Went (value_seen v) (with_outside (outside_of s) u)) kept
given s fuel (Err (stops.Fault place f)) t o spent did = ap (leaving (outside_of s)) did
given s fuel (Err (stops.Spent place)) t o spent did = ap (leaving (outside_of s)) did
given s fuel (Err stops.NoMemory) t o spent did = tt
given s fuel (Err (stops.Output stop)) t o spent did = tt
given s fuel (Err (stops.Cyclic place names)) t o spent did = tt

pub evaluated_apart : (m : Act values.Value) → OnlySpends m → (s : State) (fuel : ℕ) (r : Result Value Stop) (t u : State) →
    u ≡ apart fuel s → Does value_seen r t (m u) → Evaluates m s fuel (answer_seen r) t.fuel
evaluated_apart m h s fuel r t u e did =
    subst (Gives (answer_seen r) (with_fuel t.fuel s)) (sym (h.inside (outside_of s) (apart fuel s)))
    (given s fuel r t (m (apart fuel s)) (h.from (apart fuel s)) (subst (λ v. Does value_seen r t (m v)) e did))
