-- One more variable is read, or stops all, or none is left.
use Rattle.std.proofs.Common.{get_or, ◌≡◌, ◌++◌, [], ◌∷◌, List, map, ◌∙◌, ap}
use Rattle.std.proofs.lemmas.List.{map-append}
use Rattle.std.proofs.lemmas.Result.{err_from_is_err_and}
use Rattle.cbl_base.specs.declared.ids.VarId.{VarId}
use Rattle.comet_meaning.proofs.RowsOfTerms.{read_end}
use Rattle.run_values.specs.Views.{value_seen}
use Rattle.run_values.specs.declared.values.Value.{Value}
use Rattle.run_state.specs.Views.{state_seen}
use Rattle.run_state.proofs.ReadLaws.{read_is, read_went, read_stopped}
use Rattle.run_state.proofs.state.State.read_each.Goals as goal

abbrev no_variable : VarId
no_variable = record { solver = 0; index = 0 }

pub returns-in_err-read_variable-clause-did : goal.returns-in_err-read_variable-clause-did
returns-in_err-read_variable-clause-did g c =
    let p = err_from_is_err_and c.from_residual.result c.from_residual.ensures.1 in
    rw (p.1, p.2) (read_stopped c.loop-variable.invariant no_variable c.loop-variable-test.true _ (rw (read_is c.args.at (get_or c.args.variables.now c.loop-variable.variable-index no_variable) (state_seen c.args.self.now (g.O.Outside.told c.args.out.now))) (c.in_err-read_variable.ensures.did (state_seen c.args.self.now (g.O.Outside.told c.args.out.now)))))

pub loop-variable-preserved : goal.loop-variable-preserved
loop-variable-preserved g c =
    let value = c.in_ok-read_variable.field-0 in
    let before = c.loop-variable.values.items in
    let pushed : map value_seen c.push.new.self.items ≡ map value_seen before ++ value_seen value ∷ [] =
    ap (λ (xs : List Value). map value_seen xs) c.in_ok-push.ensures.items ∙ map-append value_seen before (value ∷ []) in
    read_went c.loop-variable.invariant no_variable c.loop-variable-test.true _ (value_seen value) (rw (read_is c.args.at (get_or c.args.variables.now c.loop-variable.variable-index no_variable) (state_seen c.args.self.now (g.O.Outside.told c.args.out.now))) (c.in_ok-read_variable.ensures.did (state_seen c.args.self.now (g.O.Outside.told c.args.out.now)))) pushed

pub returns-clause-did : goal.returns-clause-did
returns-clause-did g c = read_end c.loop-variable.invariant c.loop-variable-test.false
