use Rattle.std.proofs.Common.{rules, ◌≡◌, false}
use Rattle.model_values.specs.Delta.{moves_defined, moved}
use Rattle.term_model.specs.Users.{user_rules}
use Rattle.model_values.proofs.DeltaLaws.{delta_from}
use Rattle.model_values.proofs.deltas.delta.Goals as goal

pub returns : goal.returns
returns g c =
    let users = user_rules (g.U.UserValues.viol_of c.args.users.now) (g.U.UserValues.viol_at c.args.users.now) in
    let free : moves_defined c.args.model.now c.args.change ≡ false = search rules in
    let is : c.as_slice.result.now ≡ moved c.args.assignment.now c.args.change = search rules in
    delta_from users c.args.model.now c.args.assignment.now c.args.whole c.place_of-place.result c.args.change c.as_slice.result.now c.in_ok-after.after c.in_ok-now.now c.difference.result
    free c.place_of-place.ensures is c.in_ok-after.ensures c.in_ok-now.ensures c.difference.ensures
