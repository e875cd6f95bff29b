-- What is given away is posted.
use Rattle.std.proofs.Common.{◌≡◌, refl, subst, sym, w64, to_z, of_z, rules}
use Rattle.run_solvers.specs.OfCometMeaning.Posting.{post_taken}
use Rattle.run_solvers.specs.OfCometMeaning.Systems.{post_user}
use Rattle.run_solvers.specs.OfCometMeaning.Users.{with_given}
use Rattle.run_solvers.specs.OfCometMeaning.Values.{Nothing}
use Rattle.run_solvers.specs.OfRunValues.Did.{Did}
use Rattle.run_solvers.specs.OfRunValues.Views.{value_seen}
use Rattle.run_outside.specs.Told.{beside, told_of}
use Rattle.run_outside.proofs.stage.StageOutside.post_user.Goals as goal

pub returns-in-Some-clause-did : goal.returns-in-Some-clause-did
unfolding post_taken
returns-in-Some-clause-did g c = λ s.
    let same : to_z w64 (of_z w64 c.args.weight) ≡ c.args.weight = search rules in
    let printed = g.O.Out.taken c.args.self.now.out in
    let old = c.args.self.now in
    let given = with_given old.users.items c.args.taken in
    let posted = c.post_user.ensures.did (beside (told_of printed old.solvers given) s) refl in
    subst (λ us. Did (λ x. Nothing) c.post_user.result (beside (told_of printed c.post_user.new.self us) s) (post_taken c.args.at c.args.taken c.args.places.items c.args.weight (value_seen c.args.whole.now) (beside (told_of printed old.solvers old.users.items) s)))
    (sym c.give.ensures.given)
    (subst (λ rule. Did (λ x. Nothing) c.post_user.result (beside (told_of printed c.post_user.new.self given) s) (post_user c.args.at rule c.args.places.items c.args.weight (value_seen c.args.whole.now) (beside (told_of printed old.solvers given) s)))
    c.in-Some.ensures.rule (rw same at posted))
