-- The last generator's domain, the values of the names in front, and a candidate for each value.
use Rattle.std.proofs.Common.{sym, subst, map, List, ℤ}
use Rattle.checked_tree.specs.Shape.{shape_of_generator}
use Rattle.comet_meaning.specs.Program.{level}
use Rattle.comet_meaning.proofs.GoingStatements.{goes_level}
use Rattle.run_steps.specs.OfRunState.Views.{state_seen}
use Rattle.run_steps.specs.Does.{Does}
use Rattle.run_steps.proofs.Exits.{act_does, exit}
use Rattle.run_values.specs.Views.{value_seen}
use Rattle.search_forms.specs.Tables.{candidates_seen}
use Rattle.search_forms.proofs.LastLaws.{domain_ends, goes_values, known_ends, last_went}
use Rattle.search_forms.proofs.listing.list_last.Goals as goal

pub returns-in_err-domain-clause-did : goal.returns-in_err-domain-clause-did
returns-in_err-domain-clause-did g c = exit _ _ _ _ _ c.from_residual.ensures.1 (domain_ends (level (g.W.Within.code c.args.inside.now) (g.W.Within.depth c.args.inside.now)) (goes_level _ _) c.args.at (map shape_of_generator c.args.front.now) c.args.last.now (candidates_seen c.args.found.now) (state_seen c.args.s.now (g.O.Outside.told c.args.out.now)) _ _ c.in_err-domain.ensures.did)

pub returns-in_err-known-clause-did : goal.returns-in_err-known-clause-did
returns-in_err-known-clause-did g c = exit _ _ _ _ _ c.from_residual-in_err-known.ensures.1 (known_ends (level (g.W.Within.code c.args.inside.now) (g.W.Within.depth c.args.inside.now)) (goes_level _ _) c.args.at (map shape_of_generator c.args.front.now) c.args.last.now (candidates_seen c.args.found.now) (state_seen c.args.s.now (g.O.Outside.told c.args.out.now)) c.in_ok-domain.ensures.did _ c.in_err-known.ensures.memory)

pub returns-clause-did : goal.returns-clause-did
returns-clause-did g c =
    let known : List ℤ = c.in_ok-known.known.items in
    let n = last_went (level (g.W.Within.code c.args.inside.now) (g.W.Within.depth c.args.inside.now)) (goes_level _ _) c.args.at (map shape_of_generator c.args.front.now) c.args.last.now (candidates_seen c.args.found.now) (state_seen c.args.s.now (g.O.Outside.told c.args.out.now)) c.in_ok-domain.ensures.did (c.in_ok-known.ensures.did (g.O.Outside.told c.value_of.new.out)) in
    subst (Does _ _ _) (sym n) (act_does _ _ _ _ (rw c.deref.ensures.value at (c.add_values.ensures.did (state_seen c.value_of.new.s (g.O.Outside.told c.value_of.new.out)))) ((goes_values c.args.at known (value_seen c.in_ok-domain.domain) (candidates_seen c.args.found.now)).from _).printed)
