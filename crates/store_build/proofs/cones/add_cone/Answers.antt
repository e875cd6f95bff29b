use Rattle.std.proofs.Common.{◌≡◌, List, true, false, length, rules, sym, subst, All}
use Rattle.std.proofs.lemmas.List.Elements.{All-push}
use Rattle.store_turns.specs.declared.frame.Cone.{Cone}
use Rattle.store_turns.specs.Cones.{IsCone}
use Rattle.store_turns.specs.Meaning.{ids_of, is_empty}
use Rattle.store_build.specs.Lists.{list_in}
use Rattle.store_build.proofs.UnusedLists.{cone_more, no_cone_more}
use Rattle.store_build.proofs.cones.add_cone.Goals as goal

pub returns-then-not-is_unused-clause-targets : goal.returns-then-not-is_unused-clause-targets
returns-then-not-is_unused-clause-targets c =
    let used : is_empty (list_in c.args.uses.now c.args.id) ≡ false = search rules in
    no_cone_more (is_empty (list_in c.args.uses.now c.args.id)) c.args.cones.now.items c.args.id used

pub returns-clause-targets : goal.returns-clause-targets
returns-clause-targets c =
    let unused : is_empty (list_in c.args.uses.now c.args.id) ≡ true = search rules in
    cone_more (is_empty (list_in c.args.uses.now c.args.id)) c.args.cones.now.items c.push.new.self.items c.in_ok-cone.cone c.args.id unused c.in_ok-push.ensures.items c.in_ok-cone.ensures.target

pub returns-clause-cones : goal.returns-clause-cones
returns-clause-cones c =
    let inputs = c.args.inputs.now in
    subst (λ (cs : List Cone). All (IsCone (λ j. ids_of (list_in inputs j)) (length inputs)) cs) (sym c.in_ok-push.ensures.items)
    (All-push (IsCone (λ j. ids_of (list_in inputs j)) (length inputs)) c.args.cones.now.items c.in_ok-cone.cone c.requires.cones c.in_ok-cone.ensures.cone)
