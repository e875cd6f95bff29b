use Rattle.std.proofs.Common.{rules, ◌≡◌, ◌∙◌, Some, get_or, ap}
use Rattle.term_model.specs.declared.model.Posted.{Posted}
use Rattle.term_model.proofs.Noted.{definition_more, definition_all}
use Rattle.term_model.proofs.definitions.definitions_of.Goals as goal

pub loop-turn-preserved : goal.loop-turn-preserved
loop-turn-preserved c =
    let p : Posted = c.index.result.now in
    let is : p ≡ get_or c.args.model.now.posted.items c.loop-turn.turn p = search rules in
    let lt = c.loop-turn-test.true in (
      c.note.ensures.count ∙ c.loop-turn.invariant.0,
      λ i within. search (rules, c.note.ensures.each i _ (c.loop-turn.invariant.1 i within), definition_more c.args.model.now.defs.items c.args.model.now.posted.items c.loop-turn.turn i p (search rules) is),
    )

pub returns-clause-each : goal.returns-clause-each
returns-clause-each c = λ i within. c.loop-turn.invariant.1 i within ∙ ap Some (definition_all c.args.model.now.defs.items c.args.model.now.posted.items c.loop-turn.turn i (search rules))
