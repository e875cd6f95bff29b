use Rattle.std.proofs.Common.{◌∙◌, ◌+◌, ◌-◌, ◌<◌, ◌^◌, ap, sym, length, arith, rules, w64}
use Rattle.std.specs.Prelude.{Some}
use Rattle.std.proofs.lemmas.Int.{to_z_pos}
use Rattle.node_set.proofs.EditLemmas.{card_after, card_enough}
use Rattle.node_set.proofs.card.CardNodeRule.probe.Goals as goal

pub overflow_sub-len : goal.overflow_sub-len
overflow_sub-len c =
    let first = sym c.in-Some-Set.ensures.value ∙ ap Some c.in-Some-Set.field-0-is in
    let enough = card_enough c.args.self.now.set c.args.changes.now _ _ _ c.requires.changes first c.as_slice-members.ensures.rising c.as_slice.ensures.rising c.as_slice-in-Some-Set.ensures.rising in
    let kept = ap length c.as_slice-members.ensures.members in
    let come = ap length c.as_slice.ensures.members in
    let gone = ap length c.as_slice-in-Some-Set.ensures.members in
    omega (arith, enough, kept, come, gone)

pub returns-in-Some-Set : goal.returns-in-Some-Set
returns-in-Some-Set c =
    let first = sym c.in-Some-Set.ensures.value ∙ ap Some c.in-Some-Set.field-0-is in
    let enough = card_enough c.args.self.now.set c.args.changes.now _ _ _ c.requires.changes first c.as_slice-members.ensures.rising c.as_slice.ensures.rising c.as_slice-in-Some-Set.ensures.rising in
    let kept = ap length c.as_slice-members.ensures.members in
    let come = ap length c.as_slice.ensures.members in
    let gone = ap length c.as_slice-in-Some-Set.ensures.members in
    let members = length c.as_slice-members.result.now in
    let added = length c.as_slice.result.now in
    let removed = length c.as_slice-in-Some-Set.result.now in
    let short : members < 2 ^ 62 = search rules in
    let short' : added < 2 ^ 62 = search rules in
    let len = members + added - removed in
    rw (to_z_pos w64 len (omega arith))
    (card_after c.args.self.now.set c.args.changes.now c.in-Some-Set.field-0-0 c.in-Some-Set.added c.in-Some-Set.removed len c.requires.changes first c.as_slice-members.ensures.rising c.as_slice.ensures.rising c.as_slice-in-Some-Set.ensures.rising (omega (arith, enough, kept, come, gone)))
