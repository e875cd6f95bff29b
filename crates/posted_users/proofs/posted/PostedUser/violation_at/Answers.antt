use Rattle.std.proofs.Common.{◌≡◌, ◌∙◌, true, rules, sym, w64, FitsSigned}
use Rattle.std.proofs.lemmas.Int.{to_z-of_z}
use Rattle.std.specs.Cmp.Rules.{signed_items}
use Rattle.posted_users.proofs.KeptLaws.{has_value, no_other, place_told}
use Rattle.posted_users.proofs.posted.PostedUser.violation_at.Goals as goal

pub place_violation-requires-clause-valued : goal.place_violation-requires-clause-valued
place_violation-requires-clause-valued g c = has_value (g.N.NodeRule.rule c.self.inside.node) (g.N.NodeRule.held c.self.inside.node) c.self.invariant.0

pub returns : goal.returns
returns g c =
    let s = c.self.inside in
    let ready : s.ready ≡ true = search rules in
    let same : s.numbers.items ≡ c.args.list.now = sym c.as_slice.ensures.value ∙ (signed_items c.as_slice.result.now c.args.list.now).0 (no_other _ c.if-ne.ensures) in
    let there : c.in-Ok.at ≡ c.args.place = search rules in
    let fits : FitsSigned w64 c.place_violation.result = search rules in
    rw (to_z-of_z w64 c.place_violation.result fits)
    (place_told (g.N.NodeRule.rule s.node) (g.N.NodeRule.held s.node) s.numbers.items c.args.list.now c.in-Ok.at c.args.place c.place_violation.result c.args.self.now c.self.invariant.0 (c.self.invariant.1 ready).1 same there c.place_violation.ensures c.self.view_is)
