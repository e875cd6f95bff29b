use Rattle.std.proofs.Common.{rules, w64}
use Rattle.std.specs.Prelude.{FitsSigned}
use Rattle.std.proofs.lemmas.Int.{to_z-of_z}
use Rattle.node_set.proofs.EditLemmas.{member_probed}
use Rattle.node_set.proofs.member.MemberNodeRule.probe.Goals as goal

pub returns : goal.returns
returns c =
    let s = c.args.self.now in
    let fits : FitsSigned w64 s.number = search rules in
    let fits' : FitsSigned w64 c.number_after-number.result = search rules in
    let found = simp (to_z-of_z w64 s.number fits) at c.number_after-number.ensures in
    let was = simp (to_z-of_z w64 c.number_after-number.result fits') at c.contains.ensures in
    let ends = simp (to_z-of_z w64 c.number_after-number.result fits') at c.is_in_after-is_in.ensures in
    rw c.truth.ensures (member_probed s.number s.set c.args.changes.now c.number_after-number.result c.contains.result c.is_in_after-is_in.result c.requires.changes found was ends)
