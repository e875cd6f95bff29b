use Rattle.std.proofs.Common.{◌≡◌, ◌∙◌, ℤ, pos, ◌<◌, ap, List, length, append-nil, arith}
use Rattle.cbl_base.specs.Sets.{set_of}
use Rattle.store_turns.specs.Telling.{without}
use Rattle.store_turns.proofs.SetChanges.{lacks_more, without-rising, all_taken}
use Rattle.store_turns.proofs.set_changes.without.Goals.{then-not-contains+in_ok-push, else-not-contains}
use Rattle.store_turns.proofs.set_changes.without.Goals as goal

pub loop-member-preserved : goal.loop-member-preserved
loop-member-preserved c =
    let lt : c.loop-member.member-index < length c.as_slice-member-items.result.now = omega arith in
    let more = lacks_more c.as_slice-member-items.result.now c.args.other.now c.loop-member.members.items c.loop-member.member-index (pos 0) lt c.loop-member.invariant.members in
    let none = append-nil c.loop-member.members.items in
    record {
      members = elim c.if-not-contains.branch [
        | then-not-contains+in_ok-push w ↦ grind (arith, more, none, w.members-is, w.if-not-contains, w.push.ensures, w.in_ok-push.ensures, c.contains.ensures)
        | else-not-contains w ↦ grind (arith, more, none, w.members-is, w.if-not-contains, c.contains.ensures)
      ];
    }

pub returns : goal.returns
returns c =
    let all : c.loop-member.members.items ≡ without c.args.other.now c.as_slice-member-items.result.now = all_taken c.as_slice-member-items.result.now c.args.other.now c.loop-member.members.items c.loop-member.member-index (omega arith) c.loop-member.invariant.members in
    c.in_ok-left.ensures ∙ ap set_of (c.deref.ensures.value ∙ all) ∙ ap (λ (s : List ℤ). set_of (without c.args.other.now s)) c.as_slice-member-items.ensures.members ∙ without-rising c.args.set.now c.args.other.now c.as_slice-member-items.ensures.rising
