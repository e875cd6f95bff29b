use Rattle.std.proofs.Common.{◌≡◌, ◌∙◌, ◌≤◌, ◌<◌, ◌+◌, ◌++◌, ◌∷◌, [], length, get_or, set, subst, sym, ap, arith}
use Rattle.std.proofs.lemmas.List.{length-set, get_or-set_same, get_or-set_other, get_or_read, length_push}
use Rattle.layer_plan.specs.Rounds.{IsSpread}
use Rattle.layer_plan.proofs.SpreadSteps.{Spread-reach, has_room, room_after, in_queue}
use Rattle.layer_plan.proofs.rounds.Rounds.reach.Goals as goal

-- the user is far
is_far_yet : (c : goal.In_ok-push) → length c.args.uses.now ≤ get_or c.args.self.now.near.items c.args.user 0
is_far_yet c =
    let x_in : c.args.user < length c.args.self.now.near.items = omega arith in
    let e = get_or_read c.args.self.now.near.items c.args.user c.index.result.now x_in c.index.ensures 0 in
    omega arith

-- one step more than the item at the head
one_more : (c : goal.In_ok-push) → c.index-3.result.now + 1 ≡ get_or c.args.self.now.near.items (get_or c.args.self.now.queue.items c.args.head 0) 0 + 1
one_more c =
    let qs = c.args.self.now.queue.items in
    let ns = c.args.self.now.near.items in
    let item = get_or_read qs c.args.head c.index-2.result.now c.requires.head c.index-2.ensures 0 in
    let in_qs = c.requires.rounds.spread.items c.args.head c.requires.head in
    let read = get_or_read ns c.index-2.result.now c.index-3.result.now (omega arith) c.index-3.ensures 0 in
    ap (λ n. n + 1) (read ∙ ap (λ v. get_or ns v 0) item)

pub returns-clause-rounds : goal.returns-clause-rounds
returns-clause-rounds c =
    let s = c.args.self.now in
    let ns = s.near.items in
    let qs = s.queue.items in
    let uses = c.args.uses.now in
    let x = c.args.user in
    let old = c.requires.rounds in
    let steps = c.index-3.result.now + 1 in
    let x_in : x < length ns = omega arith in
    let far = is_far_yet c in
    let at = one_more c in
    let room = has_room (length uses) ns x (length qs) x_in (omega arith) far old.room in
    let bound = old.spread.bound c.args.head c.requires.head in
    let items : c.push.new.self.items ≡ qs ++ x ∷ [] = c.in_ok-push.ensures.items in
    let size : length c.push.new.self.items ≡ length qs + 1 = ap length items ∙ length_push qs x in
    let left = room_after (length uses) ns x (length qs) steps x_in far (omega arith) old.room in
    record {
      count = length-set ns x steps ∙ old.count;
      room = omega arith;
      spread = subst (λ ys. IsSpread uses (λ v. get_or (set ns x steps) v 0) ys c.args.head) (sym items) (Spread-reach uses (λ v. get_or ns v 0) (λ v. get_or (set ns x steps) v 0) qs c.args.head x old.spread c.requires.head room c.requires.user far c.requires.uses (get_or-set_same ns x steps 0 x_in ∙ at) (λ v n. get_or-set_other ns x v steps 0 n));
    }

pub returns-clause-reached : goal.returns-clause-reached
returns-clause-reached c =
    let s = c.args.self.now in
    let ns = s.near.items in
    let uses = c.args.uses.now in
    let x = c.args.user in
    let item = get_or s.queue.items c.args.head 0 in
    let old = c.requires.rounds in
    let steps = c.index-3.result.now + 1 in
    let x_in : x < length ns = omega arith in
    let far = is_far_yet c in
    let at = one_more c in
    let room = has_room (length uses) ns x (length s.queue.items) x_in (omega arith) far old.room in
    let bound = old.spread.bound c.args.head c.requires.head in
    let new = get_or-set_same ns x steps 0 x_in in
    let same = get_or-set_other ns x item steps 0 (in_queue uses (λ v. get_or ns v 0) s.queue.items c.args.head x c.args.head old.spread far c.requires.head) in
    (omega arith, omega arith)
