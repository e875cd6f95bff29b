use Rattle.std.proofs.Common.{◌≡◌, ◌∙◌, ◌<◌, ℕ, length, get_or, set, subst, sym, ap, arith}
use Rattle.std.proofs.lemmas.List.{length-set, get_or-set_same, get_or-set_other, length-replicate, get_or-replicate, length_push}
use Rattle.layer_plan.specs.Rounds.{IsSpread}
use Rattle.layer_plan.proofs.SpreadSteps.{Spread-start, room_begun}
use Rattle.layer_plan.proofs.rounds.Rounds.new.Goals as goal

pub returns-clause-rounds : goal.returns-clause-rounds
returns-clause-rounds c =
    let uses = c.args.uses.now in
    let n = length uses in
    let x = c.args.root in
    let ns = c.in_ok-near.near.items in
    let items = c.in_ok-near.ensures.items_if_clones_equal (λ y h. h) in
    let size : length ns ≡ n = ap length items ∙ length-replicate n n in
    let x_in : x < length ns = omega (arith, size, c.requires.root) in
    let read : (v : ℕ) → v < n → get_or ns v 0 ≡ n = λ v v_in. ap (λ ys. get_or ys v 0) items ∙ get_or-replicate n v n 0 v_in in
    let queue = ap length c.in_ok-queue.ensures.items in
    let here = read x c.requires.root in
    let room = room_begun n ns x x_in size (omega (arith, here)) in
    record {
      count = length-set ns x 0 ∙ size;
      room = omega (arith, room, queue);
      spread = subst (λ ys. IsSpread uses (λ v. get_or (set ns x 0) v 0) ys 0) (sym c.in_ok-queue.ensures.items) (Spread-start uses (λ v. get_or (set ns x 0) v 0) x c.requires.root (get_or-set_same ns x 0 0 x_in) (λ v v_in ne. get_or-set_other ns x v 0 0 ne ∙ read v v_in));
    }
