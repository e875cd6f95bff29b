use Rattle.std.proofs.Common.{◌+◌, ◌<◌, length, arith, refl}
use Rattle.store_shares.proofs.WordLaws.{left_joined, right_joined, right_there}
use Rattle.store_shares.proofs.words.join_next.Goals as goal

pub returns-then-is_left : goal.returns-then-is_left
returns-then-is_left c =
    let state = c.args.state.now in
    let word = c.in_ok-push_word.ensures in
    let there = c.is_left.ensures.left c.if-is_left.true in
    let up = c.requires.joining.up_left state.left (omega arith) there in
    left_joined c.args.first.now c.args.second.now c.requires.one c.requires.other c.args.turn state c.requires.joining (record { words = c.push_word.new.words; left = state.left + 1; right = state.right })
    there (c.is_left.ensures.before c.if-is_left.true) word.has (word.rising c.requires.joining.rising up) (word.up up) refl refl

pub returns : goal.returns
returns c =
    let state = c.args.state.now in
    let word = c.in_ok-push_word-2.ensures in
    let behind : state.left < length c.args.first.now → state.right < length c.args.second.now = c.is_left.ensures.behind c.if-is_left.false in
    let there : state.right < length c.args.second.now = right_there state.left state.right (length c.args.first.now) (length c.args.second.now) c.args.turn behind c.requires.joining.count c.requires.joining.within_left c.requires.within in
    let up = c.requires.joining.up_right state.right (omega arith) there in
    right_joined c.args.first.now c.args.second.now c.requires.one c.requires.other c.args.turn state c.requires.joining (record { words = c.push_word-2.new.words; left = state.left; right = state.right + 1 })
    there (c.is_left.ensures.after c.if-is_left.false) word.has (word.rising c.requires.joining.rising up) (word.up up) refl refl
