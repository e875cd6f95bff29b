use Rattle.std.proofs.Common.{arith, ◌*◌, ◌^◌, ◌%◌}
use Rattle.std.proofs.lemmas.Nat.{one_shl}
use Rattle.store_shares.proofs.WordLaws.{one_number}
use Rattle.store_shares.proofs.words.word_of.Goals as goal

pub returns-clause-numbers : goal.returns-clause-numbers
returns-clause-numbers c k = one_number c.args.number k (1 * 2 ^ (c.args.number % 64) % 2 ^ 64) (one_shl (c.args.number % 64) 64 (omega arith))
