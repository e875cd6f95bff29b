use Rattle.std.proofs.Common.{◌<◌, ◌||◌, ◌/◌, ◌∙◌, length, arith, refl, sym, ap, subst}
use Rattle.std.specs.Prelude.{nat_eq}
use Rattle.store_shares.specs.Words.{has, IsRising, IsUpTo}
use Rattle.store_shares.proofs.NamingLaws.{put_one, put_past, words_read}
use Rattle.store_shares.proofs.naming.put.Goals as goal

pub returns-then-place-len : goal.returns-then-place-len
returns-then-place-len c = put_past c.args.sets.now.items _ c.args.number c.args.variable refl (omega arith)

pub returns : goal.returns
returns c =
    let old = c.args.sets.now.items in
    let v = c.args.variable in
    let number = c.args.number in
    let lt : v < length old = omega arith in
    let read = words_read old v c.index_mut.result.now lt c.index_mut.ensures.value in
    let more = c.in_ok-push_number.ensures in
    put_one old v number c.push_number.new.words lt (λ k. more.has k ∙ ap (λ ws. has ws k || nat_eq k number) (sym read))
    (λ rising up. more.rising (subst IsRising read rising) (subst (λ ws. IsUpTo ws (number / 64)) read up))
    (λ up. more.up (subst (λ ws. IsUpTo ws (number / 64)) read up)) _ refl
