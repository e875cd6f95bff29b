use Rattle.std.proofs.Common.{◌≡◌, ◌∙◌, ◌<◌, ◌||◌, true, true≢false, length, arith, ap, sym, refl}
use Rattle.std.specs.List.{list_all, list_any}
use Rattle.layer_plan.specs.Dependencies.{list_of}
use Rattle.store_shares.specs.Naming.{words_of}
use Rattle.store_shares.specs.Settled.{is_known, known_words}
use Rattle.store_shares.specs.Words.{has}
use Rattle.store_shares.proofs.SettledLaws.{all_of_each, each_of_all, kept_set, known_set, right_set, rising_set}
use Rattle.store_shares.proofs.closing.settle.Goals as goal

pub returns-then-not-are_known-clause-settled : goal.returns-then-not-are_known-clause-settled
returns-then-not-are_known-clause-settled c ready =
    absurd (true≢false (
    sym (all_of_each (is_known c.args.sets.now.items) (list_of c.args.users.now c.args.variable) ready)
    ∙ sym (ap (list_all (is_known c.args.sets.now.items)) c.list_of-users.ensures) ∙ sym (ap (λ ss. list_all (is_known ss) c.list_of-users.result.now) c.deref-2.ensures.value)
    ∙ sym c.are_known.ensures ∙ c.if-not-are_known.true
    ))

pub returns-clause-rising : goal.returns-clause-rising
returns-clause-rising c =
    let lt : c.args.variable < length c.args.sets.now.items = omega arith in
    rising_set c.args.sets.now.items c.args.variable c.in_ok-all.all lt _ refl c.requires.known c.in_ok-all.ensures.rising

pub returns-clause-right : goal.returns-clause-right
returns-clause-right c all closes right =
    let lt : c.args.variable < length c.args.sets.now.items = omega arith in
    let known : list_all (is_known c.args.sets.now.items) (list_of c.args.users.now c.args.variable) ≡ true =
    sym (ap (list_all (is_known c.args.sets.now.items)) c.list_of-users.ensures) ∙ sym (ap (λ ss. list_all (is_known ss) c.list_of-users.result.now) c.deref-2.ensures.value)
    ∙ sym c.are_known.ensures ∙ c.if-not-are_known.false in
    right_set c.args.sets.now.items c.args.variable c.in_ok-all.all lt all (λ x. has (words_of c.args.own.now x)) (list_of c.args.users.now) (length c.args.own.now) closes right c.requires.own
    (λ u in'. each_of_all (is_known c.args.sets.now.items) (list_of c.args.users.now c.args.variable) u known in')
    (λ k.
    c.in_ok-all.ensures.has k
    ∙ ap (λ ws. has ws k || has c.deref-4.result.now k) c.words_of.ensures ∙ ap (λ ws. has (words_of c.args.own.now c.args.variable) k || has ws k) c.deref-4.ensures.value
    ∙ ap (λ b. has (words_of c.args.own.now c.args.variable) k || b)
    (c.in_ok-of_users.ensures.has k ∙ ap (λ ss. list_any (λ u. has (known_words ss u) k) c.list_of-users.result.now) c.deref-3.ensures.value
    ∙ ap (list_any (λ u. has (known_words c.args.sets.now.items u) k)) c.list_of-users.ensures))
    _ refl

pub returns-clause-kept : goal.returns-clause-kept
returns-clause-kept c =
    let lt : c.args.variable < length c.args.sets.now.items = omega arith in
    kept_set c.args.sets.now.items c.args.variable c.in_ok-all.all lt _ refl

pub returns-clause-settled : goal.returns-clause-settled
returns-clause-settled c ready =
    let lt : c.args.variable < length c.args.sets.now.items = omega arith in
    known_set c.args.sets.now.items c.args.variable c.in_ok-all.all lt _ refl
