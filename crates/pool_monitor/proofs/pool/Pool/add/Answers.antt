use Rattle.std.proofs.Common.{◌≡◌, ◌-◌, ◌<◌, ◌≤◌, true, false, length, take, insert, ap, sym, subst, ◌∙◌, rules, FitsSigned, to_z, of_z, w64}
use Rattle.std.proofs.lemmas.Int.{to_z-of_z}
use Rattle.pool_monitor.specs.Pool.{place_for, add_step}
use Rattle.pool_monitor.proofs.Places.{step_out, step_kept, place_within}
use Rattle.best_monitor.specs.declared.request.Reply.TheVariants as reply
use Rattle.pool_monitor.proofs.pool.Pool.add.Goals as goal

pub returns-then-place-self : goal.returns-then-place-self
returns-then-place-self c =
    let ss = c.self.inside.solutions.items in
    let fits : FitsSigned w64 c.args.value = search rules in
    let place : c.place_among-place.result ≡ place_for c.args.value ss = c.place_among-place.ensures ∙ (ap (λ v. place_for v c.as_slice.result.now) (to_z-of_z w64 c.args.value fits) ∙ ap (place_for c.args.value) c.as_slice.ensures.value) in
    let past : c.self.inside.most ≤ c.place_among-place.result = c.if-place-self.true in
    subst (λ pool. add_step pool (record { value = c.args.value; list = c.args.list.now }) ≡ (pool, reply.Truth false)) c.self.view_is
    (step_out (record { most = c.self.inside.most; solutions = ss }) (record { value = c.args.value; list = c.args.list.now }) c.self.invariant.2 (subst (λ p. c.self.inside.most ≤ p) place past))

pub put_at-requires-clause-place : goal.put_at-requires-clause-place
put_at-requires-clause-place c =
    let ss = c.self.inside.solutions.items in
    let place : c.place_among-place.result ≡ place_for (to_z w64 (of_z w64 c.args.value)) ss = c.place_among-place.ensures ∙ ap (place_for (to_z w64 (of_z w64 c.args.value))) c.as_slice.ensures.value in
    let below : c.place_among-place.result < c.self.inside.most = c.if-place-self.false in
    (below, subst (λ p. p ≤ length ss) (sym place) (place_within (to_z w64 (of_z w64 c.args.value)) ss))

pub returns : goal.returns
returns c =
    let ss = c.self.inside.solutions.items in
    let fits : FitsSigned w64 c.args.value = search rules in
    let place : c.place_among-place.result ≡ place_for c.args.value ss = c.place_among-place.ensures ∙ (ap (λ v. place_for v c.as_slice.result.now) (to_z-of_z w64 c.args.value fits) ∙ ap (place_for c.args.value) c.as_slice.ensures.value) in
    let below : c.place_among-place.result < c.self.inside.most = c.if-place-self.false in
    let value_is = to_z-of_z w64 c.args.value fits in
    let list_is : c.in_ok-list.list ≡ c.args.list.now = c.in_ok-list.ensures ∙ c.as_slice-2.ensures in
    let kept = take (c.self.inside.most - 1) ss in
    let after_is : c.put_at.new.solutions.items ≡ insert kept (place_for c.args.value ss) (record { value = c.args.value; list = c.args.list.now }) = c.in_ok-put_at.ensures
    ∙ (ap (λ p. insert kept p (record { value = to_z w64 (of_z w64 c.args.value); list = c.in_ok-list.list })) place
    ∙ (ap (λ v. insert kept (place_for c.args.value ss) (record { value = v; list = c.in_ok-list.list })) value_is ∙ ap (λ l. insert kept (place_for c.args.value ss) (record { value = c.args.value; list = l })) list_is)) in
    subst (λ pool. add_step pool (record { value = c.args.value; list = c.args.list.now }) ≡ (record { most = c.self.inside.most; solutions = c.put_at.new.solutions.items }, reply.Truth true)) c.self.view_is
    (step_kept (record { most = c.self.inside.most; solutions = ss }) (record { value = c.args.value; list = c.args.list.now }) c.put_at.new.solutions.items c.self.invariant.2 (subst (λ p. p < c.self.inside.most) place below) after_is)
