use Rattle.std.proofs.Common.{◌≡◌, ap, sym, subst, ◌∙◌, nat_lt, rules, FitsSigned, w64}
use Rattle.std.proofs.lemmas.Int.{to_z-of_z}
use Rattle.pool_monitor.specs.Pool.{place_for, is_kept}
use Rattle.pool_monitor.proofs.Places.{kept_by_place}
use Rattle.pool_monitor.proofs.pool.Pool.keeps.Goals as goal

pub returns : goal.returns
returns c = λ list.
    let fits : FitsSigned w64 c.args.value = search rules in
    let value_is = to_z-of_z w64 c.args.value fits in
    subst (λ pool. nat_lt c.place_among.result c.self.inside.most ≡ is_kept pool (record { value = c.args.value; list = list })) c.self.view_is
    (subst (λ p. nat_lt p c.self.inside.most ≡ is_kept (record { most = c.self.inside.most; solutions = c.self.inside.solutions.items }) (record { value = c.args.value; list = list }))
    (sym (c.place_among.ensures ∙ (ap (λ v. place_for v c.as_slice.result.now) value_is ∙ ap (place_for c.args.value) c.as_slice.ensures.value)))
    (kept_by_place (record { most = c.self.inside.most; solutions = c.self.inside.solutions.items }) (record { value = c.args.value; list = list }) c.self.invariant.2))
