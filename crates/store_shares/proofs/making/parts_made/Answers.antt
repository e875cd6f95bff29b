use Rattle.std.proofs.Common.{◌≡◌, ◌∙◌, ◌++◌, ◌∷◌, [], true, All, take, refl, subst, sym, ap}
use Rattle.std.proofs.lemmas.List.{take_all, take_more}
use Rattle.std.proofs.lemmas.List.Elements.{All-get_or}
use Rattle.term_model.specs.declared.model.Total.{Total}
use Rattle.store_shares.specs.Made.{terms_of}
use Rattle.store_shares.specs.Making.{IsMakingOf}
use Rattle.store_shares.specs.Telling.{IsClosed}
use Rattle.store_shares.proofs.making.parts_made.Goals as goal

pub push_system-requires : goal.push_system-requires
push_system-requires g c =
    let before = c.loop-total.invariant in
    let one = subst (λ (u : Total). All (λ t. g.I.Ids.knows c.args.ids.now t ≡ true) (terms_of u)) (sym c.total-item.is)
    (All-get_or (λ (u : Total). All (λ t. g.I.Ids.knows c.args.ids.now t ≡ true) (terms_of u)) c.args.totals.now c.loop-total.total-index c.total-item.result c.loop-total-test.true c.requires.knows) in
    record {
      knows = subst (λ f. All (λ t. f t ≡ true) (terms_of c.total-item.result)) (sym before.same_known) one;
      closed = subst IsClosed (sym before.same_known) c.requires.closed;
      ready = before.ready;
    }

pub loop-total-init : goal.loop-total-init
loop-total-init g c = record { made = c.in_ok-making.ensures (g.I.Ids.id_of c.args.ids.now); same_ids = refl; same_known = refl; ready = c.requires.ready }

pub loop-total-preserved : goal.loop-total-preserved
loop-total-preserved g c =
    let before = c.loop-total.invariant in
    let more = c.in_ok-push_system.ensures in
    record {
      made =
          subst (IsMakingOf c.args.variables (g.I.Ids.id_of c.args.ids.now) c.push_system.new.making)
          (sym (take_more c.args.totals.now c.loop-total.total-index c.total-item.result c.loop-total-test.true
          ∙ ap (λ (u : Total). take c.loop-total.total-index c.args.totals.now ++ u ∷ []) (sym c.total-item.is)))
          (subst (λ f. IsMakingOf c.args.variables f c.push_system.new.making (take c.loop-total.total-index c.args.totals.now ++ c.total-item.result ∷ [])) before.same_ids
          (more.more c.args.variables (take c.loop-total.total-index c.args.totals.now)
          (subst (λ f. IsMakingOf c.args.variables f c.loop-total.making (take c.loop-total.total-index c.args.totals.now)) (sym before.same_ids) before.made)));
      same_ids = more.same_ids ∙ before.same_ids;
      same_known = more.same_known ∙ before.same_known;
      ready = more.ready;
    }

pub returns : goal.returns
returns g c =
    subst (IsMakingOf c.args.variables (g.I.Ids.id_of c.args.ids.now) c.loop-total.making) (take_all c.loop-total.total-index c.args.totals.now c.loop-total-test.false) c.loop-total.invariant.made
