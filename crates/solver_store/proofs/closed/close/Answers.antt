use Rattle.std.proofs.Common.{rules, refl, sym, ◌∙◌}
use Rattle.std.proofs.lemmas.List.{length-map}
use Rattle.inc_store.specs.Views.{rules_in}
use Rattle.posted_users.specs.KeptOf.{kept_of}
use Rattle.solver_store.specs.KeptRules.{waiting_rules}
use Rattle.solver_store.proofs.Closing.{all_last, user_nodes}
use Rattle.solver_store.proofs.RulesBack.{rules_back}
use Rattle.solver_store.proofs.closed.close.Goals as goal

pub build-requires : goal.build-requires
build-requires g c κs within =
    (search (rules, within), (refl, (refl, (refl, ((c.requires.given, c.requires.sets), (user_nodes g.N.NodeRule.rule c.args.users.items c.requires.rules, c.requires.posted))))))

pub returns-clause-closed : goal.returns-clause-closed
returns-clause-closed g c =
    let e = c.in_ok-built.ensures in
    record {
      given = (c.requires.given, c.requires.sets);
      total = refl;
      store = e.store;
      whole = e.whole;
      rules = e.rules;
      short = e.short;
      placed = e.placed;
      places = e.places;
      ordered = c.in_ok-shares.ensures.ordered;
      shares = c.in_ok-shares.ensures;
    }

pub returns-clause-rules : goal.returns-clause-rules
returns-clause-rules g c =
    rules_back c.args.model.now c.requires.given.formed (waiting_rules g.N.NodeRule.rule c.args.users.items) (rules_in g.N.NodeRule.rule c.in_ok-built.built.store)
    (sym c.requires.posted ∙ sym (length-map c.args.users.items (λ n. kept_of (g.N.NodeRule.rule n)))) c.in_ok-built.ensures.rules (all_last g.N.NodeRule.rule c.args.users.items c.requires.rules)
