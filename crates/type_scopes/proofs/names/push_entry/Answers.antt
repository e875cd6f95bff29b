use Rattle.std.proofs.Common.{ap, ◌∙◌, subst, sym, rules}
use Rattle.type_scopes.specs.Index.{IsIndexed}
use Rattle.type_scopes.proofs.Indexes.{pushed}
use Rattle.type_scopes.proofs.names.push_entry.Goals as goal

pub returns-clause-indexed : goal.returns-clause-indexed
returns-clause-indexed c = subst (λ es. IsIndexed es c.set.new.self) (sym c.in_ok-push.ensures.items)
    (pushed _ (record { binding = c.args.binding; hidden = c.at-hidden.result }) c.args.latest.now c.put.new.self c.set.new.self (search rules) (search rules) (search rules) (search rules))
