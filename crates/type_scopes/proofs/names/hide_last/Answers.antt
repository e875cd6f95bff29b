use Rattle.std.proofs.Common.{ap, ◌∙◌, subst, sym, rules, ◌≡◌, true}
use Rattle.std.specs.Prelude.{◌++◌, option_to_list}
use Rattle.type_scopes.specs.Latest.{is_held}
use Rattle.type_scopes.proofs.Indexes.{popped, last_held}
use Rattle.type_scopes.proofs.names.hide_last.Goals as goal

pub set-requires : goal.set-requires
set-requires c = subst (λ n. is_held c.args.latest.now n ≡ true) (sym c.as_slice.ensures)
    (last_held c.pop.new.self.items c.args.entries.now.items c.in-Some.entry c.args.latest.now (c.pop.ensures.items ∙ ap (λ o. c.pop.new.self.items ++ option_to_list o) c.in-Some.is) c.requires.indexed)

pub returns-in-Some-clause-indexed : goal.returns-in-Some-clause-indexed
returns-in-Some-clause-indexed c =
    popped c.pop.new.self.items c.args.entries.now.items c.in-Some.entry c.args.latest.now c.set.new.self
    (c.pop.ensures.items ∙ ap (λ o. c.pop.new.self.items ++ option_to_list o) c.in-Some.is) c.requires.indexed (rw (← c.as_slice.ensures) c.set.ensures)
