use Rattle.std.proofs.Common.{◌∙◌, sym, ap, map}
use Rattle.std.proofs.lemmas.Slice.Zip.{seconds-zip}
use Rattle.best_turn.proofs.book.Book+S+S+Request+S+Reply.into_parts.Goals as goal

pub returns-clause-history : goal.returns-clause-history
returns-clause-history g c = sym (seconds-zip c.self.inside.numbers.items c.self.inside.history.items (sym c.self.invariant)) ∙ ap (λ d. map (λ x. x.1) d.1) c.self.view_is
