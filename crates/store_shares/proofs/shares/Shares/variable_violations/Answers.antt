use Rattle.std.proofs.Common.{◌∙◌, length, refl, ap}
use Rattle.std.specs.Prelude.{slice_range}
use Rattle.std.proofs.lemmas.Option.{slice_get_read}
use Rattle.store_shares.specs.Parts.{Reading}
use Rattle.store_shares.specs.Settled.{known_words}
use Rattle.store_shares.proofs.CallLaws.{answer_by}
use Rattle.store_shares.proofs.shares.Shares.variable_violations.Goals as goal

pub returns : goal.returns
returns g c users M env ids known formed kept reads weights knows is_var =
    let reading : Reading = record { number = g.H.Held.number_of c.args.held.now; violation = g.H.Held.violation_of c.args.held.now } in
    answer_by users M env ids known reading formed c.args.self.now kept reads c.args.system (g.H.Held.weight_of c.args.held.now) weights knows c.args.variable is_var c.index-span.result.now
    (slice_get_read c.args.self.now.systems.items (length c.args.self.now.systems.items) c.args.system c.index-span.result.now refl c.requires.system c.index-span.ensures) c.total_of.result
    c.known_words-slots.result.now c.known_words-members.result.now (slice_range c.deref-3.result.now c.index-span.result.now.first c.index-span.result.now.end)
    (c.known_words-slots.ensures ∙ ap (λ sets. known_words sets c.args.variable) c.deref.ensures.value)
    (c.known_words-members.ensures ∙ ap (λ sets. known_words sets c.args.variable) c.deref-2.ensures.value)
    (ap (λ ps. slice_range ps c.index-span.result.now.first c.index-span.result.now.end) c.deref-3.ensures.value) c.total_of.ensures
