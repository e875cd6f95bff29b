use Rattle.std.proofs.Common.{◌∙◌, ap, get_or, length, map, subst, sym, take}
use Rattle.std.proofs.lemmas.List.{take_all}
use Rattle.cbl_base.specs.Inputs.{as_inputs}
use Rattle.cbl_base.specs.declared.input.Input.TheVariants.{Set}
use Rattle.node_base.specs.NumberChanges.{AreNumberChanges, IsNumberChange, after_number_changes}
use Rattle.node_base.proofs.ChangeLemmas.{length-after_numbers, no_change, number_now}
use Rattle.node_order.specs.Extremes.{turned}
use Rattle.node_order.proofs.ExtremeLemmas.{changes_kept, held_after}
use Rattle.node_order.proofs.arg_extreme.ArgExtremeNodeRule.apply.Goals as goal

pub set-requires-clause-change : goal.set-requires-clause-change
set-requires-clause-change c =
    let s = c.args.self.now in
    let ys = s.least.lowest.numbers.items in
    let ds = c.deref-change-items.result.now in
    let i = c.loop-change.change-index in
    let are = subst (λ t. AreNumberChanges ys t) (sym (c.deref-change-items.ensures.value ∙ c.in_ok-changes.ensures)) (changes_kept s.extreme ys c.args.changes.now c.requires.changes) in
    subst (λ t. IsNumberChange t (get_or ds i no_change)) (sym c.loop-change.invariant.numbers) (number_now ys ds i no_change are c.loop-change-test.true)

pub found-requires-clause-length : goal.found-requires-clause-length
found-requires-clause-length c =
    let ys = c.args.self.now.least.lowest.numbers.items in
    let ds = c.deref-change-items.result.now in
    ap length c.loop-change.invariant.numbers ∙ length-after_numbers ys (take c.loop-change.change-index ds) ∙ c.requires.ready.2 ∙ ap length (sym c.loop-change.invariant.keys)

pub returns-clause-ready : goal.returns-clause-ready
returns-clause-ready c =
    let ys = c.args.self.now.least.lowest.numbers.items in
    let ds = c.deref-change-items.result.now in
    let i = c.loop-change.invariant in
    let long = ap length i.numbers ∙ length-after_numbers ys (take c.loop-change.change-index ds) ∙ c.requires.ready.2 ∙ ap length (sym i.keys) in
    (i.settled, i.index, long, ap Set c.in_ok-found.ensures)

pub returns-clause-held : goal.returns-clause-held
returns-clause-held c =
    let s = c.args.self.now in
    let ys = s.least.lowest.numbers.items in
    let i = c.loop-change.invariant in
    let all = take_all _ _ c.loop-change-test.false ∙ c.deref-change-items.ensures.value ∙ c.in_ok-changes.ensures in
    rw i.extreme (ap (λ t. as_inputs (map (turned s.extreme) t)) (i.numbers ∙ ap (after_number_changes ys) all) ∙ held_after s.extreme ys c.args.changes.now c.requires.changes)
