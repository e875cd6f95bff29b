use Rattle.std.proofs.Common.{◌≡◌, ◌≢◌, ℕ, List, length, Some, sym, ap, ◌∙◌, subst, arith}
use Rattle.std.specs.BTreeMap.{get}
use Rattle.std.specs.Ordering.{nat_cmp}
use Rattle.inc_store.specs.declared.changed.NodeChange.{NodeChange}
use Rattle.trial.specs.ChangeLists.{map_of, ArePlaced}
use Rattle.trial.proofs.ListedChanges.{still_placed, push_placed, push_found, push_others}
use Rattle.trial.proofs.changes.add.Goals as goal

pub returns-in_err-lead-clause-placed : goal.returns-in_err-lead-clause-placed
returns-in_err-lead-clause-placed c =
    still_placed c.args.items.now.items c.args.places.now.items c.lead.new.places.items c.requires.placed c.args.change c.requires.absent c.lead.ensures.kept

pub returns-in_err-push-clause-placed : goal.returns-in_err-push-clause-placed
returns-in_err-push-clause-placed c =
    subst (λ (cs : List NodeChange). ArePlaced cs c.lead.new.places.items) (sym c.in_err-push.ensures.items)
    (still_placed c.args.items.now.items c.args.places.now.items c.lead.new.places.items c.requires.placed c.args.change c.requires.absent c.lead.ensures.kept)

pub returns-clause-placed : goal.returns-clause-placed
returns-clause-placed c =
    let many : c.len.result ≡ length c.args.items.now.items = omega (arith, c.args.items.now.ok.0, c.len.ensures) in
    subst (λ (cs : List NodeChange). ArePlaced cs c.lead.new.places.items) (sym c.in_ok-push.ensures.items)
    (push_placed c.args.items.now.items c.args.places.now.items c.lead.new.places.items c.requires.placed c.args.change c.requires.absent c.lead.ensures.kept (c.in_ok-lead.ensures.here ∙ ap (λ (n : ℕ). Some n) many))

pub returns-clause-here : goal.returns-clause-here
returns-clause-here c =
    let many : c.len.result ≡ length c.args.items.now.items = omega (arith, c.args.items.now.ok.0, c.len.ensures) in
    subst (λ (cs : List NodeChange). get nat_cmp (map_of cs) c.args.change.node.0 ≡ Some c.args.change) (sym c.in_ok-push.ensures.items)
    (push_found c.args.items.now.items c.args.places.now.items c.lead.new.places.items c.requires.placed c.args.change c.requires.absent c.lead.ensures.kept (c.in_ok-lead.ensures.here ∙ ap (λ (n : ℕ). Some n) many))

pub returns-clause-elsewhere : goal.returns-clause-elsewhere
returns-clause-elsewhere c =
    let many : c.len.result ≡ length c.args.items.now.items = omega (arith, c.args.items.now.ok.0, c.len.ensures) in
    subst (λ (cs : List NodeChange). (j : ℕ) → j ≢ c.args.change.node.0 → get nat_cmp (map_of cs) j ≡ get nat_cmp (map_of c.args.items.now.items) j) (sym c.in_ok-push.ensures.items)
    (push_others c.args.items.now.items c.args.places.now.items c.lead.new.places.items c.requires.placed c.args.change c.requires.absent c.lead.ensures.kept (c.in_ok-lead.ensures.here ∙ ap (λ (n : ℕ). Some n) many))
