use Rattle.std.proofs.Common.{rules, ◌≡◌, ℕ, true, All, subst}
use Rattle.std.proofs.lemmas.Bool.{OnTrue_at}
use Rattle.term_model.specs.Checks.{IsOwned, IsTotal}
use Rattle.term_model.proofs.UsableLaws.{well_formed_from}
use Rattle.term_model.proofs.usable.is_well_formed.Goals as goal

pub returns : goal.returns
returns c =
    let definitions : c.in_ok-are_definitions.field-0 ≡ true = search rules in
    let systems : c.in_ok-are_totals.field-0 ≡ true = search rules in
    let objectives : c.in_ok-are_totals-2.field-0 ≡ true = search rules in
    let defined : c.in_ok-are_defined_once.field-0 ≡ true = search rules in
    let users : c.in_ok-are_users_once.field-0 ≡ true = search rules in
    let constraints : c.in_ok-are_posted_in_order.field-0 ≡ true = search rules in
    let parts : c.in_ok-are_posted_in_order-2.field-0 ≡ true = search rules in
    well_formed_from c.args.model.now c.args.table.now
    (OnTrue_at definitions c.in_ok-are_definitions.ensures)
    (subst (λ ds. (d : ℕ) → IsOwned c.args.table.now ds d) c.deref.ensures.value (OnTrue_at c.if-not-are_owned.false c.are_owned.ensures))
    (subst (All (IsTotal c.args.model.now)) c.deref-2.ensures.value (OnTrue_at systems c.in_ok-are_totals.ensures))
    (subst (All (IsTotal c.args.model.now)) c.deref-3.ensures.value (OnTrue_at objectives c.in_ok-are_totals-2.ensures))
    (OnTrue_at defined c.in_ok-are_defined_once.ensures)
    (OnTrue_at constraints c.in_ok-are_posted_in_order.ensures.posted)
    (OnTrue_at parts c.in_ok-are_posted_in_order-2.ensures.posted)
    (OnTrue_at constraints c.in_ok-are_posted_in_order.ensures.there)
    (OnTrue_at parts c.in_ok-are_posted_in_order-2.ensures.there)
    (OnTrue_at users c.in_ok-are_users_once.ensures)
