use Rattle.std.proofs.Common.{◌≡◌, ℕ, List, cond, length, sym, ap, ◌∙◌, subst, arith}
use Rattle.std.specs.BTreeMap.{get}
use Rattle.std.specs.Ordering.{nat_cmp}
use Rattle.cbl_base.specs.declared.ids.NodeId.{NodeId}
use Rattle.store_turns.specs.declared.waiting.Waiting.{Waiting}
use Rattle.store_turns.specs.Cones.{has, chosen}
use Rattle.store_turns.specs.Touch.{differs}
use Rattle.store_turns.specs.Telling.{IsTold, places_in}
use Rattle.store_turns.specs.Meaning.{layer_of, uses_in}
use Rattle.store_turns.specs.Waits.{waits}
use Rattle.inc_store.proofs.NodeLists.{list_at}
use Rattle.trial.specs.Overlays.{noted}
use Rattle.trial.proofs.settling.settle.Goals as goal

pub returns-clause-told : goal.returns-clause-told
returns-clause-told g c =
    let us : c.as_slice-uses.result.now ≡ uses_in c.args.frame.now c.args.id = c.as_slice-uses.ensures.value ∙ list_at c.args.frame.now.uses.items c.args.id c.index.result.now c.requires.lists c.index.ensures in
    subst (λ (x : Waiting). IsTold (layer_of c.args.frame.now) (chosen (has c.args.members.now) (uses_in c.args.frame.now c.args.id)) c.args.old.now c.args.outcome (waits c.args.overlay.now.waiting) (waits x)) (sym c.in_ok-keep.ensures.waiting)
    (subst (λ (k : List (NodeId × ℕ)). IsTold (layer_of c.args.frame.now) (chosen (has c.args.members.now) k) c.args.old.now c.args.outcome (waits c.args.overlay.now.waiting) (waits c.spread.new.overlay.waiting)) us c.in_ok-other.ensures.told)

pub returns-clause-roots : goal.returns-clause-roots
returns-clause-roots g c = λ j.
    let us : c.as_slice-uses.result.now ≡ uses_in c.args.frame.now c.args.id = c.as_slice-uses.ensures.value ∙ list_at c.args.frame.now.uses.items c.args.id c.index.result.now c.requires.lists c.index.ensures in
    ap (λ r. get nat_cmp r j) c.in_ok-keep.ensures.roots ∙ c.in_ok-other.ensures.roots j ∙ ap (λ (k : List (NodeId × ℕ)). noted (places_in j (chosen (has c.args.members.now) k)) c.args.root (get nat_cmp c.args.overlay.now.roots j)) us

pub returns-clause-steps : goal.returns-clause-steps
returns-clause-steps g c =
    let us : c.as_slice-uses.result.now ≡ uses_in c.args.frame.now c.args.id = c.as_slice-uses.ensures.value ∙ list_at c.args.frame.now.uses.items c.args.id c.index.result.now c.requires.lists c.index.ensures in
    let share : cond (differs c.args.outcome c.args.old.now) (length (chosen (has c.args.members.now) c.as_slice-uses.result.now)) 0 ≡ cond (differs c.args.outcome c.args.old.now) (length (chosen (has c.args.members.now) (uses_in c.args.frame.now c.args.id))) 0 =
    ap (λ (k : List (NodeId × ℕ)). cond (differs c.args.outcome c.args.old.now) (length (chosen (has c.args.members.now) k)) 0) us in
    omega (arith, share, c.spread.ensures.steps, c.keep.ensures.steps)
