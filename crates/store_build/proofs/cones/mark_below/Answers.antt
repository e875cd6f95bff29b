use Rattle.std.proofs.Common.{◌≡◌, ◌∙◌, ℕ, ◌<◌, ◌++◌, [], ◌∷◌, List, false, length, replicate, rules, refl, subst}
use Rattle.store_turns.specs.Meaning.{ids_of}
use Rattle.cbl_base.specs.declared.ids.NodeId.{NodeId}
use Rattle.store_build.specs.Lists.{list_in}
use Rattle.store_build.specs.Marking.{Marks, IsMarking}
use Rattle.store_build.proofs.ListLemmas.{in-read}
use Rattle.store_build.proofs.MarkSteps.{marking_start, marking_more, marking_end, same_cone, on_old, has_inputs}
use Rattle.store_build.proofs.cones.mark_below.Goals as goal

pub loop-id-init : goal.loop-id-init
loop-id-init c =
    let inputs = c.args.inputs.now in
    let none : c.unmark.new.members.items ≡ replicate (length inputs) false = search rules in
    let empty : c.clear.new.self.items ≡ [] = search rules in
    marking_start (λ j. ids_of (list_in inputs j)) (length inputs) c.args.target c.requires c.unmark.new.members.items c.mark.new.members.items c.clear.new.self.items c.mark.new.stack.items none empty c.in_ok-mark.ensures

pub bounds-inputs-id : goal.bounds-inputs-id
bounds-inputs-id c =
    let inputs = c.args.inputs.now in
    let popped : c.loop-id.stack.items ≡ c.pop.new.self.items ++ c.in-Some.id ∷ [] = c.in-Some.ensures.items in
    c.loop-id.invariant.within c.in-Some.id (on_old (λ j. ids_of (list_in inputs j)) (length inputs) c.args.target c.in-Some.id c.loop-id.members.items c.loop-id.members.items c.loop-id.stack.items c.pop.new.self.items [] popped c.loop-id.invariant)

pub loop-id-preserved : goal.loop-id-preserved
loop-id-preserved c =
    let inputs = c.args.inputs.now in
    let id = c.in-Some.id in
    let popped : c.loop-id.stack.items ≡ c.pop.new.self.items ++ id ∷ [] = c.in-Some.ensures.items in
    let lt : id < length inputs = c.loop-id.invariant.within id (on_old (λ j. ids_of (list_in inputs j)) (length inputs) c.args.target id c.loop-id.members.items c.loop-id.members.items c.loop-id.stack.items c.pop.new.self.items [] popped c.loop-id.invariant) in
    let same : c.as_slice.result.now ≡ list_in inputs id = c.as_slice.ensures.value ∙ in-read inputs id c.index-inputs-id.result lt c.index-inputs-id.is in
    let step : Marks (ids_of (list_in inputs id)) c.loop-id.members.items c.pop.new.self.items c.mark_all.new.members.items c.mark_all.new.stack.items =
    subst (λ (is : List NodeId). Marks (ids_of is) c.loop-id.members.items c.pop.new.self.items c.mark_all.new.members.items c.mark_all.new.stack.items) same c.in_ok-mark_all.ensures in
    marking_more (λ j. ids_of (list_in inputs j)) (length inputs) c.args.target id c.loop-id.members.items c.mark_all.new.members.items c.loop-id.stack.items c.pop.new.self.items c.mark_all.new.stack.items popped c.loop-id.invariant step

pub returns : goal.returns
returns c =
    let inputs = c.args.inputs.now in
    let empty : c.loop-id.stack.items ≡ [] = search rules in
    same_cone (λ j. ids_of (list_in inputs j)) (length inputs) (record { target = c.args.target; members = c.loop-id.members }) (record { target = c.args.target; members = c.shorten.new.members }) refl c.shorten.ensures
    (marking_end (λ j. ids_of (list_in inputs j)) (length inputs) c.args.target (has_inputs inputs) (record { target = c.args.target; members = c.loop-id.members }) refl
    (subst (λ (s : List ℕ). IsMarking (λ j. ids_of (list_in inputs j)) (length inputs) c.args.target c.loop-id.members.items s) empty c.loop-id.invariant))
