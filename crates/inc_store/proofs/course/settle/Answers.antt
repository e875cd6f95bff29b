use Rattle.std.proofs.Common.{◌≡◌, [], ◌∙◌, arith}
use Rattle.store_turns.specs.Cones.{chosen, has}
use Rattle.store_turns.specs.Meaning.{uses_in}
use Rattle.store_turns.specs.Waits.{waits}
use Rattle.store_turns.proofs.ConeLists.{all_chosen}
use Rattle.store_build.specs.Frames.{cell_of}
use Rattle.inc_store.proofs.NodeLists.{told_over, list_at, all_share}
use Rattle.inc_store.proofs.course.settle.Goals as goal

pub returns-clause-told : goal.returns-clause-told
returns-clause-told g c =
    let us : chosen (has []) c.as_slice-uses.result.now ≡ uses_in c.args.frame.now c.args.id = all_chosen c.as_slice-uses.result.now ∙ c.as_slice-uses.ensures.value ∙ list_at c.args.frame.now.uses.items c.args.id c.index.result.now c.requires.lists c.index.ensures in
    told_over c.args.frame.now c.deref.result.now (chosen (has []) c.as_slice-uses.result.now) c.args.id (cell_of c.args.cells.now c.args.id) c.read.result.now c.args.outcome (waits c.args.course.now.waiting) c.tell.new.waiting c.keep.new.course.waiting
    c.deref.ensures.value us c.read.ensures.value c.in_ok-keep.ensures.waiting c.in_ok-other.ensures.told

pub returns-in_err-other-clause-steps : goal.returns-in_err-other-clause-steps
returns-in_err-other-clause-steps g c =
    let us : c.as_slice-uses.result.now ≡ uses_in c.args.frame.now c.args.id = c.as_slice-uses.ensures.value ∙ list_at c.args.frame.now.uses.items c.args.id c.index.result.now c.requires.lists c.index.ensures in
    let share = all_share c.as_slice-uses.result.now (uses_in c.args.frame.now c.args.id) (cell_of c.args.cells.now c.args.id) c.read.result.now c.args.outcome us c.read.ensures.value in
    omega (arith, share, c.read.ensures.steps, c.tell.ensures.steps)

pub returns-in_err-keep-clause-steps : goal.returns-in_err-keep-clause-steps
returns-in_err-keep-clause-steps g c =
    let us : c.as_slice-uses.result.now ≡ uses_in c.args.frame.now c.args.id = c.as_slice-uses.ensures.value ∙ list_at c.args.frame.now.uses.items c.args.id c.index.result.now c.requires.lists c.index.ensures in
    let share = all_share c.as_slice-uses.result.now (uses_in c.args.frame.now c.args.id) (cell_of c.args.cells.now c.args.id) c.read.result.now c.args.outcome us c.read.ensures.value in
    omega (arith, share, c.read.ensures.steps, c.tell.ensures.steps, c.keep.ensures.steps)

pub returns-clause-steps : goal.returns-clause-steps
returns-clause-steps g c =
    let us : c.as_slice-uses.result.now ≡ uses_in c.args.frame.now c.args.id = c.as_slice-uses.ensures.value ∙ list_at c.args.frame.now.uses.items c.args.id c.index.result.now c.requires.lists c.index.ensures in
    let share = all_share c.as_slice-uses.result.now (uses_in c.args.frame.now c.args.id) (cell_of c.args.cells.now c.args.id) c.read.result.now c.args.outcome us c.read.ensures.value in
    omega (arith, share, c.read.ensures.steps, c.tell.ensures.steps, c.keep.ensures.steps)
