use Rattle.std.proofs.Common.{◌<◌, ap, ◌∙◌, subst}
use Rattle.store_turns.specs.declared.frame.Frame.{Frame}
use Rattle.store_turns.specs.Meaning.{inputs_in}
use Rattle.trial.proofs.Imagined.{below_true}
use Rattle.trial.proofs.asking.came_to.Goals as goal

pub copied-requires-clause-one : goal.copied-requires-clause-one
copied-requires-clause-one g c =
    let one = c.requires.one (below_true c.args.id c.args.store.now.frame.first (subst (λ (f : Frame). c.args.id < f.first) c.requires.frame c.if-id-frame.true)) in
    (one.0, ap (λ (f : Frame). inputs_in f c.args.id) c.requires.frame ∙ one.1)
