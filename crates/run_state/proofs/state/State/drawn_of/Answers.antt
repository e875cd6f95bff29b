-- The range isn't empty, and the next word draws a number of it.
use Rattle.std.proofs.Common.{arith, rules, w64, SFits}
use Rattle.run_search.specs.Searches.{search_seen}
use Rattle.run_values.specs.Views.{bounds_seen}
use Rattle.run_state.specs.Views.{state_seen}
use Rattle.run_state.proofs.DrawLaws.{drawn_as, drawn_cast}
use Rattle.run_state.proofs.state.State.drawn_of.Goals as goal

pub returns-clause-did : goal.returns-clause-did
returns-clause-did c = λ printed.
    let low : SFits w64 c.args.bounds.low = search rules in
    let up : SFits w64 c.args.bounds.up = search rules in
    drawn_as c.args.at (bounds_seen c.args.bounds) (state_seen c.args.self.now printed) c.size-size.result c.below-behind.result _ (search_seen c.below-behind.new.self) c.size-size.ensures.size (omega arith) c.below-behind.ensures.share c.below-behind.ensures.taken
    (drawn_cast (bounds_seen c.args.bounds) c.below-behind.result c.size-size.result low up c.size-size.ensures.size c.below-behind.ensures.below)
