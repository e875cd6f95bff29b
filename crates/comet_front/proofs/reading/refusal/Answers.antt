use Rattle.std.specs.Prelude.{drop}
use Rattle.std.proofs.Common.{subst}
use Rattle.cbl_base.specs.declared.limits.TheConstants.{MAX_NESTING}
use Rattle.comet_parse.specs.Refusals.{IsRefusal}
use Rattle.comet_front.specs.Reading.{no_tree}
use Rattle.comet_front.proofs.Found.{found}
use Rattle.comet_front.proofs.reading.refusal.Goals as goal

pub returns-in-Fault : goal.returns-in-Fault
returns-in-Fault c =
    let f = found c.args.tokens.now c.in-Fault.token c.in-Fault.cause (subst (λ s. IsRefusal MAX_NESTING c.args.tokens.now s) c.in-Fault.is c.requires.refused) in
    no_tree (record {
      tokens = c.args.tokens.now;
      listed = c.requires.listed;
      before = f.before;
      rest = drop c.in-Fault.token c.args.tokens.now;
      refused = f.refused;
      place_is = c.place_left-place.ensures;
    })
