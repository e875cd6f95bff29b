use Rattle.store_laws.proofs.Tells.{told}
use Rattle.store_laws.proofs.laws.delta_law.Goals as goal

pub returns : goal.returns
returns c = λ users M a g total given holds cells free assigned whole there target is change proper undefined ms of uses result base steps tells.
    told users M g total holds whole there target is a given free assigned cells change proper undefined ms of result tells.difference tells.fault
