use Rattle.parse_unique.proofs.Alike.{spell_alike}
use Rattle.parse_unique.proofs.laws.same_tokens.Goals as goal

pub returns : goal.returns
returns c = λ limit tokens program other same spells. spell_alike limit tokens program other same spells
