-- How many candidates there are.
use Rattle.std.proofs.Common.{sym}
use Rattle.search_forms.proofs.CandidateLaws.{rows_length}
use Rattle.search_forms.proofs.candidates.Candidates.len.Goals as goal

pub returns : goal.returns
returns c = sym (rows_length c.args.self.now.width c.args.self.now.count c.args.self.now.numbers.items)
