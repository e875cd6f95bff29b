use Rattle.term_count.proofs.Numbered.{listed_place, listed_with}
use Rattle.term_graph.proofs.codes.keep_code.Goals as goal

pub returns-clause-codes : goal.returns-clause-codes
returns-clause-codes c = listed_with c.args.code c.args.codes.now.keys c.insert_full.new.self.keys c.in_ok-place.ensures.keys

pub returns-clause-place : goal.returns-clause-place
returns-clause-place c = listed_place c.args.code c.args.codes.now.keys c.in_ok-place.place c.in_ok-place.ensures.index
