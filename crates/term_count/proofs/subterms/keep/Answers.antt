use Rattle.std.proofs.Common.{pos, ap, ◌∙◌, w64, arith}
use Rattle.std.proofs.lemmas.Int.{to_z_pos}
use Rattle.term_count.proofs.Numbered.{listed_place, listed_with}
use Rattle.term_count.proofs.subterms.keep.Goals as goal

pub returns-clause-codes : goal.returns-clause-codes
returns-clause-codes c = listed_with c.args.code c.args.codes.now.keys c.insert_full.new.self.keys c.in_ok-place.ensures.keys

pub returns-clause-place : goal.returns-clause-place
returns-clause-place c =
    to_z_pos w64 c.in_ok-place.place (omega (arith, c.in_ok-place.ensures.within, c.len-count.ensures.len, c.len-count.ensures.small))
    ∙ ap pos (listed_place c.args.code c.args.codes.now.keys c.in_ok-place.place c.in_ok-place.ensures.index)
