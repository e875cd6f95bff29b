use Rattle.std.proofs.Common.{◌≡◌, ◌∙◌, rules, sym}
use Rattle.store_shares.specs.Parts.{Reading, told}
use Rattle.store_shares.proofs.reading.is_fewer.Goals as goal

pub returns : goal.returns
returns g c test =
    let reading : Reading = record { number = g.H.Held.number_of c.args.held.now; violation = g.H.Held.violation_of c.args.held.now } in
    let left : c.number.result ≡ (told reading test c.args.part.now).number = c.number.ensures ∙ sym (c.id_of.ensures reading test) in
    let right : c.number-2.result ≡ (told reading test c.args.other.now).number = c.number-2.ensures ∙ sym (c.id_of-2.ensures reading test) in
    search (rules, left, right)
