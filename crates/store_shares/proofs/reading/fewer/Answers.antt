use Rattle.std.proofs.Common.{◌≡◌, ◌∙◌, ◌<◌, Some, length, sym, ap, refl, subst, false, true}
use Rattle.std.specs.Prelude.{IfSome, slice_get}
use Rattle.std.proofs.lemmas.Option.{slice_get_read}
use Rattle.store_shares.specs.Parts.{Reading, fewer_told, told, told_at}
use Rattle.store_shares.proofs.ReadingLaws.{fewer_is}
use Rattle.store_shares.proofs.reading.fewer.Goals as goal

pub returns-then-is_fewer-clause-fewer : goal.returns-then-is_fewer-clause-fewer
returns-then-is_fewer-clause-fewer g c test part there =
    let reading : Reading = record { number = g.H.Held.number_of c.args.held.now; violation = g.H.Held.violation_of c.args.held.now } in
    let lt : c.in-Some.first < length c.args.parts.now = subst (λ o. IfSome o (λ k. k < length c.args.parts.now)) c.in-Some.is c.requires.best in
    let one : slice_get c.args.parts.now c.in-Some.first ≡ Some c.index-parts-first.result = slice_get_read c.args.parts.now (length c.args.parts.now) c.in-Some.first c.index-parts-first.result refl lt c.index-parts-first.is in
    let other : slice_get c.args.parts.now c.args.at ≡ Some c.index-parts-at.result = slice_get_read c.args.parts.now (length c.args.parts.now) c.args.at c.index-parts-at.result refl c.requires.at c.index-parts-at.is in
    fewer_is (told reading test) c.args.parts.now c.in-Some.first c.args.at c.index-parts-first.result c.index-parts-at.result part true one other there (sym c.if-is_fewer.true ∙ c.is_fewer.ensures test)
    ∙ ap (λ b. fewer_told (told_at (told reading test) c.args.parts.now b) (told reading test part)) (sym c.in-Some.is)

pub returns-clause-fewer : goal.returns-clause-fewer
returns-clause-fewer g c test part there =
    let reading : Reading = record { number = g.H.Held.number_of c.args.held.now; violation = g.H.Held.violation_of c.args.held.now } in
    let lt : c.in-Some.first < length c.args.parts.now = subst (λ o. IfSome o (λ k. k < length c.args.parts.now)) c.in-Some.is c.requires.best in
    let one : slice_get c.args.parts.now c.in-Some.first ≡ Some c.index-parts-first.result = slice_get_read c.args.parts.now (length c.args.parts.now) c.in-Some.first c.index-parts-first.result refl lt c.index-parts-first.is in
    let other : slice_get c.args.parts.now c.args.at ≡ Some c.index-parts-at.result = slice_get_read c.args.parts.now (length c.args.parts.now) c.args.at c.index-parts-at.result refl c.requires.at c.index-parts-at.is in
    fewer_is (told reading test) c.args.parts.now c.in-Some.first c.args.at c.index-parts-first.result c.index-parts-at.result part false one other there (sym c.if-is_fewer.false ∙ c.is_fewer.ensures test)
    ∙ ap (λ b. fewer_told (told_at (told reading test) c.args.parts.now b) (told reading test part)) (sym c.in-Some.is)
