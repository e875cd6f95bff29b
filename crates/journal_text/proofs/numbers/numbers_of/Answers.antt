use Rattle.std.proofs.Common.{rules, List, [], ◌∷◌, ◌++◌, Some, ap, sym, ◌∙◌, FitsSigned, w64}
use Rattle.std.specs.Prelude.{ℤ}
use Rattle.std.proofs.lemmas.Int.{to_z-of_z}
use Rattle.std.proofs.lemmas.Result.{err_from_is_err_and}
use Rattle.journal_text.specs.Refusal.{split}
use Rattle.journal_text.specs.Reading.{numbers_of}
use Rattle.journal_text.proofs.NumberLaws.{more_last, number_fault, last_fault}
use Rattle.journal_text.proofs.numbers.numbers_of.Goals as goal

pub returns-in_err-last : goal.returns-in_err-last
returns-in_err-last c =
    let p = err_from_is_err_and c.from_residual.result c.from_residual.ensures.1 in
    rw (p.1, p.2) (last_fault {X = List ℤ} (λ l. l) c.in_err-last.field-0.0 c.loop.numbers.items c.loop.rest.now (numbers_of (split 44 c.args.inside.now)) (search rules) c.in_err-last.ensures c.loop.invariant)

pub returns-in_err-number : goal.returns-in_err-number
returns-in_err-number c =
    let p = err_from_is_err_and c.from_residual-in_err-number.result c.from_residual-in_err-number.ensures.1 in
    rw (p.1, p.2) (number_fault {X = List ℤ} (λ l. l) c.in_err-number.field-0.0 c.loop.numbers.items c.loop.rest.now c.in-Some.word.now c.in-Some.behind.now (numbers_of (split 44 c.args.inside.now)) (search rules) c.in_err-number.ensures c.loop.invariant)

pub returns-in_default : goal.returns-in_default
returns-in_default c =
    let fits : FitsSigned w64 c.in_ok-last.last = search rules in
    more_last c.loop.numbers.items c.loop.rest.now c.in_ok-last.last (numbers_of (split 44 c.args.inside.now)) (search rules) c.in_ok-last.ensures c.loop.invariant
    ∙ (ap (λ z. Some (c.loop.numbers.items ++ z ∷ [])) (sym (to_z-of_z w64 c.in_ok-last.last fits)) ∙ ap (λ l. Some l) (sym c.in_ok-push.ensures.items))
