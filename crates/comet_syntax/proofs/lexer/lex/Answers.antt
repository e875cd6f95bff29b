use Rattle.std.specs.Prelude.{◌≡◌, []}
use Rattle.std.proofs.Common.{arith, sym, ◌∙◌}
use Rattle.comet_syntax.specs.Tokens.TokenFault.{too_long}
use Rattle.comet_syntax.proofs.Cuts.{no_break}
use Rattle.comet_syntax.proofs.TokenFaults.{list_one, list_no_stop, broken_first, stuck_first, end_stops, all_cut, empty_is, full_is, all_of}
use Rattle.comet_syntax.proofs.lexer.lex.Goals as goal

pub returns-then-text-gt-MOST_BYTES-clause-fault : goal.returns-then-text-gt-MOST_BYTES-clause-fault
returns-then-text-gt-MOST_BYTES-clause-fault c = too_long (omega arith)

pub returns-in-Some-clause-fault : goal.returns-in-Some-clause-fault
returns-in-Some-clause-fault c = broken_first (omega arith) c.in_ok-cut.ensures.cut c.in_ok-cut.ensures.ends c.in-Some.ensures.some c.in-Some.ensures.before c.place_behind-place.ensures

pub returns-in-Some-clause-none : goal.returns-in-Some-clause-none
returns-in-Some-clause-none c = λ stop tokens list. no_break list.utf8 c.in-Some.ensures.some

pub returns-then-not-is_empty-clause-fault : goal.returns-then-not-is_empty-clause-fault
returns-then-not-is_empty-clause-fault c = stuck_first (omega arith) c.in_ok-cut.ensures.cut c.in_ok-cut.ensures.ends (full_is (sym c.is_empty.ensures ∙ c.if-not-is_empty.true))
    c.in_default.ensures.none c.in_ok-cut.ensures.place c.stuck_cause.ensures

pub returns-then-not-is_empty-clause-none : goal.returns-then-not-is_empty-clause-none
returns-then-not-is_empty-clause-none c = λ stop tokens list.
    list_no_stop list (end_stops c.in_ok-cut.ensures.cut c.in_ok-cut.ensures.ends (full_is (sym c.is_empty.ensures ∙ c.if-not-is_empty.true)))

pub returns-clause-found : goal.returns-clause-found
returns-clause-found c =
    let empty : c.in_ok-cut.cut.rest.now ≡ [] = empty_is (sym c.is_empty.ensures ∙ c.if-not-is_empty.false) in
    all_cut (omega arith) c.in_ok-cut.ensures.cut empty (c.in_default.ensures.whole (all_of c.args.text.now c.in_ok-cut.cut.rest.now empty))

pub returns-clause-only : goal.returns-clause-only
returns-clause-only c = λ others list.
    let empty : c.in_ok-cut.cut.rest.now ≡ [] = empty_is (sym c.is_empty.ensures ∙ c.if-not-is_empty.false) in
    list_one list (all_cut (omega arith) c.in_ok-cut.ensures.cut empty list.utf8)
