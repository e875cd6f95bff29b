use Rattle.std.proofs.Common.{rules, ◌≡◌, ◌∙◌, ◌<◌, true, false, get_or, length, map, refl, sym, arith}
use Rattle.std.proofs.lemmas.List.{length-map}
use Rattle.term_model.specs.Depth.{depth_of}
use Rattle.term_model.specs.SameOperations.{same_operation}
use Rattle.term_model.specs.SameTerms.{all_pass, same_term}
use Rattle.term_model.specs.declared.term.Term.{Term}
use Rattle.term_model.proofs.Layers.{depth_below}
use Rattle.term_model.proofs.SameLaws.{none_and, one_and, pass_all, pass_fails, pass_length, pass_more, same_node}
use Rattle.term_model.proofs.equal_terms.+same_term.Goals as goal

pub returns-then-len-parts : goal.returns-then-len-parts
returns-then-len-parts t c =
    let args = c.in-Node.args.items in
    let others = c.in-Some.parts.args.now in
    let whole = same_node c.args.term.now c.args.other.now c.in-Node.op c.in-Node.args c.in-Node.place c.in-Node.is ∙ c.in-Some.ensures c.in-Node.op (map same_term args) in
    let ne : length (map same_term args) ≡ length others → ⊥ = λ e. omega (arith, e, length-map args same_term, c.if-len-parts.true, c.len.ensures) in
    sym (whole ∙ none_and (same_operation c.in-Some.parts.op.now c.in-Node.op) (all_pass (map same_term args) others) (pass_length (map same_term args) others ne))

pub same_term-requires : goal.same_term-requires
same_term-requires t c =
    let item : Term = c.index.result.now in
    let is : item ≡ get_or c.in-Node.args.items c.loop-i.i item = search rules in
    let lt : c.loop-i.i < length c.in-Node.args.items = search rules in
    let below : depth_of item < depth_of c.args.term.now = depth_below c.args.term.now c.in-Node.op c.in-Node.args c.in-Node.place c.in-Node.args.items c.loop-i.i item c.in-Node.is refl lt is in
    (search (rules, below), tt)

pub returns-then-not-same_term : goal.returns-then-not-same_term
returns-then-not-same_term t c =
    let args = c.in-Node.args.items in
    let others = c.in-Some.parts.args.now in
    let whole = same_node c.args.term.now c.args.other.now c.in-Node.op c.in-Node.args c.in-Node.place c.in-Node.is ∙ c.in-Some.ensures c.in-Node.op (map same_term args) in
    let item : Term = c.index.result.now in
    let other : Term = c.index-parts-i.result in
    let is : item ≡ get_or args c.loop-i.i item = search rules in
    let is' : other ≡ get_or others c.loop-i.i other = search rules in
    let lt : c.loop-i.i < length args = search rules in
    let lt' : c.loop-i.i < length others = search rules in
    let one : same_term item other ≡ false = search rules in
    sym (whole ∙ none_and (same_operation c.in-Some.parts.op.now c.in-Node.op) (all_pass (map same_term args) others) (pass_fails same_term args others c.loop-i.i item other lt lt' is is' one))

pub loop-i-preserved : goal.loop-i-preserved
loop-i-preserved t c =
    let args = c.in-Node.args.items in
    let others = c.in-Some.parts.args.now in
    let item : Term = c.index.result.now in
    let other : Term = c.index-parts-i.result in
    let is : item ≡ get_or args c.loop-i.i item = search rules in
    let is' : other ≡ get_or others c.loop-i.i other = search rules in
    let lt : c.loop-i.i < length args = search rules in
    let lt' : c.loop-i.i < length others = search rules in
    let one : same_term item other ≡ true = search rules in
    pass_more same_term args others c.loop-i.i item other lt lt' is is' c.loop-i.invariant one

pub returns-after-loop-i : goal.returns-after-loop-i
returns-after-loop-i t c =
    let args = c.in-Node.args.items in
    let others = c.in-Some.parts.args.now in
    let whole = same_node c.args.term.now c.args.other.now c.in-Node.op c.in-Node.args c.in-Node.place c.in-Node.is ∙ c.in-Some.ensures c.in-Node.op (map same_term args) in
    let long : length args ≡ length others = omega (arith, c.if-len-parts.false, c.len.ensures) in
    let operation : same_operation c.in-Some.parts.op.now c.in-Node.op ≡ true = search rules in
    let all : all_pass (map same_term args) others ≡ true = pass_all same_term args others c.loop-i.i (omega (arith, c.loop-i-test.false, c.len-i-end.ensures)) long c.loop-i.invariant in
    sym (whole ∙ one_and (same_operation c.in-Some.parts.op.now c.in-Node.op) (all_pass (map same_term args) others) operation all)
