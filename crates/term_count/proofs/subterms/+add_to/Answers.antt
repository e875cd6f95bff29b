use Rattle.std.proofs.Common.{rules, negsuc, sym, ap, ◌∙◌, subst, [], ◌∷◌, ◌++◌, w64, FitsSigned}
use Rattle.std.proofs.lemmas.Int.{to_z-of_z}
use Rattle.term_count.specs.Codes.{operation_code}
use Rattle.term_count.specs.Numbering.{Adds, listed}
use Rattle.term_count.proofs.Numbered.{node_added, number_added, one_added, set_added}
use Rattle.term_count.proofs.subterms.+add_to.Goals as goal

pub loop-arg-preserved : goal.loop-arg-preserved
loop-arg-preserved t c = λ ts numbered.
    let fits : FitsSigned w64 c.in_ok-name-in-Node.name = search rules in
    one_added (listed c.loop-arg.codes.keys) (listed c.add_to.new.codes.keys) ts c.deref-arg-items.result.now c.loop-arg.arg-index c.arg-item.result c.loop-arg.names.items c.push.new.self.items c.in_ok-name-in-Node.name
    c.loop-arg-test.true c.arg-item.is (c.loop-arg.invariant ts numbered) c.in_ok-name-in-Node.ensures
    (c.in_ok-push-in-Node.ensures.items ∙ ap (λ n. c.loop-arg.names.items ++ n ∷ []) (to_z-of_z w64 c.in_ok-name-in-Node.name fits))

pub returns-in_ok-name-in-Const : goal.returns-in_ok-name-in-Const
returns-in_ok-name-in-Const t c = λ ts numbered.
    let fits : FitsSigned w64 c.in_ok-name-in-Const.name = search rules in
    subst (Adds (listed c.keep.new.codes.keys) ts c.args.term.now) (sym (to_z-of_z w64 c.in_ok-name-in-Const.name fits))
    (number_added (listed c.args.codes.now.keys) (listed c.keep.new.codes.keys) ts c.args.term.now c.in-Const.number c.in_ok-name-in-Const.name c.in_ok-code-in-Const.code.items c.in-Const.is
    c.in_ok-code-in-Const.ensures
    c.in_ok-name-in-Const.ensures.codes c.in_ok-name-in-Const.ensures.place numbered)

pub returns-in_ok-name-in-ConstSet : goal.returns-in_ok-name-in-ConstSet
returns-in_ok-name-in-ConstSet t c = λ ts numbered.
    let fits : FitsSigned w64 c.in_ok-name-in-ConstSet.name = search rules in
    subst (Adds (listed c.keep-in-ConstSet.new.codes.keys) ts c.args.term.now) (sym (to_z-of_z w64 c.in_ok-name-in-ConstSet.name fits))
    (set_added (listed c.args.codes.now.keys) (listed c.keep-in-ConstSet.new.codes.keys) ts c.args.term.now c.in-ConstSet.set c.in_ok-name-in-ConstSet.name c.in_ok-code-in-ConstSet.code.items c.in-ConstSet.is
    (c.in_ok-code-in-ConstSet.ensures ∙ ap (λ ns. negsuc 1 ∷ ns) c.as_slice.ensures.members)
    c.in_ok-name-in-ConstSet.ensures.codes c.in_ok-name-in-ConstSet.ensures.place numbered)

pub returns-in_ok-name-in-Node-2 : goal.returns-in_ok-name-in-Node-2
returns-in_ok-name-in-Node-2 t c = λ ts numbered.
    let fits : FitsSigned w64 c.in_ok-name-in-Node-2.name = search rules in
    subst (Adds (listed c.keep-in-Node.new.codes.keys) ts c.args.term.now) (sym (to_z-of_z w64 c.in_ok-name-in-Node-2.name fits))
    (node_added (listed c.loop-arg.codes.keys) (listed c.keep-in-Node.new.codes.keys) ts c.args.term.now c.in-Node.op c.in-Node.args c.in-Node.place c.deref-arg-items.result.now c.loop-arg.names.items c.in_ok-code-in-Node.code.items c.loop-arg.arg-index c.in_ok-name-in-Node-2.name
    c.in-Node.is c.deref-arg-items.ensures.value c.loop-arg-test.false (c.loop-arg.invariant ts numbered)
    (c.in_ok-code-in-Node.ensures ∙ ap (λ ns. operation_code c.in-Node.op ++ ns) c.deref.ensures.value) c.in_ok-name-in-Node-2.ensures.codes c.in_ok-name-in-Node-2.ensures.place)
