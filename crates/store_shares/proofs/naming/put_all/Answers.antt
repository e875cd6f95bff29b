use Rattle.std.proofs.Common.{take, get_or, ◌∷◌, [], sym, subst}
use Rattle.std.proofs.lemmas.List.{take_more, take_all}
use Rattle.store_shares.specs.Naming.{IsPut}
use Rattle.store_shares.proofs.NamingLaws.{put_start, put_then}
use Rattle.store_shares.proofs.naming.put_all.Goals as goal

pub loop-variable-init : goal.loop-variable-init
loop-variable-init c = put_start c.args.sets.now.items c.args.number

pub loop-variable-preserved : goal.loop-variable-preserved
loop-variable-preserved c =
    let old = c.args.sets.now.items in
    let new = c.put.new.sets.items in
    let list = c.args.variables.now in
    let i = c.loop-variable.variable-index in
    subst (IsPut old new c.args.number) (sym (take_more list i 0 c.loop-variable-test.true))
    (put_then old c.loop-variable.sets.items new c.args.number (take i list) (get_or list i 0 ∷ []) c.loop-variable.invariant c.in_ok-put.ensures)

pub returns : goal.returns
returns c =
    subst (IsPut c.args.sets.now.items c.loop-variable.sets.items c.args.number) (take_all c.loop-variable.variable-index c.args.variables.now c.loop-variable-test.false) c.loop-variable.invariant
