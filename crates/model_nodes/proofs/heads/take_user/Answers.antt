use Rattle.std.proofs.Common.{◌∙◌, Some, ap, set, sym, arith}
use Rattle.std.proofs.lemmas.Option.{slice_get_within}
use Rattle.model_nodes.proofs.HeadLemmas.{some_there, there_taken}
use Rattle.model_nodes.proofs.heads.take_user.Goals as goal

pub index_mut-requires : goal.index_mut-requires
index_mut-requires g c =
    let lt = slice_get_within c.args.waiting.now.items c.args.number (Some c.requires.0) c.requires.1 in
    omega (arith, lt, c.args.waiting.now.ok.0)

pub unreachable-requires : goal.unreachable-requires
unreachable-requires g c =
    some_there c.args.waiting.now.items c.args.number c.requires
    (there_taken c.args.waiting.now.items c.args.number c.index_mut.result.now c.requires c.index_mut.ensures.value ∙ ap (λ o. Some o) (sym c.take.ensures.value ∙ c.in-None.is))

pub returns-clause-node : goal.returns-clause-node
returns-clause-node g c =
    there_taken c.args.waiting.now.items c.args.number c.index_mut.result.now c.requires c.index_mut.ensures.value ∙ ap (λ o. Some o) (sym c.take.ensures.value ∙ c.in-Some.is)

pub returns-clause-waiting : goal.returns-clause-waiting
returns-clause-waiting g c = ap (λ o. set c.args.waiting.now.items c.args.number o) c.take.ensures.after
