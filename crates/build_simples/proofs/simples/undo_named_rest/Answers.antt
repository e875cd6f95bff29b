use Rattle.std.specs.Prelude.{refl}
use Rattle.std.proofs.lemmas.Result.{IfOk-weaker}
use Rattle.parse_stacks.specs.declared.tails.NamedRest.TheVariants as named_rests
use Rattle.parse_stacks.proofs.Tops.{has_one}
use Rattle.build_simples.proofs.simples.undo_named_rest.Goals as goal

pub take-called-requires : goal.take-called-requires
take-called-requires c = has_one _ c.requires.2

pub take-suffixes-requires : goal.take-suffixes-requires
take-suffixes-requires c = has_one _ c.requires.3.2

pub take-write-requires : goal.take-write-requires
take-write-requires c = has_one _ c.requires.3.3.2

pub returns : goal.returns
returns c = IfOk-weaker c.put.result _ _ (λ _ e. (c.take-called.result, _, c.take-called.ensures, (c.take-suffixes.result, _, c.take-suffixes.ensures, (c.take-write.result, _, c.take-write.ensures, (named_rests.Rest c.take-called.result c.take-suffixes.result c.take-write.result, refl, (e, refl)))))) c.put.ensures
