-- Each name gets its value.
use Rattle.std.proofs.Common.{◌∙◌, refl, rules, length, w64}
use Rattle.std.specs.Prelude.{FitsSigned}
use Rattle.std.proofs.lemmas.List.{length_push}
use Rattle.std.proofs.lemmas.Slice.Zip.{zip_end, zip_turn}
use Rattle.comet_meaning.proofs.Rows.{names_end, names_err, names_start, names_step}
use Rattle.search_forms.proofs.ChoiceLaws.{did_exit, named_pairs, names_moved, pair_there, pairs_end, put_stops, put_went, stopped_passes}
use Rattle.search_forms.proofs.scanning.bind_values.Goals as goal

pub loop-generator-init : goal.loop-generator-init
loop-generator-init c = record { left = λ printed. names_start _ _ _ _ (named_pairs _ _); fuel = refl }

pub returns-in_err-put-clause-did : goal.returns-in_err-put-clause-did
returns-in_err-put-clause-did c =
    let f : FitsSigned w64 c.in-Some.value.now = search rules in
    let t = zip_turn c.args.generators.now c.args.values.now c.loop-generator.yielded c.into_iter-generator-iterator.result c.loop-generator.generator-iterator c.next.new.self c.next.result (search rules) (search rules) c.loop-generator.yielded_by _ c.in-Some.is c.next.ensures.steps in
    let p = pair_there c.args.generators.now c.args.values.now (length c.loop-generator.yielded) c.in-Some.generator.now c.in-Some.value.now t.0 t.1 t.2 t.3 in
    λ printed. did_exit _ _ _ _ _ c.from_residual.ensures.1 (names_err (c.loop-generator.invariant.left printed) _ p.0 p.1 _ (stopped_passes _ _) (put_stops _ _ _ _ f _ (c.in_err-put.ensures.did printed)))

pub loop-generator-preserved : goal.loop-generator-preserved
loop-generator-preserved c =
    let f : FitsSigned w64 c.in-Some.value.now = search rules in
    let t = zip_turn c.args.generators.now c.args.values.now c.loop-generator.yielded c.into_iter-generator-iterator.result c.loop-generator.generator-iterator c.next.new.self c.next.result (search rules) (search rules) c.loop-generator.yielded_by _ c.in-Some.is c.next.ensures.steps in
    let p = pair_there c.args.generators.now c.args.values.now (length c.loop-generator.yielded) c.in-Some.generator.now c.in-Some.value.now t.0 t.1 t.2 t.3 in record {
      left = λ printed. names_moved _ (names_step (c.loop-generator.invariant.left printed) _ p.0 p.1 (put_went _ _ _ _ f (c.in_ok-put.ensures.did printed))) (length_push c.loop-generator.yielded _);
      fuel = c.in_ok-put.ensures.fuel ∙ c.loop-generator.invariant.fuel;
    }

pub returns-clause-did : goal.returns-clause-did
returns-clause-did c =
    let t = zip_end c.args.generators.now c.args.values.now c.loop-generator.yielded c.into_iter-generator-iterator.result c.loop-generator.generator-iterator c.next.new.self c.next.result (search rules) (search rules) c.loop-generator.yielded_by c.in-None.is c.next.ensures.steps in
    λ printed. names_end (c.loop-generator.invariant.left printed) (pairs_end c.args.generators.now c.args.values.now (length c.loop-generator.yielded) t)
