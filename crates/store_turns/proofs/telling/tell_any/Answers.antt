use Rattle.std.proofs.Common.{refl, ap, inl, inr, rules}
use Rattle.store_turns.specs.declared.outcome.Outcome.TheVariants.{Value}
use Rattle.store_turns.proofs.Differs.{value_from, other_from, apart_from}
use Rattle.store_turns.proofs.telling.tell_any.Goals as goal

pub returns-then-same : goal.returns-then-same
returns-then-same g c = record {
  answer = search rules;
  told = inl (ap Value (value_from c.args.new.now c.args.old.now c.same.result c.same.ensures.answer c.if-same.true), λ l j. refl);
  steps = search rules;
}

pub returns : goal.returns
returns g c =
    let other = other_from c.args.new.now c.args.old.now c.same.result c.same.ensures.answer c.if-same.false in
    record {
      answer = search rules;
      told = inr (inl (c.args.new.now, refl, apart_from c.args.new.now c.args.old.now other, c.same.ensures.leads c.requires.kinds, c.in_ok-push_all.ensures.told.here, c.in_ok-push_all.ensures.told.elsewhere));
      steps = search rules;
    }
