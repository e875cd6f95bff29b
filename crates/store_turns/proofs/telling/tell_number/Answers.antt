use Rattle.std.proofs.Common.{refl, ap, inl, inr, w64, of_z, rules}
use Rattle.cbl_base.specs.Inputs.{number_of}
use Rattle.cbl_base.specs.declared.input.Input.TheVariants.{Int}
use Rattle.store_turns.proofs.SetChanges.{leads_numbers}
use Rattle.store_turns.proofs.telling.tell_number.Goals as goal

pub returns : goal.returns
returns g c = record {
  answer = search rules;
  told = inr (inl (Int c.args.new.now, refl, (λ e. c.if-old-new.false (ap (λ x. of_z w64 (number_of x)) e)), leads_numbers c.args.old.now c.args.new.now, c.in_ok-push_numbers.ensures.told.here, c.in_ok-push_numbers.ensures.told.elsewhere));
  steps = search rules;
}
