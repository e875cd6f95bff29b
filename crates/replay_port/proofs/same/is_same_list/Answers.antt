use Rattle.std.proofs.Common.{◌≡◌, subst}
use Rattle.std.specs.Bool.{Decides}
use Rattle.std.proofs.lemmas.Bool.Decides.{Decides-int_eq}
use Rattle.std.proofs.lemmas.Slice.Eq.{slice_eq-Decides}
use Rattle.replay_port.proofs.same.is_same_list.Goals as goal

pub returns : goal.returns
returns c = subst (λ list. Decides c.eq.result (list ≡ c.args.other.now)) c.as_slice.ensures (slice_eq-Decides Decides-int_eq _ _ _ c.eq.ensures)
