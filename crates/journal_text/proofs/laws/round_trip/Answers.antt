use Rattle.journal_text.proofs.RoundTrip.{round_trip}
use Rattle.journal_text.proofs.laws.round_trip.Goals as goal

pub returns : goal.returns
returns c = round_trip
