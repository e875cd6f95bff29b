-- The headline of a run, from what its parts promise.
use Rattle.std.proofs.Common.{◌≡◌, ◌≢◌, ◌⊎◌, ℕ, List, [], Option, Some, None, refl, sym, ◌∙◌, subst, inl, inr}
use Rattle.cbl_io.specs.Appended.{Appends, AppendsFront}
use Rattle.cbl_io.specs.Faults.{HasRisen}
use Rattle.cbl_io.specs.Held.{Held}
use Rattle.checked_tree.specs.Tasks.{Whole}
use Rattle.comet_meaning.specs.Users.{User}
use Rattle.comet_words.specs.Asked.{asked}
use Rattle.comet.specs.Headline.{Taken, RunHeadline, JobHeadline, IsCalm}
use Rattle.comet.specs.Line.{line_of}
use Rattle.comet.specs.Loading.{IsJob, IsFrontStop}
use Rattle.comet.specs.Output.{Runs, RunOutput, Decides, EndsAsMeant}
use Rattle.comet.specs.Status.{status_of}
use Rattle.comet.specs.declared.report.Cause.{Cause}
use Rattle.comet.specs.declared.report.Cause.TheVariants as causes
use Rattle.comet.specs.declared.report.Report.{Report}
use Rattle.comet.proofs.Jobs.{job_gives, job_only}
use Rattle.comet.proofs.Pieces.{appends_nothing}

-- a run of the job that the words ask for
meant_by_words : (users : List User) (words : List (List ℕ)) (held : Held) (program : Whole) (seed fuel : ℕ) (text : List ℕ) (cause : Cause) (old new : Option (List ℕ)) → IsJob words held program seed fuel text →
    EndsAsMeant (Runs users program seed fuel text) cause old new → EndsAsMeant (RunOutput users words held) cause old new
meant_by_words users words held program seed fuel text cause old new job m = record {
  printed = m.printed;
  given = job_gives users words held program seed fuel text cause m.printed job m.given;
  written = m.written;
}

pub from_job : (users : List User) (words : List (List ℕ)) (told : Option Held) (old new : List ℕ → ℕ) (program : Whole) (seed fuel : ℕ) (text : List ℕ) (report : Report) (out out_after err err_after : Taken) →
    ((held : Held) → told ≡ Some held → IsJob words held program seed fuel text) → asked words ≢ None →
    JobHeadline users program seed fuel text report out out_after err err_after → RunHeadline users words told old new report out out_after err err_after
from_job users words told old new program seed fuel text report out out_after err err_after job in_form h = record {
  status = h.status;
  words = (λ e. absurd (h.words.0 e), λ e. absurd (in_form e));
  unwritten = h.unwritten;
  exact = λ held is_told decides. meant_by_words users words held program seed fuel text _ _ _ (job held is_told) (h.exact tt refl decides);
  front = λ held is_told cause printed given. h.front tt refl cause printed (job_only users words held program seed fuel text cause printed (job held is_told) given);
  read = λ role is. absurd (h.read role is);
  write = h.write;
  complete = λ held is_told calm still. or_wants held is_told (h.complete tt refl tt still);
  said = h.said;
  said_front = h.said_front;
}
  where
    or_wants : (held : Held) → told ≡ Some held → (report.status ≡ 7) ⊎ EndsAsMeant (Runs users program seed fuel text) report.cause out.bytes out_after.bytes →
        (report.status ≡ 7) ⊎ EndsAsMeant (RunOutput users words held) report.cause out.bytes out_after.bytes
    or_wants held is_told (inl e) = inl e
    or_wants held is_told (inr m) = inr (meant_by_words users words held program seed fuel text _ _ _ (job held is_told) m)

-- nothing is a front of anything
nothing_front : (bytes : Option (List ℕ)) (printed : List ℕ) → AppendsFront bytes bytes printed
nothing_front bytes printed = ([], printed, refl, appends_nothing bytes)

-- a run that is refused before it begins
refused : (users : List User) (words : List (List ℕ)) (told : Option Held) (old new : List ℕ → ℕ) (cause : Cause) (bytes : Option (List ℕ)) → IsFrontStop words told old new cause →
    (held : Held) → told ≡ Some held → Decides (status_of cause) → EndsAsMeant (RunOutput users words held) cause bytes bytes
refused users words told old new cause bytes stop held is_told decides = record { printed = []; given = stop.given users held is_told decides; written = appends_nothing bytes }

refused_or_wants : (users : List User) (words : List (List ℕ)) (told : Option Held) (old new : List ℕ → ℕ) (cause : Cause) (bytes : Option (List ℕ)) → IsFrontStop words told old new cause →
    (held : Held) → told ≡ Some held → IsCalm words old new → (status_of cause ≡ 7) ⊎ EndsAsMeant (RunOutput users words held) cause bytes bytes
refused_or_wants users words told old new (causes.Read role) bytes stop held is_told calm =
    let b = stop.read role refl in absurd (calm b.asks role b.name b.asked_is b.named b.risen)
refused_or_wants users words told old new causes.NoMemory bytes stop held is_told calm = inl refl
refused_or_wants users words told old new causes.Write bytes stop held is_told calm = absurd (stop.reads_only refl)
refused_or_wants users words told old new causes.Done bytes stop held is_told calm = inr (refused users words told old new _ bytes stop held is_told (λ e. absurd cc, λ e. absurd cc, λ e. absurd cc))
refused_or_wants users words told old new causes.Words bytes stop held is_told calm = inr (refused users words told old new _ bytes stop held is_told (λ e. absurd cc, λ e. absurd cc, λ e. absurd cc))
refused_or_wants users words told old new (causes.IllFormed place form) bytes stop held is_told calm = inr (refused users words told old new _ bytes stop held is_told (λ e. absurd cc, λ e. absurd cc, λ e. absurd cc))
refused_or_wants users words told old new (causes.IllTyped place code) bytes stop held is_told calm = inr (refused users words told old new _ bytes stop held is_told (λ e. absurd cc, λ e. absurd cc, λ e. absurd cc))
refused_or_wants users words told old new (causes.Cyclic place names) bytes stop held is_told calm = inr (refused users words told old new _ bytes stop held is_told (λ e. absurd cc, λ e. absurd cc, λ e. absurd cc))
refused_or_wants users words told old new (causes.Run place fault) bytes stop held is_told calm = inr (refused users words told old new _ bytes stop held is_told (λ e. absurd cc, λ e. absurd cc, λ e. absurd cc))
refused_or_wants users words told old new (causes.Spent place) bytes stop held is_told calm = inr (refused users words told old new _ bytes stop held is_told (λ e. absurd cc, λ e. absurd cc, λ e. absurd cc))

pub from_refusal : (users : List User) (words : List (List ℕ)) (told : Option Held) (old new : List ℕ → ℕ) (report : Report) (out err err_after : Taken) →
    IsFrontStop words told old new report.cause →
    report.status ≡ status_of report.cause →
    (¬ HasRisen err.faults err_after.faults → Appends err.bytes err_after.bytes (line_of report.cause)) →
    AppendsFront err.bytes err_after.bytes (line_of report.cause) →
    RunHeadline users words told old new report out out err err_after
from_refusal users words told old new report out err err_after stop status said said_front = record {
  status = status;
  words = (λ e. stop.wordless.0 (sym status ∙ e), λ e. status ∙ stop.wordless.1 e);
  unwritten = λ e. refl;
  exact = λ held is_told decides. refused users words told old new report.cause out.bytes stop held is_told (subst Decides status decides);
  front = λ held is_told cause printed given. nothing_front out.bytes printed;
  read = stop.read;
  write = λ e. absurd (stop.reads_only (sym status ∙ e));
  complete = λ held is_told calm still. subst (λ n. (n ≡ 7) ⊎ EndsAsMeant (RunOutput users words held) report.cause out.bytes out.bytes) (sym status)
      (refused_or_wants users words told old new report.cause out.bytes stop held is_told calm);
  said = said;
  said_front = said_front;
}
