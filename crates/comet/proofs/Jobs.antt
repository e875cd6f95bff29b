-- What a job gives is what the words give that it was made of, and nothing else.
use Rattle.std.proofs.Common.{ℕ, List, Option, sym, subst}
use Rattle.std.specs.FinMap as map
use Rattle.cbl_io.specs.Held.{Held}
use Rattle.checked_tree.specs.Tasks.{Whole}
use Rattle.comet_front.specs.Reading.{HasProgram}
use Rattle.comet_front.proofs.OneReading.{one_program, not_both, not_typed_program}
use Rattle.comet_meaning.specs.Users.{User}
use Rattle.comet.specs.Loading.{IsJob}
use Rattle.comet.specs.Output.{Runs, RunsWith, Gives, accepted, ill_formed, ill_typed, GivesHeld, RunOutput, data_of}
use Rattle.comet.specs.declared.report.Cause.{Cause}
use Rattle.comet.proofs.Stopping.{gives_words, words_give}

pub job_gives : (users : List User) (words : List (List ℕ)) (held : Held) (program : Whole) (seed fuel : ℕ) (text : List ℕ) (cause : Cause) (printed : List ℕ) → IsJob words held program seed fuel text →
    Runs users program seed fuel text cause printed → RunOutput users words held cause printed
job_gives users words held program seed fuel text cause printed job runs =
    let with_fuel : Runs users program job.asks.seed job.asks.fuel text cause printed = subst (λ n. Runs users program job.asks.seed n text cause printed) job.fuel_is (subst (λ n. Runs users program n fuel text cause printed) job.seed_is runs) in
    let with_data : RunsWith users program job.asks.seed job.asks.fuel (data_of job.asks.data_file held) cause printed =
    subst (λ o. RunsWith users program job.asks.seed job.asks.fuel o cause printed) (sym job.loaded.data_is) with_fuel in
    gives_words users words job.asks job.name held cause printed (sym job.asked_is) (sym job.named)
    (subst (λ o. GivesHeld users o job.asks.seed job.asks.fuel (data_of job.asks.data_file held) cause printed) (sym job.loaded.holds.found)
    (accepted (record { program = program; has = job.loaded.holds.has; runs = with_data })))

only_runs : (users : List User) (bytes : List ℕ) (program : Whole) (seed fuel : ℕ) (text : Option (List ℕ)) (cause : Cause) (printed : List ℕ) → HasProgram bytes program → Gives users bytes seed fuel text cause printed →
    RunsWith users program seed fuel text cause printed
only_runs users bytes program seed fuel text cause printed has (accepted r) = subst (λ p. RunsWith users p seed fuel text cause printed) (one_program bytes r.program program r.has has) r.runs
only_runs users bytes program seed fuel text cause printed has (ill_formed r) = absurd (not_both bytes program r.place r.form has r.refused)
only_runs users bytes program seed fuel text cause printed has (ill_typed r) = absurd (not_typed_program bytes program r.place r.code has r.refused)

pub job_only : (users : List User) (words : List (List ℕ)) (held : Held) (program : Whole) (seed fuel : ℕ) (text : List ℕ) (cause : Cause) (printed : List ℕ) → IsJob words held program seed fuel text →
    RunOutput users words held cause printed → Runs users program seed fuel text cause printed
job_only users words held program seed fuel text cause printed job given =
    let of_name : GivesHeld users (map.get held job.name) job.asks.seed job.asks.fuel (data_of job.asks.data_file held) cause printed =
    words_give users words job.asks job.name held cause printed (sym job.asked_is) (sym job.named) given in
    let of_text : Gives users job.loaded.holds.text job.asks.seed job.asks.fuel (data_of job.asks.data_file held) cause printed =
    subst (λ o. GivesHeld users o job.asks.seed job.asks.fuel (data_of job.asks.data_file held) cause printed) job.loaded.holds.found of_name in
    let runs : RunsWith users program job.asks.seed job.asks.fuel (data_of job.asks.data_file held) cause printed =
    only_runs users job.loaded.holds.text program job.asks.seed job.asks.fuel _ cause printed job.loaded.holds.has of_text in
    subst (λ n. Runs users program n fuel text cause printed) (sym job.seed_is) (subst (λ n. Runs users program job.asks.seed n text cause printed) (sym job.fuel_is) (subst (λ o. RunsWith users program job.asks.seed job.asks.fuel o cause printed) job.loaded.data_is runs))
