-- Words and held files have at most one output.
use Rattle.std.specs.Prelude.{◌≡◌, ℕ, List, Option, Some, None}
use Rattle.std.proofs.Common.{sym, ◌∙◌, ap, subst}
use Rattle.std.specs.FinMap as map
use Rattle.cbl_io.specs.Held.{Held}
use Rattle.checked_tree.specs.Tasks.{Whole}
use Rattle.comet_front.proofs.OneReading.{one_program, one_refusal_of, not_both, one_typing, not_typed_program, not_formed}
use Rattle.comet_meaning.specs.Users.{User}
use Rattle.comet_words.specs.Asked.{Asked}
use Rattle.comet.specs.Asking.{program_named}
use Rattle.comet.specs.Output.{RunsWith, Accepts, Refuses, RefusesType, Gives, accepted, ill_formed, ill_typed, GivesHeld, GivesNamed, GivesAsked, data_of}
use Rattle.comet.specs.declared.report.Cause.{Cause}
use Rattle.comet.specs.declared.report.Cause.TheVariants as causes

-- the same cause and the same bytes
abbrev Same : Cause → Cause → List ℕ → List ℕ → Type 0
Same cause other printed others = (cause ≡ other) × (printed ≡ others)

one_of : {c d e : Cause} {xs ys zs : List ℕ} → Same c d xs ys → Same e d zs ys → Same c e xs zs
one_of r s = (r.0 ∙ sym s.0, r.1 ∙ sym s.1)

one_run : (users : List User) (program : Whole) (seed fuel : ℕ) (text : Option (List ℕ)) (cause other : Cause) (printed others : List ℕ) → RunsWith users program seed fuel text cause printed → RunsWith users program seed fuel text other others → Same cause other printed others
one_run users program seed fuel None cause other printed others r s = one_of r s
one_run users program seed fuel (Some text) cause other printed others r s = one_of r s

one_accepted : (users : List User) (text : List ℕ) (seed fuel : ℕ) (data_text : Option (List ℕ)) (cause other : Cause) (printed others : List ℕ) → Accepts users text seed fuel data_text cause printed → Accepts users text seed fuel data_text other others → Same cause other printed others
one_accepted users text seed fuel data_text cause other printed others r s =
    one_run users s.program seed fuel data_text cause other printed others (subst (λ p. RunsWith users p seed fuel data_text cause printed) (one_program text r.program s.program r.has s.has) r.runs) s.runs

one_refused : (text : List ℕ) (cause other : Cause) (printed others : List ℕ) → Refuses text cause printed → Refuses text other others → Same cause other printed others
one_refused text cause other printed others r s =
    let one : (r.place ≡ s.place) × (r.form ≡ s.form) = one_refusal_of text r.place s.place r.form s.form r.refused s.refused in
    (r.ends ∙ ap (λ p. causes.IllFormed p r.form) one.0 ∙ ap (λ f. causes.IllFormed s.place f) one.1 ∙ sym s.ends, r.prints ∙ sym s.prints)

one_ill_typed : (text : List ℕ) (cause other : Cause) (printed others : List ℕ) → RefusesType text cause printed → RefusesType text other others → Same cause other printed others
one_ill_typed text cause other printed others r s =
    let one : (r.place ≡ s.place) × (r.code ≡ s.code) = one_typing text r.place s.place r.code s.code r.refused s.refused in
    (r.ends ∙ ap (λ p. causes.IllTyped p r.code) one.0 ∙ ap (λ c. causes.IllTyped s.place c) one.1 ∙ sym s.ends, r.prints ∙ sym s.prints)

one_given : (users : List User) (text : List ℕ) (seed fuel : ℕ) (data_text : Option (List ℕ)) (cause other : Cause) (printed others : List ℕ) → Gives users text seed fuel data_text cause printed → Gives users text seed fuel data_text other others → Same cause other printed others
one_given users text seed fuel data_text cause other printed others (accepted r) (accepted s) = one_accepted users text seed fuel data_text cause other printed others r s
one_given users text seed fuel data_text cause other printed others (accepted r) (ill_formed s) = absurd (not_both text r.program s.place s.form r.has s.refused)
one_given users text seed fuel data_text cause other printed others (accepted r) (ill_typed s) = absurd (not_typed_program text r.program s.place s.code r.has s.refused)
one_given users text seed fuel data_text cause other printed others (ill_formed r) (accepted s) = absurd (not_both text s.program r.place r.form s.has r.refused)
one_given users text seed fuel data_text cause other printed others (ill_formed r) (ill_formed s) = one_refused text cause other printed others r s
one_given users text seed fuel data_text cause other printed others (ill_formed r) (ill_typed s) = absurd (not_formed text r.place s.place r.form s.code r.refused s.refused)
one_given users text seed fuel data_text cause other printed others (ill_typed r) (accepted s) = absurd (not_typed_program text s.program r.place r.code s.has r.refused)
one_given users text seed fuel data_text cause other printed others (ill_typed r) (ill_formed s) = absurd (not_formed text s.place r.place s.form r.code s.refused r.refused)
one_given users text seed fuel data_text cause other printed others (ill_typed r) (ill_typed s) = one_ill_typed text cause other printed others r s

one_held : (users : List User) (held : Option (List ℕ)) (seed fuel : ℕ) (data_text : Option (List ℕ)) (cause other : Cause) (printed others : List ℕ) → GivesHeld users held seed fuel data_text cause printed → GivesHeld users held seed fuel data_text other others → Same cause other printed others
one_held users None seed fuel data_text cause other printed others r s = one_of r s
one_held users (Some text) seed fuel data_text cause other printed others r s = one_given users text seed fuel data_text cause other printed others r s

one_named : (users : List User) (name : Option (List ℕ)) (asks : Asked) (held : Held) (cause other : Cause) (printed others : List ℕ) → GivesNamed users name asks held cause printed → GivesNamed users name asks held other others → Same cause other printed others
one_named users None asks held cause other printed others r s = one_of r s
one_named users (Some name) asks held cause other printed others r s = one_held users (map.get held name) asks.seed asks.fuel (data_of asks.data_file held) cause other printed others r s

pub one_asked : (users : List User) (asks : Option Asked) (held : Held) (cause other : Cause) (printed others : List ℕ) → GivesAsked users asks held cause printed → GivesAsked users asks held other others → Same cause other printed others
one_asked users None held cause other printed others r s = one_of r s
one_asked users (Some asks) held cause other printed others r s = one_named users (program_named asks) asks held cause other printed others r s
