-- A run that ended as its program means, and whose output went to a sink up to the last write, streams as its program means.
use Rattle.std.proofs.Common.{◌≡◌, ◌++◌, ℕ, Bool, true, false, List, [], Option, Some, None, Result, Ok, Err, OnOk, OnErr, is_ok, nat_lt, nat_eq, inl, inr, refl, sym, ◌∙◌, ap, append-nil, append_assoc, subst}
use Rattle.std.proofs.lemmas.Bool.{eqb-true, ltb-true, or_cases}
use Rattle.cbl_io.specs.Appended.{Appends, AppendsFront}
use Rattle.cbl_io.specs.Faults.{HasRisen, last_count}
use Rattle.comet_meaning.specs.Onward.{IsFront}
use Rattle.comet_meaning.specs.Program.{End, Meant}
use Rattle.stmt_run.specs.Ending.{EndsAs}
use Rattle.stmt_run.specs.declared.execution.RunEnd.{RunEnd}
use Rattle.stmt_run.specs.declared.execution.RunEnd.TheVariants as ends
use Rattle.stream_run.specs.Buffering.{appended, has_risen}
use Rattle.stream_run.specs.Streamed.{StreamsAs, Gets, ended_with}

-- what a sink has got is what it had and these bytes
pub appends_appended : (old now : Option (List ℕ)) (piece : List ℕ) → now ≡ appended old piece → Appends old now piece
appends_appended (Some bytes) now piece e = e
appends_appended None now piece e = e

-- behind nothing a sink has what it had
pub appended_nothing : (bytes : Option (List ℕ)) (told : List ℕ) → told ≡ [] → appended bytes told ≡ bytes
appended_nothing (Some xs) told is = ap Some (ap (λ ys. xs ++ ys) is ∙ append-nil xs)
appended_nothing None told is = refl

whole : {printed : List ℕ} (m : Meant) → m.printed ≡ printed → IsFront printed m.printed
whole {printed = printed} m e = ([], e ∙ sym (append-nil printed))

-- what a run's output took is a front of what its program prints
pub prints_front : (end : RunEnd) (fuel : ℕ) (printed : List ℕ) (m : Meant) → EndsAs end fuel printed m → IsFront printed m.printed
prints_front ends.Done fuel printed m e = whole m (ap (λ n. n.printed) e)
prints_front (ends.Cyclic place names) fuel printed m e = whole m (ap (λ n. n.printed) e)
prints_front (ends.Run place fault) fuel printed m e = whole m (ap (λ n. n.printed) e)
prints_front (ends.Spent place) fuel printed m e = whole m (ap (λ n. n.printed) e)
prints_front ends.NoMemory fuel printed m e = e
prints_front ends.Write fuel printed m e = e

-- a front that a sink has got
got_front : (old now : Option (List ℕ)) (piece whole : List ℕ) → IsFront piece whole → now ≡ appended old piece → AppendsFront old now whole
got_front old now piece whole (rest, is) e = (piece, rest, is, appends_appended old now piece e)

front_front : (a b c : List ℕ) → IsFront a b → IsFront b c → IsFront a c
front_front a b c (rest, is) (more, whole_is) = (rest ++ more, whole_is ∙ ap (λ xs. xs ++ more) is ∙ append_assoc a rest more)

-- all that is printed was got
got_all : (end : End) (fuel : ℕ) (taken : List ℕ) (m : Meant) (old now : Option (List ℕ)) → m ≡ record { end = end; fuel = fuel; printed = taken } → now ≡ appended old taken → Gets end old now m
got_all end fuel taken m old now e got = (ap (λ n. n.end) e, subst (λ printed. Appends old now printed) (sym (ap (λ n. n.printed) e)) (appends_appended old now taken got))

pub streams : (end : RunEnd) (fuel : ℕ) (taken told : List ℕ) (m : Meant) (old now : Option (List ℕ)) (written : Bool) → EndsAs end fuel taken m → IsFront told taken → now ≡ appended old told → (written ≡ true → now ≡ appended old taken) → StreamsAs (ended_with end written) old now m
streams end fuel taken told m old now false e front got all = got_front old now told m.printed (front_front told taken m.printed front (prints_front end fuel taken m e)) got
streams ends.Done fuel taken told m old now true e front got all = got_all _ fuel taken m old now e (all refl)
streams (ends.Cyclic place names) fuel taken told m old now true e front got all = got_all _ fuel taken m old now e (all refl)
streams (ends.Run place fault) fuel taken told m old now true e front got all = got_all _ fuel taken m old now e (all refl)
streams (ends.Spent place) fuel taken told m old now true e front got all = got_all _ fuel taken m old now e (all refl)
streams ends.NoMemory fuel taken told m old now true e front got all = got_front old now taken m.printed e (all refl)
streams ends.Write fuel taken told m old now true e front got all = got_front old now taken m.printed e (all refl)

pub on_ok : {T E : Type 0} {P : Type 0} (r : Result T E) → OnOk r P → is_ok r ≡ true → P
on_ok (Ok x) p is = p
on_ok (Err e) p is = absurd cc

risen : (old new : ℕ) → has_risen old new ≡ true → HasRisen old new
risen old new is = elim (or_cases (nat_lt old new) (nat_eq new last_count) is) [ inl less ↦ inl (ltb-true old new less) | inr same ↦ inr (eqb-true new last_count same) ]

-- a run that ends by its output has had a write that failed
pub write_failed : {T E : Type 0} (end : RunEnd) (written : Result T E) (old new : ℕ) → OnErr written (has_risen old new ≡ true) → ended_with end (is_ok written) ≡ ends.Write → HasRisen old new
write_failed end (Err stop) old new failed is = risen old new failed
write_failed ends.Write (Ok x) old new failed is = absurd cc
write_failed ends.Done (Ok x) old new failed is = absurd cc
write_failed (ends.Cyclic place names) (Ok x) old new failed is = absurd cc
write_failed (ends.Run place fault) (Ok x) old new failed is = absurd cc
write_failed (ends.Spent place) (Ok x) old new failed is = absurd cc
write_failed ends.NoMemory (Ok x) old new failed is = absurd cc
