-- A text has one token list, or one fault.
use Rattle.std.specs.Prelude.{◌≡◌, ◌<◌, ◌≤◌, ◌-◌, ◌==◌, ℕ, true, false, List, [], ◌∷◌, length, take, refl}
use Rattle.std.specs.Str.{IsUtf8, IsValidUpTo}
use Rattle.std.proofs.Common.{arith, ap, sym, subst, inl, inr}
use Rattle.cbl_base.specs.declared.place.Place.{Place}
use Rattle.comet_syntax.specs.declared.limits.TheConstants.{MOST_BYTES}
use Rattle.comet_syntax.specs.declared.stop.FormCause.{FormCause}
use Rattle.comet_syntax.specs.declared.stop.FormCause.TheVariants.{Encoding}
use Rattle.comet_syntax.specs.declared.token.Token.{Token}
use Rattle.comet_syntax.specs.Place.{place_behind, index_of, place_of}
use Rattle.comet_syntax.specs.Tokens.TokenList.{AreCut, HasTokens}
use Rattle.comet_syntax.specs.Tokens.TokenFault.{IsEnd, StopsAt, stuck_cause, HasTokenFault, too_long, not_utf8, not_read}
use Rattle.comet_syntax.proofs.Cuts.{cut_one, no_break, one_break}

-- laws
pub list_one : {text : List ℕ} {ts us : List Token} → HasTokens text ts → HasTokens text us → ts ≡ us
list_one x y = (cut_one x.cut y.cut (inl refl) (inl refl)).0

pub stop_one : {text rest other : List ℕ} → StopsAt text rest → StopsAt text other → rest ≡ other
stop_one x y = (cut_one x.cut y.cut (inr x.stuck) (inr y.stuck)).1

pub list_no_stop : {text rest : List ℕ} {ts : List Token} → HasTokens text ts → StopsAt text rest → ⊥
list_no_stop x y = y.stuck.more (sym (cut_one x.cut y.cut (inl refl) (inr y.stuck)).1)

pub list_no_fault : {text : List ℕ} {ts : List Token} {place : Place} {cause : FormCause} → HasTokens text ts → HasTokenFault text place cause → ⊥
list_no_fault x (too_long h) = absurd (omega (arith, x.short, h))
list_no_fault x (not_utf8 h b e) = no_break x.utf8 b
list_no_fault x (not_read h s e) = list_no_stop x s

pub fault_one : {text : List ℕ} {p q : Place} {a b : FormCause} → HasTokenFault text p a → HasTokenFault text q b → (p ≡ q) × (a ≡ b)
fault_one (too_long h) (too_long k) = (refl, refl)
fault_one (too_long h) (not_utf8 k b e) = absurd (omega (arith, h, k))
fault_one (too_long h) (not_read k s e) = absurd (omega (arith, h, k))
fault_one (not_utf8 h b e) (too_long k) = absurd (omega (arith, h, k))
fault_one (not_read h s e) (too_long k) = absurd (omega (arith, h, k))
fault_one {text} (not_utf8 h b e) (not_utf8 k d f) = (ap (λ n. place_behind (take n text)) (one_break b d), refl)
fault_one {text} (not_utf8 {valid} h b e) (not_read {rest} k s f) = absurd (omega (arith, e rest s, f valid b))
fault_one {text} (not_read {rest} h s e) (not_utf8 {valid} k b f) = absurd (omega (arith, f rest s, e valid b))
fault_one {text} (not_read h s e) (not_read k t f) = (ap (place_of text) (stop_one s t), ap stuck_cause (stop_one s t))

-- what the code finds
pub end_stops : {text rest : List ℕ} {ts : List Token} → AreCut text text ts rest → IsEnd rest → (rest ≡ [] → ⊥) → StopsAt text rest
end_stops x (inl e) more = absurd (more e)
end_stops {ts = ts} x (inr stuck) more = record { tokens = ts; cut = x; stuck = stuck }

pub stops_there : {text rest other : List ℕ} {ts : List Token} → AreCut text text ts rest → IsEnd rest → StopsAt text other → rest ≡ other
stops_there x e y = (cut_one x y.cut e (inr y.stuck)).1

pub broken_first : {text rest : List ℕ} {ts : List Token} {valid : ℕ} {place : Place} → length text ≤ MOST_BYTES → AreCut text text ts rest → IsEnd rest → IsValidUpTo text valid
    → valid ≤ length text - length rest → place ≡ place_behind (take valid text) → HasTokenFault text place Encoding
broken_first {text} {rest} {valid = valid} short x end broken first e =
    subst (λ p. HasTokenFault text p Encoding) (sym e) (not_utf8 short broken (λ other stop. subst (λ r. valid ≤ index_of text r) (stops_there x end stop) first))

pub stuck_first : {text rest : List ℕ} {ts : List Token} {place : Place} {cause : FormCause} → length text ≤ MOST_BYTES → AreCut text text ts rest → IsEnd rest → (rest ≡ [] → ⊥)
    → ((valid : ℕ) → IsValidUpTo text valid → length text - length rest < valid) → place ≡ place_of text rest → cause ≡ stuck_cause rest → HasTokenFault text place cause
stuck_first {text} {rest} {place = place} short x end more whole e f =
    subst (λ c. HasTokenFault text place c) (sym f) (subst (λ p. HasTokenFault text p (stuck_cause rest)) (sym e) (not_read short (end_stops x end more) whole))

pub empty_is : {rest : List ℕ} → (length rest == 0) ≡ true → rest ≡ []
empty_is {rest = []} e = refl
empty_is {rest = c ∷ cs} e = absurd (grind arith)

pub full_is : {rest : List ℕ} → (length rest == 0) ≡ false → rest ≡ [] → ⊥
full_is {rest} more e = let none : (length rest == 0) ≡ true = ap (λ r. length r == 0) e in cc

pub all_cut : {text rest : List ℕ} {ts : List Token} → length text ≤ MOST_BYTES → AreCut text text ts rest → rest ≡ [] → IsUtf8 text → HasTokens text ts
all_cut {text} {rest} {ts} short x e whole = record { short = short; utf8 = whole; cut = subst (λ r. AreCut text text ts r) e x }

pub all_of : (text rest : List ℕ) → rest ≡ [] → length text ≤ length text - length rest
all_of text rest e = let none : length rest ≡ 0 = ap length e in omega arith
