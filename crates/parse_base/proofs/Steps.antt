-- The steps of which the proofs of a reader consist.
use Rattle.std.specs.Prelude.{ℕ, Bool, true, false, List, [], ◌∷◌, ◌++◌, ◌+◌, ◌≡◌, length, refl, Result, IfErr, IsErrAnd, ◌||◌}
use Rattle.std.proofs.Common.{sym, ap, subst}
use Rattle.std.proofs.lemmas.Result.{err_from_is_err_and}
use Rattle.comet_syntax.specs.declared.token.Token.{Token}
use Rattle.comet_syntax.specs.declared.stop.FormCause.TheVariants.{TooDeep}
use Rattle.comet_syntax.specs.Grammar.Kinds.{Kind, kind, kind_eq, one_of, next_in}
use Rattle.comet_syntax.specs.Grammar.Symbols.{Part, token, same}
use Rattle.comet_syntax.specs.Grammar.First.{first}
use Rattle.comet_syntax.specs.Derivation.{Item, Event, chose, read}
use Rattle.comet_syntax.specs.Written.Shown.{Shown, form, shown, kept}
use Rattle.parse_base.specs.declared.stop.Stop.{Stop}
use Rattle.parse_base.specs.declared.stop.Stop.TheVariants.{Fault}
use Rattle.parse_base.specs.Reading.{Leads, stays, gets, picks, wrong, closed, deep, cause_at, IsSolid}
use Rattle.parse_base.specs.Promise.{Carries, waits, gains, settles, Fails, halts}

-- what is written is kept of a derivation
pub record Kept (limit : ℕ) (K : List Item) (ts : List Token) (tree : List Shown) (K' : List Item) (r : List Token) : Type 0 where
  pub events : List Event
  pub leads : Leads limit K ts events K' r
  pub is : kept events ≡ tree

pub derivation_of : {limit : ℕ} {K K' : List Item} {ts r : List Token} {tree : List Shown} → Carries limit K ts tree K' r → Kept limit K ts tree K' r
derivation_of waits = record { events = []; leads = stays; is = refl }
derivation_of (gains {m = m} {t = t} e l) = let k = derivation_of l in record { events = read m t ∷ k.events; leads = gets e k.leads; is = ap (λ z. shown m t ∷ z) k.is }
derivation_of (settles {n = n} body le o may must l) = let k = derivation_of l in record { events = chose n body ∷ k.events; leads = picks body le o may must k.leads; is = ap (λ z. form n body ∷ z) k.is }

-- no form of the part goes with the next token, the part is too deep, or another token is wanted
pub fails_closed : {limit d : ℕ} {ts : List Token} (n : Part) → IsSolid n → next_in (first n) ts ≡ false → Fails limit (same n ∷ []) d ts (Fault (length ts) (cause_at ts))
fails_closed n solid h = halts (λ K. record { tree = []; items = _; rest = _; leads = waits; stops = closed solid h; left_is = refl })

pub fails_deep : {limit d : ℕ} {ts : List Token} (n : Part) → next_in (first n) ts ≡ true → d ≡ limit + 1 → Fails limit (same n ∷ []) d ts (Fault (length ts) TooDeep)
fails_deep n h e = halts (λ K. record { tree = []; items = _; rest = _; leads = waits; stops = deep h e; left_is = refl })

pub fails_wrong : {limit d : ℕ} {ts : List Token} (m : Bool) (k : Kind) → next_in (k ∷ []) ts ≡ false → Fails limit (token m k ∷ []) d ts (Fault (length ts) (cause_at ts))
fails_wrong m k h = halts (λ K. record { tree = []; items = _; rest = _; leads = waits; stops = wrong h; left_is = refl })

none_or : (a b c : Bool) → (a || b) ≡ false → (b ≡ false → c ≡ false) → (a || c) ≡ false
none_or true b c h f = cc
none_or false b c h f = f h

none_in : (is js : List Kind) (k : Kind) → one_of is k ≡ false → one_of js k ≡ false → one_of (is ++ js) k ≡ false
none_in [] js k h g = g
none_in (i ∷ is) js k h g = none_or (kind_eq i k) (one_of is k) (one_of (is ++ js) k) h (λ e. none_in is js k e g)

-- the next token is none of some kinds, and none of others
pub skips_all : (is js : List Kind) (ts : List Token) → next_in is ts ≡ false → next_in js ts ≡ false → next_in (is ++ js) ts ≡ false
skips_all is js [] h g = refl
skips_all is js (t ∷ ts) h g = none_in is js (kind t) h g

-- the exit of a `?`, where a fact of every stop is promised
pub passes_any : {T : Type 0} (Q : Stop → Type 0) (r : Result T Stop) (s : Stop) → IsErrAnd r (λ e. e ≡ s) → Q s → IfErr r Q
passes_any Q r s h f = let p = err_from_is_err_and r h in rw p.1 (subst Q (sym p.2) f)
