-- A list of tokens is refused at one place for one cause, and a list that is refused is spelled by no program.
use Rattle.std.specs.Prelude.{ℕ, List, [], ◌∷◌, ◌++◌, ◌≡◌, ◌⊎◌, refl}
use Rattle.std.proofs.Common.{sym, ◌∙◌, ap, subst, inl, inr}
use Rattle.comet_syntax.specs.declared.token.Token.{Token}
use Rattle.comet_syntax.specs.declared.stop.FormCause.{FormCause}
use Rattle.comet_syntax.specs.declared.stop.FormCause.TheVariants.{Encoding, TooLong, BadToken, WideNumber, Unexpected, UnexpectedEnd, TooDeep, NotBuilt}
use Rattle.comet_syntax.specs.declared.tree.program.Program.{Program}
use Rattle.comet_syntax.specs.Refusal.{Refused, EachPossible, IsPossible, IsDeepAtLast, NoneDeep}
use Rattle.comet_syntax.specs.Spells.{Spells, SpellsAtAnyDepth}
use Rattle.parse_unique.proofs.Programs.{at_any_depth}

-- behind these tokens every way ends, and for this cause
abbrev pub EndsAt : ℕ → List Token → List Token → FormCause → Type 0
EndsAt limit before [] UnexpectedEnd = Unit {0}
EndsAt limit before (u ∷ more) Unexpected = IsPossible (before ++ (u ∷ [])) → ⊥
EndsAt limit before (w ∷ more) TooDeep = IsPossible (before ++ (w ∷ [])) × IsDeepAtLast limit (before ++ (w ∷ []))
EndsAt limit before _ _ = ⊥

pub record Facts (limit : ℕ) (ts before rest : List Token) (cause : FormCause) : Type 0 where
  pub cut : ts ≡ before ++ rest
  pub possible : EachPossible before
  pub none_deep : NoneDeep limit before
  pub ends : EndsAt limit before rest cause

all_of : (xs : List Token) → xs ++ [] ≡ xs
all_of [] = refl
all_of (x ∷ xs) = ap (λ l. x ∷ l) (all_of xs)

joined : (xs ys zs : List Token) → (xs ++ ys) ++ zs ≡ xs ++ (ys ++ zs)
joined [] ys zs = refl
joined (x ∷ xs) ys zs = ap (λ l. x ∷ l) (joined xs ys zs)

-- what is possible of all is possible of a front
front_possible : (before : List Token) (w : Token) → EachPossible (before ++ (w ∷ [])) → EachPossible before
front_possible before w each = λ front v more is. each front v (more ++ (w ∷ [])) (ap (λ l. l ++ (w ∷ [])) is ∙ joined front (v ∷ more) (w ∷ []))

facts_of : (limit : ℕ) (ts before rest : List Token) (cause : FormCause) → Refused limit ts before rest cause → Facts limit ts before rest cause
facts_of limit ts before [] UnexpectedEnd r = record {
  cut = r.0 ∙ sym (all_of before);
  possible = subst EachPossible r.0 r.1;
  none_deep = subst (NoneDeep limit) r.0 r.3;
  ends = tt;
}
facts_of limit ts before (u ∷ more) Unexpected r = record { cut = r.0; possible = r.1; none_deep = r.4; ends = r.2 }
facts_of limit ts before (w ∷ more) TooDeep r = record {
  cut = r.0;
  possible = front_possible before w r.1;
  none_deep = r.4;
  ends = (r.1 before w [] refl, r.2);
}
facts_of limit ts before [] Encoding r = absurd r
facts_of limit ts before [] TooLong r = absurd r
facts_of limit ts before [] BadToken r = absurd r
facts_of limit ts before [] WideNumber r = absurd r
facts_of limit ts before [] Unexpected r = absurd r
facts_of limit ts before [] TooDeep r = absurd r
facts_of limit ts before [] NotBuilt r = absurd r
facts_of limit ts before (u ∷ more) Encoding r = absurd r
facts_of limit ts before (u ∷ more) TooLong r = absurd r
facts_of limit ts before (u ∷ more) BadToken r = absurd r
facts_of limit ts before (u ∷ more) WideNumber r = absurd r
facts_of limit ts before (u ∷ more) UnexpectedEnd r = absurd r
facts_of limit ts before (u ∷ more) NotBuilt r = absurd r

-- a refused list is cut in two
pub cut_of : (limit : ℕ) (ts before rest : List Token) (cause : FormCause) → Refused limit ts before rest cause → ts ≡ before ++ rest
cut_of limit ts before rest cause r = let f : Facts limit ts before rest cause = facts_of limit ts before rest cause r in f.cut

-- of two ways to cut a list, the same, or one is cut further on
pub record Further (before rest before' : List Token) : Type 0 where
  pub next : Token
  pub more : List Token
  pub between : List Token
  pub rest_is : rest ≡ next ∷ more
  pub before_is : before' ≡ before ++ (next ∷ between)

abbrev pub Cuts : List Token → List Token → List Token → List Token → Type 0
Cuts before rest before' rest' = ((before ≡ before') × (rest ≡ rest')) ⊎ (Further before rest before' ⊎ Further before' rest' before)

head_of : (x y : Token) (xs ys : List Token) → x ∷ xs ≡ y ∷ ys → (x ≡ y) × (xs ≡ ys)
head_of x y xs ys e = (ap (λ l. first_or x l) e, ap rest_of e)
  where
    first_or : Token → List Token → Token
    first_or z [] = z
    first_or z (v ∷ vs) = v

    rest_of : List Token → List Token
    rest_of [] = []
    rest_of (v ∷ vs) = vs

further : (x : Token) (before rest before' : List Token) → Further before rest before' → Further (x ∷ before) rest (x ∷ before')
further x before rest before' f = record { next = f.next; more = f.more; between = f.between; rest_is = f.rest_is; before_is = ap (λ l. x ∷ l) f.before_is }

both : (x : Token) (before rest before' rest' : List Token) → Cuts before rest before' rest' → Cuts (x ∷ before) rest (x ∷ before') rest'
both x before rest before' rest' (inl e) = inl (ap (λ l. x ∷ l) e.0, e.1)
both x before rest before' rest' (inr (inl f)) = inr (inl (further x before rest before' f))
both x before rest before' rest' (inr (inr f)) = inr (inr (further x before' rest' before f))

cuts_of : (before rest before' rest' : List Token) → before ++ rest ≡ before' ++ rest' → Cuts before rest before' rest'
cuts_of [] rest [] rest' e = inl (refl, e)
cuts_of [] rest (y ∷ ys) rest' e = inr (inl (record { next = y; more = ys ++ rest'; between = ys; rest_is = e; before_is = refl }))
cuts_of (x ∷ xs) rest [] rest' e = inr (inr (record { next = x; more = xs ++ rest; between = xs; rest_is = sym e; before_is = refl }))
cuts_of (x ∷ xs) rest (y ∷ ys) rest' e =
    let h : (x ≡ y) × (xs ++ rest ≡ ys ++ rest') = head_of x y (xs ++ rest) (ys ++ rest') e in
    subst (λ z. Cuts (x ∷ xs) rest (z ∷ ys) rest') h.0 (both x xs rest ys rest' (cuts_of xs rest ys rest' h.1))

-- a list whose front was refused isn't cut further on
not_further : (limit : ℕ) (ts before rest before' rest' : List Token) (cause cause' : FormCause) →
    Facts limit ts before rest cause → Facts limit ts before' rest' cause' → Further before rest before' → ⊥
not_further limit ts before rest before' rest' cause cause' f g further =
    by_cause cause (subst (λ l. EndsAt limit before l cause) further.rest_is f.ends)
  where
    by_cause : (c : FormCause) → EndsAt limit before (further.next ∷ further.more) c → ⊥
    by_cause Unexpected ends = ends (g.possible before further.next further.between further.before_is)
    by_cause TooDeep ends = g.none_deep before further.next further.between further.before_is ends.1
    by_cause UnexpectedEnd ends = ends
    by_cause Encoding ends = ends
    by_cause TooLong ends = ends
    by_cause BadToken ends = ends
    by_cause WideNumber ends = ends
    by_cause NotBuilt ends = ends

-- where no token is left the cause is that the list ends
cause_at_end : (limit : ℕ) (before : List Token) (c : FormCause) → EndsAt limit before [] c → c ≡ UnexpectedEnd
cause_at_end limit before UnexpectedEnd ends = refl
cause_at_end limit before Unexpected ends = absurd ends
cause_at_end limit before TooDeep ends = absurd ends
cause_at_end limit before Encoding ends = absurd ends
cause_at_end limit before TooLong ends = absurd ends
cause_at_end limit before BadToken ends = absurd ends
cause_at_end limit before WideNumber ends = absurd ends
cause_at_end limit before NotBuilt ends = absurd ends

-- where a token is left it isn't possible, or it is and is too deep
abbrev pub AtToken : List Token → Token → FormCause → Type 0
AtToken before u c = ((c ≡ Unexpected) × (IsPossible (before ++ (u ∷ [])) → ⊥)) ⊎ ((c ≡ TooDeep) × IsPossible (before ++ (u ∷ [])))

at_token : (limit : ℕ) (before : List Token) (u : Token) (more : List Token) (c : FormCause) → EndsAt limit before (u ∷ more) c → AtToken before u c
at_token limit before u more Unexpected ends = inl (refl, ends)
at_token limit before u more TooDeep ends = inr (refl, ends.0)
at_token limit before u more UnexpectedEnd ends = absurd ends
at_token limit before u more Encoding ends = absurd ends
at_token limit before u more TooLong ends = absurd ends
at_token limit before u more BadToken ends = absurd ends
at_token limit before u more WideNumber ends = absurd ends
at_token limit before u more NotBuilt ends = absurd ends

both_at_token : (before : List Token) (u : Token) (c c' : FormCause) → AtToken before u c → AtToken before u c' → c ≡ c'
both_at_token before u c c' (inl a) (inl b) = a.0 ∙ sym b.0
both_at_token before u c c' (inr a) (inr b) = a.0 ∙ sym b.0
both_at_token before u c c' (inl a) (inr b) = absurd (a.1 b.1)
both_at_token before u c c' (inr a) (inl b) = absurd (b.1 a.1)

-- behind the same tokens there is one cause
one_cause : (limit : ℕ) (before rest : List Token) (c c' : FormCause) → EndsAt limit before rest c → EndsAt limit before rest c' → c ≡ c'
one_cause limit before [] c c' a b = cause_at_end limit before c a ∙ sym (cause_at_end limit before c' b)
one_cause limit before (u ∷ more) c c' a b = both_at_token before u c c' (at_token limit before u more c a) (at_token limit before u more c' b)

one_of_cuts : (limit : ℕ) (ts before rest before' rest' : List Token) (c c' : FormCause) → Facts limit ts before rest c → Facts limit ts before' rest' c' →
    Cuts before rest before' rest' → (before ≡ before') × (rest ≡ rest') × (c ≡ c')
one_of_cuts limit ts before rest before' rest' c c' f g (inl e) =
    (e.0, e.1, one_cause limit before' rest' c c' (subst (λ l. EndsAt limit l rest' c) e.0 (subst (λ l. EndsAt limit before l c) e.1 f.ends)) g.ends)
one_of_cuts limit ts before rest before' rest' c c' f g (inr (inl h)) = absurd (not_further limit ts before rest before' rest' c c' f g h)
one_of_cuts limit ts before rest before' rest' c c' f g (inr (inr h)) = absurd (not_further limit ts before' rest' before rest c' c g f h)

pub one_refusal : (limit : ℕ) (ts before rest before' rest' : List Token) (c c' : FormCause) →
    Refused limit ts before rest c → Refused limit ts before' rest' c' → (before ≡ before') × (rest ≡ rest') × (c ≡ c')
one_refusal limit ts before rest before' rest' c c' r r' =
    let f : Facts limit ts before rest c = facts_of limit ts before rest c r in
    let g : Facts limit ts before' rest' c' = facts_of limit ts before' rest' c' r' in
    one_of_cuts limit ts before rest before' rest' c c' f g (cuts_of before rest before' rest' (sym f.cut ∙ g.cut))

-- a list that is refused is spelled by no tree within the limit
pub not_spelled : (limit : ℕ) (ts before rest : List Token) (c : FormCause) (program : Program) → Refused limit ts before rest c → Spells limit program ts → ⊥
not_spelled limit ts before [] UnexpectedEnd program r s = let a : SpellsAtAnyDepth program ts = at_any_depth limit ts program s in r.2 a.0 a.1
not_spelled limit ts before (u ∷ more) Unexpected program r s = let a : SpellsAtAnyDepth program ts = at_any_depth limit ts program s in r.3 a.0 a.1
not_spelled limit ts before (w ∷ more) TooDeep program r s = r.3 s.0 s.1
not_spelled limit ts before [] Encoding program r s = r
not_spelled limit ts before [] TooLong program r s = r
not_spelled limit ts before [] BadToken program r s = r
not_spelled limit ts before [] WideNumber program r s = r
not_spelled limit ts before [] Unexpected program r s = r
not_spelled limit ts before [] TooDeep program r s = r
not_spelled limit ts before [] NotBuilt program r s = r
not_spelled limit ts before (u ∷ more) Encoding program r s = r
not_spelled limit ts before (u ∷ more) TooLong program r s = r
not_spelled limit ts before (u ∷ more) BadToken program r s = r
not_spelled limit ts before (u ∷ more) WideNumber program r s = r
not_spelled limit ts before (u ∷ more) UnexpectedEnd program r s = r
not_spelled limit ts before (u ∷ more) NotBuilt program r s = r
