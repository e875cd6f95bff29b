-- Changes in any order: each is at a place where none was before.
use Rattle.std.proofs.Common.{◌≡◌, ℕ, ◌<◌, Bool, true, false, not, List, [], ◌∷◌, ◌++◌, length, get_or, set, refl, ap, sym, ◌∙◌, subst, arith, rules}
use Rattle.std.specs.Prelude.{Some, slice_get, ◌==◌, ◌&&◌}
use Rattle.std.specs.List.{list_all}
use Rattle.std.proofs.lemmas.List.{length-set}
use Rattle.std.proofs.lemmas.List.Sums.{fold-append}
use Rattle.std.proofs.lemmas.Option.{slice_get-get_or}
use Rattle.cbl_base.specs.declared.input.Change.{Change}
use Rattle.cbl_base.specs.declared.input.Input.{Input}
use Rattle.cbl_base.specs.Changes.{IsChange, NoneAt, AreChanges, after_change, after_changes, place_of}
use Rattle.cbl_base.proofs.InputLemmas.{get-after_changes_other}
use Rattle.node_states.specs.Elsewhere.{is_elsewhere}
use Rattle.node_states.specs.Step.{IsStep}
use Rattle.node_states.proofs.Steps.{none_push}

-- the changes so far, which make the inputs into these
pub record Makes (from held : List Input) (cs : List Change) : Type 0 where
  pub are : AreChanges from cs
  pub after : after_changes from cs ≡ held
  pub long : length held ≡ length from

both : (a b : Bool) → (a && b) ≡ true → (a ≡ true) × (b ≡ true)
both true b h = (refl, h)
both false b h = absurd (search rules)

apart : (n p : ℕ) → n ≡ p → not (n == p) ≡ true → ⊥
apart n p at h = grind arith

-- a test finds that none of the changes is at a place
pub none_of : (p : ℕ) (cs : List Change) → list_all (is_elsewhere p) cs ≡ true → NoneAt p cs
none_of p [] h = tt
none_of p (c ∷ cs) h =
    let parts = both (not (place_of c == p)) (list_all (is_elsewhere p) cs) h in
    (λ at. apart (place_of c) p at parts.0, none_of p cs parts.1)

changes_beside : (xs : List Input) (cs : List Change) (c : Change) → AreChanges xs cs → IsChange xs c → NoneAt (place_of c) cs → AreChanges xs (cs ++ c ∷ [])
changes_beside xs [] c are is none = (is, tt, tt)
changes_beside xs (d ∷ cs) c are is none =
    (are.0, none_push (place_of d) cs c are.1 (λ e. none.0 (sym e)), changes_beside xs cs c are.2 is none.1)

pub makes_more : (from held held' : List Input) (cs cs' : List Change) (p : ℕ) (c : Change) (x y : Input) → p < length from → x ≡ get_or from p x → IsStep p x y c
    → NoneAt p cs → cs' ≡ cs ++ c ∷ [] → held' ≡ set held p y → Makes from held cs → Makes from held' cs'
makes_more from held held' cs cs' p c x y lt old step none pushed written so =
    let there : slice_get from p ≡ Some x = slice_get-get_or from p x lt ∙ ap Some (sym old) in
    let still : slice_get held p ≡ Some x = ap (λ xs. slice_get xs p) (sym so.after) ∙ get-after_changes_other from cs p none ∙ there in
    let here : NoneAt (place_of c) cs = subst (λ q. NoneAt q cs) (sym step.at) none in
    let made : after_changes from (cs ++ c ∷ []) ≡ set held p y =
    fold-append after_change from cs (c ∷ []) ∙ ap (λ xs. after_change xs c) so.after ∙ step.after held still in
    subst (λ t. Makes from held' t) (sym pushed) (record {
      are = changes_beside from cs c so.are (step.fits from there) here;
      after = made ∙ sym written;
      long = ap length written ∙ length-set held p y ∙ so.long;
    })
