-- What is kept of a model is kept of each that differs from it in weights alone.
use Rattle.std.proofs.Common.{◌≡◌, ℕ, zero, suc, ◌<◌, ◌||◌, List, [], ◌∷◌, Some, None, length, map, refl, sym, ap, ◌∙◌, subst, slice_get}
use Rattle.std.specs.Prelude.{nat_eq, unwrap_or}
use Rattle.std.specs.List.{list_any}
use Rattle.std.specs.Option.{option_map}
use Rattle.std.proofs.lemmas.List.{length-map}
use Rattle.std.proofs.lemmas.Option.{slice_get-map}
use Rattle.model_values.specs.Dependence.{depends_through, var_depends}
use Rattle.term_model.specs.Definitions.{definition_in, definition_of, named_by}
use Rattle.term_model.specs.declared.model.Model.{Model}
use Rattle.term_model.specs.declared.model.Total.{Total}
use Rattle.term_model.specs.declared.term.Term.{Term}
use Rattle.store_shares.specs.Closing.{depends_in}
use Rattle.store_shares.specs.Made.{AreSameButWeights, IsSharesOf, IsSystem, terms_of}
use Rattle.store_shares.specs.Settled.{AreSets}
use Rattle.store_shares.specs.Slots.{slot_at}
use Rattle.store_shares.specs.declared.shares.Shares.{Shares}
use Rattle.store_shares.proofs.SettledLaws.{any_agree}

module _ (M N : Model) (same : AreSameButWeights M N) where
  named_same : (i : ℕ) → named_by N.defs.items (definition_of N i) ≡ named_by M.defs.items (definition_of M i)
  named_same i =
      ap (λ ds. named_by ds (definition_in ds N.posted.items i)) same.defs
      ∙ ap (λ ps. named_by M.defs.items (definition_in M.defs.items ps i)) same.posted

  through_same : (x n i : ℕ) → depends_through N x n i ≡ depends_through M x n i
  unfolding depends_through
  through_same x zero i = refl
  through_same x (suc n) i =
      ap (λ b. nat_eq i x || b)
      (any_agree (depends_through N x n) (depends_through M x n) (named_by N.defs.items (definition_of N i)) (λ d in'. through_same x n d) ∙ ap (list_any (depends_through M x n)) (named_same i))

  depends_same : (x i : ℕ) → var_depends N x i ≡ var_depends M x i
  depends_same x i = through_same x (length N.vars.items) i ∙ ap (λ n. depends_through M x n i) same.vars

  in_same : (lists : List (List ℕ)) (x k : ℕ) → depends_in M lists x k ≡ depends_in N lists x k
  in_same lists x k = sym (any_agree (var_depends N x) (var_depends M x) (slot_at lists k) (λ d in'. depends_same x d))

  sets_kept : (lists : List (List ℕ)) (shares : Shares) → AreSets (depends_in M lists) (length M.vars.items) shares.slots.items → AreSets (depends_in N lists) (length N.vars.items) shares.slots.items
  sets_kept lists shares sets = record {
    each = λ x k lt. sets.each x k (subst (λ n. x < n) same.vars lt) ∙ in_same lists x k;
    rising = sets.rising;
  }

  member_sets_kept : (lists : List (List ℕ)) (shares : Shares) → AreSets (depends_in M lists) (length M.vars.items) shares.members.items → AreSets (depends_in N lists) (length N.vars.items) shares.members.items
  member_sets_kept lists shares sets = record {
    each = λ x k lt. sets.each x k (subst (λ n. x < n) same.vars lt) ∙ in_same lists x k;
    rising = sets.rising;
  }

  terms_there : (totals : List Total) (s : ℕ) (terms : List Term) → slice_get (map terms_of totals) s ≡ Some terms → (total : Total) × (slice_get totals s ≡ Some total) × (terms_of total ≡ terms)
  terms_there [] s terms at = let c : None ≡ Some terms = at in cc
  terms_there (t ∷ totals) zero terms at = (t, refl, ap (λ o. unwrap_or o []) at)
  terms_there (t ∷ totals) (suc s) terms at = terms_there totals s terms at

  -- what is kept of the one is kept of the other
  pub shares_kept : (ids : Term → ℕ) (shares : Shares) → IsSharesOf M ids shares → IsSharesOf N ids shares
  shares_kept ids shares kept = record {
    ordered = kept.ordered;
    count = kept.count ∙ sym (length-map M.systems.items terms_of) ∙ sym (ap length same.terms) ∙ length-map N.systems.items terms_of;
    slots = kept.slots;
    members = kept.members;
    slot_sets = sets_kept kept.slots shares kept.slot_sets;
    member_sets = member_sets_kept kept.members shares kept.member_sets;
    systems = λ s total at.
        let there : slice_get (map terms_of M.systems.items) s ≡ Some (terms_of total) = ap (λ l. slice_get l s) (sym same.terms) ∙ slice_get-map terms_of N.systems.items s ∙ ap (option_map terms_of) at in
        let old = terms_there M.systems.items s (terms_of total) there in
        subst (IsSystem ids shares kept.slots kept.members s) old.2 (kept.systems s old.0 old.1);
  }
