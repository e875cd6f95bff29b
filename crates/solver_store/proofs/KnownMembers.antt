-- The terms of a system's members are held, and what is read as their weights are theirs.
use Rattle.std.proofs.Common.{◌≡◌, ℕ, pos, All, true, List, [], ◌∷◌, map, Some, refl, ap, ◌∙◌, subst, slice_get}
use Rattle.std.specs.Prelude.{unwrap_or, zero, suc}
use Rattle.std.specs.Option.{option_and_then, option_map}
use Rattle.std.proofs.lemmas.List.Elements.{All-nil, All-cons, All-head, All-tail}
use Rattle.graph_values.proofs.ModelTotals.{IsUsual, members_usual}
use Rattle.model_nodes.proofs.OwnMembers.{own_members}
use Rattle.model_values.specs.declared.wholes.Whole.TheVariants.{System}
use Rattle.store_shares.specs.Made.{AreAllKnown, AreKnown, AreWeights, terms_of}
use Rattle.term_model.specs.Wellformed.{IsWellFormed}
use Rattle.term_model.specs.declared.model.Member.{Member}
use Rattle.term_model.specs.declared.model.Model.{Model}
use Rattle.term_model.specs.declared.model.Total.{Total}
use Rattle.term_model.specs.declared.posting.Side.TheVariants.{Systems}
use Rattle.solver_store.specs.Reads.{is_held, weight_in}
use Rattle.solver_store.proofs.HeldTerms.{held_of}

module _ (M : Model) (formed : IsWellFormed M) where
  each_term : (ms : List Member) → All (IsUsual M) ms → All (λ t. is_held M t ≡ true) (map (λ (m : Member). m.term) ms)
  each_term [] all = All-nil (λ t. is_held M t ≡ true)
  each_term (m ∷ ms) all =
      let usual = All-head (IsUsual M) m ms all in
      All-cons (λ t. is_held M t ≡ true) m.term (map (λ (n : Member). n.term) ms) (held_of M formed m.term usual.0 usual.1) (each_term ms (All-tail (IsUsual M) m ms all))

  pub terms_held : (s : ℕ) (total : Total) → slice_get M.systems.items s ≡ Some total → All (λ t. is_held M t ≡ true) (terms_of total)
  terms_held s total at = each_term total.members.items (subst (All (IsUsual M)) (own_members M formed Systems s total at) (members_usual M formed (System s)))

  pub are_known : (s : ℕ) → AreKnown M s (is_held M)
  are_known s total at = terms_held s total at

  all_at_places : (P : Total → Type 0) (totals : List Total) → ((k : ℕ) (total : Total) → slice_get totals k ≡ Some total → P total) → All P totals
  all_at_places P [] each = All-nil P
  all_at_places P (t ∷ ts) each = All-cons P t ts (each zero t refl) (all_at_places P ts (λ k total at. each (suc k) total at))

  pub all_known : AreAllKnown M (is_held M)
  all_known = all_at_places (λ (total : Total). All (λ t. is_held M t ≡ true) (terms_of total)) M.systems.items terms_held

-- the weights
pub are_weights : (M : Model) (s : ℕ) → AreWeights M s (weight_in M.systems.items)
are_weights M s total k member at there =
    ap (λ o. unwrap_or (option_map (λ (m : Member). m.weight) (option_and_then (λ (t : Total). slice_get t.members.items k) o)) (pos 0)) at
    ∙ ap (λ o. unwrap_or (option_map (λ (m : Member). m.weight) o) (pos 0)) there
