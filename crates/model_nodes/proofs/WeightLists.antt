-- The weights of the members of systems, or of objectives, one system or objective after another.
use Rattle.std.proofs.Common.{add-one, ◌≡◌, ℕ, ℤ, ◌+◌, ◌<◌, List, ◌++◌, map, length, sym, ap, ◌∙◌, get_or}
use Rattle.std.proofs.lemmas.List.{map-append}
use Rattle.model_values.specs.Fresh.{whole_by}
use Rattle.store_build.proofs.ListLemmas.{at_place}
use Rattle.term_model.specs.Posting.{totals_by}
use Rattle.term_model.specs.Wellformed.{IsWellFormed}
use Rattle.term_model.specs.declared.model.Member.{Member}
use Rattle.term_model.specs.declared.model.Model.{Model}
use Rattle.term_model.specs.declared.model.Total.{Total}
use Rattle.term_model.specs.declared.posting.Side.{Side}
use Rattle.graph_values.specs.Members.{members_before, members_of}
use Rattle.model_nodes.proofs.OwnMembers.{own_members}

-- one system or objective more
pub weights_more : (M : Model) → IsWellFormed M → (side : Side) (k : ℕ) (total : Total) (old new : List ℤ) → k < length (totals_by M side) → total ≡ get_or (totals_by M side) k total →
    old ≡ map (λ m. m.weight) (members_before M side k) → new ≡ old ++ map (λ m. m.weight) total.members.items → new ≡ map (λ m. m.weight) (members_before M side (k + 1))
weights_more M formed side k total old new lt is before more =
    let own = own_members M formed side k total (at_place (totals_by M side) k total lt is) in
    more ∙ ap (λ ws. ws ++ map (λ (m : Member). m.weight) total.members.items) before
    ∙ ap (λ ms. map (λ (m : Member). m.weight) (members_before M side k) ++ map (λ (m : Member). m.weight) ms) (sym own)
    ∙ sym (map-append (λ (m : Member). m.weight) (members_before M side k) (members_of M (whole_by side k)))
    ∙ sym (ap (λ n. map (λ (m : Member). m.weight) (members_before M side n)) (add-one k))
