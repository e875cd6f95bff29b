-- One more of a list, and of what is seen of its parts.
use Rattle.std.proofs.Common.{◌≡◌, ℕ, ◌+◌, ◌<◌, List, [], ◌∷◌, ◌++◌, length, get_or, take, map, ap, sym, ◌∙◌}
use Rattle.std.proofs.lemmas.List.{map-append, map_more}

-- a part is seen, and what is asked of what is seen is put behind what was asked of those before
pub part_more : {A B C : Type 0} (ask : B → C) (see : A → B) (parts : List A) (i : ℕ) (part : A) (answer : C) (old new : List C) → i < length parts → part ≡ get_or parts i part →
    old ≡ map ask (map see (take i parts)) → new ≡ old ++ answer ∷ [] → answer ≡ ask (see part) → new ≡ map ask (map see (take (i + 1) parts))
part_more ask see parts i part answer old new below is before added answered =
    added ∙ ap (λ cs. cs ++ answer ∷ []) before
    ∙ ap (λ c. map ask (map see (take i parts)) ++ c ∷ []) (answered ∙ ap (λ a. ask (see a)) is)
    ∙ sym (map-append ask (map see (take i parts)) (see (get_or parts i part) ∷ []))
    ∙ ap (map ask) (sym (map_more see parts i part below))
