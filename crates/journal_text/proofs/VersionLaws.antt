-- A header says one version, and each version's is found.
use Rattle.std.proofs.Common.{◌≡◌, inl, inr, ⊎_elim, ℕ, true, List, Some, refl, ap, sym, subst, ◌∙◌}
use Rattle.journal_text.specs.declared.version.Version.{Version}
use Rattle.journal_text.specs.Versions.{version_1, version_2, version_3, IsVersion, version_of}
use Rattle.journal_text.proofs.Cuts.{is_free}
use Rattle.journal_text.proofs.Choices.{some_is, chosen}

-- the version, and its header
abbrev Says : Version → List ℕ → Type 0
Says v line = IsVersion v × (line ≡ v.header)

says : (v w : Version) → IsVersion w → Some w ≡ Some v → Says v w.header
says v w known e = subst (λ (u : Version). Says u w.header) (some_is w v e) (known, refl)

pub version_takes : (line : List ℕ) (v : Version) → version_of line ≡ Some v → Says v line
version_takes line v e =
    chosen line version_1.header (Some version_1) _ v (Says v) (says v version_1 (inl refl))
    (chosen line version_2.header (Some version_2) _ v (Says v) (says v version_2 (inr (inl refl)))
    (chosen line version_3.header (Some version_3) _ v (Says v) (says v version_3 (inr (inr refl))) (λ none. absurd cc)))
    e

-- what holds of each version
each : (P : Version → Type 0) → P version_1 → P version_2 → P version_3 → (v : Version) → IsVersion v → P v
each P one two three v known =
    ⊎_elim {C = P v} (λ e. subst P (sym e) one) (λ other. ⊎_elim {C = P v} (λ e. subst P (sym e) two) (λ e. subst P (sym e) three) other) known

pub version_again : (line : List ℕ) (v : Version) → IsVersion v → line ≡ v.header → version_of line ≡ Some v
version_again line v known e = ap version_of e ∙ each (λ w. version_of w.header ≡ Some w) refl refl refl v known

-- versions with one header are one version
pub one_version : (v w : Version) → IsVersion v → IsVersion w → w.header ≡ v.header → w ≡ v
one_version v w known also e = some_is w v (sym (version_again w.header w also refl) ∙ version_again w.header v known e)

pub free_header : (v : Version) → IsVersion v → is_free 10 v.header ≡ true
free_header v known = each (λ w. is_free 10 w.header ≡ true) refl refl refl v known
