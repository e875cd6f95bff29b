-- What each form of a part tells.
use Rattle.std.proofs.Common.{◌≡◌, ◌≤◌, ℕ, ℤ, pos, Bool, true, Vec, Global, List, Option, Result, Ok, Err, length, drop, map, sym, ap, ◌∙◌}
use Rattle.std.specs.Prelude.{if◌then◌else◌}
use Rattle.std.proofs.lemmas.List.{drop_all}
use Rattle.cbl_base.specs.Arithmetic.{exact}
use Rattle.cbl_base.specs.declared.faults.RunFault.{RunFault}
use Rattle.cbl_operations.specs.Operations.Greatest.{greatest_of}
use Rattle.store_shares.specs.Parts.{Reading, Told, fewest_told, fitted, one_in, sum_told, told, told_step, violation_if, violation_of, violations_in}
use Rattle.store_shares.specs.declared.parts.Part.{Part}
use Rattle.store_shares.specs.declared.parts.Part.TheOpen.{Part-F}
use Rattle.store_shares.specs.declared.parts.Part.TheFolds.{fold-roll-Part}
use Rattle.store_shares.specs.declared.parts.Part.TheViews.{Every, One}
use Rattle.store_shares.specs.declared.parts.Part.TheVariants.{Leaf, Negation, Plain, rolls-Leaf, rolls-Negation, rolls-Plain, rolls-Every, rolls-One}
use Rattle.store_shares.proofs.ReadingLaws.{sum_left}

module _ (reading : Reading) (test : ℕ → Bool) (part : Part) (id : ℕ) where
  pub told_leaf : part ≡ Leaf id → Ok (pos 0) ≡ (told reading test part).violation
  told_leaf form = sym (ap violation_of (ap (told reading test) (form ∙ sym (rolls-Leaf id)) ∙ fold-roll-Part Told (told_step reading test) (Part-F.Leaf id)))

  pub told_negation : (first end : ℕ) → part ≡ Negation id first end → Ok (if one_in test first end then reading.number id else pos 0) ≡ (told reading test part).violation
  told_negation first end form = sym (ap violation_of (ap (told reading test) (form ∙ sym (rolls-Negation id first end)) ∙ fold-roll-Part Told (told_step reading test) (Part-F.Negation id first end)))

  pub told_plain : (first end : ℕ) → part ≡ Plain id first end → Ok (greatest_of (violations_in reading test id first end)) ≡ (told reading test part).violation
  told_plain first end form = sym (ap violation_of (ap (told reading test) (form ∙ sym (rolls-Plain id first end)) ∙ fold-roll-Part Told (told_step reading test) (Part-F.Plain id first end)))

  module _ (first end : ℕ) (parts : Vec Part Global) where
    pub told_every : part ≡ Every id first end parts →
        (if one_in test first end then fitted (sum_told (map violation_of (map (told reading test) parts.items))) else Ok (pos 0)) ≡ (told reading test part).violation
    told_every form = sym (ap violation_of (ap (told reading test) (form ∙ sym (rolls-Every id first end parts)) ∙ fold-roll-Part Told (told_step reading test) (Part-F.Every id first end parts)))

    pub told_one : part ≡ One id first end parts → (if one_in test first end then violation_if (fewest_told (map (told reading test) parts.items)) else Ok (pos 0)) ≡ (told reading test part).violation
    told_one form = sym (ap violation_of (ap (told reading test) (form ∙ sym (rolls-One id first end parts)) ∙ fold-roll-Part Told (told_step reading test) (Part-F.One id first end parts)))

    -- where a slot of it passes, from what its parts come to
    told_all : (items : List Part) (whole : Result ℤ RunFault) → part ≡ Every id first end parts → one_in test first end ≡ true → items ≡ parts.items → sum_told (map violation_of (map (told reading test) items)) ≡ whole →
        fitted whole ≡ (told reading test part).violation
    told_all items whole form has same is =
        ap fitted (sym is) ∙ ap (λ ps. fitted (sum_told (map violation_of (map (told reading test) ps)))) same
        ∙ ap (λ b. if b then fitted (sum_told (map violation_of (map (told reading test) parts.items))) else Ok (pos 0)) (sym has) ∙ told_every form

    pub told_stops : (items : List Part) (fault : RunFault) (result : Result ℤ RunFault) → part ≡ Every id first end parts → one_in test first end ≡ true → items ≡ parts.items →
        sum_told (map violation_of (map (told reading test) items)) ≡ Err fault → result ≡ Err fault → result ≡ (told reading test part).violation
    told_stops items fault result form has same is stops = stops ∙ told_all items (Err fault) form has same is

    pub told_sum : (items : List Part) (sum : ℤ) (i : ℕ) → part ≡ Every id first end parts → one_in test first end ≡ true → items ≡ parts.items → length items ≤ i →
        sum_told (map violation_of (map (told reading test) items)) ≡ sum_left (told reading test) sum (drop i items) → exact sum ≡ (told reading test part).violation
    told_sum items sum i form has same le is = told_all items (Ok sum) form has same (is ∙ ap (sum_left (told reading test) sum) (drop_all i items le))

    pub told_some : (items : List Part) (fewest : Option Told) → part ≡ One id first end parts → one_in test first end ≡ true → items ≡ parts.items → fewest_told (map (told reading test) items) ≡ fewest →
        violation_if fewest ≡ (told reading test part).violation
    told_some items fewest form has same is =
        ap violation_if (sym is) ∙ ap (λ ps. violation_if (fewest_told (map (told reading test) ps))) same
        ∙ ap (λ b. if b then violation_if (fewest_told (map (told reading test) parts.items)) else Ok (pos 0)) (sym has) ∙ told_one form
