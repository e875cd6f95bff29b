use Rattle.std.proofs.Common.{◌≡◌, ◌∙◌, ap, sym, subst, to_z, of_z, w64, length, set, arith}
use Rattle.std.specs.Int.{w128}
use Rattle.std.proofs.lemmas.Int.{to_z-of_z}
use Rattle.diff_load_seq.specs.Levels.{level_at, raised, IsRaisable}
use Rattle.diff_load_seq.specs.Bins.{place_of_bin}
use Rattle.diff_load_seq.proofs.BinPlaces.{bin_found, raised_found, raised_lost}
use Rattle.diff_load_seq.proofs.bins.raise_bin.Goals as goal
use Rattle.diff_load_seq.proofs.bins.raise_bin.Goals.{After-place_of_bin}

-- the place that was found
place : (c : After-place_of_bin) → c.place_of_bin.result ≡ place_of_bin c.args.low (length c.args.bins.now.each.items) c.args.bin
place c =
    let ok = c.args.bins.now.each.ok in
    let len : c.len.result ≡ length c.args.bins.now.each.items = omega (arith, c.len.ensures, ok.0) in
    c.place_of_bin.ensures
    ∙ ap (λ low. place_of_bin low c.len.result (to_z w64 (of_z w64 c.args.bin))) (to_z-of_z w64 c.args.low c.ranges.low)
    ∙ ap (place_of_bin c.args.low c.len.result) (to_z-of_z w64 c.args.bin c.ranges.bin)
    ∙ ap (λ n. place_of_bin c.args.low n c.args.bin) len

pub raise-requires-clause-room : goal.raise-requires-clause-room
raise-requires-clause-room c =
    let at = bin_found c.args.low (length c.args.bins.now.each.items) c.args.bin c.in-Some.place (sym (place (goal.at.raise-requires-clause-room c).After-place_of_bin) ∙ c.in-Some.is) in
    subst (IsRaisable (level_at c.args.bins.now.each.items c.in-Some.place)) (sym (to_z-of_z w128 c.args.by c.ranges.by)) (c.requires.room c.in-Some.place at.within)

pub returns-in-Some-clause-each : goal.returns-in-Some-clause-each
returns-in-Some-clause-each c =
    let at = bin_found c.args.low (length c.args.bins.now.each.items) c.args.bin c.in-Some.place (sym (place (goal.at.returns-in-Some-clause-each c).After-place_of_bin) ∙ c.in-Some.is) in
    c.raise.ensures.each
    ∙ ap (λ by. set c.args.bins.now.each.items c.in-Some.place (raised by (level_at c.args.bins.now.each.items c.in-Some.place))) (to_z-of_z w128 c.args.by c.ranges.by)
    ∙ raised_found c.args.low c.args.bin c.args.by c.args.bins.now.each.items c.in-Some.place at

pub returns-in_default-clause-each : goal.returns-in_default-clause-each
returns-in_default-clause-each c =
    raised_lost c.args.low c.args.bin c.args.by c.args.bins.now.each.items (sym (place (goal.at.returns-in_default-clause-each c).After-place_of_bin) ∙ c.in_default.is)
