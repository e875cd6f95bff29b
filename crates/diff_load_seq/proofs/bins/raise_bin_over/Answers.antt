use Rattle.std.proofs.Common.{◌≡◌, ◌<◌, ◌∙◌, ap, sym, subst, to_z, of_z, w64, length, set, arith}
use Rattle.std.specs.Int.{w128}
use Rattle.std.proofs.lemmas.Int.{to_z-of_z}
use Rattle.std.proofs.lemmas.Result.{on_ok_weaker}
use Rattle.diff_load_seq.specs.Levels.{flat, level_at, raised, IsRaisable}
use Rattle.diff_load_seq.specs.LevelsOver.{shown, level_over}
use Rattle.diff_load_seq.specs.Bins.{place_of_bin}
use Rattle.diff_load_seq.proofs.BinPlaces.{bin_found, raised_found, raised_lost}
use Rattle.diff_load_seq.proofs.OverLemmas.{length_shown}
use Rattle.diff_load_seq.proofs.PlaceLists.{at_place}
use Rattle.diff_load_seq.proofs.bins.raise_bin_over.Goals as goal
use Rattle.diff_load_seq.proofs.bins.raise_bin_over.Goals.{After-place_of_bin}

-- the place that was found
place : (c : After-place_of_bin) → c.place_of_bin.result ≡ place_of_bin c.args.low (length (shown c.args.bins.now.each.items c.args.over.now)) c.args.bin
place c =
    let ok = c.args.bins.now.each.ok in
    let len : c.len.result ≡ length (shown c.args.bins.now.each.items c.args.over.now) = omega (arith, c.len.ensures, ok.0, length_shown c.args.bins.now.each.items c.args.over.now) in
    c.place_of_bin.ensures
    ∙ ap (λ low. place_of_bin low c.len.result (to_z w64 (of_z w64 c.args.bin))) (to_z-of_z w64 c.args.low c.ranges.low)
    ∙ ap (place_of_bin c.args.low c.len.result) (to_z-of_z w64 c.args.bin c.ranges.bin)
    ∙ ap (λ n. place_of_bin c.args.low n c.args.bin) len

pub raise-requires-clause-room : goal.raise-requires-clause-room
raise-requires-clause-room c =
    let bins = c.args.bins.now.each.items in
    let at = bin_found c.args.low (length (shown c.args.bins.now.each.items c.args.over.now)) c.args.bin c.in-Some.place (sym (place (goal.at.raise-requires-clause-room c).After-place_of_bin) ∙ c.in-Some.is) in
    let within : c.in-Some.place < length c.args.bins.now.each.items = omega (arith, at.within, length_shown bins c.args.over.now) in
    subst (λ level. IsRaisable level (to_z w128 (of_z w128 c.args.by))) (at_place flat (length bins) (level_over bins c.args.over.now) c.in-Some.place within)
    (subst (IsRaisable (level_at (shown c.args.bins.now.each.items c.args.over.now) c.in-Some.place)) (sym (to_z-of_z w128 c.args.by c.ranges.by)) (c.requires.room c.in-Some.place within))

pub returns-in-Some-clause-shown : goal.returns-in-Some-clause-shown
returns-in-Some-clause-shown c =
    let bins = c.args.bins.now.each.items in
    let at = bin_found c.args.low (length (shown c.args.bins.now.each.items c.args.over.now)) c.args.bin c.in-Some.place (sym (place (goal.at.returns-in-Some-clause-shown c).After-place_of_bin) ∙ c.in-Some.is) in
    let within : c.in-Some.place < length c.args.bins.now.each.items = omega (arith, at.within, length_shown bins c.args.over.now) in
    on_ok_weaker c.raise.result (λ e. e
    ∙ ap (λ by. set (shown c.args.bins.now.each.items c.args.over.now) c.in-Some.place (raised by (level_over c.args.bins.now.each.items c.args.over.now c.in-Some.place))) (to_z-of_z w128 c.args.by c.ranges.by)
    ∙ ap (λ level. set (shown c.args.bins.now.each.items c.args.over.now) c.in-Some.place (raised c.args.by level)) (sym (at_place flat (length bins) (level_over bins c.args.over.now) c.in-Some.place within))
    ∙ raised_found c.args.low c.args.bin c.args.by (shown c.args.bins.now.each.items c.args.over.now) c.in-Some.place at) c.raise.ensures.shown

pub returns-in-None-clause-shown : goal.returns-in-None-clause-shown
returns-in-None-clause-shown c =
    raised_lost c.args.low c.args.bin c.args.by (shown c.args.bins.now.each.items c.args.over.now) (sym (place (goal.at.returns-in-None-clause-shown c).After-place_of_bin) ∙ c.in-None.is)
