-- The first entry from the index on is the one at the index, where it has the name.
use Rattle.std.proofs.Common.{◌≡◌, ◌∙◌, true, false, string_bytes, bytes_eq, arith}
use Rattle.cbl_io.proofs.FindLemmas.{find-map-drop_here, find-map-drop_later}
use Rattle.cbl_io.proofs.mem_files.bytes_of.Goals as goal

pub returns-then-eq : goal.returns-then-eq
returns-then-eq c =
    let same : bytes_eq c.args.name.now (string_bytes c.loop-held-item.result.0) ≡ true = cc in
    let here = find-map-drop_here (λ e. (string_bytes e.0, e.1.items)) c.args.name.now c.args.entries.now c.loop-held.held-index c.loop-held-item.result (omega arith) c.loop-held-item.is same in
    cc

pub loop-held-preserved : goal.loop-held-preserved
loop-held-preserved c =
    let other : bytes_eq c.args.name.now (string_bytes c.loop-held-item.result.0) ≡ false = cc in
    c.loop-held.invariant
    ∙ find-map-drop_later (λ e. (string_bytes e.0, e.1.items)) c.args.name.now c.args.entries.now c.loop-held.held-index c.loop-held-item.result (omega arith) c.loop-held-item.is other
