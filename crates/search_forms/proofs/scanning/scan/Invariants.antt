use Rattle.std.proofs.Common.{[], ℕ, List, map}
use Rattle.checked_tree.specs.Shape.{shape_of_generator}
use Rattle.comet_meaning.specs.Program.{level}
use Rattle.comet_meaning.specs.Selection.{scanned}
use Rattle.run_steps.specs.OfRunState.Views.{state_seen}
use Rattle.search_forms.specs.Asking.{condition_of, key_of}
use Rattle.search_forms.specs.Tables.{candidates_seen}
use Rattle.search_forms.proofs.ScanLaws.{Scanning}
use Rattle.search_forms.proofs.scanning.scan.Given as goal

-- the candidates from here on are still to be scanned
abbrev pub invariant-loop-number : goal.invariant-loop-number
invariant-loop-number g l = Scanning (level (g.W.Within.code l.inside) (g.W.Within.depth l.inside)) l.at (map shape_of_generator l.generators) (condition_of l.asked) (key_of l.asked) l.asked.extreme (candidates_seen l.candidates) l.number l.part l.fn.s.fuel l.s.fuel (state_seen l.s (g.O.Outside.told l.out)) (scanned (level (g.W.Within.code l.inside) (g.W.Within.depth l.inside)) l.at (map shape_of_generator l.generators) (condition_of l.asked) (key_of l.asked) 0 (candidates_seen l.candidates) [] (state_seen l.fn.s (g.O.Outside.told l.fn.out)))
