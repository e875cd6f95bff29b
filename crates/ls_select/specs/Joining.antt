-- The part of two adjoining lists of candidates of which the first didn't stop, of the parts of each.
use Rattle.std.specs.Prelude.{ℕ, ℤ, ◌+◌, if◌then◌else◌, List, [], ◌∷◌, ◌++◌, Option, Some}
use Rattle.std.specs.Option.{option_eq}
use Rattle.std.specs.Ordering.{int_eq}
use Rattle.ls_select.specs.Best.{best_of_key, better_of}
use Rattle.ls_select.specs.declared.part.Part.{Part}
use Rattle.ls_select.specs.declared.scored.End.{End}
use Rattle.ls_select.specs.declared.scored.End.TheVariants.{Skipped, Kept, Stopped}
use Rattle.ls_select.specs.declared.want.Want.{Want}

-- the ties of a list whose best key is its own, where this is the best of all
abbrev pub ties_at : Option ℤ → Option ℤ → List ℕ → List ℕ
ties_at best own ties = if option_eq int_eq own best then ties else []

abbrev pub joined : Want → Part → Part → Part
joined want earlier later =
    let best = better_of want earlier.best later.best in
    record earlier {
      count = earlier.count + later.count;
      cost = earlier.cost + later.cost;
      best = best;
      ties = ties_at best earlier.best earlier.ties ++ ties_at best later.best later.ties;
      stop = later.stop;
    }

-- a part with one more candidate that is kept, its count and its cost left aside
abbrev pub keeping : Want → ℕ → ℤ → Part → Part
keeping want number key part =
    let own = best_of_key want key in
    let best = better_of want part.best own in
    record part { best = best; ties = ties_at best part.best part.ties ++ ties_at best own (number ∷ []) }

-- a part with one more candidate that ended so, its count and its cost left aside
abbrev pub noted : Want → ℕ → End → Part → Part
noted want number Skipped part = part
noted want number (Kept key) part = keeping want number key part
noted want number (Stopped stop) part = record part { stop = Some (number, stop) }
