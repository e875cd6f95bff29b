use Rattle.std.proofs.Common.{rules, ◌≡◌, ◌<◌, ◌++◌, [], ◌∷◌, Contains, false, length, replicate, sym, subst}
use Rattle.std.proofs.lemmas.List.Elements.{Contains-push}
use Rattle.model_values.specs.Reach.{Spreads}
use Rattle.term_model.specs.Definitions.{definition_of, named_by}
use Rattle.model_values.proofs.ReachLaws.{reach_start, reach_more}
use Rattle.model_values.proofs.VarLaws.{names_of_var, lists_within}
use Rattle.model_values.proofs.reach.reached.Goals as goal

pub loop-var-init : goal.loop-var-init
loop-var-init g c =
    let M = c.args.tables.now.model.now in
    let roots = c.args.roots.now in
    let marks = c.in_ok-marks.marks.items in
    let stack = c.new-stack.result.items in
    let marks' = c.enter_all.new.marks.items in
    let stack' = c.enter_all.new.stack.items in
    let none : marks ≡ replicate (length M.vars.items) false = search rules in
    let empty : stack ≡ [] = search rules in
    let spread : Spreads roots marks stack marks' stack' = search rules in
    reach_start M c.requires.well_formed c.requires.acyclic roots c.requires.roots marks marks' stack stack' none empty spread

pub index-requires : goal.index-requires
index-requires g c =
    let tables = c.args.tables.now in
    let M = tables.model.now in
    let var = c.in-Some.var in
    let popped : c.loop-var.stack.items ≡ c.pop.new.self.items ++ var ∷ [] = c.in-Some.ensures.items in
    let there : Contains c.loop-var.stack.items var = subst (λ s. Contains s var) (sym popped) (Contains-push c.pop.new.self.items var) in
    let lt : var < length M.vars.items = c.loop-var.invariant.within var there in
    let held : var < length tables.named.items = lists_within M tables.definitions.items tables.named.items c.requires.tables var lt in
    search (rules, held)

pub loop-var-preserved : goal.loop-var-preserved
loop-var-preserved g c =
    let tables = c.args.tables.now in
    let M = tables.model.now in
    let var = c.in-Some.var in
    let marks = c.loop-var.marks.items in
    let marks' = c.enter_all-in-Some.new.marks.items in
    let stack = c.pop.new.self.items in
    let stack' = c.enter_all-in-Some.new.stack.items in
    let popped : c.loop-var.stack.items ≡ stack ++ var ∷ [] = c.in-Some.ensures.items in
    let there : Contains c.loop-var.stack.items var = subst (λ s. Contains s var) (sym popped) (Contains-push stack var) in
    let lt : var < length M.vars.items = c.loop-var.invariant.within var there in
    let names : c.deref.result.now ≡ named_by M.defs.items (definition_of M var) = search (rules, names_of_var, lt) in
    let spread : Spreads (named_by M.defs.items (definition_of M var)) marks stack marks' stack' = subst (λ ns. Spreads ns marks stack marks' stack') names c.in_ok-enter_all-2.ensures in
    reach_more M c.requires.well_formed c.requires.acyclic c.args.roots.now c.requires.roots var marks marks' c.loop-var.stack.items stack stack' popped c.loop-var.invariant spread
