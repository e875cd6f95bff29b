use Rattle.std.proofs.Common.{rules, ◌≡◌, ℕ, ◌<◌, List, Vec, Some, length, sym, ap, ◌∙◌, subst}
use Rattle.std.specs.declared.alloc.Global.{Global}
use Rattle.cbl_base.specs.Inputs.{number_kind, kind_of}
use Rattle.cbl_base.specs.declared.ids.NodeId.{NodeId}
use Rattle.store_turns.specs.declared.frame.Frame.{Frame}
use Rattle.store_turns.specs.Cones.{IsCone, cone_in}
use Rattle.store_turns.specs.Meaning.{ids_of, uses_in}
use Rattle.store_build.specs.Lists.{list_in}
use Rattle.inc_store.specs.Views.{graph_in, value_at, count_of, inputs_at}
use Rattle.trial.specs.Parts.{TellsApart}
use Rattle.trial.proofs.PartCones.{found_is}
use Rattle.trial.proofs.trial_calls.Trial.difference.Goals as goal

pub told-requires-clause-cone : goal.told-requires-clause-cone
told-requires-clause-cone g c =
    let s = c.args.store.now in
    let e : cone_in s.frame.cones.items c.args.target.0 ≡ Some c.in-Some.cone.now = search rules in
    (found_is (IsCone (inputs_at s) (count_of s)) c.args.target.0 s.frame.cones.items c.in-Some.cone.now c.requires.usable.2.framed.cones e).0

pub told-requires-clause-target : goal.told-requires-clause-target
told-requires-clause-target g c =
    let s = c.args.store.now in
    let e : cone_in s.frame.cones.items c.args.target.0 ≡ Some c.in-Some.cone.now = search rules in
    let known = found_is (IsCone (inputs_at s) (count_of s)) c.args.target.0 s.frame.cones.items c.in-Some.cone.now c.requires.usable.2.framed.cones e in
    subst (λ (t : ℕ). t < count_of s) (sym known.1) c.requires.target

pub told-requires-clause-number : goal.told-requires-clause-number
told-requires-clause-number g c =
    let s = c.args.store.now in
    let e : cone_in s.frame.cones.items c.args.target.0 ≡ Some c.in-Some.cone.now = search rules in
    let known = found_is (IsCone (inputs_at s) (count_of s)) c.args.target.0 s.frame.cones.items c.in-Some.cone.now c.requires.usable.2.framed.cones e in
    subst (λ (t : ℕ). kind_of (value_at s t) ≡ number_kind) (sym known.1) c.requires.number

pub returns-in-Some : goal.returns-in-Some
returns-in-Some g c =
    let s = c.args.store.now in
    let e : cone_in s.frame.cones.items c.args.target.0 ≡ Some c.in-Some.cone.now = search rules in
    let known = found_is (IsCone (inputs_at s) (count_of s)) c.args.target.0 s.frame.cones.items c.in-Some.cone.now c.requires.usable.2.framed.cones e in
    subst (λ (t : ℕ). TellsApart (graph_in g.N.NodeRule.rule s) (uses_in s.frame) (value_at s) c.args.moves.now t c.told.result c.args.steps.now c.told.new.steps) known.1 c.told.ensures.told

pub told-requires-2-clause-cone : goal.told-requires-2-clause-cone
told-requires-2-clause-cone g c =
    let s = c.args.store.now in
    let same = c.deref.ensures.value ∙ ap (λ (f : Frame). f.inputs.items) c.frame-frame.ensures in
    subst (λ (v : List (Vec NodeId Global)). IsCone (λ id. ids_of (list_in v id)) (length v) c.find_cone.new.cone) same c.in_ok-find_cone.ensures.cone

pub returns : goal.returns
returns g c =
    let s = c.args.store.now in
    subst (λ (t : ℕ). TellsApart (graph_in g.N.NodeRule.rule s) (uses_in s.frame) (value_at s) c.args.moves.now t c.told-2.result c.args.steps.now c.told-2.new.steps) c.in_ok-find_cone.ensures.target c.told-2.ensures.told
