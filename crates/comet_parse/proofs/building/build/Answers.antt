use Rattle.std.proofs.Common.{rules, arith, ◌++◌, ◌∷◌, [], ◌≡◌, reverse, ◌∙◌, ap}
use Rattle.std.proofs.lemmas.List.{length-reverse}
use Rattle.comet_syntax.specs.Written.Programs.{all_tops}
use Rattle.parse_machine.specs.declared.event.Event.TheVariants as events
use Rattle.parse_stacks.specs.Values.{state}
use Rattle.comet_parse.proofs.Steps.{begun, ready_chose, done_chose, some_read, done_read, some_program, built}
use Rattle.comet_parse.proofs.building.build.Goals as goal

pub loop-event-init : goal.loop-event-init
loop-event-init c = begun c.args.log.items c.args.tokens.now (state c.new-stacks.result) c.requires.all_read c.requires.run

pub undo-requires : goal.undo-requires
undo-requires c =
    let e : c.loop-event.log.items ≡ c.pop.new.self.items ++ (events.Chose c.in-Chose.form ∷ []) = search rules in
    ready_chose _ c.args.tokens.now _ c.loop-event.log.items c.pop.new.self.items c.in-Chose.form _ c.requires.run e c.loop-event.invariant

pub loop-event-preserved-in-Continue-1 : goal.loop-event-preserved-in-Continue-1
loop-event-preserved-in-Continue-1 c =
    let e : c.loop-event.log.items ≡ c.pop.new.self.items ++ (events.Chose c.in-Chose.form ∷ []) = search rules in
    done_chose _ c.args.tokens.now _ c.loop-event.log.items c.pop.new.self.items c.in-Chose.form _ _ c.requires.run e c.loop-event.invariant c.in_ok-undo-in-Chose.ensures

pub unwrap-requires : goal.unwrap-requires
unwrap-requires c =
    let e : c.loop-event.log.items ≡ c.pop.new.self.items ++ (events.Read c.in-Read.keeps_place ∷ []) = search rules in
    let h = some_read _ _ c.loop-event.log.items c.pop.new.self.items c.in-Read.keeps_place _ e c.loop-event.invariant in
    c.split_last.ensures.variant.1 h

pub loop-event-preserved : goal.loop-event-preserved
loop-event-preserved c =
    let e : c.loop-event.log.items ≡ c.pop.new.self.items ++ (events.Read c.in-Read.keeps_place ∷ []) = search rules in
    let d : c.loop-event.rest.now ≡ c.unwrap.result.1.now ++ (c.unwrap.result.0.now ∷ []) = search rules in
    done_read _ c.args.tokens.now _ c.unwrap.result.1.now c.loop-event.log.items c.pop.new.self.items c.in-Read.keeps_place c.unwrap.result.0.now _ _ c.requires.run e d c.loop-event.invariant c.in_ok-keep-in-Read.ensures

pub take-parts-requires : goal.take-parts-requires
take-parts-requires c =
    let e : c.loop-event.log.items ≡ [] = search rules in
    let h = some_program _ _ c.loop-event.log.items (state c.loop-event.stacks) e c.loop-event.invariant in
    let n = length-reverse c.loop-event.stacks.programs.items in
    omega (arith, h, n)

pub returns : goal.returns
returns c =
    let e : c.loop-event.log.items ≡ [] = search rules in
    let r : c.reverse.new.self.items ≡ reverse c.take-parts.result.items = search rules in
    ap (λ z. all_tops z []) r ∙ built _ _ c.loop-event.log.items (state c.loop-event.stacks) c.take-parts.result _ e c.loop-event.invariant c.take-parts.ensures
