use Rattle.std.proofs.Common.{rules, ◌≡◌, ◌≤◌, ◌<◌, None, get_or, length, refl, subst}
use Rattle.std.specs.Prelude.{slice_set}
use Rattle.model_values.specs.AllParts.{all_seen}
use Rattle.model_values.specs.Fresh.{whole_by}
use Rattle.model_values.specs.Outcomes.{env_of}
use Rattle.term_model.specs.Users.{user_rules}
use Rattle.model_values.specs.Wholes.{add_posted, seen}
use Rattle.model_values.specs.declared.wholes.PartsHeld.{PartsHeld}
use Rattle.model_values.proofs.AllPartsLaws.{parts_same, held_beyond, held_moved}
use Rattle.model_values.proofs.all_parts.add_to_parts.Goals as goal

pub returns-in_default-clause-parts : goal.returns-in_default-clause-parts
returns-in_default-clause-parts g c so_far =
    let setting = c.args.setting.now in
    let users = user_rules (g.U.UserValues.viol_of setting.users.now) (g.U.UserValues.viol_at setting.users.now) in
    let none : c.posting_of.result ≡ None = search rules in
    parts_same users (env_of setting.cells.now) setting.model.now c.args.side so_far c.args.posted c.posting_of.result c.posting_of.ensures.number (all_seen c.args.parts.now.items) none

pub returns-then-number-len-clause-parts : goal.returns-then-number-len-clause-parts
returns-then-number-len-clause-parts g c =
    let setting = c.args.setting.now in
    let users = user_rules (g.U.UserValues.viol_of setting.users.now) (g.U.UserValues.viol_at setting.users.now) in
    let beyond : length c.args.parts.now.items ≤ c.in-Some.posting.total = search rules in
    held_beyond users (env_of setting.cells.now) setting.model.now c.args.side c.args.posted c.posting_of.result c.in-Some.posting c.args.parts.now.items c.posting_of.ensures.number c.in-Some.is beyond

pub returns-clause-parts : goal.returns-clause-parts
returns-clause-parts g c =
    let setting = c.args.setting.now in
    let users = user_rules (g.U.UserValues.viol_of setting.users.now) (g.U.UserValues.viol_at setting.users.now) in
    let env = env_of setting.cells.now in
    let old = c.args.parts.now.items in
    let number = c.in-Some.posting.total in
    let held : PartsHeld = c.replace-held.result in
    let between = slice_set old number c.replace-held.new.dest in
    let lt : number < length old = search rules in
    let there : held ≡ get_or old number held = search rules in
    let moves : seen c.in_ok-parts.field-0 ≡ add_posted users env setting.model.now (whole_by c.args.side number) (seen held) c.args.posted =
    subst (λ w. seen c.in_ok-parts.field-0 ≡ add_posted users env setting.model.now w (seen held) c.args.posted) c.whole_by-whole.ensures c.in_ok-parts.ensures.parts in
    held_moved users env setting.model.now c.args.side c.args.posted c.posting_of.result c.in-Some.posting old between (slice_set between number c.in_ok-parts.field-0) held c.replace-held.new.dest c.in_ok-parts.field-0
    c.posting_of.ensures.number c.in-Some.is lt there refl refl moves
