use Rattle.std.proofs.Common.{◌≡◌, true, Some, OnOk, length, ap, subst, sym, ◌∙◌, of_z, to_z, w64}
use Rattle.std.proofs.lemmas.Int.{to_z-of_z}
use Rattle.cbl_base.specs.Inputs.{number_kind}
use Rattle.posted_users.specs.KeptRule.{kept}
use Rattle.solver_models.specs.Adding.{is_own_member, member_refusal}
use Rattle.solver_models.specs.Totals.{of_system}
use Rattle.solver_models.specs.UserPosting.{AddsUser, user_term}
use Rattle.term_model.specs.Kinds.{kind_of_term, kinds_in}
use Rattle.term_model.specs.Naming.{users_of}
use Rattle.ls_solver.specs.Answers.{AnswersBack}
use Rattle.ls_solver.proofs.UserLaws.{user_kind, user_named}
use Rattle.ls_solver.proofs.user_posting.Solver+KindOf+U.post_user.Goals as goal

pub post_user_member-requires-clause-kind : goal.post_user_member-requires-clause-kind
post_user_member-requires-clause-kind g c own =
    let s = c.args.self.now in
    let number = length s.rules in
    let kinds = kinds_in s.model.vars.items in
    let term : c.user_term-term.result ≡ user_term number c.args.places = c.user_term-term.ensures ∙ ap (λ n. user_term n c.args.places) c.in-Ok.ensures in
    let there : is_own_member s (of_system c.args.s) c.user_term-term.result ≡ true = subst (λ k. is_own_member s k c.user_term-term.result ≡ true) c.of_system.ensures own in
    subst (λ t. kind_of_term kinds t ≡ Some number_kind) (sym term) (user_kind kinds number c.args.places (c.requires.kinds (subst (λ t. is_own_member s (of_system c.args.s) t ≡ true) term there)))

pub post_user_member-requires-clause-users : goal.post_user_member-requires-clause-users
post_user_member-requires-clause-users g c =
    let number = length c.args.self.now.rules in
    let term : c.user_term-term.result ≡ user_term number c.args.places = c.user_term-term.ensures ∙ ap (λ n. user_term n c.args.places) c.in-Ok.ensures in
    ap users_of term ∙ user_named number c.args.places c.requires.users

pub returns-clause-answer : goal.returns-clause-answer
returns-clause-answer g c =
    let s = c.args.self.now in
    let term : c.user_term-term.result ≡ user_term (length s.rules) c.args.places = c.user_term-term.ensures ∙ ap (λ n. user_term n c.args.places) c.in-Ok.ensures in
    subst (λ v. AnswersBack (member_refusal s (of_system c.args.s) (user_term (length s.rules) c.args.places) v) c.post_user_member.result) (to_z-of_z w64 c.args.weight c.ranges.weight)
    (subst (λ t. AnswersBack (member_refusal s (of_system c.args.s) t (to_z w64 (of_z w64 c.args.weight))) c.post_user_member.result) term
    (subst (λ k. AnswersBack (member_refusal s k c.user_term-term.result (to_z w64 (of_z w64 c.args.weight))) c.post_user_member.result) c.of_system.ensures c.post_user_member.ensures.answer))

pub returns-clause-posted : goal.returns-clause-posted
returns-clause-posted g c =
    let s = c.args.self.now in
    let rule = kept (g.U.LocalConstraint.user_rule c.args.user) in
    let term : c.user_term-term.result ≡ user_term (length s.rules) c.args.places = c.user_term-term.ensures ∙ ap (λ n. user_term n c.args.places) c.in-Ok.ensures in
    subst (λ v. OnOk c.post_user_member.result (AddsUser s c.post_user_member.new.self (of_system c.args.s) (record { term = user_term (length s.rules) c.args.places; weight = v }) rule)) (to_z-of_z w64 c.args.weight c.ranges.weight)
    (subst (λ t. OnOk c.post_user_member.result (AddsUser s c.post_user_member.new.self (of_system c.args.s) (record { term = t; weight = to_z w64 (of_z w64 c.args.weight) }) rule)) term
    (subst (λ k. OnOk c.post_user_member.result (AddsUser s c.post_user_member.new.self k (record { term = c.user_term-term.result; weight = to_z w64 (of_z w64 c.args.weight) }) rule)) c.of_system.ensures c.post_user_member.ensures.posted))
