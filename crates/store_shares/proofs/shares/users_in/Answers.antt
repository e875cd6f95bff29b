use Rattle.std.proofs.Common.{◌≡◌, ◌∙◌, ◌<◌, ◌^◌, map, sym, ap, subst}
use Rattle.term_model.specs.Definitions.{named_by}
use Rattle.store_shares.proofs.ClosingLaws.{items_are, named_count, users_are}
use Rattle.store_shares.proofs.shares.users_in.Goals as goal

pub users_of-requires : goal.users_of-requires
users_of-requires c =
    let lists : map (λ names. names.items) c.deref-3.result.now ≡ map (named_by c.args.model.now.defs.items) c.in_ok-table.table.items =
    ap (map (λ names. names.items)) c.deref-3.ensures.value ∙ c.in_ok-named.ensures ∙ (λ i. map (named_by (c.deref.ensures.value i)) (c.deref-2.ensures.value i)) in
    record {
      items = items_are c.args.model.now c.requires.formed c.in_ok-table.table.items c.deref-3.result.now c.in_ok-table.ensures.count c.in_ok-table.ensures.each lists;
      few = subst (λ n. n < 2 ^ 32) (sym (named_count c.args.model.now c.requires.formed c.in_ok-table.table.items c.deref-3.result.now c.in_ok-table.ensures.count c.in_ok-table.ensures.each lists)) c.requires.few;
    }

pub returns-clause-count : goal.returns-clause-count
returns-clause-count c =
    let lists : map (λ names. names.items) c.deref-3.result.now ≡ map (named_by c.args.model.now.defs.items) c.in_ok-table.table.items =
    ap (map (λ names. names.items)) c.deref-3.ensures.value ∙ c.in_ok-named.ensures ∙ (λ i. map (named_by (c.deref.ensures.value i)) (c.deref-2.ensures.value i)) in
    let uses = c.in_ok-users.ensures in
    uses.count ∙ named_count c.args.model.now c.requires.formed c.in_ok-table.table.items c.deref-3.result.now c.in_ok-table.ensures.count c.in_ok-table.ensures.each lists

pub returns-clause-users : goal.returns-clause-users
returns-clause-users c =
    let lists : map (λ names. names.items) c.deref-3.result.now ≡ map (named_by c.args.model.now.defs.items) c.in_ok-table.table.items =
    ap (map (λ names. names.items)) c.deref-3.ensures.value ∙ c.in_ok-named.ensures ∙ (λ i. map (named_by (c.deref.ensures.value i)) (c.deref-2.ensures.value i)) in
    users_are c.args.model.now c.requires.formed c.in_ok-table.table.items c.deref-3.result.now c.in_ok-table.ensures.count c.in_ok-table.ensures.each lists c.in_ok-users.users.items c.in_ok-users.ensures
