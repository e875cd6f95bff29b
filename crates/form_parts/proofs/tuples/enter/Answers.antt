use Rattle.std.proofs.Common.{◌≡◌, ◌+◌, subst, arith, length, get_or, w64}
use Rattle.run_steps.specs.OpenTuples.{pending_seen}
use Rattle.std.proofs.lemmas.Int.{to_z-of_z}
use Rattle.run_steps.proofs.TupleLaws.{tuple_found, tuple_ends, opening_ends, domain_ends, next_opens, remains_front, entered_push, entering_ends, went_fuel, get_or_again}
use Rattle.comet_meaning.proofs.TupleSteps.{goes_begun}
use Rattle.run_values.specs.declared.stop.Stop.TheVariants.{NoMemory}
use Rattle.comet_meaning.proofs.GoingParts.{goes_value}
use Rattle.comet_meaning.proofs.GoingStatements.{goes_level}
use Rattle.run_steps.proofs.Exits.{act_ends}
use Rattle.form_parts.proofs.tuples.enter.Goals as goal

pub returns-in_err-begin-clause-did : goal.returns-in_err-begin-clause-did
returns-in_err-begin-clause-did g c = let n : c.len-open.result ≡ length c.args.tuples.now.below.items = omega (arith, c.len-open.ensures, c.args.tuples.now.below.ok.0) in λ V p next same m. entering_ends _ _ _ _ _ _ _ _ _ c.from_residual.ensures.1 (tuple_ends c.args.tuples.now.below.items p c.args.value c.index-generators-open.result c.requires.known (subst (λ i. c.index-generators-open.result ≡ get_or c.args.generators.now i c.index-generators-open.result) n c.index-generators-open.is) next m (omega (arith, n, c.if-open-generators.true)) _ _ (goes_level _ _) (act_ends _ _ _ (rw (c.deref.ensures.value, to_z-of_z w64 c.args.value c.ranges.value) at (c.in_err-begin.ensures.did (g.O.Outside.told c.args.out.now))) ((goes_begun _ _).from _).printed))

pub returns-then-open-generators-clause-did : goal.returns-then-open-generators-clause-did
returns-then-open-generators-clause-did g c = let n : c.len-open.result ≡ length c.args.tuples.now.below.items = omega (arith, c.len-open.ensures, c.args.tuples.now.below.ok.0) in λ V p next same m. tuple_found c.args.tuples.now.below.items p c.args.value c.index-generators-open.result c.requires.known (subst (λ i. c.index-generators-open.result ≡ get_or c.args.generators.now i c.index-generators-open.result) n c.index-generators-open.is) next m (omega (arith, n, c.if-open-generators.true)) (pending_seen c.args.tuples.now.top) same (rw (c.deref.ensures.value, to_z-of_z w64 c.args.value c.ranges.value) at (c.in_ok-begin.ensures.did (g.O.Outside.told c.args.out.now)))

pub returns-in_err-begin-2-clause-did : goal.returns-in_err-begin-2-clause-did
returns-in_err-begin-2-clause-did g c = let n : c.len-open.result ≡ length c.args.tuples.now.below.items = omega (arith, c.len-open.ensures, c.args.tuples.now.below.ok.0) in λ V p next same m. entering_ends _ _ _ _ _ _ _ _ _ c.from_residual-in_err-begin-2.ensures.1 (opening_ends c.args.tuples.now.below.items p c.args.value c.index-generators-open.result c.requires.known (subst (λ i. c.index-generators-open.result ≡ get_or c.args.generators.now i c.index-generators-open.result) n c.index-generators-open.is) next m (get_or c.args.generators.now (length c.args.tuples.now.below.items + 1) c.index-generators-open.result) (omega (arith, n, c.if-open-generators.false, c.requires.known)) (get_or_again c.args.generators.now (length c.args.tuples.now.below.items + 1) c.index-generators-open.result (omega (arith, n, c.if-open-generators.false, c.requires.known))) _ _ (goes_level _ _) (act_ends _ _ _ (rw (c.deref-2.ensures.value, to_z-of_z w64 c.args.value c.ranges.value) at (c.in_err-begin-2.ensures.did (g.O.Outside.told c.args.out.now))) ((goes_begun _ _).from _).printed))

pub returns-in_err-domain-clause-did : goal.returns-in_err-domain-clause-did
returns-in_err-domain-clause-did g c = let n : c.len-open.result ≡ length c.args.tuples.now.below.items = omega (arith, c.len-open.ensures, c.args.tuples.now.below.ok.0) in λ V p next same m. entering_ends _ _ _ _ _ _ _ _ _ c.from_residual-in_err-domain.ensures.1 (domain_ends c.args.tuples.now.below.items p c.args.value c.index-generators-open.result c.requires.known (subst (λ i. c.index-generators-open.result ≡ get_or c.args.generators.now i c.index-generators-open.result) n c.index-generators-open.is) next m c.index-generators-open-2.result (omega (arith, n, c.if-open-generators.false, c.requires.known)) (subst (λ i. c.index-generators-open-2.result ≡ get_or c.args.generators.now (i + 1) c.index-generators-open-2.result) n c.index-generators-open-2.is) _ _ (goes_level _ _) (rw (c.deref-2.ensures.value, to_z-of_z w64 c.args.value c.ranges.value) at (c.in_ok-begin-2.ensures.did (g.O.Outside.told c.args.out.now))) c.in_err-domain.ensures.did)

pub returns-in_err-push-clause-did : goal.returns-in_err-push-clause-did
returns-in_err-push-clause-did g c = let n : c.len-open.result ≡ length c.args.tuples.now.below.items = omega (arith, c.len-open.ensures, c.args.tuples.now.below.ok.0) in λ V p next same m. entering_ends _ _ _ _ _ _ _ _ NoMemory c.from_residual-in_err-push.ensures.1 (remains_front (goes_level _ _) (next_opens c.args.tuples.now.below.items p c.args.value c.index-generators-open.result c.requires.known (subst (λ i. c.index-generators-open.result ≡ get_or c.args.generators.now i c.index-generators-open.result) n c.index-generators-open.is) next m c.index-generators-open-2.result (omega (arith, n, c.if-open-generators.false, c.requires.known)) (subst (λ i. c.index-generators-open-2.result ≡ get_or c.args.generators.now (i + 1) c.index-generators-open-2.result) n c.index-generators-open-2.is) (pending_seen c.args.tuples.now.top) same (rw (c.deref-2.ensures.value, to_z-of_z w64 c.args.value c.ranges.value) at (c.in_ok-begin-2.ensures.did (g.O.Outside.told c.args.out.now))) c.in_ok-domain.ensures.did)).printed

pub returns-clause-did : goal.returns-clause-did
returns-clause-did g c = let n : c.len-open.result ≡ length c.args.tuples.now.below.items = omega (arith, c.len-open.ensures, c.args.tuples.now.below.ok.0) in λ V p next same m. entered_push _ _ _ _ c.in_ok-push.ensures.items (rw (c.replace-rest.ensures.after, c.replace-rest.ensures.value, c.pending_of.ensures, to_z-of_z w64 c.args.value c.ranges.value) (next_opens c.args.tuples.now.below.items p c.args.value c.index-generators-open.result c.requires.known (subst (λ i. c.index-generators-open.result ≡ get_or c.args.generators.now i c.index-generators-open.result) n c.index-generators-open.is) next m c.index-generators-open-2.result (omega (arith, n, c.if-open-generators.false, c.requires.known)) (subst (λ i. c.index-generators-open-2.result ≡ get_or c.args.generators.now (i + 1) c.index-generators-open-2.result) n c.index-generators-open-2.is) (pending_seen c.args.tuples.now.top) same (rw (c.deref-2.ensures.value, to_z-of_z w64 c.args.value c.ranges.value) at (c.in_ok-begin-2.ensures.did (g.O.Outside.told c.args.out.now))) c.in_ok-domain.ensures.did))

pub returns-clause-falls : goal.returns-clause-falls
returns-clause-falls g c = omega (arith, went_fuel _ (goes_value _ (goes_level _ _) _) c.in_ok-domain.ensures.did, c.in_ok-begin-2.ensures.falls)
