-- Functions and programs go where they are typed, and are typed where they go.
use Rattle.std.specs.Prelude.{◌≡◌, refl, ℕ, zero, suc, Bool, true, false, List, [], ◌∷◌, ◌++◌, map, length, None, if◌then◌else◌}
use Rattle.std.proofs.Common.{sym, ap, subst, ◌∙◌}
use Rattle.comet_syntax.specs.declared.tree.statements.Block.{Block}
use Rattle.comet_syntax.specs.declared.tree.program.Parameter.{Parameter}
use Rattle.comet_syntax.specs.declared.tree.program.Function.{Function}
use Rattle.comet_syntax.specs.declared.tree.program.Program.{Program}
use Rattle.comet_syntax.specs.declared.tree.program.TopPart.{TopPart}
use Rattle.comet_syntax.specs.declared.tree.program.TopPart.TheVariants as parts
use Rattle.checked_tree.specs.declared.kind.Kind.{Kind}
use Rattle.checked_tree.specs.declared.kind.Kind.TheVariants as kind
use Rattle.checked_tree.specs.Tasks.{Work, Coded, Whole}
use Rattle.type_scopes.specs.declared.scope.Scope.{Scope}
use Rattle.type_scopes.specs.Functions.{nothing_known, learn, begin, is_settled, settle}
use Rattle.type_scopes.specs.Names.{is_new, opened, closed, declare, declare_with}
use Rattle.type_scopes.specs.State.{State, Outcome, Went, Refused, Check, give, ◌>>=◌, then_do, each}
use Rattle.type_rules.specs.Classes.{parameter_kind, parameter_is_ls}
use Rattle.type_declarations.specs.Parts.{ruled}
use Rattle.type_statements.specs.Statements.{block_of, within_own, statement_of}
use Rattle.comet_types.specs.Functions.{top, parameter_fault, parameter_form, next_parameter, turn_form, settled_form, function_within, signature_of, new_fault, named_form, opened_form, function_form}
use Rattle.comet_types.specs.Program.{part_form, next_part, program_form, accepted, verdict_of, judged}
use Rattle.typing.specs.Rules.{having_closed}
use Rattle.typing.specs.Declarations.{having_declared_as}
use Rattle.typing.specs.Programs as rules
use Rattle.typing.specs.Programs.{ParametersAreTyped, TurnIsTyped, BodyIsTyped, FunctionIsTyped, PartIsTyped, PartsAreTyped, ProgramIsTyped, having_settled, having_learnt}
use Rattle.typing.proofs.Went.{Goes, between, goes_on}
use Rattle.typing.proofs.Declared.{as_went, gives, passed, passes}
use Rattle.typing.proofs.StatementsGo.{own_goes, statement_goes, block_goes}
use Rattle.typing.proofs.StatementsTyped.{own_typed, statement_complete, block_complete}

parameter_goes : (p : Parameter) (scope : Scope) (s : State) → parameter_fault (is_new p.name.text scope.block s.names) (parameter_is_ls p.kind) ≡ None → Goes (parameter_form p scope) s (parameter_kind p.kind) (having_declared_as p.name.text (parameter_kind p.kind) [] s)
unfolding parameter_form
parameter_goes p scope s r = record { is = ap (λ o. then_do (ruled p.place o s) (λ _. declare p.name.text (parameter_kind p.kind) >>= λ _. give (parameter_kind p.kind))) r }

parameters_go : (scope : Scope) (ks : List Kind) (s : State) (ps : List Parameter) (all : List Kind) (t : State) → ParametersAreTyped scope ks s ps all t → Goes (each (next_parameter scope) (map parameter_form ps) ks) s all t
unfolding next_parameter
parameters_go scope ks s ps all t rules.no_parameters = gives
parameters_go scope ks s ps all t (rules.a_parameter {p} r k) = goes_on (next_parameter scope ks (parameter_form p)) _ (goes_on (parameter_form p scope) (λ k. give (ks ++ k ∷ [])) (parameter_goes p scope s r) gives) (parameters_go _ _ _ _ _ _ k)

parameters_typed : (scope : Scope) (ps : List Parameter) (ks : List Kind) (s : State) (all : List Kind) (t : State) → Goes (each (next_parameter scope) (map parameter_form ps) ks) s all t → ParametersAreTyped scope ks s ps all t
unfolding next_parameter parameter_form
parameters_typed scope [] ks s all t h = as_went (λ y u. ParametersAreTyped scope ks s [] y u) h.is rules.no_parameters
parameters_typed scope (p ∷ ps) ks s all t h =
    let a = between (next_parameter scope ks (parameter_form p)) (each (next_parameter scope) (map parameter_form ps)) s all t h in
    let b = between (parameter_form p scope) (λ k. give (ks ++ k ∷ [])) s a.made a.known a.first in
    let r = passed p.place (λ u. parameter_fault (is_new p.name.text scope.block u.names) (parameter_is_ls p.kind)) (λ _. declare p.name.text (parameter_kind p.kind) >>= λ _. give (parameter_kind p.kind)) s b.made b.known (record { is = b.first.is }) in
    rules.a_parameter r.0 (as_went (λ (k : Kind) (u : State). ParametersAreTyped scope (ks ++ k ∷ []) u ps all t) (sym r.1.is)
    (as_went (λ y u. ParametersAreTyped scope y u ps all t) (sym b.next.is) (parameters_typed scope ps a.made a.known all t a.next)))

turn_goes : (n : ℕ) (scope : Scope) (s : State) (b : Block) (w : Work) (t : State) → TurnIsTyped n scope s b w t → Goes (turn_form n (block_of b) scope) s w t
unfolding turn_form
turn_goes n scope s b w t (rules.a_turn {t = u} h) = record { is = (own_goes (block_of b) scope _ w u (block_goes h)).is }

turn_typed : (n : ℕ) (scope : Scope) (s : State) (b : Block) (w : Work) (t : State) → Goes (turn_form n (block_of b) scope) s w t → TurnIsTyped n scope s b w t
unfolding turn_form
turn_typed n scope s b w t h =
    let a = between (begin n) (λ _. within_own (block_of b) scope) s w t h in
    let o = own_typed (block_of b) scope _ w t (record { is = h.is }) in
    as_went (λ y u. TurnIsTyped n scope s b y u) o.same (rules.a_turn (block_complete b _ _ _ _ o.inside))

body_goes : (f n : ℕ) (scope : Scope) (b : Block) (turns : ℕ) (s : State) (w : Work) (t : State) → BodyIsTyped f n scope b turns s w t → Goes (settled_form turns f n (block_of b) scope) s w t
unfolding settled_form
body_goes f n scope b turns s w t (rules.the_last_turn h) = turn_goes n scope s b w t h
body_goes f n scope b turns s w t (rules.effects_stay {turns = m} h is) = goes_on (turn_form n (block_of b) scope) _ (turn_goes n scope s b w t h)
    (record { is = ap (λ (c : Bool). (if c then Went w t else (settle f >>= λ _. settled_form m f n (block_of b) scope) t)) is })
body_goes f n scope b turns s w t (rules.effects_grow {turns = m} {u} {v} h is k) = goes_on (turn_form n (block_of b) scope) _ (turn_goes n scope s b v u h)
    (record { is = ap (λ (c : Bool). (if c then Went v u else (settle f >>= λ _. settled_form m f n (block_of b) scope) u)) is ∙ (body_goes f n scope b m (having_settled f u) w t k).is })

body_at : (f n : ℕ) (scope : Scope) (b : Block) (m : ℕ) (s u : State) (v w : Work) (t : State) (c : Bool) → TurnIsTyped n scope s b v u → is_settled f u ≡ c
    → ((x : State) (y : Work) (z : State) → Goes (settled_form m f n (block_of b) scope) x y z → BodyIsTyped f n scope b m x y z)
    → (if c then Went v u else (settle f >>= λ _. settled_form m f n (block_of b) scope) u) ≡ Went w t → BodyIsTyped f n scope b (suc m) s w t
body_at f n scope b m s u v w t true k is later h = as_went (λ y z. BodyIsTyped f n scope b (suc m) s y z) h (rules.effects_stay k is)
body_at f n scope b m s u v w t false k is later h = rules.effects_grow k is (later (having_settled f u) w t (record { is = h }))

body_typed : (f n : ℕ) (scope : Scope) (b : Block) (turns : ℕ) (s : State) (w : Work) (t : State) → Goes (settled_form turns f n (block_of b) scope) s w t → BodyIsTyped f n scope b turns s w t
unfolding settled_form
body_typed f n scope b zero s w t h = rules.the_last_turn (turn_typed n scope s b w t h)
body_typed f n scope b (suc m) s w t h =
    let p = between (turn_form n (block_of b) scope) (λ w. λ s. if is_settled f s then Went w s else (settle f >>= λ _. settled_form m f n (block_of b) scope) s) s w t h in
    body_at f n scope b m s p.known p.made w t (is_settled f p.known) (turn_typed n scope s b p.made p.known p.first) refl (λ x y z g. body_typed f n scope b m x y z g) p.next.is

abbrev learning : Function → ℕ → Unit {0} → Check ℕ
learning f number _ = declare_with f.name.text kind.Function number [] >>= λ _. learn (signature_of f) >>= λ _. give number

named_goes : (f : Function) (s : State) → new_fault (is_new f.name.text 0 s.names) ≡ None → Goes (named_form f) s (length s.signatures) (having_learnt f s)
unfolding named_form
named_goes f s r = record { is = (passes f.place (λ u. new_fault (is_new f.name.text 0 u.names)) (learning f (length s.signatures)) s (length s.signatures) (having_learnt f s) r (record { is = refl })).is }

function_goes : (s : State) (f : Function) (x : Coded) (t : State) → FunctionIsTyped s f x t → Goes (function_form f) s x t
unfolding function_form opened_form function_within
function_goes s f x t (rules.a_function {u} {t = v} {ks} {w} r h k) = goes_on (named_form f) _ (named_goes f s r)
    (record { is = (goes_on (function_within f (length s.signatures) (opened top (length (having_learnt f s).names))) (closed (length (having_learnt f s).names)) (goes_on _ _ (parameters_go _ _ _ _ _ _ h) (goes_on _ _ (body_goes _ _ _ f.body _ _ _ _ k) gives)) (record { is = refl })).is })

function_typed : (s : State) (f : Function) (x : Coded) (t : State) → Goes (function_form f) s x t → FunctionIsTyped s f x t
unfolding function_form opened_form function_within named_form
function_typed s f x t h =
    let p = between (named_form f) (λ number. opened_form f number) s x t h in
    let r = passed f.place (λ u. new_fault (is_new f.name.text 0 u.names)) (learning f (length s.signatures)) s p.made p.known (record { is = p.first.is }) in
    let g = as_went (λ (i : ℕ) (u : State). Goes (opened_form f i) u x t) (sym r.1.is) p.next in
    let q = between (function_within f (length s.signatures) (opened top (length (having_learnt f s).names))) (closed (length (having_learnt f s).names)) (having_learnt f s) x t (record { is = g.is }) in
    let a = between _ _ (having_learnt f s) q.made q.known q.first in
    let b = between _ _ a.known q.made q.known a.next in
    as_went (λ y u. FunctionIsTyped s f y u) q.next.is (as_went (λ y u. FunctionIsTyped s f y (having_closed (length (having_learnt f s).names) u)) b.next.is
    (rules.a_function r.0 (parameters_typed _ _ _ _ _ _ a.first) (body_typed _ _ _ f.body _ _ _ _ b.first)))

part_goes : (p : Whole) (s : State) (x : TopPart) (q : Whole) (t : State) → PartIsTyped p s x q t → Goes (part_form x p) s q t
unfolding part_form
part_goes p s x q t rules.an_import = gives
part_goes p s x q t rules.an_include = gives
part_goes p s x q t (rules.a_function_part h) = goes_on _ _ (function_goes _ _ _ _ h) gives
part_goes p s x q t (rules.a_statement_part h) = goes_on _ _ (statement_goes h) gives

part_typed : (p : Whole) (s : State) (x : TopPart) (q : Whole) (t : State) → Goes (part_form x p) s q t → PartIsTyped p s x q t
unfolding part_form
part_typed p s (parts.Import n) q t h = as_went (λ y u. PartIsTyped p s (parts.Import n) y u) h.is rules.an_import
part_typed p s (parts.Include n) q t h = as_went (λ y u. PartIsTyped p s (parts.Include n) y u) h.is rules.an_include
part_typed p s (parts.Function f) q t h =
    let a = between (function_form f.value) (λ x. give (record p { functions = p.functions ++ x ∷ [] })) s q t h in
    as_went (λ y u. PartIsTyped p s (parts.Function f) y u) a.next.is (rules.a_function_part (function_typed _ _ _ _ a.first))
part_typed p s (parts.Statement st) q t h =
    let a = between (statement_of st top) (λ x. give (record p { tasks = p.tasks ++ x ∷ [] })) s q t h in
    as_went (λ y u. PartIsTyped p s (parts.Statement st) y u) a.next.is (rules.a_statement_part (statement_complete st _ _ _ _ a.first))

parts_go : (p : Whole) (s : State) (xs : List TopPart) (q : Whole) (t : State) → PartsAreTyped p s xs q t → Goes (each next_part (map part_form xs) p) s q t
parts_go p s xs q t rules.no_parts = gives
parts_go p s xs q t (rules.a_part h k) = goes_on _ _ (part_goes _ _ _ _ _ h) (parts_go _ _ _ _ _ k)

parts_typed : (xs : List TopPart) (p : Whole) (s : State) (q : Whole) (t : State) → Goes (each next_part (map part_form xs) p) s q t → PartsAreTyped p s xs q t
parts_typed [] p s q t h = as_went (λ y u. PartsAreTyped p s [] y u) h.is rules.no_parts
parts_typed (x ∷ xs) p s q t h =
    let a = between (part_form x p) (each next_part (map part_form xs)) s q t h in
    rules.a_part (part_typed p s x a.made a.known a.first) (parts_typed xs a.made a.known q t a.next)

pub program_goes : (p : Program) (w : Whole) → ProgramIsTyped p w → judged p ≡ accepted w
program_goes p w (rules.a_program h) = ap verdict_of (parts_go _ _ _ _ _ h).is

program_at : (p : Program) (w : Whole) (o : Outcome Whole) → program_form p nothing_known ≡ o → verdict_of o ≡ accepted w → ProgramIsTyped p w
program_at p w (Refused place c) is h = absurd (cc)
program_at p w (Went x t) is h = let same : x ≡ w = cc in subst (λ y. ProgramIsTyped p y) same (rules.a_program (parts_typed _ _ _ _ _ (record { is = is })))

pub program_typed : (p : Program) (w : Whole) → judged p ≡ accepted w → ProgramIsTyped p w
program_typed p w h = program_at p w (program_form p nothing_known) refl h
