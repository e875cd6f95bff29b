-- Each form that goes is typed where its parts are.
use Rattle.std.specs.Prelude.{◌≡◌, refl, ℕ, ℤ, Bool, true, false, List, [], ◌∷◌, ◌++◌, map, length, Ok, Err, Option, None, Some, option_map, if◌then◌else◌}
use Rattle.std.proofs.Common.{sym, ap, subst, ◌∙◌}
use Rattle.std.specs.declared.boxed.Box.{Box}
use Rattle.std.specs.declared.alloc.Global.{Global}
use Rattle.std.specs.declared.vec.Vec.{Vec}
use Rattle.cbl_base.specs.declared.place.Place.{Place}
use Rattle.comet_syntax.specs.declared.tree.expressions.Name.{Name}
use Rattle.comet_syntax.specs.declared.tree.expressions.Comparison.{Comparison}
use Rattle.comet_syntax.specs.declared.tree.expressions.UnaryOperator.{UnaryOperator}
use Rattle.comet_syntax.specs.declared.tree.expressions.Extreme.{Extreme}
use Rattle.comet_syntax.specs.declared.tree.expressions.Aggregate.{Aggregate}
use Rattle.comet_syntax.specs.declared.tree.expressions.Argument.{Argument}
use Rattle.comet_syntax.specs.declared.tree.expressions.Argument.TheVariants as arguments
use Rattle.comet_syntax.specs.declared.tree.expressions.Expression.{Expression}
use Rattle.comet_syntax.specs.declared.tree.expressions.Expression.TheVariants as trees
use Rattle.comet_syntax.specs.declared.tree.expressions.Suffix.{Suffix}
use Rattle.comet_syntax.specs.declared.tree.expressions.Suffix.TheVariants as suffixes
use Rattle.comet_syntax.specs.declared.tree.expressions.Generator.{Generator}
use Rattle.comet_syntax.specs.declared.tree.expressions.Generators.{Generators}
use Rattle.comet_syntax.specs.declared.tree.expressions.Link.{Link}
use Rattle.checked_tree.specs.declared.expressions.Slot.{Slot}
use Rattle.checked_tree.specs.Shape as shapes
use Rattle.checked_tree.specs.Shape.{Shape, Seen, whole, wholes, rows, optional, quoted}
use Rattle.type_rules.specs.declared.context.Context.{Context}
use Rattle.type_rules.specs.Rules.{Ruling, made_pure, chain_rule, generator_rule}
use Rattle.type_scopes.specs.declared.names.Found.{Found}
use Rattle.type_scopes.specs.declared.scope.Scope.{Scope}
use Rattle.type_scopes.specs.Names.{look, is_new, slot_of, opened, within, named_in_term, closed}
use Rattle.type_scopes.specs.State.{State, Went, give, ◌>>=◌, then_do, each}
use Rattle.type_calls.specs.Arguments.{made, note_of}
use Rattle.type_expressions.specs.Expressions as forms
use Rattle.type_expressions.specs.Expressions.{Judge, Suffixed, Linked, Front, Generated, Generating, judge, judge_argument, judge_suffix, judge_generator, judge_link, linked, generator_made, name_rule, body_context}
use Rattle.type_expressions.proofs.Judged.{link_is, generator_is}
use Rattle.typing.specs.Calls.{ruled}
use Rattle.typing.specs.Rules as rules
use Rattle.typing.specs.Rules.{IsTyped, LinksAreTyped, ArgumentIsTyped, ArgumentsAreTyped, SuffixIsTyped, SuffixesAreTyped, GeneratorsAreTyped, ConditionIsTyped, having_named, having_declared, having_closed, generators_in, condition_in}
use Rattle.typing.proofs.Went.{Goes, between, goes_as, by_rule, went_value, went_state}
use Rattle.typing.proofs.Trees as judged
use Rattle.typing.proofs.Called.{called_typed, method_typed}

-- what goes is typed

abbrev pub OfExpression : Expression → Type 0
OfExpression e = (scope : Scope) (s : State) (x : Seen) (t : State) → Goes (judge e scope) s x t → IsTyped scope s e x t

abbrev pub OfArgument : Argument → Type 0
OfArgument a = (scope : Scope) (s : State) (x : Seen) (t : State) → Goes (judge_argument a scope) s x t → ArgumentIsTyped scope s a x t

abbrev pub OfSuffix : Suffix → Type 0
OfSuffix f = (front : Seen) (scope : Scope) (s : State) (x : Seen) (t : State) → Goes (judge_suffix f front scope) s x t → SuffixIsTyped scope front s f x t

abbrev pub OfArguments : List Argument → Type 0
OfArguments args = (first : Context) (scope : Scope) (es : List Seen) (s : State) (all : List Seen) (t : State) → Goes (each (forms.argument_form first scope) (map judge_argument args) es) s all t → ArgumentsAreTyped first scope es s args all t

abbrev pub OfLinks : List Link → Type 0
OfLinks ls = (scope : Scope) (front : Front) (s : State) (all : Front) (t : State) → Goes (each (forms.link_form scope) (map judge_link ls) front) s all t → LinksAreTyped scope front s ls all t

abbrev pub OfSuffixes : List Suffix → Type 0
OfSuffixes fs = (scope : Scope) (front : Seen) (s : State) (x : Seen) (t : State) → Goes (each (forms.suffix_form scope) (map judge_suffix fs) front) s x t → SuffixesAreTyped scope front s fs x t

abbrev pub OfGeneratorList : List Generator → Type 0
OfGeneratorList gs = (scope : Scope) (shown : List Shape) (s : State) (all : List Shape) (t : State) → Goes (each (forms.generator_form scope) (map judge_generator gs) shown) s all t → GeneratorsAreTyped scope shown s gs all t

abbrev pub OfCondition : Option (Box Expression Global) → Type 0
OfCondition o = (scope : Scope) (s : State) (c : Option Seen) (t : State) → Goes (forms.condition_form (option_map (λ c. judge c.value) o) scope) s c t → ConditionIsTyped scope s o c t

pub record OfGenerators (g : Generators) : Type 0 where
  pub all : OfGeneratorList (generators_in g)
  pub only : OfCondition (condition_in g)

-- a form, by its judgement

by_form : (e : Expression) (j : Judge) → judge e ≡ j → ((scope : Scope) (s : State) (x : Seen) (t : State) → Goes (j scope) s x t → IsTyped scope s e x t) → OfExpression e
by_form e j is typed scope s x t h = typed scope s x t (subst (λ (i : Judge). Goes (i scope) s x t) is h)

by_suffix : (f : Suffix) (j : Suffixed) → judge_suffix f ≡ j → ((front : Seen) (scope : Scope) (s : State) (x : Seen) (t : State) → Goes (j front scope) s x t → SuffixIsTyped scope front s f x t) → OfSuffix f
by_suffix f j is typed front scope s x t h = typed front scope s x t (subst (λ (i : Suffixed). Goes (i front scope) s x t) is h)

as_made : {scope : Scope} {s : State} {e : Expression} {x y : Seen} {t u : State} → x ≡ y → t ≡ u → IsTyped scope s e x t → IsTyped scope s e y u
as_made {scope} {s} {e} {x} {y} {t} {u} is known h = subst (λ v. IsTyped scope s e y v) known (subst (λ z. IsTyped scope s e z t) is h)

suffix_made : {scope : Scope} {front : Seen} {s : State} {f : Suffix} {x y : Seen} {t u : State} → x ≡ y → t ≡ u → SuffixIsTyped scope front s f x t → SuffixIsTyped scope front s f y u
suffix_made {scope} {front} {s} {f} {x} {y} {t} {u} is known h = subst (λ v. SuffixIsTyped scope front s f y v) known (subst (λ z. SuffixIsTyped scope front s f z t) is h)

-- expressions

pub number_typed : (n : ℤ) (place : Place) → OfExpression (trees.Number n place)
number_typed n place = by_form _ _ (judged.judge_number n place) (λ scope s x t h. as_made (went_value _ _ _ _ h.is) (went_state _ _ _ _ h.is) rules.a_number)

pub truth_typed : (b : Bool) (place : Place) → OfExpression (trees.Truth b place)
truth_typed b place = by_form _ _ (judged.judge_truth b place) (λ scope s x t h. as_made (went_value _ _ _ _ h.is) (went_state _ _ _ _ h.is) rules.a_truth)

noted_is : (slot : Slot) (y : Seen) (m : Bool) (s : State) → (if m then (named_in_term slot >>= λ _. give y) else give y) s ≡ Went y (having_named slot m s)
noted_is slot y true s = refl
noted_is slot y false s = refl

ruled_typed : (scope : Scope) (s : State) (n : Name) (f : Found) (x : Seen) (t : State) (r : Ruling) → look n.text s.names ≡ Some f → name_rule scope.context f.kind ≡ r
    → then_do (made n.place n.place (shapes.name (slot_of scope f.index)) r s) (forms.noted (slot_of scope f.index)) ≡ Went x t → IsTyped scope s (trees.Name n) x t
ruled_typed scope s n f x t (Err c) found rule h = absurd (cc)
ruled_typed scope s n f x t (Ok note) found rule h =
    let g = sym (noted_is (slot_of scope f.index) (ruled n.place n.place (shapes.name (slot_of scope f.index)) note) note.moving s) ∙ h in
    as_made (went_value _ _ _ _ g) (went_state _ _ _ _ g) (rules.a_name found rule)

found_typed : (scope : Scope) (s : State) (n : Name) (x : Seen) (t : State) (o : Option Found) → look n.text s.names ≡ o → forms.named n.place scope o s ≡ Went x t → IsTyped scope s (trees.Name n) x t
found_typed scope s n x t None found h = absurd (cc)
found_typed scope s n x t (Some f) found h = ruled_typed scope s n f x t (name_rule scope.context f.kind) found refl h

pub name_form_typed : (n : Name) (scope : Scope) (s : State) (x : Seen) (t : State) → Goes (forms.name_form n scope) s x t → IsTyped scope s (trees.Name n) x t
unfolding forms.name_form
name_form_typed n scope s x t h = found_typed scope s n x t (look n.text s.names) refl h.is

pub name_typed : (n : Name) → OfExpression (trees.Name n)
name_typed n = by_form _ _ (judged.judge_name n) (name_form_typed n)

pub unary_typed : (o : UnaryOperator) (place : Place) (a : Box Expression Global) → OfExpression a.value → OfExpression (trees.Unary o place a)
unfolding forms.unary_form
unary_typed o place a f = by_form _ _ (judged.judge_unary o place a) (λ scope s x t h.
    let p = between _ _ s x t h in
    let r = by_rule _ _ _ _ _ _ _ p.next in
    as_made r.value r.state (rules.a_unary (f _ _ _ _ p.first) r.rule))

pub comparison_typed : (a : Box Expression Global) (c : Comparison) (place : Place) (b : Box Expression Global) → OfExpression a.value → OfExpression b.value → OfExpression (trees.Comparison a c place b)
unfolding forms.comparison_form
comparison_typed a c place b f g = by_form _ _ (judged.judge_comparison a c place b) (λ scope s x t h.
    let p = between _ _ s x t h in
    let q = between _ _ _ x t p.next in
    let r = by_rule _ _ _ _ _ _ _ q.next in
    as_made r.value r.state (rules.a_comparison (f _ _ _ _ p.first) (g _ _ _ _ q.first) r.rule))

pub range_typed : (a : Box Expression Global) (place : Place) (b : Box Expression Global) → OfExpression a.value → OfExpression b.value → OfExpression (trees.Range a place b)
unfolding forms.range_form
range_typed a place b f g = by_form _ _ (judged.judge_range a place b) (λ scope s x t h.
    let p = between _ _ s x t h in
    let q = between _ _ _ x t p.next in
    let r = by_rule _ _ _ _ _ _ _ q.next in
    as_made r.value r.state (rules.a_range (f _ _ _ _ p.first) (g _ _ _ _ q.first) r.rule))

pub conditional_typed : (c a b : Box Expression Global) → OfExpression c.value → OfExpression a.value → OfExpression b.value → OfExpression (trees.Conditional c a b)
unfolding forms.conditional_form
conditional_typed c a b e f g = by_form _ _ (judged.judge_conditional c a b) (λ scope s x t h.
    let o = between _ _ s x t h in
    let p = between _ _ _ x t o.next in
    let q = between _ _ _ x t p.next in
    let r = by_rule _ _ _ _ _ _ _ q.next in
    as_made r.value r.state (rules.a_conditional (e _ _ _ _ o.first) (f _ _ _ _ p.first) (g _ _ _ _ q.first) r.rule))

pub parentheses_typed : (place : Place) (a : Box Expression Global) → OfExpression a.value → OfExpression (trees.Parentheses place a)
unfolding forms.parentheses_form
parentheses_typed place a f = by_form _ _ (judged.judge_parentheses place a) (λ scope s x t h.
    let p = between _ _ s x t h in
    let r = by_rule _ _ _ _ _ _ _ p.next in
    as_made r.value r.state (rules.a_parenthesized (f _ _ _ _ p.first) r.rule))

pub extreme_typed : (e : Extreme) (place : Place) (a b : Box Expression Global) → OfExpression a.value → OfExpression b.value → OfExpression (trees.Extreme e place a b)
unfolding forms.extreme_form
extreme_typed e place a b f g = by_form _ _ (judged.judge_extreme e place a b) (λ scope s x t h.
    let p = between _ _ s x t h in
    let q = between _ _ _ x t p.next in
    let r = by_rule _ _ _ _ _ _ _ q.next in
    as_made r.value r.state (rules.an_extreme (f _ _ _ _ p.first) (g _ _ _ _ q.first) r.rule))

pub chain_typed : (a : Box Expression Global) (ls : Vec Link Global) → OfExpression a.value → OfLinks ls.items → OfExpression (trees.Chain a ls)
unfolding forms.chain_form
chain_typed a ls f g = by_form _ _ (judged.judge_chain a ls) (λ scope s x t h.
    let p = between _ _ s x t h in
    let q = between _ _ _ x t p.next in
    as_made (went_value _ _ _ _ q.next.is) (went_state _ _ _ _ q.next.is)
    (rules.a_chain ls (f _ _ _ _ (subst (λ (c : Context). Goes (judge a.value (within c scope)) s p.made p.known) (judged.operand_first ls.items scope.context) p.first)) (g _ _ _ _ _ q.first)))

pub list_typed : (place : Place) (all : Vec Argument Global) → OfArguments all.items → OfExpression (trees.List place all)
unfolding forms.list_form
list_typed place all f = by_form _ _ (judged.judge_list place all) (λ scope s x t h.
    let p = between _ _ s x t h in
    let r = by_rule _ _ _ _ _ _ _ p.next in
    as_made r.value r.state (rules.a_list all (f _ _ _ _ _ _ p.first) r.rule))

pub set_typed : (place : Place) (all : Vec Argument Global) → OfArguments all.items → OfExpression (trees.Set place all)
unfolding forms.set_form
set_typed place all f = by_form _ _ (judged.judge_set place all) (λ scope s x t h.
    let p = between _ _ s x t h in
    let r = by_rule _ _ _ _ _ _ _ p.next in
    as_made r.value r.state (rules.a_set all (f _ _ _ _ _ _ p.first) r.rule))

pub call_typed : (n : Box Name Global) (all : Vec Argument Global) → OfArguments all.items → OfExpression (trees.Call n all)
unfolding forms.call_form
call_typed n all f = by_form _ _ (judged.judge_call n all) (λ scope s x t h.
    let p = between _ _ s x t h in
    rules.a_call all (f _ _ _ _ _ _ p.first) (called_typed _ _ _ _ _ _ p.next))

pub postfix_typed : (a : Box Expression Global) (all : Vec Suffix Global) → OfExpression a.value → OfSuffixes all.items → OfExpression (trees.Postfix a all)
unfolding forms.postfix_form
postfix_typed a all f g = by_form _ _ (judged.judge_postfix a all) (λ scope s x t h.
    let p = between _ _ s x t h in
    rules.a_postfix all (f _ _ _ _ p.first) (g _ _ _ _ _ p.next))

pub aggregate_typed : (o : Aggregate) (place : Place) (g : Box Generators Global) (b : Box Expression Global) → OfGenerators g.value → OfExpression b.value → OfExpression (trees.Aggregate o place g b)
unfolding forms.aggregate_form forms.aggregated
aggregate_typed o place g b f e = by_form _ _ (judged.judge_aggregate o place g b) (λ scope s x t h.
    let z = between (forms.aggregated o place (judged.generating (map judge_generator (generators_in g.value)) (option_map (λ c. judge c.value) (condition_in g.value))) (judge b.value) (opened scope (length s.names))) (closed (length s.names)) s x t (record { is = h.is }) in
    let k = between _ _ s z.made z.known z.first in
    let p = between _ _ _ z.made z.known k.next in
    let q = between _ _ _ z.made z.known p.next in
    let r = by_rule _ _ _ _ _ _ _ q.next in
    as_made (r.value ∙ went_value _ _ _ _ z.next.is) (ap (having_closed (length s.names)) r.state ∙ went_state _ _ _ _ z.next.is)
    (rules.an_aggregate (f.all _ _ _ _ _ k.first) (f.only _ _ _ _ p.first) (e _ _ _ _ q.first) r.rule))

-- arguments

pub argument_expression_typed : (e : Expression) → OfExpression e → OfArgument (arguments.Expression e)
argument_expression_typed e f scope s x t h = rules.an_expression (f scope s x t (subst (λ (i : Judge). Goes (i scope) s x t) (judged.judge_argument_expression e) h))

string_typed_as : (text : List ℕ) (scope : Scope) (s : State) (x : Seen) (t : State) → Goes (judged.string_by text scope) s x t → ArgumentIsTyped scope s (arguments.Str text) x t
string_typed_as text scope s x t h = subst (λ v. ArgumentIsTyped scope s (arguments.Str text) x v) (went_state _ _ _ _ h.is) (subst (λ z. ArgumentIsTyped scope s (arguments.Str text) z s) (went_value _ _ _ _ h.is) rules.a_string)

pub argument_string_typed : (text : List ℕ) → OfArgument (arguments.Str text)
argument_string_typed text scope s x t h = string_typed_as text scope s x t (subst (λ (i : Judge). Goes (i scope) s x t) (judged.judge_argument_string text) h)

pub no_arguments_typed : OfArguments []
no_arguments_typed first scope es s all t h = subst (λ v. ArgumentsAreTyped first scope es s [] all v) (went_state _ _ _ _ h.is) (subst (λ z. ArgumentsAreTyped first scope es s [] z s) (went_value _ _ _ _ h.is) rules.no_arguments)

pub more_arguments_typed : (a : Argument) (args : List Argument) → OfArgument a → OfArguments args → OfArguments (a ∷ args)
unfolding forms.argument_form
more_arguments_typed a args f g first scope es s all t h =
    let p = between _ _ s all t h in
    let q = between _ _ s p.made p.known p.first in
    rules.an_argument (f _ _ _ _ q.first)
    (subst (λ v. ArgumentsAreTyped first scope (es ++ q.made ∷ []) v args all t) (sym (went_state _ _ _ _ q.next.is))
    (subst (λ z. ArgumentsAreTyped first scope z p.known args all t) (sym (went_value _ _ _ _ q.next.is)) (g first scope p.made p.known all t p.next)))

-- links

pub no_links_typed : OfLinks []
no_links_typed scope front s all t h = subst (λ v. LinksAreTyped scope front s [] all v) (went_state _ _ _ _ h.is) (subst (λ z. LinksAreTyped scope front s [] z s) (went_value _ _ _ _ h.is) rules.no_links)

link_ruled : (l : Link) (ls : List Link) (scope : Scope) (front made_front all : Front) (s u v t : State) (a : Seen) (r : Ruling) → IsTyped (within (forms.operator_context l.operator scope.context) scope) s l.operand a u
    → chain_rule l.operator scope.context front.note (note_of a) ≡ r → linked l.place front (shapes.link l.operator l.place (whole a)) r u ≡ Went made_front v → LinksAreTyped scope made_front v ls all t → LinksAreTyped scope front s (l ∷ ls) all t
link_ruled l ls scope front made_front all s u v t a (Err c) f rule h k = absurd (cc)
link_ruled l ls scope front made_front all s u v t a (Ok note) f rule h k =
    rules.a_link f rule
    (subst (λ w. LinksAreTyped scope (record { note = note; links = front.links ++ shapes.link l.operator l.place (whole a) ∷ [] }) w ls all t) (sym (went_state _ _ _ _ h))
    (subst (λ z. LinksAreTyped scope z v ls all t) (sym (went_value _ _ _ _ h)) k))

pub more_links_typed : (l : Link) (ls : List Link) → OfExpression l.operand → OfLinks ls → OfLinks (l ∷ ls)
unfolding forms.link_form
more_links_typed l ls f g scope front s all t h =
    let p = between (forms.link_form scope front (judge_link l)) (each (forms.link_form scope) (map judge_link ls)) s all t h in
    let q = between (judge l.operand (within (forms.operator_context l.operator scope.context) scope)) (λ e. linked l.place front (shapes.link l.operator l.place (whole e)) (chain_rule l.operator scope.context front.note (note_of e))) s p.made p.known
    (goes_as (ap (forms.link_form scope front) (link_is l)) p.first) in
    link_ruled l ls scope front p.made all s q.known p.known t q.made (chain_rule l.operator scope.context front.note (note_of q.made)) (f _ _ _ _ q.first) refl q.next.is (g scope p.made p.known all t p.next)

-- suffixes

pub index_typed : (place : Place) (e : Expression) → OfExpression e → OfSuffix (suffixes.Index place e)
unfolding forms.index_form
index_typed place e f = by_suffix _ _ (judged.judge_suffix_index place e) (λ front scope s x t h.
    let p = between _ _ s x t h in
    let r = by_rule _ _ _ _ _ _ _ p.next in
    suffix_made r.value r.state (rules.an_index (f _ _ _ _ p.first) r.rule))

pub cell_typed : (place : Place) (a b : Expression) → OfExpression a → OfExpression b → OfSuffix (suffixes.Cell place a b)
unfolding forms.cell_form
cell_typed place a b f g = by_suffix _ _ (judged.judge_suffix_cell place a b) (λ front scope s x t h.
    let p = between _ _ s x t h in
    let q = between _ _ _ x t p.next in
    let r = by_rule _ _ _ _ _ _ _ q.next in
    suffix_made r.value r.state (rules.a_cell (f _ _ _ _ p.first) (g _ _ _ _ q.first) r.rule))

pub method_suffix_typed : (n : Name) (all : Vec Argument Global) → OfArguments all.items → OfSuffix (suffixes.Method n all)
unfolding forms.method_form
method_suffix_typed n all f = by_suffix _ _ (judged.judge_suffix_method n all) (λ front scope s x t h.
    let p = between _ _ s x t h in
    rules.a_method_call all (f _ _ _ _ _ _ p.first) (method_typed _ _ _ _ _ _ _ p.next))

pub no_suffixes_typed : OfSuffixes []
no_suffixes_typed scope front s x t h = subst (λ v. SuffixesAreTyped scope front s [] x v) (went_state _ _ _ _ h.is) (subst (λ z. SuffixesAreTyped scope front s [] z s) (went_value _ _ _ _ h.is) rules.no_suffixes)

pub more_suffixes_typed : (f : Suffix) (fs : List Suffix) → OfSuffix f → OfSuffixes fs → OfSuffixes (f ∷ fs)
more_suffixes_typed f fs e g scope front s x t h =
    let p = between (judge_suffix f front scope) (each (forms.suffix_form scope) (map judge_suffix fs)) s x t h in
    rules.a_suffix (e front scope s p.made p.known p.first) (g scope p.made p.known x t p.next)

-- generators

pub no_generators_typed : OfGeneratorList []
no_generators_typed scope shown s all t h = subst (λ v. GeneratorsAreTyped scope shown s [] all v) (went_state _ _ _ _ h.is) (subst (λ z. GeneratorsAreTyped scope shown s [] z s) (went_value _ _ _ _ h.is) rules.no_generators)

generator_ruled : (g : Generator) (gs : List Generator) (scope : Scope) (shown made_shown all : List Shape) (s u v t : State) (d : Seen) (r : Ruling) → IsTyped (within (made_pure scope.context) scope) s g.domain d u
    → generator_rule (is_new g.name.text scope.block u.names) (note_of d) ≡ r → generator_made scope g.name shown d r u ≡ Went made_shown v → GeneratorsAreTyped scope made_shown v gs all t → GeneratorsAreTyped scope shown s (g ∷ gs) all t
generator_ruled g gs scope shown made_shown all s u v t d (Err c) f rule h k = absurd (cc)
generator_ruled g gs scope shown made_shown all s u v t d (Ok note) f rule h k =
    rules.a_generator f rule
    (subst (λ w. GeneratorsAreTyped scope (shown ++ shapes.generator g.name.place (slot_of scope (length u.names)) (whole d) ∷ []) w gs all t) (sym (went_state _ _ _ _ h))
    (subst (λ z. GeneratorsAreTyped scope z v gs all t) (sym (went_value _ _ _ _ h)) k))

pub more_generators_typed : (g : Generator) (gs : List Generator) → OfExpression g.domain → OfGeneratorList gs → OfGeneratorList (g ∷ gs)
unfolding forms.generator_form
more_generators_typed g gs f k scope shown s all t h =
    let p = between (forms.generator_form scope shown (judge_generator g)) (each (forms.generator_form scope) (map judge_generator gs)) s all t h in
    let q = between (judge g.domain (within (made_pure scope.context) scope)) (λ d. λ u. generator_made scope g.name shown d (generator_rule (is_new g.name.text scope.block u.names) (note_of d)) u) s p.made p.known
    (goes_as (ap (forms.generator_form scope shown) (generator_is g)) p.first) in
    generator_ruled g gs scope shown p.made all s q.known p.known t q.made (generator_rule (is_new g.name.text scope.block q.known.names) (note_of q.made)) (f _ _ _ _ q.first) refl q.next.is (k scope p.made p.known all t p.next)

pub no_condition_typed : OfCondition None
unfolding forms.condition_form
no_condition_typed scope s c t h = subst (λ v. ConditionIsTyped scope s None c v) (went_state _ _ _ _ h.is) (subst (λ z. ConditionIsTyped scope s None z s) (went_value _ _ _ _ h.is) rules.no_condition)

pub some_condition_typed : (e : Box Expression Global) → OfExpression e.value → OfCondition (Some e)
unfolding forms.condition_form forms.some_form
some_condition_typed e f scope s c t h =
    let p = between (judge e.value scope) (λ x. give (Some x)) s c t h in
    subst (λ v. ConditionIsTyped scope s (Some e) c v) (went_state _ _ _ _ p.next.is) (subst (λ z. ConditionIsTyped scope s (Some e) z p.known) (went_value _ _ _ _ p.next.is) (rules.a_condition (f _ _ _ _ p.first)))
