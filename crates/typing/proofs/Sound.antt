-- What is well typed is accepted, by induction over its typing.
use Rattle.std.specs.Prelude.{◌≡◌, refl, List, map, Option, option_map}
use Rattle.std.proofs.Common.{sym, ap, subst}
use Rattle.std.specs.declared.boxed.Box.{Box}
use Rattle.std.specs.declared.alloc.Global.{Global}
use Rattle.comet_syntax.specs.declared.tree.expressions.Argument.{Argument}
use Rattle.comet_syntax.specs.declared.tree.expressions.Expression.{Expression}
use Rattle.comet_syntax.specs.declared.tree.expressions.Suffix.{Suffix}
use Rattle.comet_syntax.specs.declared.tree.expressions.Generator.{Generator}
use Rattle.comet_syntax.specs.declared.tree.expressions.Link.{Link}
use Rattle.checked_tree.specs.Shape.{Shape, Seen}
use Rattle.type_rules.specs.declared.context.Context.{Context}
use Rattle.type_scopes.specs.declared.scope.Scope.{Scope}
use Rattle.type_scopes.specs.Names.{within}
use Rattle.type_scopes.specs.State.{State, each}
use Rattle.type_expressions.specs.Expressions as forms
use Rattle.type_expressions.specs.Expressions.{Judge, Suffixed, Linked, Generated, Front, judge, judge_argument, judge_suffix, judge_generator, judge_link}
use Rattle.type_expressions.proofs.Judged.{link_is, generator_is}
use Rattle.typing.specs.Rules as rules
use Rattle.typing.specs.Rules.{IsTyped, LinksAreTyped, ArgumentIsTyped, ArgumentsAreTyped, SuffixIsTyped, SuffixesAreTyped, GeneratorsAreTyped, ConditionIsTyped, generators_in, condition_in}
use Rattle.typing.proofs.Went.{Goes, goes_on, goes_as}
use Rattle.typing.proofs.Trees as trees
use Rattle.typing.proofs.Called.{called_goes, method_goes}
use Rattle.typing.proofs.Forms.{name_goes, unary_goes, comparison_goes, range_goes, conditional_goes, parentheses_goes, extreme_goes, chain_goes, link_goes, argument_goes, list_goes, set_goes, call_goes, index_goes, cell_goes, method_form_goes, postfix_goes, generator_goes, no_condition_goes, some_condition_goes, aggregate_goes}

-- a judgement, as another one that it is equal to
at : {j k : Judge} {scope : Scope} {s t : State} {x : Seen} → j ≡ k → Goes (k scope) s x t → Goes (j scope) s x t
at {j} {k} {scope} {s} {t} {x} is h = subst (λ (i : Judge). Goes (i scope) s x t) (sym is) h

behind : {j k : Suffixed} {front : Seen} {scope : Scope} {s t : State} {x : Seen} → j ≡ k → Goes (k front scope) s x t → Goes (j front scope) s x t
behind {j} {k} {front} {scope} {s} {t} {x} is h = subst (λ (i : Suffixed). Goes (i front scope) s x t) (sym is) h

mutual
  pub sound : {scope : Scope} {s : State} {e : Expression} {x : Seen} {t : State} → IsTyped scope s e x t → Goes (judge e scope) s x t
  sound (rules.a_number {n} {place}) = at (trees.judge_number n place) (record { is = refl })
  sound (rules.a_truth {b} {place}) = at (trees.judge_truth b place) (record { is = refl })
  sound (rules.a_name {n} found r) = at (trees.judge_name n) (name_goes _ _ n _ _ found r)
  sound (rules.a_unary {o} {place} {operand} h r) = at (trees.judge_unary o place operand) (unary_goes _ _ _ o place _ _ _ (sound h) r)
  sound (rules.a_comparison {c} {place} {left} {right} h k r) = at (trees.judge_comparison left c place right) (comparison_goes _ _ _ _ _ c place _ _ _ _ (sound h) (sound k) r)
  sound (rules.a_range {place} {low} {high} h k r) = at (trees.judge_range low place high) (range_goes _ _ _ _ _ place _ _ _ _ (sound h) (sound k) r)
  sound (rules.a_conditional {test} {then_part} {else_part} g h k r) = at (trees.judge_conditional test then_part else_part) (conditional_goes _ _ _ _ _ _ _ _ _ _ _ _ (sound g) (sound h) (sound k) r)
  sound (rules.a_parenthesized {place} {part} h r) = at (trees.judge_parentheses place part) (parentheses_goes _ _ _ place _ _ _ (sound h) r)
  sound (rules.an_extreme {e} {place} {left} {right} h k r) = at (trees.judge_extreme e place left right) (extreme_goes _ _ _ _ e place _ _ _ _ _ (sound h) (sound k) r)
  sound (rules.a_chain {scope} {s} {u} {first} links {a} h k) = at (trees.judge_chain first links) (chain_goes _ _ _ _ _ _ _ _
      (subst (λ (c : Context). Goes (judge first.value (within c scope)) s a u) (sym (trees.operand_first links.items scope.context)) (sound h)) (sound_links k))
  sound (rules.a_list {place} all h r) = at (trees.judge_list place all) (list_goes _ _ _ place _ _ _ (sound_arguments h) r)
  sound (rules.a_set {place} all h r) = at (trees.judge_set place all) (set_goes _ _ _ place _ _ _ (sound_arguments h) r)
  sound (rules.a_call {n} all h c) = at (trees.judge_call n all) (call_goes _ _ _ _ n.value _ _ _ (sound_arguments h) (called_goes _ _ _ _ _ _ c))
  sound (rules.a_postfix {primary} all h k) = at (trees.judge_postfix primary all) (postfix_goes _ _ _ _ _ _ _ _ (sound h) (sound_suffixes k))
  sound (rules.an_aggregate {o} {place} {generators} {body} g h k r) = at (trees.judge_aggregate o place generators body) (aggregate_goes _ _ _ _ _ o place _ _ _ _ _ _ _ (sound_generators g) (sound_condition h) (sound k) r)

  sound_links : {scope : Scope} {front : Front} {s : State} {ls : List Link} {all : Front} {t : State} → LinksAreTyped scope front s ls all t → Goes (each (forms.link_form scope) (map judge_link ls) front) s all t
  sound_links rules.no_links = record { is = refl }
  sound_links (rules.a_link {scope} {front} {l} h r k) = goes_on _ _ (goes_as (ap (forms.link_form scope front) (sym (link_is l))) (link_goes scope _ _ front (record { operator = l.operator; place = l.place; operand = judge l.operand }) _ _ (sound h) r)) (sound_links k)

  sound_argument : {scope : Scope} {s : State} {e : Argument} {x : Seen} {t : State} → ArgumentIsTyped scope s e x t → Goes (judge_argument e scope) s x t
  sound_argument (rules.an_expression {e} h) = at (trees.judge_argument_expression e) (sound h)
  sound_argument (rules.a_string {text}) = at (trees.judge_argument_string text) (record { is = refl })

  pub sound_arguments : {first : Context} {scope : Scope} {es : List Seen} {s : State} {args : List Argument} {all : List Seen} {t : State} → ArgumentsAreTyped first scope es s args all t → Goes (each (forms.argument_form first scope) (map judge_argument args) es) s all t
  sound_arguments rules.no_arguments = record { is = refl }
  sound_arguments (rules.an_argument {first} {scope} {es} h k) = goes_on _ _ (argument_goes first scope _ _ es _ _ (sound_argument h)) (sound_arguments k)

  sound_suffix : {scope : Scope} {front : Seen} {s : State} {f : Suffix} {x : Seen} {t : State} → SuffixIsTyped scope front s f x t → Goes (judge_suffix f front scope) s x t
  sound_suffix (rules.an_index {place} {e} h r) = behind (trees.judge_suffix_index place e) (index_goes _ _ _ place _ _ _ _ (sound h) r)
  sound_suffix (rules.a_cell {place} {first} {second} h k r) = behind (trees.judge_suffix_cell place first second) (cell_goes _ _ _ _ place _ _ _ _ _ _ (sound h) (sound k) r)
  sound_suffix (rules.a_method_call {n} all h c) = behind (trees.judge_suffix_method n all) (method_form_goes _ _ _ _ n _ _ _ _ (sound_arguments h) (method_goes _ _ _ _ _ _ _ c))

  sound_suffixes : {scope : Scope} {front : Seen} {s : State} {fs : List Suffix} {x : Seen} {t : State} → SuffixesAreTyped scope front s fs x t → Goes (each (forms.suffix_form scope) (map judge_suffix fs) front) s x t
  sound_suffixes rules.no_suffixes = record { is = refl }
  sound_suffixes (rules.a_suffix h k) = goes_on _ _ (sound_suffix h) (sound_suffixes k)

  pub sound_generators : {scope : Scope} {gs : List Shape} {s : State} {all : List Generator} {shown : List Shape} {t : State} → GeneratorsAreTyped scope gs s all shown t → Goes (each (forms.generator_form scope) (map judge_generator all) gs) s shown t
  sound_generators rules.no_generators = record { is = refl }
  sound_generators (rules.a_generator {scope} {gs} {g} h r k) = goes_on _ _ (goes_as (ap (forms.generator_form scope gs) (sym (generator_is g))) (generator_goes scope _ _ gs (record { name = g.name; domain = judge g.domain }) _ _ (sound h) r)) (sound_generators k)

  pub sound_condition : {scope : Scope} {s : State} {o : Option (Box Expression Global)} {c : Option Seen} {t : State} → ConditionIsTyped scope s o c t → Goes (forms.condition_form (option_map (λ c. judge c.value) o) scope) s c t
  sound_condition (rules.no_condition {scope} {s}) = no_condition_goes scope s
  sound_condition (rules.a_condition h) = some_condition_goes _ _ _ _ _ (sound h)
