-- What each tree without its pointers is judged as.
use Rattle.std.specs.Prelude.{ℕ, Bool, true, false, List, [], ◌∷◌, Option, None, Some, option_map, is_some}
use Rattle.cbl_base.specs.declared.place.Place.{Place}
use Rattle.comet_syntax.specs.declared.tree.expressions.Name.{Name}
use Rattle.comet_syntax.specs.declared.tree.expressions.ChainOperator.TheVariants as chains
use Rattle.checked_tree.specs.Shape as shapes
use Rattle.checked_tree.specs.declared.kind.Kind.TheVariants as kind
use Rattle.type_rules.specs.Rules.{plain}
use Rattle.type_scopes.specs.State.{give}
use Rattle.type_calls.specs.Arguments.{made}
use Rattle.type_expressions.specs.Expressions.{Judge, Suffixed, Linked, Generated, Generating, name_form, unary_form, comparison_form, range_form, conditional_form, parentheses_form, extreme_form, chain_form, list_form, set_form, aggregate_form, call_form, index_form, cell_form, method_form, postfix_form}
use Rattle.checked_tree.specs.Actions as deeds
use Rattle.checked_tree.specs.Actions.{Deed, Shown}
use Rattle.type_scopes.specs.declared.scope.Scope.{Scope}
use Rattle.type_scopes.specs.State.{Check}
use Rattle.type_declarations.specs.Parts.{Starting, nothing, each_cell, defined}
use Rattle.type_declarations.specs.Declarations.{scalar_form}
use Rattle.type_simples.specs.declared.simples.Standing.{Standing}
use Rattle.type_simples.specs.Simples.{Acted, write_form, swap_form, step_form, alone_form, choice_form}
use Rattle.checked_tree.specs.Tasks as works
use Rattle.checked_tree.specs.Tasks.{Whole}
use Rattle.type_heads.specs.Heads.{Does, deed_form, acted_form}
use Rattle.type_statements.specs.Statements.{within_own, opened_tasks, while_form, for_all_form, select_form, select_by_form, neighbor_form, with_form, parall_form}
use Rattle.type_simples.specs.Simples.{return_form}
use Rattle.parse_unique.specs.Bare.{Bare}
use Rattle.type_trees.proofs.Works.{if_by, Count, for_by, whenever_by, single_by, function_by, statement_part, function_part, no_effect}
use Rattle.type_trees.proofs.Parts.{Dim, Dims, dims_by, int_by, variable_by, Making, object_by, new_by, item_by, print_by}

pub record Sense : Type 0 where
  -- of an expression, an argument or an item
  pub judge : Judge
  pub judges : List Judge
  pub suffix : Suffixed
  pub suffixes : List Suffixed
  pub link : Linked
  pub links : List Linked
  pub part : Generated
  pub parts : List Generated
  pub all : Generating
  -- of an expression that may be left out
  pub only : Option Judge
  -- of a declaration and its parts
  pub dim : Dim
  pub dim_perhaps : Option Dim
  pub dims : Dims
  pub dims_perhaps : Option Dims
  pub start : Starting
  pub making : Making
  pub deed : Scope → Check Deed
  pub place : Place
  -- of a simple statement and its parts
  pub item : Scope → Check Shown
  pub items : List (Scope → Check Shown)
  pub acts : Standing → Scope → Check Acted
  pub acts_perhaps : Option (Standing → Scope → Check Acted)
  -- of a statement and its parts; whether it is a `return` of an expression
  pub count : Count
  pub counter : Option Count
  pub does : Does
  pub does_perhaps : Option Does
  pub all_do : List Does
  pub gives : Bool
  pub all_give : List Bool
  -- of a part of a program
  pub task : Whole → Check Whole
  pub tasks : List (Whole → Check Whole)

abbrev pub no_name : Name
no_name = record { text = []; place = record { line = 0; col = 0 } }

abbrev pub no_judge : Judge
no_judge = name_form no_name

abbrev pub no_place : Place
no_place = record { line = 0; col = 0 }

abbrev pub no_dim : Dim
no_dim = record { name = None; range = no_judge }

abbrev pub nothing_done : Does
nothing_done = deed_form no_place (λ scope. give deeds.nothing)

abbrev pub blank : Sense
blank = record {
  judge = no_judge;
  judges = [];
  suffix = λ front. no_judge;
  suffixes = [];
  link = record { operator = chains.Or; place = record { line = 0; col = 0 }; operand = no_judge };
  links = [];
  part = record { name = no_name; domain = no_judge };
  parts = [];
  all = record { generators = []; condition = None };
  only = None;
  dim = no_dim;
  dim_perhaps = None;
  dims = dims_by no_dim None;
  dims_perhaps = None;
  start = nothing;
  making = record { class = None; arguments = [] };
  deed = scalar_form no_place no_name kind.Int None;
  place = no_place;
  item = λ scope. give deeds.end_line;
  items = [];
  acts = alone_form no_judge;
  acts_perhaps = None;
  count = record { name = no_name; start = no_judge };
  counter = None;
  does = nothing_done;
  does_perhaps = None;
  all_do = [];
  gives = false;
  all_give = [];
  task = no_effect;
  tasks = [];
}

abbrev pub judged : Judge → Sense
judged j = record blank { judge = j }

abbrev pub behind : Suffixed → Sense
behind s = record blank { suffix = s }

abbrev pub declared : Place → (Scope → Check Deed) → Sense
declared p d = record blank { deed = d; place = p }

abbrev pub acting : (Standing → Scope → Check Acted) → Sense
acting a = record blank { acts = a }

abbrev pub doing : Does → Sense
doing d = record blank { does = d }

abbrev pub in_part : (Whole → Check Whole) → Sense
in_part t = record blank { task = t }

abbrev pub sense : Bare → Sense
sense (Bare.more a l) = record blank {
  judges = (sense a).judge ∷ (sense l).judges;
  suffixes = (sense a).suffix ∷ (sense l).suffixes;
  links = (sense a).link ∷ (sense l).links;
  parts = (sense a).part ∷ (sense l).parts;
  items = (sense a).item ∷ (sense l).items;
  all_do = (sense a).does ∷ (sense l).all_do;
  all_give = (sense a).gives ∷ (sense l).all_give;
  tasks = (sense a).task ∷ (sense l).tasks;
}
sense (Bare.given b) = record blank {
  only = Some (sense b).judge;
  dim_perhaps = Some (sense b).dim;
  dims_perhaps = Some (sense b).dims;
  start = (sense b).start;
  acts_perhaps = Some (sense b).acts;
  counter = Some (sense b).count;
  does_perhaps = Some (sense b).does;
}
sense (Bare.conditional a b c) = judged (conditional_form (sense a).judge (sense b).judge (sense c).judge)
sense (Bare.chain a l) = judged (chain_form (sense a).judge (sense l).links)
sense (Bare.comparison a c p b) = judged (comparison_form (sense a).judge c p (sense b).judge)
sense (Bare.range a p b) = judged (range_form (sense a).judge p (sense b).judge)
sense (Bare.unary o p a) = judged (unary_form o p (sense a).judge)
sense (Bare.aggregate o p g a) = judged (aggregate_form o p (sense g).all (sense a).judge)
sense (Bare.postfix a l) = judged (postfix_form (sense a).judge (sense l).suffixes)
sense (Bare.number n p) = judged (λ scope. made p p (shapes.number n) (plain kind.Int))
sense (Bare.truth b p) = judged (λ scope. made p p (shapes.truth b) (plain kind.Bool))
sense (Bare.name n) = judged (name_form n)
sense (Bare.call n l) = judged (call_form n (sense l).judges)
sense (Bare.extreme e p a b) = judged (extreme_form e p (sense a).judge (sense b).judge)
sense (Bare.parentheses p a) = judged (parentheses_form p (sense a).judge)
sense (Bare.list p l) = judged (list_form p (sense l).judges)
sense (Bare.set p l) = judged (set_form p (sense l).judges)
sense (Bare.link o p a) = record blank { link = record { operator = o; place = p; operand = (sense a).judge } }
sense (Bare.index p a) = behind (index_form p (sense a).judge)
sense (Bare.cell p a b) = behind (cell_form p (sense a).judge (sense b).judge)
sense (Bare.method n l) = behind (method_form n (sense l).judges)
sense (Bare.value a) = record blank { judge = (sense a).judge; item = item_by (sense a).judge }
sense (Bare.text t) = record blank { judge = λ scope. give (shapes.quoted t); item = λ scope. give (deeds.text t) }
sense Bare.end_line = record blank { item = λ scope. give deeds.end_line }
sense (Bare.generator n a) = record blank { part = record { name = n; domain = (sense a).judge } }
sense (Bare.generators l o) = record blank { all = record { generators = (sense l).parts; condition = (sense o).only } }
sense (Bare.dimension n a) = record blank { dim = record { name = n; range = (sense a).judge } }
sense (Bare.dimensions a b) = record blank { dims = dims_by (sense a).dim (sense b).dim_perhaps }
sense (Bare.assigned a) = record blank { start = each_cell (sense a).judge }
sense (Bare.defined a) = record blank { start = defined (sense a).judge }
sense (Bare.direct l) = record blank { making = record { class = None; arguments = (sense l).judges } }
sense (Bare.made c l) = record blank { making = record { class = Some c; arguments = (sense l).judges } }
sense (Bare.int_variable p n d e) = declared p (int_by p n (sense d).dims_perhaps (sense e).only)
sense (Bare.int_array p n e) = declared p (scalar_form p n kind.Array (Some (sense e).judge))
sense (Bare.bool_variable p n e) = declared p (scalar_form p n kind.Bool (sense e).only)
sense (Bare.range_variable p n e) = declared p (scalar_form p n kind.Range (Some (sense e).judge))
sense (Bare.set_variable p n e) = declared p (scalar_form p n kind.Set (sense e).only)
sense (Bare.incremental_int p w n d s e v) = declared p (variable_by p n kind.Variable (sense d).dims_perhaps s (sense e).only (sense v).start)
sense (Bare.incremental_set p w n d s e) = declared p (variable_by p n kind.SetVariable (sense d).dims_perhaps s None (defined (sense e).judge))
sense (Bare.object c n m) = declared c.place (object_by c n (sense m).making)
sense (Bare.write a o b) = acting (write_form (sense a).judge o (sense b).judge)
sense (Bare.swap a b) = acting (swap_form (sense a).judge (sense b).judge)
sense (Bare.step a s) = acting (step_form (sense a).judge s)
sense (Bare.alone a) = acting (alone_form (sense a).judge)
sense (Bare.new n c l) = acting (new_by n c (sense l).judges)
sense (Bare.print p l) = acting (print_by p (sense l).items)
sense (Bare.call_chosen p a) = acting (choice_form p (sense a).judge)
sense (Bare.for_start n a) = record blank { count = record { name = n; start = (sense a).judge } }
sense (Bare.block p l) = record blank { does = opened_tasks p (sense l).all_do; gives = single_by (sense l).all_give }
sense (Bare.block_statement b) = doing (within_own (sense b).does)
sense (Bare.empty p) = doing (deed_form p (λ scope. give deeds.nothing))
sense (Bare.declaration d) = doing (deed_form (sense d).place (sense d).deed)
sense (Bare.simple s) = doing (acted_form (sense s).acts)
sense (Bare.return_value p e) = record blank { does = deed_form p (return_form p (sense e).only); gives = is_some (sense e).only }
sense (Bare.when p t a b) = doing (if_by p (sense t).judge (sense a).does (sense b).does_perhaps)
sense (Bare.while_true p t b) = doing (while_form p (sense t).judge (sense b).does)
sense (Bare.for_each_step p i t s b) = doing (for_by p (sense i).counter (sense t).only (sense s).acts_perhaps (sense b).does)
sense (Bare.for_all p g b) = doing (for_all_form p (sense g).all (sense b).does)
sense (Bare.select p g b) = doing (select_form p (sense g).all (sense b).does)
sense (Bare.select_by p e g k b) = doing (select_by_form p e (sense g).all (sense k).judge (sense b).does)
sense (Bare.neighbor p k n b) = doing (neighbor_form p (sense k).judge n (sense b).does)
sense (Bare.whenever p v n o b) = doing (whenever_by p (sense v).judge n o (sense b).does)
sense (Bare.with_mode p m n b) = doing (with_form p m n (sense b).does)
sense (Bare.parall p n e b) = doing (parall_form p n (sense e).judge (sense b).does)
sense (Bare.import n) = in_part no_effect
sense (Bare.include t) = in_part no_effect
sense (Bare.function p r n ps b) = in_part (function_part (function_by p r n ps (sense b).does (sense b).gives))
sense (Bare.top_statement s) = in_part (statement_part (sense s).does)
sense b = blank
