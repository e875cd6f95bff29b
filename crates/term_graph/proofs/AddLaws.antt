-- A term with all below it, and its arguments one after another.
use Rattle.std.proofs.Common.{◌≡◌, ℕ, ℤ, negsuc, ◌+◌, ◌<◌, ◌≤◌, true, List, [], ◌∷◌, ◌++◌, Vec, Global, map, length, length-append, take, drop, take-append-drop, get_or, refl, sym, ap, ◌∙◌, subst, arith, All, fold}
use Rattle.std.specs.List.{list_all}
use Rattle.std.proofs.lemmas.List.{append_assoc, map-append, map_push, take_all}
use Rattle.std.proofs.lemmas.List.Sums.{fold-append}
use Rattle.std.proofs.lemmas.List.Elements.{All-get_or, All-head, All-nil, All-push, All-weaker}
use Rattle.cbl_base.specs.declared.ids.NodeId.{NodeId}
use Rattle.cbl_base.specs.declared.ids.VarId.{VarId}
use Rattle.cbl_base.specs.declared.limits.TheConstants.{MAX_TERM_NODES}
use Rattle.cbl_base.specs.declared.place.Place.{Place}
use Rattle.cbl_operations.specs.declared.op.Op.{Op}
use Rattle.term_count.specs.Codes.{IsNode, code_by, is_known, is_known_by, name_among, operation_code}
use Rattle.term_count.specs.Numbering.{listed, terms_after, terms_after_all}
use Rattle.term_count.proofs.Numbered.{after_push, all_push, fold_grows, node_below, out_is, take_push, var_below}
use Rattle.term_count.proofs.PlaceLaws.{all_known_front}
use Rattle.term_graph.specs.Adding.{Fits, IsGrown, StandAll, Stands, Takes, name_of_id}
use Rattle.term_graph.specs.Graphs.{AreNodesOf, IsGraphOf, StopsAt}
use Rattle.term_graph.specs.Ids.{id_among, id_by, ids_of}
use Rattle.term_graph.specs.declared.node.Node.{Node}
use Rattle.term_graph.specs.declared.graph.Graph.{Graph}
use Rattle.term_graph.specs.declared.stop.GraphStop.{GraphStop}
use Rattle.term_graph.specs.declared.stop.GraphStop.TheVariants.{TooMany, NoMemory}
use Rattle.term_graph.proofs.IdLaws.{args_below, ids_front, names_back}
use Rattle.term_graph.proofs.Lists.{grown_front}
use Rattle.term_model.specs.Definitions.{vars_of, vars_step}
use Rattle.term_model.specs.Subterms.{arguments_of, joined_terms, subterms, with_subterm}
use Rattle.term_model.specs.declared.term.Term.{Term}
use Rattle.term_model.specs.declared.term.Term.TheOpen.{Term-F}
use Rattle.term_model.specs.declared.term.Term.TheViews.{Node as Operation, out-Term}
use Rattle.term_model.specs.declared.term.Term.TheVariants.{Const, ConstSet, Var, rolls-Const, rolls-ConstSet, rolls-Node, rolls-Var}
use Rattle.term_model.specs.declared.term.Term.TheFolds.{fold-roll-Term}

-- ---- what fits
module _ (cells : ℕ) (codes : List (List ℤ)) (nodes : List Node) (ts : List Term) (t : Term) (code : List ℤ) (graph : AreNodesOf cells codes nodes ts) where
  pub number_fits : (x : ℤ) → t ≡ Const x → code ≡ negsuc 0 ∷ x ∷ [] → Fits cells codes nodes ts t code []
  number_fits x is made =
      let out : out-Term t ≡ Term-F.Const x = out_is t (Term-F.Const x) (is ∙ sym (rolls-Const x)) in
      record {
        graph = graph;
        own = subst IsNode (sym out) tt;
        args = ap (λ y. list_all (is_known ts) (arguments_of y)) out;
        coded = made ∙ sym (ap (code_by ts) out);
        named = sym (ap (λ y. map (id_among cells ts) (arguments_of y)) out);
        earlier = All-nil (λ (input : NodeId). input.0 < cells + length nodes);
      }

  pub set_fits : (s : List ℤ) → t ≡ ConstSet s → code ≡ negsuc 1 ∷ s → Fits cells codes nodes ts t code []
  set_fits s is made =
      let out : out-Term t ≡ Term-F.ConstSet s = out_is t (Term-F.ConstSet s) (is ∙ sym (rolls-ConstSet s)) in
      record {
        graph = graph;
        own = subst IsNode (sym out) tt;
        args = ap (λ y. list_all (is_known ts) (arguments_of y)) out;
        coded = made ∙ sym (ap (code_by ts) out);
        named = sym (ap (λ y. map (id_among cells ts) (arguments_of y)) out);
        earlier = All-nil (λ (input : NodeId). input.0 < cells + length nodes);
      }

map_twice : (f : ℕ → ℤ) (ids : List NodeId) → map (λ id. f id.0) ids ≡ map f (ids_of ids)
map_twice f [] = refl
map_twice f (id ∷ ids) = ap (λ ns. f id.0 ∷ ns) (map_twice f ids)

pub operation_fits : (cells : ℕ) (codes : List (List ℤ)) (nodes : List Node) (ts : List Term) (t : Term) (op : Op) (code names : List ℤ) (ids : List NodeId) → Takes cells codes nodes ts t op ids →
    names ≡ map (λ id. name_of_id cells id.0) ids → code ≡ operation_code op ++ names → Fits cells codes nodes ts t code ids
operation_fits cells codes nodes ts t op code names ids takes named made =
    let args = takes.args in
    let all = takes.all in
    let out : out-Term t ≡ Term-F.Node op takes.args takes.place = out_is t (Term-F.Node op takes.args takes.place) (takes.is ∙ sym (rolls-Node op takes.args takes.place)) in
    let names' : names ≡ map (name_among ts) args.items = named ∙ map_twice (name_of_id cells) ids ∙ ap (map (name_of_id cells)) all.at ∙ names_back cells ts args.items takes.below in
    record {
      graph = all.graph;
      own = subst IsNode (sym out) tt;
      args = ap (λ y. list_all (is_known ts) (arguments_of y)) out ∙ all.known;
      coded = made ∙ ap (λ ns. operation_code op ++ ns) names' ∙ sym (ap (code_by ts) out);
      named = all.at ∙ sym (ap (λ y. map (id_among cells ts) (arguments_of y)) out);
      earlier = takes.earlier;
    }

-- ---- a variable
pub var_stands : (cells : ℕ) (codes : List (List ℤ)) (nodes : List Node) (ts : List Term) (t : Term) (v : VarId) → AreNodesOf cells codes nodes ts → t ≡ Var v → Stands cells codes nodes (terms_after ts t) t v.index
var_stands cells codes nodes ts t v graph is =
    let out : out-Term t ≡ Term-F.Var v = out_is t (Term-F.Var v) (is ∙ sym (rolls-Var v)) in
    record {
      graph = subst (AreNodesOf cells codes nodes) (sym (var_below ts t v is)) graph;
      at = sym (ap (id_by cells (terms_after ts t) t) out);
      known = ap (is_known_by (terms_after ts t) t) out;
    }

pub var_is_below : (cells many : ℕ) (t : Term) (v : VarId) → t ≡ Var v → All (λ n. n < cells) (vars_of t) → v.index < cells + many
var_is_below cells many t v is all =
    let vars : vars_of t ≡ v.index ∷ [] = ap vars_of (is ∙ sym (rolls-Var v)) ∙ fold-roll-Term (List ℕ) vars_step (Term-F.Var v) in
    let lt : v.index < cells = All-head (λ (n : ℕ). n < cells) v.index [] (subst (All (λ n. n < cells)) vars all) in
    omega (arith, lt)

-- ---- the arguments one after another
pub none_stand : (cells : ℕ) (codes : List (List ℤ)) (nodes : List Node) (ts items : List Term) → AreNodesOf cells codes nodes ts → StandAll cells codes nodes (terms_after_all ts (take 0 items)) (take 0 items) []
none_stand cells codes nodes ts items graph = record { graph = graph; at = refl; known = refl }

pub one_stands : (first mid new : Graph) (ts items : List Term) (i : ℕ) (u : Term) (ids next : List NodeId) (id : NodeId) → IsGrown first mid → i < length items → u ≡ get_or items i u →
    StandAll first.cells (listed mid.codes.keys) mid.nodes.items (terms_after_all ts (take i items)) (take i items) ids →
    ((vs : List Term) → IsGraphOf mid vs → Stands mid.cells (listed new.codes.keys) new.nodes.items (terms_after vs u) u id.0) → next ≡ ids ++ id ∷ [] →
    StandAll first.cells (listed new.codes.keys) new.nodes.items (terms_after_all ts (take (i + 1) items)) (take (i + 1) items) next
one_stands first mid new ts items i u ids next id grown lt is all more e =
    let us = take i items in
    let cells = first.cells in
    let before = terms_after_all ts us in
    let graph : IsGraphOf mid before = subst (λ n. AreNodesOf n (listed mid.codes.keys) mid.nodes.items before) (sym grown.cells) all.graph in
    let one : Stands cells (listed new.codes.keys) new.nodes.items (terms_after before u) u id.0 =
    subst (λ n. Stands n (listed new.codes.keys) new.nodes.items (terms_after before u) u id.0) grown.cells (more before graph) in
    let grows = fold_grows before (subterms u) in
    let front : terms_after before u ≡ before ++ grows.0 = grows.1 in
    let known : list_all (is_known (terms_after before u)) us ≡ true = ap (λ vs. list_all (is_known vs) us) front ∙ all_known_front before grows.0 us all.known in
    let ids' : map (id_among cells (terms_after before u)) us ≡ ids_of ids = ap (λ vs. map (id_among cells vs) us) front ∙ ids_front cells before grows.0 us all.known ∙ sym all.at in
    let whole : terms_after_all ts (us ++ u ∷ []) ≡ terms_after before u = after_push ts us u in
    let stand : StandAll cells (listed new.codes.keys) new.nodes.items (terms_after before u) (us ++ u ∷ []) next = record {
      graph = one.graph;
      at = ap ids_of e ∙ map_push (λ (id : NodeId). id.0) ids id ∙ ap (λ ns. ns ++ id.0 ∷ []) (sym ids') ∙ ap (λ n. map (id_among cells (terms_after before u)) us ++ n ∷ []) one.at
          ∙ sym (map_push (id_among cells (terms_after before u)) us u);
      known = all_push (is_known (terms_after before u)) us u known one.known;
    } in
    subst (λ vs. StandAll cells (listed new.codes.keys) new.nodes.items (terms_after_all ts vs) vs next) (sym (take_push items i u lt is))
    (subst (λ vs. StandAll cells (listed new.codes.keys) new.nodes.items vs (us ++ u ∷ []) next) (sym whole) stand)

-- ids stay below the nodes
pub ids_below : (mid new : Graph) (ids next : List NodeId) (id : NodeId) → IsGrown mid new → All (λ i. i.0 < mid.cells + length mid.nodes.items) ids → id.0 < new.cells + length new.nodes.items → next ≡ ids ++ id ∷ [] →
    All (λ i. i.0 < new.cells + length new.nodes.items) next
ids_below mid new ids next id grown below lt e =
    let many : length new.nodes.items ≡ length mid.nodes.items + length grown.nodes.0 = ap length grown.nodes.1 ∙ length-append mid.nodes.items grown.nodes.0 in
    subst (All (λ (i : NodeId). i.0 < new.cells + length new.nodes.items)) (sym e)
    (All-push (λ (i : NodeId). i.0 < new.cells + length new.nodes.items) ids id
    (All-weaker (λ (i : NodeId). i.0 < mid.cells + length mid.nodes.items) (λ (i : NodeId). i.0 < new.cells + length new.nodes.items) (λ i h. omega (arith, h, grown.cells, many)) ids below) lt)

-- an argument's variables are below the cells
pub arg_below : (first mid : Graph) (t : Term) (op : Op) (args : Vec Term Global) (place : Place) (items : List Term) (i : ℕ) (u : Term) → IsGrown first mid → t ≡ Operation op args place → items ≡ args.items → i < length items → u ≡ get_or items i u →
    All (λ n. n < first.cells) (vars_of t) → All (λ n. n < mid.cells) (vars_of u)
arg_below first mid t op args place items i u grown is same lt at all =
    let each : All (λ v. All (λ n. n < first.cells) (vars_of v)) items = subst (All (λ v. All (λ n. n < first.cells) (vars_of v))) (sym same) (args_below (λ n. n < first.cells) t op args place is all) in
    let one : All (λ n. n < first.cells) (vars_of u) = subst (λ v. All (λ n. n < first.cells) (vars_of v)) (sym at) (All-get_or (λ v. All (λ n. n < first.cells) (vars_of v)) items i u lt each) in
    subst (λ (c : ℕ). All (λ n. n < c) (vars_of u)) (sym grown.cells) one

-- all arguments were added, and the operation is next
pub takes_all : (first mid : Graph) (ts : List Term) (t : Term) (op : Op) (args : Vec Term Global) (place : Place) (items : List Term) (i : ℕ) (ids : List NodeId) → IsGrown first mid → t ≡ Operation op args place → items ≡ args.items → length items ≤ i →
    All (λ n. n < first.cells) (vars_of t) → All (λ input. input.0 < mid.cells + length mid.nodes.items) ids →
    StandAll first.cells (listed mid.codes.keys) mid.nodes.items (terms_after_all ts (take i items)) (take i items) ids →
    Takes mid.cells (listed mid.codes.keys) mid.nodes.items (terms_after_all ts args.items) t op ids
takes_all first mid ts t op args place items i ids grown is same le vars below all =
    let whole : take i items ≡ args.items = take_all i items le ∙ same in
    record {
      args = args;
      place = place;
      is = is;
      below = subst (λ (c : ℕ). All (λ u. All (λ n. n < c) (vars_of u)) args.items) (sym grown.cells) (args_below (λ n. n < first.cells) t op args place is vars);
      all = subst (λ (c : ℕ). StandAll c (listed mid.codes.keys) mid.nodes.items (terms_after_all ts args.items) args.items ids) (sym grown.cells)
          (subst (λ us. StandAll first.cells (listed mid.codes.keys) mid.nodes.items (terms_after_all ts us) us ids) whole all);
      earlier = below;
    }

-- behind all arguments and the term's own node there are the terms with all below it
pub after_all : (first mid : Graph) (codes : List (List ℤ)) (nodes : List Node) (ts : List Term) (t : Term) (op : Op) (args : Vec Term Global) (place : Place) (id : ℕ) → IsGrown first mid → t ≡ Operation op args place →
    Stands mid.cells codes nodes (with_subterm (terms_after_all ts args.items) t) t id → Stands first.cells codes nodes (terms_after ts t) t id
after_all first mid codes nodes ts t op args place id grown is stands =
    subst (λ c. Stands c codes nodes (terms_after ts t) t id) grown.cells
    (subst (λ vs. Stands mid.cells codes nodes vs t id) (sym (node_below ts t op args place is)) stands)

-- ---- too many below a term are too many
length_grows : (most : ℕ) (ts us : List Term) → most < length ts → most < length (fold with_subterm ts us)
length_grows most ts us lt =
    let grows = fold_grows ts us in
    omega (arith, lt, ap length grows.1 ∙ length-append ts grows.0)

full_below : (ts : List Term) (us : List Term) (stop : GraphStop) → StopsAt ts stop → StopsAt (fold with_subterm ts us) stop
full_below ts us TooMany full = length_grows MAX_TERM_NODES ts us full
full_below ts us NoMemory full = tt

joined_append : (xss yss : List (List Term)) → joined_terms (xss ++ yss) ≡ joined_terms xss ++ joined_terms yss
joined_append [] yss = refl
joined_append (xs ∷ xss) yss = ap (λ zs. xs ++ zs) (joined_append xss yss) ∙ sym (append_assoc xs (joined_terms xss) (joined_terms yss))

after_append : (ts us vs : List Term) → terms_after_all ts (us ++ vs) ≡ terms_after_all (terms_after_all ts us) vs
after_append ts us vs =
    ap (λ wss. fold with_subterm ts (joined_terms wss)) (map-append subterms us vs) ∙ ap (fold with_subterm ts) (joined_append (map subterms us) (map subterms vs))
    ∙ fold-append with_subterm ts (joined_terms (map subterms us)) (joined_terms (map subterms vs))

-- too many behind an argument are too many behind the term, and so behind its own node
pub full_arg : (first mid : Graph) (ts : List Term) (t : Term) (op : Op) (args : Vec Term Global) (place : Place) (items : List Term) (i : ℕ) (u : Term) (ids : List NodeId) (stop : GraphStop) → IsGrown first mid → t ≡ Operation op args place → items ≡ args.items →
    i < length items → u ≡ get_or items i u → StandAll first.cells (listed mid.codes.keys) mid.nodes.items (terms_after_all ts (take i items)) (take i items) ids →
    ((vs : List Term) → IsGraphOf mid vs → StopsAt (terms_after vs u) stop) → StopsAt (terms_after ts t) stop
full_arg first mid ts t op args place items i u ids stop grown is same lt at all more =
    let us = take i items in
    let vs = drop (i + 1) items in
    let before = terms_after_all ts us in
    let graph : IsGraphOf mid before = subst (λ n. AreNodesOf n (listed mid.codes.keys) mid.nodes.items before) (sym grown.cells) all.graph in
    let split : args.items ≡ (us ++ u ∷ []) ++ vs = sym same ∙ sym (take-append-drop (i + 1) items) ∙ ap (λ ws. ws ++ vs) (take_push items i u lt at) in
    let whole : terms_after ts t ≡ fold with_subterm (fold with_subterm (terms_after before u) (joined_terms (map subterms vs))) (t ∷ []) =
    node_below ts t op args place is ∙ ap (λ ws. with_subterm (terms_after_all ts ws) t) split
    ∙ ap (λ ws. with_subterm ws t) (after_append ts (us ++ u ∷ []) vs ∙ ap (λ ws. terms_after_all ws vs) (after_push ts us u)) in
    subst (λ ws. StopsAt ws stop) (sym whole)
    (full_below (fold with_subterm (terms_after before u) (joined_terms (map subterms vs))) (t ∷ []) stop (full_below (terms_after before u) (joined_terms (map subterms vs)) stop (more before graph)))

-- ---- back to what was there
pub cut_back : (old mid new : Graph) (codes nodes : ℕ) (ts : List Term) → IsGrown old mid → new.cells ≡ mid.cells → codes ≡ length old.codes.keys → nodes ≡ length old.nodes.items →
    new.codes.keys ≡ take codes mid.codes.keys → new.nodes.items ≡ take nodes mid.nodes.items → IsGraphOf old ts → IsGraphOf new ts
cut_back old mid new codes nodes ts grown cells many count codes' nodes' graph =
    let keys : new.codes.keys ≡ old.codes.keys = codes' ∙ ap (λ n. take n mid.codes.keys) many ∙ grown_front old.codes.keys mid.codes.keys grown.codes in
    let items : new.nodes.items ≡ old.nodes.items = nodes' ∙ ap (λ n. take n mid.nodes.items) count ∙ grown_front old.nodes.items mid.nodes.items grown.nodes in
    subst (λ n. AreNodesOf n (listed new.codes.keys) new.nodes.items ts) (sym (cells ∙ grown.cells))
    (subst (λ ks. AreNodesOf old.cells (listed ks) new.nodes.items ts) (sym keys) (subst (λ ns. AreNodesOf old.cells (listed old.codes.keys) ns ts) (sym items) graph))
