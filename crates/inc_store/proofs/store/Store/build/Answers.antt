use Rattle.std.proofs.Common.{◌∙◌, ℕ, List, Vec, map, length, get_or, refl, sym, ap, subst}
use Rattle.std.specs.declared.alloc.Global.{Global}
use Rattle.cbl_base.specs.NodeLaw.{Rule}
use Rattle.cbl_base.specs.declared.ids.NodeId.{NodeId}
use Rattle.cbl_base.specs.declared.input.Input.{Input}
use Rattle.store_build.specs.Aims.{graph_over}
use Rattle.store_build.specs.Frames.{cell_of}
use Rattle.store_build.specs.Kept.{IsKept}
use Rattle.inc_store.proofs.store.Store.build.Goals as goal

pub returns : goal.returns
returns g c =
    let p = c.in_ok-parts.ensures in
    record {
      usable = (refl, p.ready, subst (λ (cells : List Input). IsKept (map g.N.NodeRule.rule c.in_ok-parts.parts.nodes.items) (map g.N.NodeRule.held c.in_ok-parts.parts.nodes.items) c.in_ok-parts.parts.frame cells) (sym c.new.ensures) p.kept);
      rules = p.rules;
      first = p.first;
      graph = ap (λ (rs : List Rule). graph_over rs c.in_ok-parts.parts.frame.first c.in_ok-parts.parts.frame.inputs.items) p.rules
          ∙ ap (λ (n : ℕ). graph_over (map g.N.NodeRule.rule c.args.nodes.items) n c.in_ok-parts.parts.frame.inputs.items) p.first
          ∙ ap (λ (v : Vec (Vec NodeId Global) Global). graph_over (map g.N.NodeRule.rule c.args.nodes.items) (length c.args.start.now) v.items) p.inputs;
      layers = λ j. ap (λ (ls : List ℕ). get_or ls j 0) p.layers;
      free = λ j lt e. ap (λ (cells : List Input). cell_of cells j) c.new.ensures ∙ p.free j lt e;
      fault = tt;
      cones = p.targets;
    }
