use Rattle.std.proofs.Common.{◌≡◌, not, true, sym, ap, ◌∙◌, subst}
use Rattle.entries.specs.declared.node.PlanId.{PlanId}
use Rattle.recovering.proofs.Recovered.{stays, steps-as}
use Rattle.merging.proofs.Read.{is-projection}
use Rattle.merging.specs.Merging.{merged_outcome}
use Rattle.plan.specs.Fields.{any}
use Rattle.plan.specs.Functions.{is_total}
use Rattle.rewriting.specs.Extracting.{build_extraction_projection, build_extraction_projection_impl, built}
use Rattle.rewriting.specs.Limits.{OnlyEight}
use Rattle.stepping.proofs.Fields.{good-fields}
use Rattle.stepping.specs.Lists.{at_side}
use Rattle.stepping.specs.Steps.{Steps}
use Rattle.std.specs.Prelude.{Ok}
use Rattle.stored.specs.Stored.{run_exprs, well_formed}
use Rattle.stored.specs.declared.node.PlanNode.TheVariants.{Projection}
use Rattle.tables.proofs.Inputs.{as-node, tree-at}
use Rattle.tables.specs.Holding.{fields_at, model_of, tree_in, trees_in, view_in}
use Rattle.projecting.specs.Freshly.{fresh_outcome}
use Rattle.leaf_expressions.proofs.Pairs.{NoProjection, fresh-tree, freshly-taken, merged-taken, merged-tree, no-projection, not-yes, nothing-taken, pairs-none, pairs-some, steps-higher}
use Rattle.leaf_expressions.proofs.extraction.build_extraction_projection.Goals as goal
use Rattle.leaf_expressions.specs.Found.{needed_at, projected}

pub returns-then-not-has_pairs-clause-steps : goal.returns-then-not-has_pairs-clause-steps
returns-then-not-has_pairs-clause-steps c =
    let t = c.args.tables.now in
    let x = c.args.extractor.now in
    let s = c.args.side in
    let i = c.args.input in
    let v = view_in t in
    let m = model_of t in
    let none = pairs-none v s x.entries (sym c.if-not-has_pairs.ensures) in
    let p = tree_in t i.0 in
    let here : Steps m 0 (built p) (Ok i) m = subst (λ q. Steps m 0 (built q) (Ok i) m) (tree-at t i.0) (stays m i c.requires.input) in
    steps-as m m x.next (built p) (projected t x s i.0) (Ok i) (λ n. sym (nothing-taken v.functions p (at_side v x s) (needed_at v x s) n none)) (steps-higher m m x.next (built p) (Ok i) here)

pub freshly-requires : goal.freshly-requires
freshly-requires c =
    let t = c.args.tables.now in
    let x = c.args.extractor.now in
    let s = c.args.side in
    let i = c.args.input in
    let v = view_in t in
    let r = c.record_of.ensures in
    let no : NoProjection (tree_in t i.0) = subst NoProjection (sym r.tree) (no-projection v (fields_at t i.0) (trees_in t) c.record_of.result.node c.in_default.not-Projection) in
    record {
      present = c.requires.input;
      fields = good-fields t c.requires.good i.0 c.requires.input;
      inside = c.requires.inside;
      only = subst (OnlyEight v.functions) (fresh-tree v.functions (at_side v x s) (needed_at v x s) (tree_in t i.0) no) c.requires.found.only;
      plain = c.requires.found.plain;
    }

pub returns-in_default : goal.returns-in_default
returns-in_default c =
    let t = c.args.tables.now in
    let x = c.args.extractor.now in
    let s = c.args.side in
    let i = c.args.input in
    let v = view_in t in
    let m = model_of t in
    let r = c.record_of.ensures in
    let no : NoProjection (tree_in t i.0) = subst NoProjection (sym r.tree) (no-projection v (fields_at t i.0) (trees_in t) c.record_of.result.node c.in_default.not-Projection) in
    let some = pairs-some v s x.entries (sym c.if-not-has_pairs.ensures) in
    record {
      steps = steps-as m (model_of c.freshly.new.tables) x.next (fresh_outcome t x s i.0) (projected t x s i.0) c.freshly.result
          (λ n. sym (freshly-taken v.functions (at_side v x s) (needed_at v x s) (tree_in t i.0) n some no)) c.freshly.ensures.steps;
      begins = c.freshly.ensures.begins;
    }

pub merge-requires : goal.merge-requires
merge-requires c =
    let t = c.args.tables.now in
    let x = c.args.extractor.now in
    let s = c.args.side in
    let i = c.args.input in
    let v = view_in t in
    let l = c.in-Projection.list in
    let r = c.record_of.ensures in
    let is = is-projection t i.0 c.in-Projection.under l (as-node t i.0 c.record_of.result (Projection c.in-Projection.under l) r c.in-Projection.is) in
    let formed : not (any (is_total v.functions) (run_exprs v l)) ≡ true = sym (ap (well_formed v.functions) is.tree) ∙ r.formed in
    record {
      present = c.requires.input;
      reads = is;
      inside = c.requires.inside;
      totals = not-yes (any (is_total v.functions) (run_exprs v l)) formed;
      plain = c.requires.found.plain;
      known = c.requires.found.columns;
      only = subst (OnlyEight v.functions) (merged-tree v.functions (at_side v x s) (needed_at v x s) (run_exprs v l) (tree_in t c.in-Projection.under.0))
          (subst (λ p. OnlyEight v.functions (build_extraction_projection_impl v.functions p (at_side v x s) (needed_at v x s))) is.tree c.requires.found.only);
    }

pub returns-in-Projection-clause-steps : goal.returns-in-Projection-clause-steps
returns-in-Projection-clause-steps c =
    let t = c.args.tables.now in
    let x = c.args.extractor.now in
    let s = c.args.side in
    let i = c.args.input in
    let v = view_in t in
    let l = c.in-Projection.list in
    let under = c.in-Projection.under in
    let is = is-projection t i.0 under l (as-node t i.0 c.record_of.result (Projection under l) c.record_of.ensures c.in-Projection.is) in
    let some = pairs-some v s x.entries (sym c.if-not-has_pairs.ensures) in
    steps-as (model_of t) (model_of c.merge.new.tables) x.next (merged_outcome t x s under l) (projected t x s i.0) c.merge.result
    (λ n. sym (ap (λ p. build_extraction_projection v.functions 0 p (at_side v x s) (needed_at v x s) n) is.tree ∙ merged-taken v.functions (at_side v x s) (needed_at v x s) (run_exprs v l) (tree_in t under.0) n some)) c.merge.ensures.steps
