use Rattle.std.proofs.Common.{◌≡◌, ℕ, ◌<◌, [], ◌∷◌, ltb, length, set, Result, sym, refl, ap, ◌∙◌, arith}
use Rattle.std.proofs.lemmas.Bool.{and_parts}
use Rattle.plan.specs.Model.{Model, inputs_at}
use Rattle.plan.specs.Plans.{Plan}
use Rattle.plan.specs.Swapping.{swap_tree, with_input}
use Rattle.plan.specs.declared.fault.Fault.{Fault}
use Rattle.entries.specs.declared.node.PlanId.{PlanId}
use Rattle.tables.specs.Holding.{view_in, trees_in, tree_in, fields_at, model_of, plan_count}
use Rattle.tables.specs.Reading.{ReadsAs}
use Rattle.swapping.specs.Remaking.{TreeMade}
use Rattle.stored.specs.Stored.{build_plan_node, list_in, node_inputs, run_in, run_numbers, well_formed}
use Rattle.stored.specs.declared.node.NewNode.TheVariants.{Filter, Limit}
use Rattle.stored.specs.declared.node.PlanNode.{PlanNode}
use Rattle.stored.specs.declared.node.PlanNode.TheVariants.{Projection, Union}
use Rattle.stored.specs.declared.node.PlanRecord.{PlanRecord}
use Rattle.tables.specs.declared.tables.Tables.{Tables}
use Rattle.tables.proofs.Inputs.{as-node, run_long}
use Rattle.stored.proofs.PlanFrames.{below_more}
use Rattle.swapping.proofs.Remade.{made-anew, set-one, set-left, set-right, join-left, join-right, swap-union, swap-made}
use Rattle.swapping.proofs.remaking.remake.Goals as goal

pub remake_union-requires : goal.remake_union-requires
remake_union-requires c =
    let t = c.args.tables.now in
    let l = c.in-Union.inputs in
    let h = as-node t c.args.p.0 c.record_of.result (Union l) c.record_of.ensures c.in-Union.is in
    let in-run = and_parts (run_in (view_in t).entries l) _ h.inside in
    record {
      run = in-run.0;
      present = below_more c.args.p.0 (plan_count t) (run_numbers (view_in t).entries l) (omega (arith, c.requires.node)) in-run.1;
      few = h.accepted;
      position = omega (arith, c.requires.position, ap length h.inputs, run_long (view_in t).entries l in-run.0);
      input = c.requires.input;
    }

pub remake_projection-requires : goal.remake_projection-requires
remake_projection-requires c =
    let t = c.args.tables.now in
    let l = c.in-Projection.list in
    let r = c.record_of.ensures in
    let h = as-node t c.args.p.0 c.record_of.result (Projection c.in-Projection.input l) r c.in-Projection.is in
    record {
      input = c.requires.input;
      list = (and_parts (ltb c.in-Projection.input.0 c.args.p.0) (list_in (view_in t) l) h.inside).1;
      few = h.accepted;
      placed = sym (ap (well_formed (view_in t).functions) h.tree) ∙ r.formed;
    }

-- a node with one input
module _ (t : Tables) (p k : ℕ) (j : PlanId) (x : PlanRecord) (h : ReadsAs t p x) (lt : k < length (inputs_at (model_of t) p)) where
  single : (n : PlanNode) (i : ℕ) (q : Plan) → x.node ≡ n → node_inputs (view_in t).entries n ≡ i ∷ []
      → with_input (build_plan_node (view_in t) (fields_at t p) (trees_in t) n) k (tree_in t j.0) ≡ q
      → (r : Result PlanId Fault) (m : Model) → TreeMade (model_of t) q (j.0 ∷ []) r m → TreeMade (model_of t) (swap_tree (model_of t) p k j.0) (set (inputs_at (model_of t) p) k j.0) r m
  single n i q e one tree =
      let nr = as-node t p x n h e in
      swap-made t p k j.0 n q (j.0 ∷ []) nr tree (ap (λ l. set l k j.0) one ∙ set-one i k j.0 (omega (arith, lt, ap length (nr.inputs ∙ one))))

pub returns-in-Projection : goal.returns-in-Projection
returns-in-Projection c =
    single c.args.tables.now c.args.p.0 c.args.position c.args.input c.record_of.result c.record_of.ensures c.requires.position _ _ _ c.in-Projection.is refl refl _ _ c.remake_projection.ensures

pub returns-in-Filter : goal.returns-in-Filter
returns-in-Filter c =
    single c.args.tables.now c.args.p.0 c.args.position c.args.input c.record_of.result c.record_of.ensures c.requires.position _ _ _ c.in-Filter.is refl refl _ _
    (made-anew c.args.tables.now (Filter c.args.input c.in-Filter.predicate) _ _ tt refl refl c.make.result _ c.make.ensures.made)

pub returns-in-Sort : goal.returns-in-Sort
returns-in-Sort c =
    single c.args.tables.now c.args.p.0 c.args.position c.args.input c.record_of.result c.record_of.ensures c.requires.position _ _ _ c.in-Sort.is refl refl _ _ c.remake_sort.ensures

pub returns-in-Limit : goal.returns-in-Limit
returns-in-Limit c =
    single c.args.tables.now c.args.p.0 c.args.position c.args.input c.record_of.result c.record_of.ensures c.requires.position _ _ _ c.in-Limit.is refl refl _ _
    (made-anew c.args.tables.now (Limit c.args.input c.in-Limit.skip c.in-Limit.count) _ _ tt refl refl c.make-in-Limit.result _ c.make-in-Limit.ensures.made)

pub returns-in-Aggregate : goal.returns-in-Aggregate
returns-in-Aggregate c =
    single c.args.tables.now c.args.p.0 c.args.position c.args.input c.record_of.result c.record_of.ensures c.requires.position _ _ _ c.in-Aggregate.is refl refl _ _ c.remake_aggregate.ensures

pub returns-in-SubqueryAlias : goal.returns-in-SubqueryAlias
returns-in-SubqueryAlias c =
    single c.args.tables.now c.args.p.0 c.args.position c.args.input c.record_of.result c.record_of.ensures c.requires.position _ _ _ c.in-SubqueryAlias.is refl refl _ _ c.remake_alias.ensures

pub returns-then-position-eq0 : goal.returns-then-position-eq0
returns-then-position-eq0 c =
    let t = c.args.tables.now in
    let h = as-node t c.args.p.0 c.record_of.result _ c.record_of.ensures c.in-Join.is in
    swap-made t c.args.p.0 c.args.position c.args.input.0 _ _ _ h (join-left _ _ _ _ _ _ c.if-position-eq0.true) (set-left _ _ _ _ c.if-position-eq0.true) _ _ c.remake_join.ensures

pub returns-else-position-eq0 : goal.returns-else-position-eq0
returns-else-position-eq0 c =
    let t = c.args.tables.now in
    let h = as-node t c.args.p.0 c.record_of.result _ c.record_of.ensures c.in-Join.is in
    swap-made t c.args.p.0 c.args.position c.args.input.0 _ _ _ h (join-right _ _ _ _ _ _ c.if-position-eq0.false) (set-right _ _ _ _ c.if-position-eq0.false (omega (arith, c.requires.position, ap length h.inputs))) _ _ c.remake_join-else-position-eq0.ensures

pub returns-in-Union : goal.returns-in-Union
returns-in-Union c =
    let t = c.args.tables.now in
    let l = c.in-Union.inputs in
    let h = as-node t c.args.p.0 c.record_of.result (Union l) c.record_of.ensures c.in-Union.is in
    swap-made t c.args.p.0 c.args.position c.args.input.0 (Union l) _ _ h (swap-union (trees_in t) (run_numbers (view_in t).entries l) c.args.position c.args.input.0 (omega (arith, c.requires.position, ap length h.inputs))) refl _ _ c.remake_union.ensures
