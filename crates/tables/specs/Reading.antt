-- What a record says of its node; cited by src/tables/reading.rt.
--     ReadsAs t p r      r is what the table holds of the node p
use Rattle.std.specs.Prelude.{◌≡◌, ℕ, ◌≤◌, true, slice_index_or}
use Rattle.plan.specs.Plans.{plan_size_of}
use Rattle.plan.specs.Model.{no_node, inputs_at}
use Rattle.stored.specs.Stored.{fields_in, run_in, build_plan_node, node_inputs, inside_node, accepted_node, well_formed}
use Rattle.tables.specs.Holding.{view_in, nodes_of, trees_in, tree_in, fields_at, model_of}
use Rattle.stored.specs.declared.node.PlanRecord.{PlanRecord}
use Rattle.tables.specs.declared.tables.Tables.{Tables}

pub record ReadsAs (t : Tables) (p : ℕ) (r : PlanRecord) : Type 0 where
  pub tree : tree_in t p ≡ build_plan_node (view_in t) (fields_at t p) (trees_in t) r.node
  pub inside : inside_node (view_in t) p r.node ≡ true
  pub accepted : accepted_node (view_in t).bytes r.node ≡ true
  pub inputs : inputs_at (model_of t) p ≡ node_inputs (view_in t).entries r.node
  pub run : run_in t.fields r.fields ≡ true
  pub few : r.fields.count ≤ 64
  pub fields : fields_in (view_in t).bytes t.fields r.fields ≡ fields_at t p
  pub size : r.size ≡ plan_size_of (tree_in t p)
  pub origin : r.origin.0 ≡ (slice_index_or (nodes_of t) p no_node).origin
  pub older : r.origin.0 ≤ p
  pub small : r.size ≤ 64
  pub formed : well_formed (view_in t).functions (tree_in t p) ≡ true
