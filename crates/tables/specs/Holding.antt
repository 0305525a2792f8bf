-- What the tables of a book hold, as contracts speak of it.
--     view_in t, nodes_of t, trees_in t      the expressions, text and lists; the nodes; their trees
--     model_of t      all of it
--     tree_in t p, fields_at t p      the tree and the fields of one node
use Rattle.std.specs.Prelude.{ℕ, List, length}
use Rattle.plan.specs.Terms.{Field}
use Rattle.plan.specs.Plans.{Plan, fields_of}
use Rattle.plan.specs.Model.{Model, Node, space, plan_in}
use Rattle.terms.specs.Views.{View, view_of}
use Rattle.stored.specs.Stored.{plan_nodes, plan_trees, inputs_from}
use Rattle.entries.specs.declared.node.StoredField.{StoredField}
use Rattle.stored.specs.declared.node.PlanRecord.{PlanRecord}
use Rattle.tables.specs.declared.tables.Tables.{Tables}

abbrev pub view_in : Tables → View
view_in t = view_of t.terms

abbrev pub nodes_of : Tables → List Node
nodes_of t = plan_nodes (view_in t) t.fields t.plans

abbrev pub trees_in : Tables → List Plan
trees_in t = plan_trees (view_in t) t.fields t.plans

-- the model of expressions, fields and records
abbrev pub model_from : View → List StoredField → List PlanRecord → Model
model_from v fields rs = record {
  functions = v.functions;
  exprs = v.trees;
  plans = plan_nodes v fields rs;
  inputs = inputs_from v.entries rs;
  text = v.bytes;
  used = space (length v.trees) (length (plan_nodes v fields rs)) (length v.entries) (length fields) (length v.bytes);
}

abbrev pub model_of : Tables → Model
model_of t = model_from (view_in t) t.fields t.plans

abbrev pub tree_in : Tables → ℕ → Plan
tree_in t p = plan_in (trees_in t) p

abbrev pub fields_at : Tables → ℕ → List Field
fields_at t p = fields_of (view_in t).functions (tree_in t p)

abbrev pub plan_count : Tables → ℕ
plan_count t = length (nodes_of t)
