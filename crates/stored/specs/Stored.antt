-- The plan trees that the plan table stands for: each node is built over the trees before it.
--     fields_in bytes fields run      the fields that a run of the field table names
--     build_plan v fields ns r, plan_nodes v fields rs, plan_trees v fields rs      one node; all of them; their trees
--     node_inputs entries n, inputs_from entries rs      the numbers of a node's inputs; those of all nodes
--     accepted_node bytes n      its lists are not too long and its name is well formed, as its building call asked
--     inside_plan v fields i r      the record at i names parts of the tables and lower numbers only
--     same_fields      two lists of fields are the same, as a test
--     well_formed F p      what the building call of the plan's own node asked of the names that it brings, and of a Projection's list
use Rattle.std.specs.Prelude.{ℕ, ◌+◌, Bool, true, false, not, ◌&&◌, List, [], ◌∷◌, map, length, ◌==◌, nat_le, nat_lt}
use Rattle.table.specs.Contents.{part}
use Rattle.table.specs.Fold.{built, all_ok}
use Rattle.plan.specs.Terms.{Field, Expr, same_field}
use Rattle.plan.specs.Plans.{Plan, Key as PlanKey, fields_of}
use Rattle.plan.specs.Plans.Plan.{table, projection, filter, sort, limit, aggregate, join, subquery_alias, union}
use Rattle.plan.specs.Model.{Node, expr_in, exprs_in, plan_in, plans_in}
use Rattle.plan.specs.Functions.{Functions, is_total}
use Rattle.plan.specs.Names.{good_name}
use Rattle.plan.specs.Fields.{any, every}
use Rattle.plan.specs.Calls.{all_below, between, union_of}
use Rattle.plan.specs.declared.code.Direction.{Direction}
use Rattle.plan.specs.declared.code.Direction.TheVariants.{AscendingNullsFirst}
use Rattle.terms.specs.Build.{numbers_in}
use Rattle.entries.specs.Entries.{entry_number}
use Rattle.entries.specs.Spans.{stored_field}
use Rattle.names.specs.Spans.{word, span_in}
use Rattle.terms.specs.Views.{View}
use Rattle.entries.specs.declared.node.Entry.{Entry}
use Rattle.entries.specs.declared.node.Entry.TheVariants.{Expression, Key, Input}
use Rattle.entries.specs.declared.node.StoredField.{StoredField}
use Rattle.entries.specs.declared.node.Run.{Run}
use Rattle.stored.specs.declared.node.PlanNode.{PlanNode}
use Rattle.stored.specs.declared.node.PlanNode.TheVariants.{Table, Projection, Filter, Sort, Limit, Aggregate, Join, SubqueryAlias, Union}
use Rattle.stored.specs.declared.node.PlanRecord.{PlanRecord}

abbrev pub fields_in : List ℕ → List StoredField → Run → List Field
fields_in bytes fields r = map (stored_field bytes) (part fields r.first r.count)

abbrev pub run_in : {X : Type 0} → List X → Run → Bool
run_in xs r = nat_le (r.first + r.count) (length xs)

abbrev pub entry_direction : Entry → Direction
entry_direction (Expression e) = AscendingNullsFirst
entry_direction (Key e d) = d
entry_direction (Input p) = AscendingNullsFirst

abbrev pub key_at : List Expr → Entry → PlanKey
key_at ts e = record { by = expr_in ts (entry_number e); direction = entry_direction e }

abbrev pub run_keys : View → Run → List PlanKey
run_keys v r = map (key_at v.trees) (part v.entries r.first r.count)

abbrev pub run_numbers : List Entry → Run → List ℕ
run_numbers entries r = numbers_in entries r.first r.count

abbrev pub run_exprs : View → Run → List Expr
run_exprs v r = exprs_in v.trees (run_numbers v.entries r)

-- fs: the fields that the node has; ts: the trees before it
abbrev pub build_plan_node : View → List Field → List Plan → PlanNode → Plan
build_plan_node v fs ts (Table k q) = table k.0 (word v.bytes q) (map (λ f. f.name) fs)
build_plan_node v fs ts (Projection i l) = projection (run_exprs v l) (plan_in ts i.0)
build_plan_node v fs ts (Filter i e) = filter (expr_in v.trees e.0) (plan_in ts i.0)
build_plan_node v fs ts (Sort i l) = sort (run_keys v l) (plan_in ts i.0)
build_plan_node v fs ts (Limit i s c) = limit s c (plan_in ts i.0)
build_plan_node v fs ts (Aggregate i gs us) = aggregate (run_exprs v gs) (run_exprs v us) (plan_in ts i.0)
build_plan_node v fs ts (Join j l r cs) = join j (run_exprs v cs) (plan_in ts l.0) (plan_in ts r.0)
build_plan_node v fs ts (SubqueryAlias i n) = subquery_alias (word v.bytes n) (plan_in ts i.0)
build_plan_node v fs ts (Union l) = union_of (plans_in ts (run_numbers v.entries l))

-- the inputs of a node
abbrev pub node_inputs : List Entry → PlanNode → List ℕ
node_inputs entries (Table k q) = []
node_inputs entries (Projection i l) = i.0 ∷ []
node_inputs entries (Filter i e) = i.0 ∷ []
node_inputs entries (Sort i l) = i.0 ∷ []
node_inputs entries (Limit i s c) = i.0 ∷ []
node_inputs entries (Aggregate i gs us) = i.0 ∷ []
node_inputs entries (Join j l r cs) = l.0 ∷ r.0 ∷ []
node_inputs entries (SubqueryAlias i n) = i.0 ∷ []
node_inputs entries (Union l) = run_numbers entries l

abbrev pub inputs_from : List Entry → List PlanRecord → List (List ℕ)
inputs_from entries rs = map (λ r. node_inputs entries r.node) rs

abbrev pub node_trees : List Node → List Plan
node_trees ns = map (λ n. n.tree) ns

abbrev pub build_plan : View → List StoredField → List Node → PlanRecord → Node
build_plan v fields ns r =
    record { tree = build_plan_node v (fields_in v.bytes fields r.fields) (node_trees ns) r.node; origin = r.origin.0 }

abbrev pub plan_nodes : View → List StoredField → List PlanRecord → List Node
plan_nodes v fields rs = built (build_plan v fields) [] rs

abbrev pub plan_trees : View → List StoredField → List PlanRecord → List Plan
plan_trees v fields rs = node_trees (plan_nodes v fields rs)

abbrev pub list_in : View → Run → Bool
list_in v l = run_in v.entries l && all_below (length v.trees) (run_numbers v.entries l)

abbrev pub inside_node : View → ℕ → PlanNode → Bool
inside_node v i (Table k q) = k.0 == i && span_in v.bytes q
inside_node v i (Projection p l) = nat_lt p.0 i && list_in v l
inside_node v i (Filter p e) = nat_lt p.0 i && nat_lt e.0 (length v.trees)
inside_node v i (Sort p l) = nat_lt p.0 i && list_in v l
inside_node v i (Limit p s c) = nat_lt p.0 i
inside_node v i (Aggregate p gs us) = nat_lt p.0 i && (list_in v gs && list_in v us)
inside_node v i (Join k l r cs) = nat_lt l.0 i && (nat_lt r.0 i && list_in v cs)
inside_node v i (SubqueryAlias p n) = nat_lt p.0 i && span_in v.bytes n
inside_node v i (Union l) = run_in v.entries l && all_below i (run_numbers v.entries l)

-- what its building call asked of its lists and its name
abbrev pub accepted_node : List ℕ → PlanNode → Bool
accepted_node bytes (Table k q) = good_name (word bytes q)
accepted_node bytes (Projection i l) = nat_le l.count 64
accepted_node bytes (Filter i e) = true
accepted_node bytes (Sort i l) = nat_le l.count 16
accepted_node bytes (Limit i s c) = true
accepted_node bytes (Aggregate i gs us) = nat_le gs.count 16 && nat_le us.count 16
accepted_node bytes (Join j l r cs) = nat_le cs.count 16
accepted_node bytes (SubqueryAlias i n) = good_name (word bytes n)
accepted_node bytes (Union l) = between 1 8 l.count

-- at most 64 fields and 64 nodes, an origin among the nodes up to this one
abbrev pub inside_plan : View → List StoredField → ℕ → PlanRecord → Bool
inside_plan v fields i r = (inside_node v i r.node && accepted_node v.bytes r.node) && ((run_in fields r.fields && nat_le r.fields.count 64) && (nat_le r.origin.0 i && nat_le r.size 64))

abbrev pub sound_plans : View → List StoredField → List PlanRecord → Bool
sound_plans v fields rs = all_ok (inside_plan v fields) 0 rs

abbrev pub same_fields : List Field → List Field → Bool
same_fields [] [] = true
same_fields [] (g ∷ gs) = false
same_fields (f ∷ fs) [] = false
same_fields (f ∷ fs) (g ∷ gs) = same_field f g && same_fields fs gs

-- the record at i has the fields of its tree
abbrev pub fielded_at : View → List StoredField → List Plan → ℕ → PlanRecord → Bool
fielded_at v fields ts i r = same_fields (fields_in v.bytes fields r.fields) (fields_of v.functions (plan_in ts i))

abbrev pub fielded : View → List StoredField → List PlanRecord → Bool
fielded v fields rs = all_ok (fielded_at v fields (plan_trees v fields rs)) 0 rs

-- names are well formed, and no total stands in a Projection
abbrev pub well_formed : Functions → Plan → Bool
well_formed F (table k q ns) = good_name q && every good_name ns
well_formed F (projection es i) = not (any (is_total F) es)
well_formed F (filter e i) = true
well_formed F (sort ks i) = true
well_formed F (limit s c i) = true
well_formed F (aggregate gs ts i) = true
well_formed F (join k cs l r) = true
well_formed F (subquery_alias n i) = good_name n
well_formed F (union i is) = true
