-- A node that is to be made; cited by src/placing.rt, src/own.rt and the crates above.
--     tree_over v k ts n      the tree that it would be
--     present_in v k n, bounded n, well_named n, well_placed_in v n      what a building call has asked before: questions 1, 3 and 2, and 4 of a Projection
--     inputs_for n      the numbers of its inputs
--     entries_for n, bytes_for n      the list entries and the bytes of its own that it takes
use Rattle.std.specs.Prelude.{ℕ, ◌+◌, Bool, true, not, ◌&&◌, List, [], ◌∷◌, map, length, nat_le}
use Rattle.plan.specs.Names.{good_name}
use Rattle.plan.specs.Terms.{Expr}
use Rattle.plan.specs.Plans.{Plan, Key}
use Rattle.plan.specs.Plans.Plan.{table, projection, filter, sort, limit, aggregate, join, subquery_alias}
use Rattle.plan.specs.Fields.{any, every}
use Rattle.plan.specs.Functions.{is_total}
use Rattle.plan.specs.Model.{expr_in, exprs_in, plan_in, plans_in}
use Rattle.plan.specs.Calls.{below, all_below, between, parts, union_of}
use Rattle.terms.specs.Views.{View, numbers_of}
use Rattle.entries.specs.declared.node.PlanId.{PlanId}
use Rattle.stored.specs.declared.node.NewNode.{NewNode}
use Rattle.stored.specs.declared.node.NewNode.TheVariants.{Table, Projection, Filter, Sort, Limit, Aggregate, Join, SubqueryAlias, Union}
use Rattle.stored.specs.declared.node.SortKey.{SortKey}

abbrev pub new_key : List Expr → SortKey → Key
new_key ts k = record { by = expr_in ts k.by.0; direction = k.direction }

abbrev pub key_numbers : List SortKey → List ℕ
key_numbers ks = map (λ k. k.by.0) ks

abbrev pub input_numbers : List PlanId → List ℕ
input_numbers ps = map (λ p. p.0) ps

-- over these expressions and plans, as the node k
abbrev pub tree_over : View → ℕ → List Plan → NewNode → Plan
tree_over v k ts (Table q ns) = table k q.now (parts ns.now)
tree_over v k ts (Projection i l) = projection (exprs_in v.trees (numbers_of l.now)) (plan_in ts i.0)
tree_over v k ts (Filter i e) = filter (expr_in v.trees e.0) (plan_in ts i.0)
tree_over v k ts (Sort i ks) = sort (map (new_key v.trees) ks.now) (plan_in ts i.0)
tree_over v k ts (Limit i s c) = limit s c (plan_in ts i.0)
tree_over v k ts (Aggregate i gs us) = aggregate (exprs_in v.trees (numbers_of gs.now)) (exprs_in v.trees (numbers_of us.now)) (plan_in ts i.0)
tree_over v k ts (Join j l r cs) = join j (exprs_in v.trees (numbers_of cs.now)) (plan_in ts l.0) (plan_in ts r.0)
tree_over v k ts (SubqueryAlias i n) = subquery_alias n.now (plan_in ts i.0)
tree_over v k ts (Union is) = union_of (plans_in ts (input_numbers is.now))

-- every node below k and every expression that it names is there
abbrev pub present_in : View → ℕ → NewNode → Bool
present_in v k (Table q ns) = true
present_in v k (Projection i l) = below k i.0 && all_below (length v.trees) (numbers_of l.now)
present_in v k (Filter i e) = below k i.0 && below (length v.trees) e.0
present_in v k (Sort i ks) = below k i.0 && all_below (length v.trees) (key_numbers ks.now)
present_in v k (Limit i s c) = below k i.0
present_in v k (Aggregate i gs us) = below k i.0 && (all_below (length v.trees) (numbers_of gs.now) && all_below (length v.trees) (numbers_of us.now))
present_in v k (Join j l r cs) = (below k l.0 && below k r.0) && all_below (length v.trees) (numbers_of cs.now)
present_in v k (SubqueryAlias i n) = below k i.0
present_in v k (Union is) = all_below k (input_numbers is.now)

-- its lists are not too long
abbrev pub bounded : NewNode → Bool
bounded (Table q ns) = nat_le (length (parts ns.now)) 64
bounded (Projection i l) = nat_le (length l.now) 64
bounded (Filter i e) = true
bounded (Sort i ks) = nat_le (length ks.now) 16
bounded (Limit i s c) = true
bounded (Aggregate i gs us) = nat_le (length gs.now) 16 && nat_le (length us.now) 16
bounded (Join k l r cs) = nat_le (length cs.now) 16
bounded (SubqueryAlias i n) = true
bounded (Union is) = between 1 8 (length is.now)

-- its names are well formed
abbrev pub well_named : NewNode → Bool
well_named (Table q ns) = good_name q.now && every good_name (parts ns.now)
well_named (Projection i l) = true
well_named (Filter i e) = true
well_named (Sort i ks) = true
well_named (Limit i s c) = true
well_named (Aggregate i gs us) = true
well_named (Join k l r cs) = true
well_named (SubqueryAlias i n) = good_name n.now
well_named (Union is) = true

-- no total stands in a Projection
abbrev pub well_placed_in : View → NewNode → Bool
well_placed_in v (Table q ns) = true
well_placed_in v (Projection i l) = not (any (is_total v.functions) (exprs_in v.trees (numbers_of l.now)))
well_placed_in v (Filter i e) = true
well_placed_in v (Sort i ks) = true
well_placed_in v (Limit i s c) = true
well_placed_in v (Aggregate i gs us) = true
well_placed_in v (Join k l r cs) = true
well_placed_in v (SubqueryAlias i n) = true
well_placed_in v (Union is) = true

abbrev pub entries_for : NewNode → ℕ
entries_for (Table q ns) = 0
entries_for (Projection i l) = length l.now
entries_for (Filter i e) = 0
entries_for (Sort i ks) = length ks.now
entries_for (Limit i s c) = 0
entries_for (Aggregate i gs us) = length gs.now + length us.now
entries_for (Join k l r cs) = length cs.now
entries_for (SubqueryAlias i n) = 0
entries_for (Union is) = length is.now

abbrev pub bytes_for : NewNode → ℕ
bytes_for (Table q ns) = length q.now + length ns.now
bytes_for (Projection i l) = 0
bytes_for (Filter i e) = 0
bytes_for (Sort i ks) = 0
bytes_for (Limit i s c) = 0
bytes_for (Aggregate i gs us) = 0
bytes_for (Join k l r cs) = 0
bytes_for (SubqueryAlias i n) = length n.now
bytes_for (Union is) = 0

-- the numbers of its inputs
abbrev pub inputs_for : NewNode → List ℕ
inputs_for (Table q ns) = []
inputs_for (Projection i l) = i.0 ∷ []
inputs_for (Filter i e) = i.0 ∷ []
inputs_for (Sort i ks) = i.0 ∷ []
inputs_for (Limit i s c) = i.0 ∷ []
inputs_for (Aggregate i gs us) = i.0 ∷ []
inputs_for (Join k l r cs) = l.0 ∷ r.0 ∷ []
inputs_for (SubqueryAlias i n) = i.0 ∷ []
inputs_for (Union is) = input_numbers is.now
