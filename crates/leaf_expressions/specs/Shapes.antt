-- A node over one input, apart from the input; cited by src/shape.rt.
--     node_over s i      the node of the shape s over the input i
--     tree_with v s p      the shape s over the plan p
--     there_in v s, short s, totals_in v s      its expressions are there; its lists are not too long; an Aggregate's totals are totals
use Rattle.std.specs.Prelude.{Bool, true, ◌&&◌, map, length, nat_le}
use Rattle.plan.specs.Calls.{all_below, below}
use Rattle.plan.specs.Fields.{every}
use Rattle.plan.specs.Functions.{is_total}
use Rattle.plan.specs.Model.{expr_in, exprs_in}
use Rattle.plan.specs.Plans.{Plan}
use Rattle.plan.specs.Plans.Plan.{aggregate, filter, sort}
use Rattle.entries.specs.declared.node.PlanId.{PlanId}
use Rattle.stored.specs.Making.{key_numbers, new_key}
use Rattle.stored.specs.declared.node.NewNode.{NewNode}
use Rattle.stored.specs.declared.node.NewNode.TheVariants as NewNodes
use Rattle.terms.specs.Views.{View, numbers_of}
use Rattle.leaf_expressions.specs.declared.shape.Shape.{Shape}
use Rattle.leaf_expressions.specs.declared.shape.Shape.TheVariants.{Filter, Sort, Aggregate}

abbrev pub node_over : Shape → PlanId → NewNode
node_over (Filter e) i = NewNodes.Filter i e
node_over (Sort ks) i = NewNodes.Sort i ks
node_over (Aggregate gs us) i = NewNodes.Aggregate i gs us

abbrev pub tree_with : View → Shape → Plan → Plan
tree_with v (Filter e) i = filter (expr_in v.trees e.0) i
tree_with v (Sort ks) i = sort (map (new_key v.trees) ks.now) i
tree_with v (Aggregate gs us) i = aggregate (exprs_in v.trees (numbers_of gs.now)) (exprs_in v.trees (numbers_of us.now)) i

abbrev pub there_in : View → Shape → Bool
there_in v (Filter e) = below (length v.trees) e.0
there_in v (Sort ks) = all_below (length v.trees) (key_numbers ks.now)
there_in v (Aggregate gs us) = all_below (length v.trees) (numbers_of gs.now) && all_below (length v.trees) (numbers_of us.now)

abbrev pub short : Shape → Bool
short (Filter e) = true
short (Sort ks) = nat_le (length ks.now) 16
short (Aggregate gs us) = nat_le (length gs.now) 16 && nat_le (length us.now) 16

abbrev pub totals_in : View → Shape → Bool
totals_in v (Filter e) = true
totals_in v (Sort ks) = true
totals_in v (Aggregate gs us) = every (is_total v.functions) (exprs_in v.trees (numbers_of us.now))
