-- Trace: which Projection at or below a node has an alias of a given name.
--     aliased n e, holds_alias n p      the expression is an alias named n, whatever its qualifier; the plan is a Projection whose list has one
--     nodes_in p      the plan and all that it stands on: a node before its inputs, these from left to right
--     Below q p      q is among them
--     traced n p, first test xs      whether one of them holds the alias; the first of a list that passes
--     trace_asked m i n      the questions of a trace, with their answers
--     FoundAt m i n q, Traced m i n a      the node q is the first that holds the alias; what a trace may answer
use Rattle.std.specs.Prelude.{◌≡◌, ℕ, ◌<◌, Bool, true, false, cond, List, [], ◌∷◌, ◌++◌, length, Some, None, Option, slice_index_or}
use Rattle.plan.specs.Names.{Name, good_name}
use Rattle.plan.specs.Terms.{Expr}
use Rattle.plan.specs.Terms.Expr.{literal, reference, alias, call}
use Rattle.plan.specs.Plans.{Plan, Plans}
use Rattle.plan.specs.Plans.Plan.{table, projection, filter, sort, limit, aggregate, join, subquery_alias, union}
use Rattle.plan.specs.Plans.Plans.{done, also}
use Rattle.plan.specs.Fields.{any, named}
use Rattle.plan.specs.Faults.{Asked}
use Rattle.plan.specs.Model.{Model, no_plan, count_of, tree_at}
use Rattle.plan.specs.Calls.{below}
use Rattle.plan.specs.declared.fault.Question.TheVariants.{Present, Named}

abbrev pub aliased : Name → Expr → Bool
aliased n (literal v) = false
aliased n (reference f) = false
aliased n (alias e f) = named n f
aliased n (call k es) = false

abbrev pub holds_alias : Name → Plan → Bool
holds_alias n (table k q ns) = false
holds_alias n (projection es i) = any (aliased n) es
holds_alias n (filter e i) = false
holds_alias n (sort ks i) = false
holds_alias n (limit s c i) = false
holds_alias n (aggregate gs ts i) = false
holds_alias n (join k cs l r) = false
holds_alias n (subquery_alias q i) = false
holds_alias n (union i is) = false

abbrev mutual
  pub nodes_in : Plan → List Plan
  nodes_in (table k q ns) = table k q ns ∷ []
  nodes_in (projection es i) = projection es i ∷ nodes_in i
  nodes_in (filter e i) = filter e i ∷ nodes_in i
  nodes_in (sort ks i) = sort ks i ∷ nodes_in i
  nodes_in (limit s c i) = limit s c i ∷ nodes_in i
  nodes_in (aggregate gs ts i) = aggregate gs ts i ∷ nodes_in i
  nodes_in (join k cs l r) = join k cs l r ∷ (nodes_in l ++ nodes_in r)
  nodes_in (subquery_alias q i) = subquery_alias q i ∷ nodes_in i
  nodes_in (union i is) = union i is ∷ (nodes_in i ++ nodes_in_all is)

  pub nodes_in_all : Plans → List Plan
  nodes_in_all done = []
  nodes_in_all (also i is) = nodes_in i ++ nodes_in_all is

pub record Below (q p : Plan) : Type 0 where
  pub place : ℕ
  pub inside : place < length (nodes_in p)
  pub stands : slice_index_or (nodes_in p) place no_plan ≡ q

abbrev pub traced : Name → Plan → Bool
traced n p = any (holds_alias n) (nodes_in p)

abbrev pub first : {A : Type 0} → (A → Bool) → List A → Option A
first test [] = None
first test (x ∷ xs) = cond (test x) (Some x) (first test xs)

abbrev pub trace_asked : Model → ℕ → Name → List Asked
trace_asked m i n = (Present, below (count_of m) i) ∷ (Named, good_name n) ∷ []

pub record FoundAt (m : Model) (i : ℕ) (n : Name) (q : ℕ) : Type 0 where
  pub present : q < count_of m
  pub holds : holds_alias n (tree_at m q) ≡ true
  pub under : Below (tree_at m q) (tree_at m i)
  pub topmost : first (holds_alias n) (nodes_in (tree_at m i)) ≡ Some (tree_at m q)

-- none exactly if no node at or below holds the alias
abbrev pub Traced : Model → ℕ → Name → Option ℕ → Type 0
Traced m i n None = traced n (tree_at m i) ≡ false
Traced m i n (Some q) = FoundAt m i n q
