-- Plans, and the fields of a plan's rows.
--     Plan, Plans      a plan as a tree; a Table carries its node number, so that two tables of one name are two
--     fields_of fs p      the fields of the plan p
--     plan_size_of      how many nodes it has
use Rattle.std.specs.Prelude.{ℕ, ◌+◌, Bool, true, false, List, [], ◌∷◌, ◌++◌, map}
use Rattle.plan.specs.Names.{Name}
use Rattle.plan.specs.Terms.{Field, Expr}
use Rattle.plan.specs.Terms.Qualifier.{qualified}
use Rattle.plan.specs.Functions.{Functions}
use Rattle.plan.specs.Rendering.{field_of, unqualified_field}
use Rattle.plan.specs.declared.code.JoinKind.{JoinKind}
use Rattle.plan.specs.declared.code.JoinKind.TheVariants.{Inner, Left, Right, Full, LeftSemi, LeftAnti, RightSemi, RightAnti}
use Rattle.plan.specs.declared.code.Direction.{Direction}

-- a Sort key: what to order by, and how
pub record Key : Type 0 where
  pub by : Expr
  pub direction : Direction

mutual
  pub data Plan : Type 0 where
    -- node number, qualifier, the fields' names
    table : ℕ → Name → List Name → Plan
    projection : List Expr → Plan → Plan
    filter : Expr → Plan → Plan
    sort : List Key → Plan → Plan
    -- skip, count
    limit : ℕ → ℕ → Plan → Plan
    -- groups, totals
    aggregate : List Expr → List Expr → Plan → Plan
    join : JoinKind → List Expr → Plan → Plan → Plan
    subquery_alias : Name → Plan → Plan
    union : Plan → Plans → Plan

  pub data Plans : Type 0 where
    done : Plans
    also : Plan → Plans → Plans

-- which side's columns a join's rows have
abbrev pub shows_left : JoinKind → Bool
shows_left Inner = true
shows_left Left = true
shows_left Right = true
shows_left Full = true
shows_left LeftSemi = true
shows_left LeftAnti = true
shows_left RightSemi = false
shows_left RightAnti = false

abbrev pub shows_right : JoinKind → Bool
shows_right Inner = true
shows_right Left = true
shows_right Right = true
shows_right Full = true
shows_right LeftSemi = false
shows_right LeftAnti = false
shows_right RightSemi = true
shows_right RightAnti = true

abbrev pub kept_if : {A : Type 0} → Bool → List A → List A
kept_if true xs = xs
kept_if false xs = []

abbrev pub shown : {A : Type 0} → JoinKind → List A → List A → List A
shown k ls rs = kept_if (shows_left k) ls ++ kept_if (shows_right k) rs

abbrev pub qualified_by : Name → Field → Field
qualified_by q f = record { qualifier = qualified q; name = f.name }

abbrev pub without_qualifier : Field → Field
without_qualifier f = unqualified_field f.name

abbrev pub column_of : Name → Name → Field
column_of q n = record { qualifier = qualified q; name = n }

abbrev pub fields_of : Functions → Plan → List Field
fields_of fs (table k q ns) = map (column_of q) ns
fields_of fs (projection es i) = map (field_of fs) es
fields_of fs (filter e i) = fields_of fs i
fields_of fs (sort ks i) = fields_of fs i
fields_of fs (limit s c i) = fields_of fs i
fields_of fs (aggregate gs ts i) = map (field_of fs) (gs ++ ts)
fields_of fs (join k cs l r) = shown k (fields_of fs l) (fields_of fs r)
fields_of fs (subquery_alias n i) = map (qualified_by n) (fields_of fs i)
fields_of fs (union i is) = map without_qualifier (fields_of fs i)

abbrev mutual
  pub plan_size_of : Plan → ℕ
  plan_size_of (table k q ns) = 1
  plan_size_of (projection es i) = plan_size_of i + 1
  plan_size_of (filter e i) = plan_size_of i + 1
  plan_size_of (sort ks i) = plan_size_of i + 1
  plan_size_of (limit s c i) = plan_size_of i + 1
  plan_size_of (aggregate gs ts i) = plan_size_of i + 1
  plan_size_of (join k cs l r) = plan_size_of l + plan_size_of r + 1
  plan_size_of (subquery_alias n i) = plan_size_of i + 1
  plan_size_of (union i is) = plan_size_of i + plan_sizes_of is + 1

  pub plan_sizes_of : Plans → ℕ
  plan_sizes_of done = 0
  plan_sizes_of (also i is) = plan_size_of i + plan_sizes_of is

-- the inputs of a Union after the first
abbrev pub further_inputs : List Plan → Plans
further_inputs [] = done
further_inputs (p ∷ ps) = also p (further_inputs ps)
