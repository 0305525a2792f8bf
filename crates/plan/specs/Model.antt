-- What a book holds, as contracts speak of it: trees, never table cells.
--     Space, fits, plus      how much of each table is used; whether so much more has room; both together
--     Within a o b      no table grew by more than o from a to b
--     Node, Model      a plan with its origin; a book
--     opened fs text      the book with these functions, this text, and nothing else
--     count_of m, node_at m i, tree_at m i, origin_at m i, inputs_at m i      its nodes, by number
use Rattle.std.specs.Prelude.{ℕ, ◌+◌, ◌≤◌, Bool, ◌&&◌, List, [], map, length, nat_le, slice_index_or}
use Rattle.plan.specs.Terms.{Expr}
use Rattle.plan.specs.Terms.Expr.{literal}
use Rattle.plan.specs.Terms.Literal.{null}
use Rattle.plan.specs.Functions.{Functions}
use Rattle.plan.specs.Plans.{Plan}
use Rattle.plan.specs.Plans.Plan.{table}

-- places in the five tables
pub record Space : Type 0 where
  pub exprs : ℕ
  pub plans : ℕ
  pub entries : ℕ
  pub fields : ℕ
  pub bytes : ℕ

abbrev pub space : ℕ → ℕ → ℕ → ℕ → ℕ → Space
space e p l f b = record { exprs = e; plans = p; entries = l; fields = f; bytes = b }

-- the size of the tables
abbrev pub whole : Space
whole = space 1024 128 2048 2048 16384

abbrev pub fits : Space → Space → Bool
fits used more =
    (nat_le (used.exprs + more.exprs) 1024 && nat_le (used.plans + more.plans) 128)
    && (nat_le (used.entries + more.entries) 2048 && (nat_le (used.fields + more.fields) 2048 && nat_le (used.bytes + more.bytes) 16384))

abbrev pub plus : Space → Space → Space
plus a b = space (a.exprs + b.exprs) (a.plans + b.plans) (a.entries + b.entries) (a.fields + b.fields) (a.bytes + b.bytes)

-- no table grows by more than so much
pub record Within (used more after : Space) : Type 0 where
  pub exprs : after.exprs ≤ used.exprs + more.exprs
  pub plans : after.plans ≤ used.plans + more.plans
  pub entries : after.entries ≤ used.entries + more.entries
  pub fields : after.fields ≤ used.fields + more.fields
  pub bytes : after.bytes ≤ used.bytes + more.bytes

-- the origin is the number of the node that this one was made from; at first its own
pub record Node : Type 0 where
  pub tree : Plan
  pub origin : ℕ

pub record Model : Type 0 where
  pub functions : Functions
  pub exprs : List Expr
  pub plans : List Node
  -- of each node, the numbers of its inputs
  pub inputs : List (List ℕ)
  pub text : List ℕ
  pub used : Space

abbrev pub no_expr : Expr
no_expr = literal null

abbrev pub no_plan : Plan
no_plan = table 0 [] []

abbrev pub expr_in : List Expr → ℕ → Expr
expr_in es i = slice_index_or es i no_expr

abbrev pub plan_in : List Plan → ℕ → Plan
plan_in ps i = slice_index_or ps i no_plan

abbrev pub exprs_in : List Expr → List ℕ → List Expr
exprs_in es is = map (expr_in es) is

abbrev pub plans_in : List Plan → List ℕ → List Plan
plans_in ps is = map (plan_in ps) is

abbrev pub trees_of : Model → List Plan
trees_of m = map (λ n. n.tree) m.plans

abbrev pub no_node : Node
no_node = record { tree = no_plan; origin = 0 }

abbrev pub count_of : Model → ℕ
count_of m = length m.plans

abbrev pub node_at : Model → ℕ → Node
node_at m i = slice_index_or m.plans i no_node

abbrev pub tree_at : Model → ℕ → Plan
tree_at m i = (node_at m i).tree

abbrev pub origin_at : Model → ℕ → ℕ
origin_at m i = (node_at m i).origin

abbrev pub inputs_at : Model → ℕ → List ℕ
inputs_at m i = slice_index_or m.inputs i []

-- a book that was just opened: the functions' names are its text
abbrev pub opened : Functions → List ℕ → Model
opened fs text = record { functions = fs; exprs = []; plans = []; inputs = []; text = text; used = space 0 0 0 0 (length text) }
