-- The functions that a book declares, and what follows from a declaration.
--     Function, Functions      a declaration; what stands under each number 0 to 63
--     is_total      an expression that is a total, under aliases at most
--     Placement, placement_of      where the optimizer would have an expression
--     null_keeping      an expression that is null wherever all its columns are
use Rattle.std.specs.Prelude.{ℕ, Bool, true, false, cond, not, ◌&&◌, ◌||◌, List, [], ◌∷◌, Some, None, Option, slice_index_or}
use Rattle.plan.specs.Names.{Name}
use Rattle.plan.specs.Terms.{Expr, Exprs, Literal}
use Rattle.plan.specs.Terms.Literal.{null, truth, whole, real, text}
use Rattle.plan.specs.Terms.Expr.{literal, reference, alias, call}
use Rattle.plan.specs.Terms.Exprs.{none, more}
use Rattle.plan.specs.declared.code.Rule.{Rule}
use Rattle.plan.specs.declared.code.Rule.TheVariants.{Stay, FirstColumn, AnyColumn, Always, Total}

-- strict: the engine gives null wherever an argument is null
pub record Function : Type 0 where
  pub name : Name
  pub arity : ℕ
  pub rule : Rule
  pub strict : Bool

abbrev pub Functions : Type 0
Functions = List (Option Function)

-- the declaration of a number, if there is one
abbrev pub function_at : Functions → ℕ → Option Function
function_at fs n = slice_index_or fs n None

abbrev pub name_in : Option Function → Name
name_in None = []
name_in (Some f) = f.name

abbrev pub rule_in : Option Function → Rule
rule_in None = Stay
rule_in (Some f) = f.rule

abbrev pub strict_in : Option Function → Bool
strict_in None = false
strict_in (Some f) = f.strict

abbrev pub is_total_rule : Rule → Bool
is_total_rule Stay = false
is_total_rule FirstColumn = false
is_total_rule AnyColumn = false
is_total_rule Always = false
is_total_rule Total = true

-- a call under rule 4, under aliases at most
abbrev pub is_total : Functions → Expr → Bool
is_total fs (literal v) = false
is_total fs (reference f) = false
is_total fs (alias e f) = is_total fs e
is_total fs (call n es) = is_total_rule (rule_in (function_at fs n))

-- Marked is what the optimizer moves towards the tables
pub data Placement : Type 0 where
  column constant marked keep : Placement

abbrev pub is_constant : Placement → Bool
is_constant column = false
is_constant constant = true
is_constant marked = false
is_constant keep = false

abbrev pub is_keep : Placement → Bool
is_keep column = false
is_keep constant = false
is_keep marked = false
is_keep keep = true

abbrev pub is_marked : Placement → Bool
is_marked column = false
is_marked constant = false
is_marked marked = true
is_marked keep = false

abbrev pub all_constant : List Placement → Bool
all_constant [] = true
all_constant (p ∷ ps) = is_constant p && all_constant ps

abbrev pub none_kept : List Placement → Bool
none_kept [] = true
none_kept (p ∷ ps) = not (is_keep p) && none_kept ps

-- the first argument is a column or marked, and the others are constants
abbrev pub first_column : List Placement → Bool
first_column [] = false
first_column (p ∷ ps) = (not (is_constant p) && not (is_keep p)) && all_constant ps

abbrev pub marked_if : Bool → Placement
marked_if b = cond b marked keep

abbrev pub placed_by : Rule → List Placement → Placement
placed_by Stay ps = keep
placed_by FirstColumn ps = marked_if (first_column ps)
placed_by AnyColumn ps = marked_if (none_kept ps && not (all_constant ps))
placed_by Always ps = marked
placed_by Total ps = keep

abbrev mutual
  pub placement_of : Functions → Expr → Placement
  placement_of fs (literal v) = constant
  placement_of fs (reference f) = column
  placement_of fs (alias e f) = placement_of fs e
  placement_of fs (call n es) = placed_by (rule_in (function_at fs n)) (placements_of fs es)

  pub placements_of : Functions → Exprs → List Placement
  placements_of fs none = []
  placements_of fs (more e es) = placement_of fs e ∷ placements_of fs es

abbrev pub is_null : Literal → Bool
is_null null = true
is_null (truth b) = false
is_null (whole n) = false
is_null (real x) = false
is_null (text t) = false

abbrev mutual
  pub null_keeping : Functions → Expr → Bool
  null_keeping fs (literal v) = is_null v
  null_keeping fs (reference f) = true
  null_keeping fs (alias e f) = null_keeping fs e
  null_keeping fs (call n es) = strict_in (function_at fs n) && one_null_keeping fs es

  pub one_null_keeping : Functions → Exprs → Bool
  one_null_keeping fs none = false
  one_null_keeping fs (more e es) = null_keeping fs e || one_null_keeping fs es
