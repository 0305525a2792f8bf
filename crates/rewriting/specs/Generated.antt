-- Generated aliases, and the first number that a call may take for one.
--     generated n      the prefix, `_` and the nine digits of n
--     countable n      n is a number that an alias may have
--     highest n names      the highest number among names, or n
--     next_number m      the least number from 100,000,000 above all numbers in the book m
use Rattle.std.specs.Prelude.{ℕ, zero, suc, ◌+◌, ◌/◌, ◌%◌, max, Bool, List, [], ◌∷◌, ◌++◌, map, nat_le}
use Rattle.plan.specs.Names.{Name, prefix, number_of, most_number}
use Rattle.plan.specs.Terms.{Qualifier, Field, Literal, Expr, Exprs}
use Rattle.plan.specs.Terms.Qualifier.{unqualified, qualified}
use Rattle.plan.specs.Terms.Literal.{null, truth, whole, real, text}
use Rattle.plan.specs.Terms.Expr.{literal, reference, alias, call}
use Rattle.plan.specs.Terms.Exprs.{none, more}
use Rattle.plan.specs.Functions.{Functions}
use Rattle.plan.specs.Plans.{Plan, Plans, fields_of}
use Rattle.plan.specs.Plans.Plan.{table, projection, filter, sort, limit, aggregate, join, subquery_alias, union}
use Rattle.plan.specs.Plans.Plans.{done, also}
use Rattle.plan.specs.Model.{Model, Node}

-- the k lowest decimal digits of n, before acc
unfoldable pub digits_onto : ℕ → ℕ → List ℕ → List ℕ
digits_onto zero n acc = acc
digits_onto (suc k) n acc = digits_onto k (n / 10) ((48 + n % 10) ∷ acc)

unfoldable pub generated : ℕ → Name
generated n = prefix ++ (95 ∷ digits_onto 9 n [])

unfoldable pub countable : ℕ → Bool
countable n = nat_le n most_number

-- the names and the text literals of a tree
unfoldable pub qualifier_names : Qualifier → List Name
qualifier_names unqualified = []
qualifier_names (qualified q) = q ∷ []

unfoldable pub field_names : Field → List Name
field_names f = f.name ∷ qualifier_names f.qualifier

unfoldable pub literal_names : Literal → List Name
literal_names null = []
literal_names (truth b) = []
literal_names (whole n) = []
literal_names (real x) = []
literal_names (text t) = t ∷ []

unfoldable mutual
  pub expr_names : Expr → List Name
  expr_names (literal v) = literal_names v
  expr_names (reference f) = field_names f
  expr_names (alias e f) = field_names f ++ expr_names e
  expr_names (call n es) = exprs_names es

  pub exprs_names : Exprs → List Name
  exprs_names none = []
  exprs_names (more e es) = expr_names e ++ exprs_names es

unfoldable pub list_names : List Expr → List Name
list_names [] = []
list_names (e ∷ es) = expr_names e ++ list_names es

unfoldable mutual
  pub plan_names : Plan → List Name
  plan_names (table k q ns) = q ∷ ns
  plan_names (projection es i) = list_names es ++ plan_names i
  plan_names (filter e i) = expr_names e ++ plan_names i
  plan_names (sort ks i) = list_names (map (λ k. k.by) ks) ++ plan_names i
  plan_names (limit s c i) = plan_names i
  plan_names (aggregate gs ts i) = list_names (gs ++ ts) ++ plan_names i
  plan_names (join k cs l r) = list_names cs ++ (plan_names l ++ plan_names r)
  plan_names (subquery_alias n i) = n ∷ plan_names i
  plan_names (union i is) = plan_names i ++ plans_names is

  pub plans_names : Plans → List Name
  plans_names done = []
  plans_names (also i is) = plan_names i ++ plans_names is

unfoldable pub highest : ℕ → List Name → ℕ
highest n [] = n
highest n (x ∷ xs) = highest (max n (number_of x)) xs

-- the names of a node's fields too, rendered ones among them
unfoldable pub node_names : Functions → List Node → List Name
node_names F [] = []
node_names F (p ∷ ps) = map (λ f. f.name) (fields_of F p.tree) ++ (plan_names p.tree ++ node_names F ps)

-- every name and text literal of a book; a function's name has no number
unfoldable pub book_names : Model → List Name
book_names m = list_names m.exprs ++ node_names m.functions m.plans

unfoldable pub next_number : Model → ℕ
next_number m = suc (highest 99999999 (book_names m))
