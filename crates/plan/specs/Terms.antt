-- Fields and expressions.
--     Qualifier, Field      which relation a column is of, if that is said; a qualifier and a name
--     Literal, Expr, Exprs      constants; references, literals, aliases and calls
--     same_field, same_literal, same_expr      equality as a test: reals by their bits, so 0.0 and -0.0 differ
--     size_of, sizes_of      how many nodes a tree has
--     references_of, references_of_all      the references of an expression, from left to right
use Rattle.std.specs.Prelude.{ℕ, ◌+◌, Bool, true, false, not, ◌&&◌, List, [], ◌∷◌, ◌++◌, ℤ, pos, negsuc, ◌==◌, to_bits, Float}
use Rattle.std.specs.Float.{binary64}
use Rattle.std.specs.Str.{bytes_eq}
use Rattle.plan.specs.Names.{Name}

pub data Qualifier : Type 0 where
  unqualified : Qualifier
  qualified : Name → Qualifier

-- a column as a plan shows it, and what a reference asks for
pub record Field : Type 0 where
  pub qualifier : Qualifier
  pub name : Name

pub data Literal : Type 0 where
  null : Literal
  truth : Bool → Literal
  whole : ℤ → Literal
  real : Float → Literal
  text : Name → Literal

mutual
  pub data Expr : Type 0 where
    literal : Literal → Expr
    reference : Field → Expr
    alias : Expr → Field → Expr
    -- the number of a declared function, and its arguments
    call : ℕ → Exprs → Expr

  pub data Exprs : Type 0 where
    none : Exprs
    more : Expr → Exprs → Exprs

abbrev pub same_qualifier : Qualifier → Qualifier → Bool
same_qualifier unqualified unqualified = true
same_qualifier unqualified (qualified b) = false
same_qualifier (qualified a) unqualified = false
same_qualifier (qualified a) (qualified b) = bytes_eq a b

abbrev pub is_unqualified : Qualifier → Bool
is_unqualified unqualified = true
is_unqualified (qualified a) = false

abbrev pub same_field : Field → Field → Bool
same_field f g = same_qualifier f.qualifier g.qualifier && bytes_eq f.name g.name

abbrev pub same_truth : Bool → Bool → Bool
same_truth true b = b
same_truth false b = not b

abbrev pub same_whole : ℤ → ℤ → Bool
same_whole (pos m) (pos n) = m == n
same_whole (pos m) (negsuc n) = false
same_whole (negsuc m) (pos n) = false
same_whole (negsuc m) (negsuc n) = m == n

-- all not-a-numbers have one pattern here
abbrev pub same_real : Float → Float → Bool
same_real x y = to_bits binary64 x == to_bits binary64 y

abbrev pub same_literal : Literal → Literal → Bool
same_literal null null = true
same_literal null (truth b) = false
same_literal null (whole n) = false
same_literal null (real y) = false
same_literal null (text t) = false
same_literal (truth a) null = false
same_literal (truth a) (truth b) = same_truth a b
same_literal (truth a) (whole n) = false
same_literal (truth a) (real y) = false
same_literal (truth a) (text t) = false
same_literal (whole m) null = false
same_literal (whole m) (truth b) = false
same_literal (whole m) (whole n) = same_whole m n
same_literal (whole m) (real y) = false
same_literal (whole m) (text t) = false
same_literal (real x) null = false
same_literal (real x) (truth b) = false
same_literal (real x) (whole n) = false
same_literal (real x) (real y) = same_real x y
same_literal (real x) (text t) = false
same_literal (text s) null = false
same_literal (text s) (truth b) = false
same_literal (text s) (whole n) = false
same_literal (text s) (real y) = false
same_literal (text s) (text t) = bytes_eq s t

abbrev mutual
  pub same_expr : Expr → Expr → Bool
  same_expr (literal v) (literal w) = same_literal v w
  same_expr (literal v) (reference g) = false
  same_expr (literal v) (alias d g) = false
  same_expr (literal v) (call m ds) = false
  same_expr (reference f) (literal w) = false
  same_expr (reference f) (reference g) = same_field f g
  same_expr (reference f) (alias d g) = false
  same_expr (reference f) (call m ds) = false
  same_expr (alias e f) (literal w) = false
  same_expr (alias e f) (reference g) = false
  same_expr (alias e f) (alias d g) = same_expr e d && same_field f g
  same_expr (alias e f) (call m ds) = false
  same_expr (call n es) (literal w) = false
  same_expr (call n es) (reference g) = false
  same_expr (call n es) (alias d g) = false
  same_expr (call n es) (call m ds) = n == m && same_exprs es ds

  pub same_exprs : Exprs → Exprs → Bool
  same_exprs none none = true
  same_exprs none (more d ds) = false
  same_exprs (more e es) none = false
  same_exprs (more e es) (more d ds) = same_expr e d && same_exprs es ds

abbrev mutual
  pub size_of : Expr → ℕ
  size_of (literal v) = 1
  size_of (reference f) = 1
  size_of (alias e f) = size_of e + 1
  size_of (call n es) = sizes_of es + 1

  pub sizes_of : Exprs → ℕ
  sizes_of none = 0
  sizes_of (more e es) = size_of e + sizes_of es

abbrev mutual
  pub references_of : Expr → List Field
  references_of (literal v) = []
  references_of (reference f) = f ∷ []
  references_of (alias e f) = references_of e
  references_of (call n es) = references_of_all es

  pub references_of_all : Exprs → List Field
  references_of_all none = []
  references_of_all (more e es) = references_of e ++ references_of_all es

-- a list of expressions as the arguments of a call
abbrev pub arguments : List Expr → Exprs
arguments [] = none
arguments (e ∷ es) = more e (arguments es)

abbrev pub listed : Exprs → List Expr
listed none = []
listed (more e es) = e ∷ listed es
