-- Rendered names: what a column is called that has no name of its own.
--     rendered fs e      the name of the expression e, where fs are the functions
--     hexadecimal n      sixteen lower hexadecimal digits
--     field_of fs e      the field that an expression has in a Projection or an Aggregate
use Rattle.std.specs.Prelude.{ℕ, zero, suc, ◌+◌, ◌/◌, ◌%◌, true, false, cond, List, [], ◌∷◌, ◌++◌, codes, nat_lt, to_bits}
use Rattle.std.specs.Float.{binary64}
use Rattle.std.specs.Fmt.{signed_decimal}
use Rattle.plan.specs.Names.{Name}
use Rattle.plan.specs.Terms.{Qualifier, Field, Expr, Exprs, Literal}
use Rattle.plan.specs.Terms.Qualifier.{unqualified, qualified}
use Rattle.plan.specs.Terms.Literal.{null, truth, whole, real, text}
use Rattle.plan.specs.Terms.Expr.{literal, reference, alias, call}
use Rattle.plan.specs.Terms.Exprs.{none, more}
use Rattle.plan.specs.Functions.{Functions, function_at, name_in}

abbrev pub hex_digit : ℕ → ℕ
hex_digit d = cond (nat_lt d 10) (48 + d) (87 + d)

-- the k lowest hexadecimal digits of n, before acc
abbrev pub hex_onto : ℕ → ℕ → List ℕ → List ℕ
hex_onto zero n acc = acc
hex_onto (suc k) n acc = hex_onto k (n / 16) (hex_digit (n % 16) ∷ acc)

abbrev pub hexadecimal : ℕ → Name
hexadecimal n = hex_onto 16 n []

abbrev pub rendered_literal : Literal → Name
rendered_literal null = codes "null"
rendered_literal (truth true) = codes "true"
rendered_literal (truth false) = codes "false"
rendered_literal (whole n) = signed_decimal n
rendered_literal (real x) = hexadecimal (to_bits binary64 x)
rendered_literal (text t) = t

-- a qualifier and the dot after it
abbrev pub dotted : Qualifier → Name
dotted unqualified = []
dotted (qualified q) = q ++ 46 ∷ []

abbrev mutual
  pub rendered : Functions → Expr → Name
  rendered fs (literal v) = rendered_literal v
  rendered fs (reference f) = dotted f.qualifier ++ f.name
  rendered fs (alias e f) = f.name
  rendered fs (call n es) = name_in (function_at fs n) ++ (40 ∷ (rendered_all fs es ++ (41 ∷ [])))

  -- parted by one blank
  pub rendered_all : Functions → Exprs → Name
  rendered_all fs none = []
  rendered_all fs (more e es) = rendered fs e ++ rendered_rest fs es

  pub rendered_rest : Functions → Exprs → Name
  rendered_rest fs none = []
  rendered_rest fs (more e es) = 32 ∷ (rendered fs e ++ rendered_rest fs es)

abbrev pub unqualified_field : Name → Field
unqualified_field n = record { qualifier = unqualified; name = n }

-- a reference's and an alias's own qualifier and name; else the rendered name
abbrev pub field_of : Functions → Expr → Field
field_of fs (literal v) = unqualified_field (rendered fs (literal v))
field_of fs (reference f) = f
field_of fs (alias e f) = f
field_of fs (call n es) = unqualified_field (rendered fs (call n es))
