-- Short words for proofs: rows and values in a world that fits.
use Rattle.std.proofs.Common.{ℕ, List}
use Rattle.plan.specs.Functions.{Functions}
use Rattle.plan.specs.Plans.{Plan, Plans}
use Rattle.plan.specs.Terms.{Expr, Exprs, Field}
use Rattle.plan.specs.Values.{Value}
use Rattle.rows.specs.Rows.{further_rows, rows_of, value_in, values_in}
use Rattle.rows.specs.Worlds.{Fitting, Row}

abbrev pub rows : {F : Functions} → Fitting F → Plan → List Row
rows {F} W p = rows_of F W.world p

abbrev pub further : {F : Functions} → Fitting F → ℕ → Plans → List Row
further {F} W n is = further_rows F W.world n is

abbrev pub eval : {F : Functions} → Fitting F → List Field → Row → Expr → Value
eval W fs row e = value_in W.world fs row e

abbrev pub evals : {F : Functions} → Fitting F → List Field → Row → Exprs → List Value
evals W fs row es = values_in W.world fs row es
