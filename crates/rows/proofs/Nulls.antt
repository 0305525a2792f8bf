-- A null-keeping expression is null on a row of nulls.
use Rattle.std.proofs.Common.{◌≡◌, ℕ, Bool, true, false, ◌||◌, T, ◌⊎◌, List, refl, inl, inr}
use mir.Facts.{and_yes}
use Rattle.plan.specs.Fields.{any}
use Rattle.plan.specs.Functions.{Functions, function_at, is_null, null_keeping, one_null_keeping, strict_in}
use Rattle.plan.specs.Terms.{Expr, Exprs, Field, Literal}
use Rattle.plan.specs.Terms.Expr.{alias, call, literal, reference}
use Rattle.plan.specs.Terms.Exprs.{more, none}
use Rattle.plan.specs.Terms.Literal.{null as null_literal, real, text, truth, whole}
use Rattle.plan.specs.Values.{is_null_value, null}
use Rattle.rows.proofs.Joins.{get_or-nulls}
use Rattle.rows.proofs.Words.{eval, evals}
use Rattle.rows.specs.Rows.{literal_value, nulls, seek, value_in}
use Rattle.rows.specs.Worlds.{Fitting}

null-value : (v : Literal) → T (is_null v) → literal_value v ≡ null
null-value null_literal h = refl
null-value (truth b) h = absurd h
null-value (whole n) h = absurd h
null-value (real x) h = absurd h
null-value (text t) h = absurd h

pub or_left : (a b : Bool) → T a → T (a || b)
or_left true b h = tt
or_left false b h = absurd h

pub or_right : (a b : Bool) → T b → T (a || b)
or_right true b h = tt
or_right false b h = h

pub or-either : (a b : Bool) → T (a || b) → T a ⊎ T b
or-either true b h = inl tt
or-either false b h = inr h

module _ {F : Functions} (W : Fitting F) (fs : List Field) (n : ℕ) where
  mutual
    unfolding value_in

    pub keeps_null : (e : Expr) → T (null_keeping F e) → eval W fs (nulls n) e ≡ null
    keeps_null (literal v) k = null-value v k
    keeps_null (reference r) k = get_or-nulls n (seek r fs)
    keeps_null (alias e f) k = keeps_null e k
    keeps_null (call m es) k =
        let a = and_yes (strict_in (function_at F m)) (one_null_keeping F es) k in
        W.fits m (evals W fs (nulls n) es) a.0 (keeps-one es a.1)

    keeps-one : (es : Exprs) → T (one_null_keeping F es) → T (any is_null_value (evals W fs (nulls n) es))
    keeps-one none k = absurd k
    keeps-one (more e es) k =
        let v = is_null_value (eval W fs (nulls n) e) in
        let vs = any is_null_value (evals W fs (nulls n) es) in
        elim (or-either (null_keeping F e) (one_null_keeping F es) k) [
          | inl h ↦ or_left v vs (rw (keeps_null e h) tt)
          | inr h ↦ or_right v vs (keeps-one es h)
        ]
