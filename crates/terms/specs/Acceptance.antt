-- What the calls that make an expression let pass.
--     acceptable fs e      an expression each node of which its own building call accepts
use Rattle.std.specs.Prelude.{◌^◌, Bool, true, not, ◌&&◌, length, nat_lt}
use Rattle.std.specs.Int.Signed.{mag}
use Rattle.plan.specs.Names.{good_name}
use Rattle.plan.specs.Terms.{Literal, Expr, Exprs, listed}
use Rattle.plan.specs.Terms.Literal.{null, truth, whole, real, text}
use Rattle.plan.specs.Terms.Expr.{literal, reference, alias, call}
use Rattle.plan.specs.Terms.Exprs.{none, more}
use Rattle.plan.specs.Functions.{Functions, function_at, is_total}
use Rattle.plan.specs.Fields.{any}
use Rattle.plan.specs.Questions.{small_tree}
use Rattle.plan.specs.Calls.{good_field, good_alias, arity_is}

-- whole numbers have 64 bits
abbrev pub good_literal : Literal → Bool
good_literal null = true
good_literal (truth b) = true
good_literal (whole n) = nat_lt (mag n) (2 ^ 63)
good_literal (real x) = true
good_literal (text t) = good_name t

abbrev mutual
  pub acceptable : Functions → Expr → Bool
  acceptable fs (literal v) = good_literal v
  acceptable fs (reference f) = good_field f
  acceptable fs (alias e f) = acceptable fs e && (good_alias f && small_tree (alias e f))
  acceptable fs (call n es) =
      all_acceptable fs es && (arity_is (function_at fs n) (length (listed es)) && (not (any (is_total fs) (listed es)) && small_tree (call n es)))

  pub all_acceptable : Functions → Exprs → Bool
  all_acceptable fs none = true
  all_acceptable fs (more e es) = acceptable fs e && all_acceptable fs es
