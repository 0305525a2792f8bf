use Rattle.std.proofs.Common.{◌≡◌, ◌-◌, List, [], ◌∷◌, length, refl, ap, arith}
use Rattle.plan.specs.Functions.{Functions}
use Rattle.plan.specs.Model.{exprs_in}
use Rattle.plan.specs.Rendering.{rendered_all, rendered_rest}
use Rattle.plan.specs.Terms.{Expr, arguments}
use Rattle.terms.specs.Views.{view_of, numbers_of}
use Rattle.terms.proofs.Rendered.{call-width}
use Rattle.expression.proofs.calling.Arguments.call_width.Goals as goal

-- the first argument has no blank before it
one_less : (fs : Functions) (ts : List Expr) → length (rendered_all fs (arguments ts)) ≡ length (rendered_rest fs (arguments ts)) - 1
one_less fs [] = refl
one_less fs (t ∷ ts) = omega arith

pub returns : goal.returns
returns c =
    let v = view_of c.args.self.terms.now in
    let ts = exprs_in v.trees (numbers_of c.args.self.ids.now) in
    omega (arith, ap length c.name_of.ensures, call-width v.functions c.args.number ts, one_less v.functions ts, c.blank_widths.ensures.value, c.saturating_sub.ensures)
