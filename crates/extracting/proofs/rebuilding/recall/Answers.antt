use Rattle.std.proofs.Common.{◌≡◌, length, sym, ap, ◌∙◌, arith, subst}
use Rattle.std.proofs.lemmas.List.{length-map}
use Rattle.plan.specs.Calls.{arity_is}
use Rattle.plan.specs.Functions.{function_at}
use Rattle.plan.specs.Model.{expr_in, exprs_in, no_expr, space}
use Rattle.plan.specs.Terms.Expr.{call}
use Rattle.plan.specs.Terms.{arguments}
use Rattle.terms.specs.Acceptance.{acceptable}
use Rattle.terms.specs.Views.{numbers_of}
use Rattle.tables.specs.Holding.{view_in}
use Rattle.lexicon.proofs.Frames.{every-at}
use Rattle.extracting.specs.Walking.{BuiltBy}
use Rattle.extracting.proofs.Accepted.{call-parts}
use Rattle.extracting.proofs.Built.{call-built}
use Rattle.extracting.proofs.rebuilding.recall.Goals as goal

pub returns-clause-answer : goal.returns-clause-answer
returns-clause-answer c =
    let t = c.args.tables.now in
    let v = view_in t in
    let f = c.args.function in
    let us = exprs_in v.trees (numbers_of c.args.given.now) in
    let ns = numbers_of c.args.made.now in
    let p = call-parts v.functions _ f us c.requires.tree (every-at (acceptable v.functions) v.trees c.args.e.0 no_expr c.requires.present t.terms.accepted) in
    let k = length-map c.args.made.now (λ e. e.0) in
    let n : length us ≡ length ns = omega (arith, length-map (numbers_of c.args.given.now) (expr_in v.trees), length-map c.args.given.now (λ e. e.0), k, c.requires.count) in
    let b = call-built t c.call.new.self f ns c.call.result c.requires.made (sym (ap (arity_is (function_at v.functions f)) n) ∙ p.0) c.requires.totals c.requires.small c.call.ensures.answer in
    subst (λ j. BuiltBy t (space 1 0 j 0 0) 0 (call f (arguments (exprs_in v.trees ns))) c.call.result c.call.new.self) k b
