use Rattle.std.proofs.Common.{◌∙◌, rules}
use Rattle.plan.specs.Questions.{short_name}
use Rattle.plan.specs.Model.{exprs_in}
use Rattle.terms.specs.Views.{numbers_of}
use Rattle.terms.proofs.Walks.{every-both}
use Rattle.tables.specs.Holding.{view_in}
use Rattle.tables.proofs.Lent.{short-lent}
use Rattle.asking.proofs.asking.both_short.Goals as goal

pub returns-then-has_short_names : goal.returns-then-has_short_names
returns-then-has_short_names c =
    let t = c.args.tables.now in
    let fs = numbers_of c.args.first.now in
    let ss = numbers_of c.args.second.now in
    let a = c.has_short_names.ensures ∙ short-lent t _ c.terms.ensures fs in
    let b = c.has_short_names-then-has_short_names.ensures ∙ short-lent t _ c.terms-then-has_short_names.ensures ss in
    let both = every-both (short_name (view_in t).functions) (exprs_in (view_in t).trees fs) (exprs_in (view_in t).trees ss) in
    search (rules, a, b, both)

pub returns-else-has_short_names : goal.returns-else-has_short_names
returns-else-has_short_names c =
    let t = c.args.tables.now in
    let fs = numbers_of c.args.first.now in
    let a = c.has_short_names.ensures ∙ short-lent t _ c.terms.ensures fs in
    let both = every-both (short_name (view_in t).functions) (exprs_in (view_in t).trees fs) (exprs_in (view_in t).trees (numbers_of c.args.second.now)) in
    search (rules, a, both)
