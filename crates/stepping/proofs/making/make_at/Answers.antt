use Rattle.std.proofs.Common.{Ok, Err, sym, subst}
use Rattle.rewriting.specs.Extracting.{made}
use Rattle.tables.specs.Holding.{model_of, view_in}
use Rattle.tables.specs.Making.{tree_for}
use Rattle.stepping.proofs.Made.{made-step}
use Rattle.stepping.specs.Steps.{Steps}
use Rattle.stepping.proofs.making.make_at.Goals as goal

pub returns-in-Ok-clause-steps : goal.returns-in-Ok-clause-steps
returns-in-Ok-clause-steps c = made-step c.args.tables.now c.make.new.tables c.args.node c.args.stage c.args.level c.requires.kind c.requires.present (Ok c.in-Ok.p) c.in-Ok.ensures.made

pub returns-in-Err-clause-steps : goal.returns-in-Err-clause-steps
returns-in-Err-clause-steps c =
    let t = c.args.tables.now in
    let u = c.make.new.tables in
    subst (λ f. Steps (model_of t) 0 (made (view_in t).functions c.args.stage c.args.level (tree_for t c.args.node)) (Err f) (model_of u)) (sym c.at_stage.ensures)
    (made-step t u c.args.node c.args.stage c.args.level c.requires.kind c.requires.present (Err c.in-Err.refused) c.in-Err.ensures.made)
