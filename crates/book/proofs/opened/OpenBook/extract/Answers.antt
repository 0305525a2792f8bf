use Rattle.rewriting.proofs.Reached.{reached-agree, reached-further}
use Rattle.rewriting.specs.Book.Request.{extract}
use Rattle.tables.specs.Holding.{model_of}
use Rattle.book.proofs.Reaching.{extract-answers}
use Rattle.book.proofs.opened.OpenBook.extract.Goals as goal

pub extract_from_plan-requires : goal.extract_from_plan-requires
extract_from_plan-requires c = (reached-agree (model_of c.args.self.now.tables) c.args.self.now.reached).good

pub invariant_of-self : goal.invariant_of-self
invariant_of-self c =
    let t = c.args.self.now.tables in
    record { reached = reached-further _ _ (extract c.args.node.0) _ c.args.self.now.reached (extract-answers t c.args.node.0 _ _ c.extract_from_plan.ensures) }

pub returns : goal.returns
returns c = extract-answers c.args.self.now.tables c.args.node.0 _ _ c.extract_from_plan.ensures
