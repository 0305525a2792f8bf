use Rattle.std.proofs.Common.{◌≡◌, ℤ, Result, subst, w64}
use Rattle.std.proofs.lemmas.Int.{to_z-of_z}
use Rattle.plan.specs.Calls.Call.{make_literal}
use Rattle.plan.specs.Model.{Model}
use Rattle.plan.specs.Terms.Literal.{whole as whole_literal}
use Rattle.plan.specs.declared.fault.Fault.{Fault}
use Rattle.rewriting.specs.Book.{Answers}
use Rattle.rewriting.specs.Book.Request.{build}
use Rattle.entries.specs.declared.node.ExprId.{ExprId}
use Rattle.tables.specs.Answering.{answered_expr}
use Rattle.tables.specs.Holding.{model_of}
use Rattle.rewriting.proofs.Reached.{reached-further}
use Rattle.book.proofs.opened.OpenBook.whole.Goals as goal

said : (m m' : Model) (r : Result ExprId Fault) (n k : ℤ) → k ≡ n → Answers m (build (make_literal (whole_literal k))) (answered_expr r) m' → Answers m (build (make_literal (whole_literal n))) (answered_expr r) m'
said m m' r n k e a = subst (λ x. Answers m (build (make_literal (whole_literal x))) (answered_expr r) m') e a

pub invariant_of-self : goal.invariant_of-self
invariant_of-self c = record { reached = reached-further _ _ (build _) _ c.args.self.now.reached c.literal.ensures.answer }

pub returns : goal.returns
returns c =
    said (model_of c.args.self.now.tables) (model_of c.literal.new.self) c.literal.result c.args.n _ (to_z-of_z w64 c.args.n c.ranges.n) c.literal.ensures.answer
