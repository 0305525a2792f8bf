use Rattle.plan.specs.Calls.Call.{make_literal}
use Rattle.expression.specs.Building.{given_literal}
use Rattle.terms.specs.Views.{view_of}
use Rattle.tables.proofs.Answers.{literal-answers, still-held}
use Rattle.lexicon.proofs.Begun.{at-once}
use Rattle.tables.proofs.tables.Tables.literal.Goals as goal

pub invariant_of-self : goal.invariant_of-self
invariant_of-self c = still-held c.args.self.now (view_of c.literal.new.terms) (make_literal (given_literal c.args.given)) c.literal.result c.literal.ensures.answer

pub returns : goal.returns
returns c =
    record {
      answer = literal-answers c.args.self.now (view_of c.literal.new.terms) (given_literal c.args.given) c.literal.result c.literal.ensures.answer;
      begins = record { terms = c.literal.ensures.begins; fields = at-once c.args.self.now.fields; plans = at-once c.args.self.now.plans };
    }
