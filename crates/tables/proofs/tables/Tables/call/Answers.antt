use Rattle.std.proofs.Common.{refl}
use Rattle.plan.specs.Calls.Call.{make_call}
use Rattle.terms.specs.Views.{view_of, numbers_of}
use Rattle.tables.proofs.Answers.{expr-answers, still-held}
use Rattle.lexicon.proofs.Begun.{at-once}
use Rattle.tables.proofs.tables.Tables.call.Goals as goal

pub invariant_of-self : goal.invariant_of-self
invariant_of-self c = still-held c.args.self.now (view_of c.call.new.terms) (make_call c.args.function (numbers_of c.args.arguments.now)) c.call.result c.call.ensures.answer

pub returns : goal.returns
returns c =
    record {
      answer = expr-answers c.args.self.now (view_of c.call.new.terms) (make_call c.args.function (numbers_of c.args.arguments.now)) (record { asks = refl; makes = refl; costs = refl; no-plan = refl; no-inputs = refl; number = refl; expressions = refl; plans = refl; fields = refl }) c.call.result c.call.ensures.answer;
      begins = record { terms = c.call.ensures.begins; fields = at-once c.args.self.now.fields; plans = at-once c.args.self.now.plans };
    }
