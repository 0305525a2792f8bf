use Rattle.std.proofs.Common.{refl}
use Rattle.plan.specs.Calls.Call.{make_reference}
use Rattle.expression.specs.Building.{given_field}
use Rattle.terms.specs.Views.{view_of}
use Rattle.tables.proofs.Answers.{expr-answers, still-held}
use Rattle.lexicon.proofs.Begun.{at-once}
use Rattle.tables.proofs.tables.Tables.reference.Goals as goal

pub invariant_of-self : goal.invariant_of-self
invariant_of-self c = still-held c.args.self.now (view_of c.reference.new.terms) (make_reference (given_field c.args.name.now c.args.qualifier)) c.reference.result c.reference.ensures.answer

pub returns : goal.returns
returns c =
    record {
      answer = expr-answers c.args.self.now (view_of c.reference.new.terms) (make_reference (given_field c.args.name.now c.args.qualifier)) (record { asks = refl; makes = refl; costs = refl; no-plan = refl; no-inputs = refl; number = refl; expressions = refl; plans = refl; fields = refl }) c.reference.result c.reference.ensures.answer;
      begins = record { terms = c.reference.ensures.begins; fields = at-once c.args.self.now.fields; plans = at-once c.args.self.now.plans };
    }
