use Rattle.std.proofs.Common.{refl}
use Rattle.plan.specs.Calls.Call.{make_alias}
use Rattle.expression.specs.Building.{given_field}
use Rattle.terms.specs.Views.{view_of}
use Rattle.tables.proofs.Answers.{expr-answers, still-held}
use Rattle.lexicon.proofs.Begun.{at-once}
use Rattle.tables.proofs.tables.Tables.alias.Goals as goal

pub invariant_of-self : goal.invariant_of-self
invariant_of-self c = still-held c.args.self.now (view_of c.alias.new.terms) (make_alias c.args.inner.0 (given_field c.args.name.now c.args.qualifier)) c.alias.result c.alias.ensures.answer

pub returns : goal.returns
returns c =
    record {
      answer = expr-answers c.args.self.now (view_of c.alias.new.terms) (make_alias c.args.inner.0 (given_field c.args.name.now c.args.qualifier)) (record { asks = refl; makes = refl; costs = refl; no-plan = refl; no-inputs = refl; number = refl; expressions = refl; plans = refl; fields = refl }) c.alias.result c.alias.ensures.answer;
      begins = record { terms = c.alias.ensures.begins; fields = at-once c.args.self.now.fields; plans = at-once c.args.self.now.plans };
    }
