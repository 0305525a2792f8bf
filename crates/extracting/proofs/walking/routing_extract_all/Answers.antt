use Rattle.std.proofs.Common.{◌≡◌, Err, sym, subst, arith, rules}
use Rattle.plan.specs.Model.{exprs_in}
use Rattle.tables.specs.Holding.{view_in}
use Rattle.terms.specs.Views.{numbers_of}
use Rattle.entries.specs.declared.node.ExprId.{ExprId}
use Rattle.extracting.specs.Extractors.{extractor_of}
use Rattle.extracting.specs.Walking.{AnsweredAll, walks_in}
use Rattle.extracting.proofs.Cases.{inputs-stay}
use Rattle.extracting.proofs.Growing.{longer}
use Rattle.extracting.proofs.Lists.{all-kept, all-walked, refused, there, turn}
use Rattle.extracting.proofs.walking.routing_extract_all.Goals as goal

abbrev first : ExprId
first = record { 0 = 0 }

pub routing_extract-requires : goal.routing_extract-requires
routing_extract-requires c =
    let t = c.args.tables.now in
    let x = c.args.extractor.now in
    let u = c.loop-e.tables in
    let y = c.loop-e.extractor in
    let i = c.loop-e.e-index in
    let k = c.loop-e.invariant.partly in
    record {
      inputs = inputs-stay t u k.grows c.args.inputs c.requires.inputs;
      present = omega (arith, there t c.args.inputs c.args.list.now x c.requires.present u y c.loop-e.made i k c.loop-e-test.true first, longer t u k.grows);
      inside = k.inside;
      few = k.few;
      columns = c.loop-e.invariant.columns;
    }

pub returns-in_err-part-clause-answer : goal.returns-in_err-part-clause-answer
returns-in_err-part-clause-answer c =
    let t = c.args.tables.now in
    let x = c.args.extractor.now in
    let u = c.loop-e.tables in
    let y = c.loop-e.extractor in
    let i = c.loop-e.e-index in
    let k = c.loop-e.invariant.partly in
    let d = c.in_err-part.field-0.0 in
    let is-err : c.from_residual.result ≡ Err d = search rules in
    subst (λ q. AnsweredAll t (walks_in t c.args.inputs (exprs_in (view_in t).trees (numbers_of c.args.list.now)) (extractor_of (view_in t) x)) q c.loop-e.made c.routing_extract.new.tables c.routing_extract.new.extractor) (sym is-err)
    (refused t c.args.inputs c.args.list.now x c.requires.present u y c.loop-e.made i k c.loop-e-test.true first d c.in_err-part.ensures.answer)

pub loop-e-preserved : goal.loop-e-preserved
loop-e-preserved c =
    let t = c.args.tables.now in
    let x = c.args.extractor.now in
    let u = c.loop-e.tables in
    let y = c.loop-e.extractor in
    let i = c.loop-e.e-index in
    let k = c.loop-e.invariant.partly in
    record {
      partly = turn t c.args.inputs c.args.list.now x c.requires.present u y c.loop-e.made i k c.loop-e-test.true first c.routing_extract.new.tables c.routing_extract.new.extractor c.in_ok-part.part c.in_ok-part.ensures.answer c.in_ok-part.ensures.kept c.push.new.self c.push.ensures c.in_ok-part.ensures.begins;
      columns = c.in_ok-part.ensures.columns;
    }

pub returns-clause-answer : goal.returns-clause-answer
returns-clause-answer c =
    let t = c.args.tables.now in
    let x = c.args.extractor.now in
    let u = c.loop-e.tables in
    let y = c.loop-e.extractor in
    let i = c.loop-e.e-index in
    let k = c.loop-e.invariant.partly in
    all-walked t c.args.inputs c.args.list.now x c.requires.present u y c.loop-e.made i k c.loop-e-test.false

pub returns-clause-kept : goal.returns-clause-kept
returns-clause-kept c =
    let t = c.args.tables.now in
    let x = c.args.extractor.now in
    let u = c.loop-e.tables in
    let y = c.loop-e.extractor in
    let i = c.loop-e.e-index in
    let k = c.loop-e.invariant.partly in
    all-kept t c.args.inputs c.args.list.now x c.requires.present u y c.loop-e.made i k c.loop-e-test.false
