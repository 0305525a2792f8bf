use Rattle.std.proofs.Common.{◌≡◌, ◌∙◌, Err, rules, sym, ap, refl, subst}
use Rattle.extracting.proofs.Growing.{longer}
use Rattle.extracting.proofs.Steps.{below-more}
use Rattle.extracting.specs.Extractors.{extractor_of}
use Rattle.extracting.specs.Walking.{Stopped, WalkedAll, walks_in}
use Rattle.extracting.specs.declared.inputs.Inputs.TheVariants.{One}
use Rattle.leaf_expressions.proofs.Twice.{both-walked, first-stopped, second-stopped}
use Rattle.leaf_expressions.specs.Walks.{BothAnswered, both_in}
use Rattle.plan.specs.Model.{exprs_in}
use Rattle.rewriting.specs.Generated.{next_number}
use Rattle.rewriting.specs.Outlay.{list_space}
use Rattle.rewriting.specs.Routing.{Extractor, empty_extractor}
use Rattle.tables.specs.Holding.{model_of, view_in}
use Rattle.terms.specs.Views.{numbers_of}
use Rattle.leaf_expressions.proofs.aggregate.route.Goals as goal

pub routing_extract_all-requires-clause-columns : goal.routing_extract_all-requires-clause-columns
routing_extract_all-requires-clause-columns c = c.starting_at-extractor.ensures.columns (view_in c.args.tables.now) _

pub returns-in_err-routing_extract_all-clause-answer : goal.returns-in_err-routing_extract_all-clause-answer
returns-in_err-routing_extract_all-clause-answer c =
    let t = c.args.tables.now in
    let i = c.args.input in
    let gs = exprs_in (view_in t).trees (numbers_of c.args.groups.now) in
    let us = exprs_in (view_in t).trees (numbers_of c.args.totals.now) in
    let g = empty_extractor (next_number (model_of t)) in
    let e : extractor_of (view_in t) c.starting_at-extractor.result ≡ g = c.starting_at-extractor.ensures.value (view_in t) ∙ ap empty_extractor c.next_number.ensures.value in
    let f = c.in_err-routing_extract_all.field-0.0 in
    let is-err : c.from_residual.result ≡ Err f = search rules in
    subst (λ q. BothAnswered t (both_in t i gs us) q c.routing_extract_all.new.tables) (sym is-err)
    (first-stopped t i gs us g f (subst (λ (h : Extractor). Stopped t (list_space (walks_in t (One i) gs h).0) (walks_in t (One i) gs h).1 f) e c.in_err-routing_extract_all.ensures.answer))

pub routing_extract_all-requires-2-clause-present : goal.routing_extract_all-requires-2-clause-present
routing_extract_all-requires-2-clause-present c =
    let t = c.args.tables.now in
    let u = c.routing_extract_all.new.tables in
    below-more _ _ (numbers_of c.args.totals.now) (longer t u c.in_ok-routing_extract_all.ensures.answer.grows) c.requires.totals

pub returns-in_err-routing_extract_all-2-clause-answer : goal.returns-in_err-routing_extract_all-2-clause-answer
returns-in_err-routing_extract_all-2-clause-answer c =
    let t = c.args.tables.now in
    let u = c.routing_extract_all.new.tables in
    let i = c.args.input in
    let gs = exprs_in (view_in t).trees (numbers_of c.args.groups.now) in
    let us = exprs_in (view_in t).trees (numbers_of c.args.totals.now) in
    let g = empty_extractor (next_number (model_of t)) in
    let e : extractor_of (view_in t) c.starting_at-extractor.result ≡ g = c.starting_at-extractor.ensures.value (view_in t) ∙ ap empty_extractor c.next_number.ensures.value in
    let y = c.routing_extract_all.new.extractor in
    let rs = c.routing_extract_all.new.made in
    let a = subst (λ (h : Extractor). WalkedAll t (walks_in t (One i) gs h) rs u y) e c.in_ok-routing_extract_all.ensures.answer in
    let f = c.in_err-routing_extract_all-2.field-0.0 in
    let is-err : c.from_residual-in_err-routing_extract_all-2.result ≡ Err f = search rules in
    subst (λ q. BothAnswered t (both_in t i gs us) q c.routing_extract_all-2.new.tables) (sym is-err)
    (second-stopped t i gs us g u y rs a (numbers_of c.args.totals.now) c.requires.totals refl f c.in_err-routing_extract_all-2.ensures.answer)

pub returns-clause-answer : goal.returns-clause-answer
returns-clause-answer c =
    let t = c.args.tables.now in
    let u = c.routing_extract_all.new.tables in
    let i = c.args.input in
    let gs = exprs_in (view_in t).trees (numbers_of c.args.groups.now) in
    let us = exprs_in (view_in t).trees (numbers_of c.args.totals.now) in
    let g = empty_extractor (next_number (model_of t)) in
    let e : extractor_of (view_in t) c.starting_at-extractor.result ≡ g = c.starting_at-extractor.ensures.value (view_in t) ∙ ap empty_extractor c.next_number.ensures.value in
    let y = c.routing_extract_all.new.extractor in
    let rs = c.routing_extract_all.new.made in
    let a = subst (λ (h : Extractor). WalkedAll t (walks_in t (One i) gs h) rs u y) e c.in_ok-routing_extract_all.ensures.answer in
    both-walked t i gs us g u y rs a (numbers_of c.args.totals.now) c.requires.totals refl c.routing_extract_all-2.new.tables c.routing_extract_all-2.new.extractor c.routing_extract_all-2.new.made c.in_ok-routing_extract_all-2.ensures.answer
