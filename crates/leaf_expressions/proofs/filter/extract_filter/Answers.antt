use Rattle.std.proofs.Common.{◌≡◌, true, false, [], ◌∷◌, Err, sym, refl, ap, ◌∙◌, subst, rules}
use Rattle.extracting.specs.Extractors.{extractor_of}
use Rattle.plan.specs.Model.{expr_in}
use Rattle.rewriting.specs.Generated.{next_number}
use Rattle.rewriting.specs.Routing.{empty_extractor, has_extractable_expr}
use Rattle.tables.specs.Holding.{model_of, view_in}
use Rattle.leaf_expressions.proofs.Filtered.{filter-built, filter-found, filter-old, filter-refused, filter-renamed, filter-stopped, filter-unmarked}
use Rattle.leaf_expressions.proofs.Sole.{marked-lent}
use Rattle.leaf_expressions.proofs.filter.extract_filter.Goals as goal
use Rattle.leaf_expressions.proofs.filter.extract_filter.Goals.{After-routing_extract}
use Rattle.leaf_expressions.specs.Comes.{Comes, extracted}

-- the walk begins where the definition does, and something is Marked
start : (c : After-routing_extract) → extractor_of (view_in c.args.tables.now) c.starting_at-extractor.result ≡ empty_extractor (next_number (model_of c.args.tables.now))
start c = c.starting_at-extractor.ensures.value (view_in c.args.tables.now) ∙ ap empty_extractor c.next_number.ensures.value

some : (c : After-routing_extract) → has_extractable_expr (view_in c.args.tables.now).functions (expr_in (view_in c.args.tables.now).trees c.args.predicate.0 ∷ []) ≡ true
some c = marked-lent c.args.tables.now c.terms.result.now (c.args.predicate ∷ []) _ true c.terms.ensures c.has_extractable_expr.ensures c.if-not-has_extractable_expr.false

pub returns-then-not-has_extractable_expr-clause-comes : goal.returns-then-not-has_extractable_expr-clause-comes
returns-then-not-has_extractable_expr-clause-comes c =
    let t = c.args.tables.now in
    filter-unmarked t c.args.p c.args.input (expr_in (view_in t).trees c.args.predicate.0) c.requires.tree (empty_extractor (next_number (model_of t))) refl (model_of t)
    (marked-lent t c.terms.result.now (c.args.predicate ∷ []) _ false c.terms.ensures c.has_extractable_expr.ensures c.if-not-has_extractable_expr.true)

pub routing_extract-requires-clause-columns : goal.routing_extract-requires-clause-columns
routing_extract-requires-clause-columns c = c.starting_at-extractor.ensures.columns (view_in c.args.tables.now) _

pub returns-in_err-predicate-clause-comes : goal.returns-in_err-predicate-clause-comes
returns-in_err-predicate-clause-comes c =
    let t = c.args.tables.now in
    let m = model_of c.routing_extract.new.tables in
    let at = (goal.at.returns-in_err-predicate-clause-comes c).After-routing_extract in
    let f = c.in_err-predicate.field-0.0 in
    let is-err : c.from_residual.result ≡ Err f = search rules in
    subst (λ r. Comes (model_of t) (extracted t c.args.p.0) r m) (sym is-err)
    (filter-stopped t c.args.p c.args.input (expr_in (view_in t).trees c.args.predicate.0) c.requires.tree _ (start at) (some at) f m c.in_err-predicate.ensures.answer)

pub returns-then-not-is_new-clause-comes : goal.returns-then-not-is_new-clause-comes
returns-then-not-is_new-clause-comes c =
    let t = c.args.tables.now in
    let u = c.routing_extract.new.tables in
    let x = c.routing_extract.new.extractor in
    let at = (goal.at.returns-then-not-is_new-clause-comes c).After-routing_extract in
    let old : x.is_new ≡ false = search rules in
    filter-old t c.args.p c.args.input (expr_in (view_in t).trees c.args.predicate.0) c.requires.tree _ (start at) (some at) u x c.in_ok-predicate.predicate.0 c.in_ok-predicate.ensures.answer (model_of u) old

pub rebuilt_over-requires-clause-found : goal.rebuilt_over-requires-clause-found
rebuilt_over-requires-clause-found c =
    let t = c.args.tables.now in
    let at = (goal.at.rebuilt_over-requires-clause-found c).After-routing_extract in
    filter-found t c.args.p c.args.input (expr_in (view_in t).trees c.args.predicate.0) c.requires.tree _ (start at) (some at) c.routing_extract.new.tables c.routing_extract.new.extractor c.in_ok-predicate.predicate.0
    c.in_ok-predicate.ensures.answer c.requires.good c.requires.node c.requires.input

pub rebuilt_over-requires-clause-renamed : goal.rebuilt_over-requires-clause-renamed
rebuilt_over-requires-clause-renamed c =
    let t = c.args.tables.now in
    let at = (goal.at.rebuilt_over-requires-clause-renamed c).After-routing_extract in
    filter-renamed t c.args.p c.args.input (expr_in (view_in t).trees c.args.predicate.0) c.requires.tree _ (start at) (some at) c.routing_extract.new.tables c.routing_extract.new.extractor c.in_ok-predicate.predicate.0 c.in_ok-predicate.ensures.answer

pub returns-in_err-new-clause-comes : goal.returns-in_err-new-clause-comes
returns-in_err-new-clause-comes c =
    let t = c.args.tables.now in
    let x = c.routing_extract.new.extractor in
    let m = model_of c.rebuilt_over.new.tables in
    let at = (goal.at.returns-in_err-new-clause-comes c).After-routing_extract in
    let new : x.is_new ≡ true = search rules in
    let f = c.in_err-new.field-0.0 in
    let is-err : c.from_residual-in_err-new.result ≡ Err f = search rules in
    subst (λ r. Comes (model_of t) (extracted t c.args.p.0) r m) (sym is-err)
    (filter-refused t c.args.p c.args.input (expr_in (view_in t).trees c.args.predicate.0) c.requires.tree _ (start at) (some at) c.routing_extract.new.tables x c.in_ok-predicate.predicate.0 c.in_ok-predicate.ensures.answer new f m
    c.in_err-new.ensures.steps)

pub returns-clause-comes : goal.returns-clause-comes
returns-clause-comes c =
    let t = c.args.tables.now in
    let x = c.routing_extract.new.extractor in
    let at = (goal.at.returns-clause-comes c).After-routing_extract in
    let new : x.is_new ≡ true = search rules in
    filter-built t c.args.p c.args.input (expr_in (view_in t).trees c.args.predicate.0) c.requires.tree _ (start at) (some at) c.routing_extract.new.tables x c.in_ok-predicate.predicate.0 c.in_ok-predicate.ensures.answer new c.in_ok-new.new
    (model_of c.rebuilt_over.new.tables) c.in_ok-new.ensures.steps c.in_ok-new.ensures.last
