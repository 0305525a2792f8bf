use Rattle.std.proofs.Common.{◌≡◌, true, false, Err, length, map, refl, sym, ap, ap₂, ◌∙◌, subst, rules}
use Rattle.extracting.specs.Extractors.{extractor_of}
use Rattle.extracting.specs.Walking.{walks_in}
use Rattle.extracting.specs.declared.inputs.Inputs.TheVariants.{One}
use Rattle.plan.specs.Model.{exprs_in}
use Rattle.rewriting.specs.Routing.{empty_extractor, has_extractable_expr}
use Rattle.stored.specs.Keys.{key_of}
use Rattle.stored.specs.Making.{new_key}
use Rattle.stored.specs.Stored.{run_keys}
use Rattle.swapping.proofs.Remade.{keys-copied}
use Rattle.tables.proofs.Lent.{entries-lent, present-lent}
use Rattle.tables.specs.Holding.{model_of, view_in}
use Rattle.terms.specs.Views.{numbers_of}
use Rattle.leaf_expressions.proofs.Keying.{by-present, by-read}
use Rattle.leaf_expressions.proofs.Sole.{marked-lent, walked}
use Rattle.leaf_expressions.proofs.Sorted.{sort-built, sort-counted, sort-found, sort-old, sort-refused, sort-renamed, sort-stopped, sort-there, sort-unmarked}
use Rattle.leaf_expressions.proofs.sort.extract_sort.Goals as goal
use Rattle.leaf_expressions.proofs.sort.extract_sort.Goals.{After-has_extractable_expr, After-routing_extract_all}
use Rattle.leaf_expressions.specs.Comes.{Comes, extracted}
use Rattle.leaf_expressions.specs.Keys.{keys_with}

-- whether something is Marked in what the node is sorted by
marked : (c : After-has_extractable_expr) (b : _) → c.has_extractable_expr.result ≡ b → has_extractable_expr (view_in c.args.tables.now).functions (map (λ k. k.by) (run_keys (view_in c.args.tables.now) c.args.keys)) ≡ b
marked c b h =
    let t = c.args.tables.now in
    let read = c.as_slice.ensures ∙ c.copied-given.ensures ∙ ap (map key_of) (entries-lent t _ c.terms.ensures c.args.keys _ c.entries.ensures) in
    ap (has_extractable_expr (view_in t).functions) (sym (by-read (view_in t) c.args.keys c.as_slice.result.now read c.as_slice-2.result.now (c.as_slice-2.ensures ∙ c.sorted_by-by.ensures)))
    ∙ marked-lent t c.terms-2.result.now c.as_slice-2.result.now _ b c.terms-2.ensures c.has_extractable_expr.ensures h

-- the keys that were copied are those of the node
given : (c : After-routing_extract_all) → map (new_key (view_in c.args.tables.now).trees) c.as_slice.result.now ≡ run_keys (view_in c.args.tables.now) c.args.keys
given c =
    let t = c.args.tables.now in
    keys-copied (view_in t) c.args.keys c.as_slice.result.now (c.as_slice.ensures ∙ c.copied-given.ensures ∙ ap (map key_of) (entries-lent t _ c.terms.ensures c.args.keys _ c.entries.ensures))

-- the walk is the one that the definition makes
walk-is : (c : After-routing_extract_all) → walks_in c.args.tables.now (One c.args.input) (exprs_in (view_in c.args.tables.now).trees (numbers_of c.as_slice-3.result.now)) (extractor_of (view_in c.args.tables.now) c.starting_at-extractor.result)
    ≡ walked c.args.tables.now c.args.input.0 (map (λ k. k.by) (run_keys (view_in c.args.tables.now) c.args.keys))
walk-is c =
    let t = c.args.tables.now in
    let v = view_in t in
    let read = c.as_slice.ensures ∙ c.copied-given.ensures ∙ ap (map key_of) (entries-lent t _ c.terms.ensures c.args.keys _ c.entries.ensures) in
    ap₂ (walks_in t (One c.args.input)) (by-read v c.args.keys c.as_slice.result.now read c.as_slice-3.result.now (c.as_slice-3.ensures ∙ c.sorted_by-by.ensures)) (c.starting_at-extractor.ensures.value v ∙ ap empty_extractor c.next_number.ensures.value)

pub has_extractable_expr-requires : goal.has_extractable_expr-requires
has_extractable_expr-requires c =
    let t = c.args.tables.now in
    let read = c.as_slice.ensures ∙ c.copied-given.ensures ∙ ap (map key_of) (entries-lent t _ c.terms.ensures c.args.keys _ c.entries.ensures) in
    present-lent t c.terms-2.result.now c.terms-2.ensures (numbers_of c.as_slice-2.result.now)
    (by-present (view_in t) c.args.keys c.as_slice.result.now read c.as_slice-2.result.now (c.as_slice-2.ensures ∙ c.sorted_by-by.ensures) c.requires.keys)

pub returns-then-not-has_extractable_expr-clause-comes : goal.returns-then-not-has_extractable_expr-clause-comes
returns-then-not-has_extractable_expr-clause-comes c =
    let t = c.args.tables.now in
    let ks = run_keys (view_in t) c.args.keys in
    sort-unmarked t c.args.p c.args.input ks c.requires.tree (walked t c.args.input.0 (map (λ k. k.by) ks)) refl (model_of t)
    (marked (goal.at.returns-then-not-has_extractable_expr-clause-comes c).After-has_extractable_expr false c.if-not-has_extractable_expr.true)

pub routing_extract_all-requires-clause-present : goal.routing_extract_all-requires-clause-present
routing_extract_all-requires-clause-present c =
    let t = c.args.tables.now in
    let read = c.as_slice.ensures ∙ c.copied-given.ensures ∙ ap (map key_of) (entries-lent t _ c.terms.ensures c.args.keys _ c.entries.ensures) in
    by-present (view_in t) c.args.keys c.as_slice.result.now read c.as_slice-3.result.now (c.as_slice-3.ensures ∙ c.sorted_by-by.ensures) c.requires.keys

pub routing_extract_all-requires-clause-columns : goal.routing_extract_all-requires-clause-columns
routing_extract_all-requires-clause-columns c = c.starting_at-extractor.ensures.columns (view_in c.args.tables.now) _

pub returns-in_err-routing_extract_all-clause-comes : goal.returns-in_err-routing_extract_all-clause-comes
returns-in_err-routing_extract_all-clause-comes c =
    let t = c.args.tables.now in
    let m = model_of c.routing_extract_all.new.tables in
    let at = goal.at.returns-in_err-routing_extract_all-clause-comes c in
    let f = c.in_err-routing_extract_all.field-0.0 in
    let is-err : c.from_residual.result ≡ Err f = search rules in
    subst (λ r. Comes (model_of t) (extracted t c.args.p.0) r m) (sym is-err)
    (sort-stopped t c.args.p c.args.input (run_keys (view_in t) c.args.keys) c.requires.tree _ (walk-is at.After-routing_extract_all) (marked at.After-has_extractable_expr true c.if-not-has_extractable_expr.false) f m c.in_err-routing_extract_all.ensures.answer)

pub returns-then-not-is_new-clause-comes : goal.returns-then-not-is_new-clause-comes
returns-then-not-is_new-clause-comes c =
    let t = c.args.tables.now in
    let u = c.routing_extract_all.new.tables in
    let x = c.routing_extract_all.new.extractor in
    let at = goal.at.returns-then-not-is_new-clause-comes c in
    let old : x.is_new ≡ false = search rules in
    sort-old t c.args.p c.args.input (run_keys (view_in t) c.args.keys) c.requires.tree _ (walk-is at.After-routing_extract_all) (marked at.After-has_extractable_expr true c.if-not-has_extractable_expr.false) u x c.routing_extract_all.new.made
    c.in_ok-routing_extract_all.ensures.answer (model_of u) old

pub keys_with-keys-requires-clause-same : goal.keys_with-keys-requires-clause-same
keys_with-keys-requires-clause-same c =
    let t = c.args.tables.now in
    let at = goal.at.keys_with-keys-requires-clause-same c in
    ap length c.as_slice-5.ensures
    ∙ sort-counted t c.args.p c.args.input (run_keys (view_in t) c.args.keys) c.requires.tree _ (walk-is at.After-routing_extract_all) (marked at.After-has_extractable_expr true c.if-not-has_extractable_expr.false) c.routing_extract_all.new.tables
    c.routing_extract_all.new.extractor c.routing_extract_all.new.made c.in_ok-routing_extract_all.ensures.answer c.as_slice.result.now (given at.After-routing_extract_all)
    ∙ ap length (c.as_slice.ensures ∙ sym c.as_slice-4.ensures)

pub rebuilt_over-requires-clause-found : goal.rebuilt_over-requires-clause-found
rebuilt_over-requires-clause-found c =
    let t = c.args.tables.now in
    let at = goal.at.rebuilt_over-requires-clause-found c in
    sort-found t c.args.p c.args.input (run_keys (view_in t) c.args.keys) c.requires.tree _ (walk-is at.After-routing_extract_all) (marked at.After-has_extractable_expr true c.if-not-has_extractable_expr.false) c.routing_extract_all.new.tables
    c.routing_extract_all.new.extractor c.routing_extract_all.new.made c.in_ok-routing_extract_all.ensures.answer c.requires.good c.requires.node c.requires.input

pub rebuilt_over-requires-clause-there : goal.rebuilt_over-requires-clause-there
rebuilt_over-requires-clause-there c =
    let t = c.args.tables.now in
    let at = goal.at.rebuilt_over-requires-clause-there c in
    let made = c.as_slice-6.ensures ∙ c.keys_with-keys.ensures ∙ ap₂ keys_with (c.as_slice-4.ensures ∙ sym c.as_slice.ensures) c.as_slice-5.ensures in
    sort-there t c.args.p c.args.input (run_keys (view_in t) c.args.keys) c.requires.tree _ (walk-is at.After-routing_extract_all) (marked at.After-has_extractable_expr true c.if-not-has_extractable_expr.false) c.routing_extract_all.new.tables
    c.routing_extract_all.new.extractor c.routing_extract_all.new.made c.in_ok-routing_extract_all.ensures.answer c.as_slice.result.now (given at.After-routing_extract_all) c.as_slice-6.result.now made

pub rebuilt_over-requires-clause-renamed : goal.rebuilt_over-requires-clause-renamed
rebuilt_over-requires-clause-renamed c =
    let t = c.args.tables.now in
    let at = goal.at.rebuilt_over-requires-clause-renamed c in
    sort-renamed t c.args.p c.args.input (run_keys (view_in t) c.args.keys) c.requires.tree _ (walk-is at.After-routing_extract_all) (marked at.After-has_extractable_expr true c.if-not-has_extractable_expr.false) c.routing_extract_all.new.tables
    c.routing_extract_all.new.extractor c.routing_extract_all.new.made c.in_ok-routing_extract_all.ensures.answer

pub returns-in_err-new-clause-comes : goal.returns-in_err-new-clause-comes
returns-in_err-new-clause-comes c =
    let t = c.args.tables.now in
    let x = c.routing_extract_all.new.extractor in
    let m = model_of c.rebuilt_over.new.tables in
    let at = goal.at.returns-in_err-new-clause-comes c in
    let made = c.as_slice-6.ensures ∙ c.keys_with-keys.ensures ∙ ap₂ keys_with (c.as_slice-4.ensures ∙ sym c.as_slice.ensures) c.as_slice-5.ensures in
    let new : x.is_new ≡ true = search rules in
    let f = c.in_err-new.field-0.0 in
    let is-err : c.from_residual-in_err-new.result ≡ Err f = search rules in
    subst (λ r. Comes (model_of t) (extracted t c.args.p.0) r m) (sym is-err)
    (sort-refused t c.args.p c.args.input (run_keys (view_in t) c.args.keys) c.requires.tree _ (walk-is at.After-routing_extract_all) (marked at.After-has_extractable_expr true c.if-not-has_extractable_expr.false) c.routing_extract_all.new.tables
    x c.routing_extract_all.new.made c.in_ok-routing_extract_all.ensures.answer c.as_slice.result.now (given at.After-routing_extract_all) c.as_slice-6.result.now made new f m c.in_err-new.ensures.steps)

pub returns-clause-comes : goal.returns-clause-comes
returns-clause-comes c =
    let t = c.args.tables.now in
    let x = c.routing_extract_all.new.extractor in
    let at = goal.at.returns-clause-comes c in
    let made = c.as_slice-6.ensures ∙ c.keys_with-keys.ensures ∙ ap₂ keys_with (c.as_slice-4.ensures ∙ sym c.as_slice.ensures) c.as_slice-5.ensures in
    let new : x.is_new ≡ true = search rules in
    sort-built t c.args.p c.args.input (run_keys (view_in t) c.args.keys) c.requires.tree _ (walk-is at.After-routing_extract_all) (marked at.After-has_extractable_expr true c.if-not-has_extractable_expr.false) c.routing_extract_all.new.tables
    x c.routing_extract_all.new.made c.in_ok-routing_extract_all.ensures.answer c.as_slice.result.now (given at.After-routing_extract_all) c.as_slice-6.result.now made new c.in_ok-new.new (model_of c.rebuilt_over.new.tables) c.in_ok-new.ensures.steps c.in_ok-new.ensures.last
