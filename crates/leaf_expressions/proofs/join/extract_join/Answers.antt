use Rattle.std.proofs.Common.{◌≡◌, Err, length, refl, sym, ap, ◌∙◌, subst, arith, rules}
use Rattle.asking.proofs.NodeFacts.{exprs-length}
use Rattle.routing.specs.declared.owning.Side.TheVariants.{First, Second}
use Rattle.stored.specs.Stored.{run_exprs}
use Rattle.tables.proofs.Lent.{present-lent}
use Rattle.tables.specs.Holding.{model_of, view_in}
use Rattle.terms.specs.Views.{numbers_of}
use Rattle.extracting.specs.Walking.{WalkedAll}
use Rattle.leaf_expressions.specs.Comes.{Comes, extracted}
use Rattle.leaf_expressions.proofs.Joins.{built-comes, found-at, list-copied, marked-of, may-rename, nothing-comes, refused-comes, short, stopped-comes, unmarked-comes, walk-stops, walk-went, walked}
use Rattle.leaf_expressions.proofs.join.extract_join.Goals as goal

pub has_extractable_expr-requires : goal.has_extractable_expr-requires
has_extractable_expr-requires c =
    let t = c.args.tables.now in
    present-lent t _ c.terms-2.ensures (numbers_of c.as_slice.result.now) (list-copied t _ c.args.on _ _ _ c.terms.ensures c.entries.ensures c.copied-given.ensures c.as_slice.ensures c.requires.list).there

pub returns-then-not-has_extractable_expr-clause-comes : goal.returns-then-not-has_extractable_expr-clause-comes
returns-then-not-has_extractable_expr-clause-comes c =
    let t = c.args.tables.now in
    let k = list-copied t _ c.args.on _ _ _ c.terms.ensures c.entries.ensures c.copied-given.ensures c.as_slice.ensures c.requires.list in
    let none = marked-of t c.args.on _ k _ c.has_extractable_expr.result c.terms-2.ensures c.has_extractable_expr.ensures ∙ c.if-not-has_extractable_expr.true in
    unmarked-comes t c.args.p.0 c.args.left.0 c.args.right.0 c.args.kind (run_exprs (view_in t) c.args.on) c.requires.tree none (model_of t)

pub routing_extract_all-requires-clause-present : goal.routing_extract_all-requires-clause-present
routing_extract_all-requires-clause-present c =
    (list-copied c.args.tables.now _ c.args.on _ _ _ c.terms.ensures c.entries.ensures c.copied-given.ensures c.as_slice-2.ensures c.requires.list).there

pub routing_extract_all-requires-clause-columns : goal.routing_extract_all-requires-clause-columns
routing_extract_all-requires-clause-columns c = c.starting_at-extractor.ensures.columns (view_in c.args.tables.now) _

pub returns-in_err-routing_extract_all-clause-comes : goal.returns-in_err-routing_extract_all-clause-comes
returns-in_err-routing_extract_all-clause-comes c =
    let t = c.args.tables.now in
    let m' = model_of c.routing_extract_all.new.tables in
    let f = c.in_err-routing_extract_all.field-0.0 in
    let is-err : c.from_residual.result ≡ Err f = search rules in
    let k = list-copied t _ c.args.on _ _ _ c.terms.ensures c.entries.ensures c.copied-given.ensures c.as_slice.ensures c.requires.list in
    let j = list-copied t _ c.args.on _ _ _ c.terms.ensures c.entries.ensures c.copied-given.ensures c.as_slice-2.ensures c.requires.list in
    let some = marked-of t c.args.on _ k _ c.has_extractable_expr.result c.terms-2.ensures c.has_extractable_expr.ensures ∙ c.if-not-has_extractable_expr.false in
    let stopped = walk-stops t c.args.on _ j c.args.p.0 c.args.left c.args.right c.args.kind c.starting_at-extractor.result c.next_number.result (c.starting_at-extractor.ensures.value (view_in t)) c.next_number.ensures.value f c.in_err-routing_extract_all.ensures.answer in
    subst (λ r. Comes (model_of t) (extracted t c.args.p.0) r m') (sym is-err)
    (stopped-comes t c.args.p.0 c.args.left.0 c.args.right.0 c.args.kind (run_exprs (view_in t) c.args.on) c.requires.tree some f m' stopped)

nothing-walked : (c : goal.Then-not-is_new) → WalkedAll c.args.tables.now (walked c.args.tables.now c.args.p.0 c.args.left.0 c.args.right.0 c.args.kind (run_exprs (view_in c.args.tables.now) c.args.on)) c.routing_extract_all.new.made c.routing_extract_all.new.tables c.routing_extract_all.new.extractor
nothing-walked c =
    let t = c.args.tables.now in
    let j = list-copied t _ c.args.on _ _ _ c.terms.ensures c.entries.ensures c.copied-given.ensures c.as_slice-2.ensures c.requires.list in
    walk-went t c.args.on _ j c.args.p.0 c.args.left c.args.right c.args.kind c.starting_at-extractor.result c.next_number.result (c.starting_at-extractor.ensures.value (view_in t)) c.next_number.ensures.value
    c.routing_extract_all.new.tables c.routing_extract_all.new.extractor c.routing_extract_all.new.made c.routing_extract_all.new.made refl c.in_ok-routing_extract_all.ensures.answer

pub returns-then-not-is_new-clause-comes : goal.returns-then-not-is_new-clause-comes
returns-then-not-is_new-clause-comes c =
    let t = c.args.tables.now in
    let k = list-copied t _ c.args.on _ _ _ c.terms.ensures c.entries.ensures c.copied-given.ensures c.as_slice.ensures c.requires.list in
    let some = marked-of t c.args.on _ k _ c.has_extractable_expr.result c.terms-2.ensures c.has_extractable_expr.ensures ∙ c.if-not-has_extractable_expr.false in
    nothing-comes t c.args.p.0 c.args.left.0 c.args.right.0 c.args.kind (run_exprs (view_in t) c.args.on) c.requires.tree c.requires.node c.requires.left c.requires.right c.requires.good c.routing_extract_all.new.tables c.routing_extract_all.new.extractor _
    (nothing-walked c) some (sym c.is_new.ensures ∙ c.if-not-is_new.true) (model_of c.routing_extract_all.new.tables)

taken-walked : (c : goal.After-as_slice-3) → WalkedAll c.args.tables.now (walked c.args.tables.now c.args.p.0 c.args.left.0 c.args.right.0 c.args.kind (run_exprs (view_in c.args.tables.now) c.args.on)) c.as_slice-3.result.now c.routing_extract_all.new.tables c.routing_extract_all.new.extractor
taken-walked c =
    let t = c.args.tables.now in
    let j = list-copied t _ c.args.on _ _ _ c.terms.ensures c.entries.ensures c.copied-given.ensures c.as_slice-2.ensures c.requires.list in
    walk-went t c.args.on _ j c.args.p.0 c.args.left c.args.right c.args.kind c.starting_at-extractor.result c.next_number.result (c.starting_at-extractor.ensures.value (view_in t)) c.next_number.ensures.value
    c.routing_extract_all.new.tables c.routing_extract_all.new.extractor c.routing_extract_all.new.made c.as_slice-3.result.now c.as_slice-3.ensures c.in_ok-routing_extract_all.ensures.answer

pub rebuilt_over_two-requires-clause-found_left : goal.rebuilt_over_two-requires-clause-found_left
rebuilt_over_two-requires-clause-found_left c =
    let t = c.args.tables.now in
    found-at t c.args.p.0 c.args.left.0 c.args.right.0 c.args.kind (run_exprs (view_in t) c.args.on) c.requires.tree c.requires.node c.requires.left c.requires.right c.requires.good c.routing_extract_all.new.tables c.routing_extract_all.new.extractor _
    (taken-walked c) First c.args.left.0 c.requires.left refl

pub rebuilt_over_two-requires-clause-found_right : goal.rebuilt_over_two-requires-clause-found_right
rebuilt_over_two-requires-clause-found_right c =
    let t = c.args.tables.now in
    found-at t c.args.p.0 c.args.left.0 c.args.right.0 c.args.kind (run_exprs (view_in t) c.args.on) c.requires.tree c.requires.node c.requires.left c.requires.right c.requires.good c.routing_extract_all.new.tables c.routing_extract_all.new.extractor _
    (taken-walked c) Second c.args.right.0 c.requires.right refl

pub rebuilt_over_two-requires-clause-short : goal.rebuilt_over_two-requires-clause-short
rebuilt_over_two-requires-clause-short c =
    let t = c.args.tables.now in
    let k = list-copied t _ c.args.on _ _ _ c.terms.ensures c.entries.ensures c.copied-given.ensures c.as_slice.ensures c.requires.list in
    let same = short t c.args.p.0 c.args.left.0 c.args.right.0 c.args.kind (run_exprs (view_in t) c.args.on) c.requires.tree c.requires.node c.requires.left c.requires.right c.requires.good c.routing_extract_all.new.tables c.routing_extract_all.new.extractor _
    (taken-walked c) in
    omega (arith, same, ap length (sym k.are), exprs-length (view_in t).trees c.as_slice.result.now, k.long, c.requires.few)

pub rebuilt_over_two-requires-clause-renamed : goal.rebuilt_over_two-requires-clause-renamed
rebuilt_over_two-requires-clause-renamed c =
    let t = c.args.tables.now in
    may-rename t c.args.p.0 c.args.left.0 c.args.right.0 c.args.kind (run_exprs (view_in t) c.args.on) c.requires.tree c.requires.node c.requires.left c.requires.right c.requires.good c.routing_extract_all.new.tables c.routing_extract_all.new.extractor _
    (taken-walked c)

refused-walked : (c : goal.After-from_residual-in_err-new) → WalkedAll c.args.tables.now (walked c.args.tables.now c.args.p.0 c.args.left.0 c.args.right.0 c.args.kind (run_exprs (view_in c.args.tables.now) c.args.on)) c.as_slice-3.result.now c.routing_extract_all.new.tables c.routing_extract_all.new.extractor
refused-walked c =
    let t = c.args.tables.now in
    let j = list-copied t _ c.args.on _ _ _ c.terms.ensures c.entries.ensures c.copied-given.ensures c.as_slice-2.ensures c.requires.list in
    walk-went t c.args.on _ j c.args.p.0 c.args.left c.args.right c.args.kind c.starting_at-extractor.result c.next_number.result (c.starting_at-extractor.ensures.value (view_in t)) c.next_number.ensures.value
    c.routing_extract_all.new.tables c.routing_extract_all.new.extractor c.routing_extract_all.new.made c.as_slice-3.result.now c.as_slice-3.ensures c.in_ok-routing_extract_all.ensures.answer

pub returns-in_err-new-clause-comes : goal.returns-in_err-new-clause-comes
returns-in_err-new-clause-comes c =
    let t = c.args.tables.now in
    let m' = model_of c.rebuilt_over_two.new.tables in
    let f = c.in_err-new.field-0.0 in
    let is-err : c.from_residual-in_err-new.result ≡ Err f = search rules in
    let k = list-copied t _ c.args.on _ _ _ c.terms.ensures c.entries.ensures c.copied-given.ensures c.as_slice.ensures c.requires.list in
    let some = marked-of t c.args.on _ k _ c.has_extractable_expr.result c.terms-2.ensures c.has_extractable_expr.ensures ∙ c.if-not-has_extractable_expr.false in
    subst (λ r. Comes (model_of t) (extracted t c.args.p.0) r m') (sym is-err)
    (refused-comes t c.args.p.0 c.args.left.0 c.args.right.0 c.args.kind (run_exprs (view_in t) c.args.on) c.requires.tree c.requires.node c.requires.left c.requires.right c.requires.good c.routing_extract_all.new.tables c.routing_extract_all.new.extractor _
    (refused-walked c) some (sym c.is_new.ensures ∙ c.if-not-is_new.false) f m' c.in_err-new.ensures.steps)

built-walked : (c : goal.In_ok-new) → WalkedAll c.args.tables.now (walked c.args.tables.now c.args.p.0 c.args.left.0 c.args.right.0 c.args.kind (run_exprs (view_in c.args.tables.now) c.args.on)) c.as_slice-3.result.now c.routing_extract_all.new.tables c.routing_extract_all.new.extractor
built-walked c =
    let t = c.args.tables.now in
    let j = list-copied t _ c.args.on _ _ _ c.terms.ensures c.entries.ensures c.copied-given.ensures c.as_slice-2.ensures c.requires.list in
    walk-went t c.args.on _ j c.args.p.0 c.args.left c.args.right c.args.kind c.starting_at-extractor.result c.next_number.result (c.starting_at-extractor.ensures.value (view_in t)) c.next_number.ensures.value
    c.routing_extract_all.new.tables c.routing_extract_all.new.extractor c.routing_extract_all.new.made c.as_slice-3.result.now c.as_slice-3.ensures c.in_ok-routing_extract_all.ensures.answer

pub returns-clause-comes : goal.returns-clause-comes
returns-clause-comes c =
    let t = c.args.tables.now in
    let k = list-copied t _ c.args.on _ _ _ c.terms.ensures c.entries.ensures c.copied-given.ensures c.as_slice.ensures c.requires.list in
    let some = marked-of t c.args.on _ k _ c.has_extractable_expr.result c.terms-2.ensures c.has_extractable_expr.ensures ∙ c.if-not-has_extractable_expr.false in
    built-comes t c.args.p.0 c.args.left.0 c.args.right.0 c.args.kind (run_exprs (view_in t) c.args.on) c.requires.tree c.requires.node c.requires.left c.requires.right c.requires.good c.routing_extract_all.new.tables c.routing_extract_all.new.extractor _
    (built-walked c) some (sym c.is_new.ensures ∙ c.if-not-is_new.false) c.in_ok-new.new (model_of c.rebuilt_over_two.new.tables) c.in_ok-new.ensures.steps c.in_ok-new.ensures.last
