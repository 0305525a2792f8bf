use Rattle.std.proofs.Common.{◌≡◌, map, true, false, sym, ap, ap₂, ◌∙◌, subst, Err, rules}
use Rattle.entries.specs.Entries.{expr_of}
use Rattle.plan.specs.Model.{exprs_in}
use Rattle.swapping.proofs.Remade.{exprs-present}
use Rattle.tables.proofs.Lent.{entries-lent, present-lent}
use Rattle.tables.specs.Holding.{model_of, view_in}
use Rattle.terms.specs.Views.{numbers_of}
use Rattle.leaf_expressions.proofs.Grouped.{all-total, both-lent, found, none-taken, renames, tree-copied, unmarked, walks-refused, was-built, was-refused}
use Rattle.leaf_expressions.specs.Comes.{Comes, extracted}
use Rattle.leaf_expressions.specs.Walks.{BothAnswered, BothWalked, both_in}
use Rattle.leaf_expressions.proofs.aggregate.extract_aggregate.Goals as goal

pub has_extractable-requires-clause-groups : goal.has_extractable-requires-clause-groups
has_extractable-requires-clause-groups c =
    let t = c.args.tables.now in
    let a = c.as_slice.ensures ∙ c.copied-by.ensures ∙ ap (map expr_of) (entries-lent t _ c.terms.ensures c.args.groups _ c.entries.ensures) in
    present-lent t _ c.terms-3.ensures (numbers_of c.as_slice.result.now) (exprs-present (view_in t) c.args.groups _ a c.requires.groups)

pub has_extractable-requires-clause-totals : goal.has_extractable-requires-clause-totals
has_extractable-requires-clause-totals c =
    let t = c.args.tables.now in
    let a = c.as_slice-2.ensures ∙ c.copied-of.ensures ∙ ap (map expr_of) (entries-lent t _ c.terms-2.ensures c.args.totals _ c.entries-2.ensures) in
    present-lent t _ c.terms-3.ensures (numbers_of c.as_slice-2.result.now) (exprs-present (view_in t) c.args.totals _ a c.requires.totals)

pub returns-then-not-has_extractable-clause-comes : goal.returns-then-not-has_extractable-clause-comes
returns-then-not-has_extractable-clause-comes c =
    let t = c.args.tables.now in
    let p = c.args.p in
    let i = c.args.input in
    let es = (view_in t).trees in
    let a = c.copied-by.ensures ∙ ap (map expr_of) (entries-lent t _ c.terms.ensures c.args.groups _ c.entries.ensures) in
    let b = c.copied-of.ensures ∙ ap (map expr_of) (entries-lent t _ c.terms-2.ensures c.args.totals _ c.entries-2.ensures) in
    let by = c.copied-by.result in
    let of = c.copied-of.result in
    let gs = exprs_in es (numbers_of by) in
    let us = exprs_in es (numbers_of of) in
    let tree = tree-copied t p i c.args.groups c.args.totals by of a b c.requires.tree in
    let none = both-lent t _ _ _ by of _ false c.terms-3.ensures c.as_slice.ensures c.as_slice-2.ensures c.has_extractable.ensures c.if-not-has_extractable.true in
    unmarked t p i gs us tree c.requires.node c.requires.input c.requires.good (model_of t) none

pub route-requires-clause-groups : goal.route-requires-clause-groups
route-requires-clause-groups c =
    let t = c.args.tables.now in
    let a = c.as_slice-3.ensures ∙ c.copied-by.ensures ∙ ap (map expr_of) (entries-lent t _ c.terms.ensures c.args.groups _ c.entries.ensures) in
    exprs-present (view_in t) c.args.groups _ a c.requires.groups

pub route-requires-clause-totals : goal.route-requires-clause-totals
route-requires-clause-totals c =
    let t = c.args.tables.now in
    let a = c.as_slice-4.ensures ∙ c.copied-of.ensures ∙ ap (map expr_of) (entries-lent t _ c.terms-2.ensures c.args.totals _ c.entries-2.ensures) in
    exprs-present (view_in t) c.args.totals _ a c.requires.totals

pub returns-in_err-routed-clause-comes : goal.returns-in_err-routed-clause-comes
returns-in_err-routed-clause-comes c =
    let t = c.args.tables.now in
    let p = c.args.p in
    let i = c.args.input in
    let es = (view_in t).trees in
    let a = c.copied-by.ensures ∙ ap (map expr_of) (entries-lent t _ c.terms.ensures c.args.groups _ c.entries.ensures) in
    let b = c.copied-of.ensures ∙ ap (map expr_of) (entries-lent t _ c.terms-2.ensures c.args.totals _ c.entries-2.ensures) in
    let by = c.copied-by.result in
    let of = c.copied-of.result in
    let gs = exprs_in es (numbers_of by) in
    let us = exprs_in es (numbers_of of) in
    let tree = tree-copied t p i c.args.groups c.args.totals by of a b c.requires.tree in
    let some = both-lent t _ _ _ by of _ true c.terms-3.ensures c.as_slice.ensures c.as_slice-2.ensures c.has_extractable.ensures c.if-not-has_extractable.false in
    let lent = ap₂ (λ x y. both_in t i (exprs_in es (numbers_of x)) (exprs_in es (numbers_of y))) c.as_slice-3.ensures c.as_slice-4.ensures in
    let f = c.in_err-routed.field-0.0 in
    let h = subst (λ z. BothAnswered t z (Err f) c.route.new.tables) lent c.in_err-routed.ensures.answer in
    let is-err : c.from_residual.result ≡ Err f = search rules in
    subst (λ q. Comes (model_of t) (extracted t p.0) q (model_of c.route.new.tables)) (sym is-err)
    (walks-refused t p i gs us tree c.requires.node c.requires.input c.requires.good some f (model_of c.route.new.tables) h)

pub returns-then-not-is_new-clause-comes : goal.returns-then-not-is_new-clause-comes
returns-then-not-is_new-clause-comes c =
    let t = c.args.tables.now in
    let p = c.args.p in
    let i = c.args.input in
    let es = (view_in t).trees in
    let a = c.copied-by.ensures ∙ ap (map expr_of) (entries-lent t _ c.terms.ensures c.args.groups _ c.entries.ensures) in
    let b = c.copied-of.ensures ∙ ap (map expr_of) (entries-lent t _ c.terms-2.ensures c.args.totals _ c.entries-2.ensures) in
    let by = c.copied-by.result in
    let of = c.copied-of.result in
    let gs = exprs_in es (numbers_of by) in
    let us = exprs_in es (numbers_of of) in
    let tree = tree-copied t p i c.args.groups c.args.totals by of a b c.requires.tree in
    let some = both-lent t _ _ _ by of _ true c.terms-3.ensures c.as_slice.ensures c.as_slice-2.ensures c.has_extractable.ensures c.if-not-has_extractable.false in
    let lent = ap₂ (λ x y. both_in t i (exprs_in es (numbers_of x)) (exprs_in es (numbers_of y))) c.as_slice-3.ensures c.as_slice-4.ensures in
    let u = c.route.new.tables in
    let r = c.in_ok-routed.routed in
    let w = subst (λ z. BothWalked t z r u) lent c.in_ok-routed.ensures.answer in
    none-taken t p i gs us tree c.requires.node c.requires.input c.requires.good some r u w (model_of u) (sym c.is_new.ensures ∙ c.if-not-is_new.true)

pub rebuilt_over-requires-clause-found : goal.rebuilt_over-requires-clause-found
rebuilt_over-requires-clause-found c =
    let t = c.args.tables.now in
    let p = c.args.p in
    let i = c.args.input in
    let es = (view_in t).trees in
    let a = c.copied-by.ensures ∙ ap (map expr_of) (entries-lent t _ c.terms.ensures c.args.groups _ c.entries.ensures) in
    let b = c.copied-of.ensures ∙ ap (map expr_of) (entries-lent t _ c.terms-2.ensures c.args.totals _ c.entries-2.ensures) in
    let by = c.copied-by.result in
    let of = c.copied-of.result in
    let gs = exprs_in es (numbers_of by) in
    let us = exprs_in es (numbers_of of) in
    let tree = tree-copied t p i c.args.groups c.args.totals by of a b c.requires.tree in
    let some = both-lent t _ _ _ by of _ true c.terms-3.ensures c.as_slice.ensures c.as_slice-2.ensures c.has_extractable.ensures c.if-not-has_extractable.false in
    let lent = ap₂ (λ x y. both_in t i (exprs_in es (numbers_of x)) (exprs_in es (numbers_of y))) c.as_slice-3.ensures c.as_slice-4.ensures in
    let u = c.route.new.tables in
    let r = c.in_ok-routed.routed in
    let w = subst (λ z. BothWalked t z r u) lent c.in_ok-routed.ensures.answer in
    found t p i gs us tree c.requires.node c.requires.input c.requires.good some r u w

pub rebuilt_over-requires-clause-totals : goal.rebuilt_over-requires-clause-totals
rebuilt_over-requires-clause-totals c =
    let t = c.args.tables.now in
    let p = c.args.p in
    let i = c.args.input in
    let es = (view_in t).trees in
    let a = c.copied-by.ensures ∙ ap (map expr_of) (entries-lent t _ c.terms.ensures c.args.groups _ c.entries.ensures) in
    let b = c.copied-of.ensures ∙ ap (map expr_of) (entries-lent t _ c.terms-2.ensures c.args.totals _ c.entries-2.ensures) in
    let by = c.copied-by.result in
    let of = c.copied-of.result in
    let gs = exprs_in es (numbers_of by) in
    let us = exprs_in es (numbers_of of) in
    let tree = tree-copied t p i c.args.groups c.args.totals by of a b c.requires.tree in
    let some = both-lent t _ _ _ by of _ true c.terms-3.ensures c.as_slice.ensures c.as_slice-2.ensures c.has_extractable.ensures c.if-not-has_extractable.false in
    let lent = ap₂ (λ x y. both_in t i (exprs_in es (numbers_of x)) (exprs_in es (numbers_of y))) c.as_slice-3.ensures c.as_slice-4.ensures in
    let u = c.route.new.tables in
    let r = c.in_ok-routed.routed in
    let w = subst (λ z. BothWalked t z r u) lent c.in_ok-routed.ensures.answer in
    all-total t p i gs us tree c.requires.node c.requires.input c.requires.good some r u w _ _ c.as_slice-5.ensures c.as_slice-6.ensures

pub rebuilt_over-requires-clause-renamed : goal.rebuilt_over-requires-clause-renamed
rebuilt_over-requires-clause-renamed c =
    let t = c.args.tables.now in
    let p = c.args.p in
    let i = c.args.input in
    let es = (view_in t).trees in
    let a = c.copied-by.ensures ∙ ap (map expr_of) (entries-lent t _ c.terms.ensures c.args.groups _ c.entries.ensures) in
    let b = c.copied-of.ensures ∙ ap (map expr_of) (entries-lent t _ c.terms-2.ensures c.args.totals _ c.entries-2.ensures) in
    let by = c.copied-by.result in
    let of = c.copied-of.result in
    let gs = exprs_in es (numbers_of by) in
    let us = exprs_in es (numbers_of of) in
    let tree = tree-copied t p i c.args.groups c.args.totals by of a b c.requires.tree in
    let some = both-lent t _ _ _ by of _ true c.terms-3.ensures c.as_slice.ensures c.as_slice-2.ensures c.has_extractable.ensures c.if-not-has_extractable.false in
    let lent = ap₂ (λ x y. both_in t i (exprs_in es (numbers_of x)) (exprs_in es (numbers_of y))) c.as_slice-3.ensures c.as_slice-4.ensures in
    let u = c.route.new.tables in
    let r = c.in_ok-routed.routed in
    let w = subst (λ z. BothWalked t z r u) lent c.in_ok-routed.ensures.answer in
    λ R wider. renames t p i gs us tree c.requires.node c.requires.input c.requires.good some r u w _ _ c.as_slice-5.ensures c.as_slice-6.ensures R

pub returns-in_err-new-clause-comes : goal.returns-in_err-new-clause-comes
returns-in_err-new-clause-comes c =
    let t = c.args.tables.now in
    let p = c.args.p in
    let i = c.args.input in
    let es = (view_in t).trees in
    let a = c.copied-by.ensures ∙ ap (map expr_of) (entries-lent t _ c.terms.ensures c.args.groups _ c.entries.ensures) in
    let b = c.copied-of.ensures ∙ ap (map expr_of) (entries-lent t _ c.terms-2.ensures c.args.totals _ c.entries-2.ensures) in
    let by = c.copied-by.result in
    let of = c.copied-of.result in
    let gs = exprs_in es (numbers_of by) in
    let us = exprs_in es (numbers_of of) in
    let tree = tree-copied t p i c.args.groups c.args.totals by of a b c.requires.tree in
    let some = both-lent t _ _ _ by of _ true c.terms-3.ensures c.as_slice.ensures c.as_slice-2.ensures c.has_extractable.ensures c.if-not-has_extractable.false in
    let lent = ap₂ (λ x y. both_in t i (exprs_in es (numbers_of x)) (exprs_in es (numbers_of y))) c.as_slice-3.ensures c.as_slice-4.ensures in
    let u = c.route.new.tables in
    let r = c.in_ok-routed.routed in
    let w = subst (λ z. BothWalked t z r u) lent c.in_ok-routed.ensures.answer in
    let m' = model_of c.rebuilt_over.new.tables in
    let f = c.in_err-new.field-0.0 in
    let is-err : c.from_residual-in_err-new.result ≡ Err f = search rules in
    subst (λ q. Comes (model_of t) (extracted t p.0) q m') (sym is-err)
    (was-refused t p i gs us tree c.requires.node c.requires.input c.requires.good some r u w _ _ c.as_slice-5.ensures c.as_slice-6.ensures (sym c.is_new.ensures ∙ c.if-not-is_new.false) m' f c.in_err-new.ensures.steps)

pub returns-clause-comes : goal.returns-clause-comes
returns-clause-comes c =
    let t = c.args.tables.now in
    let p = c.args.p in
    let i = c.args.input in
    let es = (view_in t).trees in
    let a = c.copied-by.ensures ∙ ap (map expr_of) (entries-lent t _ c.terms.ensures c.args.groups _ c.entries.ensures) in
    let b = c.copied-of.ensures ∙ ap (map expr_of) (entries-lent t _ c.terms-2.ensures c.args.totals _ c.entries-2.ensures) in
    let by = c.copied-by.result in
    let of = c.copied-of.result in
    let gs = exprs_in es (numbers_of by) in
    let us = exprs_in es (numbers_of of) in
    let tree = tree-copied t p i c.args.groups c.args.totals by of a b c.requires.tree in
    let some = both-lent t _ _ _ by of _ true c.terms-3.ensures c.as_slice.ensures c.as_slice-2.ensures c.has_extractable.ensures c.if-not-has_extractable.false in
    let lent = ap₂ (λ x y. both_in t i (exprs_in es (numbers_of x)) (exprs_in es (numbers_of y))) c.as_slice-3.ensures c.as_slice-4.ensures in
    let u = c.route.new.tables in
    let r = c.in_ok-routed.routed in
    let w = subst (λ z. BothWalked t z r u) lent c.in_ok-routed.ensures.answer in
    let m' = model_of c.rebuilt_over.new.tables in
    was-built t p i gs us tree c.requires.node c.requires.input c.requires.good some r u w _ _ c.as_slice-5.ensures c.as_slice-6.ensures (sym c.is_new.ensures ∙ c.if-not-is_new.false) m' c.in_ok-new.new c.in_ok-new.ensures.steps c.in_ok-new.ensures.last
