use Rattle.std.proofs.Common.{◌≡◌, ◌+◌, min, true, Ok, Err, inl, inr, sym, subst, rules}
use Rattle.plan.specs.Terms.{size_of}
use Rattle.plan.specs.Calls.{all_below}
use Rattle.plan.specs.Model.{exprs_in}
use Rattle.rewriting.specs.Extracting.{add_pair}
use Rattle.rewriting.specs.Outlay.{tree_space}
use Rattle.rewriting.specs.Routing.{unalias}
use Rattle.tables.proofs.Begun.{tables-then}
use Rattle.tables.specs.Holding.{view_in}
use Rattle.terms.specs.Views.{count, numbers_of, tree_of, view_of}
use Rattle.merging.specs.Joining.{ListedBy}
use Rattle.merging.specs.Merging.{GatheredBy, pair_in, pair_of}
use Rattle.merging.specs.Replacing.{map_of, replaced}
use Rattle.merging.proofs.Pairing.{alias-answer, gathered, list-there, refused-inner, refused-size}
use Rattle.merging.proofs.pairs.merge_pair.Goals as goal

pub returns-then-replaced_size-gt255-clause-answer : goal.returns-then-replaced_size-gt255-clause-answer
returns-then-replaced_size-gt255-clause-answer c =
    let t = c.args.tables.now in
    let i = c.unaliased-inner.result.0 in
    let is = subst (λ m. tree_of m i ≡ unalias (tree_of m c.args.entry.inner.0)) c.terms.ensures c.unaliased-inner.ensures.tree in
    let size = subst (λ m. c.replaced_size.result ≡ min (size_of (replaced (view_of m) c.args.replacing i)) 257) c.terms-2.ensures c.replaced_size.ensures in
    inr (c.too_large.ensures, refused-size t c.args.replacing c.args.entry i is c.args.list.now c.requires.list c.replaced_size.result size c.if-replaced_size-gt255.true)

pub returns-in_err-made-clause-answer : goal.returns-in_err-made-clause-answer
returns-in_err-made-clause-answer c =
    let t = c.args.tables.now in
    let v = view_in t in
    let i = c.unaliased-inner.result.0 in
    let is = subst (λ m. tree_of m i ≡ unalias (tree_of m c.args.entry.inner.0)) c.terms.ensures c.unaliased-inner.ensures.tree in
    let a = pair_in (map_of v c.args.replacing) (pair_of v c.args.entry) in
    let d = c.in_err-made.field-0.0 in
    let e : c.from_residual.result ≡ Err d = search rules in
    subst (λ q. GatheredBy t (tree_space a) (c.args.entry.alias + 1) (add_pair a (exprs_in v.trees (numbers_of c.args.list.now))) q c.args.list.now c.replace_cols_by_name.new.tables) (sym e)
    (inl (refused-inner t c.args.replacing c.args.entry i is c.args.list.now c.requires.list d c.in_err-made.ensures.answer))

pub returns-in_err-alias-clause-answer : goal.returns-in_err-alias-clause-answer
returns-in_err-alias-clause-answer c =
    let t = c.args.tables.now in
    let v = view_in t in
    let i = c.unaliased-inner.result.0 in
    let is = subst (λ m. tree_of m i ≡ unalias (tree_of m c.args.entry.inner.0)) c.terms.ensures c.unaliased-inner.ensures.tree in
    let a = pair_in (map_of v c.args.replacing) (pair_of v c.args.entry) in
    let d = c.in_err-alias.field-0.0 in
    let e : c.from_residual-in_err-alias.result ≡ Err d = search rules in
    subst (λ q. GatheredBy t (tree_space a) (c.args.entry.alias + 1) (add_pair a (exprs_in v.trees (numbers_of c.args.list.now))) q c.args.list.now c.aliased.new.tables) (sym e)
    (inl (alias-answer t c.args.replacing c.args.entry i is c.args.list.now c.requires.list c.replace_cols_by_name.new.tables c.aliased.new.tables c.in_ok-made.made.0 (Err d) c.in_ok-made.ensures.answer c.in_err-alias.ensures.answer))

pub returns-in_err-alias-clause-begins : goal.returns-in_err-alias-clause-begins
returns-in_err-alias-clause-begins c = tables-then c.args.tables.now c.replace_cols_by_name.new.tables c.aliased.new.tables c.in_ok-made.ensures.begins c.in_err-alias.ensures.begins

pub add_pair-requires-clause-list : goal.add_pair-requires-clause-list
add_pair-requires-clause-list c =
    let t = c.args.tables.now in
    let w = c.aliased.new.tables in
    let i = c.unaliased-inner.result.0 in
    let is = subst (λ m. tree_of m i ≡ unalias (tree_of m c.args.entry.inner.0)) c.terms.ensures c.unaliased-inner.ensures.tree in
    let b = alias-answer t c.args.replacing c.args.entry i is c.args.list.now c.requires.list c.replace_cols_by_name.new.tables w c.in_ok-made.made.0 (Ok c.in_ok-alias.alias) c.in_ok-made.ensures.answer c.in_ok-alias.ensures.answer in
    subst (λ m. all_below (count m) (numbers_of c.args.list.now) ≡ true) (sym c.terms-3.ensures) (list-there t c.args.replacing c.args.entry i is c.args.list.now c.requires.list w c.in_ok-alias.alias.0 b)

pub returns-clause-answer : goal.returns-clause-answer
returns-clause-answer c =
    let t = c.args.tables.now in
    let w = c.aliased.new.tables in
    let i = c.unaliased-inner.result.0 in
    let is = subst (λ m. tree_of m i ≡ unalias (tree_of m c.args.entry.inner.0)) c.terms.ensures c.unaliased-inner.ensures.tree in
    let b = alias-answer t c.args.replacing c.args.entry i is c.args.list.now c.requires.list c.replace_cols_by_name.new.tables w c.in_ok-made.made.0 (Ok c.in_ok-alias.alias) c.in_ok-made.ensures.answer c.in_ok-alias.ensures.answer in
    gathered t c.args.replacing c.args.entry i is c.args.list.now c.requires.list w c.in_ok-alias.alias.0 b c.add_pair.result c.add_pair.new.list
    (subst (λ m. ListedBy (view_of m) (add_pair (tree_of m c.in_ok-alias.alias.0) (exprs_in (view_of m).trees (numbers_of c.args.list.now))) c.add_pair.result c.add_pair.new.list) c.terms-3.ensures c.add_pair.ensures)
