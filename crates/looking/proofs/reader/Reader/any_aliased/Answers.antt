use Rattle.std.proofs.Common.{map, length, ap, ◌∙◌, rules}
use Rattle.std.proofs.lemmas.Bool.{and_parts}
use Rattle.std.proofs.lemmas.Iterator.{YieldsList-from_slice}
use Rattle.std.proofs.lemmas.Iterator.Search.{any_from_yields_List}
use Rattle.plan.specs.Calls.{all_below}
use Rattle.plan.specs.Fields.{any}
use Rattle.plan.specs.Model.{expr_in}
use Rattle.plan.specs.Tracing.{aliased}
use Rattle.entries.specs.Entries.{entry_number}
use Rattle.tables.specs.Holding.{view_in}
use Rattle.stored.specs.Stored.{run_in}
use Rattle.terms.proofs.Walks.{any-twice, serves_low}
use Rattle.tables.proofs.Lent.{entries-lent}
use Rattle.looking.proofs.reader.Reader.any_aliased.Goals as goal

pub any-requires-clause-callable : goal.any-requires-clause-callable
any-requires-clause-callable c =
    let v = view_in c.args.self.tables.now in
    let n = length v.trees in
    let es = c.entries.result.now in
    let e = entries-lent c.args.self.tables.now _ c.terms.ensures c.args.list _ c.entries.ensures in
    let all = (and_parts (run_in v.entries c.args.list) _ c.requires).1 in
    serves_low entry_number n (YieldsList-from_slice es cc) (ap (λ xs. all_below n (map entry_number xs)) e ∙ all) (λ x q k. search rules) (λ x h. search rules)

pub returns : goal.returns
returns c =
    let ts = (view_in c.args.self.tables.now).trees in
    let p = aliased c.args.name.now in
    let es = c.entries.result.now in
    let e = entries-lent c.args.self.tables.now _ c.terms.ensures c.args.list _ c.entries.ensures in
    any_from_yields_List (λ e. p (expr_in ts (entry_number e))) _ _ _ c.any.ensures.ran (YieldsList-from_slice es cc) (λ x b q k. search rules)
    ∙ any-twice p (expr_in ts) entry_number es ∙ ap (λ xs. any p (map (expr_in ts) (map entry_number xs))) e
