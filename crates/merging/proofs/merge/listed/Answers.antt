use Rattle.std.proofs.Common.{◌≡◌, List, [], ◌∷◌, ◌++◌, map, length, refl, ap, ◌∙◌, arith, rules}
use Rattle.std.proofs.lemmas.List.{length-map}
use Rattle.table.proofs.Parts.{length_part}
use Rattle.table.proofs.Pushes.{pushed-map}
use Rattle.entries.specs.Entries.{entry_number, expr_of}
use Rattle.entries.specs.declared.node.Entry.{Entry}
use Rattle.entries.specs.declared.node.ExprId.{ExprId}
use Rattle.terms.specs.Views.{numbers_of, view_of}
use Rattle.merging.proofs.merge.listed.Goals as goal

numbers_read : (xs : List Entry) → numbers_of (map expr_of xs) ≡ map entry_number xs
numbers_read [] = refl
numbers_read (x ∷ xs) = ap (λ l. entry_number x ∷ l) (numbers_read xs)

pub returns-clause-numbers : goal.returns-clause-numbers
returns-clause-numbers c =
    let xs = c.entries.result.now in
    let grew = pushed-map _ expr_of (λ x d made. search rules) xs _ _ c.push_each.ensures in
    ap numbers_of (grew ∙ ap (λ (l : List ExprId). l ++ map expr_of xs) c.new-list.ensures) ∙ numbers_read xs ∙ ap (map entry_number) c.entries.ensures

pub returns-clause-few : goal.returns-clause-few
returns-clause-few c =
    let es = (view_of c.args.terms.now).entries in
    let xs = c.entries.result.now in
    let grew = pushed-map _ expr_of (λ x d made. search rules) xs _ _ c.push_each.ensures in
    omega (arith, ap length (grew ∙ ap (λ (l : List ExprId). l ++ map expr_of xs) c.new-list.ensures), length-map xs expr_of, ap length c.entries.ensures, length_part es c.args.run.first c.args.run.count c.requires.inside, c.requires.few)
