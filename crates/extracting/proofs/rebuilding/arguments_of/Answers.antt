use Rattle.std.proofs.Common.{◌≡◌, List, [], ◌∷◌, ◌++◌, map, refl, ap, ◌∙◌, rules}
use Rattle.table.proofs.Pushes.{pushed-map}
use Rattle.entries.specs.Entries.{entry_number, expr_of}
use Rattle.terms.specs.Views.{numbers_of}
use Rattle.entries.specs.declared.node.Entry.{Entry}
use Rattle.extracting.proofs.rebuilding.arguments_of.Goals as goal

numbers_read : (xs : List Entry) → numbers_of (map expr_of xs) ≡ map entry_number xs
numbers_read [] = refl
numbers_read (x ∷ xs) = ap (λ l. entry_number x ∷ l) (numbers_read xs)

pub returns : goal.returns
returns c =
    let xs = c.entries.result.now in
    let grew = pushed-map _ expr_of (λ x d made. search rules) xs _ _ c.push_each.ensures in
    ap numbers_of (grew ∙ ap (λ l. l ++ map expr_of xs) c.new-given.ensures) ∙ numbers_read xs ∙ ap (map entry_number) c.entries.ensures
