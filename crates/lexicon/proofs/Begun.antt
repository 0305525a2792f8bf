-- A text that begins with another.
use Rattle.std.proofs.Common.{List, [], ◌++◌, sym, ap, ◌∙◌}
use Rattle.std.proofs.lemmas.List.{append-nil, append_assoc}
use Rattle.lexicon.specs.Begun.{Begins, LexiconBegins}
use Rattle.lexicon.specs.declared.lexicon.Lexicon.{Lexicon}

pub at-once : {X : Type 0} (xs : List X) → Begins xs xs
at-once xs = record { more = []; is = sym (append-nil xs) }

pub begins-then : {X : Type 0} (xs ys zs : List X) → Begins xs ys → Begins ys zs → Begins xs zs
begins-then xs ys zs a b = record { more = a.more ++ b.more; is = b.is ∙ ap (λ l. l ++ b.more) a.is ∙ append_assoc xs a.more b.more }

pub lexicon-then : (x y z : Lexicon) → LexiconBegins x y → LexiconBegins y z → LexiconBegins x z
lexicon-then x y z a b = record { functions = b.functions ∙ a.functions; text = begins-then x.text y.text z.text a.text b.text }
