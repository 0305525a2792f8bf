-- The tests of a list of placements, as a chain makes them; and the placements of a call's arguments.
use Rattle.std.proofs.Common.{◌≡◌, ℕ, ◌+◌, ◌<◌, not, ◌&&◌, List, [], ◌∷◌, ◌++◌, map, length, get_or, take, sym, refl, ap, ap₂, ◌∙◌}
use Rattle.std.proofs.lemmas.List.{map_push, take_more}
use Rattle.std.specs.List.{list_all}
use Rattle.plan.specs.Functions.{Functions, all_constant, is_constant, is_keep, none_kept, placement_of, placements_of}
use Rattle.plan.specs.Terms.{Expr, arguments}
use Rattle.routing.specs.Placing.{named}
use Rattle.routing.specs.declared.placement.ExpressionPlacement.{ExpressionPlacement}

pub all-constant : (ps : List ExpressionPlacement) → list_all (λ p. is_constant (named p)) ps ≡ all_constant (map named ps)
all-constant [] = refl
all-constant (p ∷ ps) = ap (λ b. is_constant (named p) && b) (all-constant ps)

pub none-kept : (ps : List ExpressionPlacement) → list_all (λ p. not (is_keep (named p))) ps ≡ none_kept (map named ps)
none-kept [] = refl
none-kept (p ∷ ps) = ap (λ b. not (is_keep (named p)) && b) (none-kept ps)

pub placements-of : (F : Functions) (ts : List Expr) → placements_of F (arguments ts) ≡ map (placement_of F) ts
placements-of F [] = refl
placements-of F (t ∷ ts) = ap (λ ps. placement_of F t ∷ ps) (placements-of F ts)

-- one placement more, of the next argument
pub one_more : (F : Functions) (ps qs : List ExpressionPlacement) (ts : List Expr) (i : ℕ) (x : ExpressionPlacement) (d : Expr) → i < length ts
    → map named ps ≡ map (placement_of F) (take i ts) → qs ≡ ps ++ x ∷ [] → named x ≡ placement_of F (get_or ts i d) → map named qs ≡ map (placement_of F) (take (i + 1) ts)
one_more F ps qs ts i x d lt inv e h =
    ap (map named) e ∙ map_push named ps x ∙ ap₂ (λ vs v. vs ++ v ∷ []) inv h ∙ sym (ap (map (placement_of F)) (take_more ts i d lt) ∙ map_push (placement_of F) (take i ts) (get_or ts i d))
