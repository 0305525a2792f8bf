-- The walk through keys is that through their expressions.
use Rattle.std.proofs.Common.{◌≡◌, List, [], ◌∷◌, map, Option, refl, ap}
use Rattle.plan.specs.Functions.{Functions}
use Rattle.plan.specs.Plans.{Key}
use Rattle.plan.specs.Terms.{Expr}
use Rattle.rewriting.specs.Routing.{Extractor, Side, routing_extract, routing_extract_all, routing_extract_keys}
use Rattle.extracting.specs.Walking.{with_by}

pub keys-walk : (F : Functions) (own : Expr → Option Side) (ks : List Key) (g : Extractor)
    → routing_extract_keys F own ks g ≡ (with_by ks (routing_extract_all F own (map (λ k. k.by) ks) g).0, (routing_extract_all F own (map (λ k. k.by) ks) g).1)
unfolding routing_extract_all routing_extract_keys
keys-walk F own [] g = refl
keys-walk F own (k ∷ ks) g =
    let w = routing_extract F own k.by g in
    ap (λ (v : List Key × Extractor). (record { by = w.0; direction = k.direction } ∷ v.0, v.1)) (keys-walk F own ks w.1)
