-- A merge brings no total into a list.
use Rattle.std.proofs.Common.{◌≡◌, ℕ, zero, suc, Bool, true, false, cond, not, ◌||◌, List, [], ◌∷◌, ◌++◌, map, get_or, refl, sym, ap, ap₂, ◌∙◌, subst, arith}
use Rattle.plan.specs.Fields.{any, lawful}
use Rattle.plan.specs.Functions.{Functions, is_total}
use Rattle.plan.specs.Rendering.{field_of}
use Rattle.plan.specs.Terms.{Expr, Field, same_expr}
use Rattle.plan.specs.Terms.Expr.{alias, call, literal, reference}
use Rattle.rewriting.specs.Extracting.{ReplaceMap, add_column, add_pair, build_projection_replace_map, replace_cols_by_name}
use Rattle.rewriting.specs.Routing.{Pair, unalias}
use Rattle.rows.specs.Rows.{may_mean, seek}
use Rattle.stepping.specs.Lists.{NoTotals}
use Rattle.merging.specs.Merging.{columns_in, merged_list, pair_in, pairs_in}

module _ (F : Functions) where
  either-no : (a b : Bool) → a || b ≡ false → (a ≡ false) × (b ≡ false)
  either-no true b h = absurd (let z : ◌≡◌ {A = ℕ} 0 1 = cc in omega arith)
  either-no false b h = (refl, h)

  any-push : (es : List Expr) (e : Expr) → any (is_total F) es ≡ false → is_total F e ≡ false → any (is_total F) (es ++ e ∷ []) ≡ false
  any-push [] e h k = ap (λ b. b || false) k
  any-push (d ∷ es) e h k = let p = either-no (is_total F d) (any (is_total F) es) h in ap₂ (λ a b. a || b) p.0 (any-push es e p.1 k)

  none-at : (es : List Expr) (i : ℕ) (d : Expr) → any (is_total F) es ≡ false → is_total F d ≡ false → is_total F (get_or es i d) ≡ false
  none-at [] i d h k = k
  none-at (e ∷ es) zero d h k = (either-no (is_total F e) (any (is_total F) es) h).0
  none-at (e ∷ es) (suc i) d h k = none-at es i d (either-no (is_total F e) (any (is_total F) es) h).1 k

  behind-one : (e : Expr) → is_total F (unalias e) ≡ is_total F e
  unfolding unalias
  behind-one (literal v) = refl
  behind-one (reference r) = refl
  behind-one (alias d f) = refl
  behind-one (call n ds) = refl

  behind-plain : (es : List Expr) → any (is_total F) es ≡ false → any (is_total F) (map unalias es) ≡ false
  behind-plain [] h = refl
  behind-plain (e ∷ es) h =
      let p = either-no (is_total F e) (any (is_total F) es) h in
      ap₂ (λ a b. a || b) (behind-one e ∙ p.0) (behind-plain es p.1)

  module _ (m : ReplaceMap) (behind : any (is_total F) m.1 ≡ false) where
    replaced-plain : (e : Expr) → is_total F e ≡ false → is_total F (replace_cols_by_name m e) ≡ false
    unfolding replace_cols_by_name
    replaced-plain (literal v) h = refl
    replaced-plain (reference r) h = none-at m.1 (seek r m.0) (reference r) behind refl
    replaced-plain (alias e f) h = replaced-plain e h
    replaced-plain (call n es) h = h

    pair-plain : (a : Expr) (acc : List Expr) → is_total F a ≡ false → any (is_total F) acc ≡ false → any (is_total F) (add_pair a acc) ≡ false
    unfolding add_pair
    pair-plain a acc h k = go (any (same_expr a) acc)
      where
        go : (b : Bool) → any (is_total F) (cond b acc (acc ++ a ∷ [])) ≡ false
        go true = k
        go false = any-push acc a k h

    pairs-plain : (ps : List Pair) (acc : List Expr) → NoTotals F ps → any (is_total F) acc ≡ false → any (is_total F) (pairs_in m ps acc) ≡ false
    unfolding pairs_in
    pairs-plain [] acc h k = k
    pairs-plain (p ∷ ps) acc h k = pairs-plain ps (add_pair (pair_in m p) acc) h.1 (pair-plain (pair_in m p) acc (replaced-plain p.0 h.0) k)

    column-plain : (ins : List Field) (e : Expr) (acc : List Expr) → any (is_total F) acc ≡ false → any (is_total F) (add_column F ins e acc) ≡ false
    unfolding add_column
    column-plain ins (literal v) acc k = k
    column-plain ins (reference r) acc k = go _
      where
        go : (b : Bool) → any (is_total F) (cond b (acc ++ reference r ∷ []) acc) ≡ false
        go true = any-push acc (reference r) k refl
        go false = k
    column-plain ins (alias e f) acc k = k
    column-plain ins (call n es) acc k = k

    columns-plain : (ins : List Field) (cs : List Field) (acc : List Expr) → any (is_total F) acc ≡ false → any (is_total F) (columns_in F ins m cs acc) ≡ false
    unfolding columns_in
    columns-plain ins [] acc k = k
    columns-plain ins (c ∷ cs) acc k = columns-plain ins cs _ (column-plain ins (replace_cols_by_name m (reference c)) acc k)

  pub merged-plain : (ins : List Field) (es : List Expr) (ps : List Pair) (cs : List Field) → any (is_total F) es ≡ false → NoTotals F ps → any (is_total F) (merged_list F ins es ps cs) ≡ false
  merged-plain ins es ps cs h k =
      let m = build_projection_replace_map F es in
      columns-plain m (behind-plain es h) ins cs (pairs_in m ps es) (pairs-plain m (behind-plain es h) ps es k h)
