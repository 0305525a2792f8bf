-- What replacing its columns makes of an expression: case by case, over the tables, its size, and whether it is a total.
use Rattle.std.proofs.Common.{◌≡◌, ℕ, zero, suc, ◌+◌, ◌<◌, ◌≤◌, Bool, true, false, ◌||◌, List, [], ◌∷◌, map, length, get_or, drop, sym, refl, ap, ◌∙◌, arith}
use Rattle.std.proofs.lemmas.List.{at_drop_all, at_drop_more, get_or-map, get_or_past, length-map}
use Rattle.plan.specs.Fields.{any}
use Rattle.plan.specs.Functions.{Functions, is_total}
use Rattle.plan.specs.Model.{expr_in, exprs_in}
use Rattle.plan.specs.Terms.{Expr, Field, Literal, arguments, size_of, sizes_of}
use Rattle.plan.specs.Terms.Expr.{alias, call, literal, reference}
use Rattle.plan.specs.Terms.Exprs.{more}
use Rattle.rewriting.specs.Extracting
use Rattle.rewriting.specs.Extracting.{replace_cols_by_name, replace_cols_by_names}
use Rattle.rows.specs.Rows.{seek}
use Rattle.entries.specs.Spans.{stored_field}
use Rattle.entries.specs.declared.node.ExprId.{ExprId}
use Rattle.entries.specs.declared.node.StoredField.{StoredField}
use Rattle.terms.proofs.Walks.{item_below}
use Rattle.terms.specs.Views.{View, numbers_of}
use Rattle.merging.specs.Replacing.{MapIn, map_of}
use Rattle.merging.specs.declared.replacing.ReplaceMap.{ReplaceMap}

module _ (m : Extracting.ReplaceMap) where
  abbrev pub rep : Expr → Expr
  rep e = replace_cols_by_name m e

  pub rep-literal : (v : Literal) → rep (literal v) ≡ literal v
  unfolding replace_cols_by_name
  rep-literal v = refl

  pub rep-reference : (r : Field) → rep (reference r) ≡ get_or m.1 (seek r m.0) (reference r)
  unfolding replace_cols_by_name
  rep-reference r = refl

  pub rep-alias : (e : Expr) (f : Field) → rep (alias e f) ≡ alias (rep e) f
  unfolding replace_cols_by_name
  rep-alias e f = refl

  as-arguments : (ts : List Expr) → replace_cols_by_names m (arguments ts) ≡ arguments (map rep ts)
  unfolding replace_cols_by_name
  as-arguments [] = refl
  as-arguments (t ∷ ts) = ap (more (rep t)) (as-arguments ts)

  pub rep-call : (n : ℕ) (ts : List Expr) → rep (call n (arguments ts)) ≡ call n (arguments (map rep ts))
  unfolding replace_cols_by_name
  rep-call n ts = ap (call n) (as-arguments ts)

  -- how large the arguments become
  abbrev pub sizes : List Expr → ℕ
  sizes ts = sizes_of (arguments (map rep ts))

  pub sizes-turn : (ts : List Expr) (i : ℕ) (d : Expr) → i < length ts → sizes (drop i ts) ≡ size_of (rep (get_or ts i d)) + sizes (drop (i + 1) ts)
  sizes-turn ts i d lt = at_drop_more sizes ts i d lt

  pub sizes-end : (ts : List Expr) (i : ℕ) → length ts ≤ i → sizes (drop i ts) ≡ 0
  sizes-end ts i le = at_drop_all sizes ts i le

-- a total only if it was one, where no total stands in
none-at : (p : Expr → Bool) (xs : List Expr) (i : ℕ) (d : Expr) → any p xs ≡ false → p d ≡ false → p (get_or xs i d) ≡ false
none-at p [] i d h k = k
none-at p (x ∷ xs) zero d h k = go (p x) h
  where
    go : (b : Bool) → (b || any p xs) ≡ false → b ≡ false
    go true q = q
    go false q = refl
none-at p (x ∷ xs) (suc i) d h k = none-at p xs i d (go (p x) h) k
  where
    go : (b : Bool) → (b || any p xs) ≡ false → any p xs ≡ false
    go true q = absurd (let z : ◌≡◌ {A = ℕ} 0 1 = cc in omega arith)
    go false q = q

module _ (F : Functions) (m : Extracting.ReplaceMap) (none : any (is_total F) m.1 ≡ false) where
  pub rep-no-total : (e : Expr) → is_total F e ≡ false → is_total F (replace_cols_by_name m e) ≡ false
  unfolding replace_cols_by_name
  rep-no-total (literal v) h = refl
  rep-no-total (reference r) h = none-at (is_total F) m.1 (seek r m.0) (reference r) none refl
  rep-no-total (alias e f) h = rep-no-total e h
  rep-no-total (call n es) h = h

  pub all-no-total : (ts : List Expr) → any (is_total F) ts ≡ false → any (is_total F) (map (replace_cols_by_name m) ts) ≡ false
  all-no-total [] h = refl
  all-no-total (t ∷ ts) h = go (is_total F t) (any (is_total F) ts) (is_total F (replace_cols_by_name m t)) (any (is_total F) (map (replace_cols_by_name m) ts)) h (rep-no-total t) (all-no-total ts)
    where
      go : (a b c d : Bool) → (a || b) ≡ false → (a ≡ false → c ≡ false) → (b ≡ false → d ≡ false) → (c || d) ≡ false
      go true b c d k f g = absurd (let z : ◌≡◌ {A = ℕ} 0 1 = cc in omega arith)
      go false b c d k f g = ap (λ x. x || d) (f refl) ∙ g k

-- over the tables: what stands behind a field
module _ (v : View) (m : ReplaceMap) (inside : MapIn v m) (f : StoredField) (p : ℕ) (place : p ≡ seek (stored_field v.bytes f) (map (stored_field v.bytes) m.fields.now)) where
  abbrev r : Field
  r = stored_field v.bytes f

  abbrev there : List Expr
  there = exprs_in v.trees (numbers_of m.behind.now)

  found : replace_cols_by_name (map_of v m) (reference r) ≡ get_or there p (reference r)
  found = rep-reference (map_of v m) r ∙ ap (λ i. get_or there i (reference r)) (sym place)

  pub behind-is : (d : ExprId) → p < length m.behind.now → expr_in v.trees (get_or m.behind.now p d).0 ≡ replace_cols_by_name (map_of v m) (reference r)
  behind-is d lt =
      ap (expr_in v.trees) (sym (get_or-map (λ (x : ExprId). x.0) m.behind.now p d 0 lt))
      ∙ sym (get_or-map (expr_in v.trees) (numbers_of m.behind.now) p 0 (reference r) (omega (arith, lt, length-map m.behind.now (λ (x : ExprId). x.0)))) ∙ sym found

  pub behind-there : (d : ExprId) → p < length m.behind.now → (get_or m.behind.now p d).0 < length v.trees
  behind-there d lt = item_below (λ (x : ExprId). x.0) (length v.trees) m.behind.now p d lt inside.present

  pub none-behind : length m.behind.now ≤ p → replace_cols_by_name (map_of v m) (reference r) ≡ reference r
  none-behind le = found ∙ get_or_past there p (reference r) (omega (arith, le, length-map (numbers_of m.behind.now) (expr_in v.trees), length-map m.behind.now (λ d. d.0)))
