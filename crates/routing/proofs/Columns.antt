-- Which columns an expression has, kind by kind.
use Rattle.std.proofs.Common.{◌≡◌, ℕ, Bool, true, false, ◌&&◌, ◌||◌, List, [], ◌∷◌, refl, ap, ◌∙◌}
use Rattle.plan.specs.Fields.{any, every}
use Rattle.plan.specs.Plans.{without_qualifier}
use Rattle.plan.specs.Terms.{Expr, Field, Literal, arguments, same_field}
use Rattle.plan.specs.Terms.Expr.{alias, call, literal, reference}
use Rattle.rewriting.specs.Routing.{has_all_column_refs, have_all_column_refs, schema_columns}
use Rattle.routing.specs.Sides.{column_of}

-- a reference is a column of some fields if it is one of one of them
pub columns : (r : Field) (fs : List Field) → any (column_of r) fs ≡ any (same_field r) (schema_columns fs)
unfolding schema_columns
columns r [] = refl
columns r (f ∷ fs) = or_assoc (same_field r f) (same_field r (without_qualifier f)) (any (column_of r) fs) ∙ ap (λ b. same_field r f || (same_field r (without_qualifier f) || b)) (columns r fs)
  where
    or_assoc : (a b c : Bool) → ((a || b) || c) ≡ (a || (b || c))
    or_assoc true b c = refl
    or_assoc false b c = refl

module _ (cs : List Field) where
  pub of-literal : (v : Literal) → has_all_column_refs cs (literal v) ≡ true
  unfolding has_all_column_refs
  of-literal v = refl

  pub of-reference : (r : Field) → has_all_column_refs cs (reference r) ≡ any (same_field r) cs
  unfolding has_all_column_refs
  of-reference r = refl

  pub of-alias : (e : Expr) (f : Field) → has_all_column_refs cs (alias e f) ≡ has_all_column_refs cs e
  unfolding has_all_column_refs
  of-alias e f = refl

  of-list : (ts : List Expr) → have_all_column_refs cs (arguments ts) ≡ every (has_all_column_refs cs) ts
  unfolding has_all_column_refs
  of-list [] = refl
  of-list (t ∷ ts) = ap (λ b. has_all_column_refs cs t && b) (of-list ts)

  pub of-call : (n : ℕ) (ts : List Expr) → has_all_column_refs cs (call n (arguments ts)) ≡ every (has_all_column_refs cs) ts
  unfolding has_all_column_refs
  of-call n ts = of-list ts
