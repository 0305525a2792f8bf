-- A field under another name: one reference, or one and an alias.
use Rattle.std.proofs.Common.{◌≡◌, ℕ, zero, suc, ◌+◌, ◌<◌, ◌≤◌, Bool, true, false, cond, ◌&&◌, ◌||◌, List, [], ◌∷◌, ◌++◌, length, get_or, Ok, Err, Result, sym, refl, ap, ◌∙◌, subst, append-nil, arith, not-suc-le-zero}
use Rattle.std.proofs.lemmas.Bool.{and_parts}
use Rattle.entries.specs.declared.node.ExprId.{ExprId}
use Rattle.extracting.proofs.Built.{reused-built}
use Rattle.extracting.proofs.Growing.{grows-then}
use Rattle.extracting.proofs.Numbers.{numbered-built}
use Rattle.extracting.proofs.Spaces.{AtMost, alias-space, at-most-nothing, at-most-then, no-room, within-same, within-then, within_more}
use Rattle.extracting.specs.Walking.{Built, BuiltBy, Grows, NoRoom}
use Rattle.numbering.proofs.Highest.{highest-append}
use Rattle.numbering.proofs.Kept.{grown-names, next-of}
use Rattle.plan.specs.Calls.{good_alias}
use Rattle.plan.specs.Model.{Model, Space, expr_in, no_expr, plus, space}
use Rattle.plan.specs.Terms.{Expr, Field, same_field}
use Rattle.plan.specs.Terms.Expr.{alias, reference}
use Rattle.plan.specs.declared.fault.Fault.{Fault}
use Rattle.rewriting.specs.Extracting.{by_place}
use Rattle.rewriting.specs.Generated.{book_names, expr_names, field_names, highest, next_number}
use Rattle.rewriting.specs.Outlay.{nothing, tree_space}
use Rattle.tables.specs.Holding.{model_of, view_in}
use Rattle.tables.specs.Reusing.{Reused}
use Rattle.tables.specs.declared.tables.Tables.{Tables}
use Rattle.recovering.proofs.Qualifiers.{no_field}
use Rattle.recovering.proofs.Referred.{reference-space}
use Rattle.recovering.specs.Renaming.{can_rename, placed}

one : Space
one = space 1 0 0 0 0

-- the next number of a book that grew is no lower
next-later : (a b : Model) → Grows a b → next_number a ≤ next_number b
next-later a b g = omega (arith, next-of a, next-of b, grown-names a b g.exprs.more [] g.functions g.exprs.is (g.plans ∙ sym (append-nil a.plans)))

pub both-low : (m : ℕ) (f g : Field) → highest 0 (expr_names (reference f)) < m → highest 0 (expr_names (reference g)) < m → highest 0 (expr_names (alias (reference g) f)) < m
unfolding expr_names
both-low m f g h k = omega (arith, highest-append (field_names f) (field_names g))

pub second-low : (m : ℕ) (f g : Field) → highest 0 (expr_names (alias (reference g) f)) < m → highest 0 (expr_names (reference g)) < m
unfolding expr_names
second-low m f g h = omega (arith, highest-append (field_names f) (field_names g))

placed-space : (f g : Field) → AtMost (space 1 0 0 0 0) (tree_space (placed f g))
placed-space f g = go (same_field f g)
  where
    go : (b : Bool) → AtMost (space 1 0 0 0 0) (tree_space (cond b (reference g) (alias (reference g) f)))
    go true = reference-space g
    go false = at-most-then _ _ _ (plus-more (tree_space (reference g)) (space 1 0 0 0 0)) (alias-space (reference g) f)
      where
        plus-more : (p q : Space) → AtMost q (plus p q)
        plus-more p q = record { exprs = omega arith; plans = omega arith; entries = omega arith; fields = omega arith; bytes = omega arith }

module _ (t u : Tables) (f g : Field) where
  pub placed-fails : (e : Fault) → NoRoom t (space 1 0 0 0 0) e → NoRoom t (tree_space (placed f g)) e
  placed-fails e h = (h.0, no-room (model_of t).used nothing (model_of t).used (space 1 0 0 0 0) (tree_space (placed f g)) (within-same (model_of t).used nothing) (at-most-then _ _ _ (at-most-nothing (space 1 0 0 0 0)) (placed-space f g)) h.1)

  module _ (c : ℕ) (b : Built t (space 1 0 0 0 0) 0 (reference g) c u) where
    pub placed-same : same_field f g ≡ true → Built t (tree_space (placed f g)) 0 (placed f g) c u
    placed-same h =
        subst (λ e. Built t (tree_space e) 0 e c u) (sym (ap (λ k. cond k (reference g) (alias (reference g) f)) h))
        (record { present = b.present; tree = b.tree; grows = b.grows; numbers = b.numbers; spent = within_more _ _ _ _ b.spent (reference-space g) })

    both : (v : Tables) (r : Result ExprId Fault) → BuiltBy u (space 1 0 0 0 0) 0 (alias (reference g) f) r v → BuiltBy t (tree_space (alias (reference g) f)) 0 (alias (reference g) f) r v
    both v (Ok r) a = record {
      present = a.present;
      tree = a.tree;
      grows = grows-then (model_of t) (model_of u) (model_of v) b.grows a.grows;
      numbers = numbered-built (model_of t) (model_of u) (model_of v) 0 b.numbers a.numbers;
      spent = within_more _ _ _ _ (within-then _ _ _ _ _ (within_more _ _ _ _ b.spent (reference-space g)) a.spent) (alias-space (reference g) f);
    }
    both v (Err e) a = (a.0, no-room (model_of t).used (tree_space (reference g)) (model_of u).used (space 1 0 0 0 0) (tree_space (alias (reference g) f)) (within_more _ _ _ _ b.spent (reference-space g)) (alias-space (reference g) f) a.1)

    pub placed-alias : (v : Tables) (r : Result ExprId Fault) → same_field f g ≡ false → highest 0 (expr_names (alias (reference g) f)) < next_number (model_of t) → Reused (model_of u) (alias (expr_in (view_in u).trees c) f) r (model_of v)
        → BuiltBy t (tree_space (placed f g)) 0 (placed f g) r v
    placed-alias v r h low a =
        let later = next-later (model_of t) (model_of u) b.grows in
        let is : alias (expr_in (view_in u).trees c) f ≡ alias (reference g) f = ap (λ e. alias e f) b.tree in
        subst (λ e. BuiltBy t (tree_space e) 0 e r v) (sym (ap (λ k. cond k (reference g) (alias (reference g) f)) h))
        (both v r (reused-built u v (alias (reference g) f) r (omega (arith, low, later)) (subst (λ e. Reused (model_of u) e r (model_of v)) is a)))

-- the list by place, item by item
module _ where
  pub placed-at : (fs gs : List Field) (i : ℕ) → i < length fs → i < length gs → get_or (by_place fs gs) i no_expr ≡ placed (get_or fs i no_field) (get_or gs i no_field)
  unfolding by_place
  placed-at [] gs i lt gt = absurd (not-suc-le-zero lt)
  placed-at (f ∷ fs) [] i lt gt = absurd (not-suc-le-zero gt)
  placed-at (f ∷ fs) (g ∷ gs) zero lt gt = refl
  placed-at (f ∷ fs) (g ∷ gs) (suc i) lt gt = placed-at fs gs i (omega arith) (omega arith)

  pub placed-many : (fs gs : List Field) → length fs ≡ length gs → length (by_place fs gs) ≡ length fs
  unfolding by_place
  placed-many [] gs e = refl
  placed-many (f ∷ fs) [] e = absurd (omega arith)
  placed-many (f ∷ fs) (g ∷ gs) e = ap suc (placed-many fs gs (omega arith))

  pub rename-at : (fs gs : List Field) (i : ℕ) → i < length fs → i < length gs → can_rename fs gs ≡ true → (same_field (get_or fs i no_field) (get_or gs i no_field) || good_alias (get_or fs i no_field)) ≡ true
  rename-at [] gs i lt gt h = absurd (not-suc-le-zero lt)
  rename-at (f ∷ fs) [] i lt gt h = absurd (not-suc-le-zero gt)
  rename-at (f ∷ fs) (g ∷ gs) zero lt gt h = (and_parts (same_field f g || good_alias f) (can_rename fs gs) h).0
  rename-at (f ∷ fs) (g ∷ gs) (suc i) lt gt h = rename-at fs gs i (omega arith) (omega arith) (and_parts (same_field f g || good_alias f) (can_rename fs gs) h).1
