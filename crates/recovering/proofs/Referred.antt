-- The fields of a node apart from the tables, as the tables grow by expressions.
use Rattle.std.proofs.Common.{◌≡◌, ℕ, ◌<◌, true, List, ◌++◌, map, length, get_or, Result, sym, ap, ap₂, ◌∙◌, subst, arith}
use Rattle.std.proofs.lemmas.List.{get_or-map, length-map}
use Rattle.entries.specs.Spans.{stored_field, stored_in}
use Rattle.entries.specs.declared.node.ExprId.{ExprId}
use Rattle.entries.specs.declared.node.StoredField.{StoredField}
use Rattle.extracting.proofs.Built.{reused-built}
use Rattle.extracting.proofs.Spaces.{AtMost}
use Rattle.extracting.specs.Walking.{BuiltBy, Grows}
use Rattle.lexicon.proofs.Frames.{every-at}
use Rattle.plan.specs.Calls.{good_field}
use Rattle.plan.specs.Fields.{every}
use Rattle.plan.specs.Model.{no_expr, no_node, space, tree_at}
use Rattle.plan.specs.Plans.{fields_of}
use Rattle.plan.specs.Terms.{Field}
use Rattle.plan.specs.Terms.Expr.{reference}
use Rattle.plan.specs.declared.fault.Fault.{Fault}
use Rattle.rewriting.specs.Generated.{expr_names, highest, next_number}
use Rattle.rewriting.specs.Outlay.{entries_of, tree_space}
use Rattle.rows.specs.Standing.{refs}
use Rattle.tables.proofs.Inputs.{tree-at}
use Rattle.tables.specs.Holding.{fields_at, model_of, view_in}
use Rattle.tables.specs.Reusing.{Reused}
use Rattle.tables.specs.declared.tables.Tables.{Tables}
use Rattle.terms.proofs.Frames.{field-grow}
use Rattle.recovering.proofs.Qualifiers.{column-number, no_field}

pub reference-space : (f : Field) → AtMost (space 1 0 0 0 0) (tree_space (reference f))
unfolding tree_space entries_of
reference-space f = record { exprs = omega arith; plans = omega arith; entries = omega arith; fields = omega arith; bytes = omega arith }

pub refs-at : (fs : List Field) (i : ℕ) → i < length fs → get_or (refs fs) i no_expr ≡ reference (get_or fs i no_field)
refs-at fs i lt = get_or-map reference fs i no_field no_expr lt

-- x is the field at i of the node p, as the tables u store it
pub record At (t : Tables) (p : ℕ) (u : Tables) (i : ℕ) (x : StoredField) : Type 0 where
  pub inside : i < length (fields_at t p)
  pub is : stored_field (view_in u).bytes x ≡ get_or (fields_at t p) i no_field
  pub stored : stored_in (view_in u).bytes x ≡ true
  pub low : highest 0 (expr_names (reference (stored_field (view_in u).bytes x))) < next_number (model_of u)

-- the fields of the node p, as xs has them
module _ (t : Tables) (p : ℕ) (xs : List StoredField) (are : map (stored_field (view_in t).bytes) xs ≡ fields_at t p) where
  pub as-many : length xs ≡ length (fields_at t p)
  as-many = sym (length-map xs (stored_field (view_in t).bytes)) ∙ ap length are

  pub at-place : every (stored_in (view_in t).bytes) xs ≡ true → (u : Tables) → Grows (model_of t) (model_of u) → (i : ℕ) → i < length xs → (d x : StoredField) → x ≡ get_or xs i d → At t p u i x
  at-place stored u g i lt d x e =
      let bs = (view_in t).bytes in
      let fs = fields_at t p in
      let y = get_or xs i d in
      let grown = field-grow bs g.text.more y (every-at (stored_in bs) xs i d lt stored) in
      let is : stored_field (view_in u).bytes x ≡ get_or fs i no_field =
      ap₂ stored_field g.text.is e ∙ grown.0 ∙ sym (get_or-map (stored_field bs) xs i d no_field lt) ∙ ap (λ gs. get_or gs i no_field) are in
      let stay : fields_of (model_of u).functions (tree_at (model_of u) p) ≡ fs = ap₂ (λ F ns. fields_of F (get_or ns p no_node).tree) g.functions g.plans ∙ ap (fields_of (view_in t).functions) (tree-at t p) in
      record {
        inside = omega (arith, as-many);
        is = is;
        stored = ap₂ stored_in g.text.is e ∙ grown.1;
        low = subst (λ f. highest 0 (expr_names (reference f)) < next_number (model_of u)) (ap (λ gs. get_or gs i no_field) stay ∙ sym is) (column-number (model_of u) p i);
      }

module _ (t : Tables) (p : ℕ) (u : Tables) (i : ℕ) (x : StoredField) (a : At t p u i x) where
  pub good-at : every good_field (fields_at t p) ≡ true → good_field (stored_field (view_in u).bytes x) ≡ true
  good-at h = ap good_field a.is ∙ every-at good_field (fields_at t p) i no_field a.inside h

  pub column-built : (v : Tables) (r : Result ExprId Fault) → Reused (model_of u) (reference (stored_field (view_in u).bytes x)) r (model_of v) → BuiltBy u (space 1 0 0 0 0) 0 (reference (get_or (fields_at t p) i no_field)) r v
  column-built v r h = subst (λ f. BuiltBy u (space 1 0 0 0 0) 0 (reference f) r v) a.is (reused-built u v (reference (stored_field (view_in u).bytes x)) r a.low h)
