-- What was added to a draft, item by item.
use Rattle.std.proofs.Common.{◌+◌, List, [], ◌∷◌, ◌++◌, sym, refl, ◌∙◌, subst, ap₂, append_assoc}
use Rattle.std.proofs.lemmas.List.{append-nil}
use Rattle.std.proofs.lemmas.List.Sums.{sum_by-cons}
use Rattle.std.proofs.lemmas.Bool.{and_from}
use Rattle.plan.specs.Terms.{Expr}
use Rattle.plan.specs.Model.{expr_in, exprs_in}
use Rattle.plan.specs.Calls.{rendered_bytes}
use Rattle.terms.specs.Views.{View, numbers_of}
use Rattle.entries.specs.declared.node.ExprId.{ExprId}
use Rattle.table.specs.Contents.{Pushed}
use Rattle.draft.specs.Drafts.{field_bytes, FieldFor, FieldsFor}
use Rattle.draft.specs.declared.word.DraftField.{DraftField}

fields-cons : (v : View) (e : Expr) (es : List Expr) (d : DraftField) (a b : List DraftField) → FieldFor v e d → FieldsFor v es (a ++ d ∷ []) b → FieldsFor v (e ∷ es) a b
fields-cons v e es d a b f k = record {
  new = d ∷ k.new;
  grew = k.grew ∙ append_assoc a (d ∷ []) k.new;
  fields = λ o g. ap₂ (λ x xs. x ∷ xs) (f.field o g) (k.fields o g);
  inside = λ o g. and_from _ _ (f.inside o g) (k.inside o g);
  bytes = sum_by-cons (field_bytes v) d k.new ∙ ap₂ (λ x y. x + y) f.bytes k.bytes ∙ sym (sum_by-cons (rendered_bytes v.functions) e es);
}

-- where what is made of each expression is a draft of its field
pub pushed-fields : (v : View) (R : ExprId → DraftField → Type 0) → ((x : ExprId) (d : DraftField) → R x d → FieldFor v (expr_in v.trees x.0) d)
    → (ids : List ExprId) (a b : List DraftField) → Pushed R ids a b → FieldsFor v (exprs_in v.trees (numbers_of ids)) a b
pushed-fields v R h [] a b p = record { new = []; grew = sym p ∙ sym (append-nil a); fields = λ o g. refl; inside = λ o g. refl; bytes = refl }
pushed-fields v R h (x ∷ ids) a b p =
    let one = p.1 in
    fields-cons v (expr_in v.trees x.0) (exprs_in v.trees (numbers_of ids)) one.0 a b (h x one.0 one.1) (subst (λ l. FieldsFor v (exprs_in v.trees (numbers_of ids)) l b) one.2 (pushed-fields v R h ids p.0 b p.2))
