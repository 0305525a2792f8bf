-- Equal expressions: they have one value, the same references, and the same owners.
use Rattle.std.proofs.Common.{◌≡◌, ℕ, Bool, true, false, T, eqb, List, [], ◌∷◌, get_or, ℤ, pos, negsuc, refl, ap, subst, eqb→eq}
use lib.Ieee.{binary64, of_bits, to_bits}
use mir.Facts.{and_yes}
use Rattle.plan.specs.Fields.{any}
use Rattle.plan.specs.Functions.{Functions}
use Rattle.plan.specs.Terms.{Expr, Exprs, Field, Literal, same_expr, same_exprs, same_field, same_literal, same_truth, same_whole}
use Rattle.plan.specs.Terms.Expr.{alias, call, literal, reference}
use Rattle.plan.specs.Terms.Exprs.{more, none}
use Rattle.plan.specs.Terms.Literal.{null as null_literal, real, text, truth, whole}
use Rattle.plan.specs.Values.{null}
use Rattle.plan.specs.Values.Value.{real as real_value, text as text_value, truth as truth_value, whole as whole_value}
use Rattle.rows.proofs.Finds.{name-eq}
use Rattle.rows.proofs.Resolving.{field-eq}
use Rattle.rows.proofs.Words.{eval, evals}
use Rattle.rows.specs.Rows.{literal_value, seek, value_in}
use Rattle.rows.specs.Standing.{Known, Knowns}
use Rattle.rows.specs.Worlds.{Fitting, Row}
use Rattle.rewriting.specs.Extracting.{same_fields}
use Rattle.rewriting.specs.Routing.{has_all_column_refs, have_all_column_refs}

bool_eq : (a b : Bool) → T (same_truth a b) → a ≡ b
bool_eq true true h = refl
bool_eq true false h = absurd h
bool_eq false true h = absurd h
bool_eq false false h = refl

whole-eq : (a b : ℤ) → T (same_whole a b) → a ≡ b
whole-eq (pos m) (pos n) h = ap pos (eqb→eq m n h)
whole-eq (pos m) (negsuc n) h = absurd h
whole-eq (negsuc m) (pos n) h = absurd h
whole-eq (negsuc m) (negsuc n) h = ap negsuc (eqb→eq m n h)

same-literal : (v w : Literal) → T (same_literal v w) → literal_value v ≡ literal_value w
same-literal null_literal null_literal h = refl
same-literal null_literal (truth b) h = absurd h
same-literal null_literal (whole n) h = absurd h
same-literal null_literal (real y) h = absurd h
same-literal null_literal (text t) h = absurd h
same-literal (truth a) null_literal h = absurd h
same-literal (truth a) (truth b) h = ap truth_value (bool_eq a b h)
same-literal (truth a) (whole n) h = absurd h
same-literal (truth a) (real y) h = absurd h
same-literal (truth a) (text t) h = absurd h
same-literal (whole m) null_literal h = absurd h
same-literal (whole m) (truth b) h = absurd h
same-literal (whole m) (whole n) h = ap whole_value (whole-eq m n h)
same-literal (whole m) (real y) h = absurd h
same-literal (whole m) (text t) h = absurd h
same-literal (real x) null_literal h = absurd h
same-literal (real x) (truth b) h = absurd h
same-literal (real x) (whole n) h = absurd h
same-literal (real x) (real y) h = ap (λ (k : ℕ). real_value (of_bits binary64 k)) (eqb→eq (to_bits binary64 x) (to_bits binary64 y) h)
same-literal (real x) (text t) h = absurd h
same-literal (text s) null_literal h = absurd h
same-literal (text s) (truth b) h = absurd h
same-literal (text s) (whole n) h = absurd h
same-literal (text s) (real y) h = absurd h
same-literal (text s) (text t) h = ap text_value (name-eq s t h)

module _ {F : Functions} (W : Fitting F) (fs : List Field) (row : Row) where
  mutual
    unfolding value_in

    pub same-eval : (e d : Expr) → T (same_expr e d) → eval W fs row e ≡ eval W fs row d
    same-eval (literal v) (literal w) h = same-literal v w h
    same-eval (literal v) (reference g) h = absurd h
    same-eval (literal v) (alias d g) h = absurd h
    same-eval (literal v) (call m ds) h = absurd h
    same-eval (reference f) (literal w) h = absurd h
    same-eval (reference f) (reference g) h = ap (λ (r : Field). get_or row (seek r fs) null) (field-eq f g h)
    same-eval (reference f) (alias d g) h = absurd h
    same-eval (reference f) (call m ds) h = absurd h
    same-eval (alias e f) (literal w) h = absurd h
    same-eval (alias e f) (reference g) h = absurd h
    same-eval (alias e f) (alias d g) h = same-eval e d (and_yes (same_expr e d) (same_field f g) h).0
    same-eval (alias e f) (call m ds) h = absurd h
    same-eval (call n es) (literal w) h = absurd h
    same-eval (call n es) (reference g) h = absurd h
    same-eval (call n es) (alias d g) h = absurd h
    same-eval (call n es) (call m ds) h =
        let k = and_yes (eqb n m) (same_exprs es ds) h in
        let p = eqb→eq n m k.0 in
        let q = sames-eval es ds k.1 in
        cc

    sames-eval : (es ds : Exprs) → T (same_exprs es ds) → evals W fs row es ≡ evals W fs row ds
    sames-eval none none h = refl
    sames-eval none (more d ds) h = absurd h
    sames-eval (more e es) none h = absurd h
    sames-eval (more e es) (more d ds) h =
        let k = and_yes (same_expr e d) (same_exprs es ds) h in
        let p = same-eval e d k.0 in
        let q = sames-eval es ds k.1 in
        cc

module _ (fs : List Field) where
  mutual
    pub same_known : (e d : Expr) → T (same_expr e d) → Known fs e → Known fs d
    same_known (literal v) (literal w) h k = tt
    same_known (literal v) (reference g) h k = absurd h
    same_known (literal v) (alias d g) h k = absurd h
    same_known (literal v) (call m ds) h k = absurd h
    same_known (reference f) (literal w) h k = absurd h
    same_known (reference f) (reference g) h k = subst (λ (r : Field). Known fs (reference r)) (field-eq f g h) k
    same_known (reference f) (alias d g) h k = absurd h
    same_known (reference f) (call m ds) h k = absurd h
    same_known (alias e f) (literal w) h k = absurd h
    same_known (alias e f) (reference g) h k = absurd h
    same_known (alias e f) (alias d g) h k = same_known e d (and_yes (same_expr e d) (same_field f g) h).0 k
    same_known (alias e f) (call m ds) h k = absurd h
    same_known (call n es) (literal w) h k = absurd h
    same_known (call n es) (reference g) h k = absurd h
    same_known (call n es) (alias d g) h k = absurd h
    same_known (call n es) (call m ds) h k = sames-known es ds (and_yes (eqb n m) (same_exprs es ds) h).1 k

    sames-known : (es ds : Exprs) → T (same_exprs es ds) → Knowns fs es → Knowns fs ds
    sames-known none none h k = tt
    sames-known none (more d ds) h k = absurd h
    sames-known (more e es) none h k = absurd h
    sames-known (more e es) (more d ds) h k =
        let a = and_yes (same_expr e d) (same_exprs es ds) h in
        (same_known e d a.0 k.0, sames-known es ds a.1 k.1)

  mutual
    unfolding has_all_column_refs

    pub same-owned : (e d : Expr) → T (same_expr e d) → has_all_column_refs fs e ≡ has_all_column_refs fs d
    same-owned (literal v) (literal w) h = refl
    same-owned (literal v) (reference g) h = absurd h
    same-owned (literal v) (alias d g) h = absurd h
    same-owned (literal v) (call m ds) h = absurd h
    same-owned (reference f) (literal w) h = absurd h
    same-owned (reference f) (reference g) h = ap (λ (r : Field). any (same_field r) fs) (field-eq f g h)
    same-owned (reference f) (alias d g) h = absurd h
    same-owned (reference f) (call m ds) h = absurd h
    same-owned (alias e f) (literal w) h = absurd h
    same-owned (alias e f) (reference g) h = absurd h
    same-owned (alias e f) (alias d g) h = same-owned e d (and_yes (same_expr e d) (same_field f g) h).0
    same-owned (alias e f) (call m ds) h = absurd h
    same-owned (call n es) (literal w) h = absurd h
    same-owned (call n es) (reference g) h = absurd h
    same-owned (call n es) (alias d g) h = absurd h
    same-owned (call n es) (call m ds) h = sames-owned es ds (and_yes (eqb n m) (same_exprs es ds) h).1

    sames-owned : (es ds : Exprs) → T (same_exprs es ds) → have_all_column_refs fs es ≡ have_all_column_refs fs ds
    sames-owned none none h = refl
    sames-owned none (more d ds) h = absurd h
    sames-owned (more e es) none h = absurd h
    sames-owned (more e es) (more d ds) h =
        let k = and_yes (same_expr e d) (same_exprs es ds) h in
        let p = same-owned e d k.0 in
        let q = sames-owned es ds k.1 in
        cc

pub fields-eq : (fs gs : List Field) → T (same_fields fs gs) → fs ≡ gs
unfolding same_fields
fields-eq [] [] h = refl
fields-eq [] (g ∷ gs) h = absurd h
fields-eq (f ∷ fs) [] h = absurd h
fields-eq (f ∷ fs) (g ∷ gs) h =
    let k = and_yes (same_field f g) (same_fields fs gs) h in
    let p = field-eq f g k.0 in
    let q = fields-eq fs gs k.1 in
    cc
