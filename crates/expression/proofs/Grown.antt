-- From what was written to what a building call promises.
use Rattle.std.proofs.Common.{◌≡◌, ℕ, ◌+◌, ◌≤◌, true, ◌&&◌, leb, List, [], ◌∷◌, ◌++◌, length, None, sym, refl, ap, ◌∙◌}
use Rattle.std.proofs.lemmas.List.{append-nil}
use Rattle.std.proofs.lemmas.Bool.{and_parts, leb-true}
use Rattle.plan.specs.Terms.{Expr}
use Rattle.plan.specs.Faults.{first_no}
use Rattle.plan.specs.Calls.{Call, new_exprs, outlay}
use Rattle.plan.specs.Model.{Space}
use Rattle.expression.specs.Building.{bare, roomy, all_asked_of, Grew}
use Rattle.terms.specs.Views.{View, grown}
use Rattle.entries.specs.declared.node.Entry.{Entry}
use Rattle.terms.proofs.Facts.{same_view, same_count}

-- a text or a list that is written changes no tree
pub same-trees : (v w : View) (bs : List ℕ) (es : List Entry) → w ≡ grown v [] bs es → w.trees ≡ v.trees
same-trees v w bs es e = ap (λ x. x.trees) e ∙ append-nil v.trees

pub same-functions : (v w : View) (bs : List ℕ) (es : List Entry) → w ≡ grown v [] bs es → w.functions ≡ v.functions
same-functions v w bs es e = ap (λ x. x.functions) e

-- names or a list were written, and then the node
pub grew_from : (v w u : View) (c : Call) (t : Expr) (bs : List ℕ) (es : List Entry) (r : ℕ) → first_no (all_asked_of v c) ≡ None → new_exprs (bare v) c ≡ t ∷ []
    → w ≡ grown v [] bs es → u ≡ grown w (t ∷ []) [] [] → r ≡ length w.trees → length bs ≡ (outlay (bare v) c).bytes → length es ≡ (outlay (bare v) c).entries → Grew v c r u
grew_from v w u c t bs es r ok new p q n b l = record {
  accepted = ok;
  number = n ∙ same_count v w bs es p;
  bytes = bs;
  entries = es;
  view = q ∙ ap (λ x. grown x (t ∷ []) [] []) p
      ∙ same_view v v.functions v.trees (new_exprs (bare v) c) v.bytes bs v.entries es v.functions ((v.trees ++ []) ++ t ∷ []) ((v.bytes ++ bs) ++ []) ((v.entries ++ es) ++ []) refl refl
      (ap (λ l. l ++ t ∷ []) (append-nil v.trees) ∙ ap (λ l. v.trees ++ l) (sym new)) (append-nil (v.bytes ++ bs)) (append-nil (v.entries ++ es));
  bytes_used = b;
  entries_used = l;
}

-- what room for so much says of each table
pub roomy-parts : (v : View) (s : Space) → roomy v s ≡ true → (length v.trees + s.exprs ≤ 1024) × (length v.entries + s.entries ≤ 2048) × (length v.bytes + s.bytes ≤ 16384)
roomy-parts v s h =
    let p = and_parts (leb (length v.trees + s.exprs) 1024) (leb (length v.entries + s.entries) 2048 && leb (length v.bytes + s.bytes) 16384) h in
    let q = and_parts (leb (length v.entries + s.entries) 2048) (leb (length v.bytes + s.bytes) 16384) p.1 in
    (leb-true _ _ p.0, leb-true _ _ q.0, leb-true _ _ q.1)
