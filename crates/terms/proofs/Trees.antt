-- How the trees follow the tables as these grow.
use Rattle.std.proofs.Common.{◌≡◌, ℕ, ◌+◌, ◌<◌, true, ltb, leb, List, [], ◌∷◌, ◌++◌, map, length, get_or, sym, refl, ap, ◌∙◌, subst, ap₂, arith, length-append}
use Rattle.std.proofs.lemmas.Bool.{and_parts, and_from, leb-true, le-leb, ltb-true}
use Rattle.table.proofs.Folds.{built-push, built-length, built-grow, built-from, ok-push}
use Rattle.table.proofs.Parts.{part-grow}
use Rattle.plan.specs.Terms.{Expr, arguments}
use Rattle.plan.specs.Terms.Expr.{literal, reference, alias, call}
use Rattle.plan.specs.Model.{no_expr, expr_in, exprs_in}
use Rattle.plan.specs.Calls.{below, all_below}
use Rattle.entries.specs.Spans.{stored_field, stored_in}
use Rattle.terms.specs.Build.{numbers_in, build_node, build, trees, inside_node, inside, sound}
use Rattle.entries.specs.Entries.{entry_number}
use Rattle.entries.specs.declared.node.Entry.{Entry}
use Rattle.entries.specs.declared.node.ExprNode.{ExprNode}
use Rattle.entries.specs.declared.node.ExprNode.TheVariants.{Constant, Reference, Alias, Call}
use Rattle.entries.specs.declared.node.ExprRecord.{ExprRecord}
use Rattle.terms.proofs.Frames.{literal-grow, field-grow}

-- the text and the lists grow
module _ (bs bs' : List ℕ) (es es' : List Entry) where
  node-grow : (i : ℕ) (n : ExprNode) → inside_node bs es i n ≡ true → (inside_node (bs ++ bs') (es ++ es') i n ≡ true) × ((ts : List Expr) → build_node (bs ++ bs') (es ++ es') ts n ≡ build_node bs es ts n)
  node-grow i (Constant l) h = let a = literal-grow bs bs' l h in (a.1, λ ts. ap literal a.0)
  node-grow i (Reference f) h = let a = field-grow bs bs' f h in (a.1, λ ts. ap reference a.0)
  node-grow i (Alias inner f) h =
      let p = and_parts (ltb inner.0 i) (stored_in bs f) h in
      let a = field-grow bs bs' f p.1 in
      (and_from _ _ p.0 a.1, λ ts. ap (λ g. alias (expr_in ts inner.0) g) a.0)
  node-grow i (Call f run) h =
      let p = and_parts (leb (run.first + run.count) (length es)) (all_below i (numbers_in es run.first run.count)) h in
      let le = leb-true (run.first + run.count) (length es) p.0 in
      let e = part-grow es es' run.first run.count le in
      (and_from _ _ (le-leb _ _ (omega (arith, length-append es es'))) (ap (λ z. all_below i (map entry_number z)) e ∙ p.1), λ ts. ap (λ z. call f (arguments (exprs_in ts (map entry_number z)))) e)

  pub trees-grow : (rs : List ExprRecord) → sound bs es rs ≡ true → (sound (bs ++ bs') (es ++ es') rs ≡ true) × (trees (bs ++ bs') (es ++ es') rs ≡ trees bs es rs)
  trees-grow rs h =
      built-grow (build bs es) (build (bs ++ bs') (es ++ es')) (inside bs es) (inside (bs ++ bs') (es ++ es')) (λ i r k. node-grow i r.node k) 0 rs [] h

-- by equations, as an answer has them
pub trees-grown : (bs bs' B : List ℕ) (es es' E : List Entry) (rs : List ExprRecord) → B ≡ bs ++ bs' → E ≡ es ++ es' → sound bs es rs ≡ true → (sound B E rs ≡ true) × (trees B E rs ≡ trees bs es rs)
trees-grown bs bs' B es es' E rs p q h =
    let g = trees-grow bs bs' es es' rs h in
    (ap₂ (λ b e. sound b e rs) p q ∙ g.0, ap₂ (λ b e. trees b e rs) p q ∙ g.1)

-- a record is added
module _ (bs : List ℕ) (es : List Entry) where
  pub trees-push : (rs R : List ExprRecord) (r : ExprRecord) → R ≡ rs ++ r ∷ [] → trees bs es R ≡ trees bs es rs ++ build bs es (trees bs es rs) r ∷ []
  trees-push rs R r e = ap (trees bs es) e ∙ built-push (build bs es) rs r []

  pub trees-length : (rs : List ExprRecord) → length (trees bs es rs) ≡ length rs
  trees-length rs = omega (arith, built-length (build bs es) rs [])

  pub sound-push : (rs R : List ExprRecord) (r : ExprRecord) → R ≡ rs ++ r ∷ [] → sound bs es rs ≡ true → inside bs es (length rs) r ≡ true → sound bs es R ≡ true
  sound-push rs R r e h k =
      let z : length rs ≡ 0 + length rs = omega arith in
      ap (sound bs es) e ∙ ok-push (inside bs es) 0 rs r h (subst (λ j. inside bs es j r ≡ true) z k)

-- a node's tree by the trees of its parts
pub picked_same : (ts us : List Expr) (i : ℕ) (js : List ℕ) → ((k : ℕ) → k < i → expr_in ts k ≡ expr_in us k) → all_below i js ≡ true → exprs_in ts js ≡ exprs_in us js
picked_same ts us i [] f h = refl
picked_same ts us i (j ∷ js) f h =
    let p = and_parts (below i j) (all_below i js) h in
    ap₂ (λ x y. x ∷ y) (f j (ltb-true j i p.0)) (picked_same ts us i js f p.1)

node-same : (bs : List ℕ) (es : List Entry) (i : ℕ) (n : ExprNode) (ts us : List Expr) → inside_node bs es i n ≡ true → ((k : ℕ) → k < i → expr_in ts k ≡ expr_in us k) → build_node bs es ts n ≡ build_node bs es us n
node-same bs es i (Constant l) ts us h f = refl
node-same bs es i (Reference r) ts us h f = refl
node-same bs es i (Alias inner r) ts us h f =
    let p = and_parts (ltb inner.0 i) (stored_in bs r) h in
    ap (λ t. alias t (stored_field bs r)) (f inner.0 (ltb-true inner.0 i p.0))
node-same bs es i (Call g run) ts us h f =
    let p = and_parts (leb (run.first + run.count) (length es)) (all_below i (numbers_in es run.first run.count)) h in
    ap (λ z. call g (arguments z)) (picked_same ts us i (numbers_in es run.first run.count) f p.1)

pub tree-at : (bs : List ℕ) (es : List Entry) (rs : List ExprRecord) (i : ℕ) (d : ExprRecord) → sound bs es rs ≡ true → i < length rs
    → (expr_in (trees bs es rs) i ≡ build bs es (trees bs es rs) (get_or rs i d)) × (inside bs es i (get_or rs i d) ≡ true)
tree-at bs es rs i d h l =
    let z : 0 + i ≡ i = omega arith in
    let r = built-from (build bs es) (inside bs es) no_expr (λ j s ts us k f. node-same bs es j s.node ts us k f) rs [] i d h l in
    (ap (λ j. expr_in (trees bs es rs) j) (sym z) ∙ r.0, subst (λ j. inside bs es j (get_or rs i d) ≡ true) z r.1)
