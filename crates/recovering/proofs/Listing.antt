-- A list of expressions that grows at its end.
use Rattle.std.proofs.Common.{◌≡◌, ℕ, ◌+◌, ◌<◌, ◌≤◌, List, [], ◌∷◌, ◌++◌, length, get_or, take, drop, sym, refl, ap, ap₂, ◌∙◌, subst, append_assoc, arith}
use Rattle.std.proofs.lemmas.Bool.{and_from, lt-ltb}
use Rattle.std.proofs.lemmas.List.{length_push, map_push, take-append-drop, take_all, take_more}
use Rattle.entries.specs.declared.node.ExprId.{ExprId}
use Rattle.extracting.proofs.Growing.{grows-at-once, grows-then, longer, tree-stays}
use Rattle.extracting.proofs.Numbers.{numbered-here}
use Rattle.extracting.proofs.Spaces.{AtMost, at-most-then, first-space, listed-push, no-room, within-same, within-then, within_more}
use Rattle.extracting.specs.Walking.{Built, NoRoom}
use Rattle.lexicon.proofs.Begun.{at-once}
use Rattle.lexicon.proofs.Frames.{every_append}
use Rattle.plan.specs.Calls.{all_below, below}
use Rattle.plan.specs.Model.{Space, expr_in, exprs_in, no_expr, plus}
use Rattle.plan.specs.Terms.{Expr}
use Rattle.plan.specs.declared.fault.Fault.{Fault}
use Rattle.rewriting.specs.Outlay.{list_space, nothing, tree_space}
use Rattle.stepping.specs.Lists.{ListMade}
use Rattle.tables.proofs.Begun.{tables-then}
use Rattle.stored.proofs.PlanFrames.{below_more}
use Rattle.tables.specs.Begun.{TablesBegin}
use Rattle.tables.specs.Holding.{model_of, view_in}
use Rattle.tables.specs.declared.tables.Tables.{Tables}
use Rattle.terms.proofs.Begun.{terms-at-once}
use Rattle.terms.proofs.Trees.{picked_same}
use Rattle.terms.specs.Views.{numbers_of}

pub none-made : (t : Tables) (low : ℕ) → ListMade t [] low [] t
unfolding list_space
none-made t low = record { present = refl; trees = refl; grows = grows-at-once (model_of t); spent = within-same (model_of t).used nothing; numbers = numbered-here (model_of t) low }

at-most-plus : (p q r : Space) → AtMost q r → AtMost (plus p q) (plus p r)
at-most-plus p q r a = record { exprs = omega (arith, a.exprs); plans = omega (arith, a.plans); entries = omega (arith, a.entries); fields = omega (arith, a.fields); bytes = omega (arith, a.bytes) }

module _ (t u : Tables) (es : List Expr) (low : ℕ) (ids : List ExprId) (l : ListMade t es low ids u) (e : Expr) (o : Space) (less : AtMost o (tree_space e)) where
  with-one : AtMost (plus (list_space es) o) (list_space (es ++ e ∷ []))
  with-one = subst (AtMost (plus (list_space es) o)) (sym (listed-push es e)) (at-most-plus (list_space es) o (tree_space e) less)

  pub one-more : (v : Tables) (r : ExprId) (ids' : List ExprId) → ids' ≡ ids ++ r ∷ [] → Built u o low e r.0 v → ListMade t (es ++ e ∷ []) low ids' v
  one-more v r ids' pushed b =
      let ns = numbers_of ids in
      let count = length (view_in v).trees in
      let numbers : numbers_of ids' ≡ ns ++ r.0 ∷ [] = ap numbers_of pushed ∙ map_push (λ k. k.0) ids r in
      record {
        present = ap (all_below count) numbers ∙ every_append (below count) ns (r.0 ∷ []) (below_more _ count ns (longer u v b.grows) l.present) (and_from _ _ (lt-ltb r.0 count b.present) refl);
        trees = ap (exprs_in (view_in v).trees) numbers ∙ map_push (expr_in (view_in v).trees) ns r.0 ∙ ap₂ (λ ds d. ds ++ d ∷ []) (picked_same (view_in v).trees (view_in u).trees (length (view_in u).trees) ns (λ k lt. tree-stays u v b.grows k lt) l.present ∙ l.trees) b.tree;
        grows = grows-then (model_of t) (model_of u) (model_of v) l.grows b.grows;
        spent = within_more _ _ _ _ (within-then (model_of t).used (list_space es) (model_of u).used o (model_of v).used l.spent b.spent) with-one;
        numbers = λ k h le. b.numbers k (l.numbers k h le) le;
      }

  -- where there is no room for one of a list
  pub one-refused : (rest : List Expr) (f : Fault) → NoRoom u o f → NoRoom t (list_space (es ++ e ∷ rest)) f
  one-refused rest f h =
      let all : AtMost (list_space (es ++ e ∷ [])) (list_space (es ++ e ∷ rest)) = subst (λ ds. AtMost (list_space (es ++ e ∷ [])) (list_space ds)) (append_assoc es (e ∷ []) rest) (first-space (es ++ e ∷ []) rest) in
      (h.0, no-room (model_of t).used (list_space es) (model_of u).used o (list_space (es ++ e ∷ rest)) l.spent (at-most-then _ _ _ with-one all) h.1)

tables-at-once : (t : Tables) → TablesBegin t t
tables-at-once t = record { terms = terms-at-once t.terms; fields = at-once t.fields; plans = at-once t.plans }

-- of the expressions es, the first i are made
pub record Partly (t : Tables) (es : List Expr) (u : Tables) (i : ℕ) (made : List ExprId) : Type 0 where
  pub listed : ListMade t (take i es) 0 made u
  pub counted : length made ≡ i
  pub begins : TablesBegin t u

module _ (t : Tables) (es : List Expr) where
  pub none-yet : (made : List ExprId) → made ≡ [] → Partly t es t 0 made
  none-yet made e = record {
    listed = subst (λ ids. ListMade t [] 0 ids t) (sym e) (none-made t 0);
    counted = ap length e;
    begins = tables-at-once t;
  }

  module _ (u : Tables) (i : ℕ) (made : List ExprId) (k : Partly t es u i made) where
    pub all-made : length es ≤ i → ListMade t es 0 made u
    all-made le = subst (λ ds. ListMade t ds 0 made u) (take_all i es le) k.listed

    module _ (e : Expr) (is : get_or es i no_expr ≡ e) (lt : i < length es) (o : Space) (less : AtMost o (tree_space e)) where
      more : take (i + 1) es ≡ take i es ++ e ∷ []
      more = take_more es i no_expr lt ∙ ap (λ d. take i es ++ d ∷ []) is

      pub turn-fails : (f : Fault) → NoRoom u o f → NoRoom t (list_space es) f
      turn-fails f h =
          let split : es ≡ take i es ++ e ∷ drop (i + 1) es = sym (take-append-drop (i + 1) es) ∙ ap (λ ds. ds ++ drop (i + 1) es) more ∙ append_assoc (take i es) (e ∷ []) (drop (i + 1) es) in
          subst (λ ds. NoRoom t (list_space ds) f) (sym split) (one-refused t u (take i es) 0 made k.listed e o less (drop (i + 1) es) f h)

      pub turn-made : (v : Tables) (r : ExprId) (made' : List ExprId) → made' ≡ made ++ r ∷ [] → TablesBegin u v → Built u o 0 e r.0 v → Partly t es v (i + 1) made'
      turn-made v r made' pushed begins b = record {
        listed = subst (λ ds. ListMade t ds 0 made' v) (sym more) (one-more t u (take i es) 0 made k.listed e o less v r made' pushed b);
        counted = omega (arith, ap length pushed, length_push made r, k.counted);
        begins = tables-then t u v k.begins begins;
      }
