-- The walk through a list of expressions: one turn, and the end.
use Rattle.std.proofs.Common.{◌≡◌, ℕ, ◌+◌, ◌<◌, ◌≤◌, true, false, not, List, [], ◌∷◌, ◌++◌, length, get_or, drop, Option, inl, inr, sym, ap, ◌∙◌, subst, append_assoc, arith}
use Rattle.std.proofs.lemmas.Bool.{not-true, not_from_false}
use Rattle.std.proofs.lemmas.List.{append-nil, get_or-map, length-map, take_all}
use Rattle.plan.specs.Calls.{all_below}
use Rattle.plan.specs.Functions.{Functions}
use Rattle.plan.specs.Model.{Within, expr_in, exprs_in, fits, no_expr}
use Rattle.plan.specs.Terms.{Expr}
use Rattle.plan.specs.declared.fault.Fault.{Fault}
use Rattle.rewriting.specs.Outlay.{list_space, tree_space}
use Rattle.rewriting.specs.Routing
use Rattle.rewriting.specs.Routing.{Side, routing_extract, routing_extract_all}
use Rattle.tables.specs.Begun.{TablesBegin}
use Rattle.tables.specs.Holding.{model_of, nodes_of, view_in}
use Rattle.tables.specs.declared.tables.Tables.{Tables}
use Rattle.terms.specs.Views.{numbers_of}
use Rattle.entries.specs.declared.node.ExprId.{ExprId}
use Rattle.terms.proofs.Walks.{item_below}
use Rattle.extracting.specs.Extractors.{extractor_of}
use Rattle.extracting.specs.Owners.{owner_by}
use Rattle.extracting.specs.Walking.{Stopped, Walked, WalkedAll, walk_in, walks_in}
use Rattle.extracting.specs.declared.extractor.Extractor.{Extractor}
use Rattle.extracting.specs.declared.inputs.Inputs.{Inputs}
use Rattle.extracting.proofs.Cases.{walk-same}
use Rattle.extracting.proofs.Growing.{tree-stays}
use Rattle.extracting.proofs.Numbers.{numbered-more}
use Rattle.extracting.proofs.Rewritten.{all-onward, all_end}
use Rattle.extracting.proofs.Spaces.{AtMost, first-space, listed-push, no-room}
use Rattle.extracting.proofs.Steps.{Partly, all_are, new-here, one-more, same-here}

module _ (t : Tables) (is : Inputs) (given : List ExprId) (x : Extractor) (present : all_below (length (view_in t).trees) (numbers_of given) ≡ true) where
  abbrev F : Functions
  F = (view_in t).functions

  abbrev own : Expr → Option Side
  own = owner_by F (nodes_of t) is

  abbrev ts : List Expr
  ts = exprs_in (view_in t).trees (numbers_of given)

  abbrev whole : List Expr × Routing.Extractor
  whole = walks_in t is ts (extractor_of (view_in t) x)

  as-many : length ts ≡ length given
  as-many = length-map (numbers_of given) (expr_in (view_in t).trees) ∙ length-map given (λ y. y.0)

  module _ (u : Tables) (y : Extractor) (made : List ExprId) (i : ℕ) (k : Partly t u y whole (routing_extract_all F own (drop i ts) (extractor_of (view_in u) y)) given made i (not y.is_new)) where
    module _ (lt : i < length given) (d : ExprId) where
      abbrev number : ℕ
      number = (get_or given i d).0

      pub there : number < length (view_in t).trees
      there = item_below (λ z. z.0) (length (view_in t).trees) given i d lt present

      abbrev step : Expr × Routing.Extractor
      step = walk_in u is (expr_in (view_in u).trees number) (extractor_of (view_in u) y)

      abbrev here : Expr × Routing.Extractor
      here = routing_extract F own (get_or ts i no_expr) (extractor_of (view_in u) y)

      among : i < length ts
      among = omega (arith, lt, as-many)

      here-is : step ≡ here
      here-is =
          walk-same t u k.grows is (expr_in (view_in u).trees number) (extractor_of (view_in u) y)
          ∙ ap (λ z. routing_extract F own z (extractor_of (view_in u) y))
          (tree-stays t u k.grows number there ∙ ap (expr_in (view_in t).trees) (sym (get_or-map (λ z. z.0) given i d 0 lt))
          ∙ sym (get_or-map (expr_in (view_in t).trees) (numbers_of given) i 0 no_expr (omega (arith, lt, length-map given (λ z. z.0)))))

      abbrev later : List Expr × Routing.Extractor
      later = routing_extract_all F own (drop (i + 1) ts) here.1

      abbrev done : List Expr
      done = exprs_in (view_in u).trees (numbers_of made)

      pub refused : (f : Fault) → Stopped u (tree_space step.0) step.1 f → Stopped t (list_space whole.0) whole.1 f
      refused f a = go (subst (λ (w : Expr × Routing.Extractor). Stopped u (tree_space w.0) w.1 f) here-is a)
        where
          are : whole ≡ (done ++ here.0 ∷ later.0, later.1)
          are = all_are F own t u u y y ts whole given made i (not y.is_new) among k

          go : Stopped u (tree_space here.0) here.1 f → Stopped t (list_space whole.0) whole.1 f
          go (inl h) =
              let e = ap (λ (r : List Expr × Routing.Extractor). list_space r.0) are ∙ ap list_space (sym (append_assoc done (here.0 ∷ []) later.0)) in
              let m = subst (λ s. AtMost s (list_space ((done ++ here.0 ∷ []) ++ later.0))) (listed-push done here.0) (first-space (done ++ here.0 ∷ []) later.0) in
              let full = no-room (model_of t).used (list_space done) (model_of u).used (tree_space here.0) _ k.spent m h.0.1 in
              inl ((h.0.0, ap (fits (model_of t).used) e ∙ full), new-here F own t u u y y ts whole given made i (not y.is_new) among k h.1)
          go (inr h) = inr (h.0, ap (λ (r : List Expr × Routing.Extractor). r.1.full) are ∙ (all-onward F own (drop (i + 1) ts) here.1).full h.1)

      pub turn : (u' : Tables) (y' : Extractor) (part : ExprId) → Walked u step part.0 u' y' → (step.1.new ≡ false → part.0 ≡ number) → (made' : List ExprId) → made' ≡ made ++ part ∷ [] → TablesBegin u u'
          → Partly t u' y' whole (routing_extract_all F own (drop (i + 1) ts) (extractor_of (view_in u') y')) given made' (i + 1) (not y'.is_new)
      turn u' y' part a kept made' pushed begins =
          let new : y'.is_new ≡ here.1.new = ap (λ (g : Routing.Extractor). g.new) (a.extractor ∙ ap (λ (w : Expr × Routing.Extractor). w.1) here-is) in
          one-more F own t u u' y y' ts whole given made i (not y.is_new) among k part (subst (λ (w : Expr × Routing.Extractor). Walked u w part.0 u' y') here-is a) made' pushed begins (not y'.is_new) d
          (λ q. let n = sym new ∙ not-true y'.is_new q in (same-here F own t u u y y ts whole given made i (not y.is_new) among k n, kept (ap (λ (w : Expr × Routing.Extractor). w.1.new) here-is ∙ n)))
          (λ q. not_from_false y'.is_new (new ∙ q)) lt

    -- all are walked
    pub all-walked : length given ≤ i → WalkedAll t whole made u y
    all-walked le =
        let done = exprs_in (view_in u).trees (numbers_of made) in
        let e = k.whole_is ∙ ap (λ (r : List Expr × Routing.Extractor). (done ++ r.0, r.1)) (all_end F own ts i (extractor_of (view_in u) y) (omega (arith, le, as-many))) ∙ ap (λ l. (l, extractor_of (view_in u) y)) (append-nil done) in
        record {
          present = k.there;
          trees = sym (ap (λ (r : List Expr × Routing.Extractor). r.0) e);
          extractor = sym (ap (λ (r : List Expr × Routing.Extractor). r.1) e);
          inside = k.inside;
          few = k.few;
          grows = k.grows;
          numbers = numbered-more (model_of t) (model_of u) y.next whole.1.next (omega (arith, ap (λ (r : List Expr × Routing.Extractor). r.1.next) e)) k.numbers;
          spent = subst (λ l. Within (model_of t).used (list_space l) (model_of u).used) (sym (ap (λ (r : List Expr × Routing.Extractor). r.0) e)) k.spent;
        }

    pub all-kept : length given ≤ i → whole.1.new ≡ false → numbers_of made ≡ numbers_of given
    all-kept le h =
        let e = k.whole_is ∙ ap (λ (r : List Expr × Routing.Extractor). (exprs_in (view_in u).trees (numbers_of made) ++ r.0, r.1)) (all_end F own ts i (extractor_of (view_in u) y) (omega (arith, le, as-many))) in
        k.unchanged (not_from_false y.is_new (sym (ap (λ (r : List Expr × Routing.Extractor). r.1.new) e) ∙ h)) ∙ ap numbers_of (take_all i given le)
