-- The walk through the arguments of a call: one turn, and the end.
use Rattle.std.proofs.Common.{◌≡◌, ℕ, ◌+◌, ◌<◌, ◌≤◌, Bool, true, false, ◌&&◌, cond, eqb, List, [], ◌∷◌, ◌++◌, length, get_or, drop, None, Ok, Option, Result, IfOk, sym, ap, ap₂, ◌∙◌, subst, arith}
use Rattle.std.proofs.lemmas.Bool.{and_from, and_parts, eq-eqb, eqb-true}
use Rattle.std.proofs.lemmas.List.{append-nil, take_all}
use Rattle.plan.specs.Fields.{any}
use Rattle.plan.specs.Functions.{Functions, is_marked, is_total, placement_of}
use Rattle.plan.specs.Model.{expr_in, exprs_in, no_expr, space}
use Rattle.plan.specs.Questions.{small_tree}
use Rattle.plan.specs.Terms.{Expr, arguments, sizes_of}
use Rattle.plan.specs.Terms.Expr.{call}
use Rattle.plan.specs.declared.fault.Fault.{Fault}
use Rattle.lexicon.proofs.Frames.{every-at}
use Rattle.rewriting.specs.Outlay.{tree_space}
use Rattle.rewriting.specs.Routing
use Rattle.rewriting.specs.Routing.{Side, routing_extract, routing_extract_all}
use Rattle.tables.specs.Begun.{TablesBegin}
use Rattle.tables.specs.Holding.{nodes_of, view_in}
use Rattle.tables.specs.declared.tables.Tables.{Tables}
use Rattle.terms.specs.Acceptance.{acceptable}
use Rattle.terms.specs.Build.{inside_node, numbers_in}
use Rattle.terms.specs.Views.{numbers_of, tree_for}
use Rattle.entries.specs.declared.node.ExprId.{ExprId}
use Rattle.entries.specs.declared.node.ExprNode.TheVariants.{Call}
use Rattle.entries.specs.declared.node.Run.{Run}
use Rattle.extracting.specs.Extractors.{extractor_of}
use Rattle.extracting.specs.Owners.{owner_by}
use Rattle.extracting.specs.Walking.{Answered, BuiltBy, Stopped, Walked, walk_in}
use Rattle.extracting.specs.declared.extractor.Extractor.{Extractor}
use Rattle.extracting.specs.declared.inputs.Inputs.{Inputs}
use Rattle.extracting.proofs.Accepted.{call-small}
use Rattle.extracting.proofs.Arguments.{all-lower, argument-is, argument-lower, as-many, call-is, no-totals}
use Rattle.extracting.proofs.Cases.{at-call, walk-same}
use Rattle.extracting.proofs.Growing.{tree-stays}
use Rattle.extracting.proofs.Moving.{given-back}
use Rattle.extracting.proofs.Rewritten.{all-no-total, all-small, all_end}
use Rattle.extracting.proofs.Steps.{Partly, below-more, call-refused, call-step, exprs-stay, needed-here, one-more, same-here}

module _ (t : Tables) (is : Inputs) (e n : ℕ) (run : Run) (given : List ExprId) (x : Extractor) (h : expr_in (view_in t).trees e ≡ tree_for t.terms (Call n run)) (inside : inside_node (view_in t).bytes (view_in t).entries e (Call n run) ≡ true)
    (given-is : numbers_of given ≡ numbers_in (view_in t).entries run.first run.count) (present : e < length (view_in t).trees) where
  abbrev F : Functions
  F = (view_in t).functions

  abbrev own : Expr → Option Side
  own = owner_by F (nodes_of t) is

  abbrev ts : List Expr
  ts = exprs_in (view_in t).trees (numbers_of given)

  abbrev whole : List Expr × Routing.Extractor
  whole = routing_extract_all F own ts (extractor_of (view_in t) x)

  abbrev walked : Expr × Routing.Extractor
  walked = walk_in t is (expr_in (view_in t).trees e) (extractor_of (view_in t) x)

  module _ (unmarked : None ≡ cond (is_marked (placement_of F (expr_in (view_in t).trees e))) (own (expr_in (view_in t).trees e)) None) (u : Tables) (y : Extractor) (made : List ExprId) (i : ℕ) (same : Bool)
      (k : Partly t u y whole (routing_extract_all F own (drop i ts) (extractor_of (view_in u) y)) given made i same) where
    whole-is : walked ≡ (call n (arguments whole.0), whole.1)
    whole-is = at-call t is e n run given x h inside given-is present unmarked

    module _ (lt : i < length given) (d : ExprId) where
      abbrev number : ℕ
      number = (get_or given i d).0

      pub lower : number < e
      lower = argument-lower t e n run given h inside given-is present i d lt

      abbrev step : Expr × Routing.Extractor
      step = walk_in u is (expr_in (view_in u).trees number) (extractor_of (view_in u) y)

      abbrev here : Expr × Routing.Extractor
      here = routing_extract F own (get_or ts i no_expr) (extractor_of (view_in u) y)

      here-is : step ≡ here
      here-is =
          walk-same t u k.grows is (expr_in (view_in u).trees number) (extractor_of (view_in u) y)
          ∙ ap (λ z. routing_extract F own z (extractor_of (view_in u) y)) (tree-stays t u k.grows number (omega (arith, lower, present)) ∙ argument-is t e n run given h inside given-is present i d lt)

      among : i < length ts
      among = omega (arith, lt, as-many t e n run given h inside given-is present)

      pub needed : length walked.1.needed ≤ 256 → length step.1.needed ≤ 256
      needed q =
          let a = needed-here F own t u u y y ts whole given made i same among k (omega (arith, q, ap (λ (w : Expr × Routing.Extractor). length w.1.needed) whole-is)) in
          omega (arith, a, ap (λ (w : Expr × Routing.Extractor). length w.1.needed) here-is)

      pub refused : (f : Fault) → Stopped u (tree_space step.0) step.1 f → Stopped t (tree_space walked.0) walked.1 f
      refused f a =
          let b = subst (λ (w : Expr × Routing.Extractor). Stopped u (tree_space w.0) w.1 f) here-is a in
          subst (λ (w : Expr × Routing.Extractor). Stopped t (tree_space w.0) w.1 f) (sym whole-is) (call-refused F own t u u y y ts whole given made i same among k n f b)

      pub turn : (u' : Tables) (y' : Extractor) (part : ExprId) → Walked u step part.0 u' y' → (step.1.new ≡ false → part.0 ≡ number) → (made' : List ExprId) → made' ≡ made ++ part ∷ [] → TablesBegin u u' → (same' : Bool) → same' ≡ (same && eqb part.0 number)
          → Partly t u' y' whole (routing_extract_all F own (drop (i + 1) ts) (extractor_of (view_in u') y')) given made' (i + 1) same'
      turn u' y' part a kept made' pushed begins same' is-same =
          one-more F own t u u' y y' ts whole given made i same among k part (subst (λ (w : Expr × Routing.Extractor). Walked u w part.0 u' y') here-is a) made' pushed begins same' d
          (λ q. let p = and_parts same (eqb part.0 number) (sym is-same ∙ q) in (p.0, eqb-true part.0 number p.1))
          (λ q. is-same ∙ and_from same (eqb part.0 number) (same-here F own t u u y y ts whole given made i same among k q) (eq-eqb part.0 number (kept (ap (λ (w : Expr × Routing.Extractor). w.1.new) here-is ∙ q)))) lt

    -- all arguments are walked
    module _ (le : length given ≤ i) where
      abbrev done : List Expr
      done = exprs_in (view_in u).trees (numbers_of made)

      at-end : Partly t u y whole ([], extractor_of (view_in u) y) given made i same
      at-end = subst (λ r. Partly t u y whole r given made i same) (all_end F own ts i (extractor_of (view_in u) y) (omega (arith, le, as-many t e n run given h inside given-is present))) k

      done-is : whole.0 ≡ done
      done-is = ap (λ (w : List Expr × Routing.Extractor). w.0) at-end.whole_is ∙ append-nil done

      given-stays : exprs_in (view_in u).trees (numbers_of given) ≡ ts
      given-stays = exprs-stay t u k.grows (numbers_of given) (below-more e (length (view_in t).trees) (numbers_of given) (omega (arith, present)) (all-lower t e n run given h inside given-is present))

      pub call-here : expr_in (view_in u).trees e ≡ call n (arguments (exprs_in (view_in u).trees (numbers_of given)))
      call-here = tree-stays t u k.grows e present ∙ call-is t e n run given h inside given-is present ∙ ap (λ l. call n (arguments l)) (sym given-stays)

      pub made-small : small_tree (call n (arguments done)) ≡ true
      made-small =
          call-small F (expr_in (view_in t).trees e) n ts done (call-is t e n run given h inside given-is present) (every-at (acceptable F) (view_in t).trees e no_expr present t.terms.accepted)
          (omega (arith, all-small F own ts (extractor_of (view_in t) x), ap (λ l. sizes_of (arguments l)) done-is))

      pub made-no-total : any (is_total (view_in u).functions) done ≡ false
      made-no-total = ap₂ (λ fs l. any (is_total fs) l) k.grows.functions (sym done-is) ∙ all-no-total F own ts (extractor_of (view_in t) x) (no-totals t e n run given h inside given-is present)

      pub made-same : same ≡ true → numbers_of made ≡ numbers_of given
      made-same q = k.unchanged q ∙ ap numbers_of (take_all i given le)

      end-is : walked.1.new ≡ y.is_new
      end-is = ap (λ (w : Expr × Routing.Extractor). w.1.new) whole-is ∙ ap (λ (w : List Expr × Routing.Extractor). w.1.new) at-end.whole_is

      pub call-kept : (d : ExprId) (r : Result ExprId Fault) → (same ≡ true → r ≡ Ok d) → IfOk r (λ b. walked.1.new ≡ false → b.0 ≡ d.0)
      call-kept d r kept = given-back r d walked.1.new (λ q. kept (k.still (sym end-is ∙ q)))

      pub finished : (u' : Tables) (d : ExprId) (r : Result ExprId Fault) → (same ≡ true → r ≡ Ok d) → BuiltBy u (space 1 0 (length made) 0 0) 0 (call n (arguments done)) r u' → Answered t walked r u' y
      finished u' d r kept b = subst (λ (w : Expr × Routing.Extractor). Answered t w r u' y) (sym whole-is) (call-step t u u' y whole given made i same n at-end d r kept b)
