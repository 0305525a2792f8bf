-- The arguments of a call, their columns replaced one by one.
use Rattle.std.proofs.Common.{◌≡◌, ℕ, ◌+◌, ◌<◌, ◌≤◌, Bool, true, false, ◌&&◌, eqb, List, [], ◌∷◌, ◌++◌, map, length, get_or, take, drop, Ok, Err, Result, sym, ap, ap₂, ◌∙◌, subst, append_assoc, arith}
use Rattle.std.proofs.lemmas.Bool.{and_parts, eqb-true, le-leb}
use Rattle.std.proofs.lemmas.List.{append-nil, at_drop_all, at_drop_more, length-map, length_push, map_push, take_all, take_more}
use Rattle.plan.specs.Calls.{all_below}
use Rattle.plan.specs.Fields.{any}
use Rattle.plan.specs.Functions.{is_total}
use Rattle.plan.specs.Model.{Within, expr_in, exprs_in, no_expr, space}
use Rattle.plan.specs.Questions.{small_tree}
use Rattle.plan.specs.Terms.{Expr, arguments, size_of, sizes_of}
use Rattle.plan.specs.Terms.Expr.{call}
use Rattle.plan.specs.declared.fault.Fault.{Fault}
use Rattle.entries.specs.declared.node.ExprId.{ExprId}
use Rattle.entries.specs.declared.node.ExprNode.TheVariants.{Call}
use Rattle.entries.specs.declared.node.Run.{Run}
use Rattle.rewriting.specs.Outlay.{list_space, tree_space}
use Rattle.tables.proofs.Begun.{tables-then}
use Rattle.tables.specs.Begun.{TablesBegin}
use Rattle.tables.specs.Holding.{model_of, view_in}
use Rattle.tables.specs.declared.tables.Tables.{Tables}
use Rattle.terms.specs.Build.{inside_node, numbers_in}
use Rattle.terms.specs.Views.{numbers_of, tree_for}
use Rattle.extracting.proofs.Arguments.{all-lower, argument-is, argument-lower, as-many, call-is, no-totals}
use Rattle.extracting.proofs.Growing.{grows-then, longer, tree-stays}
use Rattle.extracting.proofs.Numbers.{numbered-built}
use Rattle.extracting.proofs.Spaces.{call-space, listed-push, no-room, part_space, within-then, within_more}
use Rattle.extracting.proofs.Steps.{below-more, exprs-stay}
use Rattle.extracting.specs.Walking.{Built, BuiltBy, Grows, NoRoom, Numbered}
use Rattle.merging.specs.Replacing.{MapIn, map_of, replaced}
use Rattle.merging.specs.declared.replacing.ReplaceMap.{ReplaceMap}
use Rattle.merging.proofs.Following.{below-push, map-stays}
use Rattle.merging.proofs.Replaced.{all-no-total, rep, rep-call}

-- of the arguments given of a call, the first i are done; made are the numbers of what came of them, which are the same where same holds
pub record Partly (t u : Tables) (whole rest : List Expr) (given made : List ExprId) (i : ℕ) (same : Bool) : Type 0 where
  pub whole_is : whole ≡ exprs_in (view_in u).trees (numbers_of made) ++ rest
  pub counted : length made ≡ i
  pub there : all_below (length (view_in u).trees) (numbers_of made) ≡ true
  pub grows : Grows (model_of t) (model_of u)
  pub numbers : Numbered (model_of t) 0 (model_of u)
  pub spent : Within (model_of t).used (list_space (exprs_in (view_in u).trees (numbers_of made))) (model_of u).used
  pub begins : TablesBegin t u
  pub unchanged : same ≡ true → numbers_of made ≡ numbers_of (take i given)

-- one of some expressions is no larger than all
size-among : (us vs : List Expr) (u : Expr) → size_of u ≤ sizes_of (arguments (us ++ u ∷ vs))
size-among [] vs u = omega arith
size-among (w ∷ us) vs u = omega (arith, size-among us vs u)

module _ (t u : Tables) (whole rest : List Expr) (given made : List ExprId) (i : ℕ) (same : Bool) (k : Partly t u whole rest given made i same) where
  abbrev done : List Expr
  done = exprs_in (view_in u).trees (numbers_of made)

  module _ (here : Expr) (later : List Expr) (next : rest ≡ here ∷ later) where
    pub all_are : whole ≡ done ++ here ∷ later
    all_are = k.whole_is ∙ ap (λ l. done ++ l) next

    pub size-here : size_of here ≤ sizes_of (arguments whole)
    size-here = omega (arith, size-among done later here, ap (λ l. sizes_of (arguments l)) all_are)

    pub call-refused : (n : ℕ) (f : Fault) → NoRoom u (tree_space here) f → NoRoom t (tree_space (call n (arguments whole))) f
    call-refused n f h =
        subst (λ l. NoRoom t (tree_space (call n (arguments l))) f) (sym all_are)
        (h.0, no-room (model_of t).used (list_space done) (model_of u).used (tree_space here) (tree_space (call n (arguments (done ++ here ∷ later)))) k.spent (part_space n done later here) h.1)

    module _ (u' : Tables) (part : ExprId) (a : Built u (tree_space here) 0 here part.0 u') (made' : List ExprId) (pushed : made' ≡ made ++ part ∷ []) (begins : TablesBegin u u') (same' : Bool) (d : ExprId)
        (unchanged : same' ≡ true → (same ≡ true) × (part.0 ≡ (get_or given i d).0)) (few-given : i < length given) where
      numbers : numbers_of made' ≡ numbers_of made ++ part.0 ∷ []
      numbers = ap numbers_of pushed ∙ map_push (λ e. e.0) made part

      trees-are : exprs_in (view_in u').trees (numbers_of made') ≡ done ++ here ∷ []
      trees-are =
          ap (exprs_in (view_in u').trees) numbers ∙ map_push (expr_in (view_in u').trees) (numbers_of made) part.0
          ∙ ap₂ (λ l e. l ++ e ∷ []) (exprs-stay u u' a.grows (numbers_of made) k.there) a.tree

      pub one-more : Partly t u' whole later given made' (i + 1) same'
      one-more = record {
        whole_is = all_are ∙ sym (append_assoc done (here ∷ []) later) ∙ ap (λ l. l ++ later) (sym trees-are);
        counted = omega (arith, ap length pushed, length_push made part, k.counted);
        there = ap (all_below (length (view_in u').trees)) numbers ∙ below-push (length (view_in u').trees) (numbers_of made) part.0 (below-more _ _ (numbers_of made) (longer u u' a.grows) k.there) a.present;
        grows = grows-then (model_of t) (model_of u) (model_of u') k.grows a.grows;
        numbers = numbered-built (model_of t) (model_of u) (model_of u') 0 k.numbers a.numbers;
        spent = subst (λ s. Within (model_of t).used s (model_of u').used) (sym (ap list_space trees-are ∙ listed-push done here)) (within-then _ _ _ _ _ k.spent a.spent);
        begins = tables-then t u u' k.begins begins;
        unchanged = λ h. let q = unchanged h in numbers ∙ ap₂ (λ l n. l ++ n ∷ []) (k.unchanged q.0) q.1 ∙ sym (ap numbers_of (take_more given i d few-given) ∙ map_push (λ e. e.0) (take i given) (get_or given i d));
      }

  -- all are done, and a call was made of what came of them
  module _ (ended : rest ≡ []) where
    pub whole-done : whole ≡ done
    whole-done = k.whole_is ∙ ap (λ l. done ++ l) ended ∙ append-nil done

    pub call-made : (w : Tables) (n : ℕ) (r : Result ExprId Fault) → BuiltBy u (space 1 0 (length made) 0 0) 0 (call n (arguments done)) r w → BuiltBy t (tree_space (call n (arguments whole))) 0 (call n (arguments whole)) r w
    call-made w n r b =
        let long : length done ≡ length made = length-map (numbers_of made) (expr_in (view_in u).trees) ∙ length-map made (λ d. d.0) in
        subst (λ l. BuiltBy t (tree_space (call n (arguments l))) 0 (call n (arguments l)) r w) (sym whole-done) (go r (subst (λ j. BuiltBy u (space 1 0 j 0 0) 0 (call n (arguments done)) r w) (sym long) b))
      where
        go : (r : Result ExprId Fault) → BuiltBy u (space 1 0 (length done) 0 0) 0 (call n (arguments done)) r w → BuiltBy t (tree_space (call n (arguments done))) 0 (call n (arguments done)) r w
        go (Ok e) b = record {
          present = b.present;
          tree = b.tree;
          grows = grows-then (model_of t) (model_of u) (model_of w) k.grows b.grows;
          numbers = numbered-built (model_of t) (model_of u) (model_of w) 0 k.numbers b.numbers;
          spent = within_more _ _ _ _ (within-then _ _ _ _ _ k.spent b.spent) (call-space n done);
        }
        go (Err f) b = (b.0, no-room (model_of t).used (list_space done) (model_of u).used (space 1 0 (length done) 0 0) (tree_space (call n (arguments done))) k.spent (call-space n done) b.1)

-- a call e of n with the arguments given, over a map
module _ (t : Tables) (m : ReplaceMap) (in-map : MapIn (view_in t) m) (none : any (is_total (view_in t).functions) (map_of (view_in t) m).1 ≡ false) (e n : ℕ) (run : Run) (given : List ExprId) (h : expr_in (view_in t).trees e ≡ tree_for t.terms (Call n run))
    (inside : inside_node (view_in t).bytes (view_in t).entries e (Call n run) ≡ true) (given-is : numbers_of given ≡ numbers_in (view_in t).entries run.first run.count) (present : e < length (view_in t).trees) (small : size_of (replaced (view_in t) m e) ≤ 256) where
  abbrev ts : List Expr
  ts = exprs_in (view_in t).trees (numbers_of given)

  abbrev whole : List Expr
  whole = map (rep (map_of (view_in t) m)) ts

  pub whole-is : replaced (view_in t) m e ≡ call n (arguments whole)
  whole-is = ap (rep (map_of (view_in t) m)) (call-is t e n run given h inside given-is present) ∙ rep-call (map_of (view_in t) m) n ts

  sizes-small : sizes_of (arguments whole) ≤ 255
  sizes-small = omega (arith, small, ap size_of whole-is)

  module _ (u : Tables) (made : List ExprId) (i : ℕ) (same : Bool) (k : Partly t u whole (map (rep (map_of (view_in t) m)) (drop i ts)) given made i same) where
    module _ (lt : i < length given) (d : ExprId) where
      abbrev number : ℕ
      number = (get_or given i d).0

      pub lower : number < e
      lower = argument-lower t e n run given h inside given-is present i d lt

      abbrev here : Expr
      here = rep (map_of (view_in t) m) (get_or ts i no_expr)

      pub here-is : replaced (view_in u) m number ≡ here
      here-is =
          ap₂ (λ f x. rep f x) (map-stays t u k.grows m in-map) (tree-stays t u k.grows number (omega (arith, lower, present)))
          ∙ ap (rep (map_of (view_in t) m)) (argument-is t e n run given h inside given-is present i d lt)

      next : map (rep (map_of (view_in t) m)) (drop i ts) ≡ here ∷ map (rep (map_of (view_in t) m)) (drop (i + 1) ts)
      next = at_drop_more (map (rep (map_of (view_in t) m))) ts i no_expr (omega (arith, lt, as-many t e n run given h inside given-is present))

      pub size-there : size_of (replaced (view_in u) m number) ≤ 256
      size-there = omega (arith, ap size_of here-is, sizes-small, size-here t u whole _ given made i same k here _ next)

      pub refused : (f : Fault) → NoRoom u (tree_space (replaced (view_in u) m number)) f → NoRoom t (tree_space (replaced (view_in t) m e)) f
      refused f a =
          subst (λ x. NoRoom t (tree_space x) f) (sym whole-is) (call-refused t u whole _ given made i same k here _ next n f (subst (λ x. NoRoom u (tree_space x) f) here-is a))

      pub turn : (u' : Tables) (part : ExprId) → Built u (tree_space (replaced (view_in u) m number)) 0 (replaced (view_in u) m number) part.0 u' → (made' : List ExprId) → made' ≡ made ++ part ∷ [] → TablesBegin u u' → (same' : Bool) → same' ≡ (same && eqb part.0 number)
          → Partly t u' whole (map (rep (map_of (view_in t) m)) (drop (i + 1) ts)) given made' (i + 1) same'
      turn u' part a made' pushed begins same' is-same =
          one-more t u whole _ given made i same k here _ next u' part (subst (λ x. Built u (tree_space x) 0 x part.0 u') here-is a) made' pushed begins same' d
          (λ q. let p = and_parts same (eqb part.0 number) (sym is-same ∙ q) in (p.0, eqb-true part.0 number p.1)) lt

    module _ (le : length given ≤ i) where
      abbrev news : List Expr
      news = exprs_in (view_in u).trees (numbers_of made)

      ended : map (rep (map_of (view_in t) m)) (drop i ts) ≡ []
      ended = at_drop_all (map (rep (map_of (view_in t) m))) ts i (omega (arith, le, as-many t e n run given h inside given-is present))

      news-are : whole ≡ news
      news-are = whole-done t u whole _ given made i same k ended

      pub call-here : expr_in (view_in u).trees e ≡ call n (arguments (exprs_in (view_in u).trees (numbers_of given)))
      call-here =
          tree-stays t u k.grows e present ∙ call-is t e n run given h inside given-is present
          ∙ ap (λ l. call n (arguments l)) (sym (exprs-stay t u k.grows (numbers_of given) (below-more e (length (view_in t).trees) (numbers_of given) (omega (arith, present)) (all-lower t e n run given h inside given-is present))))

      pub made-small : small_tree (call n (arguments news)) ≡ true
      made-small = le-leb (sizes_of (arguments news) + 1) 256 (omega (arith, sizes-small, ap (λ l. sizes_of (arguments l)) news-are))

      pub made-no-total : any (is_total (view_in u).functions) news ≡ false
      made-no-total = ap₂ (λ F l. any (is_total F) l) k.grows.functions (sym news-are) ∙ all-no-total (view_in t).functions (map_of (view_in t) m) none ts (no-totals t e n run given h inside given-is present)

      pub made-same : same ≡ true → numbers_of made ≡ numbers_of given
      made-same q = k.unchanged q ∙ ap numbers_of (take_all i given le)

      pub finished : (w : Tables) (r : Result ExprId Fault) → BuiltBy u (space 1 0 (length made) 0 0) 0 (call n (arguments news)) r w → BuiltBy t (tree_space (replaced (view_in t) m e)) 0 (replaced (view_in t) m e) r w
      finished w r b = subst (λ x. BuiltBy t (tree_space x) 0 x r w) (sym whole-is) (call-made t u whole _ given made i same k ended w n r b)
