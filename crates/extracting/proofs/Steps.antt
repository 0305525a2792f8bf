-- One step of the walk after another: an alias, and the arguments of a call one by one.
use Rattle.std.proofs.Common.{◌≡◌, ℕ, ◌+◌, ◌<◌, ◌≤◌, Bool, true, false, List, [], ◌∷◌, ◌++◌, length, get_or, take, drop, Ok, Err, Option, Result, inl, inr, sym, refl, ap, ap₂, ◌∙◌, subst, append_assoc, arith}
use Rattle.std.proofs.lemmas.List.{append-nil, length-map, length_push, map_push, take_more}
use Rattle.std.proofs.lemmas.Bool.{and_from, and_parts, lt-ltb, ltb-true}
use Rattle.plan.specs.Calls.{all_below, below}
use Rattle.plan.specs.Functions.{Functions}
use Rattle.plan.specs.Model.{Within, expr_in, exprs_in, fits, no_expr, space}
use Rattle.plan.specs.Terms.{Expr, Field, arguments}
use Rattle.plan.specs.Terms.Expr.{alias, call}
use Rattle.plan.specs.declared.fault.Fault.{Fault}
use Rattle.rewriting.specs.Outlay.{list_space, nothing, tree_space}
use Rattle.rewriting.specs.Routing
use Rattle.rewriting.specs.Routing.{Side, routing_extract, routing_extract_all}
use Rattle.tables.proofs.Begun.{tables-then}
use Rattle.tables.specs.Begun.{TablesBegin}
use Rattle.tables.specs.Holding.{model_of, view_in}
use Rattle.tables.specs.declared.tables.Tables.{Tables}
use Rattle.terms.specs.Views.{numbers_of}
use Rattle.entries.specs.declared.node.ExprId.{ExprId}
use Rattle.terms.proofs.Trees.{picked_same}
use Rattle.extracting.specs.Extractors.{Inside, extractor_of}
use Rattle.extracting.specs.Walking.{Answered, Built, BuiltBy, Grows, Numbered, Stopped, Walked}
use Rattle.extracting.specs.declared.extractor.Extractor.{Extractor}
use Rattle.extracting.proofs.Growing.{extractor-stays, grows-then, longer, tree-stays}
use Rattle.extracting.proofs.Moving.{refused-new}
use Rattle.extracting.proofs.Numbers.{numbered-built, numbered-turn}
use Rattle.extracting.proofs.Rewritten.{Onward, all-onward, all-turn, not-before, walk-onward}
use Rattle.extracting.proofs.Spaces.{AtMost, alias-space, at-most-nothing, at-most-then, call-space, listed-push, no-room, part_space, within-same, within-then, within_more}

-- what was walked stays so as the tables grow, with a node made of it
module _ (t u u' : Tables) (x : Extractor) (w : Expr × Routing.Extractor) (made : ℕ) (a : Walked t w made u x) where
  alias-made : (f : Field) (r : ℕ) → Built u (space 1 0 0 0 0) 0 (alias w.0 f) r u' → Walked t (alias w.0 f, w.1) r u' x
  alias-made f r b =
      let k = extractor-stays u u' b.grows x a.inside in
      record {
        present = b.present;
        tree = b.tree;
        extractor = k.0 ∙ a.extractor;
        inside = k.1;
        few = omega (arith, a.few, longer u u' b.grows);
        grows = grows-then (model_of t) (model_of u) (model_of u') a.grows b.grows;
        numbers = numbered-built (model_of t) (model_of u) (model_of u') w.1.next a.numbers b.numbers;
        spent = within_more _ _ _ _ (within-then _ _ _ _ _ a.spent b.spent) (alias-space w.0 f);
      }

  pub alias-step : (f : Field) (e : ExprId) (r : Result ExprId Fault) → (w.1.new ≡ false → r ≡ Ok e) → BuiltBy u (space 1 0 0 0 0) 0 (alias w.0 f) r u' → Answered t (alias w.0 f, w.1) r u' x
  alias-step f e (Ok r) kept b = alias-made f r.0 b
  alias-step f e (Err d) kept b =
      let full = no-room (model_of t).used (tree_space w.0) (model_of u).used (space 1 0 0 0 0) (tree_space (alias w.0 f)) a.spent (alias-space w.0 f) b.1 in
      inl ((b.0, full), refused-new d e w.1.new kept)

-- where the inside was refused
pub alias-refused : (t : Tables) (w : Expr × Routing.Extractor) (f : Field) (d : Fault) → Stopped t (tree_space w.0) w.1 d → Stopped t (tree_space (alias w.0 f)) w.1 d
alias-refused t w f d (inl h) =
    let more = at-most-then _ _ _ (at-most-nothing (tree_space w.0)) (inside w.0) in
    let full = no-room (model_of t).used nothing (model_of t).used (tree_space w.0) (tree_space (alias w.0 f)) (within-same (model_of t).used nothing) more h.0.1 in
    inl ((h.0.0, full), h.1)
  where
    inside : (e : Expr) → AtMost (tree_space e) (tree_space (alias e f))
    inside e = let s = alias-space e f in record { exprs = omega (arith, s.exprs); plans = omega (arith, s.plans); entries = omega (arith, s.entries); fields = omega (arith, s.fields); bytes = omega (arith, s.bytes) }
alias-refused t w f d (inr h) = inr h

-- of the arguments given of a call, the first i are walked; made are the numbers of what came of them, which are the same where same holds
pub record Partly (t u : Tables) (x : Extractor) (whole : List Expr × Routing.Extractor) (rest : List Expr × Routing.Extractor) (given made : List ExprId) (i : ℕ) (same : Bool) : Type 0 where
  pub whole_is : whole ≡ (exprs_in (view_in u).trees (numbers_of made) ++ rest.0, rest.1)
  pub counted : length made ≡ i
  pub there : all_below (length (view_in u).trees) (numbers_of made) ≡ true
  pub inside : Inside (view_in u) x
  pub few : length x.entries ≤ length (view_in u).trees
  pub grows : Grows (model_of t) (model_of u)
  pub numbers : Numbered (model_of t) x.next (model_of u)
  pub spent : Within (model_of t).used (list_space (exprs_in (view_in u).trees (numbers_of made))) (model_of u).used
  pub begins : TablesBegin t u
  pub unchanged : same ≡ true → numbers_of made ≡ numbers_of (take i given)
  pub still : x.is_new ≡ false → same ≡ true

pub below-more : (n m : ℕ) (ns : List ℕ) → n ≤ m → all_below n ns ≡ true → all_below m ns ≡ true
below-more n m [] le h = refl
below-more n m (k ∷ ns) le h =
    let p = and_parts (below n k) (all_below n ns) h in
    and_from _ _ (lt-ltb k m (omega (arith, ltb-true k n p.0))) (below-more n m ns le p.1)

pub exprs-stay : (t u : Tables) (g : Grows (model_of t) (model_of u)) (ns : List ℕ) → all_below (length (view_in t).trees) ns ≡ true → exprs_in (view_in u).trees ns ≡ exprs_in (view_in t).trees ns
exprs-stay t u g ns h = picked_same (view_in u).trees (view_in t).trees (length (view_in t).trees) ns (λ k lt. tree-stays t u g k lt) h

module _ (F : Functions) (own : Expr → Option Side) (t u u' : Tables) (x x' : Extractor) (ts : List Expr) (whole : List Expr × Routing.Extractor) (given made : List ExprId) (i : ℕ) (same : Bool) (lt : i < length ts)
    (k : Partly t u x whole (routing_extract_all F own (drop i ts) (extractor_of (view_in u) x)) given made i same) where
  abbrev here : Expr × Routing.Extractor
  here = routing_extract F own (get_or ts i no_expr) (extractor_of (view_in u) x)

  abbrev later : List Expr × Routing.Extractor
  later = routing_extract_all F own (drop (i + 1) ts) here.1

  abbrev done : List Expr
  done = exprs_in (view_in u).trees (numbers_of made)

  pub all_are : whole ≡ (done ++ here.0 ∷ later.0, later.1)
  all_are = k.whole_is ∙ ap (λ (r : List Expr × Routing.Extractor). (done ++ r.0, r.1)) (all-turn F own ts i no_expr (extractor_of (view_in u) x) lt)

  walked : Onward (extractor_of (view_in u) x) here.1
  walked = walk-onward F own (get_or ts i no_expr) (extractor_of (view_in u) x)

  onward : Onward here.1 later.1
  onward = all-onward F own (drop (i + 1) ts) here.1

  pub needed-here : length whole.1.needed ≤ 256 → length here.1.needed ≤ 256
  needed-here h = omega (arith, h, ap (λ (r : List Expr × Routing.Extractor). length r.1.needed) all_are, onward.longer)

  -- what was taken out here stays so, and where nothing was, nothing was before
  pub new-here : here.1.new ≡ true → whole.1.new ≡ true
  new-here h = ap (λ (r : List Expr × Routing.Extractor). r.1.new) all_are ∙ onward.new h

  pub same-here : here.1.new ≡ false → same ≡ true
  same-here h = k.still (not-before (extractor_of (view_in u) x) here.1 walked h)

  pub call-refused : (n : ℕ) (d : Fault) → Stopped u (tree_space here.0) here.1 d → Stopped t (tree_space (call n (arguments whole.0))) whole.1 d
  call-refused n d (inl h) =
      let e = ap (λ (r : List Expr × Routing.Extractor). tree_space (call n (arguments r.0))) all_are in
      let full = no-room (model_of t).used (list_space done) (model_of u).used (tree_space here.0) _ k.spent (part_space n done later.0 here.0) h.0.1 in
      inl ((h.0.0, ap (fits (model_of t).used) e ∙ full), new-here h.1)
  call-refused n d (inr h) = inr (h.0, ap (λ (r : List Expr × Routing.Extractor). r.1.full) all_are ∙ onward.full h.1)

  module _ (part : ExprId) (a : Walked u here part.0 u' x') (made' : List ExprId) (pushed : made' ≡ made ++ part ∷ []) (begins : TablesBegin u u') (same' : Bool) (d : ExprId) (unchanged : same' ≡ true → (same ≡ true) × (part.0 ≡ (get_or given i d).0))
      (still : here.1.new ≡ false → same' ≡ true) (few-given : i < length given) where
    numbers : numbers_of made' ≡ numbers_of made ++ part.0 ∷ []
    numbers = ap numbers_of pushed ∙ map_push (λ e. e.0) made part

    trees-are : exprs_in (view_in u').trees (numbers_of made') ≡ done ++ here.0 ∷ []
    trees-are =
        ap (exprs_in (view_in u').trees) numbers ∙ map_push (expr_in (view_in u').trees) (numbers_of made) part.0
        ∙ ap₂ (λ l e. l ++ e ∷ []) (exprs-stay u u' a.grows (numbers_of made) k.there) a.tree

    pub one-more : Partly t u' x' whole (routing_extract_all F own (drop (i + 1) ts) (extractor_of (view_in u') x')) given made' (i + 1) same'
    one-more = record {
      whole_is =
          all_are ∙ ap (λ l. (l, later.1)) (sym (append_assoc done (here.0 ∷ []) later.0))
          ∙ ap₂ (λ l g. (l ++ (routing_extract_all F own (drop (i + 1) ts) g).0, (routing_extract_all F own (drop (i + 1) ts) g).1)) (sym trees-are) (sym a.extractor);
      counted = omega (arith, ap length pushed, length_push made part, k.counted);
      there =
          ap (all_below (length (view_in u').trees)) numbers
          ∙ below-push (length (view_in u').trees) (numbers_of made) part.0 (below-more _ _ (numbers_of made) (longer u u' a.grows) k.there) a.present;
      inside = a.inside;
      few = a.few;
      grows = grows-then (model_of t) (model_of u) (model_of u') k.grows a.grows;
      numbers = numbered-turn (model_of t) (model_of u) (model_of u') x.next here.1.next x'.next walked.later (sym (ap (λ (g : Routing.Extractor). g.next) a.extractor)) k.numbers a.numbers;
      spent = subst (λ s. Within (model_of t).used s (model_of u').used) (sym (ap list_space trees-are ∙ listed-push done here.0)) (within-then _ _ _ _ _ k.spent a.spent);
      begins = tables-then t u u' k.begins begins;
      unchanged = λ h. let q = unchanged h in numbers ∙ ap₂ (λ l n. l ++ n ∷ []) (k.unchanged q.0) q.1 ∙ sym (ap numbers_of (take_more given i d few-given) ∙ map_push (λ e. e.0) (take i given) (get_or given i d));
      still = λ h. still (sym (ap (λ (g : Routing.Extractor). g.new) a.extractor) ∙ h);
    }
      where
        below-push : (n : ℕ) (ns : List ℕ) (m : ℕ) → all_below n ns ≡ true → m < n → all_below n (ns ++ m ∷ []) ≡ true
        below-push n [] m h l = and_from _ _ (lt-ltb m n l) refl
        below-push n (j ∷ ns) m h l = let p = and_parts (below n j) (all_below n ns) h in and_from _ _ p.0 (below-push n ns m p.1 l)

-- all arguments are walked, and a call was made of what came of them
module _ (t u u' : Tables) (x : Extractor) (whole : List Expr × Routing.Extractor) (given made : List ExprId) (i : ℕ) (same : Bool) (n : ℕ) (k : Partly t u x whole ([], extractor_of (view_in u) x) given made i same) where
  abbrev us : List Expr
  us = exprs_in (view_in u).trees (numbers_of made)

  call-made : (e : ExprId) (r : Result ExprId Fault) → (same ≡ true → r ≡ Ok e) → BuiltBy u (space 1 0 (length us) 0 0) 0 (call n (arguments us)) r u' → Answered t (call n (arguments us), extractor_of (view_in u) x) r u' x
  call-made e (Ok d) kept b =
      let q = extractor-stays u u' b.grows x k.inside in
      record {
        present = b.present;
        tree = b.tree;
        extractor = q.0;
        inside = q.1;
        few = omega (arith, k.few, longer u u' b.grows);
        grows = grows-then (model_of t) (model_of u) (model_of u') k.grows b.grows;
        numbers = numbered-built (model_of t) (model_of u) (model_of u') x.next k.numbers b.numbers;
        spent = within_more _ _ _ _ (within-then _ _ _ _ _ k.spent b.spent) (call-space n us);
      }
  call-made e (Err d) kept b =
      let full = no-room (model_of t).used (list_space us) (model_of u).used (space 1 0 (length us) 0 0) (tree_space (call n (arguments us))) k.spent (call-space n us) b.1 in
      inl ((b.0, full), refused-new d e x.is_new (λ q. kept (k.still q)))

  pub call-step : (e : ExprId) (r : Result ExprId Fault) → (same ≡ true → r ≡ Ok e) → BuiltBy u (space 1 0 (length made) 0 0) 0 (call n (arguments us)) r u' → Answered t (call n (arguments whole.0), whole.1) r u' x
  call-step e r kept b =
      let are : (us, extractor_of (view_in u) x) ≡ whole = ap (λ l. (l, extractor_of (view_in u) x)) (sym (append-nil us)) ∙ sym k.whole_is in
      let long : length us ≡ length made = length-map (numbers_of made) (expr_in (view_in u).trees) ∙ length-map made (λ d. d.0) in
      subst (λ (w : List Expr × Routing.Extractor). Answered t (call n (arguments w.0), w.1) r u' x) are (call-made e r kept (subst (λ j. BuiltBy u (space 1 0 j 0 0) 0 (call n (arguments us)) r u') (sym long) b))
