-- Lists of expressions that are made one after another: what was made stays, and the places add up.
use Rattle.std.proofs.Common.{◌≡◌, ℕ, ◌+◌, ◌≤◌, false, List, [], ◌∷◌, ◌++◌, length, sym, refl, ap, ap₂, ◌∙◌, subst, append-nil, append_assoc, arith, length-append}
use Rattle.std.proofs.lemmas.Bool.{and_from, lt-ltb}
use Rattle.std.proofs.lemmas.List.{length-map, map-append}
use Rattle.lexicon.proofs.Frames.{every_append}
use Rattle.plan.specs.Calls.{all_below, below}
use Rattle.plan.specs.Model.{Space, Within, expr_in, exprs_in, fits, plus}
use Rattle.plan.specs.Terms.{Expr}
use Rattle.plan.specs.declared.fault.Fault.{Fault}
use Rattle.rewriting.specs.Outlay.{list_space, tree_space}
use Rattle.lexicon.proofs.Begun.{at-once}
use Rattle.tables.proofs.Answers.{space-same}
use Rattle.tables.specs.Begun.{TablesBegin}
use Rattle.terms.proofs.Begun.{terms-at-once}
use Rattle.tables.specs.Holding.{model_of, view_in}
use Rattle.tables.specs.declared.tables.Tables.{Tables}
use Rattle.terms.specs.Views.{numbers_of}
use Rattle.entries.specs.declared.node.ExprId.{ExprId}
use Rattle.extracting.proofs.Growing.{grows-at-once, grows-then, longer}
use Rattle.extracting.proofs.Spaces.{AtMost, first-space, no-room, within-same, within-then}
use Rattle.extracting.proofs.Steps.{below-more, exprs-stay}
use Rattle.extracting.specs.Walking.{Built, NoRoom}
use Rattle.stepping.specs.Lists.{ListMade}
use Rattle.projecting.specs.Onto.{Onto}

pub tables-at-once : (t : Tables) → TablesBegin t t
tables-at-once t = record { terms = terms-at-once t.terms; fields = at-once t.fields; plans = at-once t.plans }

-- places of lists
pub listed-append : (es ds : List Expr) → list_space (es ++ ds) ≡ plus (list_space es) (list_space ds)
unfolding list_space
listed-append [] ds = space-same _ _ _ _ _ _ _ _ _ _ (omega arith) (omega arith) (omega arith) (omega arith) (omega arith)
listed-append (e ∷ es) ds =
    let h = listed-append es ds in
    space-same _ _ _ _ _ _ _ _ _ _ (omega (arith, ap (λ s. s.exprs) h)) (omega (arith, ap (λ s. s.plans) h)) (omega (arith, ap (λ s. s.entries) h)) (omega (arith, ap (λ s. s.fields) h)) (omega (arith, ap (λ s. s.bytes) h))

pub one-listed : (e : Expr) → list_space (e ∷ []) ≡ tree_space e
unfolding list_space
one-listed e = space-same _ _ _ _ _ _ _ _ _ _ (omega arith) (omega arith) (omega arith) (omega arith) (omega arith)

-- what does not fit after some does not fit with what follows, counted from before them
pub no-room-in : (a b : Space) (done es later : List Expr) → Within a (list_space done) b → fits b (list_space es) ≡ false → fits a (list_space (done ++ (es ++ later))) ≡ false
no-room-in a b done es later w h =
    let m = subst (λ s. AtMost s (list_space ((done ++ es) ++ later))) (listed-append done es) (first-space (done ++ es) later) in
    no-room a (list_space done) b (list_space es) (list_space (done ++ (es ++ later))) w (subst (λ l. AtMost (plus (list_space done) (list_space es)) (list_space l)) (append_assoc done es later) m) h

-- one list after another
pub made-none : (t : Tables) (low : ℕ) → ListMade t [] low [] t
made-none t low = record { present = refl; trees = refl; grows = grows-at-once (model_of t); spent = within-same (model_of t).used (list_space []); numbers = λ k h l. h }

pub made-one : (t u : Tables) (e : Expr) (low n : ℕ) (r : ExprId) → n ≤ low → Built t (tree_space e) n e r.0 u → ListMade t (e ∷ []) low (r ∷ []) u
made-one t u e low n r le b = record {
  present = and_from _ _ (lt-ltb r.0 (length (view_in u).trees) b.present) refl;
  trees = ap (λ x. x ∷ []) b.tree;
  grows = b.grows;
  spent = subst (λ s. Within (model_of t).used s (model_of u).used) (sym (one-listed e)) b.spent;
  numbers = λ k h l. b.numbers k h (omega arith);
}

pub made-both : (t u w : Tables) (es ds : List Expr) (low low2 : ℕ) (is js : List ExprId) → low2 ≤ low → ListMade t es low is u → ListMade u ds low2 js w → ListMade t (es ++ ds) low (is ++ js) w
made-both t u w es ds low low2 is js le a b =
    let numbers : numbers_of (is ++ js) ≡ numbers_of is ++ numbers_of js = map-append (λ e. e.0) is js in
    record {
      present =
          ap (all_below (length (view_in w).trees)) numbers
          ∙ every_append (below (length (view_in w).trees)) (numbers_of is) (numbers_of js) (below-more _ _ (numbers_of is) (longer u w b.grows) a.present) b.present;
      trees =
          ap (exprs_in (view_in w).trees) numbers ∙ map-append (expr_in (view_in w).trees) (numbers_of is) (numbers_of js)
          ∙ ap₂ (λ x y. x ++ y) (exprs-stay u w b.grows (numbers_of is) a.present ∙ a.trees) b.trees;
      grows = grows-then (model_of t) (model_of u) (model_of w) a.grows b.grows;
      spent = subst (λ s. Within (model_of t).used s (model_of w).used) (sym (listed-append es ds)) (within-then _ _ _ _ _ a.spent b.spent);
      numbers = λ k h l. b.numbers k (a.numbers k h l) (omega arith);
    }

pub onto-none : (t : Tables) (low : ℕ) (before : List ExprId) → Onto t [] low before before t
onto-none t low before = record { more = []; is = sym (append-nil before); made = made-none t low }

pub onto-both : (t u w : Tables) (es ds : List Expr) (low low2 : ℕ) (before ids after : List ExprId) → low2 ≤ low → Onto t es low before ids u → Onto u ds low2 ids after w → Onto t (es ++ ds) low before after w
onto-both t u w es ds low low2 before ids after le a b = record {
  more = a.more ++ b.more;
  is = b.is ∙ ap (λ l. l ++ b.more) a.is ∙ append_assoc before a.more b.more;
  made = made-both t u w es ds low low2 a.more b.more le a.made b.made;
}

pub onto-long : (t u : Tables) (es : List Expr) (low : ℕ) (before ids : List ExprId) → Onto t es low before ids u → length ids ≡ length before + length es
onto-long t u es low before ids a =
    omega (arith, ap length a.is, length-append before a.more, ap length a.made.trees, length-map (numbers_of a.more) (expr_in (view_in u).trees), length-map a.more (λ e. e.0))

-- of the expressions es, some are made, and those of left are still to be made
pub record Partly (t : Tables) (es : List Expr) (low : ℕ) (before : List ExprId) (u : Tables) (left : List Expr) (now : List ExprId) : Type 0 where
  pub done : List Expr
  pub all : es ≡ done ++ left
  pub onto : Onto t done low before now u

pub partly-start : (t : Tables) (es : List Expr) (low : ℕ) (before : List ExprId) → Partly t es low before t es before
partly-start t es low before = record { done = []; all = refl; onto = onto-none t low before }

module _ (t : Tables) (es : List Expr) (low : ℕ) (before : List ExprId) (u : Tables) where
  pub partly-turn : (now : List ExprId) (here later : List Expr) (w : Tables) (low2 : ℕ) (after : List ExprId) → low2 ≤ low → Partly t es low before u (here ++ later) now → Onto u here low2 now after w → Partly t es low before w later after
  partly-turn now here later w low2 after le p a = record {
    done = p.done ++ here;
    all = p.all ∙ sym (append_assoc p.done here later);
    onto = onto-both t u w p.done here low low2 before now after le p.onto a;
  }

  pub partly-end : (now : List ExprId) → Partly t es low before u [] now → Onto t es low before now u
  partly-end now p = subst (λ l. Onto t l low before now u) (sym (p.all ∙ append-nil p.done)) p.onto

  pub partly-full : (now : List ExprId) (here later : List Expr) → Partly t es low before u (here ++ later) now → fits (model_of u).used (list_space here) ≡ false → fits (model_of t).used (list_space es) ≡ false
  partly-full now here later p h = ap (λ l. fits (model_of t).used (list_space l)) p.all ∙ no-room-in (model_of t).used (model_of u).used p.done here later p.onto.made.spent h

  pub partly-refused : (now : List ExprId) (here later : List Expr) (f : Fault) → Partly t es low before u (here ++ later) now → NoRoom u (list_space here) f → NoRoom t (list_space es) f
  partly-refused now here later f p h = (h.0, partly-full now here later p h.1)
