-- One expression made after another, and a map over tables that grow.
use Rattle.std.proofs.Common.{◌≡◌, ℕ, ◌<◌, true, false, List, [], ◌∷◌, ◌++◌, map, length, Ok, Err, Result, refl, ap, ap₂, ◌∙◌, arith}
use Rattle.std.proofs.lemmas.Bool.{and_from, and_parts, lt-ltb}
use Rattle.plan.specs.Calls.{all_below, below}
use Rattle.plan.specs.Fields.{any, every}
use Rattle.plan.specs.Functions.{is_total}
use Rattle.plan.specs.Model.{Model, Space, expr_in, plus}
use Rattle.plan.specs.Terms.{Expr, Field}
use Rattle.plan.specs.Terms.Expr.{alias}
use Rattle.rewriting.specs.Outlay.{tree_space}
use Rattle.plan.specs.declared.fault.Fault.{Fault}
use Rattle.entries.specs.Spans.{stored_field, stored_in}
use Rattle.entries.specs.declared.node.ExprId.{ExprId}
use Rattle.extracting.proofs.Growing.{grows-at-once, grows-then, longer}
use Rattle.extracting.proofs.Numbers.{numbered-here}
use Rattle.extracting.proofs.Spaces.{AtMost, alias-space, no-room, within-same, within-then, within_more}
use Rattle.extracting.proofs.Steps.{below-more, exprs-stay}
use Rattle.extracting.specs.Walking.{Built, BuiltBy, Grows, NoRoom, Numbered}
use Rattle.stepping.proofs.Chain.{fits-no-more}
use Rattle.tables.specs.Holding.{model_of, view_in}
use Rattle.tables.specs.declared.tables.Tables.{Tables}
use Rattle.terms.proofs.Frames.{stored-grow}
use Rattle.terms.specs.Views.{numbers_of}
use Rattle.merging.specs.Replacing.{MapIn, map_of}
use Rattle.merging.specs.declared.replacing.ReplaceMap.{ReplaceMap}

-- one number more
pub below-push : (n : ℕ) (ns : List ℕ) (m : ℕ) → all_below n ns ≡ true → m < n → all_below n (ns ++ m ∷ []) ≡ true
below-push n [] m h l = and_from _ _ (lt-ltb m n l) refl
below-push n (j ∷ ns) m h l = let p = and_parts (below n j) (all_below n ns) h in and_from _ _ p.0 (below-push n ns m p.1 l)

-- an expression that stands there is built of nothing
pub itself : (t : Tables) (o : Space) (n : ℕ) (e : Expr) (r : ℕ) → r < length (view_in t).trees → expr_in (view_in t).trees r ≡ e → Built t o n e r t
itself t o n e r present tree = record { present = present; tree = tree; grows = grows-at-once (model_of t); numbers = numbered-here (model_of t) n; spent = within-same (model_of t).used o }

pub numbered-both : (a b c : Model) (n : ℕ) → Numbered a n b → Numbered b n c → Numbered a n c
numbered-both a b c n g h k l le = h k (g k l le) le

-- the expression d, and then e of it
pub built-then : (t u w : Tables) (p q o : Space) (n : ℕ) (d e : Expr) (made : ℕ) (r : Result ExprId Fault) → AtMost (plus p q) o → Built t p n d made u → BuiltBy u q n e r w → BuiltBy t o n e r w
built-then t u w p q o n d e made (Ok r) le a b = record {
  present = b.present;
  tree = b.tree;
  grows = grows-then (model_of t) (model_of u) (model_of w) a.grows b.grows;
  numbers = numbered-both (model_of t) (model_of u) (model_of w) n a.numbers b.numbers;
  spent = within_more (model_of t).used (plus p q) o (model_of w).used (within-then (model_of t).used p (model_of u).used q (model_of w).used a.spent b.spent) le;
}
built-then t u w p q o n d e made (Err f) le a b = (b.0, no-room (model_of t).used p (model_of u).used q o a.spent le b.1)

pub no-room-part : (t : Tables) (p o : Space) (f : Fault) → AtMost p o → NoRoom t p f → NoRoom t o f
no-room-part t p o f le h = (h.0, fits-no-more (model_of t).used p o le h.1)

module _ (t u : Tables) (g : Grows (model_of t) (model_of u)) (m : ReplaceMap) (inside : MapIn (view_in t) m) where
  fields-stay : (map (stored_field (view_in u).bytes) m.fields.now ≡ map (stored_field (view_in t).bytes) m.fields.now) × (every (stored_in (view_in u).bytes) m.fields.now ≡ true)
  fields-stay =
      let f = stored-grow (view_in t).bytes g.text.more m.fields.now inside.stored in
      (ap (λ b. map (stored_field b) m.fields.now) g.text.is ∙ f.0, ap (λ b. every (stored_in b) m.fields.now) g.text.is ∙ f.1)

  pub map-stays : map_of (view_in u) m ≡ map_of (view_in t) m
  map-stays = ap₂ (λ fs es. (fs, es)) fields-stay.0 (exprs-stay t u g (numbers_of m.behind.now) inside.present)

  pub map-inside : MapIn (view_in u) m
  map-inside = record { stored = fields-stay.1; present = below-more (length (view_in t).trees) (length (view_in u).trees) (numbers_of m.behind.now) (longer t u g) inside.present; counted = inside.counted }

  pub totals-stay : any (is_total (view_in t).functions) (map_of (view_in t) m).1 ≡ false → any (is_total (view_in u).functions) (map_of (view_in u) m).1 ≡ false
  totals-stay h = ap₂ (λ F es. any (is_total F) es) g.functions (exprs-stay t u g (numbers_of m.behind.now) inside.present) ∙ h

-- an alias takes no less than what is inside
pub alias-more : (e : Expr) (f : Field) → AtMost (tree_space e) (tree_space (alias e f))
alias-more e f = let s = alias-space e f in record { exprs = omega (arith, s.exprs); plans = omega (arith, s.plans); entries = omega (arith, s.entries); fields = omega (arith, s.fields); bytes = omega (arith, s.bytes) }
