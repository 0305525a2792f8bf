-- One pair that is merged into a list.
use Rattle.std.proofs.Common.{◌≡◌, ℕ, ◌+◌, ◌<◌, min, true, false, List, [], ◌∷◌, length, Ok, Err, Result, inr, refl, ap, ap₂, ◌∙◌, subst, arith}
use Rattle.std.proofs.lemmas.Bool.{and_from, and_parts, le-leb, ltb-true}
use Rattle.std.proofs.lemmas.List.Sums.{sum_by-cons}
use Rattle.lexicon.proofs.Frames.{every-at}
use Rattle.plan.specs.Calls.{all_below, below}
use Rattle.plan.specs.Fields.{every}
use Rattle.plan.specs.Model.{Within, expr_in, exprs_in, no_expr, plus, space}
use Rattle.plan.specs.Names.{Name}
use Rattle.plan.specs.Questions.{small_tree}
use Rattle.plan.specs.Rendering.{unqualified_field}
use Rattle.plan.specs.Terms.{Expr, size_of}
use Rattle.plan.specs.Terms.Expr.{alias}
use Rattle.plan.specs.declared.fault.Fault.{Fault}
use Rattle.rewriting.specs.Extracting
use Rattle.rewriting.specs.Extracting.{add_pair}
use Rattle.rewriting.specs.Generated.{expr_names, field_names, qualifier_names}
use Rattle.rewriting.specs.Outlay.{entries_of, tree_space}
use Rattle.rewriting.specs.Routing.{Pair, unalias}
use Rattle.entries.specs.declared.node.ExprId.{ExprId}
use Rattle.tables.specs.Holding.{model_of, view_in}
use Rattle.tables.specs.declared.tables.Tables.{Tables}
use Rattle.terms.proofs.Bounds.{small}
use Rattle.terms.specs.Acceptance.{acceptable}
use Rattle.terms.specs.Views.{numbers_of}
use Rattle.extracting.proofs.Growing.{longer}
use Rattle.extracting.proofs.Numbers.{numbered-more}
use Rattle.extracting.proofs.Spaces.{AtMost}
use Rattle.extracting.proofs.Steps.{below-more, exprs-stay}
use Rattle.extracting.specs.Walking.{Built, BuiltBy, NoRoom}
use Rattle.extracting.specs.declared.extractor.Extracted.{Extracted}
use Rattle.merging.specs.Joining.{ListedBy, within_limits}
use Rattle.merging.specs.Merging.{GatheredBy, pair_in, pair_of}
use Rattle.merging.specs.Replacing.{map_of, replaced}
use Rattle.merging.specs.declared.replacing.ReplaceMap.{ReplaceMap}
use Rattle.merging.proofs.Following.{alias-more, built-then, no-room-part}
use Rattle.merging.proofs.Joined.{past-count, past-size}
use Rattle.merging.proofs.Replaced.{rep}

-- every expression of the tables is small
pub trees-small : (t : Tables) (ns : List ℕ) → all_below (length (view_in t).trees) ns ≡ true → every small_tree (exprs_in (view_in t).trees ns) ≡ true
trees-small t [] h = refl
trees-small t (n ∷ ns) h =
    let v = view_in t in
    let p = and_parts (below (length v.trees) n) (all_below (length v.trees) ns) h in
    let s = small v.functions (expr_in v.trees n) (every-at (acceptable v.functions) v.trees n no_expr (ltb-true n (length v.trees) p.0) t.terms.accepted) in
    and_from _ _ (le-leb (size_of (expr_in v.trees n)) 256 s) (trees-small t ns p.1)

-- an alias takes one node and its name beside what is inside
named-space : (e : Expr) (n : Name) → AtMost (plus (tree_space e) (space 1 0 0 0 (length n))) (tree_space (alias e (unqualified_field n)))
unfolding tree_space entries_of expr_names field_names qualifier_names
named-space e n = record { exprs = omega arith; plans = omega arith; entries = omega arith; fields = omega arith; bytes = omega (arith, sum_by-cons length n (expr_names e)) }

module _ (t : Tables) (m : ReplaceMap) (d : Extracted) (inner : ℕ) (inner-is : expr_in (view_in t).trees inner ≡ unalias (expr_in (view_in t).trees d.inner.0)) (list : List ExprId) (there : all_below (length (view_in t).trees) (numbers_of list) ≡ true) where
  abbrev mp : Extracting.ReplaceMap
  mp = map_of (view_in t) m

  abbrev p : Pair
  p = pair_of (view_in t) d

  abbrev a : Expr
  a = pair_in mp p

  abbrev acc : List Expr
  acc = exprs_in (view_in t).trees (numbers_of list)

  here-is : replaced (view_in t) m inner ≡ rep mp p.0
  here-is = ap (rep mp) inner-is

  pub refused-size : (n : ℕ) → n ≡ min (size_of (replaced (view_in t) m inner)) 257 → 255 < n → within_limits (add_pair a acc) ≡ false
  refused-size n h lt = past-size a acc (omega (arith, h, lt, ap size_of here-is)) (trees-small t (numbers_of list) there)

  pub refused-inner : (f : Fault) → NoRoom t (tree_space (replaced (view_in t) m inner)) f → NoRoom t (tree_space a) f
  refused-inner f h = no-room-part t (tree_space (rep mp p.0)) (tree_space a) f (alias-more (rep mp p.0) (unqualified_field p.1)) (subst (λ e. NoRoom t (tree_space e) f) here-is h)

  pub alias-answer : (u w : Tables) (made : ℕ) (r : Result ExprId Fault) → Built t (tree_space (replaced (view_in t) m inner)) 0 (replaced (view_in t) m inner) made u
      → BuiltBy u (space 1 0 0 0 (length p.1)) (d.alias + 1) (alias (expr_in (view_in u).trees made) (unqualified_field p.1)) r w → BuiltBy t (tree_space a) (d.alias + 1) a r w
  alias-answer u w made r b c =
      let b' : Built t (tree_space (rep mp p.0)) (d.alias + 1) (rep mp p.0) made u = record {
        present = b.present;
        tree = b.tree ∙ here-is;
        grows = b.grows;
        numbers = numbered-more (model_of t) (model_of u) 0 (d.alias + 1) (omega arith) b.numbers;
        spent = subst (λ e. Within (model_of t).used (tree_space e) (model_of u).used) here-is b.spent;
      } in
      built-then t u w (tree_space (rep mp p.0)) (space 1 0 0 0 (length p.1)) (tree_space a) (d.alias + 1) (rep mp p.0) a made r (named-space (rep mp p.0) p.1) b'
      (subst (λ e. BuiltBy u (space 1 0 0 0 (length p.1)) (d.alias + 1) (alias e (unqualified_field p.1)) r w) (b.tree ∙ here-is) c)

  module _ (w : Tables) (r : ℕ) (b : Built t (tree_space a) (d.alias + 1) a r w) where
    pub list-there : all_below (length (view_in w).trees) (numbers_of list) ≡ true
    list-there = below-more (length (view_in t).trees) (length (view_in w).trees) (numbers_of list) (longer t w b.grows) there

    list-is : add_pair (expr_in (view_in w).trees r) (exprs_in (view_in w).trees (numbers_of list)) ≡ add_pair a acc
    list-is = ap₂ add_pair b.tree (exprs-stay t w b.grows (numbers_of list) there)

    pub gathered : (x : Result (Unit {0}) Fault) (ids : List ExprId) → ListedBy (view_in w) (add_pair (expr_in (view_in w).trees r) (exprs_in (view_in w).trees (numbers_of list))) x ids → GatheredBy t (tree_space a) (d.alias + 1) (add_pair a acc) x ids w
    gathered (Ok y) ids l = record { present = l.present; trees = l.trees ∙ list-is; few = l.few; grows = b.grows; spent = b.spent; numbers = b.numbers }
    gathered (Err f) ids l = inr (l.0, past-count (add_pair a acc) (omega (arith, l.1, ap length list-is)))
