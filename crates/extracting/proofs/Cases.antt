-- What the walk reads of a node, where m are the expressions of the tables t; and what the walk comes to there.
use Rattle.std.proofs.Common.{◌≡◌, ℕ, ◌<◌, ◌≤◌, true, false, cond, ltb, List, length, Some, None, Option, sym, ap, ap₂, ◌∙◌, subst}
use Rattle.std.proofs.lemmas.Bool.{and_parts, ltb-true}
use Rattle.plan.specs.Functions.{Functions, is_marked, placement_of}
use Rattle.plan.specs.Model.{expr_in, exprs_in}
use Rattle.plan.specs.Names.{prefixed}
use Rattle.plan.specs.Terms.{Expr, arguments}
use Rattle.plan.specs.Terms.Expr.{alias, call}
use Rattle.rewriting.specs.Routing
use Rattle.rewriting.specs.Routing.{Side, add_extracted, entered, noted, routing_extract, routing_extract_all}
use Rattle.tables.specs.Holding.{model_of, nodes_of, view_in}
use Rattle.tables.specs.declared.tables.Tables.{Tables}
use Rattle.terms.specs.Build.{inside_node, numbers_in}
use Rattle.entries.specs.Spans.{literal_at, stored_field, stored_in}
use Rattle.terms.specs.Views.{numbers_of, tree_for, tree_of, view_of}
use Rattle.entries.specs.declared.node.ExprId.{ExprId}
use Rattle.entries.specs.declared.node.ExprNode.{ExprNode}
use Rattle.entries.specs.declared.node.ExprNode.TheVariants.{Alias, Call, Constant, Reference}
use Rattle.entries.specs.declared.node.Literal.{Literal}
use Rattle.entries.specs.declared.node.Run.{Run}
use Rattle.entries.specs.declared.node.StoredField.{StoredField}
use Rattle.terms.specs.declared.terms.Terms.{Terms}
use Rattle.terms.proofs.Frames.{field-grow}
use Rattle.terms.proofs.Walks.{few}
use Rattle.extracting.specs.Extractors.{Inside, extractor_of}
use Rattle.extracting.specs.Owners.{inputs_in, owner_by}
use Rattle.extracting.specs.Walking.{Grows, Walked, walk_in}
use Rattle.extracting.specs.declared.extractor.Extractor.{Extractor}
use Rattle.extracting.specs.declared.inputs.Inputs.{Inputs}
use Rattle.extracting.proofs.Arguments.{call-is}
use Rattle.extracting.proofs.Growing.{grows-at-once, owner-stays}
use Rattle.extracting.proofs.Numbers.{numbered-here}
use Rattle.extracting.proofs.Rewritten.{walk-alias, walk-call, walk-literal, walk-prefixed, walk-reference, walk-taken}
use Rattle.extracting.proofs.Spaces.{within-same}

module _ (t : Tables) (m : Terms) (same : m ≡ t.terms) (e : ℕ) (n : ExprNode) (tree : tree_of m e ≡ tree_for m n) (inside : inside_node (view_of m).bytes (view_of m).entries e n ≡ true) where
  pub tree-here : expr_in (view_in t).trees e ≡ tree_for t.terms n
  tree-here = subst (λ k. tree_of k e ≡ tree_for k n) same tree

  pub inside-here : inside_node (view_in t).bytes (view_in t).entries e n ≡ true
  inside-here = subst (λ k. inside_node (view_of k).bytes (view_of k).entries e n ≡ true) same inside

-- an alias
module _ (t : Tables) (e : ℕ) (inner : ExprId) (field : StoredField) (inside : inside_node (view_in t).bytes (view_in t).entries e (Alias inner field) ≡ true) where
  pub inner-lower : inner.0 < e
  inner-lower = ltb-true _ _ (and_parts (ltb inner.0 e) (stored_in (view_in t).bytes field) inside).0

  pub name-stored : stored_in (view_in t).bytes field ≡ true
  name-stored = (and_parts (ltb inner.0 e) (stored_in (view_in t).bytes field) inside).1

pub field-stays : (t u : Tables) (g : Grows (model_of t) (model_of u)) (f : StoredField) → stored_in (view_in t).bytes f ≡ true → (stored_field (view_in u).bytes f ≡ stored_field (view_in t).bytes f) × (stored_in (view_in u).bytes f ≡ true)
field-stays t u g f h =
    let k = field-grow (view_in t).bytes g.text.more f h in
    (ap (λ b. stored_field b f) g.text.is ∙ k.0, ap (λ b. stored_in b f) g.text.is ∙ k.1)

-- the walk over other tables that begin with these
pub walk-same : (t u : Tables) (g : Grows (model_of t) (model_of u)) (is : Inputs) (d : Expr) (h : Routing.Extractor) → walk_in u is d h ≡ routing_extract (view_in t).functions (owner_by (view_in t).functions (nodes_of t) is) d h
walk-same t u g is d h = ap₂ (λ F own. routing_extract F own d h) g.functions (owner-stays t u g is)

pub inputs-stay : (t u : Tables) (g : Grows (model_of t) (model_of u)) (is : Inputs) → inputs_in (length (nodes_of t)) is ≡ true → inputs_in (length (nodes_of u)) is ≡ true
inputs-stay t u g is h = ap (λ ns. inputs_in (length ns) is) g.plans ∙ h

module _ (t : Tables) (is : Inputs) (e : ℕ) (x : Extractor) where
  abbrev F : Functions
  F = (view_in t).functions

  abbrev own : Expr → Option Side
  own = owner_by F (nodes_of t) is

  abbrev here : Expr
  here = expr_in (view_in t).trees e

  abbrev g : Routing.Extractor
  g = extractor_of (view_in t) x

  -- the expression is given back, and the extractor is as it was
  pub kept : walk_in t is here g ≡ (here, g) → e < length (view_in t).trees → Inside (view_in t) x → length x.entries ≤ length (view_in t).trees → Walked t (walk_in t is here g) e t x
  kept h present inside few = record {
    present = present;
    tree = sym (ap (λ (w : Expr × Routing.Extractor). w.0) h);
    extractor = sym (ap (λ (w : Expr × Routing.Extractor). w.1) h);
    inside = inside;
    few = few;
    grows = grows-at-once (model_of t);
    numbers = numbered-here (model_of t) (walk_in t is here g).1.next;
    spent = within-same (model_of t).used _;
  }

  pub at-constant : (l : Literal) → here ≡ tree_for t.terms (Constant l) → walk_in t is here g ≡ (here, g)
  at-constant l h = ap (λ d. walk_in t is d g) h ∙ walk-literal F own (literal_at (view_in t).bytes l) g ∙ ap (λ d. (d, g)) (sym h)

  pub at-reference : (f : StoredField) (o : Option Side) → here ≡ tree_for t.terms (Reference f) → o ≡ own here → walk_in t is here g ≡ (here, noted o (stored_field (view_in t).bytes f) g)
  at-reference f o h k =
      let r = stored_field (view_in t).bytes f in
      ap (λ d. walk_in t is d g) h ∙ walk-reference F own r g ∙ ap₂ (λ d p. (d, noted p r g)) (sym h) (ap own (sym h) ∙ sym k)

  module _ (inner : ExprId) (f : StoredField) (h : here ≡ tree_for t.terms (Alias inner f)) where
    pub at-prefixed : prefixed (stored_field (view_in t).bytes f).name ≡ true → walk_in t is here g ≡ (here, g)
    at-prefixed k = ap (λ d. walk_in t is d g) h ∙ walk-prefixed F own (expr_in (view_in t).trees inner.0) (stored_field (view_in t).bytes f) g k ∙ ap (λ d. (d, g)) (sym h)

    pub at-alias : prefixed (stored_field (view_in t).bytes f).name ≡ false
        → walk_in t is here g ≡ (alias (walk_in t is (expr_in (view_in t).trees inner.0) g).0 (stored_field (view_in t).bytes f), (walk_in t is (expr_in (view_in t).trees inner.0) g).1)
    at-alias k = ap (λ d. walk_in t is d g) h ∙ walk-alias F own (expr_in (view_in t).trees inner.0) (stored_field (view_in t).bytes f) g k

  pub at-taken : (s : Side) (n : ℕ) (run : Run) → here ≡ tree_for t.terms (Call n run) → Some s ≡ cond (is_marked (placement_of F here)) (own here) None → walk_in t is here g ≡ add_extracted s here g (entered here g.entries)
  at-taken s n run h k =
      subst (λ d. Some s ≡ cond (is_marked (placement_of F d)) (own d) None → walk_in t is d g ≡ add_extracted s d g (entered d g.entries)) (sym h)
      (λ j. walk-taken F own s n (arguments (exprs_in (view_in t).trees (numbers_in (view_in t).entries run.first run.count))) g j) k

-- a call n of the arguments given
module _ (t : Tables) (is : Inputs) (e n : ℕ) (run : Run) (given : List ExprId) (x : Extractor) (h : expr_in (view_in t).trees e ≡ tree_for t.terms (Call n run)) (inside : inside_node (view_in t).bytes (view_in t).entries e (Call n run) ≡ true)
    (given-is : numbers_of given ≡ numbers_in (view_in t).entries run.first run.count) (present : e < length (view_in t).trees) where
  abbrev ts : List Expr
  ts = exprs_in (view_in t).trees (numbers_of given)

  call-here-is : expr_in (view_in t).trees e ≡ call n (arguments ts)
  call-here-is = call-is t e n run given h inside given-is present

  pub at-call : None ≡ cond (is_marked (placement_of (view_in t).functions (expr_in (view_in t).trees e))) (owner_by (view_in t).functions (nodes_of t) is (expr_in (view_in t).trees e)) None
      → walk_in t is (expr_in (view_in t).trees e) (extractor_of (view_in t) x)
      ≡ (call n (arguments (routing_extract_all (view_in t).functions (owner_by (view_in t).functions (nodes_of t) is) ts (extractor_of (view_in t) x)).0), (routing_extract_all (view_in t).functions (owner_by (view_in t).functions (nodes_of t) is) ts (extractor_of (view_in t) x)).1)
  at-call k =
      let F = (view_in t).functions in
      let own = owner_by F (nodes_of t) is in
      let g = extractor_of (view_in t) x in
      ap (λ d. walk_in t is d g) call-here-is ∙ walk-call F own n ts g (subst (λ d. None ≡ cond (is_marked (placement_of F d)) (own d) None) call-here-is k)
