-- Needed columns that are merged into a list one after another.
use Rattle.std.proofs.Common.{◌≡◌, ℕ, ◌+◌, ◌<◌, ◌≤◌, Bool, true, false, cond, List, [], ◌∷◌, ◌++◌, map, length, get_or, drop, Err, Result, sym, refl, ap, ◌∙◌, subst, arith}
use Rattle.std.proofs.lemmas.List.{at_drop_all, at_drop_more, get_or-map, length-map}
use Rattle.plan.specs.Calls.{all_below}
use Rattle.plan.specs.Functions.{Functions}
use Rattle.plan.specs.Model.{expr_in, exprs_in}
use Rattle.plan.specs.Terms.{Expr, Field}
use Rattle.plan.specs.Terms.Expr.{reference}
use Rattle.plan.specs.declared.fault.Fault.{Fault}
use Rattle.rewriting.specs.Extracting
use Rattle.rewriting.specs.Extracting.{add_column, replace_cols_by_name}
use Rattle.rewriting.specs.Routing.{Side, needed_of, same_side}
use Rattle.routing.specs.Sides.{side_of}
use Rattle.routing.specs.declared.owning.Side
use Rattle.rows.specs.Lists.{keep}
use Rattle.rows.specs.Rows.{seek}
use Rattle.entries.specs.Spans.{stored_field}
use Rattle.entries.specs.declared.node.ExprId.{ExprId}
use Rattle.terms.specs.Views.{View, numbers_of}
use Rattle.extracting.specs.Extractors.{need_of, needs_of}
use Rattle.extracting.specs.declared.extractor.Extractor.{Extractor}
use Rattle.extracting.specs.declared.extractor.Needed.{Needed}
use Rattle.merging.specs.Joining.{Listed, ListedBy, too_large, within_limits}
use Rattle.merging.specs.Merging.{AllKnown, columns_at, columns_in}
use Rattle.merging.specs.Replacing.{map_of}
use Rattle.merging.specs.declared.replacing.ReplaceMap.{ReplaceMap}
use Rattle.merging.proofs.Joined.{columns-past, past-count}

abbrev Need : Type 0
Need = Side × Field

-- the needed columns of one entry, and of one before others
needs-one : (s : Side) (n : Need) → same_side n.0 s ≡ true → needed_of s (n ∷ []) ≡ n.1 ∷ []
unfolding needed_of keep
needs-one s n h = ap (λ b. map (λ (x : Need). x.1) (cond b (n ∷ []) [])) h

needs-none : (s : Side) (n : Need) → same_side n.0 s ≡ false → needed_of s (n ∷ []) ≡ []
unfolding needed_of keep
needs-none s n h = ap (λ b. map (λ (x : Need). x.1) (cond b (n ∷ []) [])) h

abbrev bare : Need → Field
bare n = n.1

needs-cons : (s : Side) (n : Need) (ns : List Need) → needed_of s (n ∷ ns) ≡ needed_of s (n ∷ []) ++ needed_of s ns
unfolding needed_of keep
needs-cons s n ns = go (same_side n.0 s)
  where
    go : (b : Bool) → map bare (cond b (n ∷ keep (λ x. same_side x.0 s) ns) (keep (λ x. same_side x.0 s) ns)) ≡ map bare (cond b (n ∷ []) []) ++ map bare (keep (λ x. same_side x.0 s) ns)
    go true = refl
    go false = refl

needs-empty : (s : Side) → needed_of s [] ≡ []
unfolding needed_of keep
needs-empty s = refl

module _ (F : Functions) (ins : List Field) (m : Extracting.ReplaceMap) where
  no-columns : (acc : List Expr) → columns_in F ins m [] acc ≡ acc
  unfolding columns_in
  no-columns acc = refl

  one-column : (c : Field) (acc : List Expr) → columns_in F ins m (c ∷ []) acc ≡ add_column F ins (replace_cols_by_name m (reference c)) acc
  unfolding columns_in
  one-column c acc = refl

  columns-both : (cs ds : List Field) (acc : List Expr) → columns_in F ins m (cs ++ ds) acc ≡ columns_in F ins m ds (columns_in F ins m cs acc)
  unfolding columns_in
  columns-both [] ds acc = refl
  columns-both (c ∷ cs) ds acc = columns-both cs ds (add_column F ins (replace_cols_by_name m (reference c)) acc)

-- one needed column, of the other input or of this one
module _ (v : View) (F : Functions) (ins : List Field) (m : ReplaceMap) (s : Side.Side) (n : Needed) (list : List ExprId) where
  abbrev acc : List Expr
  acc = exprs_in v.trees (numbers_of list)

  pub left-out : all_below (length v.trees) (numbers_of list) ≡ true → length list ≤ 64 → same_side (side_of n.side) (side_of s) ≡ false → Listed v (columns_in F ins (map_of v m) (columns_at v s n) acc) list
  left-out there few h = record { present = there; trees = sym (ap (λ cs. columns_in F ins (map_of v m) cs acc) (needs-none (side_of s) (need_of v n) h) ∙ no-columns F ins (map_of v m) acc); few = few }

  module _ (h : same_side (side_of n.side) (side_of s) ≡ true) where
    one : columns_at v s n ≡ stored_field v.bytes n.field ∷ []
    one = needs-one (side_of s) (need_of v n) h

    pub found : AllKnown (map_of v m).0 (columns_at v s n) → seek (stored_field v.bytes n.field) (map_of v m).0 < length m.fields.now
    found k =
        let a : AllKnown (map_of v m).0 (stored_field v.bytes n.field ∷ []) = subst (AllKnown (map_of v m).0) one k in
        let i = a.0.inside in
        omega (arith, length-map m.fields.now (stored_field v.bytes))

    pub taken-in : (e : ℕ) (r : Result (Unit {0}) Fault) (ids : List ExprId) → expr_in v.trees e ≡ replace_cols_by_name (map_of v m) (reference (stored_field v.bytes n.field))
        → ListedBy v (add_column F ins (expr_in v.trees e) acc) r ids → ListedBy v (columns_in F ins (map_of v m) (columns_at v s n) acc) r ids
    taken-in e r ids is a =
        subst (λ es. ListedBy v es r ids)
        (ap (λ d. add_column F ins d acc) is ∙ sym (one-column F ins (map_of v m) (stored_field v.bytes n.field) acc) ∙ ap (λ cs. columns_in F ins (map_of v m) cs acc) (sym one)) a

-- some are merged, and the others are left
pub record Columning (v : View) (F : Functions) (ins : List Field) (m : ReplaceMap) (whole : List Expr) (rest : List Field) (ids : List ExprId) : Type 0 where
  pub whole_is : whole ≡ columns_in F ins (map_of v m) rest (exprs_in v.trees (numbers_of ids))
  pub there : all_below (length v.trees) (numbers_of ids) ≡ true
  pub few : length ids ≤ 64
  pub known : AllKnown (map_of v m).0 rest

module _ (v : View) (F : Functions) (ins : List Field) (m : ReplaceMap) (whole : List Expr) (rest cs later : List Field) (ids : List ExprId) (next : rest ≡ cs ++ later) (k : Columning v F ins m whole rest ids) where
  abbrev done : List Expr
  done = columns_in F ins (map_of v m) cs (exprs_in v.trees (numbers_of ids))

  split : whole ≡ columns_in F ins (map_of v m) later done
  split = k.whole_is ∙ ap (λ l. columns_in F ins (map_of v m) l (exprs_in v.trees (numbers_of ids))) next ∙ columns-both F ins (map_of v m) cs later (exprs_in v.trees (numbers_of ids))

  both-known : AllKnown (map_of v m).0 cs × AllKnown (map_of v m).0 later
  both-known = parted cs (subst (AllKnown (map_of v m).0) next k.known)
    where
      parted : (ds : List Field) → AllKnown (map_of v m).0 (ds ++ later) → AllKnown (map_of v m).0 ds × AllKnown (map_of v m).0 later
      parted [] h = (tt, h)
      parted (d ∷ ds) h = let p = parted ds h.1 in ((h.0, p.0), p.1)

  pub known-here : AllKnown (map_of v m).0 cs
  known-here = both-known.0

  pub refused : (d : Fault) → ListedBy v done (Err d) ids → (d ≡ too_large) × (within_limits whole ≡ false)
  refused d a = (a.0, ap within_limits split ∙ columns-past F ins (map_of v m) later done (past-count done a.1))

  pub turn : (ids' : List ExprId) → Listed v done ids' → Columning v F ins m whole later ids'
  turn ids' a = record { whole_is = split ∙ ap (columns_in F ins (map_of v m) later) (sym a.trees); there = a.present; few = a.few; known = both-known.1 }

pub listed-all : (v : View) (F : Functions) (ins : List Field) (m : ReplaceMap) (whole : List Expr) (rest : List Field) (ids : List ExprId) → rest ≡ [] → Columning v F ins m whole rest ids → Listed v whole ids
listed-all v F ins m whole rest ids e k = record {
  present = k.there;
  trees = sym (k.whole_is ∙ ap (λ l. columns_in F ins (map_of v m) l (exprs_in v.trees (numbers_of ids))) e ∙ no-columns F ins (map_of v m) (exprs_in v.trees (numbers_of ids)));
  few = k.few;
}

module _ (v : View) (x : Extractor) (s : Side.Side) (i : ℕ) where
  pub column-next : (d : Needed) → i < length x.needed → needed_of (side_of s) (drop i (needs_of v x)) ≡ columns_at v s (get_or x.needed i d) ++ needed_of (side_of s) (drop (i + 1) (needs_of v x))
  column-next d lt =
      at_drop_more (needed_of (side_of s)) (needs_of v x) i (need_of v d) (omega (arith, lt, length-map x.needed (need_of v)))
      ∙ ap (λ n. needed_of (side_of s) (n ∷ drop (i + 1) (needs_of v x))) (get_or-map (need_of v) x.needed i d (need_of v d) lt)
      ∙ needs-cons (side_of s) (need_of v (get_or x.needed i d)) (drop (i + 1) (needs_of v x))

  pub columns-end : length x.needed ≤ i → needed_of (side_of s) (drop i (needs_of v x)) ≡ []
  columns-end le = at_drop_all (needed_of (side_of s)) (needs_of v x) i (omega (arith, le, length-map x.needed (need_of v))) ∙ needs-empty (side_of s)
