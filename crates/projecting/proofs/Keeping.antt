-- Fields that are held stay so as expressions are made; and a reference to one of them.
use Rattle.std.proofs.Common.{◌≡◌, ℕ, zero, suc, ◌+◌, ◌<◌, ◌≤◌, true, List, [], ◌∷◌, ◌++◌, map, length, get_or, drop, Ok, Err, Result, sym, refl, ap, ◌∙◌, subst, arith, not-suc-le-zero, length-append}
use Rattle.std.proofs.lemmas.List.{length-map, get_or-map}
use Rattle.lexicon.proofs.Frames.{every-at}
use Rattle.table.proofs.Loops.{twice-end, twice-step}
use Rattle.plan.specs.Calls.{good_field}
use Rattle.plan.specs.Fields.{every}
use Rattle.plan.specs.Model.{Space, fits, space}
use Rattle.plan.specs.Plans.{fields_of}
use Rattle.plan.specs.Rendering.{unqualified_field}
use Rattle.plan.specs.Terms.{Expr, Field}
use Rattle.plan.specs.Terms.Expr.{reference}
use Rattle.plan.specs.declared.fault.Fault.{Fault}
use Rattle.rewriting.specs.Generated.{expr_names, highest, list_names, next_number}
use Rattle.rewriting.specs.Outlay.{entries_of, list_space, tree_space}
use Rattle.rows.specs.Standing.{refs}
use Rattle.entries.specs.Spans.{stored_field, stored_in}
use Rattle.entries.specs.declared.node.ExprId.{ExprId}
use Rattle.entries.specs.declared.node.StoredField.{StoredField}
use Rattle.tables.proofs.Inputs.{tree-at}
use Rattle.tables.specs.Holding.{fields_at, model_of, view_in}
use Rattle.tables.specs.Reusing.{Reused}
use Rattle.tables.specs.declared.tables.Tables.{Tables}
use Rattle.terms.proofs.Frames.{stored-grow}
use Rattle.extracting.proofs.Built.{reused-built}
use Rattle.extracting.proofs.Spaces.{AtMost, within_more}
use Rattle.extracting.specs.Walking.{Built, BuiltBy, Grows, NoRoom}
use Rattle.stepping.proofs.Chain.{fits-no-more}
use Rattle.projecting.proofs.Listing.{Partly, made-one, one-listed, onto-long, partly-end, partly-refused, partly-turn}
use Rattle.projecting.proofs.Numbers.{next-grows, node-fields, one-of-fields}
use Rattle.projecting.specs.Onto.{Held, Onto, fields_in}

pub fields-stay : (t u : Tables) (fs : List StoredField) → Grows (model_of t) (model_of u) → every (stored_in (view_in t).bytes) fs ≡ true → (fields_in u fs ≡ fields_in t fs) × (every (stored_in (view_in u).bytes) fs ≡ true)
fields-stay t u fs g h =
    let k = stored-grow (view_in t).bytes g.text.more fs h in
    (ap (λ b. map (stored_field b) fs) g.text.is ∙ k.0, ap (λ b. every (stored_in b) fs) g.text.is ∙ k.1)

pub held-stays : (t u : Tables) (fs : List StoredField) → Grows (model_of t) (model_of u) → Held t fs → Held u fs
held-stays t u fs g h =
    let k = fields-stay t u fs g h.stored in
    record {
      stored = k.1;
      good = ap (every good_field) k.0 ∙ h.good;
      numbers = omega (arith, ap (λ l. highest 0 (list_names (refs l))) k.0, h.numbers, next-grows (model_of t) (model_of u) g);
    }

-- the fields of a node, where they are well formed
pub node-held : (t : Tables) (p : ℕ) (fs : List StoredField) → fields_in t fs ≡ fields_at t p → every (stored_in (view_in t).bytes) fs ≡ true → every good_field (fields_at t p) ≡ true → Held t fs
node-held t p fs is stored good =
    let F = (view_in t).functions in
    record {
      stored = stored;
      good = ap (every good_field) is ∙ good;
      numbers = subst (λ l. highest 0 (list_names (refs l)) < next_number (model_of t)) (sym (is ∙ ap (fields_of F) (sym (tree-at t p)))) (node-fields (model_of t) p);
    }

-- more places than are used
pub built-more : (t : Tables) (o p : Space) (n : ℕ) (e : Expr) (r : ℕ) (u : Tables) → AtMost o p → Built t o n e r u → Built t p n e r u
built-more t o p n e r u a b = record { present = b.present; tree = b.tree; grows = b.grows; numbers = b.numbers; spent = within_more _ _ _ _ b.spent a }

column-space : (f : Field) → AtMost (space 1 0 0 0 0) (tree_space (reference f))
unfolding tree_space entries_of
column-space f = record { exprs = omega arith; plans = omega arith; entries = omega arith; fields = omega arith; bytes = omega arith }

pub column-made : (t u : Tables) (f : Field) (r : Result ExprId Fault) → highest 0 (expr_names (reference f)) < next_number (model_of t) → Reused (model_of t) (reference f) r (model_of u) → BuiltBy t (tree_space (reference f)) 0 (reference f) r u
column-made t u f r low a = go r (reused-built t u (reference f) r low a)
  where
    go : (r : Result ExprId Fault) → BuiltBy t (space 1 0 0 0 0) 0 (reference f) r u → BuiltBy t (tree_space (reference f)) 0 (reference f) r u
    go (Ok r) b = built-more t _ _ 0 (reference f) r.0 u (column-space f) b
    go (Err d) b = (b.0, fits-no-more (model_of t).used _ _ (column-space f) b.1)

-- fields one by one
split-at : {X : Type 0} (xs : List X) (i : ℕ) (d : X) → i < length xs → (ys : List X) × (zs : List X) × (xs ≡ ys ++ get_or xs i d ∷ zs)
split-at [] i d lt = absurd (not-suc-le-zero lt)
split-at (x ∷ xs) zero d lt = ([], xs, refl)
split-at (x ∷ xs) (suc i) d lt = let h = split-at xs i d (omega arith) in (x ∷ h.0, h.1, ap (λ l. x ∷ l) h.2)

module _ (t : Tables) (fs : List StoredField) (before : List ExprId) (held : Held t fs) (u : Tables) (i : ℕ) (now : List ExprId) (p : Partly t (refs (fields_in t fs)) 0 before u (drop i (refs (fields_in t fs))) now) where
  as-many : length (refs (fields_in t fs)) ≡ length fs
  as-many = length-map (fields_in t fs) reference ∙ length-map fs (stored_field (view_in t).bytes)

  here : Held u fs
  here = held-stays t u fs p.onto.made.grows held

  module _ (lt : i < length fs) (d : StoredField) where
    abbrev f : StoredField
    f = get_or fs i d

    abbrev tree : Expr
    tree = reference (stored_field (view_in u).bytes f)

    abbrev later : List Expr
    later = drop (i + 1) (refs (fields_in t fs))

    pub stored-here : stored_in (view_in u).bytes f ≡ true
    stored-here = every-at (stored_in (view_in u).bytes) fs i d lt here.stored

    field-at : get_or (fields_in u fs) i (unqualified_field []) ≡ stored_field (view_in u).bytes f
    field-at = get_or-map (stored_field (view_in u).bytes) fs i d (unqualified_field []) lt

    among : i < length (fields_in u fs)
    among = omega (arith, lt, length-map fs (stored_field (view_in u).bytes))

    pub good-here : good_field (stored_field (view_in u).bytes f) ≡ true
    good-here = subst (λ x. good_field x ≡ true) field-at (every-at good_field (fields_in u fs) i (unqualified_field []) among here.good)

    number-here : highest 0 (expr_names tree) < next_number (model_of u)
    number-here =
        let s = split-at (fields_in u fs) i (unqualified_field []) among in
        subst (λ x. highest 0 (expr_names (reference x)) < next_number (model_of u)) field-at
        (one-of-fields (next_number (model_of u)) s.0 (get_or (fields_in u fs) i (unqualified_field [])) s.1 (subst (λ l. highest 0 (list_names (refs l)) < next_number (model_of u)) s.2 here.numbers))

    left-is : drop i (refs (fields_in t fs)) ≡ tree ∷ later
    left-is =
        ap (λ l. drop i (refs l)) (sym (fields-stay t u fs p.onto.made.grows held.stored).0) ∙ twice-step (λ l. l) reference (stored_field (view_in u).bytes) fs i d lt
        ∙ ap (λ l. tree ∷ drop (i + 1) (refs l)) (fields-stay t u fs p.onto.made.grows held.stored).0

    partly : Partly t (refs (fields_in t fs)) 0 before u ((tree ∷ []) ++ later) now
    partly = subst (λ l. Partly t (refs (fields_in t fs)) 0 before u l now) left-is p

    pub column-refused : (w : Tables) (g : Fault) → Reused (model_of u) tree (Err g) (model_of w) → NoRoom t (list_space (refs (fields_in t fs))) g
    column-refused w g a =
        let b = column-made u w (stored_field (view_in u).bytes f) (Err g) number-here a in
        partly-refused t (refs (fields_in t fs)) 0 before u now (tree ∷ []) later g partly (b.0, ap (fits (model_of u).used) (one-listed tree) ∙ b.1)

    pub column-turn : (w : Tables) (r : ExprId) (after : List ExprId) → Reused (model_of u) tree (Ok r) (model_of w) → after ≡ now ++ r ∷ [] → Partly t (refs (fields_in t fs)) 0 before w later after
    column-turn w r after a is =
        let b = column-made u w (stored_field (view_in u).bytes f) (Ok r) number-here a in
        let o : Onto u (tree ∷ []) 0 now after w = record { more = r ∷ []; is = is; made = made-one u w tree 0 0 r (omega arith) b } in
        partly-turn t (refs (fields_in t fs)) 0 before u now (tree ∷ []) later w 0 after (omega arith) partly o

    pub room-here : length before + length fs ≤ 64 → length now < 64
    room-here h =
        omega (arith, onto-long t u p.done 0 before now p.onto, ap length p.all, ap length partly.all, as-many, length-append p.done (drop i (refs (fields_in t fs))), ap length left-is)

  pub columns-end : length fs ≤ i → Onto t (refs (fields_in t fs)) 0 before now u
  columns-end le = partly-end t (refs (fields_in t fs)) 0 before u now (subst (λ l. Partly t (refs (fields_in t fs)) 0 before u l now) (twice-end (λ l. l) reference (stored_field (view_in t).bytes) fs i le) p)
