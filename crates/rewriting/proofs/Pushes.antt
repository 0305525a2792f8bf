-- Push gives plans that stand for the projection: by induction on the plan below it.
use Rattle.std.proofs.Common.{◌≡◌, ℕ, suc, ◌<◌, Bool, true, false, cond, ◌&&◌, ◌||◌, T, List, [], ◌∷◌, ◌++◌, map, length, get_or, Some, None, Option, sym, refl, ap, ◌∙◌, subst, inl, inr, append-nil, arith}
use lib.ListN.{length-map}
use mir.Facts.{and_yes, yes_and}
use Rattle.std.proofs.ByRecursion.{All-get_or, All-map, All-weaker}
use Rattle.std.specs.List.{AllByRecursion}
use Rattle.plan.specs.Fields.{every}
use Rattle.plan.specs.Functions.{Functions, null_keeping}
use Rattle.plan.specs.Names.{Name}
use Rattle.plan.specs.Plans.{Plan, fields_of, qualified_by, shown, shows_left, shows_right}
use Rattle.plan.specs.Plans.Plan.{join, projection, subquery_alias}
use Rattle.plan.specs.Rendering.{unqualified_field}
use Rattle.plan.specs.Terms.{Expr, Exprs, Field, Qualifier}
use Rattle.plan.specs.Terms.Expr.{alias, call, literal, reference}
use Rattle.plan.specs.Terms.Exprs.{more, none}
use Rattle.plan.specs.Terms.Qualifier.{qualified}
use Rattle.plan.specs.Values.{null}
use Rattle.plan.specs.declared.code.JoinKind.{JoinKind}
use Rattle.plan.specs.declared.code.JoinKind.TheVariants.{Full, Inner, Left, LeftAnti, LeftSemi, Right, RightAnti, RightSemi}
use Rattle.plan.specs.declared.fault.Stage.TheVariants.{Extraction, Merge, Rebuilt}
use Rattle.rows.proofs.Finds.{mean-refl}
use Rattle.rows.proofs.Joins.{sides_at, stands-join}
use Rattle.rows.proofs.Lists.{all_any, all_of_map, all_two}
use Rattle.rows.proofs.More.{get_or-map-in, stands-subquery}
use Rattle.rows.proofs.Nulls.{or-either}
use Rattle.rows.proofs.Resolving.{any_at}
use Rattle.rows.proofs.Words.{eval, evals, rows}
use Rattle.rows.specs.Lists.{keep}
use Rattle.rows.specs.Rows.{may_mean, rows_of, seek, under, value_in}
use Rattle.rows.specs.Standing.{Good, Known, Knowns, Lawful, Passed, at, pads_left, pads_right, pick, refs}
use Rattle.rows.specs.Worlds.{Fitting, Row, applied}
use Rattle.rewriting.proofs.Carries.{Carries, Holds, carries-fresh, carries-merge, carries-none, carries-through}
use Rattle.rewriting.proofs.Columns.{columns-mean}
use Rattle.rewriting.proofs.CarryJoins.{holds-left, holds-right, known-left, known-right}
use Rattle.rewriting.proofs.Made.{every-all, good-lawful, join-known, keep-gives, made-gives, project-known, then-gives, when-gives, remade-gives}
use Rattle.rewriting.proofs.Splits.{Answer, Bears, IntoSound, keep-with, over-answers}
use Rattle.rewriting.specs.Extracting.{Outcome, and_then, built, freshly, made, merged, extraction_space, no_change, replace_cols_by_name, replace_cols_by_names}
use Rattle.rewriting.specs.Laws.{Gives}
use Rattle.rewriting.specs.Outlay.{Tally, charged}
use Rattle.rewriting.specs.Pushing.{ExtractionTarget, Into, Place, Work, anyway, has_pairs, into_join, into_one, into_projection, into_subquery_alias, is_one, is_pure_extraction_projection, is_two, or_keep, place_if, placed, rebuilt_over, remap, remap_pairs, routable, route_to_inputs, shows_aliases, side_allows, split_and_push, to_one, to_two, when_routed, worker}
use Rattle.rewriting.specs.Routing.{Pair, find_owning_input, has_all_column_refs, have_all_column_refs, owner_of, schema_columns, find_sole_input, Side}
use Rattle.rewriting.specs.Sample.{node}

pub record WorkSound (F : Functions) (P : Plan) (w : Work) : Type 0 where
  pub over : (es : List Expr) (level : ℕ) (n : Tally) → AllByRecursion (Known (fields_of F P)) es → Gives (λ R. Answer F R (projection es P)) (w.over es level n)
  pub place : (ps : List Pair) (cs : List Field) (level : ℕ) (n : Tally) → AllByRecursion (λ p. Known (fields_of F P) p.0) ps → Gives (λ R. Bears F R P ps) (w.place ps cs level n)

module _ {F : Functions} where
  -- an extraction projection Q over P or over its input, pushed further
  further : {P Q : Plan} (ps : List Pair) (o : Outcome) → Bears F Q P ps → Gives (λ R. Answer F R Q) o → Gives (λ R. Bears F R P ps) (or_keep Q o)
  further {P} {Q} ps o b h = keep-gives _ _ Q o h (λ R a. record { good = a.good; carries = carries-through a.stands b.carries }) b

module _ {F : Functions} where
  placed-bears : {P Q : Plan} (ps : List Pair) (over : Tally → Outcome) (n : Tally) → Bears F Q P ps → Gives (λ R. Answer F R Q) (over n) → Gives (λ R. Bears F R P ps) (placed F ps over Q n)
  unfolding placed
  placed-bears {P} {Q} ps over n b h = when-gives _ (shows_aliases F ps Q) n _ (further ps (over n) b h)

  -- a rebuilt node that shows the aliases
  pub rebuilt-gives : (Z : Plan → Type 0) (level : ℕ) (ps : List Pair) (p : Plan) (n : Tally) → (Passed F p → Z p) → Gives Z (rebuilt_over F level ps p n)
  unfolding rebuilt_over
  rebuilt-gives Z level ps p n f = then-gives Z Z _ _ (remade-gives Z F Rebuilt level p n f) (λ q m z. when-gives Z (shows_aliases F ps q) m (built q m) z)

pub worker-sound : (F : Functions) (P : Plan) → Good F P → (into : Into) → IntoSound F P into → WorkSound F P (worker F P into)
unfolding worker
worker-sound F P g into sound = record {
  over = λ es level n k. over-answers F P g into sound es level n k;
  place = λ ps cs level n k.
      let es = freshly (fields_of F P) ps in
      then-gives (λ q. Bears F (projection es P) P ps × AllByRecursion (Known (fields_of F P)) es × (q ≡ projection es P)) _ _ _
      (made-gives _ F Extraction level (projection es P) _ (λ a. (record { good = (a, g); carries = carries-fresh F P (good-lawful F P g) ps }, project-known es P a g, refl)))
      (λ q m h. rw h.2 (placed-bears ps _ m h.0 (over-answers F P g into sound es (suc level) m h.1)));
}

project-into : (F : Functions) (es : List Expr) (i : Plan) → Good F (projection es i) → (w : Work) → WorkSound F i w → IntoSound F (projection es i) (into_projection F es i w.over)
unfolding into_projection
project-into F es i g w s ps cs false level n k = tt
project-into F es i g w s ps cs true level n k =
    let ms = merged F i es ps cs in
    then-gives (λ q. Bears F (projection ms i) (projection es i) ps × AllByRecursion (Known (fields_of F i)) ms × (q ≡ projection ms i)) _ _ _
    (made-gives _ F Merge level (projection ms i) _ (λ a. (record { good = (a, g.1); carries = carries-merge es i ps cs k }, project-known ms i a g.1, refl)))
    (λ q m h. rw h.2 (go (is_pure_extraction_projection ms) m h.0 h.1))
  where
    go : (b : Bool) (m : Tally) → Bears F (projection (merged F i es ps cs) i) (projection es i) ps → AllByRecursion (Known (fields_of F i)) (merged F i es ps cs)
        → Gives (λ R. Bears F R (projection es i) ps) (cond b (or_keep (projection (merged F i es ps cs) i) (w.over (merged F i es ps cs) (suc level) m)) (built (projection (merged F i es ps cs) i) m))
    go true m b k = further ps _ b (s.over (merged F i es ps cs) (suc level) m k)
    go false m b k = b

pub project-sound : (F : Functions) (es : List Expr) (i : Plan) → Good F (projection es i) → (w : Work) → WorkSound F i w → WorkSound F (projection es i) (record {
  over = split_and_push F (projection es i) (into_projection F es i w.over);
  place = λ ps cs level n.
      and_then (made F Merge level (projection (merged F i es ps cs) i) (charged (extraction_space F (projection es i) ps cs) n)) (λ q m. placed F ps (w.over (merged F i es ps cs) (suc level)) q m);
})
project-sound F es i g w s = record {
  over = λ ds level n k. over-answers F (projection es i) g (into_projection F es i w.over) (project-into F es i g w s) ds level n k;
  place = λ ps cs level n k.
      let ms = merged F i es ps cs in
      then-gives (λ q. Bears F (projection ms i) (projection es i) ps × AllByRecursion (Known (fields_of F i)) ms × (q ≡ projection ms i)) _ _ _
      (made-gives _ F Merge level (projection ms i) _ (λ a. (record { good = (a, g.1); carries = carries-merge es i ps cs k }, project-known ms i a g.1, refl)))
      (λ q m h. rw h.2 (placed-bears ps _ m h.0 (s.over ms (suc level) m h.1)));
}

-- what one input owns is all of it
sole-owned : (b : Bool) → T (is_one (owner_of b false) || is_two (owner_of b false)) → T (is_one (owner_of b false))
unfolding is_one is_two owner_of
sole-owned true h = tt
sole-owned false h = h

keep-every : (f : Pair → Bool) (ps : List Pair) → AllByRecursion (λ p. T (f p)) ps → keep f ps ≡ ps
unfolding keep
keep-every f [] h = refl
keep-every f (p ∷ ps) h = go (f p) h.0 (keep-every f ps h.1)
  where
    go : (b : Bool) → T b → keep f ps ≡ ps → cond b (p ∷ keep f ps) (keep f ps) ≡ p ∷ ps
    go true t e = ap (λ (l : List Pair). p ∷ l) e
    go false t e = absurd t

module _ (cols : List Field) (ps : List Pair) (cs : List Field) where
  abbrev own : Expr → Option Side
  own = find_sole_input cols

  all-to-one : T (routable own ps cs) → (to_one own ps cs).pairs ≡ ps
  unfolding routable to_one find_sole_input
  all-to-one t =
      keep-every (λ p. is_one (own p.0)) ps (All-weaker _ _ (λ p h. sole-owned (has_all_column_refs cols p.0) h) ps
      (every-all (λ p. is_one (own p.0) || is_two (own p.0)) ps (and_yes (every (λ p. is_one (own p.0) || is_two (own p.0)) ps) _ t).0))

-- one input of the same fields, or of others
pub one-sound : (F : Functions) (node : Plan → Plan) (i P : Plan) (place : Place) (qs : List Pair)
    → ((ps : List Pair) (cs : List Field) (level : ℕ) (n : Tally) → AllByRecursion (λ p. Known (fields_of F i) p.0) ps → Gives (λ R. Bears F R i ps) (place ps cs level n))
    → (ps : List Pair) → AllByRecursion (λ p. Known (fields_of F i) p.0) ps → ((R : Plan) → Bears F R i ps → Passed F (node R) → Bears F (node R) P qs)
    → (cs : List Field) (level : ℕ) (n : Tally) → Gives (λ R. Bears F R P qs) (into_one F node i place ps cs level n)
unfolding into_one route_to_inputs when_routed
one-sound F node i P place qs s ps k f cs level n = go _ (λ t. t)
  where
    cols : List Field
    cols = schema_columns (fields_of F i)

    tell : Bool
    tell = routable (find_sole_input cols) ps cs && (has_pairs (to_one (find_sole_input cols) ps cs).pairs || has_pairs (to_two (find_sole_input cols) ps cs).pairs)

    go : (b : Bool) → (T b → T tell) → Gives (λ R. Bears F R P qs) (when_routed (cond b (Some (to_one (find_sole_input cols) ps cs, to_two (find_sole_input cols) ps cs)) None) n
        (λ t u. and_then (place t.pairs t.columns level n) (λ r m. rebuilt_over F level ps (node r) m)))
    go true h =
        let e = all-to-one cols ps cs (and_yes (routable (find_sole_input cols) ps cs) _ (h tt)).0 in
        then-gives (λ R. Bears F R i ps) _ _ _ (subst (λ (l : List Pair). Gives (λ R. Bears F R i l) (place (to_one (find_sole_input cols) ps cs).pairs (to_one (find_sole_input cols) ps cs).columns level n)) e (s _ _ level n (subst (λ (l : List Pair). AllByRecursion (λ p. Known (fields_of F i) p.0) l) (sym e) k)))
        (λ R m b. rebuilt-gives _ level ps (node R) m (λ x. f R b x))
    go false h = tt

pub one-into : (F : Functions) (node : Plan → Plan) (i : Plan) (w : Work) → fields_of F (node i) ≡ fields_of F i → WorkSound F i w
    → ((R : Plan) (ps : List Pair) → Bears F R i ps → Passed F (node R) → Bears F (node R) (node i) ps) → IntoSound F (node i) (anyway (into_one F node i w.place))
one-into F node i w p s f ps cs whole level n k =
    one-sound F node i (node i) w.place ps s.place ps (subst (λ (fs : List Field). AllByRecursion (λ p. Known fs p.0) ps) p k) (λ R b x. f R ps b x) cs level n

module _ {F : Functions} where
  -- fields by place, under a renaming
  module _ (W : Fitting F) (from to : List Field) (long : length from ≡ length to) (lawful : Lawful to) (row : Row) where
    mutual
      unfolding value_in replace_cols_by_name

      replace-rename : (e : Expr) → Known from e → eval W from row e ≡ eval W to row (replace_cols_by_name (from, refs to) e)
      replace-rename (reference r) k =
          let i = seek r from in
          let lt = k.inside in
          let h : i < length to = omega arith in
          ap (λ (j : ℕ). get_or row j null) ((All-get_or (λ f. Known to (reference f)) to i (unqualified_field []) h lawful).sole i h (mean-refl (at to i)))
          ∙ sym (ap (eval W to row) (get_or-map-in reference to i (reference r) (unqualified_field []) h))
      replace-rename (literal v) k = refl
      replace-rename (alias e f) k = replace-rename e k
      replace-rename (call n es) k = ap (applied W.world n) (replaces-rename es k)

      replaces-rename : (es : Exprs) → Knowns from es → evals W from row es ≡ evals W to row (replace_cols_by_names (from, refs to) es)
      replaces-rename none k = refl
      replaces-rename (more e es) k = let p = replace-rename e k.0 in let q = replaces-rename es k.1 in cc

    pub rename-eval : (e : Expr) → Known from e → eval W from row e ≡ eval W to row (remap from to e)
    unfolding remap
    rename-eval e k = replace-rename e k

-- what is known is so under the renaming
module _ (from to : List Field) (long : length from ≡ length to) (lawful : Lawful to) where
  mutual
    unfolding replace_cols_by_name

    replace-known : (e : Expr) → Known from e → Known to (replace_cols_by_name (from, refs to) e)
    replace-known (reference r) k =
        let i = seek r from in
        let lt = k.inside in
        let h : i < length to = omega arith in
        subst (Known to) (sym (get_or-map-in reference to i (reference r) (unqualified_field []) h)) (All-get_or (λ f. Known to (reference f)) to i (unqualified_field []) h lawful)
    replace-known (literal v) k = tt
    replace-known (alias e f) k = replace-known e k
    replace-known (call n es) k = replaces-known es k

    replaces-known : (es : Exprs) → Knowns from es → Knowns to (replace_cols_by_names (from, refs to) es)
    replaces-known none k = tt
    replaces-known (more e es) k = (replace-known e k.0, replaces-known es k.1)

  pub remapped-known : (ps : List Pair) → AllByRecursion (λ p. Known from p.0) ps → AllByRecursion (λ p. Known to p.0) (remap_pairs from to ps)
  unfolding remap remap_pairs
  remapped-known ps k = All-map (λ p. Known to p.0) _ _ (All-weaker _ _ (λ p h. replace-known p.0 h) ps k)

-- a name that may mean a field may mean it under another qualifier
pub name-means : (x : Name) (q : Qualifier) (g : Field) → T (may_mean (unqualified_field x) g) → T (may_mean (unqualified_field x) (record { qualifier = q; name = g.name }))
unfolding may_mean under
name-means x q g h = h

module _ {F : Functions} where
  module _ (s : Name) (i : Plan) (g : Good F i) (R : Plan) (ps : List Pair) where
    carries-subquery : AllByRecursion (λ p. Known (fields_of F (subquery_alias s i)) p.0) ps → Carries F R i (remap_pairs (fields_of F (subquery_alias s i)) (fields_of F i) ps) → Carries F (subquery_alias s R) (subquery_alias s i) ps
    unfolding remap_pairs rows_of
    carries-subquery k c = record {
      σ = c.σ;
      stands = stands-subquery c.stands s;
      holds = all_two _ _ _ hold ps k (all_of_map _ _ ps c.holds);
    }
      where
        from : List Field
        from = map (qualified_by s) (fields_of F i)

        hold : (p : Pair) → Known from p.0 → Holds F R c.σ i (unqualified_field p.1) (remap from (fields_of F i) p.0) → Holds F (subquery_alias s R) c.σ (subquery_alias s i) (unqualified_field p.1) p.0
        hold p kp h = record {
          place = h.place;
          inside = rw (length-map {B = Field} (fields_of F R) (qualified_by s)) h.inside;
          meant = rw (get_or-map-in {B = Field} (qualified_by s) (fields_of F R) h.place (unqualified_field []) (unqualified_field []) h.inside) (name-means p.1 (qualified s) (at (fields_of F R) h.place) h.meant);
          value = λ W. All-weaker _ _
              (λ row v. v ∙ sym (rename-eval W from (fields_of F i) (length-map {B = Field} (fields_of F i) (qualified_by s)) (good-lawful F i g) (pick c.σ row) p.0 kp))
              (rows W R) (h.value W);
        }

pub subquery-into : (F : Functions) (s : Name) (i : Plan) → Good F i → (w : Work) → WorkSound F i w → IntoSound F (subquery_alias s i) (anyway (into_subquery_alias F s i w.place))
unfolding into_subquery_alias
subquery-into F s i g w t ps cs whole level n k =
    one-sound F (subquery_alias s) i (subquery_alias s i) w.place ps t.place _
    (remapped-known (fields_of F (subquery_alias s i)) (fields_of F i) (length-map {B = Field} (fields_of F i) (qualified_by s)) (good-lawful F i g) ps k) (λ R b x. record {
      good = (x, b.good);
      carries = carries-subquery s i g R ps k b.carries;
    }) _ level _

-- the tests of a join
abbrev Allowed : Functions → Bool → Pair → Type 0
Allowed F padded p = T padded → T (null_keeping F p.0)

side-allows : (F : Functions) (padded : Bool) (ps : List Pair) → T (side_allows F padded ps) → AllByRecursion (Allowed F padded) ps
unfolding side_allows
side-allows F true ps h = All-weaker _ _ (λ p k t. k) ps (every-all (λ p. null_keeping F p.0) ps h)
side-allows F false ps h = all_any _ ps (λ p t. absurd t)

-- a side that owns what the join shows is shown
mutual
  unfolding has_all_column_refs

  known_owned : (fs : List Field) (e : Expr) → Known fs e → T (has_all_column_refs (schema_columns fs) e)
  known_owned fs (reference r) k = subst T (sym (columns-mean r fs)) (any_at (may_mean r) fs (seek r fs) k.inside k.meant)
  known_owned fs (literal v) k = tt
  known_owned fs (alias e f) k = known_owned fs e k
  known_owned fs (call n es) k = knowns-owned fs es k

  knowns-owned : (fs : List Field) (es : Exprs) → Knowns fs es → T (have_all_column_refs (schema_columns fs) es)
  knowns-owned fs none k = tt
  knowns-owned fs (more e es) k = yes_and (has_all_column_refs (schema_columns fs) e) (have_all_column_refs (schema_columns fs) es) (known_owned fs e k.0) (knowns-owned fs es k.1)

not-one : (a b : Bool) → T b → T (is_one (owner_of a b)) → ⊥
unfolding is_one owner_of
not-one true true t h = h
not-one true false t h = t
not-one false true t h = h
not-one false false t h = t

not-two : (a b : Bool) → T a → T (is_two (owner_of a b)) → ⊥
unfolding is_two owner_of
not-two true true t h = h
not-two true false t h = h
not-two false b t h = t

left-shows : (k : JoinKind) (fl fr : List Field) (e : Expr) → Known (shown k fl fr) e → T (is_one (owner_of (has_all_column_refs (schema_columns fl) e) (has_all_column_refs (schema_columns fr) e))) → T (shows_left k)
left-shows Inner fl fr e k h = tt
left-shows Left fl fr e k h = tt
left-shows Right fl fr e k h = tt
left-shows Full fl fr e k h = tt
left-shows LeftSemi fl fr e k h = tt
left-shows LeftAnti fl fr e k h = tt
left-shows RightSemi fl fr e k h = not-one (has_all_column_refs (schema_columns fl) e) (has_all_column_refs (schema_columns fr) e) (known_owned fr e k) h
left-shows RightAnti fl fr e k h = not-one (has_all_column_refs (schema_columns fl) e) (has_all_column_refs (schema_columns fr) e) (known_owned fr e k) h

right-shows : (k : JoinKind) (fl fr : List Field) (e : Expr) → Known (shown k fl fr) e → T (is_two (owner_of (has_all_column_refs (schema_columns fl) e) (has_all_column_refs (schema_columns fr) e))) → T (shows_right k)
right-shows Inner fl fr e k h = tt
right-shows Left fl fr e k h = tt
right-shows Right fl fr e k h = tt
right-shows Full fl fr e k h = tt
right-shows LeftSemi fl fr e k h = not-two (has_all_column_refs (schema_columns fl) e) (has_all_column_refs (schema_columns fr) e) (known_owned fl e (rw (append-nil fl) at k)) h
right-shows LeftAnti fl fr e k h = not-two (has_all_column_refs (schema_columns fl) e) (has_all_column_refs (schema_columns fr) e) (known_owned fl e (rw (append-nil fl) at k)) h
right-shows RightSemi fl fr e k h = tt
right-shows RightAnti fl fr e k h = tt

keep-back : {A : Type 0} (Q : A → Type 0) (f : A → Bool) (xs : List A) → AllByRecursion Q (keep f xs) → AllByRecursion (λ x. T (f x) → Q x) xs
unfolding keep
keep-back Q f [] h = tt
keep-back Q f (x ∷ xs) h = go (f x) h (λ k. keep-back Q f xs k)
  where
    go : (b : Bool) → AllByRecursion Q (cond b (x ∷ keep f xs) (keep f xs)) → (AllByRecursion Q (keep f xs) → AllByRecursion (λ x. T (f x) → Q x) xs) → (T b → Q x) × AllByRecursion (λ x. T (f x) → Q x) xs
    go true h k = (λ t. h.0, k h.1)
    go false h k = (λ t. absurd t, k h)

owner-one : (a b : Bool) → T (is_one (owner_of a b)) → T a
unfolding is_one owner_of
owner-one true b h = tt
owner-one false true h = h
owner-one false false h = h

owner-two : (a b : Bool) → T (is_two (owner_of a b)) → T b
unfolding is_two owner_of
owner-two true true h = tt
owner-two true false h = h
owner-two false true h = tt
owner-two false false h = h

shown-left : (k : JoinKind) (fl fr : List Field) (e : Expr) → T (shows_left k) → Known (shown k fl fr) e → T (has_all_column_refs (schema_columns fl) e) → Known fl e
shown-left Inner fl fr e h k o = known-left fl fr e k o
shown-left Left fl fr e h k o = known-left fl fr e k o
shown-left Right fl fr e h k o = known-left fl fr e k o
shown-left Full fl fr e h k o = known-left fl fr e k o
shown-left LeftSemi fl fr e h k o = rw (append-nil fl) at k
shown-left LeftAnti fl fr e h k o = rw (append-nil fl) at k
shown-left RightSemi fl fr e h k o = absurd h
shown-left RightAnti fl fr e h k o = absurd h

shown-right : (k : JoinKind) (fl fr : List Field) (e : Expr) → T (shows_right k) → Known (shown k fl fr) e → T (has_all_column_refs (schema_columns fr) e) → Known fr e
shown-right Inner fl fr e h k o = known-right fl fr e k o
shown-right Left fl fr e h k o = known-right fl fr e k o
shown-right Right fl fr e h k o = known-right fl fr e k o
shown-right Full fl fr e h k o = known-right fl fr e k o
shown-right LeftSemi fl fr e h k o = absurd h
shown-right LeftAnti fl fr e h k o = absurd h
shown-right RightSemi fl fr e h k o = k
shown-right RightAnti fl fr e h k o = k

module _ {F : Functions} where
  place-if : (i : Plan) (w : Work) → Good F i → WorkSound F i w → (ps : List Pair) (cs : List Field) (level : ℕ) (n : Tally) → AllByRecursion (λ p. Known (fields_of F i) p.0) ps → Gives (λ R. Bears F R i ps) (place_if w.place i ps cs level n)
  unfolding place_if
  place-if i w g s [] cs level n k = record { good = g; carries = carries-none i }
  place-if i w g s (d ∷ ds) cs level n k = s.place (d ∷ ds) cs level n k

-- each side knows what goes to it
module _ (F : Functions) (k : JoinKind) (es : List Expr) (l r : Plan) (ps : List Pair) (kp : AllByRecursion (λ p. Known (fields_of F (join k es l r)) p.0) ps) where
  knows-left : AllByRecursion (λ p. Known (fields_of F l) p.0) (keep (λ p. is_one (find_owning_input (schema_columns (fields_of F l)) (schema_columns (fields_of F r)) p.0)) ps)
  unfolding find_owning_input
  knows-left =
      keep-with (λ p. Known (shown k (fields_of F l) (fields_of F r)) p.0) (λ p. Known (fields_of F l) p.0) _ (λ p kk t.
      shown-left k (fields_of F l) (fields_of F r) p.0 (left-shows k (fields_of F l) (fields_of F r) p.0 kk t) kk (owner-one (has_all_column_refs (schema_columns (fields_of F l)) p.0) (has_all_column_refs (schema_columns (fields_of F r)) p.0) t)) ps kp

  knows-right : AllByRecursion (λ p. Known (fields_of F r) p.0) (keep (λ p. is_two (find_owning_input (schema_columns (fields_of F l)) (schema_columns (fields_of F r)) p.0)) ps)
  unfolding find_owning_input
  knows-right =
      keep-with (λ p. Known (shown k (fields_of F l) (fields_of F r)) p.0) (λ p. Known (fields_of F r) p.0) _ (λ p kk t.
      shown-right k (fields_of F l) (fields_of F r) p.0 (right-shows k (fields_of F l) (fields_of F r) p.0 kk t) kk (owner-two (has_all_column_refs (schema_columns (fields_of F l)) p.0) (has_all_column_refs (schema_columns (fields_of F r)) p.0) t)) ps kp

module _ (F : Functions) (k : JoinKind) (es : List Expr) (l r x y : Plan) (ps : List Pair) where
  abbrev goes_left : Pair → Bool
  goes_left p = is_one (find_owning_input (schema_columns (fields_of F l)) (schema_columns (fields_of F r)) p.0)

  abbrev goes_right : Pair → Bool
  goes_right p = is_two (find_owning_input (schema_columns (fields_of F l)) (schema_columns (fields_of F r)) p.0)

  carries-join : AllByRecursion (λ p. Known (fields_of F (join k es l r)) p.0) ps → AllByRecursion (λ p. T (goes_left p || goes_right p)) ps
      → AllByRecursion (Allowed F (pads_left k)) (keep goes_left ps) → AllByRecursion (Allowed F (pads_right k)) (keep goes_right ps)
      → AllByRecursion (Known (fields_of F l ++ fields_of F r)) es → AllByRecursion (Known (fields_of F x ++ fields_of F y)) es
      → Carries F x l (keep goes_left ps) → Carries F y r (keep goes_right ps) → Carries F (join k es x y) (join k es l r) ps
  unfolding find_owning_input
  carries-join kp routed al ar ko kn cl cr = record {
    σ = sides_at k (length (fields_of F x)) cl.σ cr.σ;
    stands = stands-join cl.stands cr.stands k es ko kn;
    holds = all_two Asked Found _ hold ps (all_two _ _ Asked (λ p a b. (a, b)) ps kp routed)
        (all_two _ _ Found (λ p a b. (a, b)) ps
        (keep-back OnLeft goes_left ps (all_two _ _ OnLeft (λ p a b. (a, b)) (keep goes_left ps) al cl.holds))
        (keep-back OnRight goes_right ps (all_two _ _ OnRight (λ p a b. (a, b)) (keep goes_right ps) ar cr.holds)));
  }
    where
      Asked : Pair → Type 0
      Asked p = Known (shown k (fields_of F l) (fields_of F r)) p.0 × T (goes_left p || goes_right p)

      OnLeft : Pair → Type 0
      OnLeft p = Allowed F (pads_left k) p × Holds F x cl.σ l (unqualified_field p.1) p.0

      OnRight : Pair → Type 0
      OnRight p = Allowed F (pads_right k) p × Holds F y cr.σ r (unqualified_field p.1) p.0

      Found : Pair → Type 0
      Found p = (T (goes_left p) → OnLeft p) × (T (goes_right p) → OnRight p)

      lefty : (p : Pair) → Known (shown k (fields_of F l) (fields_of F r)) p.0 → T (goes_left p) → Allowed F (pads_left k) p × Holds F x cl.σ l (unqualified_field p.1) p.0
          → Holds F (join k es x y) (sides_at k (length (fields_of F x)) cl.σ cr.σ) (join k es l r) (unqualified_field p.1) p.0
      lefty p kk t a =
          holds-left es cl.stands cr.stands (unqualified_field p.1) p.0 a.1
          (shown-left k (fields_of F l) (fields_of F r) p.0 (left-shows k (fields_of F l) (fields_of F r) p.0 kk t) kk (owner-one (has_all_column_refs (schema_columns (fields_of F l)) p.0) (has_all_column_refs (schema_columns (fields_of F r)) p.0) t))
          k (left-shows k (fields_of F l) (fields_of F r) p.0 kk t) a.0 kk

      righty : (p : Pair) → Known (shown k (fields_of F l) (fields_of F r)) p.0 → T (goes_right p) → Allowed F (pads_right k) p × Holds F y cr.σ r (unqualified_field p.1) p.0
          → Holds F (join k es x y) (sides_at k (length (fields_of F x)) cl.σ cr.σ) (join k es l r) (unqualified_field p.1) p.0
      righty p kk t a =
          holds-right es cl.stands cr.stands (unqualified_field p.1) p.0 a.1
          (shown-right k (fields_of F l) (fields_of F r) p.0 (right-shows k (fields_of F l) (fields_of F r) p.0 kk t) kk (owner-two (has_all_column_refs (schema_columns (fields_of F l)) p.0) (has_all_column_refs (schema_columns (fields_of F r)) p.0) t))
          k (right-shows k (fields_of F l) (fields_of F r) p.0 kk t) a.0 kk

      hold : (p : Pair) → Asked p → Found p → Holds F (join k es x y) (sides_at k (length (fields_of F x)) cl.σ cr.σ) (join k es l r) (unqualified_field p.1) p.0
      hold p a b = elim (or-either (goes_left p) (goes_right p) a.1) [ inl t ↦ lefty p a.0 t (b.0 t) | inr t ↦ righty p a.0 t (b.1 t) ]

pub join-into : (F : Functions) (k : JoinKind) (es : List Expr) (l r : Plan) → Good F (join k es l r) → (wl wr : Work) → WorkSound F l wl → WorkSound F r wr
    → IntoSound F (join k es l r) (anyway (into_join F k es l r wl.place wr.place))
unfolding into_join route_to_inputs when_routed routable to_one to_two
join-into F k es l r g wl wr sl sr ps cs whole level n kp = go _ (λ t. t)
  where
    owned : Expr → Option Side
    owned = find_owning_input (schema_columns (fields_of F l)) (schema_columns (fields_of F r))

    tl : ExtractionTarget
    tl = to_one owned ps cs

    tr : ExtractionTarget
    tr = to_two owned ps cs

    tell : Bool
    tell = routable owned ps cs && (has_pairs tl.pairs || has_pairs tr.pairs)

    build : Outcome
    build = and_then (place_if wl.place l tl.pairs tl.columns level n) (λ x m. and_then (place_if wr.place r tr.pairs tr.columns level m) (λ y o. rebuilt_over F level ps (join k es x y) o))

    sides : (b : Bool) → (T b → T (side_allows F (pads_left k) tl.pairs && side_allows F (pads_right k) tr.pairs)) → T (routable owned ps cs) → Gives (λ R. Bears F R (join k es l r) ps) (cond b build (no_change n))
    sides true f t =
        let a = and_yes (side_allows F (pads_left k) tl.pairs) (side_allows F (pads_right k) tr.pairs) (f tt) in
        let c = and_yes (every (λ p. is_one (owned p.0) || is_two (owned p.0)) ps) _ t in
        then-gives _ _ _ _ (place-if l wl g.1 sl tl.pairs _ level n (knows-left F k es l r ps kp)) (λ x m bx.
        then-gives _ _ _ _ (place-if r wr g.2 sr tr.pairs _ level m (knows-right F k es l r ps kp)) (λ y o by.
        rebuilt-gives _ level ps (join k es x y) o (λ s. record {
          good = (s, bx.good, by.good);
          carries = carries-join F k es l r x y ps kp (every-all (λ p. is_one (owned p.0) || is_two (owned p.0)) ps c.0) (side-allows F (pads_left k) tl.pairs a.0) (side-allows F (pads_right k) tr.pairs a.1)
              (join-known k es l r g.0) (join-known k es x y s) bx.carries by.carries;
        })))
    sides false f t = tt

    go : (b : Bool) → (T b → T tell) → Gives (λ R. Bears F R (join k es l r) ps) (when_routed (cond b (Some (tl, tr)) None) n (λ t u.
        cond (side_allows F (pads_left k) t.pairs && side_allows F (pads_right k) u.pairs)
        (and_then (place_if wl.place l t.pairs t.columns level n) (λ x m. and_then (place_if wr.place r u.pairs u.columns level m) (λ y o. rebuilt_over F level ps (join k es x y) o))) (no_change n)))
    go true f = sides _ (λ t. t) (and_yes (routable owned ps cs) _ (f tt)).0
    go false f = tt
