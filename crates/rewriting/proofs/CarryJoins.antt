-- A join over plans that carry columns carries them.
use Rattle.std.proofs.Common.{◌≡◌, ℕ, ◌+◌, ◌<◌, Bool, T, List, [], ◌++◌, length, get_or, sym, refl, ap, ◌∙◌, subst, append-nil, arith, length-append, get_or-append-add}
use lib.ListN.{get_or-append, length-map}
use mir.Facts.{and_yes}
use Rattle.std.proofs.ByRecursion.{All-append}
use Rattle.std.specs.List.{AllByRecursion}
use Rattle.plan.specs.Functions.{Functions, null_keeping}
use Rattle.plan.specs.Plans.{Plan, fields_of, shown, shows_left, shows_right}
use Rattle.plan.specs.Plans.Plan.{join}
use Rattle.plan.specs.Rendering.{unqualified_field}
use Rattle.plan.specs.Terms.{Expr, Exprs, Field}
use Rattle.plan.specs.Terms.Expr.{alias, call, literal, reference}
use Rattle.plan.specs.Terms.Exprs.{more, none}
use Rattle.plan.specs.Values.{null}
use Rattle.plan.specs.declared.code.JoinKind.{JoinKind}
use Rattle.plan.specs.declared.code.JoinKind.TheVariants.{Full, Inner, Left, LeftAnti, LeftSemi, Right, RightAnti, RightSemi}
use Rattle.rows.proofs.Finds.{covers-length, known-means}
use Rattle.rows.proofs.Joins.{get_or-nulls, pick-both, pick-nulls, shift, sides_at}
use Rattle.rows.proofs.Lists.{all_keep, all_two}
use Rattle.rows.proofs.Nulls.{keeps_null}
use Rattle.rows.proofs.Resolving.{any_place}
use Rattle.rows.proofs.Sides.{eval_left, eval_right}
use Rattle.rows.proofs.Wide.{Wide, all-lone, all-pairs, all-pairs_padded, nulls-wide, rows-wide}
use Rattle.rows.proofs.Words.{eval, rows}
use Rattle.rows.specs.Rows.{joined, lone, matches, may_mean, nulls, pairs, pairs_padded, rows_of, seek}
use Rattle.rows.specs.Standing.{Known, Knowns, Means, Stands, at, pads_left, pads_right, pick}
use Rattle.rows.specs.Worlds.{Fitting, Row}
use Rattle.rewriting.proofs.Carries.{Holds}
use Rattle.rewriting.proofs.Columns.{columns-mean}
use Rattle.rewriting.specs.Routing.{has_all_column_refs, have_all_column_refs, schema_columns}

pub pick-wide : (σ : List ℕ) (row : Row) → length (pick σ row) ≡ length σ
unfolding pick
pick-wide σ row = length-map σ (λ i. get_or row i null)

-- a reference that means one field of both lists, and may mean one of a side, means one of that side
means-left : (r : Field) (fl fr : List Field) (j : ℕ) → Means r (fl ++ fr) j → (i : ℕ) × (i < length fl) × T (may_mean r (at fl i)) → Means r fl j
means-left r fl fr j m a =
    let lt = a.1 in
    let long = length-append fl fr in
    let e : a.0 ≡ j = m.sole a.0 (omega arith) (rw (get_or-append fl fr (unqualified_field []) a.0 lt) a.2) in
    rw (← e) (record { inside = lt; meant = a.2; sole = only })
  where
    only : (i : ℕ) → i < length fl → T (may_mean r (at fl i)) → i ≡ a.0
    only i h k =
        let long = length-append fl fr in
        let lt = a.1 in
        let p = m.sole i (omega arith) (rw (get_or-append fl fr (unqualified_field []) i h) k) in
        let q = m.sole a.0 (omega arith) (rw (get_or-append fl fr (unqualified_field []) a.0 lt) a.2) in
        cc

means-right : (r : Field) (fl fr : List Field) (j : ℕ) → Means r (fl ++ fr) j → (a : (i : ℕ) × (i < length fr) × T (may_mean r (at fr i))) → Means r fr a.0
means-right r fl fr j m a = record { inside = a.1; meant = a.2; sole = only }
  where
    only : (i : ℕ) → i < length fr → T (may_mean r (at fr i)) → i ≡ a.0
    only i h k =
        let long = length-append fl fr in
        let lt = a.1 in
        let p = m.sole (length fl + i) (omega arith) (rw (get_or-append-add fl fr i (unqualified_field [])) k) in
        let q = m.sole (length fl + a.0) (omega arith) (rw (get_or-append-add fl fr a.0 (unqualified_field [])) a.2) in
        omega arith

mutual
  unfolding has_all_column_refs

  pub known-left : (fl fr : List Field) (e : Expr) → Known (fl ++ fr) e → T (has_all_column_refs (schema_columns fl) e) → Known fl e
  known-left fl fr (reference r) k h = known-means (means-left r fl fr (seek r (fl ++ fr)) k (any_place (may_mean r) fl (subst T (columns-mean r fl) h)))
  known-left fl fr (literal v) k h = tt
  known-left fl fr (alias e f) k h = known-left fl fr e k h
  known-left fl fr (call n es) k h = knowns-left fl fr es k h

  knowns-left : (fl fr : List Field) (es : Exprs) → Knowns (fl ++ fr) es → T (have_all_column_refs (schema_columns fl) es) → Knowns fl es
  knowns-left fl fr none k h = tt
  knowns-left fl fr (more e es) k h = let a = and_yes (has_all_column_refs (schema_columns fl) e) (have_all_column_refs (schema_columns fl) es) h in (known-left fl fr e k.0 a.0, knowns-left fl fr es k.1 a.1)

mutual
  unfolding has_all_column_refs

  pub known-right : (fl fr : List Field) (e : Expr) → Known (fl ++ fr) e → T (has_all_column_refs (schema_columns fr) e) → Known fr e
  known-right fl fr (reference r) k h = known-means (means-right r fl fr (seek r (fl ++ fr)) k (any_place (may_mean r) fr (subst T (columns-mean r fr) h)))
  known-right fl fr (literal v) k h = tt
  known-right fl fr (alias e f) k h = known-right fl fr e k h
  known-right fl fr (call n es) k h = knowns-right fl fr es k h

  knowns-right : (fl fr : List Field) (es : Exprs) → Knowns (fl ++ fr) es → T (have_all_column_refs (schema_columns fr) es) → Knowns fr es
  knowns-right fl fr none k h = tt
  knowns-right fl fr (more e es) k h = let a = and_yes (has_all_column_refs (schema_columns fr) e) (have_all_column_refs (schema_columns fr) es) h in (known-right fl fr e k.0 a.0, knowns-right fl fr es k.1 a.1)

module _ {F : Functions} where
  -- the value of the left column, in a joined row
  module _ (cs : List Expr) {RL RR PL PR : Plan} {σ τ : List ℕ} (sl : Stands F σ RL PL) (sr : Stands F τ RR PR) (x : Field) (e : Expr) where
    abbrev Fit : Fitting F → ℕ → List Field → List ℕ → Row → Type 0
    Fit W i fs ρ row = get_or row i null ≡ eval W fs (pick ρ row) e

    module _ (h : Holds F RL σ PL x e) (ke : Known (fields_of F PL) e) where
      left-fit : (W : Fitting F) → Known (fields_of F PL ++ fields_of F PR) e → (l r : Row) → Wide (length (fields_of F RL)) l × Fit W h.place (fields_of F PL) σ l
          → Fit W h.place (fields_of F PL ++ fields_of F PR) (σ ++ shift (length (fields_of F RL)) τ) (l ++ r)
      left-fit W kj l r o =
          let a : h.place < length l = rw o.0 h.inside in
          get_or-append l r null h.place a ∙ o.1
          ∙ sym (eval_left W (fields_of F PL) (fields_of F PR) (pick σ l) (pick τ r) e ke kj (pick-wide σ l ∙ covers-length (fields_of F RL) σ (fields_of F PL) sl.covers))
          ∙ ap (λ (s : Row). eval W (fields_of F PL ++ fields_of F PR) s e) (pick-both (fields_of F RL) (fields_of F RR) σ τ (fields_of F PL) (fields_of F PR) sl.covers sr.covers l r o.0)

      left-null : (W : Fitting F) → T (null_keeping F e) → Fit W h.place (fields_of F PL) σ (nulls (length (fields_of F RL)))
      left-null W k = get_or-nulls (length (fields_of F RL)) h.place ∙ sym (rw (pick-nulls σ (length (fields_of F RL))) (keeps_null W (fields_of F PL) (length σ) e k))

      both_left : (k : JoinKind) → fields_of F (join k cs RL RR) ≡ fields_of F RL ++ fields_of F RR → (ρ : List ℕ)
          → ((W : Fitting F) → AllByRecursion (Fit W h.place (fields_of F (join k cs PL PR)) ρ) (rows W (join k cs RL RR))) → Holds F (join k cs RL RR) ρ (join k cs PL PR) x e
      both_left k p ρ v =
          let long = length-append (fields_of F RL) (fields_of F RR) in
          let lt = h.inside in
          record { place = h.place; inside = rw p (omega arith); meant = rw (p, get_or-append (fields_of F RL) (fields_of F RR) (unqualified_field []) h.place lt) h.meant; value = v }

      pub holds-left : (k : JoinKind) → T (shows_left k) → (T (pads_left k) → T (null_keeping F e)) → Known (fields_of F (join k cs PL PR)) e
          → Holds F (join k cs RL RR) (sides_at k (length (fields_of F RL)) σ τ) (join k cs PL PR) x e
      unfolding rows_of joined pads_left
      holds-left k hk pads kj = go k hk pads kj
        where
          Ok : Fitting F → Row → Type 0
          Ok W l = Wide (length (fields_of F RL)) l × Fit W h.place (fields_of F PL) σ l

          m : Fitting F → Row → Row → Bool
          m W = matches W.world (fields_of F RL ++ fields_of F RR) cs

          oks : (W : Fitting F) → AllByRecursion (Ok W) (rows W RL)
          oks W = all_two (Wide (length (fields_of F RL))) (Fit W h.place (fields_of F PL) σ) (Ok W) (λ l p q. (p, q)) (rows W RL) (rows-wide W RL) (h.value W)

          Z : Fitting F → Row → Type 0
          Z W = Fit W h.place (fields_of F PL ++ fields_of F PR) (σ ++ shift (length (fields_of F RL)) τ)

          the_pairs : (W : Fitting F) → Known (fields_of F PL ++ fields_of F PR) e → AllByRecursion (Z W) (pairs (m W) (rows W RL) (rows W RR))
          the_pairs W j = all-pairs _ (Ok W) (Wide (length (fields_of F RR))) (m W) (rows W RL) (rows W RR) (oks W) (rows-wide W RR) (λ l r o w. left-fit W j l r o)

          the_padded : (W : Fitting F) → Known (fields_of F PL ++ fields_of F PR) e → AllByRecursion (Z W) (pairs_padded (m W) (length (fields_of F RR)) (rows W RL) (rows W RR))
          the_padded W j =
              all-pairs_padded _ (Ok W) (Wide (length (fields_of F RR))) (m W) (rows W RL) (rows W RR) (oks W) (rows-wide W RR) (length (fields_of F RR))
              (λ l r o w. left-fit W j l r o) (λ l o. left-fit W j l (nulls (length (fields_of F RR))) o)

          the_lone : (W : Fitting F) → Known (fields_of F PL ++ fields_of F PR) e → T (null_keeping F e) → AllByRecursion (Z W) (lone (m W) (length (fields_of F RL)) (rows W RL) (rows W RR))
          the_lone W j n =
              all-lone _ (Ok W) (Wide (length (fields_of F RR))) (m W) (rows W RL) (rows W RR) (oks W) (rows-wide W RR) (length (fields_of F RL))
              (λ r w. left-fit W j (nulls (length (fields_of F RL))) r (nulls-wide (length (fields_of F RL)), left-null W n))

          go : (k : JoinKind) → T (shows_left k) → (T (pads_left k) → T (null_keeping F e)) → Known (shown k (fields_of F PL) (fields_of F PR)) e
              → Holds F (join k cs RL RR) (sides_at k (length (fields_of F RL)) σ τ) (join k cs PL PR) x e
          go Inner h1 p j = both_left Inner refl _ (λ W. the_pairs W j)
          go Left h1 p j = both_left Left refl _ (λ W. the_padded W j)
          go Right h1 p j = both_left Right refl _ (λ W. All-append _ (pairs (m W) (rows W RL) (rows W RR)) _ (the_pairs W j) (the_lone W j (p tt)))
          go Full h1 p j = both_left Full refl _ (λ W. All-append _ (pairs_padded (m W) (length (fields_of F RR)) (rows W RL) (rows W RR)) _ (the_padded W j) (the_lone W j (p tt)))
          go LeftSemi h1 p j = record {
            place = h.place;
            inside = rw (append-nil (fields_of F RL)) h.inside;
            meant = rw (append-nil (fields_of F RL)) h.meant;
            value = λ W. rw (append-nil (fields_of F PL)) (all_keep _ _ (rows W RL) (h.value W));
          }
          go LeftAnti h1 p j = record {
            place = h.place;
            inside = rw (append-nil (fields_of F RL)) h.inside;
            meant = rw (append-nil (fields_of F RL)) h.meant;
            value = λ W. rw (append-nil (fields_of F PL)) (all_keep _ _ (rows W RL) (h.value W));
          }
          go RightSemi h1 p j = absurd h1
          go RightAnti h1 p j = absurd h1

    module _ (h : Holds F RR τ PR x e) (ke : Known (fields_of F PR) e) where
      right-fit : (W : Fitting F) → Known (fields_of F PL ++ fields_of F PR) e → (l r : Row) → Wide (length (fields_of F RL)) l → Wide (length (fields_of F RR)) r × Fit W h.place (fields_of F PR) τ r
          → Fit W (length (fields_of F RL) + h.place) (fields_of F PL ++ fields_of F PR) (σ ++ shift (length (fields_of F RL)) τ) (l ++ r)
      right-fit W kj l r w o =
          ap (λ (n : ℕ). get_or (l ++ r) (n + h.place) null) (sym w) ∙ get_or-append-add l r h.place null ∙ o.1
          ∙ sym (eval_right W (fields_of F PL) (fields_of F PR) (pick σ l) (pick τ r) e ke kj (pick-wide σ l ∙ covers-length (fields_of F RL) σ (fields_of F PL) sl.covers)
          (pick-wide τ r ∙ covers-length (fields_of F RR) τ (fields_of F PR) sr.covers))
          ∙ ap (λ (s : Row). eval W (fields_of F PL ++ fields_of F PR) s e) (pick-both (fields_of F RL) (fields_of F RR) σ τ (fields_of F PL) (fields_of F PR) sl.covers sr.covers l r w)

      right-null : (W : Fitting F) → T (null_keeping F e) → Fit W h.place (fields_of F PR) τ (nulls (length (fields_of F RR)))
      right-null W k = get_or-nulls (length (fields_of F RR)) h.place ∙ sym (rw (pick-nulls τ (length (fields_of F RR))) (keeps_null W (fields_of F PR) (length τ) e k))

      both_right : (k : JoinKind) → fields_of F (join k cs RL RR) ≡ fields_of F RL ++ fields_of F RR → (ρ : List ℕ)
          → ((W : Fitting F) → AllByRecursion (Fit W (length (fields_of F RL) + h.place) (fields_of F (join k cs PL PR)) ρ) (rows W (join k cs RL RR))) → Holds F (join k cs RL RR) ρ (join k cs PL PR) x e
      both_right k p ρ v =
          let long = length-append (fields_of F RL) (fields_of F RR) in
          let lt = h.inside in
          record { place = length (fields_of F RL) + h.place; inside = rw p (omega arith); meant = rw (p, get_or-append-add (fields_of F RL) (fields_of F RR) h.place (unqualified_field [])) h.meant; value = v }

      pub holds-right : (k : JoinKind) → T (shows_right k) → (T (pads_right k) → T (null_keeping F e)) → Known (fields_of F (join k cs PL PR)) e
          → Holds F (join k cs RL RR) (sides_at k (length (fields_of F RL)) σ τ) (join k cs PL PR) x e
      unfolding rows_of joined pads_right
      holds-right k hk pads kj = go k hk pads kj
        where
          Ok : Fitting F → Row → Type 0
          Ok W r = Wide (length (fields_of F RR)) r × Fit W h.place (fields_of F PR) τ r

          m : Fitting F → Row → Row → Bool
          m W = matches W.world (fields_of F RL ++ fields_of F RR) cs

          oks : (W : Fitting F) → AllByRecursion (Ok W) (rows W RR)
          oks W = all_two (Wide (length (fields_of F RR))) (Fit W h.place (fields_of F PR) τ) (Ok W) (λ l p q. (p, q)) (rows W RR) (rows-wide W RR) (h.value W)

          Z : Fitting F → Row → Type 0
          Z W = Fit W (length (fields_of F RL) + h.place) (fields_of F PL ++ fields_of F PR) (σ ++ shift (length (fields_of F RL)) τ)

          the_pairs : (W : Fitting F) → Known (fields_of F PL ++ fields_of F PR) e → AllByRecursion (Z W) (pairs (m W) (rows W RL) (rows W RR))
          the_pairs W j = all-pairs _ (Wide (length (fields_of F RL))) (Ok W) (m W) (rows W RL) (rows W RR) (rows-wide W RL) (oks W) (λ l r w o. right-fit W j l r w o)

          the_padded : (W : Fitting F) → Known (fields_of F PL ++ fields_of F PR) e → T (null_keeping F e) → AllByRecursion (Z W) (pairs_padded (m W) (length (fields_of F RR)) (rows W RL) (rows W RR))
          the_padded W j n =
              all-pairs_padded _ (Wide (length (fields_of F RL))) (Ok W) (m W) (rows W RL) (rows W RR) (rows-wide W RL) (oks W) (length (fields_of F RR))
              (λ l r w o. right-fit W j l r w o) (λ l w. right-fit W j l (nulls (length (fields_of F RR))) w (nulls-wide (length (fields_of F RR)), right-null W n))

          the_lone : (W : Fitting F) → Known (fields_of F PL ++ fields_of F PR) e → AllByRecursion (Z W) (lone (m W) (length (fields_of F RL)) (rows W RL) (rows W RR))
          the_lone W j =
              all-lone _ (Wide (length (fields_of F RL))) (Ok W) (m W) (rows W RL) (rows W RR) (rows-wide W RL) (oks W) (length (fields_of F RL))
              (λ r o. right-fit W j (nulls (length (fields_of F RL))) r (nulls-wide (length (fields_of F RL))) o)

          go : (k : JoinKind) → T (shows_right k) → (T (pads_right k) → T (null_keeping F e)) → Known (shown k (fields_of F PL) (fields_of F PR)) e
              → Holds F (join k cs RL RR) (sides_at k (length (fields_of F RL)) σ τ) (join k cs PL PR) x e
          go Inner h1 p j = both_right Inner refl _ (λ W. the_pairs W j)
          go Left h1 p j = both_right Left refl _ (λ W. the_padded W j (p tt))
          go Right h1 p j = both_right Right refl _ (λ W. All-append _ (pairs (m W) (rows W RL) (rows W RR)) _ (the_pairs W j) (the_lone W j))
          go Full h1 p j = both_right Full refl _ (λ W. All-append _ (pairs_padded (m W) (length (fields_of F RR)) (rows W RL) (rows W RR)) _ (the_padded W j (p tt)) (the_lone W j))
          go LeftSemi h1 p j = absurd h1
          go LeftAnti h1 p j = absurd h1
          go RightSemi h1 p j = record { place = h.place; inside = h.inside; meant = h.meant; value = λ W. all_keep _ _ (rows W RR) (h.value W) }
          go RightAnti h1 p j = record { place = h.place; inside = h.inside; meant = h.meant; value = λ W. all_keep _ _ (rows W RR) (h.value W) }
