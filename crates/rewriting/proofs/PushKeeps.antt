-- Push keeps fields and rows.
use Rattle.std.proofs.Common.{◌≡◌, ℕ, Bool, true, false, cond, eqb, T, List, map, length, sym, refl, ◌∙◌, eqb→eq}
use lib.ListN.{length-map}
use mir.Facts.{and_yes}
use Rattle.std.proofs.ByRecursion.{All-weaker}
use Rattle.std.specs.List.{AllByRecursion}
use Rattle.plan.specs.Functions.{Functions}
use Rattle.plan.specs.Plans.{Plan, Plans, fields_of, without_qualifier}
use Rattle.plan.specs.Plans.Plan.{aggregate, filter, join, limit, projection, sort, subquery_alias, table, union}
use Rattle.plan.specs.Plans.Plans.{also, done}
use Rattle.plan.specs.Terms.{Field}
use Rattle.plan.specs.declared.fault.Stage.TheVariants.{Closing}
use Rattle.rows.proofs.Closure.{recover, recovery}
use Rattle.rows.proofs.Extract.{own_row}
use Rattle.rows.proofs.Lists.{map_same}
use Rattle.rows.proofs.Wide.{rows-wide}
use Rattle.rows.proofs.Words.{rows}
use Rattle.rows.specs.Standing.{Good, Goods, Known, Lawful, Same, Stands, pick, refs, wide_all}
use Rattle.rewriting.proofs.Carries.{carries-filter, carries-limit, carries-sort}
use Rattle.rewriting.proofs.Equals.{fields-eq}
use Rattle.rewriting.proofs.Made.{filter-known, good-lawful, of_refs, project-known, remade-gives, sort-known, then-gives, when-gives}
use Rattle.rewriting.proofs.Pushes.{WorkSound, join-into, one-into, project-sound, remapped-known, subquery-into, worker-sound}
use Rattle.rewriting.proofs.Splits.{Answer, Bears, IntoSound}
use Rattle.rewriting.proofs.Unions.{BearsAll, union-united}
use Rattle.rewriting.specs.Extracting.{Outcome, built, same_fields, remade}
use Rattle.rewriting.specs.Laws.{Gives}
use Rattle.rewriting.specs.Outlay.{Tally}
use Rattle.rewriting.specs.Pushing.{IntoAll, Work, closed, into_union, not_tried, push, remap_columns, remap_pairs, work, works, anyway, has_pairs}
use Rattle.rewriting.specs.Routing.{Pair}

not-tried : (F : Functions) (P : Plan) → IntoSound F P (anyway not_tried)
unfolding not_tried
not-tried F P ps cs whole level n k = tt

abbrev WorksSound : Functions → Plans → IntoAll → Type 0
WorksSound F is ws = (from : List Field) (ps : List Pair) (cs : List Field) (level : ℕ) (n : Tally) (k : Plans → Tally → Outcome) (Q : Plan) (qs : List Pair) → AllByRecursion (λ p. Known from p.0) ps → T (wide_all F (length from) is)
    → ((rs : Plans) (o : Tally) → BearsAll F from ps is rs → Gives (λ R. Bears F R Q qs) (k rs o)) → Gives (λ R. Bears F R Q qs) (ws from ps cs level n k)

union-into : (F : Functions) (i : Plan) (is : Plans) → Good F (union i is) → (w : Work) (ws : IntoAll) → WorkSound F i w → WorksSound F is ws → IntoSound F (union i is) (anyway (into_union F i is w.place ws))
unfolding into_union
union-into F i is g w ws s ss ps cs whole level n k =
    when-gives _ (has_pairs ps) n _ (then-gives _ _ _ _ (s.place _ _ level _ (remapped-known from (fields_of F i) long (good-lawful F i g.1) ps k)) (λ r m b.
    ss from ps cs level m _ (union i is) ps k (rw long g.3) (λ rs o bs. union-united F level ps i is r rs o g k b bs)))
  where
    from : List Field
    from = map without_qualifier (fields_of F i)

    long : length from ≡ length (fields_of F i)
    long = length-map {B = Field} (fields_of F i) without_qualifier

all_wide : (F : Functions) (n : ℕ) (i : Plan) (is : Plans) → T (wide_all F n (also i is)) → (n ≡ length (fields_of F i)) × T (wide_all F n is)
unfolding wide_all
all_wide F n i is w = let v = and_yes (eqb (length (fields_of F i)) n) (wide_all F n is) w in (sym (eqb→eq (length (fields_of F i)) n v.0), v.1)

mutual
  unfolding work

  work-sound : (F : Functions) (P : Plan) → Good F P → WorkSound F P (work F P)
  work-sound F (table k q ns) g = worker-sound F (table k q ns) g (anyway not_tried) (not-tried F _)
  work-sound F (projection es i) g = project-sound F es i g (work F i) (work-sound F i g.1)
  work-sound F (filter e i) g =
      worker-sound F (filter e i) g _ (one-into F (filter e) i (work F i) refl (work-sound F i g.1) (λ R ps b x. record {
        good = (x, b.good);
        carries = carries-filter b.carries e (filter-known e i g.0) (filter-known e R x);
      }))
  work-sound F (sort ks i) g =
      worker-sound F (sort ks i) g _ (one-into F (sort ks) i (work F i) refl (work-sound F i g.1) (λ R ps b x. record {
        good = (x, b.good);
        carries = carries-sort b.carries ks (sort-known ks i g.0) (sort-known ks R x);
      }))
  work-sound F (limit s c i) g =
      worker-sound F (limit s c i) g _ (one-into F (limit s c) i (work F i) refl (work-sound F i g.1) (λ R ps b x. record {
        good = (x, b.good);
        carries = carries-limit b.carries s c;
      }))
  work-sound F (join k es l r) g = worker-sound F (join k es l r) g _ (join-into F k es l r g (work F l) (work F r) (work-sound F l g.1) (work-sound F r g.2))
  work-sound F (subquery_alias s i) g = worker-sound F (subquery_alias s i) g _ (subquery-into F s i g.1 (work F i) (work-sound F i g.1))
  work-sound F (union i is) g = worker-sound F (union i is) g _ (union-into F i is g (work F i) (works F is) (work-sound F i g.1) (works-sound F is g.2))
  work-sound F (aggregate gs ts i) g = worker-sound F (aggregate gs ts i) g (anyway not_tried) (not-tried F _)

  works-sound : (F : Functions) (is : Plans) → Goods F is → WorksSound F is (works F is)
  works-sound F done g from ps cs level n k Q qs kp w f = f done n tt
  works-sound F (also i is) g from ps cs level n k Q qs kp w f =
      let v = all_wide F (length from) i is w in
      then-gives _ _ _ _ ((work-sound F i g.0).place (remap_pairs from (fields_of F i) ps) (remap_columns from (fields_of F i) cs) level _ (remapped-known from (fields_of F i) v.0 (good-lawful F i g.0) ps kp))
      (λ r m b. works-sound F is g.1 from ps cs level m _ Q qs kp v.1 (λ rs o bs. f (also r rs) o (b, bs)))

module _ {F : Functions} where
  -- what stands with the very same fields is the same
  pub same-fields : {σ : List ℕ} {R P : Plan} → Stands F σ R P → fields_of F P ≡ fields_of F R → Lawful (fields_of F R) → Same F R P
  same-fields {σ} {R} {P} s p h = record {
    fields_same = sym p;
    rows_same = λ W. sym (s.alike W ∙ map_same (pick σ) (rows W R) (All-weaker _ _ (λ row w.
        sym (recover W (fields_of F R) σ (fields_of F R) row (rw p at s.covers) h) ∙ own_row W (fields_of F R) h row w) (rows W R) (rows-wide W R)));
  }

closed-keeps : (F : Functions) (P R : Plan) (n : Tally) → Answer F R P → Gives (λ R. Same F R P × Good F R) (closed F (fields_of F P) R n)
unfolding closed
closed-keeps F P R n a = go (same_fields (fields_of F P) (fields_of F R)) (λ t. fields-eq (fields_of F P) (fields_of F R) t)
  where
    go : (b : Bool) → (T b → fields_of F P ≡ fields_of F R) → Gives (λ R. Same F R P × Good F R) (cond b (built R n) (remade F Closing 0 (projection (refs (fields_of F P)) R) n))
    go true f = (same-fields a.stands (f tt) (good-lawful F R a.good), a.good)
    go false f = remade-gives _ F Closing 0 (projection (refs (fields_of F P)) R) n (λ x. (recovery a.stands (of_refs (Known (fields_of F R)) (fields_of F P) (project-known _ R x a.good)), (x, a.good)))

pub push-keeps : (F : Functions) (P : Plan) (n : Tally) → Good F P → Gives (λ R. Same F R P × Good F R) (push F P n)
unfolding push
push-keeps F (table k q ns) n g = tt
push-keeps F (projection es i) n g = then-gives _ _ _ _ ((work-sound F i g.1).over es 0 n (project-known es i g.0 g.1)) (λ R m a. closed-keeps F (projection es i) R m a)
push-keeps F (filter e i) n g = tt
push-keeps F (sort ks i) n g = tt
push-keeps F (limit s c i) n g = tt
push-keeps F (join k cs l r) n g = tt
push-keeps F (subquery_alias s i) n g = tt
push-keeps F (union i is) n g = tt
push-keeps F (aggregate gs ts i) n g = tt
