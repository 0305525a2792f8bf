-- The laws of extract and push. How the pieces meet, for a node P and the answer R:
--     what the questions tell of the nodes made      Made, with Resolving of `rows`
--     R stands for P: the same rows, P's fields at known places      Closure, Extract, Joins and More of `rows`
--     R carries the pairs: a column for each, with its value over P's row      Carries, CarryJoins, Unions
--     an expression with parts replaced by such columns has its old value      Swaps, Walks, Equals
--     extract: the rebuilt node stands for P, and the recovery is P      Extracts for Filter, Sort and Join, Totals for Aggregate
--     push: the list is split and recovered, the node below is rebuilt, the closing is P      Splits, Pushes with Unions, PushKeeps
use Rattle.std.proofs.Common.{◌≡◌, ◌++◌, subst}
use Rattle.plan.specs.Functions.{Functions}
use Rattle.plan.specs.Plans.{Plan, Plans, fields_of}
use Rattle.plan.specs.Plans.Plan.{aggregate, filter, join, limit, projection, sort, subquery_alias, table, union}
use Rattle.plan.specs.Plans.Plans.{also, done}
use Rattle.rows.proofs.Resolving.{lawful-true}
use Rattle.rows.specs.Standing.{Good, Goods, Same}
use Rattle.rewriting.proofs.Extracts.{Keeping}
use Rattle.rewriting.proofs.Made.{aggregate-known, filter-known, good-lawful, join-known, project-known, sort-known}
use Rattle.rewriting.proofs.PushKeeps.{push-keeps}
use Rattle.rewriting.proofs.Totals.{extract-keeps}
use Rattle.rewriting.specs.Extracting.{Outcome, built, extract_from_plan}
use Rattle.rewriting.specs.Laws.{ExtractLaw, Gives, Kept, PushLaw, Resolved, ResolvedAll}
use Rattle.rewriting.specs.Outlay.{Tally}
use Rattle.rewriting.specs.Pushing.{push}

mutual
  pub good-resolved : (F : Functions) (P : Plan) → Good F P → Resolved F P
  good-resolved F (table k q ns) g = good-lawful F (table k q ns) g
  good-resolved F (projection es i) g = (project-known es i g.0 g.1, good-lawful F (projection es i) g, good-resolved F i g.1)
  good-resolved F (filter e i) g = (filter-known e i g.0, good-lawful F (filter e i) g, good-resolved F i g.1)
  good-resolved F (sort ks i) g = (sort-known ks i g.0, good-lawful F (sort ks i) g, good-resolved F i g.1)
  good-resolved F (limit s c i) g = (good-lawful F (limit s c i) g, good-resolved F i g.1)
  good-resolved F (aggregate gs ts i) g = (aggregate-known gs ts i g.0 g.1, good-lawful F (aggregate gs ts i) g, good-resolved F i g.1)
  good-resolved F (join k cs l r) g =
      (join-known k cs l r g.0, lawful-true (fields_of F l ++ fields_of F r) g.0.lists, good-resolved F l g.1, good-resolved F r g.2)
  good-resolved F (subquery_alias n i) g = (good-lawful F (subquery_alias n i) g, good-resolved F i g.1)
  good-resolved F (union i is) g = (good-lawful F (union i is) g, good-resolved F i g.1, goods-resolved F is g.2)

  goods-resolved : (F : Functions) (is : Plans) → Goods F is → ResolvedAll F is
  goods-resolved F done g = tt
  goods-resolved F (also i is) g = (good-resolved F i g.0, goods-resolved F is g.1)

kept : (F : Functions) (P R : Plan) (o : Outcome) (m : Tally) → Gives (Keeping F P) o → o ≡ built R m → Kept F R P
kept F P R o m h p =
    let k : Same F R P × Good F R = subst (Gives (Keeping F P)) p h in
    record { same = k.0; resolved = good-resolved F R k.1; good = k.1 }

pub extract-law : ExtractLaw
extract-law F P R n m g p = kept F P R (extract_from_plan F P n) m (extract-keeps F P n g) p

pub push-law : PushLaw
push-law F P R n m g p = kept F P R (push F P n) m (push-keeps F P n g) p
