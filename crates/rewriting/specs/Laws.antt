-- The laws of extract and push.
--     Gives Q o      what is built, if anything is, has the property Q
--     Resolved F p      every reference of p means exactly one field, and every list of fields is lawful
--     Kept F R P      R has the fields and the rows of P, and its nodes are good
--     ExtractLaw, PushLaw      what extract and push build is kept
use Rattle.std.specs.Prelude.{◌≡◌, ◌++◌}
use Rattle.std.specs.List.{AllByRecursion}
use Rattle.plan.specs.Functions.{Functions}
use Rattle.plan.specs.Plans.{Plan, Plans, fields_of}
use Rattle.plan.specs.Plans.Plan.{table, projection, filter, sort, limit, aggregate, join, subquery_alias, union}
use Rattle.plan.specs.Plans.Plans.{done, also}
use Rattle.rows.specs.Standing.{Known, Lawful, Same, Good}
use Rattle.rewriting.specs.Outlay.{Tally}
use Rattle.rewriting.specs.Extracting.{Outcome, built, no_change, refused, extract_from_plan}
use Rattle.rewriting.specs.Pushing.{push}

abbrev pub Gives : (Plan → Type 0) → Outcome → Type 0
Gives Q (built p n) = Q p
Gives Q (no_change n) = Unit {0}
Gives Q (refused x n) = Unit {0}

abbrev mutual
  pub Resolved : Functions → Plan → Type 0
  Resolved F (table k q ns) = Lawful (fields_of F (table k q ns))
  Resolved F (projection es i) = AllByRecursion (Known (fields_of F i)) es × Lawful (fields_of F (projection es i)) × Resolved F i
  Resolved F (filter e i) = Known (fields_of F i) e × Lawful (fields_of F (filter e i)) × Resolved F i
  Resolved F (sort ks i) = AllByRecursion (λ k. Known (fields_of F i) k.by) ks × Lawful (fields_of F (sort ks i)) × Resolved F i
  Resolved F (limit s c i) = Lawful (fields_of F (limit s c i)) × Resolved F i
  Resolved F (aggregate gs ts i) = AllByRecursion (Known (fields_of F i)) (gs ++ ts) × Lawful (fields_of F (aggregate gs ts i)) × Resolved F i
  Resolved F (join k cs l r) = AllByRecursion (Known (fields_of F l ++ fields_of F r)) cs × Lawful (fields_of F l ++ fields_of F r) × Resolved F l × Resolved F r
  Resolved F (subquery_alias n i) = Lawful (fields_of F (subquery_alias n i)) × Resolved F i
  Resolved F (union i is) = Lawful (fields_of F (union i is)) × Resolved F i × ResolvedAll F is

  pub ResolvedAll : Functions → Plans → Type 0
  ResolvedAll F done = Unit {0}
  ResolvedAll F (also i is) = Resolved F i × ResolvedAll F is

pub record Kept (F : Functions) (R P : Plan) : Type 0 where
  pub same : Same F R P
  pub resolved : Resolved F R
  pub good : Good F R

abbrev pub ExtractLaw : Type 0
ExtractLaw = (F : Functions) (P R : Plan) (n m : Tally) → Good F P → extract_from_plan F P n ≡ built R m → Kept F R P

abbrev pub PushLaw : Type 0
PushLaw = (F : Functions) (P R : Plan) (n m : Tally) → Good F P → push F P n ≡ built R m → Kept F R P
