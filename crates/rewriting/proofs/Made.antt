-- What the questions of a made node tell, and how answers are carried from step to step.
use Rattle.std.proofs.Common.{ℕ, Bool, true, false, cond, T, List, [], ◌∷◌, ◌++◌, map, append-nil}
use mir.Facts.{and_yes}
use Rattle.std.specs.List.{AllByRecursion}
use Rattle.plan.specs.Faults.{first_no}
use Rattle.plan.specs.Fields.{every, lawful, resolved}
use Rattle.plan.specs.Functions.{Functions}
use Rattle.plan.specs.Plans.{Key, Plan, fields_of, shown}
use Rattle.plan.specs.Plans.Plan.{aggregate, filter, join, limit, projection, sort, subquery_alias, table, union}
use Rattle.plan.specs.Questions.{expressions_of, input_fields, joint_fields, limited}
use Rattle.plan.specs.Terms.{Expr, Field}
use Rattle.plan.specs.Terms.Expr.{reference}
use Rattle.plan.specs.declared.code.JoinKind.{JoinKind}
use Rattle.plan.specs.declared.code.JoinKind.TheVariants.{Full, Inner, Left, LeftAnti, LeftSemi, Right, RightAnti, RightSemi}
use Rattle.plan.specs.declared.fault.Question.TheVariants.{Lawful as LawfulQuestion, Limited as LimitedQuestion, Resolved as ResolvedQuestion}
use Rattle.plan.specs.declared.fault.Stage.{Stage}
use Rattle.rows.proofs.Lists.{all_of_map}
use Rattle.rows.proofs.Resolving.{all-resolved, lawful-true}
use Rattle.rows.specs.Standing.{Good, Known, Lawful, Passed, refs}
use Rattle.rewriting.specs.Extracting.{Outcome, and_then, built, made, made_if, no_change, refused, remade}
use Rattle.rewriting.specs.Laws.{Gives}
use Rattle.plan.specs.Swapping.{own_space}
use Rattle.rewriting.specs.Outlay.{Tally, charged}
use Rattle.rewriting.specs.Pushing.{or_keep}

pub every-all : {A : Type 0} (p : A → Bool) (xs : List A) → T (every p xs) → AllByRecursion (λ x. T (p x)) xs
every-all p [] h = tt
every-all p (x ∷ xs) h = let a = and_yes (p x) (every p xs) h in (a.0, every-all p xs a.1)

sides-lawful : (k : JoinKind) (a b : List Field) → T (lawful (a ++ b)) → T (lawful a) → T (lawful b) → T (lawful (shown k a b))
sides-lawful Inner a b h l r = h
sides-lawful Left a b h l r = h
sides-lawful Right a b h l r = h
sides-lawful Full a b h l r = h
sides-lawful LeftSemi a b h l r = rw (append-nil a) l
sides-lawful LeftAnti a b h l r = rw (append-nil a) l
sides-lawful RightSemi a b h l r = r
sides-lawful RightAnti a b h l r = r

-- the fields of a good plan are lawful
pub good-lists : (F : Functions) (P : Plan) → Good F P → T (lawful (fields_of F P))
good-lists F (table k q ns) g = g.lists
good-lists F (projection es i) g = g.0.lists
good-lists F (filter e i) g = g.0.lists
good-lists F (sort ks i) g = g.0.lists
good-lists F (limit s c i) g = g.0.lists
good-lists F (aggregate gs ts i) g = g.0.lists
good-lists F (join k cs l r) g = sides-lawful k (fields_of F l) (fields_of F r) g.0.lists (good-lists F l g.1) (good-lists F r g.2)
good-lists F (subquery_alias n i) g = g.0.lists
good-lists F (union i is) g = g.0.lists

pub good-lawful : (F : Functions) (P : Plan) → Good F P → Lawful (fields_of F P)
good-lawful F P g = lawful-true (fields_of F P) (good-lists F P g)

module _ {F : Functions} where
  pub project-known : (es : List Expr) (i : Plan) → Passed F (projection es i) → Good F i → AllByRecursion (Known (fields_of F i)) es
  project-known es i h g = all-resolved (fields_of F i) (good-lists F i g) es h.resolves

  pub filter-known : (e : Expr) (i : Plan) → Passed F (filter e i) → Known (fields_of F i) e
  filter-known e i h = (all-resolved (fields_of F i) h.lists (e ∷ []) h.resolves).0

  pub sort-known : (ks : List Key) (i : Plan) → Passed F (sort ks i) → AllByRecursion (λ k. Known (fields_of F i) k.by) ks
  sort-known ks i h = all_of_map (Known (fields_of F i)) (λ k. k.by) ks (all-resolved (fields_of F i) h.lists (map (λ k. k.by) ks) h.resolves)

  pub join-known : (k : JoinKind) (cs : List Expr) (l r : Plan) → Passed F (join k cs l r) → AllByRecursion (Known (fields_of F l ++ fields_of F r)) cs
  join-known k cs l r h = all-resolved (fields_of F l ++ fields_of F r) h.lists cs h.resolves

  pub aggregate-known : (gs ts : List Expr) (i : Plan) → Passed F (aggregate gs ts i) → Good F i → AllByRecursion (Known (fields_of F i)) (gs ++ ts)
  aggregate-known gs ts i h g = all-resolved (fields_of F i) (good-lists F i g) (gs ++ ts) h.resolves

pub made-gives : (Q : Plan → Type 0) (F : Functions) (stage : Stage) (level : ℕ) (p : Plan) (n : Tally) → (Passed F p → Q p) → Gives Q (made F stage level p n)
unfolding made made_if
made-gives Q F stage level p n f =
    go (every (resolved (input_fields F p)) (expressions_of p)) (lawful (joint_fields F p)) (limited F p) (λ a b c. f (record { resolves = a; lists = b; limits = c }))
  where
    go : (a b c : Bool) → (T a → T b → T c → Q p)
        → Gives Q (made_if (first_no ((ResolvedQuestion, a) ∷ (LawfulQuestion, b) ∷ (LimitedQuestion, c) ∷ [])) stage level p (charged (own_space F p) n))
    go true true true f = f tt tt tt
    go true true false f = tt
    go true false c f = tt
    go false b c f = tt

pub remade-gives : (Q : Plan → Type 0) (F : Functions) (stage : Stage) (level : ℕ) (p : Plan) (n : Tally) → (Passed F p → Q p) → Gives Q (remade F stage level p n)
unfolding remade
remade-gives Q F stage level p n f = made-gives Q F stage level p _ f

pub when-gives : (Q : Plan → Type 0) (b : Bool) (n : Tally) (o : Outcome) → Gives Q o → Gives Q (cond b o (no_change n))
when-gives Q true n o h = h
when-gives Q false n o h = tt

pub then-gives : (Q Z : Plan → Type 0) (o : Outcome) (f : Plan → Tally → Outcome) → Gives Q o → ((p : Plan) (n : Tally) → Q p → Gives Z (f p n)) → Gives Z (and_then o f)
unfolding and_then
then-gives Q Z (built p n) f h k = k p n h
then-gives Q Z (no_change n) f h k = tt
then-gives Q Z (refused x n) f h k = tt

pub keep-gives : (Q Z : Plan → Type 0) (p : Plan) (o : Outcome) → Gives Q o → ((q : Plan) → Q q → Z q) → Z p → Gives Z (or_keep p o)
unfolding or_keep
keep-gives Q Z p (built q n) h k z = k q h
keep-gives Q Z p (no_change n) h k z = z
keep-gives Q Z p (refused x n) h k z = tt

pub gives-weaker : (Q Z : Plan → Type 0) (o : Outcome) → ((p : Plan) → Q p → Z p) → Gives Q o → Gives Z o
gives-weaker Q Z (built p n) k h = k p h
gives-weaker Q Z (no_change n) k h = tt
gives-weaker Q Z (refused x n) k h = tt

pub of_refs : (P : Expr → Type 0) (fs : List Field) → AllByRecursion P (refs fs) → AllByRecursion (λ f. P (reference f)) fs
of_refs P fs h = all_of_map P reference fs h
