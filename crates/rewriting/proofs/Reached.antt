-- What the law says of a book is a proposition, so it may be had from the mere fact that some calls led there.
use Rattle.std.proofs.Common.{◌≡◌, ℕ, Bool, true, false, T, ◌⊎◌, List, [], ◌∷◌, ◌++◌, length, ℤ, refl, ap, subst, inl, inr, arith}
use lib.Ieee.{Float}
use Rattle.std.specs.List.{AllByRecursion}
use Rattle.plan.specs.Functions.{Functions}
use Rattle.plan.specs.Calls.{Answer}
use Rattle.plan.specs.Model.{Model, Space, opened as just_opened, space, tree_at}
use Rattle.plan.specs.Plans.{Plan, Plans, fields_of}
use Rattle.plan.specs.Plans.Plan.{aggregate, filter, join, limit, projection, sort, subquery_alias, table, union}
use Rattle.plan.specs.Plans.Plans.{also, done}
use Rattle.plan.specs.Terms.{Expr, Exprs, Field, Qualifier}
use Rattle.plan.specs.Terms.Expr.{alias, call, literal, reference}
use Rattle.plan.specs.Terms.Exprs.{more, none}
use Rattle.plan.specs.Terms.Qualifier.{qualified, unqualified}
use Rattle.rows.specs.Rows.{may_mean, rows_of, seek}
use Rattle.rows.specs.Standing.{Good, Goods, Known, Knowns, Lawful, Means, Passed, Same, at}
use Rattle.rewriting.proofs.Book.{kept-none, law, run-kept, step-loose}
use Rattle.rewriting.specs.Book.{Agree, Answers, LooseAnswers, LooseRun, Request, Run, Step, opened}
use Rattle.rewriting.specs.Laws.{Resolved, ResolvedAll}
use Rattle.rewriting.specs.Reached.{Reached, ReachedHolds}
use mathlib.Core.Logic.{∥∥₁_elim, ∥∥₁_map}
use base.Stored.{Coded, Coded-set, coded_via, coded_list, coded_ℕ, coded_bool, coded_ℤ, coded_float, coded_unit, coded×, coded⊎}
use native.Mathlib.Bridge.{le_prop}
use native.Mathlib.Nat.{ℕ_set}
use Rattle.plan.specs.Values.{Value}
use Rattle.plan.specs.Values.Value.{null, truth, whole, real, text, record_number}

-- fields and values have a decidable equality
abbrev qualifier_parts : Qualifier → Unit {0} ⊎ List ℕ
qualifier_parts unqualified = inl tt
qualifier_parts (qualified q) = inr q

qualifier-one : (a b : Qualifier) → qualifier_parts a ≡ qualifier_parts b → a ≡ b
qualifier-one unqualified unqualified p = refl
qualifier-one unqualified (qualified b) p = let z : ◌≡◌ {A = ℕ} 0 1 = cc in absurd (omega arith)
qualifier-one (qualified a) unqualified p = let z : ◌≡◌ {A = ℕ} 0 1 = cc in absurd (omega arith)
qualifier-one (qualified a) (qualified b) p = let q : a ≡ b = cc in ap qualified q

abbrev coded_qualifier : Coded Qualifier
coded_qualifier = coded_via (coded⊎ coded_unit (coded_list coded_ℕ)) qualifier_parts qualifier-one

abbrev field_parts : Field → Qualifier × List ℕ
field_parts f = (f.qualifier, f.name)

field-one : (f g : Field) → field_parts f ≡ field_parts g → f ≡ g
field-one f g p = λ i. record { qualifier = (p i).0; name = (p i).1 }

abbrev coded_field : Coded Field
coded_field = coded_via (coded× coded_qualifier (coded_list coded_ℕ)) field_parts field-one

abbrev Parts : Type 0
Parts = Unit {0} ⊎ (Bool ⊎ (ℤ ⊎ (Float ⊎ (List ℕ ⊎ ℕ))))

abbrev value_parts : Value → Parts
value_parts null = inl tt
value_parts (truth b) = inr (inl b)
value_parts (whole n) = inr (inr (inl n))
value_parts (real x) = inr (inr (inr (inl x)))
value_parts (text t) = inr (inr (inr (inr (inl t))))
value_parts (record_number n) = inr (inr (inr (inr (inr n))))

value-one : (v w : Value) → value_parts v ≡ value_parts w → v ≡ w
value-one null null p = refl
value-one null (truth b) p = let z : ◌≡◌ {A = ℕ} 0 1 = cc in absurd (omega arith)
value-one null (whole n) p = let z : ◌≡◌ {A = ℕ} 0 1 = cc in absurd (omega arith)
value-one null (real y) p = let z : ◌≡◌ {A = ℕ} 0 1 = cc in absurd (omega arith)
value-one null (text t) p = let z : ◌≡◌ {A = ℕ} 0 1 = cc in absurd (omega arith)
value-one null (record_number j) p = let z : ◌≡◌ {A = ℕ} 0 1 = cc in absurd (omega arith)
value-one (truth a) null p = let z : ◌≡◌ {A = ℕ} 0 1 = cc in absurd (omega arith)
value-one (truth a) (truth b) p = let q : a ≡ b = cc in ap truth q
value-one (truth a) (whole n) p = let z : ◌≡◌ {A = ℕ} 0 1 = cc in absurd (omega arith)
value-one (truth a) (real y) p = let z : ◌≡◌ {A = ℕ} 0 1 = cc in absurd (omega arith)
value-one (truth a) (text t) p = let z : ◌≡◌ {A = ℕ} 0 1 = cc in absurd (omega arith)
value-one (truth a) (record_number j) p = let z : ◌≡◌ {A = ℕ} 0 1 = cc in absurd (omega arith)
value-one (whole m) null p = let z : ◌≡◌ {A = ℕ} 0 1 = cc in absurd (omega arith)
value-one (whole m) (truth b) p = let z : ◌≡◌ {A = ℕ} 0 1 = cc in absurd (omega arith)
value-one (whole m) (whole n) p = let q : m ≡ n = cc in ap whole q
value-one (whole m) (real y) p = let z : ◌≡◌ {A = ℕ} 0 1 = cc in absurd (omega arith)
value-one (whole m) (text t) p = let z : ◌≡◌ {A = ℕ} 0 1 = cc in absurd (omega arith)
value-one (whole m) (record_number j) p = let z : ◌≡◌ {A = ℕ} 0 1 = cc in absurd (omega arith)
value-one (real x) null p = let z : ◌≡◌ {A = ℕ} 0 1 = cc in absurd (omega arith)
value-one (real x) (truth b) p = let z : ◌≡◌ {A = ℕ} 0 1 = cc in absurd (omega arith)
value-one (real x) (whole n) p = let z : ◌≡◌ {A = ℕ} 0 1 = cc in absurd (omega arith)
value-one (real x) (real y) p = let q : x ≡ y = cc in ap real q
value-one (real x) (text t) p = let z : ◌≡◌ {A = ℕ} 0 1 = cc in absurd (omega arith)
value-one (real x) (record_number j) p = let z : ◌≡◌ {A = ℕ} 0 1 = cc in absurd (omega arith)
value-one (text s) null p = let z : ◌≡◌ {A = ℕ} 0 1 = cc in absurd (omega arith)
value-one (text s) (truth b) p = let z : ◌≡◌ {A = ℕ} 0 1 = cc in absurd (omega arith)
value-one (text s) (whole n) p = let z : ◌≡◌ {A = ℕ} 0 1 = cc in absurd (omega arith)
value-one (text s) (real y) p = let z : ◌≡◌ {A = ℕ} 0 1 = cc in absurd (omega arith)
value-one (text s) (text t) p = let q : s ≡ t = cc in ap text q
value-one (text s) (record_number j) p = let z : ◌≡◌ {A = ℕ} 0 1 = cc in absurd (omega arith)
value-one (record_number i) null p = let z : ◌≡◌ {A = ℕ} 0 1 = cc in absurd (omega arith)
value-one (record_number i) (truth b) p = let z : ◌≡◌ {A = ℕ} 0 1 = cc in absurd (omega arith)
value-one (record_number i) (whole n) p = let z : ◌≡◌ {A = ℕ} 0 1 = cc in absurd (omega arith)
value-one (record_number i) (real y) p = let z : ◌≡◌ {A = ℕ} 0 1 = cc in absurd (omega arith)
value-one (record_number i) (text t) p = let z : ◌≡◌ {A = ℕ} 0 1 = cc in absurd (omega arith)
value-one (record_number i) (record_number j) p = let q : i ≡ j = cc in ap record_number q

abbrev coded_value : Coded Value
coded_value = coded_via (coded⊎ coded_unit (coded⊎ coded_bool (coded⊎ coded_ℤ (coded⊎ coded_float (coded⊎ (coded_list coded_ℕ) coded_ℕ))))) value_parts value-one

same-prop : (F : Functions) (A B : Plan) → IsProp (Same F A B)
same-prop F A B p q = λ i. record {
  fields_same = Coded-set (coded_list coded_field) (fields_of F A) (fields_of F B) p.fields_same q.fields_same i;
  rows_same = λ W. Coded-set (coded_list (coded_list coded_value)) (rows_of F W.world A) (rows_of F W.world B) (p.rows_same W) (q.rows_same W) i;
}

-- that references mean one field
truth-prop : (b : Bool) → IsProp (T b)
truth-prop true p q = refl
truth-prop false p q = absurd p

means-prop : (r : Field) (fs : List Field) (i : ℕ) → IsProp (Means r fs i)
means-prop r fs i p q = λ t. record {
  inside = le_prop p.inside q.inside t;
  meant = truth-prop (may_mean r (at fs i)) p.meant q.meant t;
  sole = λ j h k. ℕ_set j i (p.sole j h k) (q.sole j h k) t;
}

unit-prop : IsProp (Unit {0})
unit-prop p q = refl

both_prop : {A B : Type 0} → IsProp A → IsProp B → IsProp (A × B)
both_prop f g p q = λ i. (f p.0 q.0 i, g p.1 q.1 i)

three_prop : {A B C : Type 0} → IsProp A → IsProp B → IsProp C → IsProp (A × B × C)
three_prop f g h p q = λ i. (f p.0 q.0 i, g p.1 q.1 i, h p.2 q.2 i)

four_prop : {A B C D : Type 0} → IsProp A → IsProp B → IsProp C → IsProp D → IsProp (A × B × C × D)
four_prop f g h k p q = λ i. (f p.0 q.0 i, g p.1 q.1 i, h p.2 q.2 i, k p.3 q.3 i)

all_prop : {A : Type 0} (P : A → Type 0) → ((x : A) → IsProp (P x)) → (xs : List A) → IsProp (AllByRecursion P xs)
all_prop P f [] = unit-prop
all_prop P f (x ∷ xs) = both_prop (f x) (all_prop P f xs)

mutual
  known-prop : (fs : List Field) (e : Expr) → IsProp (Known fs e)
  known-prop fs (literal v) = unit-prop
  known-prop fs (reference r) = means-prop r fs (seek r fs)
  known-prop fs (alias e f) = known-prop fs e
  known-prop fs (call n es) = knowns-prop fs es

  knowns-prop : (fs : List Field) (es : Exprs) → IsProp (Knowns fs es)
  knowns-prop fs none = unit-prop
  knowns-prop fs (more e es) = both_prop (known-prop fs e) (knowns-prop fs es)

lawful-prop : (fs : List Field) → IsProp (Lawful fs)
lawful-prop fs = all_prop _ (λ f. known-prop fs (reference f)) fs

mutual
  resolved-prop : (F : Functions) (p : Plan) → IsProp (Resolved F p)
  resolved-prop F (table k q ns) = lawful-prop _
  resolved-prop F (projection es i) = three_prop (all_prop _ (known-prop _) es) (lawful-prop _) (resolved-prop F i)
  resolved-prop F (filter e i) = three_prop (known-prop _ e) (lawful-prop _) (resolved-prop F i)
  resolved-prop F (sort ks i) = three_prop (all_prop _ (λ k. known-prop _ k.by) ks) (lawful-prop _) (resolved-prop F i)
  resolved-prop F (limit s c i) = both_prop (lawful-prop _) (resolved-prop F i)
  resolved-prop F (aggregate gs ts i) = three_prop (all_prop _ (known-prop _) (gs ++ ts)) (lawful-prop _) (resolved-prop F i)
  resolved-prop F (join k cs l r) = four_prop (all_prop _ (known-prop _) cs) (lawful-prop _) (resolved-prop F l) (resolved-prop F r)
  resolved-prop F (subquery_alias n i) = both_prop (lawful-prop _) (resolved-prop F i)
  resolved-prop F (union i is) = three_prop (lawful-prop _) (resolved-prop F i) (resolved-all-prop F is)

  resolved-all-prop : (F : Functions) (is : Plans) → IsProp (ResolvedAll F is)
  resolved-all-prop F done = unit-prop
  resolved-all-prop F (also i is) = both_prop (resolved-prop F i) (resolved-all-prop F is)

passed-prop : (F : Functions) (p : Plan) → IsProp (Passed F p)
passed-prop F p x y = λ t. record {
  resolves = truth-prop _ x.resolves y.resolves t;
  lists = truth-prop _ x.lists y.lists t;
  limits = truth-prop _ x.limits y.limits t;
}

mutual
  good-prop : (F : Functions) (p : Plan) → IsProp (Good F p)
  good-prop F (table k q ns) = passed-prop F _
  good-prop F (projection es i) = both_prop (passed-prop F _) (good-prop F i)
  good-prop F (filter e i) = both_prop (passed-prop F _) (good-prop F i)
  good-prop F (sort ks i) = both_prop (passed-prop F _) (good-prop F i)
  good-prop F (limit s c i) = both_prop (passed-prop F _) (good-prop F i)
  good-prop F (aggregate gs ts i) = three_prop (passed-prop F _) (good-prop F i) (truth-prop _)
  good-prop F (join k cs l r) = three_prop (passed-prop F _) (good-prop F l) (good-prop F r)
  good-prop F (subquery_alias n i) = both_prop (passed-prop F _) (good-prop F i)
  good-prop F (union i is) = four_prop (passed-prop F _) (good-prop F i) (goods-prop F is) (truth-prop _)

  goods-prop : (F : Functions) (is : Plans) → IsProp (Goods F is)
  goods-prop F done = unit-prop
  goods-prop F (also i is) = both_prop (good-prop F i) (goods-prop F is)

agree-prop : (s : Model) → IsProp (Agree s)
agree-prop s p q = λ t. record {
  good = λ i h. good-prop s.functions (tree_at s i) (p.good i h) (q.good i h) t;
  same = λ i j h k e. same-prop s.functions (tree_at s i) (tree_at s j) (p.same i j h k e) (q.same i j h k e) t;
  resolved = λ i h. resolved-prop s.functions (tree_at s i) (p.resolved i h) (q.resolved i h) t;
}

-- one more call
pub run_more : (s t s' : Model) (ss : List Step) (c : Request) (a : Answer) → Run s ss t → Answers t c a s' → Run s (ss ++ (c, a) ∷ []) s'
run_more s t s' [] c a r x = (s', subst (λ (u : Model). Answers u c a s') r x, refl)
run_more s t s' (d ∷ ds) c a r x = (r.0, r.1, run_more r.0 t s' ds c a r.2 x)

loose-more : (s t s' : Model) (ss : List Step) (c : Request) (a : Answer) → LooseRun s ss t → LooseAnswers t c a s' → LooseRun s (ss ++ (c, a) ∷ []) s'
loose-more s t s' [] c a r x = (s', subst (λ (u : Model). LooseAnswers u c a s') r x, refl)
loose-more s t s' (d ∷ ds) c a r x = (r.0, r.1, loose-more r.0 t s' ds c a r.2 x)

pub reached-start : (F : Functions) (bytes : List ℕ) (used : Space) → Reached (opened F bytes used)
reached-start F bytes used = ∣ (F, bytes, used, [], refl) ∣₁

-- only the text of a book that was just opened is counted
pub reached-opened : (F : Functions) (bytes : List ℕ) → Reached (just_opened F bytes)
reached-opened F bytes = reached-start F bytes (space 0 0 0 0 (length bytes))

pub reached-loosely : (s s' : Model) (c : Request) (a : Answer) → Reached s → LooseAnswers s c a s' → Reached s'
reached-loosely s s' c a r x = ∥∥₁_map r (λ t. (t.0, t.1, t.2, t.3 ++ (c, a) ∷ [], loose-more (opened t.0 t.1 t.2) s s' t.3 c a t.4 x))

pub reached-further : (s s' : Model) (c : Request) (a : Answer) → Reached s → Answers s c a s' → Reached s'
reached-further s s' c a r x = ∥∥₁_map r (λ t. (
  t.0,
  t.1,
  t.2,
  t.3 ++ (c, a) ∷ [],
  loose-more (opened t.0 t.1 t.2) s s' t.3 c a t.4 (step-loose s s' c a (run-kept (opened t.0 t.1 t.2) s t.3 (kept-none t.0 t.1 t.2) t.4) x),
))

pub reached-agree : (s : Model) → Reached s → Agree s
reached-agree s r = ∥∥₁_elim r (agree-prop s) (λ t. law.agree t.0 t.1 t.2 t.3 s t.4)

pub reached-holds : ReachedHolds
reached-holds = record { start = reached-start; further = reached-further; loosely = reached-loosely; agree = reached-agree }
