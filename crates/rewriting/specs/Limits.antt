-- The Projection that extract builds over an input is refused by question 8 or by none.
--     Rising n xs m      the names xs are generated aliases of rising numbers, from n on and below m
--     Sound F p ps cs n m      pairs and needed columns over the plan p, such as a walk takes out that goes from the number n to m
--     OnlyEight F R      the node R passes questions 6 and 7
--     OnlyLimited      the Projection of such pairs does, the fresh one and the merged one
--     fields_at fl fr s      the fields of the first or the second input
--     Taken fl fr n g      the extractor g began at the number n, and what it found is known over the inputs that own it
--     Walks F own fs fl fr      after a walk through expressions over the fields fs that is so again
--     WalksAreSound      it is so from the start, and what was found for an input is sound there unless a number was past the bound; a book's next number
--                        is above those of all its nodes' fields
--     ProjectionsAreLimited      where extract is refused at such a Projection, it is by question 8
--     ExtractIsLimited      all of this
use Rattle.std.specs.Prelude.{◌≡◌, ℕ, suc, ◌<◌, ◌≤◌, Bool, true, false, cond, T, List, [], ◌∷◌, ◌++◌, map, Some, None, Option}
use Rattle.std.specs.List.{AllByRecursion}
use Rattle.plan.specs.Faults.{first_no}
use Rattle.plan.specs.Fields.{every, lawful, resolved}
use Rattle.plan.specs.Functions.{Functions}
use Rattle.plan.specs.Model.{Model, count_of, tree_at}
use Rattle.plan.specs.Names.{Name, most_number, number_of}
use Rattle.plan.specs.Plans.{Key, Plan, fields_of}
use Rattle.plan.specs.Questions.{expressions_of, input_fields, joint_fields, limited, node_asked}
use Rattle.plan.specs.Terms.{Expr, Field}
use Rattle.plan.specs.Terms.Expr.{reference}
use Rattle.plan.specs.declared.fault.Fault.{Fault}
use Rattle.plan.specs.declared.fault.Question.TheVariants.{Limited}
use Rattle.plan.specs.declared.fault.Stage.{Stage}
use Rattle.plan.specs.declared.fault.Stage.TheVariants.{Call, Extraction, Merge, Rebuilt, Recovery, Closing}
use Rattle.rows.specs.Standing.{Good, Known}
use Rattle.rewriting.specs.Extracting.{build_extraction_projection_impl, extract_from_plan, refused}
use Rattle.rewriting.specs.Generated.{generated, next_number}
use Rattle.rewriting.specs.Outlay.{Tally}
use Rattle.rewriting.specs.Routing.{Extractor, Pair, Side, empty_extractor, find_owning_input, find_sole_input, needed_of, one, pairs_of, routing_extract, routing_extract_all, routing_extract_keys, schema_columns, two}

abbrev pub Rising : ℕ → List Name → ℕ → Type 0
Rising n [] m = n ≤ m
Rising n (x ∷ xs) m = (k : ℕ) × (n ≤ k) × (k ≤ most_number) × (x ≡ generated k) × Rising (suc k) xs m

-- no field has a number from n on, rendered names included
abbrev pub Below : ℕ → List Field → Type 0
Below n fs = AllByRecursion (λ f. number_of f.name < n) fs

pub record Sound (F : Functions) (p : Plan) (ps : List Pair) (cs : List Field) (n m : ℕ) : Type 0 where
  pub below : Below n (fields_of F p)
  pub rising : Rising n (map (λ d. d.1) ps) m
  pub pairs : AllByRecursion (λ d. Known (fields_of F p) d.0) ps
  pub columns : AllByRecursion (λ c. Known (fields_of F p) (reference c)) cs

pub record OnlyEight (F : Functions) (R : Plan) : Type 0 where
  pub resolves : every (resolved (input_fields F R)) (expressions_of R) ≡ true
  pub lists : lawful (joint_fields F R) ≡ true
  pub answer : first_no (node_asked F R) ≡ cond (limited F R) None (Some Limited)

abbrev pub OnlyLimited : Type 0
OnlyLimited = (F : Functions) (p : Plan) (ps : List Pair) (cs : List Field) (n m : ℕ) → Good F p → Sound F p ps cs n m → OnlyEight F (build_extraction_projection_impl F p ps cs)

abbrev pub fields_at : List Field → List Field → Side → List Field
fields_at fl fr one = fl
fields_at fl fr two = fr

-- where a number past the bound was wanted, nothing is said of the aliases
pub record Taken (fl fr : List Field) (n : ℕ) (g : Extractor) : Type 0 where
  pub rising : g.full ≡ false → Rising n (map (λ d. d.2) g.entries) g.next
  pub entries : AllByRecursion (λ d. Known (fields_at fl fr d.0) d.1) g.entries
  pub needed : AllByRecursion (λ m. Known (fields_at fl fr m.0) (reference m.1)) g.needed

pub record Walks (F : Functions) (own : Expr → Option Side) (fs fl fr : List Field) : Type 0 where
  pub one_walk : (e : Expr) (n : ℕ) (g : Extractor) → Known fs e → Taken fl fr n g → Taken fl fr n (routing_extract F own e g).1
  pub all_walks : (es : List Expr) (n : ℕ) (g : Extractor) → AllByRecursion (Known fs) es → Taken fl fr n g → Taken fl fr n (routing_extract_all F own es g).1
  pub key_walks : (ks : List Key) (n : ℕ) (g : Extractor) → AllByRecursion (λ k. Known fs k.by) ks → Taken fl fr n g → Taken fl fr n (routing_extract_keys F own ks g).1

pub record WalksAreSound : Type 0 where
  pub below : (m : Model) (i : ℕ) → i < count_of m → Below (next_number m) (fields_of m.functions (tree_at m i))
  pub start : (fl fr : List Field) (n : ℕ) → Taken fl fr n (empty_extractor n)
  pub sole : (F : Functions) (fs : List Field) → Walks F (find_sole_input (schema_columns fs)) fs fs []
  pub owning : (F : Functions) (fl fr : List Field) → Walks F (find_owning_input (schema_columns fl) (schema_columns fr)) (fl ++ fr) fl fr
  pub sound : (F : Functions) (p : Plan) (s : Side) (fl fr : List Field) (n : ℕ) (g : Extractor) → fields_at fl fr s ≡ fields_of F p → Below n (fields_of F p) → g.full ≡ false → Taken fl fr n g
      → Sound F p (pairs_of s g.entries) (needed_of s g.needed) n g.next

-- the stages of a Projection that takes pairs
abbrev pub is_of_pairs : Stage → Bool
is_of_pairs Call = false
is_of_pairs Extraction = true
is_of_pairs Merge = true
is_of_pairs Rebuilt = false
is_of_pairs Recovery = false
is_of_pairs Closing = false

abbrev pub ProjectionsAreLimited : Type 0
ProjectionsAreLimited = (F : Functions) (P : Plan) (n m : Tally) (x : Fault) → Good F P → Below n.next (input_fields F P) → extract_from_plan F P n ≡ refused x m → T (is_of_pairs x.stage) → x.question ≡ Limited

pub record ExtractIsLimited : Type 0 where
  pub only : OnlyLimited
  pub walks : WalksAreSound
  pub projections : ProjectionsAreLimited
