-- What a step of the walk answers and leaves; cited by src/extractor/entering.rt and src/walking.rt.
--     Grows m m'      only expressions were made, behind those that there were
--     Numbered m n m'      no number from n on came that was not there
--     NoRoom t o f, NoNumber g f      the places o do not fit; a number was wanted that no alias may have
--     Built t o n e r t'      r stands for the expression e, no more than the places o were used, and no number from n on came
--     BuiltBy t o n e r t'      it does, or the places o do not fit
--     walk_in t is e g      what the walk through e comes to, where is are the inputs
--     Walked t w r t' x'      w is what the definition says: r stands for the expression, x' for the extractor, no more was used than the expression's places,
--                             and no number came that the walk did not take
--     Stopped t o g f      something moves and the places o do not fit, or there was no number
--     Answered t w r t' x'      w is walked, or stopped for the expression's places
--     walks_in t is es g, WalkedAll t w rs t' x', AnsweredAll t w r rs t' x'      the same of a list of expressions
--     with_by ks es      the keys ks, each of its expression of es instead, in its own direction
use Rattle.std.specs.Prelude.{◌≡◌, ℕ, ◌<◌, ◌≤◌, true, false, ◌⊎◌, List, [], ◌∷◌, Ok, Err, Result, length}
use Rattle.lexicon.specs.Begun.{Begins}
use Rattle.plan.specs.Calls.{all_below}
use Rattle.plan.specs.Faults.{fault, refusal}
use Rattle.plan.specs.Model.{Model, Space, Within, expr_in, exprs_in, fits}
use Rattle.plan.specs.Plans.{Key}
use Rattle.plan.specs.Terms.{Expr}
use Rattle.plan.specs.declared.fault.Fault.{Fault}
use Rattle.plan.specs.declared.fault.Question.TheVariants.{Limited, Space as SpaceQuestion}
use Rattle.plan.specs.declared.fault.Stage.TheVariants.{Extraction}
use Rattle.rewriting.specs.Generated.{next_number}
use Rattle.rewriting.specs.Outlay.{list_space, tree_space}
use Rattle.rewriting.specs.Routing
use Rattle.rewriting.specs.Routing.{routing_extract, routing_extract_all}
use Rattle.tables.specs.Holding.{model_of, nodes_of, view_in}
use Rattle.tables.specs.declared.tables.Tables.{Tables}
use Rattle.terms.specs.Views.{numbers_of}
use Rattle.entries.specs.declared.node.ExprId.{ExprId}
use Rattle.extracting.specs.Extractors.{Inside, extractor_of}
use Rattle.extracting.specs.Owners.{owner_by}
use Rattle.extracting.specs.declared.extractor.Extractor.{Extractor}
use Rattle.extracting.specs.declared.inputs.Inputs.{Inputs}

pub record Grows (m m' : Model) : Type 0 where
  pub functions : m'.functions ≡ m.functions
  pub exprs : Begins m.exprs m'.exprs
  pub text : Begins m.text m'.text
  pub plans : m'.plans ≡ m.plans
  pub inputs : m'.inputs ≡ m.inputs

abbrev pub Numbered : Model → ℕ → Model → Type 0
Numbered m n m' = (k : ℕ) → next_number m ≤ k → n ≤ k → next_number m' ≤ k

abbrev pub NoRoom : Tables → Space → Fault → Type 0
NoRoom t o f = (f ≡ refusal SpaceQuestion) × (fits (model_of t).used o ≡ false)

abbrev pub NoNumber : Routing.Extractor → Fault → Type 0
NoNumber g f = (f ≡ fault Limited Extraction 0) × (g.full ≡ true)

pub record Built (t : Tables) (o : Space) (n : ℕ) (e : Expr) (r : ℕ) (t' : Tables) : Type 0 where
  pub present : r < length (view_in t').trees
  pub tree : expr_in (view_in t').trees r ≡ e
  pub grows : Grows (model_of t) (model_of t')
  pub numbers : Numbered (model_of t) n (model_of t')
  pub spent : Within (model_of t).used o (model_of t').used

abbrev pub BuiltBy : Tables → Space → ℕ → Expr → Result ExprId Fault → Tables → Type 0
BuiltBy t o n e (Ok r) t' = Built t o n e r.0 t'
BuiltBy t o n e (Err f) t' = NoRoom t o f

abbrev pub walk_in : Tables → Inputs → Expr → Routing.Extractor → Expr × Routing.Extractor
walk_in t is e g = routing_extract (view_in t).functions (owner_by (view_in t).functions (nodes_of t) is) e g

pub record Walked (t : Tables) (w : Expr × Routing.Extractor) (r : ℕ) (t' : Tables) (x' : Extractor) : Type 0 where
  pub present : r < length (view_in t').trees
  pub tree : expr_in (view_in t').trees r ≡ w.0
  pub extractor : extractor_of (view_in t') x' ≡ w.1
  pub inside : Inside (view_in t') x'
  pub few : length x'.entries ≤ length (view_in t').trees
  pub grows : Grows (model_of t) (model_of t')
  pub numbers : Numbered (model_of t) w.1.next (model_of t')
  pub spent : Within (model_of t).used (tree_space w.0) (model_of t').used

abbrev pub Stopped : Tables → Space → Routing.Extractor → Fault → Type 0
Stopped t o g f = (NoRoom t o f × (g.new ≡ true)) ⊎ NoNumber g f

abbrev pub Answered : Tables → Expr × Routing.Extractor → Result ExprId Fault → Tables → Extractor → Type 0
Answered t w (Ok r) t' x' = Walked t w r.0 t' x'
Answered t w (Err f) t' x' = Stopped t (tree_space w.0) w.1 f

abbrev pub walks_in : Tables → Inputs → List Expr → Routing.Extractor → List Expr × Routing.Extractor
walks_in t is es g = routing_extract_all (view_in t).functions (owner_by (view_in t).functions (nodes_of t) is) es g

pub record WalkedAll (t : Tables) (w : List Expr × Routing.Extractor) (rs : List ExprId) (t' : Tables) (x' : Extractor) : Type 0 where
  pub present : all_below (length (view_in t').trees) (numbers_of rs) ≡ true
  pub trees : exprs_in (view_in t').trees (numbers_of rs) ≡ w.0
  pub extractor : extractor_of (view_in t') x' ≡ w.1
  pub inside : Inside (view_in t') x'
  pub few : length x'.entries ≤ length (view_in t').trees
  pub grows : Grows (model_of t) (model_of t')
  pub numbers : Numbered (model_of t) w.1.next (model_of t')
  pub spent : Within (model_of t).used (list_space w.0) (model_of t').used

abbrev pub AnsweredAll : Tables → List Expr × Routing.Extractor → Result (Unit {0}) Fault → List ExprId → Tables → Extractor → Type 0
AnsweredAll t w (Ok v) rs t' x' = WalkedAll t w rs t' x'
AnsweredAll t w (Err f) rs t' x' = Stopped t (list_space w.0) w.1 f

abbrev pub with_by : List Key → List Expr → List Key
with_by [] es = []
with_by (k ∷ ks) [] = []
with_by (k ∷ ks) (e ∷ es) = record { by = e; direction = k.direction } ∷ with_by ks es
