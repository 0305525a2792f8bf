-- From a node that was made anew and given its origin to what a swap promises.
use Rattle.std.proofs.Common.{◌≡◌, ℕ, ◌&&◌, eqb, ltb, List, [], ◌∷◌, length, get_or, set, None, sym, ap, ◌∙◌, ap₂}
use lib.Seq.{set_at}
use Rattle.std.proofs.lemmas.List.{get_or_at}
use Rattle.plan.specs.Calls.{below}
use Rattle.plan.specs.Faults.{Asked, first_no}
use Rattle.plan.specs.Model.{Model, Node, no_node, count_of, tree_at, origin_at, inputs_at}
use Rattle.plan.specs.Swapping.{swap_tree, Swapped}
use Rattle.plan.specs.declared.fault.Question.TheVariants.{Present, Bounded, SameOrigin}
use Rattle.tables.specs.Origins.{OriginGiven}
use Rattle.swapping.specs.Remaking.{tree_asked, TreeStored}
use Rattle.asking.proofs.Questions.{AllYes, go_on}

-- the questions of the call itself
abbrev pub swap_own : Model → ℕ → ℕ → ℕ → List Asked
swap_own m i k j =
    (Present, below (count_of m) i && below (count_of m) j) ∷ (Bounded, ltb k (length (inputs_at m i)))
    ∷ (SameOrigin, eqb (origin_at m (get_or (inputs_at m i) k 0)) (origin_at m j)) ∷ []

pub swapped : (m n m' : Model) (i k j r o : ℕ) → AllYes (swap_own m i k j) → first_no (tree_asked m (swap_tree m i k j)) ≡ None → TreeStored m (swap_tree m i k j) (set (inputs_at m i) k j) r n → o ≡ origin_at m i → OriginGiven n r o m' → Swapped m i k j r m'
swapped m n m' i k j r o own asked s e g =
    let new : Node = record { tree = swap_tree m i k j; origin = count_of m } in
    let tree : tree_at n r ≡ swap_tree m i k j = ap (λ x. x.tree) (ap (λ l. get_or l r no_node) s.plans ∙ get_or_at m.plans new [] no_node r (sym s.number)) in
    record {
      accepted = go_on (swap_own m i k j) (tree_asked m (swap_tree m i k j)) own ∙ asked;
      number = s.number;
      functions = g.functions ∙ s.functions;
      exprs = g.exprs ∙ s.exprs;
      plans = g.plans ∙ ap₂ (λ l x. set l r x) s.plans (ap₂ (λ x y. record { tree = x; origin = y }) tree e) ∙ set_at m.plans new [] _ r (sym s.number);
      inputs = g.inputs ∙ s.inputs;
      bytes = s.bytes;
      text = g.text ∙ s.text;
      used = g.used ∙ s.used;
    }
