use Rattle.std.proofs.Common.{◌≡◌, true, [], ◌∷◌, length, sym, refl, ap, ◌∙◌, subst}
use Rattle.std.proofs.lemmas.List.{length-map}
use Rattle.std.proofs.lemmas.Bool.{and_parts}
use Rattle.plan.specs.Calls.Call.{make_union}
use Rattle.plan.specs.Calls.{between, node_outlay}
use Rattle.plan.specs.declared.fault.Question.TheVariants.{Present, Bounded}
use Rattle.tables.specs.Holding.{view_in}
use Rattle.stored.specs.Making.{input_numbers}
use Rattle.tables.specs.Making.{tree_for}
use Rattle.stored.specs.declared.node.NewNode.TheVariants.{Union}
use Rattle.building.proofs.NodeAnswers.{plan-answers}
use Rattle.building.proofs.wider.union.Goals as goal

pub are_alike-requires : goal.are_alike-requires
are_alike-requires c = sym c.has_inputs.ensures ∙ c.in_ok-ask.ensures

pub make-requires : goal.make-requires
make-requires c =
    let ps = c.args.inputs.now in
    record {
      present = sym c.has_inputs.ensures ∙ c.in_ok-ask.ensures;
      bounded = subst (λ n. between 1 8 n ≡ true) (length-map ps (λ p. p.0)) (and_parts (between 1 8 (length (input_numbers ps))) _ (sym c.are_alike.ensures ∙ c.in_ok-ask-2.ensures)).0;
      named = refl;
      placed = refl;
    }

pub returns : goal.returns
returns c =
    let t = c.args.tables.now in
    let ps = c.args.inputs.now in
    plan-answers t (Union c.args.inputs) (make_union (input_numbers ps)) ((Present, _) ∷ (Bounded, _) ∷ [])
    (record { asks = refl; own_first = refl; exprs = refl; plans = refl; inputs = refl; costs = ap (λ k. node_outlay (view_in t).functions (tree_for t (Union c.args.inputs)) k 0) (length-map ps (λ p. p.0)); number = refl })
    (sym c.has_inputs.ensures ∙ c.in_ok-ask.ensures, (sym c.are_alike.ensures ∙ c.in_ok-ask-2.ensures, tt))
    c.make.result _
    c.make.ensures.made
