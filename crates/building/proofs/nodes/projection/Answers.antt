use Rattle.std.proofs.Common.{not, leb, [], ◌∷◌, length, sym, refl, ap, ◌∙◌, arith}
use Rattle.std.proofs.lemmas.Grind.{common_steps}
use Rattle.std.proofs.lemmas.List.{length-map}
use Rattle.std.proofs.lemmas.Bool.{and_parts}
use Rattle.plan.specs.Calls.Call.{make_projection}
use Rattle.plan.specs.Calls.{between, node_outlay}
use Rattle.terms.specs.Views.{numbers_of}
use Rattle.plan.specs.declared.fault.Question.TheVariants.{Present, Bounded, Placed}
use Rattle.tables.specs.Holding.{view_in}
use Rattle.tables.proofs.Lent.{totals-lent}
use Rattle.tables.specs.Making.{tree_for}
use Rattle.stored.specs.declared.node.NewNode.TheVariants.{Projection}
use Rattle.building.proofs.NodeAnswers.{plan-answers}
use Rattle.building.proofs.nodes.projection.Goals as goal

pub make-requires : goal.make-requires
make-requires c =
    let l = c.args.list.now in
    record {
      present = sym c.has_list.ensures ∙ c.in_ok-ask.ensures;
      bounded = (and_parts (leb 1 (length l)) _ (sym c.is_count.ensures ∙ c.in_ok-ask-2.ensures)).1;
      named = refl;
      placed = ap not (sym (c.any_total.ensures ∙ totals-lent c.args.tables.now _ c.terms.ensures (numbers_of c.args.list.now))) ∙ c.in_ok-ask-3.ensures;
    }

pub returns-in_err-ask-3 : goal.returns-in_err-ask-3
returns-in_err-ask-3 c =
    let lent = c.any_total.ensures ∙ totals-lent c.args.tables.now _ c.terms.ensures (numbers_of c.args.list.now) in
    grind (arith, common_steps)

pub returns : goal.returns
returns c =
    let t = c.args.tables.now in
    plan-answers t (Projection c.args.input c.args.list) (make_projection c.args.input.0 (numbers_of c.args.list.now)) ((Present, _) ∷ (Bounded, _) ∷ (Placed, _) ∷ [])
    (record { asks = refl; own_first = refl; exprs = refl; plans = refl; inputs = refl; costs = ap (λ k. node_outlay (view_in t).functions (tree_for t (Projection c.args.input c.args.list)) k 0) (length-map c.args.list.now (λ e. e.0)); number = refl })
    (sym c.has_list.ensures ∙ c.in_ok-ask.ensures, (ap (between 1 64) (length-map c.args.list.now (λ e. e.0)) ∙ sym c.is_count.ensures ∙ c.in_ok-ask-2.ensures, (ap not (sym (c.any_total.ensures ∙ totals-lent t _ c.terms.ensures (numbers_of c.args.list.now))) ∙ c.in_ok-ask-3.ensures, tt)))
    c.make.result _
    c.make.ensures.made
