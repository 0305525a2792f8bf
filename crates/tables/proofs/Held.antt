-- The facts of the tables of a book, as its ghost fields have them.
use Rattle.std.proofs.Common.{◌≡◌, ℕ, ◌<◌, [], length, get_or, sym, ap, ◌∙◌, arith}
use Rattle.std.proofs.lemmas.List.{get_or-map}
use Rattle.std.proofs.lemmas.Bool.{leb-true}
use Rattle.tables.specs.Holding.{view_in, trees_in, plan_count}
use Rattle.tables.specs.Reading.{ReadsAs}
use Rattle.stored.specs.Stored.{build_plan_node, node_inputs}
use Rattle.stored.specs.declared.node.PlanRecord.{PlanRecord}
use Rattle.tables.specs.declared.tables.Tables.{Tables}
use Rattle.stored.proofs.PlanFacts.{PlanFacts, plan-at, nodes-length}

pub facts-in : (t : Tables) → PlanFacts (view_in t) t.fields t.plans
facts-in t = record { are-stored = t.stored; are-sound = t.sound; are-fielded = t.fielded; have-sizes = t.sizes; are-formed = t.formed }

pub counted : (t : Tables) → plan_count t ≡ length t.plans
counted t = nodes-length (view_in t) t.fields t.plans

pub reads_as : (t : Tables) (i : ℕ) (r : PlanRecord) → i < plan_count t → r ≡ get_or t.plans i r → ReadsAs t i r
reads_as t i r lt e =
    let a = plan-at (view_in t) t.fields t.plans i r (facts-in t) (omega (arith, counted t)) e in
    record {
      tree = a.tree ∙ ap (λ fs. build_plan_node (view_in t) fs (trees_in t) r.node) a.has-fields;
      inside = a.inside;
      accepted = a.accepted;
      inputs = get_or-map (λ x. node_inputs (view_in t).entries x.node) t.plans i r [] (omega (arith, counted t)) ∙ ap (λ x. node_inputs (view_in t).entries x.node) (sym e);
      run = a.run;
      few = leb-true _ _ a.few;
      fields = a.has-fields;
      size = a.has-size;
      origin = a.has-origin;
      older = leb-true _ _ a.old-origin;
      small = leb-true _ _ a.small;
      formed = a.is-formed;
    }
