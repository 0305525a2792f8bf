-- That a node is a Projection, as a caller of a merge knows it: from what the node's record says.
use Rattle.std.proofs.Common.{ℕ, ltb}
use Rattle.std.proofs.lemmas.Bool.{and_parts, leb-true, ltb-true}
use Rattle.entries.specs.declared.node.PlanId.{PlanId}
use Rattle.entries.specs.declared.node.Run.{Run}
use Rattle.tables.proofs.Inputs.{NodeReads}
use Rattle.tables.specs.Holding.{view_in}
use Rattle.stored.specs.Stored.{list_in}
use Rattle.stored.specs.declared.node.PlanNode.TheVariants.{Projection}
use Rattle.tables.specs.declared.tables.Tables.{Tables}
use Rattle.merging.specs.Merging.{IsProjection}

pub is-projection : (t : Tables) (p : ℕ) (under : PlanId) (list : Run) → NodeReads t p (Projection under list) → IsProjection t p under list
is-projection t p under list h =
    let q = and_parts (ltb under.0 p) (list_in (view_in t) list) h.inside in
    record { tree = h.tree; lower = ltb-true under.0 p q.0; there = q.1; few = leb-true list.count 64 h.accepted }
