use Rattle.std.proofs.Common.{◌≡◌, ℕ, true, leb, List, map, length, set, refl, ap, ◌∙◌, arith, lit<, length-set}
use lib.Seq.{map-set}
use Rattle.std.proofs.lemmas.Bool.{and_parts, leb-true}
use Rattle.table.specs.Contents.{part}
use Rattle.table.proofs.Parts.{length_part}
use Rattle.plan.specs.Calls.{all_below, between, union_of}
use Rattle.plan.specs.Model.{plans_in}
use Rattle.terms.specs.Views.{View}
use Rattle.entries.specs.declared.node.PlanId.{PlanId}
use Rattle.entries.specs.Entries.{input_of}
use Rattle.tables.specs.Holding.{view_in, trees_in, plan_count}
use Rattle.stored.specs.Making.{input_numbers}
use Rattle.stored.specs.Stored.{run_in, run_numbers}
use Rattle.stored.specs.declared.node.NewNode.TheVariants.{Union}
use Rattle.entries.specs.declared.node.Run.{Run}
use Rattle.tables.proofs.Lent.{entries-lent}
use Rattle.swapping.proofs.Remade.{copy-long, inputs-copied, below_set, made-anew}
use Rattle.swapping.proofs.remaking.remake_union.Goals as goal

pub copied-own-requires : goal.copied-own-requires
copied-own-requires c =
    let l = c.args.inputs in
    omega (arith, ap length (entries-lent c.args.tables.now _ c.terms.ensures c.args.inputs _ c.entries.ensures), length_part (view_in c.args.tables.now).entries l.first l.count (leb-true _ _ c.requires.run), leb-true _ _ (and_parts (leb 1 l.count) (leb l.count 8) c.requires.few).1)

pub set-requires : goal.set-requires
set-requires c =
    let e = c.copied-own.ensures ∙ ap (map input_of) (entries-lent c.args.tables.now _ c.terms.ensures c.args.inputs _ c.entries.ensures) in
    (lit< tt, omega (arith, c.requires.position, copy-long (view_in c.args.tables.now) c.args.inputs input_of c.copied-own.result e c.requires.run))

-- the numbers that are lent, and how many there are
lent : (v : View) (l : Run) (xs ys : List PlanId) (k : ℕ) (i : PlanId) → xs ≡ map input_of (part v.entries l.first l.count) → run_in v.entries l ≡ true → ys ≡ set xs k i
    → (input_numbers ys ≡ set (run_numbers v.entries l) k i.0) × (length ys ≡ l.count)
lent v l xs ys k i e h s =
    (ap input_numbers s ∙ map-set (λ p. p.0) xs k i ∙ ap (λ ns. set ns k i.0) (inputs-copied v.entries l xs e), ap length s ∙ length-set xs k i ∙ copy-long v l input_of xs e h)

pub make-requires : goal.make-requires
make-requires c =
    let t = c.args.tables.now in
    let l = c.args.inputs in
    let x = lent (view_in t) l c.copied-own.result _ c.args.position c.args.input (c.copied-own.ensures ∙ ap (map input_of) (entries-lent c.args.tables.now _ c.terms.ensures c.args.inputs _ c.entries.ensures)) c.requires.run (c.as_slice.ensures ∙ c.set.ensures) in
    record {
      present = ap (all_below (plan_count t)) x.0 ∙ below_set (plan_count t) (run_numbers (view_in t).entries l) c.args.position c.args.input.0 c.requires.input c.requires.present;
      bounded = ap (between 1 8) x.1 ∙ c.requires.few;
      named = refl;
      placed = refl;
    }

pub returns : goal.returns
returns c =
    let t = c.args.tables.now in
    let l = c.args.inputs in
    let x = lent (view_in t) l c.copied-own.result _ c.args.position c.args.input (c.copied-own.ensures ∙ ap (map input_of) (entries-lent c.args.tables.now _ c.terms.ensures c.args.inputs _ c.entries.ensures)) c.requires.run (c.as_slice.ensures ∙ c.set.ensures) in
    made-anew t (Union c.as_slice.result) _ _ tt (ap (λ ns. union_of (plans_in (trees_in t) ns)) x.0) x.0 c.make.result _ c.make.ensures.made
