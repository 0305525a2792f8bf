use Rattle.std.proofs.Common.{◌≡◌, true, map, length, take}
use Rattle.plan.specs.Calls.{all_below}
use Rattle.plan.specs.Model.{exprs_in}
use Rattle.rewriting.specs.Routing.{unalias}
use Rattle.terms.specs.Views.{count, numbers_of, view_of}
use Rattle.merging.proofs.merge.all_unaliased.Given as goal

abbrev pub invariant-loop-e : goal.invariant-loop-e
invariant-loop-e l = record {
  trees : exprs_in (view_of l.terms).trees (numbers_of l.bare) ≡ map unalias (exprs_in (view_of l.terms).trees (numbers_of (take l.e-index l.list)));
  present : all_below (count l.terms) (numbers_of l.bare) ≡ true;
  counted : length l.bare ≡ l.e-index;
}
