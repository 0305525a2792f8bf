use Rattle.terms.proofs.terms.Terms.+is_total.Given as goal

abbrev pub decreases-is_total : goal.decreases-is_total
decreases-is_total l = l.e.0
