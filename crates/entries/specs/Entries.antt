-- What an entry of a list is read as.
--     entry_number e      the number that it names
--     expr_of e, input_of e      the expression, or the node, of that number
use Rattle.std.specs.Prelude.{ℕ}
use Rattle.entries.specs.declared.node.Entry.{Entry}
use Rattle.entries.specs.declared.node.Entry.TheVariants.{Expression, Key, Input}
use Rattle.entries.specs.declared.node.ExprId.{ExprId}
use Rattle.entries.specs.declared.node.PlanId.{PlanId}

abbrev pub entry_number : Entry → ℕ
entry_number (Expression e) = e.0
entry_number (Key e d) = e.0
entry_number (Input p) = p.0

abbrev pub expr_of : Entry → ExprId
expr_of e = record { 0 = entry_number e }

abbrev pub input_of : Entry → PlanId
input_of e = record { 0 = entry_number e }
