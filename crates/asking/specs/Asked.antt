-- A node that is asked whether it may be made, with the tables that it is to stand in.
--     functions_for a      the functions that its expressions call
--     new_tree a, new_fields a      the tree that it would be, and its fields
use Rattle.std.specs.Prelude.{List}
use Rattle.plan.specs.Functions.{Functions}
use Rattle.plan.specs.Terms.{Field}
use Rattle.plan.specs.Plans.{Plan, fields_of}
use Rattle.tables.specs.Holding.{view_in}
use Rattle.tables.specs.Making.{tree_for}
use Rattle.asking.specs.declared.asked.Asked.{Asked}

abbrev pub functions_for : Asked → Functions
functions_for a = (view_in a.tables.now).functions

abbrev pub new_tree : Asked → Plan
new_tree a = tree_for a.tables.now a.node

abbrev pub new_fields : Asked → List Field
new_fields a = fields_of (functions_for a) (new_tree a)
