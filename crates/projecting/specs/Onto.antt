-- Expressions that are made and put behind those of a list.
--     Held t fs      fields inside the text, well formed, and with no number that the book does not have
--     Onto t es low before ids t'      ids is before and what stands for the expressions es, made as ListMade says
--     OntoBy t es low before r ids t'      it is so; or the places of es do not fit
use Rattle.std.specs.Prelude.{◌≡◌, ℕ, ◌<◌, true, List, ◌++◌, map, Ok, Err, Result}
use Rattle.extracting.specs.Walking.{NoRoom}
use Rattle.plan.specs.Calls.{good_field}
use Rattle.plan.specs.Fields.{every}
use Rattle.plan.specs.Terms.{Expr, Field}
use Rattle.plan.specs.declared.fault.Fault.{Fault}
use Rattle.rewriting.specs.Generated.{highest, list_names, next_number}
use Rattle.rewriting.specs.Outlay.{list_space}
use Rattle.rows.specs.Standing.{refs}
use Rattle.stepping.specs.Lists.{ListMade}
use Rattle.tables.specs.Holding.{model_of, view_in}
use Rattle.entries.specs.Spans.{stored_field, stored_in}
use Rattle.entries.specs.declared.node.ExprId.{ExprId}
use Rattle.entries.specs.declared.node.StoredField.{StoredField}
use Rattle.tables.specs.declared.tables.Tables.{Tables}

abbrev pub fields_in : Tables → List StoredField → List Field
fields_in t fs = map (stored_field (view_in t).bytes) fs

pub record Held (t : Tables) (fs : List StoredField) : Type 0 where
  pub stored : every (stored_in (view_in t).bytes) fs ≡ true
  pub good : every good_field (fields_in t fs) ≡ true
  pub numbers : highest 0 (list_names (refs (fields_in t fs))) < next_number (model_of t)

pub record Onto (t : Tables) (es : List Expr) (low : ℕ) (before ids : List ExprId) (t' : Tables) : Type 0 where
  pub more : List ExprId
  pub is : ids ≡ before ++ more
  pub made : ListMade t es low more t'

abbrev pub OntoBy : Tables → List Expr → ℕ → List ExprId → Result (Unit {0}) Fault → List ExprId → Tables → Type 0
OntoBy t es low before (Ok v) ids t' = Onto t es low before ids t'
OntoBy t es low before (Err f) ids t' = NoRoom t (list_space es) f
