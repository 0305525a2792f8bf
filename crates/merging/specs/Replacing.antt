-- Fields of the tables with what stands in for them; cited by src/replacing.rt.
--     map_of v m      them, as the definitions have them
--     MapIn v m      there is one expression for each field, and all stand in the tables
--     replaced v m e      the expression with what m has for its references
use Rattle.std.specs.Prelude.{◌≡◌, ℕ, true, map, length}
use Rattle.plan.specs.Calls.{all_below}
use Rattle.plan.specs.Fields.{every}
use Rattle.plan.specs.Model.{expr_in, exprs_in}
use Rattle.plan.specs.Terms.{Expr}
use Rattle.rewriting.specs.Extracting
use Rattle.rewriting.specs.Extracting.{replace_cols_by_name}
use Rattle.entries.specs.Spans.{stored_field, stored_in}
use Rattle.terms.specs.Views.{View, numbers_of}
use Rattle.merging.specs.declared.replacing.ReplaceMap.{ReplaceMap}

abbrev pub map_of : View → ReplaceMap → Extracting.ReplaceMap
map_of v m = (map (stored_field v.bytes) m.fields.now, exprs_in v.trees (numbers_of m.behind.now))

pub record MapIn (v : View) (m : ReplaceMap) : Type 0 where
  pub stored : every (stored_in v.bytes) m.fields.now ≡ true
  pub present : all_below (length v.trees) (numbers_of m.behind.now) ≡ true
  pub counted : length m.behind.now ≡ length m.fields.now

abbrev pub replaced : View → ReplaceMap → ℕ → Expr
replaced v m e = replace_cols_by_name (map_of v m) (expr_in v.trees e)
