-- A list that was put into the list table; cited by src/placing.rt.
--     ListedAs v es r v'      the run r of v' is the list es, which was put behind the lists of v
use Rattle.std.specs.Prelude.{◌≡◌, true, List, [], length}
use Rattle.table.specs.Contents.{part}
use Rattle.terms.specs.Views.{View, grown}
use Rattle.entries.specs.declared.node.Entry.{Entry}
use Rattle.stored.specs.Stored.{run_in}
use Rattle.entries.specs.declared.node.Run.{Run}

pub record ListedAs (v : View) (es : List Entry) (r : Run) (v' : View) : Type 0 where
  pub view : v' ≡ grown v [] [] es
  pub run : run_in v'.entries r ≡ true
  pub count : r.count ≡ length es
  pub list : part v'.entries r.first r.count ≡ es
