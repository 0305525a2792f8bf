-- The fields of a new node, drafted; cited by src/tables/adding.rt.
--     DraftOf v o g fs n ds      ds are drafts of the fields fs, whose rendered names have n bytes
--     ShownDraft t n ds      ds are drafts of the fields of the node that n would be
use Rattle.std.specs.Prelude.{◌≡◌, ℕ, true, List, map, sum_by}
use Rattle.plan.specs.Terms.{Field}
use Rattle.plan.specs.Fields.{every}
use Rattle.plan.specs.Calls.{rendered_bytes}
use Rattle.plan.specs.Plans.{fields_of}
use Rattle.plan.specs.Questions.{shown_expressions}
use Rattle.terms.specs.Views.{View}
use Rattle.draft.specs.Drafts.{draft_field, draft_in, draft_bytes}
use Rattle.draft.specs.declared.word.DraftField.{DraftField}
use Rattle.tables.specs.Holding.{view_in}
use Rattle.tables.specs.Making.{tree_for}
use Rattle.stored.specs.Placing.{lent_owner, lent_given}
use Rattle.stored.specs.declared.node.NewNode.{NewNode}
use Rattle.tables.specs.declared.tables.Tables.{Tables}

pub record DraftOf (v : View) (o g : List ℕ) (fs : List Field) (n : ℕ) (ds : List DraftField) : Type 0 where
  pub fields : map (draft_field v o g) ds ≡ fs
  pub inside : every (draft_in v o g) ds ≡ true
  pub bytes : draft_bytes v ds ≡ n

abbrev pub ShownDraft : Tables → NewNode → List DraftField → Type 0
ShownDraft t n ds =
    DraftOf (view_in t) (lent_owner n) (lent_given n) (fields_of (view_in t).functions (tree_for t n)) (sum_by (rendered_bytes (view_in t).functions) (shown_expressions (tree_for t n))) ds
