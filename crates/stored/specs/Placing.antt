-- How a new node's names and lists are put into the tables; cited by src/placing.rt and src/own.rt.
--     own_text n, own_entries n      the bytes and the list entries that it adds
--     lent_owner n, lent_given n      the name that its fields take as qualifier; the names of its fields
--     PlacedAs v k n r v'      the record's node over the tables afterwards
use Rattle.std.specs.Prelude.{◌≡◌, ℕ, true, List, [], ◌++◌, map}
use Rattle.plan.specs.Terms.{Field}
use Rattle.plan.specs.Plans.{Plan, fields_of}
use Rattle.names.specs.Spans.{word}
use Rattle.draft.specs.Drafts.{LentIn}
use Rattle.terms.specs.Views.{View, grown}
use Rattle.entries.specs.declared.node.Entry.{Entry}
use Rattle.entries.specs.declared.node.Entry.TheVariants.{Expression, Input}
use Rattle.stored.specs.Keys.{key_entry}
use Rattle.stored.specs.Stored.{build_plan_node, node_inputs, inside_node, accepted_node}
use Rattle.stored.specs.Making.{tree_over, inputs_for, well_named}
use Rattle.stored.specs.declared.node.NewNode.{NewNode}
use Rattle.stored.specs.declared.node.PlanNode.{PlanNode}
use Rattle.stored.specs.declared.node.NewNode.TheVariants.{Table, Projection, Filter, Sort, Limit, Aggregate, Join, SubqueryAlias, Union}
use Rattle.stored.specs.declared.placing.Placed.{Placed}

abbrev pub own_text : NewNode → List ℕ
own_text (Table q ns) = q.now ++ ns.now
own_text (Projection i l) = []
own_text (Filter i e) = []
own_text (Sort i ks) = []
own_text (Limit i s c) = []
own_text (Aggregate i gs us) = []
own_text (Join k l r cs) = []
own_text (SubqueryAlias i n) = n.now
own_text (Union is) = []

abbrev pub own_entries : NewNode → List Entry
own_entries (Table q ns) = []
own_entries (Projection i l) = map Expression l.now
own_entries (Filter i e) = []
own_entries (Sort i ks) = map key_entry ks.now
own_entries (Limit i s c) = []
own_entries (Aggregate i gs us) = map Expression gs.now ++ map Expression us.now
own_entries (Join k l r cs) = map Expression cs.now
own_entries (SubqueryAlias i n) = []
own_entries (Union is) = map Input is.now

abbrev pub lent_owner : NewNode → List ℕ
lent_owner (Table q ns) = q.now
lent_owner (Projection i l) = []
lent_owner (Filter i e) = []
lent_owner (Sort i ks) = []
lent_owner (Limit i s c) = []
lent_owner (Aggregate i gs us) = []
lent_owner (Join k l r cs) = []
lent_owner (SubqueryAlias i n) = n.now
lent_owner (Union is) = []

abbrev pub lent_given : NewNode → List ℕ
lent_given (Table q ns) = ns.now
lent_given (Projection i l) = []
lent_given (Filter i e) = []
lent_given (Sort i ks) = []
lent_given (Limit i s c) = []
lent_given (Aggregate i gs us) = []
lent_given (Join k l r cs) = []
lent_given (SubqueryAlias i n) = []
lent_given (Union is) = []

-- a node that brings no names
abbrev pub namelessly : PlanNode → Placed
namelessly n = record { node = n; lent = record { owner = record { start = 0; len = 0 }; given = record { start = 0; len = 0 } } }

pub record PlacedAs (v : View) (k : ℕ) (n : NewNode) (r : Placed) (v' : View) : Type 0 where
  pub view : v' ≡ grown v [] (own_text n) (own_entries n)
  pub inside : inside_node v' k r.node ≡ true
  pub accepted : well_named n ≡ true → accepted_node v'.bytes r.node ≡ true
  pub tree : (fs : List Field) (ts : List Plan) → fs ≡ fields_of v.functions (tree_over v k ts n) → build_plan_node v' fs ts r.node ≡ tree_over v k ts n
  pub inputs : node_inputs v'.entries r.node ≡ inputs_for n
  pub lent : LentIn v'.bytes r.lent
  pub owner : word v'.bytes r.lent.owner ≡ lent_owner n
  pub given : word v'.bytes r.lent.given ≡ lent_given n
