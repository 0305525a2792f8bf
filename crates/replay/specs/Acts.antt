-- Calls as values; cited by src/performing.rt.
--     request_of a      the call that a value stands for
--     answer_of r      the answer that a value stands for
--     steps_of acts answers      each call with its answer, as long as there are both
use Rattle.std.specs.Prelude.{ℕ, List, [], ◌∷◌, Result, Ok, Err}
use Rattle.plan.specs.Calls.{Answer}
use Rattle.plan.specs.Calls.Answer.{made, refused}
use Rattle.plan.specs.Calls.Call.{make_literal, make_reference, make_alias, make_call, make_table, make_projection, make_filter, make_sort, make_limit, make_aggregate, make_join, make_subquery_alias, make_union}
use Rattle.plan.specs.declared.fault.Fault.{Fault}
use Rattle.plan.specs.Terms.Literal.{null, truth, whole, real, text}
use Rattle.rewriting.specs.Book.{Request, Step}
use Rattle.rewriting.specs.Book.Request.{build, swap}
use Rattle.building.specs.Keys.{key_pairs}
use Rattle.stored.specs.Making.{input_numbers}
use Rattle.expression.specs.Building.{given_field}
use Rattle.terms.specs.Views.{numbers_of}
use Rattle.replay.specs.declared.act.Act.{Act}
use Rattle.replay.specs.declared.act.Act.TheVariants.{Null, Truth, Whole, Real, Text, Reference, Alias, Call, Table, Projection, Filter, Sort, Limit, Aggregate, Join, SubqueryAlias, Union, Swap}

abbrev pub request_of : Act → Request
request_of Null = build (make_literal null)
request_of (Truth b) = build (make_literal (truth b))
request_of (Whole n) = build (make_literal (whole n))
request_of (Real x) = build (make_literal (real x))
request_of (Text bytes) = build (make_literal (text bytes.now))
request_of (Reference name qualifier) = build (make_reference (given_field name.now qualifier))
request_of (Alias inner name qualifier) = build (make_alias inner.0 (given_field name.now qualifier))
request_of (Call function arguments) = build (make_call function (numbers_of arguments.now))
request_of (Table qualifier names) = build (make_table qualifier.now names.now)
request_of (Projection input list) = build (make_projection input.0 (numbers_of list.now))
request_of (Filter input predicate) = build (make_filter input.0 predicate.0)
request_of (Sort input keys) = build (make_sort input.0 (key_pairs keys.now))
request_of (Limit input skip count) = build (make_limit input.0 skip count)
request_of (Aggregate input groups totals) = build (make_aggregate input.0 (numbers_of groups.now) (numbers_of totals.now))
request_of (Join kind left right on) = build (make_join kind left.0 right.0 (numbers_of on.now))
request_of (SubqueryAlias input name) = build (make_subquery_alias input.0 name.now)
request_of (Union inputs) = build (make_union (input_numbers inputs.now))
request_of (Swap node position input) = swap node.0 position input.0

abbrev pub answer_of : Result ℕ Fault → Answer
answer_of (Ok n) = made n
answer_of (Err f) = refused f

abbrev pub steps_of : List Act → List (Result ℕ Fault) → List Step
steps_of [] rs = []
steps_of (a ∷ acts) [] = []
steps_of (a ∷ acts) (r ∷ rs) = (request_of a, answer_of r) ∷ steps_of acts rs
