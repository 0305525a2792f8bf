-- The sample run, each step by computing.
use Rattle.std.proofs.Common.{◌≡◌, ℕ, zero, suc, ◌+◌, ◌<◌, ◌≤◌, [], ◌∷◌, ◌++◌, get_or, refl, inl, arith, lit<, lit≤}
use Rattle.plan.specs.Model.{Model, space, inputs_at, no_node, tree_at}
use Rattle.plan.specs.Calls.Answer.{made as made_node}
use Rattle.plan.specs.Plans.Plan.{limit}
use Rattle.rows.specs.Standing.{Good}
use Rattle.rows.specs.Lists.{keep}
use Rattle.rows.specs.Rows.{may_mean, seek, under}
use Rattle.rows.specs.Standing.{pads_left, pads_right}
use Rattle.rewriting.specs.Generated.{book_names, countable, digits_onto, expr_names, field_names, generated, highest, list_names, literal_names, next_number, node_names, plan_names, qualifier_names}
use Rattle.plan.specs.Swapping.{count_inputs, own_bytes, own_entries, own_space}
use Rattle.rewriting.specs.Outlay.{after_walk, charged, entries_of, list_space, start_at, tree_space}
use Rattle.rewriting.specs.Routing.{has_all_column_refs, have_all_column_refs, same_side, owner_of, find_sole_input, find_owning_input, empty_extractor, need, needs, noted, entered, add_extracted, taken_if, under_alias, under_call, routing_extract, routing_extracts, routing_extract_all, routing_extract_keys, unalias, pairs_of, needed_of, schema_columns, holds_marked, hold_marked, has_extractable_expr}
use Rattle.rewriting.specs.Extracting.{and_then, made_if, made, add_pair, add_pairs, add_column, add_columns, merged, freshly, build_extraction_projection_impl, stage_of, build_extraction_projection, same_fields, by_place, build_recovery_projection, rebuilt, when_new, extract_from_plan, remade, replace_cols_by_name, replace_cols_by_names, resolved_in, extraction_space, when_extractable}
use Rattle.rewriting.specs.Pushing.{is_extracted, enter, captured, back_to, walked, split_one, split_all, same_set, recover_push, or_in_place, push_split, split_and_push, or_keep, worker, not_tried, into_one, remap, remap_pairs, remap_columns, remapped, into_subquery_alias, is_one, is_two, place_if, side_allows, into_join, is_pure, into_projection, same_places, aliases_of, places_in, fits_places, all_fit_places, united, into_union, work, works, closed, push, is_extraction, shows_aliases, placed, rebuilt_over, column_set, column_or, has_pairs, routable, to_one, to_two, route_to_inputs, when_routed, is_pure_extraction_projection}
use Rattle.plan.specs.Terms.Expr.{reference}
use Rattle.rewriting.specs.Worked.{functions, event, log, with_e, E, spot}
use Rattle.rewriting.specs.Book.{Added, Helpers, Standing, Answers}
use Rattle.rewriting.specs.Book.Request.{extract, swap}
use Rattle.rewriting.specs.Sample.{SampleRun, kind, holding, node, five_exprs, five_nodes, five_inputs, two_nodes, asked, rebuilt as rebuilt_filter, recovery, sample_end}

-- the nodes before the extract, and before the swap
abbrev before : Model
before = holding five_exprs two_nodes ([] ∷ (0 ∷ []) ∷ []) (space 5 2 4 4 30)

abbrev after : Model
after = holding five_exprs five_nodes five_inputs (space 5 5 9 12 30)

abbrev limited : Model
limited = holding five_exprs (five_nodes ++ node (limit 0 3 asked) 5 ∷ []) (five_inputs ++ (1 ∷ []) ∷ []) (space 5 6 9 14 30)

good-log : Good functions log
good-log = record { resolves = tt; lists = tt; limits = tt }

good-helper : Good functions with_e
unfolding generated digits_onto
good-helper = (record { resolves = tt; lists = tt; limits = tt }, good-log)

good-rebuilt : Good functions rebuilt_filter
unfolding generated digits_onto
good-rebuilt = (record { resolves = tt; lists = tt; limits = tt }, good-helper)

helpers : Helpers before (node with_e 2 ∷ node rebuilt_filter 3 ∷ []) ((0 ∷ []) ∷ (2 ∷ []) ∷ [])
helpers = record { long = refl; origins = origins; good = (good-helper, (good-rebuilt, tt)) }
  where
    origins : (k : ℕ) → k < 2 → (get_or (node with_e 2 ∷ node rebuilt_filter 3 ∷ []) k no_node).origin ≡ 2 + k
    origins zero h = refl
    origins (suc zero) h = refl
    origins (suc (suc k)) h = absurd (omega arith)

extract-adds : Added before recovery 1 4 after
extract-adds = record {
  helpers = node with_e 2 ∷ node rebuilt_filter 3 ∷ [];
  numbers = (0 ∷ []) ∷ (2 ∷ []) ∷ [];
  theirs = helpers;
  own = 3 ∷ [];
  exprs = [];
  text = [];
  number = refl;
  functions_same = refl;
  exprs_longer = refl;
  plans_longer = refl;
  inputs_longer = refl;
  text_longer = refl;
  stand = stand;
}
  where
    stand : (k : ℕ) → 2 ≤ k → k < 5 → Standing five_nodes k (inputs_at after k) (tree_at after k)
    stand zero c d = absurd (omega arith)
    stand (suc zero) c d = absurd (omega arith)
    stand (suc (suc zero)) c d = ((lit< tt, tt), refl)
    stand (suc (suc (suc zero))) c d = ((lit< tt, tt), refl)
    stand (suc (suc (suc (suc zero)))) c d = ((lit< tt, tt), refl)
    stand (suc (suc (suc (suc (suc k))))) c d = absurd (omega arith)

extracted-node : Answers before (extract 1) (made_node 4) after
unfolding keep start_at charged after_walk entries_of tree_space list_space count_inputs own_entries own_bytes own_space literal_names field_names qualifier_names expr_names may_mean seek under pads_left pads_right digits_onto generated countable schema_columns has_all_column_refs have_all_column_refs same_side owner_of find_sole_input find_owning_input empty_extractor need needs noted entered add_extracted taken_if under_alias under_call routing_extract routing_extracts routing_extract_all routing_extract_keys unalias pairs_of needed_of and_then made_if made add_pair add_pairs add_column add_columns merged freshly build_extraction_projection_impl stage_of build_extraction_projection same_fields by_place build_recovery_projection rebuilt when_new extract_from_plan is_extracted enter captured back_to walked split_one split_all same_set recover_push or_in_place push_split split_and_push or_keep worker not_tried into_one remap remap_pairs remap_columns remapped into_subquery_alias is_one is_two place_if side_allows into_join is_pure into_projection same_places aliases_of places_in fits_places all_fit_places united into_union work works closed push list_names plan_names node_names book_names next_number highest holds_marked hold_marked has_extractable_expr remade replace_cols_by_name replace_cols_by_names resolved_in extraction_space when_extractable is_extraction shows_aliases placed rebuilt_over column_set column_or has_pairs routable to_one to_two route_to_inputs when_routed is_pure_extraction_projection
extracted-node = (lit< tt, (recovery, _, refl, extract-adds, lit≤ tt), record { exprs = lit≤ tt; plans = lit≤ tt; entries = lit≤ tt; fields = lit≤ tt; bytes = lit≤ tt })

swapped-node : Answers limited (swap 5 0 4) (made_node 6) sample_end
unfolding generated digits_onto own_space own_entries own_bytes count_inputs
swapped-node = record { accepted = refl; number = refl; functions = refl; exprs = refl; plans = refl; inputs = refl; bytes = []; text = refl; used = refl }

pub sample-run : SampleRun
unfolding push
sample-run = (
  holding [] (node log 0 ∷ []) ([] ∷ []) (space 0 1 0 2 14),
  record { accepted = refl; number = refl; functions = refl; exprs = refl; plans = refl; inputs = refl; bytes = []; text = refl; used = refl },
  (
    holding (reference event ∷ []) (node log 0 ∷ []) ([] ∷ []) (space 1 1 0 2 22),
    record { accepted = refl; number = refl; functions = refl; exprs = refl; plans = refl; inputs = refl; bytes = []; text = refl; used = refl },
    (
      holding (reference event ∷ kind ∷ []) (node log 0 ∷ []) ([] ∷ []) (space 2 1 0 2 26),
      record { accepted = refl; number = refl; functions = refl; exprs = refl; plans = refl; inputs = refl; bytes = []; text = refl; used = refl },
      (
        holding (reference event ∷ kind ∷ E ∷ []) (node log 0 ∷ []) ([] ∷ []) (space 3 1 2 2 26),
        record { accepted = refl; number = refl; functions = refl; exprs = refl; plans = refl; inputs = refl; bytes = []; text = refl; used = refl },
        (
          holding (reference event ∷ kind ∷ E ∷ spot ∷ []) (node log 0 ∷ []) ([] ∷ []) (space 4 1 2 2 30),
          record { accepted = refl; number = refl; functions = refl; exprs = refl; plans = refl; inputs = refl; bytes = []; text = refl; used = refl },
          (
            holding five_exprs (node log 0 ∷ []) ([] ∷ []) (space 5 1 4 2 30),
            record { accepted = refl; number = refl; functions = refl; exprs = refl; plans = refl; inputs = refl; bytes = []; text = refl; used = refl },
            (
              before,
              record { accepted = refl; number = refl; functions = refl; exprs = refl; plans = refl; inputs = refl; bytes = []; text = refl; used = refl },
              (
                after,
                extracted-node,
                (
                  limited,
                  record { accepted = refl; number = refl; functions = refl; exprs = refl; plans = refl; inputs = refl; bytes = []; text = refl; used = refl },
                  (
                    sample_end,
                    swapped-node,
                    (
                      sample_end,
                      (lit< tt, (_, refl), refl),
                      (
                        sample_end,
                        (refl, inl (refl, refl)),
                        refl,
                      ),
                    ),
                  ),
                ),
              ),
            ),
          ),
        ),
      ),
    ),
  ),
)
