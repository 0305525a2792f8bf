-- The worked plans, computed.
use lib.Ieee.{of_bits, to_bits}
use Rattle.std.proofs.Common.{◌≡◌, true, refl}
use Rattle.rows.specs.Lists.{keep}
use Rattle.rows.specs.Rows.{may_mean, seek, under, value_in, values_in}
use Rattle.rows.specs.Standing.{pads_left, pads_right}
use Rattle.rewriting.specs.Generated.{highest, list_names, expr_names, field_names, literal_names, qualifier_names, digits_onto, generated, countable}
use Rattle.plan.specs.Swapping.{count_inputs, own_bytes, own_entries, own_space}
use Rattle.rewriting.specs.Outlay.{after_walk, charged, entries_of, list_space, start_at, tree_space}
use Rattle.rewriting.specs.Routing.{has_all_column_refs, have_all_column_refs, same_side, owner_of, find_sole_input, find_owning_input, empty_extractor, need, needs, noted, entered, add_extracted, taken_if, under_alias, under_call, routing_extract, routing_extracts, routing_extract_all, routing_extract_keys, unalias, pairs_of, needed_of, schema_columns, holds_marked, hold_marked, has_extractable_expr}
use Rattle.rewriting.specs.Extracting.{and_then, made_if, made, add_pair, add_pairs, add_column, add_columns, merged, freshly, build_extraction_projection_impl, stage_of, build_extraction_projection, same_fields, by_place, build_recovery_projection, rebuilt, when_new, extract_from_plan, remade, replace_cols_by_name, replace_cols_by_names, resolved_in, extraction_space, when_extractable}
use Rattle.rewriting.specs.Pushing.{is_extracted, enter, captured, back_to, walked, split_one, split_all, same_set, recover_push, or_in_place, push_split, split_and_push, or_keep, worker, not_tried, into_one, remap, remap_pairs, remap_columns, remapped, into_subquery_alias, is_one, is_two, place_if, side_allows, into_join, is_pure, into_projection, same_places, aliases_of, places_in, fits_places, all_fit_places, united, into_union, work, works, closed, push, is_extraction, shows_aliases, placed, rebuilt_over, column_set, column_or, has_pairs, routable, to_one, to_two, route_to_inputs, when_routed, is_pure_extraction_projection}
use Rattle.rewriting.specs.Worked.{four_for_three, uneven_places, flat_name, by_field, qualifies, same_alias, left_out, untried, sorted, plain_needed, under_sort, semi, other_alias, too_high, limits, hidden_alias, held_above, left_alone, twice, under_prefix, numbers, spent, same_space, taken_name, through_recovery, trial_number, cheap, spent_in, kind_number, direction_number, same_list, same_names, same_keys, same_plan, same_plans, same_outcome, plan_one, plan_two, plan_three, plan_four, plan_five, plan_six, plan_seven, plan_eight, no_number, two_limits, renamed, over_union, both_sides, by_place_total, ambiguous, deeper, worked_plans_hold}

pub worked-plans-hold : worked_plans_hold ≡ true
unfolding of_bits to_bits keep highest list_names four_for_three uneven_places flat_name by_field qualifies same_alias left_out untried sorted plain_needed under_sort semi other_alias too_high limits hidden_alias held_above left_alone twice under_prefix numbers spent same_space taken_name through_recovery trial_number cheap spent_in start_at charged after_walk entries_of tree_space list_space count_inputs own_entries own_bytes own_space literal_names field_names qualifier_names expr_names may_mean seek under value_in values_in pads_left pads_right digits_onto generated countable schema_columns has_all_column_refs have_all_column_refs same_side owner_of find_sole_input find_owning_input empty_extractor need needs noted entered add_extracted taken_if under_alias under_call routing_extract routing_extracts routing_extract_all routing_extract_keys unalias pairs_of needed_of and_then made_if made add_pair add_pairs add_column add_columns merged freshly build_extraction_projection_impl stage_of build_extraction_projection same_fields by_place build_recovery_projection rebuilt when_new extract_from_plan is_extracted enter captured back_to walked split_one split_all same_set recover_push or_in_place push_split split_and_push or_keep worker not_tried into_one remap remap_pairs remap_columns remapped into_subquery_alias is_one is_two place_if side_allows into_join is_pure into_projection same_places aliases_of places_in fits_places all_fit_places united into_union work works closed push kind_number direction_number same_list same_names same_keys same_plan same_plans same_outcome plan_one plan_two plan_three plan_four plan_five plan_six plan_seven plan_eight no_number two_limits renamed over_union both_sides by_place_total ambiguous deeper worked_plans_hold holds_marked hold_marked has_extractable_expr remade replace_cols_by_name replace_cols_by_names resolved_in extraction_space when_extractable is_extraction shows_aliases placed rebuilt_over column_set column_or has_pairs routable to_one to_two route_to_inputs when_routed is_pure_extraction_projection
worked-plans-hold = refl
