-- docs/REFERENCE.md, section 7.2: the sheet of network S's image is the one that is printed there. Assumes nothing.
use Rattle.std.specs.Prelude.{◌≡◌, refl}
use Rattle.std.proofs.Common.{◌∙◌, ap₂}
use mathlib.Core.List.{[], ◌∷◌, flat_map}
use Rattle.terms.specs.Lists.{elem, keep, pick, least, largest, index, numbers, smallest}
use Rattle.terms.specs.Network.{heads, linked, weight, weigh, open_arcs, cost_column, column, restrict, open_everywhere, common, cut, below}
use Rattle.terms.specs.Paths.{cost_from, cost, exits, walks, paths}
use Rattle.terms.specs.Ranking.{by_first, lex, before, insert, sort, ranked}
use Rattle.terms.specs.Regret.{best, deviation, deviations, figure, worst}
use Rattle.terms.specs.Robust.{settled, least_figure, enough, needed, choice, answer, robust}
use Rattle.image.specs.Bytes.{number, field, decode}
use Rattle.image.specs.Outcome.{sound, row, ◌then◌}
use Rattle.image.specs.Rows.{edition_row, in_range, is_node, pairs, arc_fault, arcs_fault, is_cost, costs_fault, lists_fault}
use Rattle.image.specs.Layout.{edition, node_count, arc_count, column_count, costs_start, total, fields_right, nodes_in, costs_in, node_list, cost_list, net_of}
use Rattle.image.specs.Calls.{header_fault, taken_fault, image_fault}
use Rattle.outcomes.specs.Calls.{ends_row, column_row, count_row, room_row, no_path_row, search_rows, ranking_rows, workspace, robust_rows, choice_row, robust_fault, robust_of}
use Rattle.sheet.specs.Text.{digits, decimal}
use Rattle.sheet.specs.Sheet.{node_text, nodes_text, two_numbers, route_line, regret_line, settled_line, choice_lines, answer_text, sheet_of, program_fault, program_answer, sheet}
use Rattle.sheet.specs.Sample.{image_of_S, sheet_of_S, SampleSheet}

-- ---- no row applies, and Robust's answer is 1 3 4, 3, worst column 2, count 2, settled
passes : program_fault image_of_S ≡ sound
unfolding elem keep pick flat_map largest numbers heads linked weight weigh open_arcs cost_column column restrict open_everywhere common cut below cost_from cost exits walks paths number field decode row ◌then◌ edition_row in_range is_node pairs arc_fault arcs_fault is_cost costs_fault lists_fault edition node_count arc_count column_count costs_start total fields_right nodes_in costs_in node_list cost_list net_of header_fault taken_fault image_fault ends_row column_row count_row room_row no_path_row search_rows ranking_rows workspace robust_rows choice_row robust_fault program_fault
passes = refl

answers : program_answer image_of_S ≡ settled (1 ∷ 3 ∷ 4 ∷ []) 3 2 2
unfolding elem keep pick flat_map least largest index numbers smallest heads linked weight weigh open_arcs cost_column column restrict open_everywhere common cut cost_from cost exits walks paths by_first lex before insert sort ranked best deviation deviations figure worst least_figure enough needed choice answer robust number field decode pairs node_count arc_count column_count costs_start nodes_in costs_in node_list cost_list net_of robust_of program_answer
answers = refl

prints : answer_text (settled (1 ∷ 3 ∷ 4 ∷ []) 3 2 2) ≡ sheet_of_S
unfolding digits decimal node_text nodes_text two_numbers route_line regret_line settled_line choice_lines answer_text
prints = refl

pub sample_sheet : SampleSheet
unfolding sheet sheet_of
sample_sheet = record { bytes = refl; printed = ap₂ sheet_of passes answers ∙ prints }
