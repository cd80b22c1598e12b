-- The marked examples, by computation.
use mathlib.Core.Path.{refl}
use mathlib.Core.Bool.{xor}
use mathlib.Core.Option.{bind}
use Rattle.text.specs.Test.{◌and◌, ◌or◌, whether◌then◌else◌, all, any, only, twice, absent, or_nothing}
use Rattle.text.specs.String.{same, more, before, joined}
use Rattle.text.specs.Frame.{◌>>=◌, ret, byte, run, string, times}
use Rattle.text_search.specs.Search.{until}
use Rattle.path.specs.Bytes.{key, element, path}
use Rattle.path.specs.Refusal.{unsized, key_over, elem_over, over_limit, outside_name, outside_value, key_stray, elem_stray, stray_byte, half_wild, key_misplaced, elem_misplaced, misplaced, key_twice, good_path}
use Rattle.path.specs.Walk.{least_refusal, path_refusal}
use Rattle.path.specs.Spells.{whole, read_bytes}
use Rattle.path_read.specs.TextReader.{literal, name, item, value, each, elements, read_text}
use Rattle.path_read.specs.TextReader as reader
use Rattle.table_line.specs.Lines.{onto, lines, pair, pairs, nonempty, frame}
use Rattle.table.specs.Frame.{unknown, code, version_body, group_body, member_body, rule_body, rule_entry, body, entry, entry_of}
use Rattle.table.specs.Frame as table-line
use Rattle.table.specs.Refusal.{framed, decoded, line_of, kind_of, out_of_order, unsized_short, past_limit, stray, strays, misplaces, same_member, same_id, repeats, listed, unlisted, refusal, first, with, after}
use Rattle.table.specs.Text.{unless, judge, check, all_told, table, table_of}
use Rattle.table.specs.Group.{lists, bad_user}
use Rattle.verdict.specs.Cover.{wild, definite, holds, meets, covers}
use Rattle.verdict.specs.Join.{conflict, clashes, agrees, agree, meld, join}
use Rattle.verdict.specs.Order.{definites, better, earlier, prefer, candidate, choose}
use Rattle.verdict.specs.Verdict.{concerns, applies, matches, decider, action, permits, fits, opposes, word, answer, tree}
use Rattle.verdict_request.specs.Calls.{bad_mode, bad_origin, request_refusal, request, decided_by, path_answer, path_verdict, spread, tree_answer, tree_verdict}
use Rattle.text_affix.specs.Affix.{empty, begins, ends}
use Rattle.rpc.specs.Pattern as pattern
use Rattle.text_make.specs.Decimal.{digits, decimal}
use Rattle.request_log.specs.Request.{request_body, framed_request, framed_refusal, unrefused, good_request, request_of}
use Rattle.request_log.specs.Log.{judge_log, check_log, before as put_before, requests_of, log_of}
use Rattle.season.specs.Report.{answer_to, decides, permitted, denied_by_rule, denied_by_default}
use Rattle.season.specs.Report.{count, for_each, rule_count, rule_counts, cell, row, figures, figure_line, report}
use Rattle.season.specs.Calls.{first_fault, fault, report_of}
use Rattle.promises.specs.Examples.{examples, Examples}

pub marked : Examples
unfolding xor ◌and◌ ◌or◌ whether◌then◌else◌ all any only twice same more before ◌>>=◌ ret byte run string times key element
    path unsized key_over elem_over over_limit outside_name outside_value key_stray elem_stray stray_byte half_wild key_misplaced
    elem_misplaced misplaced key_twice least_refusal path_refusal good_path whole read_bytes literal until name item value
    each elements read_text reader.key reader.element onto lines pair pairs nonempty frame unknown code version_body
    group_body member_body rule_body rule_entry body entry entry_of table-line.whole framed decoded line_of kind_of out_of_order
    unsized_short past_limit stray strays misplaces same_member same_id repeats listed unlisted refusal first with after
    unless judge check all_told table table_of lists
    bad_user wild definite holds meets covers conflict clashes agrees agree meld join definites better earlier prefer
    candidate choose concerns applies matches decider action permits fits opposes word answer tree bad_mode bad_origin
    absent request_refusal or_nothing request decided_by path_answer path_verdict spread tree_answer tree_verdict empty begins ends pattern.matches
    digits decimal request_body framed_request framed_refusal unrefused good_request bind request_of judge_log check_log
    put_before requests_of log_of answer_to decides permitted denied_by_rule denied_by_default count for_each rule_count
    rule_counts cell row figures figure_line joined report first_fault fault report_of examples
marked = refl
