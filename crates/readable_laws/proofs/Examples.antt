-- Lines of the rules' table (E to K), and of a log, shown.
use mathlib.Core.Path.{◌≡◌, refl}
use mathlib.Core.List.{[], ◌∷◌, ◌++◌}
use mathlib.Core.Option.{some, bind}
use Rattle.text.specs.Test.{◌and◌, ◌or◌, whether◌then◌else◌, all, any, twice, absent}
use Rattle.text.specs.String.{bytes, same, joined}
use Rattle.text.specs.Frame.{◌>>=◌, ret, byte, run, string, times}
use Rattle.path.specs.Bytes.{key, element, path}
use Rattle.path.specs.Refusal.{unsized, key_over, elem_over, over_limit, outside_name, outside_value, key_stray, elem_stray, stray_byte, half_wild, key_misplaced, elem_misplaced, misplaced, key_twice, good_path}
use Rattle.path.specs.Spells as spells
use Rattle.path_read.specs.Text.{escaped, key_text, elem_text, path_text}
use Rattle.path_read.specs.Calls.{text_for}
use Rattle.table_line.specs.Lines.{pair, pairs, nonempty, frame}
use Rattle.table.specs.Frame.{whole}
use Rattle.table.specs.Refusal.{stray}
use Rattle.table.specs.Group.{bad_user}
use Rattle.verdict_request.specs.Calls.{bad_mode, bad_origin}
use Rattle.request_log.specs.Request.{request_body, framed_request, framed_refusal, unrefused, good_request}
use Rattle.readable_parts.specs.Parts.{part_of, rest, of_rest, quoted, hex_pair, hex_text, shown_string, shown_time, shown_path, shown_code, shown_plain, shown}
use Rattle.readable_lines.specs.Form.{parts, form_by, printed, shown_by, shown_frame}
use Rattle.readable_lines.specs.Lines.{lined, shown_line_by, shown_line, shown_log_line, packed_log_line}
use Rattle.readable_lines.specs.Request.{good, shown_request}
use Rattle.readable_laws.proofs.LogLines.{line_packs}

version_line : shown_line (bytes "010276310000000000000001" ++ (10 ∷ [])) ≡ some (bytes "version [v1] time 0000000000000001" ++ (10 ∷ []))
unfolding shown_line shown_line_by bind lined frame nonempty pairs pair shown_frame shown_by printed whole form_by parts part_of shown shown_string shown_time shown_plain quoted escaped hex_text hex_pair joined string byte run ◌>>=◌ ret whether◌then◌else◌ all ◌and◌
version_line = refl

member_line : shown_line (bytes "0301670175" ++ (10 ∷ [])) ≡ some (bytes "member [g] [u]" ++ (10 ∷ []))
unfolding shown_line shown_line_by bind lined frame nonempty pairs pair shown_frame shown_by printed whole form_by parts part_of shown shown_string shown_plain quoted escaped joined string byte run ◌>>=◌ ret whether◌then◌else◌ all ◌and◌
member_line = refl

rule_line_lem : shown_line (bytes "04010101016701720001016101016b012a" ++ (10 ∷ [])) ≡ some (bytes "rule permit read group [g] id [r] origin [] /a[k=*]" ++ (10 ∷ []))
unfolding shown_line shown_line_by bind lined frame nonempty pairs pair shown_frame shown_by printed whole form_by parts part_of shown shown_string shown_code shown_path of_rest shown_plain rest quoted escaped joined string byte run times ◌>>=◌ ret whether◌then◌else◌
    all any twice ◌and◌ ◌or◌ text_for spells.read_bytes spells.whole path element key good_path over_limit elem_over key_over unsized stray_byte elem_stray key_stray outside_name outside_value misplaced elem_misplaced key_misplaced half_wild key_twice same path_text elem_text key_text
rule_line_lem = refl

-- the log line of request 2026-01
log_line : shown_log_line (bytes "0101750002016100016200" ++ (10 ∷ [])) ≡ some (bytes "read [u] origin [] /a/b" ++ (10 ∷ []))
unfolding shown_log_line shown_line_by bind lined frame nonempty pairs pair shown_request good absent good_request unrefused framed_request framed_refusal request_body bad_user bad_mode bad_origin stray shown_by printed whole parts part_of shown shown_string
    shown_code shown_path of_rest shown_plain rest quoted escaped joined string byte run times ◌>>=◌ ret whether◌then◌else◌ all any twice ◌and◌ ◌or◌ text_for spells.read_bytes spells.whole path element key good_path over_limit elem_over key_over unsized
    stray_byte elem_stray key_stray outside_name outside_value misplaced elem_misplaced key_misplaced half_wild key_twice same path_text elem_text key_text
log_line = refl

packed_line_lem : packed_log_line (bytes "read [u] origin [] /a/b" ++ (10 ∷ [])) ≡ some (bytes "0101750002016100016200" ++ (10 ∷ []))
packed_line_lem = line_packs _ _ log_line
