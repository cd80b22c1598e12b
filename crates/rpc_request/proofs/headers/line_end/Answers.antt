-- `line_end` answers what its definition says.
use Rattle.std.proofs.Common.{sym, ◌∙◌}
use Rattle.rpc_request.proofs.Lines.{line_colonless, line_nameless, line_ill, line_endless, line_unprinted, line_ended}
use Rattle.rpc_request.proofs.headers.line_end.Goals.{then-c-h-via-then-c-h, then-c-h-via-else-c-h+then-c-i, then-c-h-via-else-c-h+else-c-i+then-not-all_header_bytes}
use Rattle.rpc_request.proofs.headers.line_end.Goals.{else-e-h-via-then-e-h+else-h-e-eq10, else-e-h-via-else-e-h}
use Rattle.rpc_request.proofs.headers.line_end.Goals as goal

pub returns-then-c-h : goal.returns-then-c-h
returns-then-c-h c =
    elim c.then-c-h.branch [
      | then-c-h-via-then-c-h w ↦ line_colonless _ _ _ c.requires c.byte_from-c.ensures w.if-c-h.true
      | then-c-h-via-else-c-h+then-c-i w ↦ line_nameless _ _ _ c.requires c.byte_from-c.ensures w.if-c-i.true
      | then-c-h-via-else-c-h+else-c-i+then-not-all_header_bytes w ↦
          line_ill _ _ _ c.requires c.byte_from-c.ensures (sym w.all_header_bytes.ensures ∙ w.if-not-all_header_bytes.true)
    ]

pub returns-then-h-e-eq10 : goal.returns-then-h-e-eq10
returns-then-h-e-eq10 c =
    line_ended _ _ _ c.requires c.byte_from-c.ensures _ c.print_end-e.ensures c.if-e-h.true c.if-c-i.false
    (sym c.all_header_bytes.ensures ∙ c.if-not-all_header_bytes.false) c.if-h-e-eq10.true

pub returns-else-e-h : goal.returns-else-e-h
returns-else-e-h c =
    elim c.else-e-h.branch [
      | else-e-h-via-then-e-h+else-h-e-eq10 w ↦ line_unprinted _ _ _ c.requires c.byte_from-c.ensures _ c.print_end-e.ensures w.if-h-e-eq10.false
      | else-e-h-via-else-e-h w ↦ line_endless _ _ _ c.requires c.byte_from-c.ensures _ c.print_end-e.ensures w.if-e-h.false
    ]
