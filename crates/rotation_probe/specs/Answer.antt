-- The answer of an RPC probe: without a text everything is permitted, and no rule named.
use Rattle.rpc.specs.Answer.{Verdict, Refused, decision_of}
use Rattle.rotation_probe.specs.declared.rpcs.RpcAnswer.{RpcAnswer as Answer}
use Rattle.rotation_probe.specs.declared.rpcs.RpcAnswer.TheVariants as answer

pub data RpcAnswer : Type 0 where
  PermitAll : RpcAnswer
  Judged : Verdict → RpcAnswer

-- what a program's answer says
abbrev pub answer_of : Answer → RpcAnswer
answer_of answer.PermitAll = PermitAll
answer_of (answer.Judged d) = Judged (decision_of d)
answer_of (answer.Refused n) = Judged (Refused n)
