-- "A probe judges a request on what is in force": what each probe answers, for every record, store and request, in the order of the rules. "Calls on the
-- record: 11, then 15, then 12 to 14 or 16, then the text offered (upload) or in force (probe), then the request."
-- The definitions named here are those of the contracts of `burgee_probe_path`, `burgee_probe_tree` and `burgee_probe_rpc`. `force` is the text in force,
-- of which the page Rotation says when it is which; what a verdict answers on a text and when it refuses it is on the pages Verdicts and Rpc.
use Rattle.std.specs.Prelude.{ℕ, ◌≡◌, true, false, length}
use Rattle.std.proofs.Math.Option.{none, some}
use Rattle.text.specs.String.{Str}
use Rattle.text.specs.Refusal.{clear}
use Rattle.verdict_request.specs.Calls.{request_refusal, path_verdict, tree_verdict}
use Rattle.verdict_request.specs.PathAnswer.{PathAnswer}
use Rattle.verdict_request.specs.PathAnswer as path
use Rattle.verdict_request.specs.TreeAnswer.{TreeAnswer}
use Rattle.verdict_request.specs.TreeAnswer as trees
use Rattle.rpc.specs.Request.{rpc_refusal}
use Rattle.rpc.specs.Call.{rpc_verdict}
use Rattle.rpc.specs.Answer as rpc
use Rattle.rotation.specs.State.{given, short_store, bad_record, candidate_slot, text_in}
use Rattle.rotation.specs.Machine.{Lent, Whole}
use Rattle.rotation_probe.specs.Probe.{probe_path, probe_tree}
use Rattle.rotation_probe.specs.Rpc.{probe_rpc}
use Rattle.rotation_probe.specs.Answer.{RpcAnswer}
use Rattle.rotation_probe.specs.Answer.{PermitAll, Judged}
use Rattle.promises.specs.Rotation.{force}

-- ---- one promise for all three

-- a probe with its request: the kind of records that it is for, the answer that has a refusal number, the verdict on a text, the request's refusal number,
-- and what 01 says of factory
pub record Probe (A : Type 0) : Type 0 where
  pub kind : ℕ
  pub refused : ℕ → A
  pub verdict : Str → A
  pub request : ℕ
  pub factory : A

-- a record and a store that get none of 11, 15 and 16
pub record Taken (kind : ℕ) (l : Lent) : Type 0 where
  pub whole : Whole l
  pub same_kind : l.state.kind ≡ kind

-- what the probe answers on a record and a store, any that are lent
pub record Answers {A : Type 0} (p : Probe A) (l : Lent) (answer : A) : Type 0 where
  -- 11: "store shorter than 65,536 bytes"
  pub short_store_lem : short_store (length l.store) ≡ true → answer ≡ p.refused 11
  -- 15: "record: kind not 1 or 2, slot over 1, length over 32,768, candidate while off"
  pub bad_record_lem : short_store (length l.store) ≡ false → bad_record l.state ≡ true → answer ≡ p.refused 15
  -- 16: "RPC probe on a kind 2 record, path or tree probe on a kind 1 record"; for factory too, and whatever text and request are
  pub other_kind_lem : Whole l → ¬ (l.state.kind ≡ p.kind) → answer ≡ p.refused 16
  -- a text is in force: as the verdict call on it, which refuses the text, then the request
  pub on_text : Taken p.kind l → (text : Str) → force l ≡ some text → answer ≡ p.verdict text
  -- a candidate is in force, also one that the verdict call refuses: it is not skipped for the live text
  pub on_candidate : Taken p.kind l → given l.state.candidate_len ≡ true
      → answer ≡ p.verdict (text_in l.store (candidate_slot l.state) l.state.candidate_len)
  -- "Factory has no text to judge, but the request still is."
  pub request_refused : Taken p.kind l → force l ≡ none → ¬ (p.request ≡ clear) → answer ≡ p.refused p.request
  pub on_factory : Taken p.kind l → force l ≡ none → p.request ≡ clear → answer ≡ p.factory

-- ---- the three probes

-- a request for a table
module _ (user : Str) (mode : ℕ) (origin text : Str) where
  -- factory: "kind 2 denies all", and "names no rule"
  abbrev pub path_probe : Probe PathAnswer
  path_probe = record {
    kind = 2;
    refused = λ number. path.Refused number 0;
    verdict = λ table. path_verdict table user mode origin text;
    request = request_refusal user mode origin text;
    factory = path.Default;
  }

  -- "with tree NONE"
  abbrev pub tree_probe : Probe TreeAnswer
  tree_probe = record {
    kind = 2;
    refused = λ number. trees.Refused number 0;
    verdict = λ table. tree_verdict table user mode origin text;
    request = request_refusal user mode origin text;
    factory = trees.None;
  }

  pub record TableProbePromise (l : Lent) : Type 0 where
    pub path_probe_lem : Answers path_probe l (probe_path l.state l.store user mode origin text)
    pub tree_probe_lem : Answers tree_probe l (probe_tree l.state l.store user mode origin text)

-- a request for a policy
module _ (identity path headers : Str) where
  -- factory: "kind 1 permits all"
  abbrev pub rpc_probe : Probe RpcAnswer
  rpc_probe = record {
    kind = 1;
    refused = λ number. Judged (rpc.Refused number);
    verdict = λ policy. Judged (rpc_verdict policy identity path headers);
    request = rpc_refusal identity path headers;
    factory = PermitAll;
  }

  pub record PolicyProbePromise (l : Lent) : Type 0 where
    pub rpc_probe_lem : Answers rpc_probe l (probe_rpc l.state l.store identity path headers)
