-- The relation is put together of what each step found.
use Rattle.std.proofs.Common.{rules, ◌≡◌, inl, inr}
use Rattle.page_http.specs.Head.{served}
use Rattle.hyper_edge.specs.Responses as spec
use Rattle.hyper_edge.proofs.Heads.{is_served}
use Rattle.hyper_edge.proofs.responding.begin_response.Goals as goal

pub returns-in-Err-Unreadable-clause-at_once : goal.returns-in-Err-Unreadable-clause-at_once
returns-in-Err-Unreadable-clause-at_once g c =
    let get : c.args.head.now.method.now ≡ served = is_served c.args.head.now.method.now (search rules) in
    let nothing : spec.AsksNothing c.args.head.now.target.now c.args.head.now.fields.now = c.in-Err-Unreadable.ensures.unreadable (search rules) in
    inr (get, inl (nothing, c.in_ok-refused-in-Err-Unreadable.ensures.sent))
