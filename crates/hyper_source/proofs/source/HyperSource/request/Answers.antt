use Rattle.std.proofs.Common.{[], ◌++◌, Bool, map, nat_lt, option_map, subst, rules}
use Rattle.std.specs.Arc.{arc_value}
use Rattle.edge_types.specs.Asked.{authority_of}
use Rattle.surrogate_headers.specs.Capability.{capability_of}
use Rattle.origin_http.specs.Names.{device_of}
use Rattle.origin_http.specs.Private.{is_private, told_for}
use Rattle.http.specs.Request.{builder_result, head_of}
use Rattle.origin_http.specs.Asking.{HasLines, own_lines, line_of}
use Rattle.origin_http.proofs.AskingLemmas.{built_both, built_whole}
use Rattle.hyper_source.proofs.source.HyperSource.request.Goals as goal

pub returns : goal.returns
returns c =
    let source = c.args.self.now in
    let own = λ (keeps : Bool). own_lines (authority_of c.args.url.now) (capability_of (device_of source.name)) keeps (option_map (λ way. way.items) source.way) source.name in
    let keeps = nat_lt 0 source.pool.most in
    let sent = map line_of source.sent in
    let told = map line_of (told_for (is_private (arc_value source.private).items c.args.url.now) source.own) in
    let begun = builder_result c.in_ok-request.request in
    let with_sent = builder_result c.with_fields-request.result in
    let all = builder_result c.with_fields.result in
    let first : HasLines (own keeps) begun = subst (λ (k : Bool). HasLines (own k) begun) c.keeps.ensures c.in_ok-request.ensures in
    built_whole head_of (own keeps ++ sent ++ told) all c.whole.result
    (built_both (own keeps ++ sent) told with_sent all (built_both (own keeps) sent begun with_sent first (search rules)) (search rules))
    c.whole.ensures
