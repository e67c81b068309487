use Rattle.std.proofs.Common.{[], ◌++◌, rules}
use Rattle.surrogate_headers.specs.Capability.{capability_of}
use Rattle.origin_http.specs.Names.{device_of}
use Rattle.http.specs.Request.{builder_result}
use Rattle.origin_http.specs.Asking.{HasLines, host_lines, device_lines, connection_lines, coding_lines, way_lines}
use Rattle.origin_http.proofs.AskingLemmas.{begun, built_both}
use Rattle.origin_http.proofs.request.request_to.Goals as goal

pub returns : goal.returns
returns c =
    let host = host_lines c.args.authority.now in
    let device = device_lines (capability_of (device_of c.args.name.now)) in
    let connection = connection_lines c.args.keeps in
    let new : HasLines [] (builder_result c.get.result) = begun _ _ (builder_result c.get.result) c.get.ensures.ok in
    let asking : HasLines ([] ++ host) (builder_result c.for_host-request.result) = built_both [] host _ _ new c.for_host-request.ensures in
    let able : HasLines (host ++ device) (builder_result c.for_device.result) = built_both host device _ _ asking (search rules) in
    let connected : HasLines (host ++ device ++ connection) (builder_result c.for_connection-request.result) = built_both (host ++ device) connection _ _ able c.for_connection-request.ensures in
    let plain : HasLines (host ++ device ++ connection ++ coding_lines) (builder_result c.uncoded.result) = built_both (host ++ device ++ connection) coding_lines _ _ connected c.uncoded.ensures in
    built_both (host ++ device ++ connection ++ coding_lines) _ _ _ plain c.identified.ensures
