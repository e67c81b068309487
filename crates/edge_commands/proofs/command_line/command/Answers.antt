use Rattle.std.proofs.Common.{◌≡◌, ◌∙◌, ap, ap₂, codes, true}
use Rattle.std.proofs.lemmas.Result.{IfOk-weaker}
use Rattle.clap.specs.Words.{App, app_of, new_app, with_subcommand}
use Rattle.clap.specs.Simple.{app_of_fields, on_top}
use Rattle.edge_commands.proofs.command_line.command.Goals as goal

pub returns : goal.returns
returns c =
    let bin_is : app_of c.in_ok-bin_name.field-0 ≡ new_app (codes "esi_edge") = ap app_of_fields c.in_ok-bin_name.ensures.0 ∙ c.new.ensures.app in
    let about_is : app_of c.about.result ≡ new_app (codes "esi_edge") = ap app_of_fields c.about.ensures ∙ bin_is in
    let version_is : app_of c.version.result ≡ on_top (λ s. record s { has_version = true }) (new_app (codes "esi_edge")) =
    ap app_of_fields c.version.ensures ∙ ap (on_top (λ s. record s { has_version = true })) about_is in
    let top_is : app_of c.subcommand_required.result ≡ on_top (λ s. record s { has_version = true; subcommand_required = true }) (new_app (codes "esi_edge")) =
    ap app_of_fields c.subcommand_required.ensures ∙ ap (on_top (λ s. record s { subcommand_required = true })) version_is in
    let first_is = c.in_ok-subcommand.ensures.shape c.in_ok-case.ensures.local ∙ ap₂ with_subcommand top_is (ap (λ (a : App). a.top) c.in_ok-case.ensures.app) in
    let second_is = c.in_ok-subcommand-2.ensures.shape c.in_ok-serve.ensures.local ∙ ap₂ with_subcommand first_is (ap (λ (a : App). a.top) c.in_ok-serve.ensures.app) in
    IfOk-weaker c.subcommand-3.result _ _ (λ command adds. adds.shape c.in_ok-check.ensures.local ∙ ap₂ with_subcommand second_is (ap (λ (a : App). a.top) c.in_ok-check.ensures.app)) c.subcommand-3.ensures
