-- The relation is put together of what each step found.
use Rattle.std.proofs.Common.{rules, tests, ◌≡◌, sym, ◌∙◌}
use Rattle.page_http.specs.Head as spec
use Rattle.page_http.proofs.head.answer_head.Goals as goal

pub returns-in_err-request-clause-no_memory : goal.returns-in_err-request-clause-no_memory
returns-in_err-request-clause-no_memory c =
    let get : c.args.method.now ≡ spec.served = search rules in
    λ e. (get, c.in-Some.host.now, c.in-Some.ensures.some)

pub returns-clause-asks : goal.returns-clause-asks
returns-clause-asks c =
    let get : c.args.method.now ≡ spec.served = search rules in (
      get,
      record {
        host = c.in-Some.host.now;
        named = c.in-Some.ensures.some;
        spelled = search (rules, tests);
        page = sym c.in_ok-url.ensures ∙ c.in-Some-2.is;
        says = c.in_ok-request.ensures;
      },
    )
