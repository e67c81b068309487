use Rattle.operator_http.proofs.foreign.is_ipv4.Goals as goal

pub returns-in-Err : goal.returns-in-Err
returns-in-Err c = (λ e. absurd (cc), λ it. absurd (c.in-Err.ensures it.0 it.1))
