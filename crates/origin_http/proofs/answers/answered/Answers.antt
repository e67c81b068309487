use Rattle.origin_http.proofs.answers.answered.Goals as goal

pub returns-in-Ok-clause-status : goal.returns-in-Ok-clause-status
returns-in-Ok-clause-status c = rw c.in-Ok.is (λ refused. c.answer_of.ensures.status refused)
