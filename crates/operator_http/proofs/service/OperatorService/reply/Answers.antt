use Rattle.std.proofs.Common.{rules}
use Rattle.std.proofs.lemmas.Result.{IfOk-weaker}
use Rattle.operator_http.proofs.service.OperatorService.reply.Goals as goal

pub returns-then-is_own : goal.returns-then-is_own
returns-then-is_own g c = IfOk-weaker c.answer.result _ _ (λ response says. record { own = λ _. says; foreign = λ other. absurd (other (search rules)) }) (search rules)

pub returns-else-is_own : goal.returns-else-is_own
returns-else-is_own g c = IfOk-weaker c.answer-else-is_own.result _ _ (λ response says. record { own = λ own. absurd (search rules); foreign = λ _. says }) (search rules)
