use Rattle.std.proofs.Common.{Result, Ok, Err, IfOk, map}
use Rattle.fetch_workers.specs.Made.{log_in}
use Rattle.fetch_workers.specs.declared.log.Own.{Own}
use Rattle.fetch_workers.proofs.Posted.{own_given}
use Rattle.fetch_workers.proofs.Ways.{as_many_ways}
use Rattle.fetch_workers.proofs.assembler.put_together.Goals as goal

-- a value is what five facts about it make it
if_ok_by_five : {X E : Type 0} (x : Result X E) (P Q R S U T : X → Type 0) → ((s : X) → P s → Q s → R s → S s → U s → T s) → IfOk x P → IfOk x Q → IfOk x R → IfOk x S → IfOk x U → IfOk x T
if_ok_by_five (Ok x) P Q R S U T f p q r s u = f x p q r s u
if_ok_by_five (Err e) P Q R S U T f p q r s u = tt

pub returns : goal.returns
returns g c =
    let own = c.sort_unstable_by_key.new.self.items in
    let facts = c.compared.ensures in
    record {
      page = if_ok_by_five c.compared.result _ _ _ _ _ _ (λ made same legal rests counted leg. record {
        page = record { given = own_given (g.S.Answers.gives c.args._source.now) c.args.own.items own _ c.sort_unstable_by_key.ensures.permutation same c.requires; legal = legal; outcome = rests };
        ways = (map (λ (o : Own). o.way) own, as_many_ways own (log_in made) same, counted);
        failed_leg = leg;
      }) facts.own facts.legal facts.outcome facts.ways facts.failed_leg;
    }
