use Rattle.std.proofs.Common.{◌∙◌, sym, subst, map, Bor, List, Option, IfOk}
use Rattle.clap.specs.Words.{Text}
use Rattle.edge_setup.specs.Origins.{AreFound}
use Rattle.edge_setup.specs.Words.{SayOrigins}
use Rattle.std.proofs.Common.{option_map, ap}
use Rattle.edge_setup.proofs.origins.origins_of.Goals as goal

pub returns-in-Some : goal.returns-in-Some
returns-in-Some c =
    let words = ap (option_map (λ words. map (λ (word : Bor Text). word.now) words.now)) (sym c.in-Some.is) ∙ c.all_said.ensures in
    subst (λ (w : Option (List Text)). IfOk c.origins_in.result (AreFound w)) words c.origins_in.ensures

pub returns-in-None : goal.returns-in-None
returns-in-None c =
    let words = ap (option_map (λ words. map (λ (word : Bor Text). word.now) words.now)) (sym c.in-None.is) ∙ c.all_said.ensures in
    subst (λ (w : Option (List Text)). SayOrigins w c.new.result.items) words c.new.ensures.items
