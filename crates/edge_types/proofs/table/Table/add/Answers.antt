use Rattle.std.proofs.Common.{◌≡◌, sym, ◌∙◌, ap, rules}
use Rattle.std.specs.Arc.{arc_value}
use Rattle.edge_types.specs.Places.{print_of}
use Rattle.edge_types.proofs.IndexLemmas.{Places-added_first, Places-added_other}
use Rattle.edge_types.proofs.table.Table.add.Goals as goal
use Rattle.edge_types.proofs.table.Table.add.Goals.{then-is_some+in_ok-share+in_ok-insert, else-is_some+in_ok-insert-2}

pub invariant_of-self-2 : goal.invariant_of-self-2
invariant_of-self-2 c =
    let answer = arc_value c.args.answer.now in
    let url : c.url.result.now ≡ answer.url = search rules in
    let print : c.fingerprint-print.result ≡ print_of answer.url = c.fingerprint-print.ensures ∙ ap print_of url in
    let pushed = rw c.unwrap.ensures at c.push.ensures.items in
    elim c.if-is_some.branch [
      | then-is_some+in_ok-share+in_ok-insert w ↦
          rw w.self-inside-is (Places-added_other c.args.self.now c.self.inside.answers.items c.reserve.new.self.items c.push.new.self.items answer c.of-kept.result c.fingerprint-print.result c.len-at.result c.first-first.result
          c.self.view_is c.requires c.reserve.ensures.items (rw w.self-inside-is at pushed) (search rules) (c.len-at.ensures ∙ search rules) print c.first-first.ensures
          c.self.inside.firsts c.self.inside.others w.insert.new.self w.in_ok-share.field-0 c.self.invariant (sym c.is_some.ensures ∙ w.if-is_some.true) (search rules) w.in_ok-insert.ensures.updates.0)
      | else-is_some+in_ok-insert-2 w ↦
          rw w.self-inside-is (Places-added_first c.args.self.now c.self.inside.answers.items c.reserve.new.self.items c.push.new.self.items answer c.of-kept.result c.fingerprint-print.result c.len-at.result c.first-first.result
          c.self.view_is c.requires c.reserve.ensures.items (rw w.self-inside-is at pushed) (search rules) (c.len-at.ensures ∙ search rules) print c.first-first.ensures
          c.self.inside.firsts w.insert-else-is_some.new.self c.self.inside.others c.self.invariant (sym c.is_some.ensures ∙ w.if-is_some.false) w.in_ok-insert-2.ensures.updates.0)
    ]
