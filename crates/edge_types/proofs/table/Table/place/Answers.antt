use Rattle.std.proofs.Common.{◌≡◌, sym, ◌∙◌, ap, subst, List, ℕ, true, false, Some, position, get_or, bytes_eq, rules}
use Rattle.std.specs.BTreeMap.{get}
use Rattle.std.specs.Cmp.Lexicographic.{slice_cmp}
use Rattle.std.specs.Ordering.{nat_cmp}
use Rattle.edge_types.specs.Answered.{Answered}
use Rattle.edge_types.specs.Places.{Places, has_print, print_of}
use Rattle.edge_types.specs.Table.{is_of}
use Rattle.edge_types.proofs.IndexLemmas.{unplaced, placed_first, placed_other}
use Rattle.edge_types.proofs.table.Table.place.Goals as goal

pub returns-in-Some-clause-value : goal.returns-in-Some-clause-value
returns-in-Some-clause-value c =
    let item = c.index.result.now in
    let first : position (has_print (print_of c.args.url.now)) c.args.self.now ≡ Some c.in-Some.at = sym (c.in-Some.ensures ∙ ap (λ print. position (has_print print) c.args.self.now) c.fingerprint.ensures) in
    let there : get_or c.args.self.now c.in-Some.at item ≡ item = ap (λ (answers : List Answered). get_or answers c.in-Some.at item) (sym c.self.view_is) ∙ sym c.index.ensures in
    let url : c.url.result.now ≡ item.url = c.url.ensures ∙ ap (λ (answer : Answered). answer.url) c.get.ensures in
    let own : is_of c.args.url.now item ≡ true = ap (λ (u : List ℕ). bytes_eq u c.args.url.now) (sym url) ∙ sym c.if-eq.ensures in
    sym (placed_first c.args.url.now c.args.self.now c.in-Some.at item first (ap (is_of c.args.url.now) there ∙ own))

pub returns-in-Some-2-clause-value : goal.returns-in-Some-2-clause-value
returns-in-Some-2-clause-value c =
    let item = c.index.result.now in
    let first : position (has_print (print_of c.args.url.now)) c.args.self.now ≡ Some c.in-Some.at = sym (c.in-Some.ensures ∙ ap (λ print. position (has_print print) c.args.self.now) c.fingerprint.ensures) in
    let there : get_or c.args.self.now c.in-Some.at item ≡ item = ap (λ (answers : List Answered). get_or answers c.in-Some.at item) (sym c.self.view_is) ∙ sym c.index.ensures in
    let url : c.url.result.now ≡ item.url = c.url.ensures ∙ ap (λ (answer : Answered). answer.url) c.get.ensures in
    let other : is_of c.args.url.now item ≡ false = ap (λ (u : List ℕ). bytes_eq u c.args.url.now) (sym url) ∙ sym c.if-eq.ensures in
    let looked : c.copied.result ≡ get (slice_cmp nat_cmp) c.self.inside.others c.args.url.now = search rules in
    let places = subst (λ (answers : List Answered). Places c.self.inside.firsts c.self.inside.others answers) c.self.view_is c.self.invariant in
    looked ∙ placed_other c.self.inside.firsts c.self.inside.others c.args.url.now c.args.self.now c.in-Some.at item places first (ap (is_of c.args.url.now) there ∙ other)

pub returns-in-None-clause-value : goal.returns-in-None-clause-value
returns-in-None-clause-value c = sym (unplaced c.args.url.now c.args.self.now (sym (c.in-None.ensures ∙ ap (λ print. position (has_print print) c.args.self.now) c.fingerprint.ensures)))
