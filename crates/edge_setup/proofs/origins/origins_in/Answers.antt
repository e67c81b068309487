use Rattle.std.proofs.Common.{◌≡◌, ◌++◌, ◌∷◌, rules, subst, sym, get_or, [], true, false, Bor, List, Result, MatchResult}
use Rattle.clap.specs.Words.{Text}
use Rattle.edge_setup.specs.declared.origin.OriginFault.{OriginFault}
use Rattle.edge_setup.specs.declared.setup.Origin.{Origin}
use Rattle.edge_setup.specs.Origins.{has}
use Rattle.edge_setup.specs.OriginWord.{IsFaultOf}
use Rattle.edge_setup.specs.Words.{AreOrigins, NamesOrigin, authorities, stands_twice}
use Rattle.edge_setup.proofs.OriginLists.{none_named, once_next, origins_next, twice_named}
use Rattle.edge_setup.proofs.origins.origins_in.Goals as goal

abbrev none : Bor Text
none = record { ref_ptr = (0, 0); now = [] }

-- what a word was read as
abbrev Reads : Text → Result Origin OriginFault → Type 0
Reads word found = MatchResult found (λ o. NamesOrigin word o.authority.items o.place) (IsFaultOf word)

pub returns-in-Err : goal.returns-in-Err
returns-in-Err c =
    let word : Text = (get_or c.args.words.now c.loop-word.word-index none).now in
    let read : Reads word c.in_ok-origin.field-0 = subst (λ (t : Text). Reads t c.in_ok-origin.field-0) c.as_bytes.ensures.value c.in_ok-origin.ensures in
    let bad : IsFaultOf word c.in-Err.fault = subst (Reads word) c.in-Err.is read in
    none_named c.args.words.now c.loop-word.word-index none c.in-Err.fault c.loop-word-test.true bad

pub returns-then-not-branch : goal.returns-then-not-branch
returns-then-not-branch c =
    let word : Text = (get_or c.args.words.now c.loop-word.word-index none).now in
    let origin = c.in-Ok.origin in
    let read : Reads word c.in_ok-origin.field-0 = subst (λ (t : Text). Reads t c.in_ok-origin.field-0) c.as_bytes.ensures.value c.in_ok-origin.ensures in
    let named : NamesOrigin word origin.authority.items origin.place = subst (Reads word) c.in-Ok.is read in
    let stands : has origin.authority.items c.loop-word.origins.items ≡ true = search rules in
    twice_named c.args.words.now c.loop-word.word-index none c.loop-word.origins.items origin c.loop-word-test.true c.loop-word.invariant.0 named stands

pub loop-word-preserved : goal.loop-word-preserved
loop-word-preserved c =
    let word : Text = (get_or c.args.words.now c.loop-word.word-index none).now in
    let origin = c.in-Ok.origin in
    let read : Reads word c.in_ok-origin.field-0 = subst (λ (t : Text). Reads t c.in_ok-origin.field-0) c.as_bytes.ensures.value c.in_ok-origin.ensures in
    let named : NamesOrigin word origin.authority.items origin.place = subst (Reads word) c.in-Ok.is read in
    let more : c.add.new.origins.items ≡ c.loop-word.origins.items ++ origin ∷ [] = search rules in
    let new : has origin.authority.items c.loop-word.origins.items ≡ false = search rules in (
      subst (AreOrigins _) (sym more) (origins_next c.args.words.now c.loop-word.word-index none c.loop-word.origins.items origin c.loop-word-test.true c.loop-word.invariant.0 named),
      subst (λ (origins : List Origin). stands_twice (authorities origins) ≡ false) (sym more) (once_next c.loop-word.origins.items origin c.loop-word.invariant.1 new),
    )
