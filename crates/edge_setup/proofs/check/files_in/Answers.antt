use Rattle.std.proofs.Common.{◌≡◌, ◌∙◌, ap, refl, rules, subst, map, codes, Bor, List, Option, Some, None, IfOk}
use Rattle.std.proofs.lemmas.Result.{IfOk-weaker}
use Rattle.clap.specs.Words.{Text, all_of, found_of, rows_of}
use Rattle.clap.proofs.WalkLemmas.{raw_values-rows}
use Rattle.edge_setup.specs.Check.{files_of}
use Rattle.edge_setup.proofs.check.files_in.Goals as goal

pub returns-in-Some : goal.returns-in-Some
returns-in-Some c =
    let said = c.get_raw.ensures ∙ raw_values-rows (found_of c.args.matches.now) (codes "file") in
    let words : Some (map (λ (word : Bor Text). word.now) c.in-Some.words.now) ≡ all_of (codes "file") (rows_of (found_of c.args.matches.now)) = rw (← said, c.in-Some.is) refl in
    let same : IfOk c.collect.result (λ files. files.items ≡ c.in-Some.words.now) = search rules in
    subst (λ (w : Option (List Text)). IfOk c.collect.result (λ files. map (λ (file : Bor Text). file.now) files.items ≡ files_of w)) words
    (IfOk-weaker c.collect.result _ _ (λ files is. ap (map (λ (file : Bor Text). file.now)) is) same)

pub returns-in-None : goal.returns-in-None
returns-in-None c =
    let said = c.get_raw.ensures ∙ raw_values-rows (found_of c.args.matches.now) (codes "file") in
    let words : None ≡ all_of (codes "file") (rows_of (found_of c.args.matches.now)) = rw (← said, c.in-None.is) refl in
    subst (λ (w : Option (List Text)). map (λ (file : Bor Text). file.now) c.new.result.items ≡ files_of w) words (ap (map (λ (file : Bor Text). file.now)) c.new.ensures.items)
