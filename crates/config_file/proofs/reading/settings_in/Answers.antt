use Rattle.std.proofs.Common.{rules, ◌≡◌, ◌+◌, ℕ, Ok, Err, Bor, length, [], get_or, subst, refl, arith}
use Rattle.std.proofs.lemmas.List.{length-map}
use Rattle.config_file.specs.Lines.{Text}
use Rattle.config_file.specs.Reading.{after, shown_fault, shown_file, with_line}
use Rattle.config_file.proofs.Settings.{after_next, texts}
use Rattle.config_file.proofs.reading.settings_in.Goals as goal

abbrev none : Bor Text
none = record { ref_ptr = (0, 0); now = [] }

pub returns-in-Err : goal.returns-in-Err
returns-in-Err c =
    let number : ℕ = c.loop-index.index + 1 in
    let line : Text = (get_or c.args.lines.now c.loop-index.index none).now in
    let refused : with_line c.args.names.now number line (shown_file c.loop-index.file) ≡ Err (shown_fault c.in-Err.fault) = search rules in
    let few : length (texts c.args.lines.now) ≡ length c.args.lines.now = length-map c.args.lines.now (λ (w : Bor Text). w.now) in
    (number, rw few (omega arith), after_next c.args.names.now c.args.lines.now c.loop-index.index none (shown_file c.loop-index.file) _ c.loop-index-test.true c.loop-index.invariant refused)

pub loop-index-preserved : goal.loop-index-preserved
loop-index-preserved c =
    let line : Text = (get_or c.args.lines.now c.loop-index.index none).now in
    let read : with_line c.args.names.now (c.loop-index.index + 1) line (shown_file c.loop-index.file) ≡ Ok (shown_file c.read.new.self) = search rules in
    after_next c.args.names.now c.args.lines.now c.loop-index.index none (shown_file c.loop-index.file) _ c.loop-index-test.true c.loop-index.invariant read

pub returns : goal.returns
returns c =
    let few : length (texts c.args.lines.now) ≡ length c.args.lines.now = length-map c.args.lines.now (λ (w : Bor Text). w.now) in
    let all : c.loop-index.index ≡ length (texts c.args.lines.now) = search rules in
    (shown_file c.loop-index.file, subst (λ (n : ℕ). after c.args.names.now (texts c.args.lines.now) n ≡ Ok (shown_file c.loop-index.file)) all c.loop-index.invariant, refl)
