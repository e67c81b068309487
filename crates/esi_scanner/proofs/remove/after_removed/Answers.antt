use Rattle.std.proofs.Common.{drop, codes, ◌∙◌, ap}
use Rattle.esi_scanner.specs.Bytes.{after_bytes}
use Rattle.esi_scanner.specs.Tag.{after_removed}
use Rattle.esi_scanner.proofs.ByteLemmas.{strip-cases}
use Rattle.esi_scanner.proofs.remove.after_removed.Goals as goal

pub returns-clause-value : goal.returns-clause-value
unfolding after_removed
returns-clause-value c =
    strip-cases c.split_at.result.1.now (codes "</esi:remove>") c.strip_prefix.result c.strip_prefix.ensures.cases
    ∙ ap (λ rest. after_bytes rest (codes "</esi:remove>")) (c.split_at.ensures.back ∙ ap (λ n. drop n c.args.text.now) c.removed_len.ensures.value)
