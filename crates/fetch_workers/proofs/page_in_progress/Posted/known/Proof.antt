-- The field says only that a proof exists that what was posted was given. An entailment is a proposition, so the proof may be opened in front of the walk that Rattle made.
use seplogic.Bi.Basic.{Entails-prop}
use mathlib.Core.Logic.{∥∥₁_elim}
use base.Logic.{via, mono_r}
use denote.Triple.Entry.{on_entry}
use borrow.Fn.Kinds.{sig_of}
use contract.Monad.{fact_mono}
use Rattle.fetch_workers.specs.Progress.{AreGiven}
use Rattle.fetch_workers.proofs.page_in_progress.Posted.known.Statement.{statement}
use Rattle.fetch_workers.proofs.page_in_progress.Posted.known.Lts as lts
use Rattle.fetch_workers.proofs.page_in_progress.Posted.known.Reads as reads
use Rattle.fetch_workers.proofs.page_in_progress.Posted.known.Tie as tie

pub known_spec : {M : Type 1} → statement M
known_spec {M} =
    tie.close (λ R S LR LS gs ds w ms 𝓤 𝓛 𝓣 y.
    ∥∥₁_elim y.0.3.0.now.given (Entails-prop 𝓤.op _ _) (λ given.
    via 𝓤 _ (mono_r 𝓤 (on_entry 𝓛 (sig_of 3 (lts.ps R S LR LS gs ds) (lts.r R S LR LS gs ds)) y.0.0 y.0.1 y.0.3 y.0.4) (fact_mono 𝓤 _ (AreGiven (gs.gives y.0.3.0.now.source) y.0.3.0.now.own.items) (λ _. given)))
    (lts.spec R S LR LS gs ds (λ κs a. AreGiven (gs.gives a.0.now.source) a.0.now.own.items) (reads.Post R S LR LS gs ds) (λ c. c.requires) 𝓤 𝓛 𝓣 y)))
