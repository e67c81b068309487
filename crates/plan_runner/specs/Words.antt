-- What is printed of a refused receipt, in words.
use Rattle.std.specs.Prelude.{ℕ, List, codes}
use Rattle.plan_runner.specs.declared.page.PostFault.{PostFault}
use Rattle.plan_runner.specs.declared.page.PostFault.TheVariants as refusal

abbrev pub refusal_words : PostFault → List ℕ
refusal_words (refusal.Stranger _) = codes "no slot has this number and URL: post to the page that gave the ticket"
refusal_words (refusal.NotClaimed _) = codes "nobody has claimed the slot: claim it first"
refusal_words (refusal.Filled _) = codes "the slot has its answer: give the receipt up"
refusal_words refusal.NoMemory = codes "out of memory: accept the page anew with more of it"
refusal_words (refusal.Broken _) = codes "the page ran out of memory before: give the receipt up, and accept the page anew"
