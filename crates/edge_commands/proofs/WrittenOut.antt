-- What `clap` makes of words that are written out.
use Rattle.std.proofs.Common.{◌≡◌, ◌==◌, true, false, List, [], ◌∷◌, codes, refl, Option, Some, None}
use Rattle.std.proofs.lemmas.Bool.{ne_eqb}
use Rattle.std.specs.Str.{bytes_eq}
use Rattle.clap.specs.Lexer.{strip_byte}
use Rattle.clap.specs.Words.{Text, fault_of, subcommand_of}
use Rattle.clap.specs.declared.error.kind.ErrorKind.TheVariants.{ArgumentConflict, InvalidValue}
use Rattle.clap.proofs.OnLiterals.{clap_on_literals}
use Rattle.edge_commands.specs.CommandLine.{program, word_of, is_why_of}
use Rattle.edge_commands.specs.Laws.{IsPlain, plain_words, order_words, ahead_words, levels_words, why_words, all_words}

-- the words are taken, and the options of `case` say this
pub record Say (words : List Text) (order ahead levels : Option Text) : Type 0 where
  pub taken : fault_of program words ≡ []
  pub order_is : word_of (codes "order") (subcommand_of program words) ≡ order
  pub ahead_is : word_of (codes "ahead") (subcommand_of program words) ≡ ahead
  pub levels_are : word_of (codes "levels") (subcommand_of program words) ≡ levels

pub plain_say : (name : Text) → Say (plain_words name) None (Some (codes "16")) (Some (codes "4"))
unfolding clap_on_literals
plain_say name = record { taken = refl; order_is = refl; ahead_is = refl; levels_are = refl }

pub why_say : (name : Text) → Say (why_words name) None (Some (codes "16")) (Some (codes "4"))
unfolding clap_on_literals
why_say name = record { taken = refl; order_is = refl; ahead_is = refl; levels_are = refl }

-- whether `--why` is there
pub why_set : (name : Text) → is_why_of (subcommand_of program (why_words name)) ≡ true
unfolding clap_on_literals
why_set name = refl

pub why_lacks : (name : Text) → is_why_of (subcommand_of program (plain_words name)) ≡ false
unfolding clap_on_literals
why_lacks name = refl

-- `clap` takes a plain word for no flag
pub no_dashes : (word : Text) → IsPlain word → bytes_eq word (45 ∷ 45 ∷ []) ≡ false
no_dashes [] plain = refl
no_dashes (b ∷ bs) plain = let other : (b == 45) ≡ false = ne_eqb b 45 plain in rw other refl

pub no_dash : (word : Text) → IsPlain word → strip_byte 45 word ≡ None
no_dash [] plain = refl
no_dash (b ∷ bs) plain = let other : (b == 45) ≡ false = ne_eqb b 45 plain in rw other refl

pub order_say : (name word : Text) → IsPlain word → Say (order_words name word) (Some word) (Some (codes "16")) (Some (codes "4"))
unfolding clap_on_literals
order_say name word plain =
    let dashes = no_dashes word plain in
    let dash = no_dash word plain in
    record {
      taken = rw (dashes, dash, dash) (refl {a = []});
      order_is = rw (dashes, dash, dash) (refl {a = Some word});
      ahead_is = rw (dashes, dash, dash) (refl {a = Some (codes "16")});
      levels_are = rw (dashes, dash, dash) (refl {a = Some (codes "4")});
    }

pub ahead_say : (name word : Text) → IsPlain word → Say (ahead_words name word) None (Some word) (Some (codes "4"))
unfolding clap_on_literals
ahead_say name word plain =
    let dashes = no_dashes word plain in
    let dash = no_dash word plain in
    record {
      taken = rw (dashes, dash, dash) (refl {a = []});
      order_is = rw (dashes, dash, dash) (refl {a = None});
      ahead_is = rw (dashes, dash, dash) (refl {a = Some word});
      levels_are = rw (dashes, dash, dash) (refl {a = Some (codes "4")});
    }

pub levels_say : (name word : Text) → IsPlain word → Say (levels_words name word) None (Some (codes "16")) (Some word)
unfolding clap_on_literals
levels_say name word plain =
    let dashes = no_dashes word plain in
    let dash = no_dash word plain in
    record {
      taken = rw (dashes, dash, dash) (refl {a = []});
      order_is = rw (dashes, dash, dash) (refl {a = None});
      ahead_is = rw (dashes, dash, dash) (refl {a = Some (codes "16")});
      levels_are = rw (dashes, dash, dash) (refl {a = Some word});
    }

pub all_say : (name list slots depth : Text) → IsPlain list → IsPlain slots → IsPlain depth → Say (all_words name list slots depth) (Some list) (Some slots) (Some depth)
unfolding clap_on_literals
all_say name list slots depth list_plain slots_plain depth_plain =
    let list_dashes = no_dashes list list_plain in
    let list_dash = no_dash list list_plain in
    let slots_dashes = no_dashes slots slots_plain in
    let slots_dash = no_dash slots slots_plain in
    let depth_dashes = no_dashes depth depth_plain in
    let depth_dash = no_dash depth depth_plain in
    record {
      taken = rw (list_dashes, list_dash, list_dash) (rw slots_dashes (rw slots_dash (rw slots_dash (rw depth_dashes (rw depth_dash (rw depth_dash (refl {a = []})))))));
      order_is = rw (list_dashes, list_dash, list_dash) (rw (slots_dashes, slots_dash, slots_dash) (rw (depth_dashes, depth_dash, depth_dash) (refl {a = Some list})));
      ahead_is = rw (list_dashes, list_dash, list_dash) (rw (slots_dashes, slots_dash, slots_dash) (rw (depth_dashes, depth_dash, depth_dash) (refl {a = Some slots})));
      levels_are = rw (list_dashes, list_dash, list_dash) (rw (slots_dashes, slots_dash, slots_dash) (rw (depth_dashes, depth_dash, depth_dash) (refl {a = Some depth})));
    }

-- ---- words that are refused

-- an option without its word
pub order_alone : (name : Text) → fault_of program (name ∷ codes "case" ∷ codes "--order" ∷ []) ≡ InvalidValue ∷ []
unfolding clap_on_literals
order_alone name = refl

pub ahead_alone : (name : Text) → fault_of program (name ∷ codes "case" ∷ codes "--ahead" ∷ []) ≡ InvalidValue ∷ []
unfolding clap_on_literals
ahead_alone name = refl

pub levels_alone : (name : Text) → fault_of program (name ∷ codes "case" ∷ codes "--levels" ∷ []) ≡ InvalidValue ∷ []
unfolding clap_on_literals
levels_alone name = refl

-- an option that stands twice
pub order_twice : (name one other : Text) → IsPlain one → IsPlain other
    → fault_of program (name ∷ codes "case" ∷ codes "--order" ∷ one ∷ codes "--order" ∷ other ∷ []) ≡ ArgumentConflict ∷ []
unfolding clap_on_literals
order_twice name one other one_plain other_plain =
    let one_dashes = no_dashes one one_plain in
    let one_dash = no_dash one one_plain in
    let other_dashes = no_dashes other other_plain in
    let other_dash = no_dash other other_plain in
    rw (one_dashes, one_dash, one_dash, other_dashes, other_dash, other_dash) (refl {a = ArgumentConflict ∷ []})

pub ahead_twice : (name one other : Text) → IsPlain one → IsPlain other
    → fault_of program (name ∷ codes "case" ∷ codes "--ahead" ∷ one ∷ codes "--ahead" ∷ other ∷ []) ≡ ArgumentConflict ∷ []
unfolding clap_on_literals
ahead_twice name one other one_plain other_plain =
    let one_dashes = no_dashes one one_plain in
    let one_dash = no_dash one one_plain in
    let other_dashes = no_dashes other other_plain in
    let other_dash = no_dash other other_plain in
    rw (one_dashes, one_dash, one_dash, other_dashes, other_dash, other_dash) (refl {a = ArgumentConflict ∷ []})

pub levels_twice : (name one other : Text) → IsPlain one → IsPlain other
    → fault_of program (name ∷ codes "case" ∷ codes "--levels" ∷ one ∷ codes "--levels" ∷ other ∷ []) ≡ ArgumentConflict ∷ []
unfolding clap_on_literals
levels_twice name one other one_plain other_plain =
    let one_dashes = no_dashes one one_plain in
    let one_dash = no_dash one one_plain in
    let other_dashes = no_dashes other other_plain in
    let other_dash = no_dash other other_plain in
    rw (one_dashes, one_dash, one_dash, other_dashes, other_dash, other_dash) (refl {a = ArgumentConflict ∷ []})
