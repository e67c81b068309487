-- What the options of `case` say, and what that asks for.
use Rattle.std.proofs.Common.{◌≡◌, ◌≤◌, ◌↔◌, ℕ, true, false, cond, Bool, nat_le, List, [], ◌∷◌, codes, refl, sym, ◌∙◌, ap, Option, Some, None, arith}
use Rattle.std.proofs.lemmas.Bool.{leb-true, le-leb}
use Rattle.clap.specs.Words.{Text, fault_of}
use Rattle.clap.specs.declared.error.kind.ErrorKind.{ErrorKind}
use Rattle.edge_types.specs.Decimal.{decimal_of}
use Rattle.edge_types.proofs.DecimalLemmas.{decimal_sound, decimal_complete}
use Rattle.esi_meaning.specs.declared.limits.TheConstants.{MIN_LEVELS, MAX_LEVELS}
use Rattle.plan_runner.specs.declared.events.Event.{Event}
use Rattle.plan_runner.specs.declared.page.TheConstants.{MAX_AHEAD}
use Rattle.edge_case.specs.Order.{Lists}
use Rattle.edge_case.proofs.Orders.{order_sound, order_complete}
use Rattle.edge_commands.specs.CommandLine.{program, order_of, ahead_of, levels_by, levels_of, AsksCase}
use Rattle.edge_commands.specs.Laws.{IsAhead, IsLevels, AskForNone, plain_words, order_words, ahead_words, levels_words, why_words, all_words}
use Rattle.edge_commands.proofs.WrittenOut.{Say}

-- ---- what an option says

value_of : {A : Type 0} (x y : A) → Some x ≡ Some y → y ≡ x
value_of x y e = cc

no_order : (order : List Event) → (order_of None ≡ Some order) ↔ (order ≡ [])
no_order order = (λ e. value_of [] order e, λ e. ap Some (sym e))

pub some_order : (word : Text) (order : List Event) → (order_of (Some word) ≡ Some order) ↔ Lists word order
some_order word order = (order_sound word order, order_complete word order)

sixteen : decimal_of (codes "16") MAX_AHEAD ≡ Some 16
unfolding decimal_of
sixteen = refl

four : decimal_of (codes "4") MAX_LEVELS ≡ Some 4
unfolding decimal_of
four = refl

default_ahead : (ahead : ℕ) → (ahead_of (Some (codes "16")) ≡ Some ahead) ↔ (ahead ≡ 16)
default_ahead ahead = (λ e. value_of 16 ahead (sym sixteen ∙ e), λ e. sixteen ∙ ap Some (sym e))

pub some_ahead : (word : Text) (ahead : ℕ) → (ahead_of (Some word) ≡ Some ahead) ↔ IsAhead word ahead
some_ahead word ahead = (decimal_sound word MAX_AHEAD ahead, λ is. decimal_complete word MAX_AHEAD ahead is.0 is.1)

default_levels : (levels : ℕ) → (levels_of (Some (codes "4")) ≡ Some levels) ↔ (levels ≡ 4)
default_levels levels = (λ e. value_of 4 levels (sym (ap levels_by four) ∙ e), λ e. ap levels_by four ∙ ap Some (sym e))

levels_sound : (word : Text) (levels : ℕ) (number : Option ℕ) → decimal_of word MAX_LEVELS ≡ number → levels_by number ≡ Some levels → IsLevels word levels
levels_sound word levels None is e = absurd (cc)
levels_sound word levels (Some n) is e = by (nat_le MIN_LEVELS n) refl e
  where
    by : (b : Bool) → nat_le MIN_LEVELS n ≡ b → cond b (Some n) None ≡ Some levels → IsLevels word levels
    by true some same =
        let at : levels ≡ n = value_of n levels same in
        let (writes, few) = decimal_sound word MAX_LEVELS n is in
        let least : MIN_LEVELS ≤ n = leb-true _ _ some in
        ((writes.0, writes.1 ∙ sym at), record { some = omega (arith, least, at); few = omega (arith, few, at) })
    by false none same = absurd (cc)

levels_complete : (word : Text) (levels : ℕ) → IsLevels word levels → levels_of (Some word) ≡ Some levels
levels_complete word levels is =
    ap levels_by (decimal_complete word MAX_LEVELS levels is.0 is.1.few) ∙ ap (λ b. cond b (Some levels) None) (le-leb MIN_LEVELS levels is.1.some)

pub some_levels : (word : Text) (levels : ℕ) → (levels_of (Some word) ≡ Some levels) ↔ IsLevels word levels
some_levels word levels = (levels_sound word levels _ refl, levels_complete word levels)

-- ---- what the words ask for

asked_as : (words : List Text) (o a l : Option Text) → Say words o a l → (order : List Event) (ahead levels : ℕ) (O A L : Type 0)
    → (order_of o ≡ Some order) ↔ O → (ahead_of a ≡ Some ahead) ↔ A → (levels_of l ≡ Some levels) ↔ L → AsksCase words order ahead levels ↔ (O × A × L)
asked_as words o a l say order ahead levels O A L by_order by_ahead by_levels = (
  λ asks. (
    by_order.0 (ap order_of (sym say.order_is) ∙ asks.says.order_is),
    by_ahead.0 (ap ahead_of (sym say.ahead_is) ∙ asks.says.ahead_is),
    by_levels.0 (ap levels_of (sym say.levels_are) ∙ asks.says.levels_are),
  ),
  λ is. record {
    taken = say.taken;
    says = record {
      order_is = ap order_of say.order_is ∙ by_order.1 is.0;
      ahead_is = ap ahead_of say.ahead_is ∙ by_ahead.1 is.1;
      levels_are = ap levels_of say.levels_are ∙ by_levels.1 is.2;
    };
  },
)

pub plain_asks : (name : Text) (order : List Event) (ahead levels : ℕ) → Say (plain_words name) None (Some (codes "16")) (Some (codes "4"))
    → AsksCase (plain_words name) order ahead levels ↔ ((order ≡ []) × (ahead ≡ 16) × (levels ≡ 4))
plain_asks name order ahead levels say = asked_as _ _ _ _ say order ahead levels _ _ _ (no_order order) (default_ahead ahead) (default_levels levels)

pub why_asks : (name : Text) (order : List Event) (ahead levels : ℕ) → Say (why_words name) None (Some (codes "16")) (Some (codes "4"))
    → AsksCase (why_words name) order ahead levels ↔ ((order ≡ []) × (ahead ≡ 16) × (levels ≡ 4))
why_asks name order ahead levels say = asked_as _ _ _ _ say order ahead levels _ _ _ (no_order order) (default_ahead ahead) (default_levels levels)

pub order_asks : (name word : Text) (order : List Event) (ahead levels : ℕ) → Say (order_words name word) (Some word) (Some (codes "16")) (Some (codes "4"))
    → AsksCase (order_words name word) order ahead levels ↔ (Lists word order × (ahead ≡ 16) × (levels ≡ 4))
order_asks name word order ahead levels say = asked_as _ _ _ _ say order ahead levels _ _ _ (some_order word order) (default_ahead ahead) (default_levels levels)

pub ahead_asks : (name word : Text) (order : List Event) (ahead levels : ℕ) → Say (ahead_words name word) None (Some word) (Some (codes "4"))
    → AsksCase (ahead_words name word) order ahead levels ↔ ((order ≡ []) × IsAhead word ahead × (levels ≡ 4))
ahead_asks name word order ahead levels say = asked_as _ _ _ _ say order ahead levels _ _ _ (no_order order) (some_ahead word ahead) (default_levels levels)

pub levels_ask : (name word : Text) (order : List Event) (ahead levels : ℕ) → Say (levels_words name word) None (Some (codes "16")) (Some word)
    → AsksCase (levels_words name word) order ahead levels ↔ ((order ≡ []) × (ahead ≡ 16) × IsLevels word levels)
levels_ask name word order ahead levels say = asked_as _ _ _ _ say order ahead levels _ _ _ (no_order order) (default_ahead ahead) (some_levels word levels)

pub all_ask : (name list slots depth : Text) (order : List Event) (ahead levels : ℕ) → Say (all_words name list slots depth) (Some list) (Some slots) (Some depth)
    → AsksCase (all_words name list slots depth) order ahead levels ↔ (Lists list order × IsAhead slots ahead × IsLevels depth levels)
all_ask name list slots depth order ahead levels say = asked_as _ _ _ _ say order ahead levels _ _ _ (some_order list order) (some_ahead slots ahead) (some_levels depth levels)

-- ---- words that ask for nothing

pub faulty : (words : List Text) (kind : ErrorKind) → fault_of program words ≡ kind ∷ [] → AskForNone words
faulty words kind fault order ahead levels asks = absurd (cc_cons kind (sym fault ∙ asks.taken))
  where
    cc_cons : (k : ErrorKind) → k ∷ [] ≡ [] → ⊥
    cc_cons k e = cc
