-- What a table replies to a URL, as an answer.
use Rattle.std.proofs.Common.{◌≡◌, ◌∙◌, Bool, true, false, cond, List, [], ◌∷◌, ℕ, Option, Some, sym, ap, ap₂, refl}
use Rattle.std.proofs.lemmas.Slice.Eq.{bytes_eq-Decides}
use Rattle.edge_types.specs.Answered.{Answered}
use Rattle.edge_types.specs.declared.answer.Reply.{Reply}
use Rattle.edge_types.specs.Table.{is_of, answer_of, reply_in, reply_of}
use Rattle.plan_runner.specs.Events.{answered_by}

-- an answer of a URL names it
url_step : (w : List ℕ) (x a : Answered) (rest : Option Answered) → (rest ≡ Some a → a.url ≡ w) → (b : Bool) → is_of w x ≡ b → cond b (Some x) rest ≡ Some a → a.url ≡ w
url_step w x a rest later true is e =
    let same : x ≡ a = cc in
    ap (λ (y : Answered). y.url) (sym same) ∙ (bytes_eq-Decides x.url w).0 is
url_step w x a rest later false is e = later e

pub url_of_answer : (log : List Answered) (w : List ℕ) (a : Answered) → answer_of log w ≡ Some a → a.url ≡ w
url_of_answer [] w a e = absurd (cc)
url_of_answer (x ∷ xs) w a e = url_step w x a (answer_of xs w) (url_of_answer xs w a) (is_of w x) refl e

pub replied : (table : List Answered) (url : List ℕ) (a : Answered) → answer_of table url ≡ Some a → a ≡ answered_by table url
replied table url a e =
    let named : a.url ≡ url = url_of_answer table url a e in
    let reply : a.reply ≡ reply_of table url = sym (ap reply_in e) in
    ap₂ (λ u (x : Reply). record { url = u; reply = x }) named reply
