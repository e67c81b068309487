-- Heads ask for one page at most.
use Rattle.std.proofs.Common.{◌≡◌, List, ℕ, [], ◌∷◌, None, Some, sym, ap, ◌∙◌}
use Rattle.edge_types.specs.Asked.{asked}
use Rattle.page_http.specs.Head.{absolute_form, said}
use Rattle.page_http.specs.Laws.{AsksOnce}

only : (x y : List ℕ) → x ∷ [] ≡ y ∷ [] → x ≡ y
only x y e = cc

known : (x y : List ℕ) → Some x ≡ Some y → x ≡ y
known x y e = cc

pub asks_once : AsksOnce
asks_once target fields url other request second a b =
    let host : a.host ≡ b.host = only a.host b.host (sym a.named.one ∙ b.named.one) in (
      known url other (sym a.page ∙ ap (λ h. asked None (absolute_form h target)) host ∙ b.page),
      a.says ∙ ap (λ h. said h target fields) host ∙ sym b.says,
    )
