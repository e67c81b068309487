-- Texts of which one is no prefix.
use Rattle.std.proofs.Common.{◌≡◌, ◌∙◌, ◌<◌, ℕ, Bool, true, false, List, [], map, get_or, length, Some, None, Bor, refl, ap}
use Rattle.std.specs.List.{list_all}
use Rattle.std.proofs.lemmas.List.{get_or-map, length-map}
use Rattle.std.proofs.lemmas.List.Folds.{list_all_at}
use Rattle.clap.specs.Words.{Text}
use Rattle.edge_setup.specs.Private.{is_prefix, prefix_of, prefixes_among}

no_prefix : (text : Text) (is : Bool) → is_prefix text ≡ is → prefix_of text ≡ None → is_prefix text ≡ false
no_prefix text false is none = is
no_prefix text true is none =
    let some : prefix_of text ≡ Some text = rw is refl in
    absurd (cc)

pub none_among : (texts : List (Bor Text)) (i : ℕ) (d : Bor Text) → i < length texts → prefix_of (get_or texts i d).now ≡ None → prefixes_among (map (λ text. text.now) texts) ≡ None
none_among texts i d within none =
    let all = map (λ (text : Bor Text). text.now) texts in
    let at : get_or all i [] ≡ (get_or texts i d).now = get_or-map (λ (text : Bor Text). text.now) texts i d [] within in
    let there : i < length all = rw (length-map texts (λ (text : Bor Text). text.now)) within in
    let not : is_prefix (get_or all i []) ≡ false = ap is_prefix at ∙ no_prefix (get_or texts i d).now _ refl none in
    let no : list_all is_prefix all ≡ false = list_all_at is_prefix all i [] there not in
    rw no refl
