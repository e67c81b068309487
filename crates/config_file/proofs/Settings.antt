-- The settings so far, as the definitions see them.
use Rattle.std.proofs.Common.{◌≡◌, ◌<◌, ℕ, suc, ◌+◌, List, [], ◌∷◌, ◌||◌, Result, Ok, Bor, bytes_eq, get_or, length, string_bytes, map, refl, ap, sym, subst, arith}
use Rattle.std.proofs.lemmas.List.{get_or-map}
use Rattle.config_file.specs.Lines.{Text}
use Rattle.config_file.specs.Reading.{File, Fault, after, has, is_set, shown_setting, with_line}
use Rattle.config_file.specs.declared.naming.OptionNames.{OptionNames}
use Rattle.config_file.specs.declared.reading.Setting.{Setting}

pub has_shown : (subject : Text) (settings : List Setting) → has subject (map shown_setting settings) ≡ is_set subject settings
has_shown subject [] = refl
has_shown subject (s ∷ ss) = ap (λ more. bytes_eq (string_bytes s.subject) subject || more) (has_shown subject ss)

-- ---- one more line of a file

abbrev pub texts : List (Bor Text) → List Text
texts lines = map (λ line. line.now) lines

after_suc : (names : OptionNames) (lines : List Text) (n : ℕ) (file : File) (r : Result File Fault)
    → after names lines n ≡ Ok file → with_line names (suc n) (get_or lines n []) file ≡ r → after names lines (suc n) ≡ r
after_suc names lines n file r is next = rw is next

pub after_next : (names : OptionNames) (lines : List (Bor Text)) (n : ℕ) (d : Bor Text) (file : File) (r : Result File Fault) → n < length lines
    → after names (texts lines) n ≡ Ok file → with_line names (n + 1) (get_or lines n d).now file ≡ r → after names (texts lines) (n + 1) ≡ r
after_next names lines n d file r within is next =
    let same : suc n ≡ n + 1 = omega arith in
    let at : get_or (texts lines) n [] ≡ (get_or lines n d).now = get_or-map (λ (w : Bor Text). w.now) lines n d [] within in
    let numbered : with_line names (suc n) (get_or lines n d).now file ≡ r = subst (λ (m : ℕ). with_line names m (get_or lines n d).now file ≡ r) (sym same) next in
    let there : with_line names (suc n) (get_or (texts lines) n []) file ≡ r = subst (λ (t : Text). with_line names (suc n) t file ≡ r) (sym at) numbered in
    subst (λ (m : ℕ). after names (texts lines) m ≡ r) same (after_suc names (texts lines) n file r is there)
