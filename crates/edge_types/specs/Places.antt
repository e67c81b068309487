-- The index of a table.
use Rattle.std.specs.Prelude.{◌≡◌, ◌⊎◌, ℕ, Bool, ◌==◌, List, position, None}
use Rattle.std.specs.Ordering.{nat_cmp}
use Rattle.std.specs.Cmp.Lexicographic.{slice_cmp}
use Rattle.std.specs.BTreeMap.{BTreeMap, get}
use Rattle.std.specs.Hash.FoldHasher as hasher
use Rattle.edge_types.specs.Answered.{Answered}
use Rattle.edge_types.specs.Table.{is_of, IsTable}

-- the fingerprint of a URL
unfoldable pub print_of : List ℕ → ℕ
print_of url = hasher.finish (hasher.write hasher.initial url)

-- the answer is one of a URL with this fingerprint
abbrev pub has_print : ℕ → Answered → Bool
has_print print answer = print_of answer.url == print

-- the index has the place of each URL's answer, and no URL has two
pub record Places (firsts : BTreeMap ℕ ℕ) (others : BTreeMap (List ℕ) ℕ) (answers : List Answered) : Type 0 where
  -- `firsts` has the place of the first answer of each fingerprint
  pub first : (print : ℕ) → get nat_cmp firsts print ≡ position (has_print print) answers
  -- an answer that is not the first of its fingerprint is in `others`
  pub rest : (url : List ℕ) → (position (is_of url) answers ≡ position (has_print (print_of url)) answers) ⊎ (get (slice_cmp nat_cmp) others url ≡ position (is_of url) answers)
  -- what is in `others` is the right place
  pub right : (url : List ℕ) → (get (slice_cmp nat_cmp) others url ≡ None) ⊎ (get (slice_cmp nat_cmp) others url ≡ position (is_of url) answers)
  pub once : IsTable answers
