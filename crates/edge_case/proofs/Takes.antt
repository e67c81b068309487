-- What several reads take, one after another.
use Rattle.std.proofs.Common.{ℕ, ◌+◌, ◌<◌, ◌≤◌, List, [], ◌++◌, length, sym, ◌∙◌, ap, subst, Option, Some, None, arith, append-nil, length-append}
use Rattle.std.proofs.KnownBytes.{Consumes-nil, Consumes-trans}
use Rattle.std.specs.Io.KnownBytes.{Consumes, IsAtEnd}
use Rattle.edge_case.specs.Bytes.{TakesAtMost, Moves, IsInput, IsLonger}

-- nothing is taken
pub takes_none : (most : ℕ) (a : Option (List ℕ)) → TakesAtMost most a a
takes_none most a = record { taken = []; few = omega arith; consumed = Consumes-nil a }

pub takes_all : (most : ℕ) (a b : Option (List ℕ)) (text : List ℕ) → length text ≤ most → Consumes a b text → TakesAtMost most a b
takes_all most a b text few c = record { taken = text; few = few; consumed = c }

-- a text, and then at most so many bytes more
pub takes_more : (most some : ℕ) (a b c : Option (List ℕ)) (text : List ℕ) → length text + some ≤ most → Consumes a b text → TakesAtMost some b c → TakesAtMost most a c
takes_more most some a b c text few first second = record {
  taken = text ++ second.taken;
  few = let more = second.few in omega (arith, length-append text second.taken);
  consumed = Consumes-trans a b c text second.taken first second.consumed;
}

-- one read more
pub moved : (most n : ℕ) (a b c : Option (List ℕ)) (old new : List ℕ) → Consumes a b old → Moves most n b c old new → Consumes a c new
moved most n a b c old new first m = subst (λ (t : List ℕ). Consumes a c t) (sym m.added) (Consumes-trans a b c old m.taken first m.consumed)

-- the whole input was read
pub whole_input : (a b : Option (List ℕ)) (text : List ℕ) → Consumes a b text → IsAtEnd b → IsInput a text
whole_input None b text c end = tt
whole_input (Some xs) None text c end = absurd c
whole_input (Some xs) (Some ys) text c end = c ∙ ap (λ (t : List ℕ). text ++ t) end ∙ append-nil text

-- more than so many bytes were read
pub longer_input : (n : ℕ) (a b : Option (List ℕ)) (text : List ℕ) → Consumes a b text → n < length text → IsLonger n a
longer_input n None b text c h = tt
longer_input n (Some xs) None text c h = absurd c
longer_input n (Some xs) (Some ys) text c h = omega (arith, ap length c, length-append text ys)
