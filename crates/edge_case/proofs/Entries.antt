-- Answers as they are written: what is read is written so, and what is written so is read.
use Rattle.std.proofs.Common.{◌≡◌, ◌≢◌, ℕ, ◌+◌, ◌<◌, ◌≤◌, false, nat_lt, List, [], ◌∷◌, ◌++◌, length, take, drop, refl, sym, ◌∙◌, ap, subst, Option, Some, None, arith, codes, decimal, length-append, take-append-drop}
use Rattle.std.proofs.Math.Seq.{take-append_seam, drop-append_seam}
use Rattle.std.proofs.lemmas.List.{length-take}
use Rattle.std.proofs.lemmas.List.Elements.{All-from_get_or, All-append, All-cons, All-tail}
use Rattle.std.proofs.lemmas.Bool.{eqb-false, ltb-false, le-ltb, cond-false}
use Rattle.std.specs.List.{All}
use Rattle.std.specs.Option.{option_or}
use Rattle.edge_case.specs.Document.{space, line_feed, Entry, Failed, Got, line, field, got_line, entry, IsValue, IsField, IsEntry}
use Rattle.edge_types.specs.Halves.{around}
use Rattle.edge_case.specs.Reading.{after_word, line_at, field_at, number_of, got_line_of, body_at, failed_at, got_at, entry_at}
use Rattle.edge_case.proofs.Steps.{bound, mapped, unguarded, same_value}
use Rattle.edge_case.proofs.Lines.{around_sound, around_complete, after_word_sound, after_word_complete, line_at_sound, line_at_complete, field_at_sound, field_at_complete, lacks_field}
use Rattle.edge_case.proofs.Numbers.{number_sound, number_complete, decimal_lacks}

-- ---- the first line of what was got

-- the line is this one
pub record GotLine (text : List ℕ) (x : ℕ × ℕ × List ℕ) : Type 0 where
  pub whole : text ≡ got_line x.0 x.1 x.2
  pub url : IsValue text → IsValue x.2

behind : (front back : List ℕ) (mark : ℕ) → IsValue (front ++ mark ∷ back) → IsValue back
behind [] back mark h = All-tail (λ b. b ≢ line_feed) mark back h
behind (b ∷ front) back mark h = behind front back mark (All-tail (λ b. b ≢ line_feed) b (front ++ mark ∷ back) h)

pub got_line_sound : (text : List ℕ) (x : ℕ × ℕ × List ℕ) → got_line_of text ≡ Some x → GotLine text x
unfolding got_line_of
got_line_sound text x found =
    let (first, read0, f0) = bound (around space text) _ x found in
    let (status, read1, f1) = bound (number_of first.0) _ x f0 in
    let (second, read2, f2) = bound (around space first.1) _ x f1 in
    let (len, read3, f3) = bound (number_of second.0) _ x f2 in
    let both : ◌≡◌ {A = ℕ × ℕ × List ℕ} (status, len, second.1) x = same_value _ _ f3 in
    let p0 = around_sound space text first.0 first.1 read0 in
    let p2 = around_sound space first.1 second.0 second.1 read2 in
    let tail : first.1 ≡ decimal len ++ space ∷ second.1 = p2.0 ∙ ap (λ (v : List ℕ). v ++ space ∷ second.1) (number_sound second.0 len read3) in
    let whole : text ≡ got_line status len second.1 =
    p0.0 ∙ ap (λ (v : List ℕ). v ++ space ∷ first.1) (number_sound first.0 status read1) ∙ ap (λ (t : List ℕ). decimal status ++ space ∷ t) tail in
    let url : IsValue text → IsValue second.1 = λ is.
    behind (decimal len) second.1 space (behind (decimal status) (decimal len ++ space ∷ second.1) space (subst (λ (t : List ℕ). IsValue t) whole is)) in
    let line : GotLine text (status, len, second.1) = record { whole = whole; url = url } in
    subst (λ (y : ℕ × ℕ × List ℕ). GotLine text y) both line

no_space : (n : ℕ) → n < 1000000 → All (λ b. b ≢ space) (decimal n)
no_space n small = All-from_get_or (λ b. b ≢ space) (decimal n) 0 (decimal_lacks n space small (omega arith))

no_feed : (n : ℕ) → n < 1000000 → IsValue (decimal n)
no_feed n small = All-from_get_or (λ b. b ≢ line_feed) (decimal n) 0 (decimal_lacks n line_feed small (omega arith))

space_is_no_feed : space ≢ line_feed
space_is_no_feed e = absurd (eqb-false space line_feed refl e)

pub got_line_value : (status len : ℕ) (url : List ℕ) → status < 1000000 → len < 1000000 → IsValue url → IsValue (got_line status len url)
got_line_value status len url s l is =
    let P : ℕ → Type 0 = λ b. b ≢ line_feed in
    All-append (λ b. b ≢ line_feed) (decimal status) (space ∷ (decimal len ++ space ∷ url)) (no_feed status s)
    (All-cons (λ b. b ≢ line_feed) space (decimal len ++ space ∷ url) space_is_no_feed
    (All-append (λ b. b ≢ line_feed) (decimal len) (space ∷ url) (no_feed len l) (All-cons (λ b. b ≢ line_feed) space url space_is_no_feed is)))

pub got_line_complete : (status len : ℕ) (url : List ℕ) → status < 1000000 → len < 1000000 → got_line_of (got_line status len url) ≡ Some (status, len, url)
unfolding got_line_of
got_line_complete status len url s l =
    let tail : List ℕ = decimal len ++ space ∷ url in
    let r0 : around space (got_line status len url) ≡ Some (decimal status, decimal len ++ space ∷ url) = around_complete space (decimal status) (decimal len ++ space ∷ url) (no_space status s) in
    let r1 : number_of (decimal status) ≡ Some status = number_complete status s in
    let r2 : around space (decimal len ++ space ∷ url) ≡ Some (decimal len, url) = around_complete space (decimal len) url (no_space len l) in
    let r3 : number_of (decimal len) ≡ Some len = number_complete len l in
    rw (r0, r1, r2, r3) refl

-- ---- bodies

-- so many bytes, a line feed and the rest
pub record Bodied (len : ℕ) (text : List ℕ) (x : List ℕ × List ℕ) : Type 0 where
  pub whole : text ≡ x.0 ++ line_feed ∷ x.1
  pub long : length x.0 ≡ len

pub body_sound : (len : ℕ) (text : List ℕ) (x : List ℕ × List ℕ) → body_at len text ≡ Some x → Bodied len text x
unfolding body_at
body_sound len text x found =
    let (enough, f0) = unguarded (nat_lt (length text) len) _ x found in
    let (rest, read, made) = mapped (after_word (codes "\n") (drop len text)) (λ rest. (take len text, rest)) x f0 in
    let tail : drop len text ≡ line_feed ∷ rest = after_word_sound (codes "\n") (drop len text) rest read in
    let fits : len ≤ length text = ltb-false _ _ enough in
    let bodied : Bodied len text (take len text, rest) = record {
      whole = sym (take-append-drop len text) ∙ ap (λ (t : List ℕ). take len text ++ t) tail;
      long = omega (arith, length-take len text);
    } in
    subst (λ (y : List ℕ × List ℕ). Bodied len text y) made bodied

body_read : (len : ℕ) (text body rest : List ℕ) → len ≤ length text → take len text ≡ body → drop len text ≡ line_feed ∷ rest → body_at len text ≡ Some (body, rest)
unfolding body_at
body_read len text body rest fits front back =
    let enough : nat_lt (length text) len ≡ false = le-ltb _ _ fits in
    let read : after_word (codes "\n") (line_feed ∷ rest) ≡ Some rest = after_word_complete (codes "\n") rest in
    cond-false (nat_lt (length text) len) None _ enough ∙ rw (front, back, read) refl

pub body_complete : (body rest : List ℕ) → body_at (length body) (body ++ line_feed ∷ rest) ≡ Some (body, rest)
body_complete body rest =
    body_read (length body) (body ++ line_feed ∷ rest) body rest (omega (arith, length-append body (line_feed ∷ rest)))
    (take-append_seam body (line_feed ∷ rest)) (drop-append_seam body (line_feed ∷ rest))

-- ---- answers

-- the text is this answer, and then the rest
pub record Entered (text : List ℕ) (x : Entry × List ℕ) : Type 0 where
  pub whole : text ≡ entry x.0 x.1
  pub lines : IsEntry x.0

failed_sound : (text : List ℕ) (x : Entry × List ℕ) → failed_at text ≡ Some x → Entered text x
unfolding failed_at
failed_sound text x found =
    let (l, read, f0) = bound (line_at (codes "failed ") text) _ x found in
    let both : ◌≡◌ {A = Entry × List ℕ} (Failed l.0, l.1) x = same_value _ _ f0 in
    let p = line_at_sound (codes "failed ") text l.0 l.1 read in
    let entered : Entered text (Failed l.0, l.1) = record { whole = p.0; lines = p.1 } in
    subst (λ (y : Entry × List ℕ). Entered text y) both entered

joined : (status len : ℕ) (url : List ℕ) (content_type control : Option (List ℕ)) (body text head t0 t1 t2 start rest : List ℕ)
    → text ≡ line (codes "answer ") head t0 → head ≡ got_line status len url → t0 ≡ field (codes "type ") content_type t1 → t1 ≡ field (codes "control ") control t2
    → t2 ≡ codes "body\n" ++ start → start ≡ body ++ line_feed ∷ rest → length body ≡ len → text ≡ entry (Got status url content_type control body) rest
joined status len url content_type control body text head t0 t1 t2 start rest e0 e1 e2 e3 e4 e5 long =
    e0 ∙ ap (λ (h : List ℕ). line (codes "answer ") h t0) (e1 ∙ ap (λ n. got_line status n url) (sym long))
    ∙ ap (λ (t : List ℕ). line (codes "answer ") (got_line status (length body) url) t)
    (e2 ∙ ap (λ (t : List ℕ). field (codes "type ") content_type t) (e3 ∙ ap (λ (t : List ℕ). field (codes "control ") control t) (e4 ∙ ap (λ (t : List ℕ). codes "body\n" ++ t) e5)))

got_sound : (text : List ℕ) (x : Entry × List ℕ) → got_at text ≡ Some x → Entered text x
unfolding got_at
got_sound text x found =
    let (l, read0, f0) = bound (line_at (codes "answer ") text) _ x found in
    let (head, read1, f1) = bound (got_line_of l.0) _ x f0 in
    let (content_type, read2, f2) = bound (field_at (codes "type ") l.1) _ x f1 in
    let (control, read3, f3) = bound (field_at (codes "control ") content_type.1) _ x f2 in
    let (start, read4, f4) = bound (after_word (codes "body\n") control.1) _ x f3 in
    let (body, read5, f5) = bound (body_at head.1 start) _ x f4 in
    let both : ◌≡◌ {A = Entry × List ℕ} (Got head.0 head.2 content_type.0 control.0 body.0, body.1) x = same_value _ _ f5 in
    let p0 = line_at_sound (codes "answer ") text l.0 l.1 read0 in
    let p1 = got_line_sound l.0 head read1 in
    let p2 = field_at_sound (codes "type ") l.1 content_type.0 content_type.1 read2 in
    let p3 = field_at_sound (codes "control ") content_type.1 control.0 control.1 read3 in
    let p4 = after_word_sound (codes "body\n") control.1 start read4 in
    let p5 = body_sound head.1 start body read5 in
    let entered : Entered text (Got head.0 head.2 content_type.0 control.0 body.0, body.1) = record {
      whole = joined head.0 head.1 head.2 content_type.0 control.0 body.0 text l.0 l.1 content_type.1 control.1 start body.1 p0.0 p1.whole p2.0 p3.0 p4 p5.whole p5.long;
      lines = (p1.url p0.1, p2.1, p3.1);
    } in
    subst (λ (y : Entry × List ℕ). Entered text y) both entered

either : (text : List ℕ) (o p : Option (Entry × List ℕ)) (x : Entry × List ℕ) → ((y : Entry × List ℕ) → o ≡ Some y → Entered text y) → ((y : Entry × List ℕ) → p ≡ Some y → Entered text y)
    → option_or o p ≡ Some x → Entered text x
either text None p x first second e = second x e
either text (Some y) p x first second e = first x e

pub entry_sound : (text : List ℕ) (x : Entry × List ℕ) → entry_at text ≡ Some x → Entered text x
unfolding entry_at
entry_sound text x found = either text (failed_at text) (got_at text) x (failed_sound text) (got_sound text) found

-- what has a number that can be read
abbrev pub IsSmall : Entry → Type 0
IsSmall (Failed url) = Unit {0}
IsSmall (Got status url content_type control body) = (status < 1000000) × (length body < 1000000)

no_failure : (t : List ℕ) → failed_at (codes "answer " ++ t) ≡ None
unfolding failed_at line_at after_word
no_failure t = refl

lacks_control : (t : List ℕ) → after_word (codes "control ") (codes "body\n" ++ t) ≡ None
unfolding after_word
lacks_control t = refl

lacks_type : (control : Option (List ℕ)) (t : List ℕ) → after_word (codes "type ") (field (codes "control ") control (codes "body\n" ++ t)) ≡ None
unfolding after_word
lacks_type control t = lacks_field (codes "type ") (codes "control ") control (codes "body\n" ++ t) (λ u. refl) refl

got_complete : (status : ℕ) (url : List ℕ) (content_type control : Option (List ℕ)) (body rest : List ℕ) → IsValue url → IsField content_type → IsField control → status < 1000000 → length body < 1000000
    → got_at (entry (Got status url content_type control body) rest) ≡ Some (Got status url content_type control body, rest)
unfolding got_at
got_complete status url content_type control body rest u c k s l =
    let start : List ℕ = body ++ line_feed ∷ rest in
    let t2 : List ℕ = codes "body\n" ++ start in
    let t1 : List ℕ = field (codes "control ") control t2 in
    let t0 : List ℕ = field (codes "type ") content_type t1 in
    let r0 : line_at (codes "answer ") (entry (Got status url content_type control body) rest) ≡ Some (got_line status (length body) url, t0) =
    line_at_complete (codes "answer ") (got_line status (length body) url) t0 (got_line_value status (length body) url s l u) in
    let r1 : got_line_of (got_line status (length body) url) ≡ Some (status, length body, url) = got_line_complete status (length body) url s l in
    let r2 : field_at (codes "type ") t0 ≡ Some (content_type, t1) = field_at_complete (codes "type ") content_type t1 c (lacks_type control start) in
    let r3 : field_at (codes "control ") t1 ≡ Some (control, t2) = field_at_complete (codes "control ") control t2 k (lacks_control start) in
    let r4 : after_word (codes "body\n") t2 ≡ Some start = after_word_complete (codes "body\n") start in
    let r5 : body_at (length body) start ≡ Some (body, rest) = body_complete body rest in
    rw (r0, r1, r2, r3, r4, r5) refl

failed_complete : (url rest : List ℕ) → IsValue url → failed_at (entry (Failed url) rest) ≡ Some (Failed url, rest)
unfolding failed_at
failed_complete url rest is =
    let read : line_at (codes "failed ") (line (codes "failed ") url rest) ≡ Some (url, rest) = line_at_complete (codes "failed ") url rest is in
    rw read refl

pub entry_complete : (e : Entry) (rest : List ℕ) → IsEntry e → IsSmall e → entry_at (entry e rest) ≡ Some (e, rest)
unfolding entry_at
entry_complete (Failed url) rest is small =
    ap (λ o. option_or o (got_at (entry (Failed url) rest))) (failed_complete url rest is)
entry_complete (Got status url content_type control body) rest is small =
    ap (λ o. option_or o (got_at (entry (Got status url content_type control body) rest))) (no_failure _)
    ∙ got_complete status url content_type control body rest is.0 is.1 is.2 small.0 small.1

pub no_end : entry_at (codes "end\n") ≡ None
unfolding entry_at failed_at got_at line_at after_word
no_end = refl

-- an answer is read up to a shorter text
line_longer : (word value text : List ℕ) → length text < length (line word value text)
line_longer word value text = omega (arith, length-append word (value ++ line_feed ∷ text), length-append value (line_feed ∷ text))

field_longer : (word : List ℕ) (f : Option (List ℕ)) (text : List ℕ) → length text ≤ length (field word f text)
field_longer word None text = omega arith
field_longer word (Some value) text = let longer = line_longer word value text in omega arith

entry_longer : (e : Entry) (text : List ℕ) → length text < length (entry e text)
entry_longer (Failed url) text = line_longer (codes "failed ") url text
entry_longer (Got status url content_type control body) text =
    let t3 : List ℕ = body ++ line_feed ∷ text in
    let t2 : List ℕ = codes "body\n" ++ t3 in
    let t1 : List ℕ = field (codes "control ") control t2 in
    let t0 : List ℕ = field (codes "type ") content_type t1 in
    let l3 : length t3 ≡ length body + length (line_feed ∷ text) = length-append body (line_feed ∷ text) in
    let l2 : length t2 ≡ length (codes "body\n") + length t3 = length-append (codes "body\n") t3 in
    let l1 : length t2 ≤ length t1 = field_longer (codes "control ") control t2 in
    let l0 : length t1 ≤ length t0 = field_longer (codes "type ") content_type t1 in
    let l : length t0 < length (line (codes "answer ") (got_line status (length body) url) t0) = line_longer (codes "answer ") (got_line status (length body) url) t0 in
    longest (length text) (length t3) (length t2) (length t1) (length t0) _ (omega arith) (omega arith) l1 l0 l
  where
    longest : (a b c d e f : ℕ) → a < b → b ≤ c → c ≤ d → d ≤ e → e < f → a < f
    longest a b c d e f p q r s t = omega arith

pub entry_shorter : (text : List ℕ) (x : Entry × List ℕ) → entry_at text ≡ Some x → length x.1 < length text
entry_shorter text x found =
    let longer : length x.1 < length (entry x.0 x.1) = entry_longer x.0 x.1 in
    subst (λ (t : List ℕ). length x.1 < length t) (sym (entry_sound text x found).whole) longer
