-- What holds of a page goes on holding when its board has more slots or more answers.
use Rattle.std.proofs.Common.{◌≡◌, ◌≤◌, ◌⊎◌, inl, inr, ℕ, ◌+◌, ◌-◌, List, [], ◌∷◌, ◌++◌, length, slice_get, true, Option, Some, None, is_none, refl, sym, ◌∙◌, ap, subst, arith}
use Rattle.std.proofs.lemmas.List.{append-nil, length-map}
use Rattle.std.proofs.lemmas.List.Elements.{Contains-push}
use Rattle.std.specs.List.{Contains}
use Rattle.edge_types.specs.declared.head.Head.{Head}
use Rattle.edge_types.specs.declared.request.Request.{Request}
use Rattle.edge_types.specs.Answered.{Answered}
use Rattle.edge_types.specs.Outcome.{Shown}
use Rattle.edge_types.specs.Table.{is_of, answer_of, reply_in, reply_of}
use Rattle.esi_meaning.specs.declared.limits.TheConstants.{MAX_LEGS}
use Rattle.esi_meaning.specs.Ahead.{MayFollow, IsLegal}
use Rattle.esi_meaning.specs.Run.{Asks}
use Rattle.esi_meaning.specs.State.{Waiting, is_missing, state, waits_at}
use Rattle.esi_tree.specs.Tree.{Elements}
use Rattle.esi_vars.specs.declared.lookups.Lookups.{Lookups}
use Rattle.answer_board.specs.Board.{State, Slot, Receipt, Ticket, urls, Claims, number_of, Opens, answer_at, answer_in, filled_with, fill_fault, Fills, KeepsFilled, log_of}
use Rattle.answer_board.specs.Sound.{IsBoard}
use Rattle.answer_board.proofs.Slots.{slice_get-set_same}
use Rattle.answer_board.proofs.Stays.{answer_at-keeps}
use Rattle.plan_machine.specs.Laws.{IsPage}
use Rattle.plan_machine.specs.Machine.{Frame, Machine, after, start}
use Rattle.plan_machine.specs.Progress.{Ready}
use Rattle.plan_machine.specs.Told.{told}
use Rattle.plan_machine.proofs.Growth.{found_in_more, after_stays}
use Rattle.plan_runner.specs.declared.advance.Progress.{Progress}
use Rattle.plan_runner.specs.declared.frames.Frame as code_frame
use Rattle.plan_runner.specs.declared.page.Stage.{Stage}
use Rattle.plan_runner.specs.declared.page.Stage.TheVariants as stage
use Rattle.plan_runner.specs.declared.page.Page.TheInside.{Inside}
use Rattle.plan_runner.specs.Ahead.{Opening, opened_by}
use Rattle.plan_runner.specs.Board.{StandsBoard, IsWhole}
use Rattle.plan_runner.specs.Calls.{TakesIn, Posted, with_opening, Awaits}
use Rattle.plan_runner.specs.LastLeg.{IsLegOf}
use Rattle.plan_runner.specs.Page as page
use Rattle.plan_runner.specs.Page.{Page, Standing}
use Rattle.plan_runner.specs.Kept.{standing_of, seen, IsStage, IsKept}
use Rattle.plan_runner.specs.Resumed.{StandsAt}
use Rattle.plan_runner.specs.Running.{IsTemplate, IsRunning, IsDone}
use Rattle.plan_runner.specs.Shown.{url_in, tree_in, shown_frame, shown_frames, shown_machine, IsPlaced, ArePlaced}
use Rattle.plan_runner.proofs.Boards.{claim_urls, fill_urls, whole_same, whole_filled, whole_opens, whole_opened, whole_few, may_come, legal_on}
use Rattle.plan_runner.proofs.Done.{done_stays}
use Rattle.plan_runner.proofs.LastLegs.{failed_at_moves}

module _ (b c : State) (more : List Answered) (keeps : KeepsFilled b c) (log : log_of c ≡ log_of b ++ more) where
  placed_moves : (f : code_frame.Frame) → IsPlaced b f → IsPlaced c f
  placed_moves f p = record { answer = p.answer; tree = p.tree; there = answer_at-keeps b c keeps f.slot p.answer p.there; is_processed = p.is_processed; is_tree = p.is_tree }

  all_placed_move : (fs : List code_frame.Frame) → ArePlaced b fs → ArePlaced c fs
  all_placed_move [] p = tt
  all_placed_move (f ∷ fs) p = (placed_moves f p.0, all_placed_move fs p.1)

  frame_stays : (f : code_frame.Frame) → IsPlaced b f → shown_frame b f ≡ shown_frame c f
  frame_stays f p =
      let same : answer_at b.slots f.slot ≡ answer_at c.slots f.slot = p.there ∙ sym (answer_at-keeps b c keeps f.slot p.answer p.there) in
      ap (λ (o : Option Answered). record { url = url_in o; tree = tree_in o; level = f.level; at = f.at; end = f.end; handlers = f.handlers }) same

  frames_stay : (fs : List code_frame.Frame) → ArePlaced b fs → shown_frames b fs ≡ shown_frames c fs
  frames_stay [] p = refl
  frames_stay (f ∷ fs) p = ap (λ (g : Frame). g ∷ shown_frames b fs) (frame_stays f p.0) ∙ ap (λ (gs : List Frame). shown_frame c f ∷ gs) (frames_stay fs p.1)

  page_grows : (u : List ℕ) (t : Elements) (head : Head) (o : Option Answered) → answer_of (log_of b) u ≡ o → IsPage (log_of b) u t head → IsPage (log_of b ++ more) u t head
  page_grows u t head None is p = let missing : is_missing (log_of b) u ≡ true = ap is_none is in absurd (cc (missing, p.logged))
  page_grows u t head (Some a) is p =
      let found : answer_of (log_of b ++ more) u ≡ Some a = found_in_more (is_of u) (log_of b) more a is in
      let same : reply_of (log_of b ++ more) u ≡ reply_of (log_of b) u = ap reply_in (found ∙ sym is) in
      record { control = p.control; body = p.body; logged = ap is_none found; reply = same ∙ p.reply; is_template = p.is_template; is_tree = p.is_tree }

  stands_moves : (r : Request) (first : Machine) (p : Progress) → ArePlaced b p.machine.frames → StandsAt r b first p → StandsAt r c first p
  stands_moves r first p placed s = record {
    count = s.count;
    there =
        ap (λ (l : List Answered). after r l s.count first) log ∙ after_stays r (log_of b) more s.count first (shown_machine b p.machine) s.there
        ∙ ap (λ (fs : List Frame). Some (record { frames = fs; out = p.machine.out; legs = p.machine.legs; failed = p.machine.failed })) (frames_stay p.machine.frames placed);
    steps = s.steps;
  }

  page_moves : (u : List ℕ) (t : Elements) (head : Head) → IsPage (log_of b) u t head → IsPage (log_of c) u t head
  page_moves u t head p = subst (λ (l : List Answered). IsPage l u t head) (sym log) (page_grows u t head (answer_of (log_of b) u) refl p)

  template_moves : (u : List ℕ) (count : ℕ) → IsTemplate (log_of b) u ⊎ (count ≡ 0) → IsTemplate (log_of c) u ⊎ (count ≡ 0)
  template_moves u count (inl t) = inl (record { tree = t.tree; head = t.head; page = page_moves u t.tree t.head t.page })
  template_moves u count (inr none) = inr none

  running_moves : (r : Request) (L : ℕ) (u : List ℕ) (p : Progress) → IsRunning r L u b p → IsRunning r L u c p
  running_moves r L u p h = record {
    tree = h.tree;
    head = h.head;
    page = page_moves u h.tree h.head h.page;
    stands = stands_moves r _ p h.placed h.stands;
    placed = all_placed_move p.machine.frames h.placed;
    ready = subst (λ (fs : List Frame). Ready p.machine.failed fs) (frames_stay p.machine.frames h.placed) h.ready;
    going = h.going;
  }

  done_moves : (r : Request) (L : ℕ) (u : List ℕ) (steps : ℕ) (o : Shown) → IsDone r L u b steps o → IsDone r L u c steps o
  done_moves r L u steps o h = record {
    count = h.count;
    tells = ap (λ (l : List Answered). told r l L u h.count) log ∙ done_stays r (log_of b) more L u h.count o h.tells;
    planned = template_moves u h.count h.planned;
    steps_are = h.steps_are;
  }

  pub leg_moves : (r : Request) (L : ℕ) (u : List ℕ) (last : Option ℕ) (s : Stage) → IsLegOf r b L u last s → IsLegOf r c L u last s
  leg_moves r L u last stage.Unread h = tt
  leg_moves r L u last stage.Running h = tt
  leg_moves r L u last (stage.Done outcome) h = λ e.
      let f = h e in
      record { tree = f.tree; head = f.head; page = page_moves u f.tree f.head f.page; failed_at = failed_at_moves b c more keeps log r (start L u f.tree) last f.failed_at }
  leg_moves r L u last stage.Broken h = tt

  pub stage_moves : (r : Request) (L : ℕ) (u : List ℕ) (p : Progress) (s : Stage) → IsStage r L u b p s → IsStage r L u c p s
  stage_moves r L u p stage.Unread h = h
  stage_moves r L u p stage.Running h = running_moves r L u p h
  stage_moves r L u p (stage.Done outcome) h = done_moves r L u p.steps outcome h
  stage_moves r L u p stage.Broken h = tt

module _ (r : Request) (L : ℕ) (u : List ℕ) (ahead room : ℕ) (b c : State) where
  same_length : urls c.slots ≡ urls b.slots → length c.slots ≡ length b.slots
  same_length same = sym (length-map c.slots (λ (s : Slot). s.url)) ∙ ap length same ∙ length-map b.slots (λ (s : Slot). s.url)

  board_same : (s : Stage) → urls c.slots ≡ urls b.slots → log_of c ≡ log_of b → StandsBoard r L u ahead room b s → StandsBoard r L u ahead room c s
  board_same stage.Unread same log h = whole_same r L u ahead room b c same log h
  board_same stage.Running same log h = whole_same r L u ahead room b c same log h
  board_same (stage.Done o) same log h = whole_same r L u ahead room b c same log h
  board_same stage.Broken same log h = omega (arith, h, same_length same)

  board_filled : (s : Stage) (a : Answered) → urls c.slots ≡ urls b.slots → log_of c ≡ log_of b ++ a ∷ [] → MayFollow r u (log_of b) a.url → StandsBoard r L u ahead room b s → StandsBoard r L u ahead room c s
  board_filled stage.Unread a same log may h = whole_filled r L u ahead room b c a same log may h
  board_filled stage.Running a same log may h = whole_filled r L u ahead room b c a same log may h
  board_filled (stage.Done o) a same log may h = whole_filled r L u ahead room b c a same log may h
  board_filled stage.Broken a same log may h = omega (arith, h, same_length same)

  whole_board : (s : Stage) → (s ≡ stage.Broken → ⊥) → StandsBoard r L u ahead room b s → IsWhole r L u ahead room b
  whole_board stage.Unread unbroken h = h
  whole_board stage.Running unbroken h = h
  whole_board (stage.Done o) unbroken h = h
  whole_board stage.Broken unbroken h = absurd (unbroken refl)

  board_whole : (s : Stage) → (s ≡ stage.Broken → ⊥) → IsWhole r L u ahead room b → StandsBoard r L u ahead room b s
  board_whole stage.Unread unbroken h = h
  board_whole stage.Running unbroken h = h
  board_whole (stage.Done o) unbroken h = h
  board_whole stage.Broken unbroken h = absurd (unbroken refl)

pub whole_of : (p : Inside) → (p.stage ≡ stage.Broken → ⊥) → IsKept p → IsWhole p.request p.levels p.url p.ahead p.room p.board
whole_of p unbroken h = whole_board p.request p.levels p.url p.ahead p.room p.board p.board p.stage unbroken h.board_is

-- never more slots
pub few_slots : (p : Inside) → IsKept p → length p.board.slots ≤ MAX_LEGS + 1 + p.ahead
few_slots p h = by_stage p.stage h.board_is
  where
    by_stage : (s : Stage) → StandsBoard p.request p.levels p.url p.ahead p.room p.board s → length p.board.slots ≤ MAX_LEGS + 1 + p.ahead
    by_stage stage.Unread w = omega (arith, whole_few p.request p.levels p.url p.ahead p.room p.board h.sound w)
    by_stage stage.Running w = omega (arith, whole_few p.request p.levels p.url p.ahead p.room p.board h.sound w)
    by_stage (stage.Done o) w = omega (arith, whole_few p.request p.levels p.url p.ahead p.room p.board h.sound w)
    by_stage stage.Broken w = w

pub kept_claimed : (p : Inside) (c : State) (ticket : Option Ticket) → Claims p.board ticket c → KeepsFilled p.board c → log_of c ≡ log_of p.board → IsBoard c → IsKept p → IsKept (record p { board = c })
kept_claimed p c ticket step keeps log sound h = record {
  sound = sound;
  levels = h.levels;
  legal = subst (IsLegal p.request p.url) (sym log) h.legal;
  board_is = board_same p.request p.levels p.url p.ahead p.room p.board c p.stage (claim_urls p.board c ticket step) log h.board_is;
  stage_is = stage_moves p.board c [] keeps (log ∙ sym (append-nil (log_of p.board))) p.request p.levels p.url p.progress p.stage h.stage_is;
  leg_is = leg_moves p.board c [] keeps (log ∙ sym (append-nil (log_of p.board))) p.request p.levels p.url p.last p.stage h.leg_is;
}

-- an answer came in
module _ (p : Inside) (c : State) (x : Receipt) (unbroken : p.stage ≡ stage.Broken → ⊥) (h : IsKept p) (none : fill_fault p.board.slots x ≡ None) (fills : Fills p.board x c) (log : log_of c ≡ log_of p.board ++ x.answer ∷ []) where
  may : MayFollow p.request p.url (log_of p.board) x.answer.url
  may = may_come p.request p.levels p.url p.ahead p.room p.board x h.sound none (whole_of p unbroken h)

  legal_then : IsLegal p.request p.url (log_of c)
  legal_then = legal_on p.request p.levels p.url p.ahead p.board c x h.sound none log may h.legal

  whole_then : IsWhole p.request p.levels p.url p.ahead p.room c
  whole_then = whole_filled p.request p.levels p.url p.ahead p.room p.board c x.answer (fill_urls p.board c x fills) log may (whole_of p unbroken h)

  pub kept_filled : KeepsFilled p.board c → IsBoard c → IsKept (record p { board = c })
  kept_filled keeps sound = record {
    sound = sound;
    levels = h.levels;
    legal = legal_then;
    board_is = board_whole p.request p.levels p.url p.ahead p.room c c p.stage unbroken whole_then;
    stage_is = stage_moves p.board c (x.answer ∷ []) keeps log p.request p.levels p.url p.progress p.stage h.stage_is;
    leg_is = leg_moves p.board c (x.answer ∷ []) keeps log p.request p.levels p.url p.last p.stage h.leg_is;
  }

  -- slots were opened behind it
  pub kept_opened : (d : State) (room number : ℕ) → KeepsFilled p.board c → KeepsFilled c d → log_of d ≡ log_of c → IsBoard d → number ≡ x.number
      → ((s : Slot) (answer : Answered) → slice_get c.slots number ≡ Some s → answer_in s.standing ≡ Some answer
      → record { board = d; room = room } ≡ opened_by p.request p.levels s.depth answer (record { board = c; room = p.room }))
      → IsKept (record p { board = d; room = room })
  kept_opened d room number keeps on same sound is opens =
      let all : KeepsFilled p.board d = λ n s here filled. on n s (keeps n s here filled) filled in
      let here : slice_get c.slots number ≡ Some (filled_with x.answer fills.0) = ap (slice_get c.slots) is ∙ ap (λ (b : State). slice_get b.slots x.number) fills.2 ∙ slice_get-set_same p.board.slots x.number fills.0 (filled_with x.answer fills.0) fills.1 in
      let logged : Contains (log_of c) x.answer = subst (λ (l : List Answered). Contains l x.answer) (sym log) (Contains-push (log_of p.board) x.answer) in
      let whole : IsWhole p.request p.levels p.url p.ahead room d =
      whole_opened p.request p.levels p.url p.ahead fills.0.depth x.answer (record { board = c; room = p.room }) (record { board = d; room = room }) logged (opens (filled_with x.answer fills.0) x.answer here refl) whole_then in
      record {
        sound = sound;
        levels = h.levels;
        legal = subst (IsLegal p.request p.url) (sym same) legal_then;
        board_is = board_whole p.request p.levels p.url p.ahead room d d p.stage unbroken whole;
        stage_is = stage_moves p.board d (x.answer ∷ []) all (same ∙ log) p.request p.levels p.url p.progress p.stage h.stage_is;
        leg_is = leg_moves p.board d (x.answer ∷ []) all (same ∙ log) p.request p.levels p.url p.last p.stage h.leg_is;
      }

  -- not all could be opened
  pub kept_broken : (d : State) → IsBoard c → log_of d ≡ log_of c → IsBoard d → length d.slots ≤ length c.slots + p.room → IsKept (record p { board = d; stage = stage.Broken })
  kept_broken d filled same sound few = record {
    sound = sound;
    levels = h.levels;
    legal = subst (IsLegal p.request p.url) (sym same) legal_then;
    board_is = omega (arith, few, whole_few p.request p.levels p.url p.ahead p.room c filled whole_then);
    stage_is = tt;
    leg_is = tt;
  }

-- more was looked up for it
abbrev pub with_lookups : Lookups → Progress → Progress
with_lookups found p = record p { machine = record p.machine { lookups = found } }

stage_knows : (r : Request) (L : ℕ) (u : List ℕ) (b : State) (found : Lookups) (p : Progress) (s : Stage) → IsStage r L u b p s → IsStage r L u b (with_lookups found p) s
stage_knows r L u b found p stage.Unread h = h
stage_knows r L u b found p stage.Running h = record {
  tree = h.tree;
  head = h.head;
  page = h.page;
  stands = record { count = h.stands.count; there = h.stands.there; steps = h.stands.steps };
  placed = h.placed;
  ready = h.ready;
  going = h.going;
}
stage_knows r L u b found p (stage.Done outcome) h = h
stage_knows r L u b found p stage.Broken h = tt

pub kept_knows : (p : Inside) (found : Lookups) → IsKept p → IsKept (record p { progress = with_lookups found p.progress })
kept_knows p found h = record {
  sound = h.sound;
  levels = h.levels;
  legal = h.legal;
  board_is = h.board_is;
  stage_is = stage_knows p.request p.levels p.url p.board found p.progress p.stage h.stage_is;
  leg_is = h.leg_is;
}

-- it waits for this URL, which has a slot now
pub kept_waits : (p : Inside) (progress : Progress) (d : State) (w : List ℕ) (depth number : ℕ) → (p.stage ≡ stage.Broken → ⊥) → IsKept p → IsRunning p.request p.levels p.url p.board progress
    → state p.request (log_of p.board) p.levels p.url ≡ Waiting w → Opens (number_of p.board.slots w) w depth p.board number d → KeepsFilled p.board d → log_of d ≡ log_of p.board → IsBoard d
    → IsKept (record p { board = d; progress = progress; stage = stage.Running })
kept_waits p progress d w depth number unbroken h running waits opens keeps log sound = record {
  sound = sound;
  levels = h.levels;
  legal = subst (IsLegal p.request p.url) (sym log) h.legal;
  board_is = whole_opens p.request p.levels p.url p.ahead p.room p.board d w depth number h.sound h.legal waits opens (whole_of p unbroken h);
  stage_is = stage_moves p.board d [] keeps (log ∙ sym (append-nil (log_of p.board))) p.request p.levels p.url progress stage.Running running;
  leg_is = tt;
}

-- a growth was refused
pub kept_spoiled : (p : Inside) (c : State) (progress : Progress) (s : Stage) → c ≡ p.board → s ≡ stage.Broken → IsKept p → IsKept (record p { board = c; progress = progress; stage = s })
kept_spoiled p c progress s same broken h =
    subst (λ (b : State). IsKept (record p { board = b; progress = progress; stage = s })) (sym same)
    (subst (λ (x : Stage). IsKept (record p { progress = progress; stage = x })) (sym broken) (record { sound = h.sound; levels = h.levels; legal = h.legal; board_is = few_slots p h; stage_is = tt; leg_is = tt }))

-- it came to this
pub kept_came : (p : Inside) (progress : Progress) (s : Stage) (last : Option ℕ) → (p.stage ≡ stage.Broken → ⊥) → (s ≡ stage.Broken → ⊥) → IsKept p → IsStage p.request p.levels p.url p.board progress s → IsLegOf p.request p.board p.levels p.url last s
    → IsKept (record p { progress = progress; stage = s; last = last })
kept_came p progress s last unbroken other h is leg =
    record { sound = h.sound; levels = h.levels; legal = h.legal; board_is = board_whole p.request p.levels p.url p.ahead p.room p.board p.board s other (whole_of p unbroken h); stage_is = is; leg_is = leg }

-- a page that goes on isn't broken
pub goes_on : (p : Inside) (old : Page) → seen p ≡ old → old.standing ≡ page.Underway → p.stage ≡ stage.Broken → ⊥
goes_on p old view is broken =
    let going : standing_of p.stage ≡ page.Underway = ap (λ (v : Page). v.standing) view ∙ is in
    let other : standing_of p.stage ≡ page.Broken = ap standing_of broken in
    absurd (cc)

pub under : (s : Stage) → (s ≡ stage.Broken → ⊥) → ((o : Shown) → s ≡ stage.Done o → ⊥) → standing_of s ≡ page.Underway
under stage.Unread whole undone = refl
under stage.Running whole undone = refl
under (stage.Done o) whole undone = absurd (undone o refl)
under stage.Broken whole undone = absurd (whole refl)

pub takes_done : (p : Inside) (old : Page) (receipt : Receipt) (filled : State) (o : Shown) → seen p ≡ old → p.stage ≡ stage.Done o → fill_fault p.board.slots receipt ≡ None → Fills p.board receipt filled
    → TakesIn old receipt (seen (record p { board = filled }))
takes_done p old receipt filled o view is none fills =
    subst (λ (v : Page). TakesIn v receipt (seen (record p { board = filled }))) view (record { no_fault = none; filled = filled; fills = fills; posted = rw is refl })

fits_slot : (p : Inside) (receipt : Receipt) (filled : State) (fills : Fills p.board receipt filled) → slice_get filled.slots receipt.number ≡ Some (filled_with receipt.answer fills.0)
fits_slot p receipt filled fills = ap (λ (b : State). slice_get b.slots receipt.number) fills.2 ∙ slice_get-set_same p.board.slots receipt.number fills.0 (filled_with receipt.answer fills.0) fills.1

pub takes_underway : (p : Inside) (old : Page) (receipt : Receipt) (filled new : State) (number room : ℕ) → seen p ≡ old → standing_of p.stage ≡ page.Underway → number ≡ receipt.number → fill_fault p.board.slots receipt ≡ None
    → Fills p.board receipt filled
    → ((s : Slot) (answer : Answered) → slice_get filled.slots number ≡ Some s → answer_in s.standing ≡ Some answer
    → record { board = new; room = room } ≡ opened_by p.request p.levels s.depth answer (record { board = filled; room = p.room }))
    → TakesIn old receipt (seen (record p { board = new; room = room }))
takes_underway p old receipt filled new number room view is same none fills opens =
    let here : slice_get filled.slots number ≡ Some (filled_with receipt.answer fills.0) = ap (slice_get filled.slots) same ∙ fits_slot p receipt filled fills in
    let made : record { board = new; room = room } ≡ opened_by p.request p.levels fills.0.depth receipt.answer (record { board = filled; room = p.room }) = opens (filled_with receipt.answer fills.0) receipt.answer here refl in
    subst (λ (v : Page). TakesIn v receipt (seen (record p { board = new; room = room }))) view
    (record { no_fault = none; filled = filled; fills = fills; posted = posted_underway (seen p) receipt fills.0.depth filled (record { board = new; room = room }) is made })
  where
    posted_underway : (q : Page) (x : Receipt) (depth : ℕ) (b : State) (o : Opening) → q.standing ≡ page.Underway → o ≡ opened_by q.request q.levels depth x.answer (record { board = b; room = q.room })
        → Posted q.standing q x depth b (with_opening q o)
    posted_underway q x depth b o e made = subst (λ (s : Standing). Posted s q x depth b (with_opening q o)) (sym e) (ap (with_opening q) made)

pub moves_unread : (p : Inside) (old : Page) → seen p ≡ old → waits_at p.request (log_of p.board) p.levels p.url ≡ None → Awaits old.levels (waits_at old.request (log_of old.board) old.levels old.url) old.board p.board
moves_unread p old view none = subst (λ (v : Page). Awaits v.levels (waits_at v.request (log_of v.board) v.levels v.url) v.board p.board) view (rw none refl)

pub moves_waits : (p : Inside) (old : Page) (new : State) (number level depth : ℕ) (w : List ℕ) → seen p ≡ old → waits_at p.request (log_of p.board) p.levels p.url ≡ Some (Asks level w) → depth ≡ p.levels - level + 1
    → Opens (number_of p.board.slots w) w depth p.board number new → Awaits old.levels (waits_at old.request (log_of old.board) old.levels old.url) old.board new
moves_waits p old new number level depth w view leg deep opens =
    let at : Opens (number_of p.board.slots w) w (p.levels - level + 1) p.board number new = subst (λ (d : ℕ). Opens (number_of p.board.slots w) w d p.board number new) deep opens in
    subst (λ (v : Page). Awaits v.levels (waits_at v.request (log_of v.board) v.levels v.url) v.board new) view (rw leg (number, at))
