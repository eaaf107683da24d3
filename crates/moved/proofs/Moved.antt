-- Request One, over histories: after any calls to a fresh or loaded controller, save it, load it elsewhere into words of any content, and go on:
-- every answer and every word is as it would have been without the move, and nothing that waits is lost by it. Assumes nothing.
use mathlib.Core.Path.{◌≡◌, refl, sym, ap, subst, ◌∙◌}
use mathlib.Core.Bool.{true, false}
use mathlib.Core.List.{List, [], ◌∷◌, ◌++◌}
use Prim.Native.Nat.{ℕ, ◌%◌, ◌≤◌, ◌<◌}
use native.Mathlib.Omega.{arith}
use lib.ListN.{length, get_or, take, drop}
use lib.Seq.{get_or-take}
use Rattle.interrupt.specs.declared.record.InterruptRecord.{InterruptRecord}
use Rattle.word.specs.Word.{record_of}
use Rattle.state.specs.declared.layout.Shape.{Shape}
use Rattle.state.specs.Layout.{Slot, Count, Limit, Sources, size, place, Exists}
use Rattle.state.specs.Lent.{shaped}
use Rattle.state.specs.Words.{word_at, record_slot, RecordThere, record_at}
use Rattle.state.proofs.Accessors.{record_exists}
use Rattle.state.proofs.Places.{place_inside}
use Rattle.answer.specs.Answer.{Outcome, gave}
use Rattle.lawful.specs.Lawful.{Controls}
use Rattle.image.specs.Image.{image}
use Rattle.save.specs.Save.{save, image_bytes}
use Rattle.save.proofs.Bound.{image_fits}
use Rattle.load.specs.Load.{image_shape, load}
use Rattle.moving.proofs.Restores.{images_load}
use Rattle.moving.proofs.Moving.{LeavesAs, load_restores_the_words, only_images_load, lawful_states_are_saved, only_lawful_states_are_saved}
use Rattle.history.specs.History.{Call, Save, Load, IrqLevel, is_start, called, run, Handed, handed, answers, no_start, Started}
use Rattle.history.proofs.Always.{stored, always}
use Rattle.reach.specs.Reach.{size_or, stored_extent, ReachAtMost, SameFront}
use Rattle.reach.proofs.Never.{calls_never_read}
use Rattle.reach.proofs.Reach.{held_stored, past_never_read}
use Rattle.waiting.specs.Waiting.{bit, rung, pends}
use Rattle.levels.specs.Levels.{told_level}
use Rattle.moved.specs.Moved.{carried, there, SameState, largest_image_bytes}

-- how large a buffer is enough
module _ (shape : Shape) (s : List ℕ) (h : Controls shape s) (buffer : List ℕ) where
  pub a_buffer_of_that_size_is_enough : image_bytes shape ≤ length buffer → (called (Save buffer) s).refusal ≡ 0
  a_buffer_of_that_size_is_enough room =
      ap (λ (o : Outcome). o.refusal) (lawful_states_are_saved shape s h.lawful buffer (omega (arith, room, image_fits shape s h.lawful)))

  -- .. of any count and limit: 11,108 bytes
  pub enough_for_the_largest_is_enough : largest_image_bytes ≤ length buffer → (called (Save buffer) s).refusal ≡ 0
  enough_for_the_largest_is_enough room =
      let limits = h.lawful.in_range.state.limits in
      a_buffer_of_that_size_is_enough (omega (arith, room, limits.few_vcpus, limits.few_numbers))

  pub carried_is_the_image : (called (Save buffer) s).refusal ≡ 0 → carried s buffer ≡ image shape s
  carried_is_the_image saved =
      let it = only_lawful_states_are_saved s buffer saved in
      let same : it.shape ≡ shape = it.lawful.in_range.stored ∙ sym h.lawful.in_range.stored in
      ap (λ (n : ℕ). take n (save s buffer).buffer) it.length_is ∙ it.front ∙ ap (λ (k : Shape). image k s) same

-- a controller that was saved, and words elsewhere with room for it
module _ (shape : Shape) (s : List ℕ) (h : Controls shape s) (buffer : List ℕ) (saved : (called (Save buffer) s).refusal ≡ 0) (w : List ℕ) (room : size shape ≤ length w) where
  abbrev bytes : List ℕ
  bytes = carried s buffer

  abbrev after : List ℕ
  after = there s buffer w

  -- "loading answers 0, wakes nobody"
  pub it_loads : called (Load bytes) w ≡ gave 0 after
  it_loads = subst (λ (b : List ℕ). load b w ≡ gave 0 (load b w).state) (sym (carried_is_the_image shape s h buffer saved)) (images_load shape s h.lawful w room)

  -- so what holds from a loaded controller on holds there
  pub it_starts : Started (Load bytes) w
  it_starts = record { starts = refl; accepted = ap (λ (o : Outcome). o.refusal) it_loads }

  pub same_words : SameState shape s after
  same_words =
      subst (λ (b : List ℕ). take (size shape) s ≡ take (size shape) (load b w).state) (sym (carried_is_the_image shape s h buffer saved))
      (sym (load_restores_the_words shape s h.lawful w room h.canonical))

  same_word : (t : Slot) → Exists shape t → word_at shape t after ≡ word_at shape t s
  same_word t e =
      let inside : place shape t < size shape = place_inside shape t h.lawful.in_range.state.limits e in
      sym (get_or-take (size shape) after (place shape t) 0 inside) ∙ ap (λ (l : List ℕ). get_or l (place shape t) 0) (sym same_words) ∙ get_or-take (size shape) s (place shape t) 0 inside

  -- it is a controller of the same count and limit, and its image is what was carried
  pub it_leaves : LeavesAs shape bytes w after
  it_leaves =
      let it = only_images_load bytes w it_starts.accepted in
      let same : image_shape bytes ≡ shape = it.controls.lawful.in_range.stored ∙ (λ i. shaped (same_word Count tt i) (same_word Limit tt i)) ∙ sym h.lawful.in_range.stored in
      subst (λ (k : Shape). LeavesAs k bytes w after) same it

  pub words_past_it_stay : drop (size shape) after ≡ drop (size shape) w
  words_past_it_stay = it_leaves.past

  -- "save after load gives the same image"
  pub moving_twice : (again : List ℕ) → (called (Save again) after).refusal ≡ 0 → carried after again ≡ bytes
  moving_twice again resaved = carried_is_the_image shape after it_leaves.controls again resaved ∙ sym it_leaves.is

  -- the guest cannot tell, whichever calls it and its devices go on with;
  pub the_guest_cannot_tell : (later : List Call) → no_start later ≡ true → SameFront (size shape) later s after
  the_guest_cannot_tell later others =
      let own : stored_extent s ≡ size shape = ap (size_or 2) (held_stored shape s h.lawful.in_range) in
      subst (λ (n : ℕ). take n s ≡ take n after → SameFront n later s after) own (past_never_read later others s after) same_words

  -- nor the host by setups and loads among them, of states that are no larger
  pub the_host_cannot_tell : (later : List Call) → ReachAtMost (size shape) later s → SameFront (size shape) later s after
  the_host_cannot_tell later reach = calls_never_read (size shape) later s after reach same_words

  pub the_next_answer_is_the_same : (c : Call) → is_start c ≡ false → handed (called c after) ≡ handed (called c s)
  unfolding answers
  the_next_answer_is_the_same c other = let first = (the_guest_cannot_tell (c ∷ []) (rw other refl)).answers_same in cc

  -- nothing that waits is lost: no ring, ..
  pub no_ring_is_lost : (t n u : ℕ) → t < shape.count → n < 16 → rung shape t n u after ≡ rung shape t n u s
  no_ring_is_lost t n u exists sgi = ap (λ (x : ℕ). bit u (x % 256)) (same_word (Sources t n) (exists, sgi))

  -- .. nothing that is pending, nor a pulse that is noted for one in flight: every record is the same
  pub records_are_the_same : (v n : ℕ) → RecordThere shape v n → record_at shape v n after ≡ record_at shape v n s
  records_are_the_same v n is = ap record_of (same_word (record_slot v n) (record_exists shape v n is))

  pub nothing_pending_is_lost : (v n : ℕ) → RecordThere shape v n → pends shape v n after ≡ pends shape v n s
  nothing_pending_is_lost v n is = ap (λ (r : InterruptRecord). r.pending) (records_are_the_same v n is)

  -- a load "wakes nobody": whom to wake is what the lines say, and they stand as they stood
  pub lines_are_the_same : (v : ℕ) → told_level v after ≡ told_level v s
  lines_are_the_same v = ap (λ (a : Handed). a.value) (the_next_answer_is_the_same (IrqLevel v) refl)

-- calls one after another, and more after these
run_on : (cs later : List Call) (s : List ℕ) → run (cs ++ later) s ≡ run later (run cs s)
unfolding run
run_on [] later s = refl
run_on (c ∷ cs) later s = run_on cs later (called c s).state

answers_on : (cs later : List Call) (s : List ℕ) → answers (cs ++ later) s ≡ answers cs s ++ answers later (run cs s)
unfolding run answers
answers_on [] later s = refl
answers_on (c ∷ cs) later s = ap (λ (l : List Handed). handed (called c s) ∷ l) (answers_on cs later (called c s).state)

-- So of a history: its calls, cut anywhere by a move, hand out what they would have handed out, and leave the words that they would have left.
module _ (first : Call) (words : List ℕ) (started : Started first words) (cs later : List Call) (others : no_start later ≡ true)
    (buffer w : List ℕ) where
  abbrev before : List Call
  before = first ∷ cs

  abbrev shape : Shape
  shape = stored first words started cs

  module _ (saved : (called (Save buffer) (run before words)).refusal ≡ 0) (room : size shape ≤ length w) where
    cannot_tell : SameFront (size shape) later (run before words) (there (run before words) buffer w)
    cannot_tell = the_guest_cannot_tell shape (run before words) (always first words started cs) buffer saved w room later others

    pub answers_as_without_the_move : answers (before ++ later) words ≡ answers before words ++ answers later (there (run before words) buffer w)
    answers_as_without_the_move = answers_on before later words ∙ ap (λ (l : List Handed). answers before words ++ l) cannot_tell.answers_same

    pub words_as_without_the_move : SameState shape (run (before ++ later) words) (run later (there (run before words) buffer w))
    words_as_without_the_move = ap (take (size shape)) (run_on before later words) ∙ cannot_tell.words_same
