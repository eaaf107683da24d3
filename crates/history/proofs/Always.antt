-- Demand 3: "Take a fresh controller and any sequence of calls, refused ones included, each acting as demand 2 defines it", by request One
-- "from a fresh or loaded controller". What is here is about the words that the calls leave, for every count and limit that setup accepts and
-- every image that a load accepts, whatever the lent words held before. Assumes nothing.
use Rattle.std.specs.Prelude.{Option, Some, None}
use mathlib.Core.Path.{◌≡◌, refl, sym, ap, subst, ◌∙◌}
use mathlib.Core.Bool.{Bool, true, false, not, cond, true≢false}
use mathlib.Core.List.{List, [], ◌∷◌}
use mathlib.Core.Logic.{◌⊎◌, inl, inr}
use Prim.Native.Nat.{ℕ, ◌≤◌, ◌<◌}
use native.Mathlib.Omega.{arith}
use lib.Dec.{leb}
use lib.ListN.{length, get_or}
use borrow.Author.Tests.{leb-true, not-true}
use Rattle.register.specs.declared.frame.Refusal.{Refusal}
use Rattle.register.specs.declared.frame.Refusal.TheVariants as refusal
use Rattle.register.specs.Frame.{refusal_number}
use Rattle.state.specs.declared.layout.Shape.{Shape}
use Rattle.state.specs.Fresh.{fresh}
use Rattle.state.specs.Layout.{size, stack_capacity}
use Rattle.state.specs.Lent.{limited, shaped}
use Rattle.state.specs.Words.{enabled_at}
use Rattle.state.proofs.Tests.{left_true, right_true}
use Rattle.state.proofs.Validated.{limited_shape, limited_limits}
use Rattle.service.specs.Service.{depth_at}
use Rattle.acknowledge.specs.Acknowledge.{acknowledge, acknowledged}
use Rattle.answer.specs.Answer.{Outcome, refused, gave}
use Rattle.controller.specs.Start.{setup_of, setup}
use Rattle.cpu_interface_frame.specs.CpuInterfaceFrame.{read_answer}
use Rattle.lawful.specs.Lawful.{Orderly, Controls, Controller}
use Rattle.lawful.proofs.Depths.{at_most_capacity, offer_room}
use Rattle.lawful.proofs.Starting.{fresh_controls}
use Rattle.lawful_test.proofs.Passing.{lawful_passes}
use Rattle.image.specs.Image.{image}
use Rattle.save.specs.Save.{Saved, into_buffer, save}
use Rattle.load.specs.Load.{image_shape}
use Rattle.moving.proofs.Moving.{load_cases}
use Rattle.moves.proofs.Acknowledges.{each_acknowledge}
use Rattle.moves.proofs.Controllers.{chain_controls}
use Rattle.moves.proofs.Sounds.{lawful_sound}
use Rattle.history.specs.History.{Call, Setup, Save, Load, Deed, Starts, deed, starts_anew, is_start, called, run, answers, no_start, Accepted, Started, Ordinary, EachAnswer}
use Rattle.history.proofs.Calls.{call_chain}
use Rattle.history.proofs.Each.{few, many, Refusable, some_refusal, start_or_act, into_cases, setup_load_or_other, valid, each_call}

-- setup: refused, with nothing changed, or a fresh state of that count and limit
module _ (count limit : ℕ) (s : List ℕ) (P : Outcome → Type 0)
    (refuses : (r : Refusal) → Refusable (Setup count limit) (refusal_number r) → P (refused r s))
    (starts : Controls (shaped count limit) (fresh (shaped count limit) s) → P (gave 0 (fresh (shaped count limit) s))) where
  fits : (l : Option Shape) → limited count limit ≡ l → P (setup_of l s)
  fits None p = refuses refusal.Limits (record { ordinary = few (omega arith); of_call = refl })
  fits (Some shape) p = subst (λ (k : Shape). P (setup_of (Some k) s)) (sym same) (go (leb (size own) (length s)) refl)
    where
      own : Shape
      own = shaped count limit

      same : shape ≡ own
      same = limited_shape count limit shape p

      go : (b : Bool) → leb (size own) (length s) ≡ b → P (cond b (gave 0 (fresh own s)) (refused refusal.ShortState s))
      go true e = starts (fresh_controls own s (record { limits = subst Rattle.state.specs.Layout.Limits same (limited_limits count limit shape p); room = leb-true (size own) (length s) e }))
      go false e = refuses refusal.ShortState (record { ordinary = few (omega arith); of_call = refl })

  pub setup_cases : P (called (Setup count limit) s)
  unfolding setup
  setup_cases = fits (limited count limit) refl

-- every call that starts one anew, so: it is refused, with nothing changed, or leaves a controller of that count and limit
pub each_start : (s : List ℕ) (P : Call → Deed → Outcome → Type 0)
    → ((c : Call) (d : Deed) (r : Refusal) → Refusable c (refusal_number r) → P c d (refused r s))
    → ((c : Call) (count limit : ℕ) (after : List ℕ) → Controls (shaped count limit) after → P c (Starts count limit) (gave 0 after))
    → (c : Call) → is_start c ≡ true → P c (deed c) (called c s)
each_start s P refuses starts =
    setup_load_or_other (λ c. is_start c ≡ true → P c (deed c) (called c s))
    (λ count limit e.
    let c : Call = Setup count limit in
    setup_cases count limit s (P c (Starts count limit)) (λ r may. refuses c (Starts count limit) r may) (starts c count limit (fresh (shaped count limit) s)))
    (λ bytes e.
    let c : Call = Load bytes in
    load_cases bytes s (P c (deed c))
    (refuses c (deed c) refusal.Unlawful (record { ordinary = many (omega arith); of_call = refl }))
    (refuses c (deed c) refusal.ShortState (record { ordinary = few (omega arith); of_call = refl }))
    (λ after it. starts c (image_shape bytes).count (image_shape bytes).limit after it.controls))
    (λ c other e. absurd (true≢false (sym e ∙ other)))

-- "loading answers 0, wakes nobody", and so does setup; refused ones too
pub a_start_wakes_nobody : (c : Call) (s : List ℕ) → is_start c ≡ true → ((called c s).value ≡ 0) × ((called c s).wake ≡ 0)
a_start_wakes_nobody c s = each_start s (λ d k o. (o.value ≡ 0) × (o.wake ≡ 0)) (λ d k r may. (refl, refl)) (λ d count limit after controls. (refl, refl)) c

-- what a start leaves if it is accepted, whatever the words held: a controller of its count and limit
pub started_controls : (shape : Shape) (c : Call) → deed c ≡ Starts shape.count shape.limit → (s : List ℕ) → (called c s).refusal ≡ 0 → Controls shape (called c s).state
started_controls shape c is s =
    each_start s (λ d k o. k ≡ Starts shape.count shape.limit → o.refusal ≡ 0 → Controls shape o.state) (λ d k r may p e. absurd (some_refusal r e))
    (λ d count limit after controls p e. let a : count ≡ shape.count = cc in let b : limit ≡ shape.limit = cc in rw (a, b) at controls)
    c (ap starts_anew is) is

-- "a fresh controller"
pub a_fresh_controller : (count limit : ℕ) (s : List ℕ) → Accepted count limit s → Controls (shaped count limit) (called (Setup count limit) s).state
a_fresh_controller count limit s =
    setup_cases count limit s (λ o. o.refusal ≡ 0 → Controls (shaped count limit) o.state) (λ r may e. absurd (some_refusal r e)) (λ controls e. controls)

-- and a loaded one, of the count and limit that its image states
pub a_loaded_controller : (bytes s : List ℕ) → (called (Load bytes) s).refusal ≡ 0 → Controls (image_shape bytes) (called (Load bytes) s).state
a_loaded_controller bytes s = started_controls (image_shape bytes) (Load bytes) refl s

-- so after every accepted start there is one
pub a_started_controller : (c : Call) (s : List ℕ) → Started c s → Controller (called c s).state
a_started_controller c s h =
    each_start s (λ d k o. o.refusal ≡ 0 → Controller o.state) (λ d k r may e. absurd (some_refusal r e)) (λ d count limit after controls e. record { shape = shaped count limit; controls = controls })
    c h.starts h.accepted

-- every call keeps a controller, of its count and limit if it is no setup or load
pub every_other_call : (shape : Shape) (c : Call) → is_start c ≡ false → (s : List ℕ) → Controls shape s → Controls shape (called c s).state
every_other_call shape c e s h = chain_controls (call_chain shape s (valid shape s h) c e) h

pub every_call : (c : Call) (s : List ℕ) → Controller s → Controller (called c s).state
every_call c s h =
    start_or_act (λ d. Controller (called d s).state)
    (each_start s (λ d k o. Controller o.state) (λ d k r may. h) (λ d count limit after controls. record { shape = shaped count limit; controls = controls }))
    (λ d e. record { shape = h.shape; controls = every_other_call h.shape d e s h.controls })
    c

-- so every history does
pub every_history : (cs : List Call) (s : List ℕ) → Controller s → Controller (run cs s)
unfolding run
every_history [] s h = h
every_history (c ∷ cs) s h = every_history cs (called c s).state (every_call c s h)

pub same_controller : (shape : Shape) (cs : List Call) → no_start cs ≡ true → (s : List ℕ) → Controls shape s → Controls shape (run cs s)
unfolding run
same_controller shape [] e s h = h
same_controller shape (c ∷ cs) e s h =
    same_controller shape cs (right_true (not (is_start c)) (no_start cs) e) (called c s).state (every_other_call shape c (not-true (is_start c) (left_true (not (is_start c)) (no_start cs) e)) s h)

-- no call to a controller is refused by 6, and no acknowledge by 7
module _ (s : List ℕ) (h : Controller s) where
  abbrev shape : Shape
  shape = h.shape

  finds_room : (v : ℕ) → (enabled_at shape s ≡ true → v < shape.count) → Ordinary (read_answer (acknowledge shape v s) s (acknowledged shape v s)).refusal
  finds_room v looked =
      each_acknowledge shape s (lawful_sound h.controls.lawful) v looked (λ a r. Ordinary (read_answer a s r).refusal) (few (omega arith))
      (λ e exists p full. absurd (omega (arith, full, offer_room shape v s h.controls.lawful.orderly exists e p)))
      (λ e o. few (omega arith))

  other_ordinary : (c : Call) → is_start c ≡ false → Ordinary (called c s).refusal
  other_ordinary =
      each_call shape s (valid shape s h.controls) (λ c d o. Ordinary o.refusal)
      (λ c d r may bar. may.ordinary)
      (λ c by x. few (omega arith))
      (λ c v register x no. few (omega arith))
      (λ c v register is looked full. finds_room v looked)
      (λ c v register value looked. few (omega arith))
      (λ c v place width value at. few (omega arith))
      (λ c v n signal there past. few (omega arith))

  pub call_ordinary : (c : Call) → Ordinary (called c s).refusal
  call_ordinary =
      start_or_act (λ c. Ordinary (called c s).refusal)
      (each_start s (λ c d o. Ordinary o.refusal) (λ c d r may. may.ordinary) (λ c count limit after controls. few (omega arith)))
      other_ordinary

-- a controller's count and limit are those that its words store
pub stored_controls : (s : List ℕ) → Controller s → Controls (shaped (get_or s 0 0) (get_or s 1 0)) s
stored_controls s h = subst (λ (k : Shape). Controls k s) h.controls.lawful.in_range.stored h.controls

-- Demand 3 itself. The count and limit of a history are those that its words store: a later setup or load may have changed them.
module _ (first : Call) (words : List ℕ) (started : Started first words) (cs : List Call) where
  -- the words after the setup or load and the calls
  abbrev pub after : List ℕ
  after = run (first ∷ cs) words

  abbrev pub stored : Shape
  stored = shaped (get_or after 0 0) (get_or after 1 0)

  controller : Controller after
  unfolding run
  controller = every_history cs (called first words).state (a_started_controller first words started)

  pub always : Controls stored after
  always = stored_controls after controller

  pub demand_three : Orderly stored after
  demand_three = always.lawful.orderly

  -- "So at most 255 are held", by document 02, Two, 128 ..
  pub at_most_capacity_held : (v : ℕ) → v < stored.count → depth_at stored v after ≤ stack_capacity
  at_most_capacity_held v exists = at_most_capacity stored v after demand_three exists

  -- .. and an acknowledge never lacks room": whichever call comes next
  pub never_refused_by_7 : (c : Call) → (called c after).refusal ≡ 7 → ⊥
  never_refused_by_7 c = (call_ordinary after controller c).not_7

  pub never_refused_by_6 : (c : Call) → (called c after).refusal ≡ 6 → ⊥
  never_refused_by_6 c = (call_ordinary after controller c).not_6

-- the same of all the answers that a history hands out
answers_ordinary : (cs : List Call) (s : List ℕ) → Controller s → EachAnswer (λ a. Ordinary a.refusal) (answers cs s)
unfolding answers
answers_ordinary [] s h = tt
answers_ordinary (c ∷ cs) s h = (call_ordinary s h c, answers_ordinary cs (called c s).state (every_call c s h))

pub no_answer_is_6_or_7 : (first : Call) (words : List ℕ) → Started first words → (cs : List Call) → EachAnswer (λ a. Ordinary a.refusal) (answers (first ∷ cs) words)
unfolding answers
no_answer_is_6_or_7 first words started cs = (few (omega (arith, started.accepted)), answers_ordinary cs (called first words).state (a_started_controller first words started))

-- a save finds a lawful state in a controller: it lacks nothing but room
module _ (buffer : List ℕ) where
  pub a_controller_is_saved : (shape : Shape) (s : List ℕ) → Controls shape s → save s buffer ≡ into_buffer (image shape s) s buffer
  unfolding save
  a_controller_is_saved shape s h = simp (valid shape s h, lawful_passes shape s h.lawful)

  pub a_save_finds_a_lawful_state : (s : List ℕ) → Controller s → ((called (Save buffer) s).refusal ≡ 0) ⊎ ((called (Save buffer) s).refusal ≡ 10)
  a_save_finds_a_lawful_state s h =
      subst (λ (o : Saved). (o.outcome.refusal ≡ 0) ⊎ (o.outcome.refusal ≡ 10)) (sym (a_controller_is_saved h.shape s h.controls))
      (into_cases (image h.shape s) s buffer (λ o. (o.refusal ≡ 0) ⊎ (o.refusal ≡ 10)) (inl refl) (inr refl))
