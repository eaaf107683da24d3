-- Request One, in its own words: "Equal states give equal bytes" (`equal_states_give_equal_bytes` in Means.antt); "exactly the images of lawful
-- states load; load after save restores a lawful state, and save after load gives the same image" (the last, and that they load, in Restores.antt); loading "does not read the old state".
-- For every list of words and every list of bytes. Assumes nothing.
use mathlib.Core.Path.{◌≡◌, refl, sym, ap, ap₂, subst, ◌∙◌}
use mathlib.Core.Bool.{Bool, true, false}
use mathlib.Core.List.{List, ◌++◌, append_assoc}
use Prim.Native.Nat.{ℕ, ◌≤◌, ◌<◌}
use native.Mathlib.Omega.{arith}
use lib.Dec.{leb}
use lib.ListN.{length, take, drop, replicate, length-replicate, take-append-drop, length-append}
use lib.Seq.{take-append_seam, drop-append_seam, drop-append-le}
use borrow.Author.Tests.{le-leb, lt-leb, leb-true, leb-false}
use Rattle.register.specs.declared.frame.Refusal.TheVariants.{ShortState, Unlawful, BrokenState, NoRoom}
use Rattle.state.specs.declared.layout.Shape.{Shape}
use Rattle.state.specs.Layout.{size}
use Rattle.state.specs.Lent.{limited, validated}
use Rattle.state.specs.Words.{distributor_control_at, Canonical}
use Rattle.state.proofs.Validated.{held_validated, validated_held, limits_limited}
use Rattle.answer.specs.Answer.{Outcome, refused, gave}
use Rattle.lawful.specs.Lawful.{Lawful, Controls}
use Rattle.lawful_test.specs.LawfulTest.{is_lawful}
use Rattle.lawful_test.proofs.Passing.{lawful_passes, passes_lawful}
use Rattle.image.specs.Image.{image, IsImage}
use Rattle.image.specs.Parts.{part_count, part_at}
use Rattle.std.specs.Prelude.{Some, Option, None}
use Rattle.load.specs.Load.{image_shape, stored, load}
use Rattle.save.specs.Save.{Saved, save}
use Rattle.moving.specs.Means.{MeansSame}
use Rattle.moving.specs.Reads.{SamePart}
use Rattle.moving.proofs.BytesParts.{reads_same}
use Rattle.moving.proofs.Loads.{Accepts, load_split, accepted_loads, accepted_wants_room, accepted_limits, accepted_shape, held, held_reads, held_lawful, held_controls, held_control, held_image, held_past, held_length, Imaged, images_are_read}
use Rattle.moving.proofs.StoredSame.{same_meaning, same_state}

-- what a load leaves: a controller, whose image the bytes are, and words past it as they were
pub record LeavesAs (shape : Shape) (bytes w r : List ℕ) : Type 0 where
  pub controls : Controls shape r
  pub is : bytes ≡ image shape r
  pub past : drop (size shape) r ≡ drop (size shape) w
  pub long : length r ≡ length w

-- .. of the count and limit that the bytes state
abbrev pub Leaves : List ℕ → List ℕ → List ℕ → Type 0
Leaves bytes w r = LeavesAs (image_shape bytes) bytes w r

leaves : (bytes w : List ℕ) (shape : Shape) (control start end : ℕ) (it : Accepts bytes shape control start end) → size shape ≤ length w → Leaves bytes w (stored shape control bytes start w)
leaves bytes w shape control start end it h =
    subst (λ (k : Shape). LeavesAs k bytes w (stored shape control bytes start w)) (sym (accepted_shape bytes w shape control start end it)) (record {
      controls = held_controls bytes w shape control start end it h;
      is = held_image bytes w shape control start end it h;
      past = held_past bytes w shape control start end it h;
      long = held_length bytes w shape control start end it h;
    })

-- "Refusals: .. loading 9 not an image, then 5 (state untouched)"; and what is not refused answers 0 and wakes nobody
pub load_cases : (bytes w : List ℕ) (P : Outcome → Type 0) → P (refused Unlawful w) → P (refused ShortState w) → ((r : List ℕ) → Leaves bytes w r → P (gave 0 r)) → P (load bytes w)
load_cases bytes w P unlawful short loads =
    load_split bytes w P unlawful (λ shape control start end it h. short) (λ shape control start end it h. loads (stored shape control bytes start w) (leaves bytes w shape control start end it h))

-- what loads is the image of a lawful state: the one that it leaves
pub only_images_load : (bytes w : List ℕ) → (load bytes w).refusal ≡ 0 → Leaves bytes w (load bytes w).state
only_images_load bytes w =
    load_cases bytes w (λ o. o.refusal ≡ 0 → Leaves bytes w o.state) (λ e. absurd (omega (arith, e))) (λ e. absurd (omega (arith, e))) (λ r it e. it)

-- and the image of a lawful state loads, wherever there is room for it
module _ (shape : Shape) (s : List ℕ) (law : Lawful shape s) (w : List ℕ) where
  pub imaged : Imaged shape s
  imaged = images_are_read shape s law

  abbrev pub restored : List ℕ
  restored = stored shape (distributor_control_at shape s) (image shape s) imaged.start w

  pub loads_as : size shape ≤ length w → load (image shape s) w ≡ gave 0 restored
  loads_as = accepted_loads (image shape s) w shape (distributor_control_at shape s) imaged.start (length (image shape s)) imaged.accepts

  pub images_want_room : length w < size shape → load (image shape s) w ≡ refused ShortState w
  images_want_room = accepted_wants_room (image shape s) w shape (distributor_control_at shape s) imaged.start (length (image shape s)) imaged.accepts

  module _ (h : size shape ≤ length w) where
    restored_controls : Controls shape restored
    restored_controls = held_controls (image shape s) w shape (distributor_control_at shape s) imaged.start (length (image shape s)) imaged.accepts h

    same_parts : (k : ℕ) → k < part_count shape → SamePart shape (part_at shape k) s restored
    same_parts k b =
        let own = imaged.reads k b in
        let its = held_reads (image shape s) w shape (distributor_control_at shape s) imaged.start (length (image shape s)) imaged.accepts h k b in
        let same : Some own.at ≡ Some its.at = sym own.before ∙ its.before in
        let place : own.at ≡ its.at = cc in
        reads_same shape s restored (part_at shape k) (image shape s) own.at own.next its.next own.reads (rw place its.reads)

    control : distributor_control_at shape s ≡ distributor_control_at shape restored
    control = sym (held_control (image shape s) w shape (distributor_control_at shape s) imaged.start (length (image shape s)) imaged.accepts h)

    -- "load after save restores a lawful state": it means the same at every slot,
    pub load_restores_the_meaning : MeansSame shape s (load (image shape s) w).state
    load_restores_the_meaning =
        rw (loads_as h) (record { at = same_meaning shape s restored law.in_range restored_controls.lawful.in_range control same_parts })

    -- and of a state as we write it, a controller in use, the words are the same
    pub load_restores_the_words : Canonical shape s → take (size shape) (load (image shape s) w).state ≡ take (size shape) s
    load_restores_the_words canonical =
        rw (loads_as h) (sym (same_state shape s restored law.in_range restored_controls.lawful.in_range control same_parts canonical restored_controls.canonical law.orderly.summary restored_controls.lawful.orderly.summary))

-- so a load is refused by 9 exactly where the bytes are no image of a lawful state
pub images_are_not_refused_by_9 : (bytes w : List ℕ) → IsImage bytes → (load bytes w).refusal ≡ 9 → ⊥
images_are_not_refused_by_9 bytes w it e = go (leb (size it.shape) (length w)) refl
  where
    by : load bytes w ≡ load (image it.shape it.state) w
    by = ap (λ (b : List ℕ). load b w) it.is

    go : (b : Bool) → leb (size it.shape) (length w) ≡ b → ⊥
    go true p =
        let o = ap (λ (o : Outcome). o.refusal) (by ∙ loads_as it.shape it.state it.lawful w (leb-true (size it.shape) (length w) p)) in
        omega (arith, e, o)
    go false p =
        let o = ap (λ (o : Outcome). o.refusal) (by ∙ images_want_room it.shape it.state it.lawful w (leb-false (size it.shape) (length w) p)) in
        omega (arith, e, o)

pub others_are_refused_by_9 : (bytes w : List ℕ) → (IsImage bytes → ⊥) → load bytes w ≡ refused Unlawful w
others_are_refused_by_9 bytes w none =
    load_split bytes w (λ o. o ≡ refused Unlawful w) refl
    (λ shape control start end it h. absurd (none (an_image shape control start end it)))
    (λ shape control start end it h. absurd (none (an_image shape control start end it)))
  where
    -- over words that are long enough
    an_image : (shape : Shape) (control start end : ℕ) → Accepts bytes shape control start end → IsImage bytes
    an_image shape control start end it =
        let blank : List ℕ = replicate (size shape) 0 in
        let long : size shape ≤ length blank = omega (arith, length-replicate {A = ℕ} (size shape) 0) in
        record {
          shape = shape;
          state = held bytes blank shape control start end it long;
          lawful = held_lawful bytes blank shape control start end it long;
          is = held_image bytes blank shape control start end it long;
        }

-- loading "does not read the old state": what it leaves of two lists of words is the same state
pub load_forgets_the_old_words : (bytes w x : List ℕ) → (load bytes w).refusal ≡ 0 → (load bytes x).refusal ≡ 0
    → take (size (image_shape bytes)) (load bytes w).state ≡ take (size (image_shape bytes)) (load bytes x).state
load_forgets_the_old_words bytes w x e f =
    let shape : Shape = image_shape bytes in
    let r = only_images_load bytes w e in
    let q = only_images_load bytes x f in
    let room : size shape ≤ length x = let a = q.controls.lawful.in_range.state.room in omega (arith, a, q.long) in
    let again : load bytes x ≡ load (image shape (load bytes w).state) x = ap (λ (b : List ℕ). load b x) r.is in
    sym (load_restores_the_words shape (load bytes w).state r.controls.lawful x room r.controls.canonical)
    ∙ ap (λ (o : Outcome). take (size shape) o.state) (sym again)

-- words behind the state are not read, and stay
abbrev pub beside : List ℕ → Outcome → Outcome
beside x o = record { refusal = o.refusal; value = o.value; wake = o.wake; retired = o.retired; state = o.state ++ x }

abbrev pub size_in : Option Shape → ℕ
size_in None = 0
size_in (Some shape) = size shape

module _ (bytes a x : List ℕ) (fits : size_in (limited (image_shape bytes).count (image_shape bytes).limit) ≤ length a) where
  longer : length a ≤ length (a ++ x)
  longer = omega (arith, length-append a x)

  module _ (shape : Shape) (control start end : ℕ) (it : Accepts bytes shape control start end) where
    room : size shape ≤ length a
    room =
        let limits = accepted_limits bytes a shape control start end it in
        let same : limited (image_shape bytes).count (image_shape bytes).limit ≡ Some shape = rw (accepted_shape bytes a shape control start end it) (limits_limited shape limits) in
        rw same at fits

    with_them : stored shape control bytes start (a ++ x) ≡ stored shape control bytes start a ++ x
    with_them =
        let n : ℕ = size shape in
        let one : List ℕ = stored shape control bytes start (a ++ x) in
        let two : List ℕ = stored shape control bytes start a in
        let there : size shape ≤ length (a ++ x) = omega (arith, room, longer) in
        let here = accepted_loads bytes a shape control start end it room in
        let beyond = accepted_loads bytes (a ++ x) shape control start end it there in
        let front : take n one ≡ take n two =
        rw (accepted_shape bytes a shape control start end it, beyond, here) at
        (load_forgets_the_old_words bytes (a ++ x) a (ap (λ (o : Outcome). o.refusal) beyond) (ap (λ (o : Outcome). o.refusal) here)) in
        let past : drop n one ≡ drop n two ++ x =
        held_past bytes (a ++ x) shape control start end it there
        ∙ drop-append-le n a x room ∙ ap (λ (l : List ℕ). l ++ x) (sym (held_past bytes a shape control start end it room)) in
        sym (take-append-drop n one) ∙ ap₂ ◌++◌ front past ∙ sym (append_assoc (take n two) (drop n two) x) ∙ ap (λ (l : List ℕ). l ++ x) (take-append-drop n two)

  pub load_beside : load bytes (a ++ x) ≡ beside x (load bytes a)
  load_beside =
      load_split bytes (a ++ x) (λ o. load bytes (a ++ x) ≡ o → o ≡ beside x (load bytes a))
      (λ e. rw (others_are_refused_by_9 bytes a (λ image. images_are_not_refused_by_9 bytes (a ++ x) image (ap (λ (q : Outcome). q.refusal) e))))
      (λ shape control start end it short e. absurd (omega (arith, short, room shape control start end it, longer)))
      (λ shape control start end it there e. rw (accepted_loads bytes a shape control start end it (room shape control start end it)) (ap (gave 0) (with_them shape control start end it)))
      refl

-- "saving 6, then 9 not lawful, then 10 no room": what is saved is the image of a lawful state, and it stands in front of the buffer
pub record SavedAs (s buffer : List ℕ) : Type 0 where
  pub shape : Shape
  pub lawful : Lawful shape s
  pub length_is : (save s buffer).outcome.value ≡ length (image shape s)
  pub front : take (length (image shape s)) (save s buffer).buffer ≡ image shape s
  pub rest : drop (length (image shape s)) (save s buffer).buffer ≡ drop (length (image shape s)) buffer

-- a lawful state is saved wherever there is room for its image
module _ (shape : Shape) (s : List ℕ) (law : Lawful shape s) (buffer : List ℕ) where
  pub into : length (image shape s) ≤ length buffer
      → save s buffer ≡ record { outcome = gave (length (image shape s)) s; buffer = image shape s ++ drop (length (image shape s)) buffer }
  unfolding save
  into h = simp (held_validated s shape law.in_range, lawful_passes shape s law, le-leb (length (image shape s)) (length buffer) h)

  pub lawful_states_are_saved : length (image shape s) ≤ length buffer → (save s buffer).outcome ≡ gave (length (image shape s)) s
  lawful_states_are_saved h = ap (λ (o : Saved). o.outcome) (into h)

  saved_as : length (image shape s) ≤ length buffer → SavedAs s buffer
  saved_as h = record {
    shape = shape;
    lawful = law;
    length_is = ap (λ (o : Saved). o.outcome.value) (into h);
    front = ap (λ (o : Saved). take (length (image shape s)) o.buffer) (into h) ∙ take-append_seam (image shape s) _;
    rest = ap (λ (o : Saved). drop (length (image shape s)) o.buffer) (into h) ∙ drop-append_seam (image shape s) _;
  }

  too_short : length buffer < length (image shape s) → save s buffer ≡ record { outcome = refused NoRoom s; buffer = buffer }
  unfolding save
  too_short h = simp (held_validated s shape law.in_range, lawful_passes shape s law, lt-leb (length (image shape s)) (length buffer) h)

as_broken : (s buffer : List ℕ) → validated s ≡ None → save s buffer ≡ record { outcome = refused BrokenState s; buffer = buffer }
unfolding save
as_broken s buffer p = simp p

as_unlawful : (s buffer : List ℕ) (shape : Shape) → validated s ≡ Some shape → is_lawful shape s ≡ false → save s buffer ≡ record { outcome = refused Unlawful s; buffer = buffer }
unfolding save
as_unlawful s buffer shape p q = simp (p, q)

-- by cases: any words, any buffer; a refused save leaves every byte of it
pub save_cases : (s buffer : List ℕ) (P : Saved → Type 0) → P (record { outcome = refused BrokenState s; buffer = buffer }) → P (record { outcome = refused Unlawful s; buffer = buffer })
    → P (record { outcome = refused NoRoom s; buffer = buffer }) → (SavedAs s buffer → P (save s buffer)) → P (save s buffer)
save_cases s buffer P broken unlawful short saves = go (validated s) refl
  where
    go : (l : Option Shape) → validated s ≡ l → P (save s buffer)
    go None p = subst P (sym (as_broken s buffer p)) broken
    go (Some shape) p = lawful (is_lawful shape s) refl
      where
        lawful : (b : Bool) → is_lawful shape s ≡ b → P (save s buffer)
        lawful false q = subst P (sym (as_unlawful s buffer shape p q)) unlawful
        lawful true q = room (leb (length (image shape s)) (length buffer)) refl
          where
            law : Lawful shape s
            law = passes_lawful shape s (validated_held s shape p) q

            room : (b : Bool) → leb (length (image shape s)) (length buffer) ≡ b → P (save s buffer)
            room true e = saves (saved_as shape s law buffer (leb-true (length (image shape s)) (length buffer) e))
            room false e = subst P (sym (too_short shape s law buffer (leb-false (length (image shape s)) (length buffer) e))) short

-- what is not refused is the image of a lawful state
pub only_lawful_states_are_saved : (s buffer : List ℕ) → (save s buffer).outcome.refusal ≡ 0 → SavedAs s buffer
only_lawful_states_are_saved s buffer =
    save_cases s buffer (λ o. o.outcome.refusal ≡ 0 → SavedAs s buffer) (λ e. absurd (omega (arith, e))) (λ e. absurd (omega (arith, e))) (λ e. absurd (omega (arith, e))) (λ it e. it)
