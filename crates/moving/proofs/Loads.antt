-- What a load comes to: it is refused with nothing changed, or leaves a controller whose image the bytes are. Assumes nothing.
use mathlib.Core.Path.{◌≡◌, refl, sym, ap, ◌∙◌}
use mathlib.Core.Bool.{Bool, true, false, cond}
use mathlib.Core.List.{List, ◌++◌, append-nil}
use Prim.Native.Nat.{ℕ, ◌≤◌, ◌<◌}
use native.Mathlib.Nat.{zero-add, le_refl}
use native.Mathlib.Omega.{arith}
use lib.Dec.{leb, ltb}
use lib.ListN.{length, drop, drop_of_length-le}
use borrow.Author.Tests.{le-ltb, le-leb, lt-leb, ltb-false, leb-true, leb-false}
use Rattle.register.specs.declared.frame.Refusal.TheVariants.{ShortState, Unlawful}
use Rattle.state.specs.declared.layout.Shape.{Shape}
use Rattle.state.specs.Layout.{size, Room, Limits}
use Rattle.state.specs.Words.{distributor_control_at}
use Rattle.answer.specs.Answer.{Outcome, refused, gave}
use Rattle.lawful.specs.Lawful.{Lawful, Controls}
use Rattle.image.specs.Image.{body_numbers, numbers, image}
use Rattle.image.specs.Parts.{part_count}
use Rattle.std.specs.Prelude.{Option, Some, None}
use Rattle.load.specs.Walking.{walked}
use Rattle.load.specs.Load.{opened_as, image_shape, stored, loaded_to, loaded_as, load}
use Rattle.moving.proofs.BytesNumbers.{Row}
use Rattle.moving.proofs.LawfulParts.{lawful_parts, parts_lawful}
use Rattle.moving.proofs.Opens.{opens, opened_exact}
use Rattle.moving.proofs.Stored.{PartHeld, stored_length, stored_past, stored_control, stored_reads, stored_held, stored_canonical, stored_exact}
use Rattle.moving.proofs.Walks.{walked_through, walked_reads, walked_bytes, walked_lawful}

-- the bytes were walked through to their end
pub record Accepts (bytes : List ℕ) (shape : Shape) (control start end : ℕ) : Type 0 where
  pub opening : opened_as bytes ≡ Some (shape, control, start)
  pub whole : walked shape bytes start (part_count shape) ≡ Some end
  pub over : length bytes ≤ end

-- a load by its cases
pub load_split : (bytes w : List ℕ) (P : Outcome → Type 0) → P (refused Unlawful w)
    → ((shape : Shape) (control start end : ℕ) → Accepts bytes shape control start end → length w < size shape → P (refused ShortState w))
    → ((shape : Shape) (control start end : ℕ) → Accepts bytes shape control start end → size shape ≤ length w → P (gave 0 (stored shape control bytes start w)))
    → P (load bytes w)
unfolding load
load_split bytes w P unlawful short loads = go (opened_as bytes) refl
  where
    room : (shape : Shape) (control start end : ℕ) → Accepts bytes shape control start end → (b : Bool) → leb (size shape) (length w) ≡ b
        → P (cond b (gave 0 (stored shape control bytes start w)) (refused ShortState w))
    room shape control start end it true e = loads shape control start end it (leb-true (size shape) (length w) e)
    room shape control start end it false e = short shape control start end it (leb-false (size shape) (length w) e)

    walk : (shape : Shape) (control start : ℕ) → opened_as bytes ≡ Some (shape, control, start) → (p : Option ℕ) → walked shape bytes start (part_count shape) ≡ p
        → P (loaded_to p shape bytes w (stored shape control bytes start w))
    walk shape control start o None p = unlawful
    walk shape control start o (Some end) p = over (ltb end (length bytes)) refl
      where
        over : (b : Bool) → ltb end (length bytes) ≡ b → P (cond b (refused Unlawful w) (cond (leb (size shape) (length w)) (gave 0 (stored shape control bytes start w)) (refused ShortState w)))
        over true e = unlawful
        over false e = room shape control start end (record { opening = o; whole = p; over = ltb-false end (length bytes) e }) (leb (size shape) (length w)) refl

    go : (o : Option (Shape × ℕ × ℕ)) → opened_as bytes ≡ o → P (loaded_as o bytes w)
    go None p = unlawful
    go (Some (shape, control, start)) p = walk shape control start p (walked shape bytes start (part_count shape)) refl

-- bytes that were accepted load where there is room for their state, and there alone
module _ (bytes w : List ℕ) (shape : Shape) (control start end : ℕ) (it : Accepts bytes shape control start end) where
  pub accepted_loads : size shape ≤ length w → load bytes w ≡ gave 0 (stored shape control bytes start w)
  unfolding load
  accepted_loads h = simp (it.opening, it.whole, le-ltb end (length bytes) it.over, le-leb (size shape) (length w) h)

  pub accepted_wants_room : length w < size shape → load bytes w ≡ refused ShortState w
  unfolding load
  accepted_wants_room h = simp (it.opening, it.whole, le-ltb end (length bytes) it.over, lt-leb (size shape) (length w) h)

-- what they leave
module _ (bytes w : List ℕ) (shape : Shape) (control start end : ℕ) (it : Accepts bytes shape control start end) where
  pub accepted_limits : Limits shape
  accepted_limits = (opened_exact bytes shape control start it.opening).limits

  pub accepted_shape : image_shape bytes ≡ shape
  accepted_shape = (opened_exact bytes shape control start it.opening).shaped

  module _ (h : size shape ≤ length w) where
    room : Room shape w
    room = record { limits = accepted_limits; room = h }

    -- the words that the load leaves
    abbrev pub held : List ℕ
    held = stored shape control bytes start w

    pub held_reads : (k : ℕ) → k < part_count shape → PartHeld shape bytes start k held
    held_reads = stored_reads shape control bytes start w room end it.whole

    pub held_lawful : Lawful shape held
    held_lawful =
        parts_lawful shape held (stored_held shape control bytes start w room end it.whole) (stored_exact shape control bytes start w room end it.whole) (walked_lawful shape accepted_limits held bytes start held_reads)

    pub held_controls : Controls shape held
    held_controls = record { lawful = held_lawful; canonical = stored_canonical shape control bytes start w room end it.whole }

    pub held_control : distributor_control_at shape held ≡ control
    held_control = stored_control shape control bytes start w room (opened_exact bytes shape control start it.opening).small

    -- the bytes are the image of what it leaves
    pub held_image : bytes ≡ image shape held
    held_image =
        let row : Row bytes 0 end (numbers shape held) =
        rw held_control ((opened_exact bytes shape control start it.opening).rows end (body_numbers shape held) (walked_bytes shape accepted_limits held bytes start held_reads end it.whole)) in
        row.bytes ∙ rw (drop_of_length-le bytes it.over) (append-nil (image shape held))

    -- words past them stay
    pub held_past : drop (size shape) held ≡ drop (size shape) w
    held_past = stored_past shape control bytes start w room

    pub held_length : length held ≡ length w
    held_length = stored_length shape control bytes start w room

-- the image of a lawful state is accepted, and read as what the state's words hold
pub record Imaged (shape : Shape) (s : List ℕ) : Type 0 where
  pub start : ℕ
  pub accepts : Accepts (image shape s) shape (distributor_control_at shape s) start (length (image shape s))
  pub reads : (k : ℕ) → k < part_count shape → PartHeld shape (image shape s) start k s

pub images_are_read : (shape : Shape) (s : List ℕ) → Lawful shape s → Imaged shape s
images_are_read shape s law =
    let limits = law.in_range.state.limits in
    let bytes : List ℕ = image shape s in
    let row : Row bytes 0 (length bytes) (numbers shape s) = record { bytes = sym (ap (λ (x : List ℕ). bytes ++ x) (drop_of_length-le bytes (le_refl (length bytes))) ∙ append-nil bytes); past = sym (zero-add (length bytes)) } in
    let o = opens bytes shape (distributor_control_at shape s) (length bytes) (body_numbers shape s) limits (omega arith) row in
    record {
      start = o.start;
      accepts = record { opening = o.opened; whole = walked_through shape limits s bytes o.start (length bytes) o.body (lawful_parts shape s law); over = omega arith };
      reads = walked_reads shape limits s bytes o.start (length bytes) o.body (lawful_parts shape s law);
    }
