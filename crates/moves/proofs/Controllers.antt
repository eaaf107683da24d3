-- Every move keeps a controller a controller: lawful, and written as we write it. So does every chain of moves. Assumes nothing.
use mathlib.Core.Path.{◌≡◌, refl, ◌∙◌}
use mathlib.Core.Bool.{Bool, not}
use mathlib.Core.List.{List}
use mathlib.Core.Logic.{inl}
use Prim.Native.Nat.{ℕ, ◌-◌, ◌<◌}
use native.Mathlib.Omega.{arith}
use lib.Dec.{eqb}
use Rattle.interrupt.specs.Record.{set_pending}
use Rattle.word.proofs.Cases.{same_or}
use Rattle.word.proofs.RecordWord.{decoded_in_range}
use Rattle.state.specs.declared.layout.Shape.{Shape}
use Rattle.state.specs.declared.layout.InterfaceValue.{InterfaceValue}
use Rattle.state.specs.declared.layout.InterfaceValue.TheVariants.{Depth}
use Rattle.state.specs.Layout.{DistributorControl, Interface, Sources, Stack, Exists, Room}
use Rattle.state.specs.Words.{word_at, record_slot, RecordThere, record_at, sources_at, with_sources, Canonical}
use Rattle.state.proofs.Accessors.{put_room, record_exists, record_same}
use Rattle.state.proofs.Canonical.{off_stack_apart, record_canonical, sources_canonical, interface_canonical, control_canonical}
use Rattle.state.proofs.SlotKinds.{kinds_apart, apart_record, record_apart}
use Rattle.sgi.specs.Sgi.{merged_sources}
use Rattle.sgi.proofs.Rings.{sgi_exists, merged_fits, both_sources, both_record, pended}
use Rattle.service.specs.Service.{depth_at, Sound}
use Rattle.service.proofs.Stacks.{popped_depth, popped_others}
use Rattle.acknowledge.proofs.Offers.{pushed_byte}
use Rattle.delivery.proofs.Canonicals.{given_canonical, popped_canonical}
use Rattle.lawful.specs.Lawful.{Lawful, Controls}
use Rattle.moves.specs.Moves.{Change, Move, Changed, Sourced, Kept, Switched, Given, Popped, becomes, moved, Changing, Sourcing, Keeping, Popping, Open, Chain}
use Rattle.moves.proofs.Parts.{StackFine, SgiFine, record_fine}
use Rattle.moves.proofs.Pending.{left_unheld}
use Rattle.moves.proofs.Records.{change_fine, unheld, sgi_pending, pended_fine, change_in_range}
use Rattle.moves.proofs.Slots.{no_number, off_stack, stack_vcpu, served, givable}
use Rattle.moves.proofs.Sounds.{lawful_sound, chain_holds}
use Rattle.moves.proofs.Frames.{record_off_stack, stack, sources_stay, only_stacks, one_number}
use Rattle.moves.proofs.Gives.{given_lawful}

module _ (shape : Shape) (s : List ℕ) (h : Lawful shape s) where
  sound : Sound shape s
  sound = lawful_sound h

  -- a record changed
  module _ (v n : ℕ) (c : Change) (o : Changing shape v n c s) where
    room : Room shape s
    room = h.in_range.state

    slot : Exists shape (record_slot v n)
    slot = record_exists shape v n o.there

    pub changed_record : record_at shape v n (moved shape (Changed v n c) s) ≡ becomes c (record_at shape v n s)
    changed_record =
        record_same shape s v n (becomes c (record_at shape v n s)) room slot
        (change_in_range shape v n (record_at shape v n s) room.limits c o.fits (decoded_in_range (word_at shape (record_slot v n) s)))

    changed_sgi : n < 16 → SgiFine shape v n (moved shape (Changed v n c) s)
    changed_sgi sgi =
        let exists : v < shape.count = o.there.banked (omega (arith, sgi)) in
        let old = record_fine shape s h v n o.there in
        let sources : word_at shape (Sources v n) (moved shape (Changed v n c) s) ≡ word_at shape (Sources v n) s =
        sources_stay shape s h (Changed v n c) o v n exists sgi (apart_record (Sources v n) v n refl) in
        record { sourced = rw (sources, changed_record) (sgi_pending old c o.fits sgi ∙ h.orderly.sourced v n exists sgi) }

    changed_lawful : Lawful shape (moved shape (Changed v n c) s)
    changed_lawful =
        one_number shape s h (Changed v n c) o v n o.there (λ t off p. inl p)
        (λ u b. stack shape s h (Changed v n c) o u b (apart_record (Interface u Depth) v n refl) (λ i. apart_record (Stack u i) v n refl))
        (rw changed_record (change_fine (record_fine shape s h v n o.there) c o.fits))
        changed_sgi

  -- sources set or cleared
  module _ (v n : ℕ) (on : Bool) (byte : ℕ) (o : Sourcing shape v n byte) where
    abbrev sources : ℕ
    sources = merged_sources on (sources_at shape v n s) byte

    abbrev sourced : List ℕ
    sourced = moved shape (Sourced v n on byte) s

    below : sources < 256
    below = merged_fits on (sources_at shape v n s) byte (omega arith) o.fits

    there : RecordThere shape v n
    there = record { numbered = omega (arith, o.sgi, h.in_range.state.limits.private_numbers_lem); banked = λ b. o.exists }

    sourced_record : record_at shape v n sourced ≡ set_pending (record_at shape v n s) (not (eqb sources 0))
    sourced_record =
        both_record shape v n s h.in_range.state (o.exists, o.sgi) sources below (λ r. set_pending r (not (eqb sources 0)))
        (pended shape v n s h.in_range.state (o.exists, o.sgi) (not (eqb sources 0)))

    pub sourced_sources : sources_at shape v n sourced ≡ sources
    sourced_sources =
        both_sources shape v n s h.in_range.state (o.exists, o.sgi) sources below (λ r. set_pending r (not (eqb sources 0)))
        (pended shape v n s h.in_range.state (o.exists, o.sgi) (not (eqb sources 0)))

    sourced_lawful : Lawful shape sourced
    sourced_lawful =
        one_number shape s h (Sourced v n on byte) o v n there (λ t off p. p)
        (λ u b. stack shape s h (Sourced v n on byte) o u b (no_number v n (Interface u Depth) refl refl) (λ i. no_number v n (Stack u i) refl refl))
        (rw sourced_record (pended_fine (not (eqb sources 0)) (record_fine shape s h v n there)))
        (λ sgi. record { sourced = rw (sourced_sources, sourced_record) (left_unheld (record_at shape v n s) (unheld (record_fine shape s h v n there) sgi) (not (eqb sources 0))) })

  -- an interface value, the Distributor's CTLR
  kept_lawful : (v : ℕ) (k : InterfaceValue) (x : ℕ) → Keeping shape v k → Lawful shape (moved shape (Kept v k x) s)
  kept_lawful v k x o =
      only_stacks shape s h (Kept v k x) o
      (λ u n. record_apart u n (Interface v k) refl)
      (λ u n. kinds_apart (Sources u n) (Interface v k) refl)
      (λ u b. stack shape s h (Kept v k x) o u b (off_stack_apart (Interface u Depth) (Interface v k) refl o.off_depth) (λ i. kinds_apart (Stack u i) (Interface v k) refl))

  switched_lawful : (x : ℕ) → Lawful shape (moved shape (Switched x) s)
  switched_lawful x =
      only_stacks shape s h (Switched x) tt
      (λ u n. record_apart u n DistributorControl refl)
      (λ u n. kinds_apart (Sources u n) DistributorControl refl)
      (λ u b. stack shape s h (Switched x) tt u b (kinds_apart (Interface u Depth) DistributorControl refl) (λ i. kinds_apart (Stack u i) DistributorControl refl))

  -- the newest entry taken
  module _ (v : ℕ) (o : Popping shape v s) where
    popped_in : {i : ℕ} → i < depth_at shape v (moved shape (Popped v) s) → i < depth_at shape v s - 1
    popped_in d = rw (popped_depth shape v s (served shape s sound v o.exists) o.some) at d

    older : (i : ℕ) → i < depth_at shape v s - 1 → word_at shape (Stack v i) (moved shape (Popped v) s) ≡ word_at shape (Stack v i) s
    older i d =
        let deep = (served shape s sound v o.exists).deep in
        popped_others shape v s (served shape s sound v o.exists) o.some (Stack v i) (o.exists, omega (arith, d, deep))
        (kinds_apart (Stack v i) (Interface v Depth) refl) (λ p. let q : i ≡ depth_at shape v s - 1 = cc in omega (arith, q, d))

    popped_stack : StackFine shape v (moved shape (Popped v) s)
    popped_stack = record {
      falling = λ i j k d. rw (older j (popped_in d), older i (omega (arith, k, popped_in d))) (h.orderly.falling v i j o.exists k (omega (arith, popped_in d)));
      below_idle = λ i d. rw (older i (popped_in d)) (h.orderly.below_idle v i o.exists (omega (arith, popped_in d)));
      even = λ i d. rw (older i (popped_in d)) (h.orderly.even v i o.exists (omega (arith, popped_in d)));
      numbered = λ i d. rw (older i (popped_in d)) (h.numbered v i o.exists (omega (arith, popped_in d)));
    }

    popped_lawful : Lawful shape (moved shape (Popped v) s)
    popped_lawful =
        only_stacks shape s h (Popped v) o (record_off_stack v) (λ u n. off_stack v (Sources u n) refl)
        (λ u b. same_or u v (λ p. rw p popped_stack) (λ d. stack shape s h (Popped v) o u b (λ q. d (stack_vcpu v u (Interface u Depth) refl q)) (λ i q. d (stack_vcpu v u (Stack u i) refl q))))

  pub move_lawful : (m : Move) → Open shape m s → Lawful shape (moved shape m s)
  move_lawful (Changed v n c) o = changed_lawful v n c o
  move_lawful (Sourced v n on byte) o = sourced_lawful v n on byte o
  move_lawful (Kept v k x) o = kept_lawful v k x o
  move_lawful (Switched x) o = switched_lawful x
  move_lawful (Given v e) o = given_lawful shape s h v e o
  move_lawful (Popped v) o = popped_lawful v o

  -- and every word stays as we write it
  pub move_canonical : Canonical shape s → (m : Move) → Open shape m s → Canonical shape (moved shape m s)
  move_canonical c (Changed v n change) o =
      let r = record_at shape v n s in
      record_canonical shape s h.in_range.state c v n (becomes change r) (record_exists shape v n o.there)
      (change_in_range shape v n r h.in_range.state.limits change o.fits (decoded_in_range (word_at shape (record_slot v n) s)))
  move_canonical c (Sourced v n on byte) o =
      let x = merged_sources on (sources_at shape v n s) byte in
      let slot : Exists shape (Sources v n) = (o.exists, o.sgi) in
      let after = with_sources shape v n x s in
      let r = record_at shape v n after in
      record_canonical shape after (put_room shape s (Sources v n) x h.in_range.state) (sources_canonical shape s h.in_range.state c v n x slot (below v n on byte o))
      v n (set_pending r (not (eqb x 0))) (sgi_exists shape v n h.in_range.state.limits slot)
      (pended shape v n s h.in_range.state slot (not (eqb x 0)) r (decoded_in_range (word_at shape (record_slot v n) after)))
  move_canonical c (Kept v k x) o = interface_canonical shape s h.in_range.state c v k x o.exists o.off_depth
  move_canonical c (Switched x) o = control_canonical shape s h.in_range.state c x
  move_canonical c (Given v e) o = given_canonical shape v s (served shape s sound v o.exists) c e (givable shape s sound v e o) (pushed_byte shape v s e o.offered)
  move_canonical c (Popped v) o = popped_canonical shape v s (served shape s sound v o.exists) c o.some

pub move_controls : {shape : Shape} {s : List ℕ} → Controls shape s → (m : Move) → Open shape m s → Controls shape (moved shape m s)
move_controls {shape} {s} h m o = record { lawful = move_lawful shape s h.lawful m o; canonical = move_canonical shape s h.lawful h.canonical m o }

pub chain_controls : {shape : Shape} {May : Move → Type 0} {s r : List ℕ} → Chain shape May s r → Controls shape s → Controls shape r
chain_controls {shape} = chain_holds (Controls shape) (λ m t may o h. move_controls h m o)

-- what every move of a chain of controllers keeps, the chain keeps
pub chain_keeps : {shape : Shape} {May : Move → Type 0} {s r : List ℕ} (P : List ℕ → Type 0)
    → ((m : Move) (t : List ℕ) → May m → Open shape m t → Controls shape t → P t → P (moved shape m t)) → Chain shape May s r → Controls shape s → P s → P r
chain_keeps {shape} P step c h p =
    (chain_holds (λ t. Controls shape t × P t) (λ m t may o both. (move_controls both.0 m o, step m t may o both.0 both.1)) c (h, p)).1
