-- Every call on a state goes through a change of lent words that the slots do not see: it hands out the same, and leaves the changed words as it
-- would have left the others, changed. Assumes nothing.
use Rattle.std.specs.Prelude.{Option, Some, None, Result, Ok, Err}
use mathlib.Core.Path.{◌≡◌, refl, sym, ap, ◌∙◌}
use mathlib.Core.Bool.{true, Bool, cond, true≢false, false}
use mathlib.Core.List.{List, ◌++◌}
use Prim.Native.Nat.{ℕ, ◌%◌, ◌^◌}
use native.Mathlib.Omega.{arith}
use lib.Dec.{leb, ltb}
use lib.ListN.{length, drop}
use borrow.Author.Tests.{ltb-true, lt-ltb}
use Rattle.register.specs.declared.frame.AccessWidth.{AccessWidth}
use Rattle.register.specs.declared.frame.Refusal.TheVariants as refusal
use Rattle.register.specs.declared.ranges.Class.{Class}
use Rattle.register.specs.declared.ranges.Class.TheVariants as class
use Rattle.register.specs.declared.distributor.Place.{Place}
use Rattle.register.specs.declared.distributor.DistributorAccess.{DistributorAccess}
use Rattle.register.specs.declared.distributor.DistributorAccess.TheVariants as distributor
use Rattle.register.specs.Distributor.{locate_distributor}
use Rattle.register.specs.Frame.{bytes}
use Rattle.word.specs.Word.{bit_of, word_of}
use Rattle.state.specs.declared.layout.Shape.{Shape}
use Rattle.state.specs.Layout.{DistributorControl}
use Rattle.state.specs.Words.{kept_distributor_control, RecordThere, record_at, changed, enabled_at}
use Rattle.service.specs.Service.{Sound}
use Rattle.places.specs.Places.{sends, read_place_looks_up, write_place_looks_up, read_class, write_class, read_place, write_place, PlaceRead, PlaceWritten}
use Rattle.places.proofs.Fits.{bit_word_lem, byte_run}
use Rattle.places.proofs.Sounds.{place_sound}
use Rattle.distributor_frame.specs.DistributorFrame.{private_width, read_distributor_access, write_distributor_access, read_v2_distributor, write_v2_distributor}
use Rattle.distributor_frame.proofs.Passed.{place_read, place_written}
use Rattle.input.specs.declared.Signal.{Signal}
use Rattle.input.specs.Input.{signalled, signal_went, input_of, input_at, device_input}
use Rattle.input.proofs.Passed.{input_there, changed_sound}
use Rattle.reach.proofs.Readings.{Alike, record_alike, control_alike, enabled_alike, bits_alike, bytes_alike, acknowledge_alike}
use Rattle.reach.proofs.Images.{lawful_alike, image_alike}
use Rattle.reach.proofs.Around.{Around, Passes, none_passes, if_through, put_through, changed_through}
use Rattle.reach.proofs.Distributor.{bits_through, bytes_through, sgir_through}
use Rattle.reach.proofs.Outcomes.{wrapped, Carries, refused_carries, gave_carries, looked_carries, went_carries, with_carries}
use Rattle.register.specs.CpuInterface.{locate_cpu_interface}
use Rattle.state.specs.Lent.{validated}
use Rattle.service.proofs.Soundness.{validated_sound}
use Rattle.answer.specs.Answer.{Outcome, refused, gave, went, on_state, absent, looked_up}
use Rattle.answer.proofs.Present.{present}
use Rattle.cpu_interface.specs.CpuInterface.{read_register, after_read, write_register, write_retired, read_register_looks_up, write_register_looks_up}
use Rattle.cpu_interface_frame.specs.CpuInterfaceFrame.{read_answer, read_interface_access, write_interface_access, read_v2_cpu_interface, write_v2_cpu_interface}
use Rattle.delivery.proofs.Sounds.{write_sound}
use Rattle.wake.specs.Wake.{gives_number}
use Rattle.message_frame.specs.declared.Window.{Window}
use Rattle.message_frame.specs.MessageFrame.{is_window, window_of, decoded_window, on_window, locate_v2m, read_message, rings_spi, read_message_access, write_message_access, read_v2m, write_v2m}
use Rattle.message_frame.proofs.Windows.{rung_spi}
use Rattle.look.specs.Look.{line_level, interrupt_at, irq_level, interrupt_word}
use Rattle.input.specs.declared.Signal.TheVariants.{Level, Edge}
use Rattle.lawful_test.specs.LawfulTest.{is_lawful}
use Rattle.image.specs.Image.{image}
use Rattle.save.specs.Save.{Saved, into_buffer, saved_from, save}
use Rattle.history.specs.History.{Call, Setup, ReadDistributor, WriteDistributor, ReadCpuInterface, WriteCpuInterface, SetLevel, Pulse, ReadV2m, WriteV2m, IrqLevel, InterruptWord, Save, Load, is_start, called}
use Rattle.reach.proofs.Registers.{register_read, register_written}
use Rattle.message_frame.specs.declared.MessageRegister.{MessageRegister}
use Rattle.register.specs.declared.frame.Refusal.{Refusal}
use Rattle.interrupt.specs.declared.types.IntId.{IntId}
use Rattle.register.specs.declared.cpu_interface.CpuInterfaceRegister.{CpuInterfaceRegister}

module _ {shape : Shape} {wrap : List ℕ → List ℕ} (around : Around shape wrap) (s : List ℕ) (h : Sound shape s) where
  abbrev same : Alike shape (wrap s) s
  same = around.alike s h.state

  -- the Distributor
  module _ (v : ℕ) (width : AccessWidth) (place : Place) where
    read_class_lem : PlaceRead shape v place width s → (c : Class) → place.class ≡ c → read_class shape v c place.first.0 width (wrap s) ≡ read_class shape v c place.first.0 width s
    read_class_lem at class.Ctlr e = control_alike same
    read_class_lem at class.Typer e = refl
    read_class_lem at class.Iidr e = refl
    read_class_lem at class.Sgir e = refl
    read_class_lem at (class.Bits register) e =
        bits_alike same register v place.first.0 (bit_word_lem shape v place width s h.state at.located register e (λ q. at.looked (simp e q))).banked
    read_class_lem at (class.Bytes register) e =
        bytes_alike same register v place.first.0 (bytes width) (byte_run shape v place width s h.state at.located register e (λ q. at.looked (simp e q))).there
    read_class_lem at class.Other e = refl

    module _ (value : ℕ) where
      write_class_lem : PlaceWritten shape v place width value s → (c : Class) → place.class ≡ c → Passes wrap (write_class shape v c place.first.0 width value) s
      write_class_lem at class.Ctlr e = put_through around DistributorControl (λ r. kept_distributor_control value) tt (omega arith) (λ r k. refl) s h.state
      write_class_lem at class.Typer e = none_passes s
      write_class_lem at class.Iidr e = none_passes s
      write_class_lem at class.Sgir e = if_through (sends value) (λ q. sgir_through around h.state.limits v value) s h.state
      write_class_lem at (class.Bits register) e =
          bits_through around register v place.first.0 value (bit_word_lem shape v place width s h.state at.located register e (λ q. at.looked (simp e q))).banked s h.state
      write_class_lem at (class.Bytes register) e =
          bytes_through around h.state.limits register v place.first.0 (bytes width) value
          (byte_run shape v place width s h.state at.located register e (λ q. at.looked (simp e q))).there s h.state
      write_class_lem at class.Other e = none_passes s

  private_width_lem : (v : ℕ) → Carries wrap (private_width shape v) s
  private_width_lem v = looked_carries s shape v true (λ e. refused_carries s refusal.Width)

  distributor_read : (v offset : ℕ) (width : AccessWidth) (a : DistributorAccess) → locate_distributor offset width ≡ a → Carries wrap (read_distributor_access shape v a width) s
  distributor_read v offset width (distributor.Refused r) p = refused_carries s r
  distributor_read v offset width distributor.PrivateWidth p = private_width_lem v
  distributor_read v offset width (distributor.At place) p =
      looked_carries s shape v (read_place_looks_up place.class place.private)
      (λ e. gave_carries s (read_place shape v place width) (read_class_lem v width place (place_read v h (record { offset = offset; at = p }) e) place.class refl))

  distributor_write : (v offset : ℕ) (width : AccessWidth) (value : ℕ) (a : DistributorAccess) → locate_distributor offset width ≡ a → Carries wrap (write_distributor_access shape v a width value) s
  distributor_write v offset width value (distributor.Refused r) p = refused_carries s r
  distributor_write v offset width value distributor.PrivateWidth p = private_width_lem v
  distributor_write v offset width value (distributor.At place) p =
      looked_carries s shape v (write_place_looks_up place.class place.private value)
      (λ e.
      let at : PlaceWritten shape v place width value s = place_written v h (record { offset = offset; at = p }) e in
      went_carries around s h (λ r. 1023) (write_place shape v place width value) refl (write_class_lem v width place value at place.class refl) (place_sound shape v place width value s h at))

  -- a device's signal
  signal_carries : (v n : ℕ) (signal : Signal) → RecordThere shape v n → Carries wrap (signal_went shape v n signal) s
  signal_carries v n signal there =
      went_carries around s h (λ r. 1023) (changed shape v n (signalled signal)) refl (changed_through around v n (signalled signal) there s h.state) (changed_sound shape v n (signalled signal) s h there)

  input : (v n : ℕ) (signal : Signal) (a : Option IntId) → input_of shape n ≡ a → Carries wrap (input_at shape v signal a) s
  input v n signal None p = refused_carries s refusal.Input
  input v n signal (Some k) p =
      looked_carries s shape v (ltb k.0 32) (λ e. signal_carries v k.0 signal (input_there shape v n k p e))

  -- the message frame
  module _ (first count : ℕ) where
    on_window_lem : (f : Window → List ℕ → Outcome) → (is_window shape first count ≡ true → Carries wrap (f (window_of first count)) s)
        → Carries wrap (λ r. on_window (decoded_window shape first count) r (λ w. f w r)) s
    unfolding decoded_window
    on_window_lem f g = go (is_window shape first count) refl
      where
        go : (b : Bool) → is_window shape first count ≡ b → Carries wrap (λ r. on_window (cond b (Some (window_of first count)) None) r (λ w. f w r)) s
        go true e = g e
        go false e = refused_carries s refusal.Window

    message_read : (a : Result MessageRegister Refusal) → Carries wrap (read_message_access (window_of first count) a) s
    message_read (Err r) = refused_carries s r
    message_read (Ok register) = gave_carries s (λ r. read_message (window_of first count) register) refl

    message_write : (a : Result MessageRegister Refusal) (n : ℕ) → is_window shape first count ≡ true → Carries wrap (write_message_access shape (window_of first count) a n) s
    message_write (Err r) n it = refused_carries s r
    message_write (Ok register) n it = go (rings_spi (window_of first count) register n) refl
      where
        go : (b : Bool) → rings_spi (window_of first count) register n ≡ b → Carries wrap (λ r. went shape 1023 r (cond b (changed shape 0 n (signalled Edge) r) r)) s
        go true e = signal_carries 0 n Edge ((rung_spi shape first count it register n e).there 0)
        go false e = went_carries around s h (λ r. 1023) (λ r. r) refl (none_passes s) h

  -- a CPU interface
  interface_read : (v : ℕ) (a : Result CpuInterfaceRegister Refusal) → Carries wrap (read_interface_access shape v a) s
  interface_read v (Err r) = refused_carries s r
  interface_read v (Ok register) =
      with_carries s (enabled_at shape) (λ on r. looked_up (read_register_looks_up register on) shape v r (read_answer (read_register shape v register r) r (after_read shape v register r)))
      (enabled_alike same)
      (looked_carries s shape v looks_up (λ e. register_read around s h v register (present looks_up shape v e)))
    where
      looks_up : Bool
      looks_up = read_register_looks_up register (enabled_at shape s)

  interface_write : (v value : ℕ) (a : Result CpuInterfaceRegister Refusal) → Carries wrap (write_interface_access shape v a value) s
  interface_write v value (Err r) = refused_carries s r
  interface_write v value (Ok register) =
      let looks_up : Bool = write_register_looks_up register value in
      looked_carries s shape v looks_up
      (λ e.
      let looked = present looks_up shape v e in
      let w = register_written around s h v value register looked in
      went_carries around s h (write_retired shape v register value) (write_register shape v register value) w.alike w.passes (write_sound shape v s h register value looked))

  -- a host's look
  level_look : (v : ℕ) → Carries wrap (λ r. looked_up true shape v r (gave (bit_of (line_level shape v r)) r)) s
  level_look v =
      looked_carries s shape v true
      (λ e.
      let exists = present true shape v e refl in
      gave_carries s (λ r. bit_of (line_level shape v r)) (ap (λ (a : Option ℕ). bit_of (gives_number a)) (acknowledge_alike same v exists (h.depths v exists))))

  interrupt_look : (v n : ℕ) → Carries wrap (interrupt_at shape v n) s
  interrupt_look v n = go (ltb n shape.limit) refl
    where
      there : ltb n shape.limit ≡ true → absent (ltb n 32) shape v ≡ false → RecordThere shape v n
      there e q = record { numbered = ltb-true n shape.limit e; banked = λ low. present (ltb n 32) shape v q (lt-ltb n 32 low) }

      go : (b : Bool) → ltb n shape.limit ≡ b → Carries wrap (λ r. cond b (looked_up (ltb n 32) shape v r (gave (word_of (record_at shape v n r)) r)) (gave 0 r)) s
      go true e = looked_carries s shape v (ltb n 32) (λ q. gave_carries s (λ r. word_of (record_at shape v n r)) (ap word_of (record_alike same v n (there e q))))
      go false e = gave_carries s (λ r. 0) refl

  -- a host's save
  module _ (buffer : List ℕ) where
    abbrev tested : List ℕ → Bool → List ℕ → Outcome
    tested written b r = (cond {A = Saved} b (into_buffer written r buffer) (record { outcome = refused refusal.Unlawful r; buffer = buffer })).outcome

    into_carries : (written : List ℕ) → Carries wrap (λ r. (into_buffer written r buffer).outcome) s
    into_carries written = go (leb (length written) (length buffer))
      where
        go : (b : Bool) → Carries wrap (λ r. (cond {A = Saved} b (record { outcome = gave (length written) r; buffer = written ++ drop (length written) buffer }) (record { outcome = refused refusal.NoRoom r; buffer = buffer })).outcome) s
        go true = gave_carries s (λ r. length written) refl
        go false = refused_carries s refusal.NoRoom

    tested_carries : (written : List ℕ) (b : Bool) → Carries wrap (tested written b) s
    tested_carries written true = into_carries written
    tested_carries written false = refused_carries s refusal.Unlawful

    save_carries : Carries wrap (λ r. (saved_from (Some shape) r buffer).outcome) s
    save_carries =
        with_carries s (image shape) (λ written r. tested written (is_lawful shape r) r) (image_alike same h)
        (with_carries s (is_lawful shape) (tested (image shape s)) (lawful_alike same h) (tested_carries (image shape s) (is_lawful shape s)))

-- words that pass the test of refusal 6 before the change and after it
module _ {shape : Shape} {wrap : List ℕ → List ℕ} (around : Around shape wrap) (s : List ℕ) (valid : validated s ≡ Some shape) (too : validated (wrap s) ≡ Some shape) where
  on_state_lem : (f : Shape → List ℕ → Outcome) → Carries wrap (f shape) s → Carries wrap (λ r. on_state (validated r) r (λ k. f k r)) s
  on_state_lem f p = record { same = simp (valid, too) p.same; long = simp valid p.long }

  abbrev sound : Sound shape s
  sound = validated_sound shape s valid

  pub call_carries : (c : Call) → is_start c ≡ false → Carries wrap (called c) s
  unfolding read_v2_distributor write_v2_distributor read_v2_cpu_interface write_v2_cpu_interface device_input read_v2m write_v2m irq_level interrupt_word save
  call_carries (Setup count limit) e = absurd (true≢false e)
  call_carries (ReadDistributor v offset width) e =
      on_state_lem (λ k. read_distributor_access k v (locate_distributor offset width) width) (distributor_read around s sound v offset width (locate_distributor offset width) refl)
  call_carries (WriteDistributor v offset width value) e =
      on_state_lem (λ k. write_distributor_access k v (locate_distributor offset width) width (value % 2 ^ 32)) (distributor_write around s sound v offset width (value % 2 ^ 32) (locate_distributor offset width) refl)
  call_carries (ReadCpuInterface v offset width) e =
      on_state_lem (λ k. read_interface_access k v (locate_cpu_interface offset width)) (interface_read around s sound v (locate_cpu_interface offset width))
  call_carries (WriteCpuInterface v offset width value) e =
      on_state_lem (λ k. write_interface_access k v (locate_cpu_interface offset width) (value % 2 ^ 32)) (interface_write around s sound v (value % 2 ^ 32) (locate_cpu_interface offset width))
  call_carries (SetLevel v n asserted) e = on_state_lem (λ k. input_at k v (Level asserted) (input_of k n)) (input around s sound v n (Level asserted) (input_of shape n) refl)
  call_carries (Pulse v n) e = on_state_lem (λ k. input_at k v Edge (input_of k n)) (input around s sound v n Edge (input_of shape n) refl)
  call_carries (ReadV2m first count offset width) e =
      on_state_lem (λ k r. on_window (decoded_window k first count) r (λ w. read_message_access w (locate_v2m offset width) r))
      (on_window_lem around s sound first count (λ w. read_message_access w (locate_v2m offset width)) (λ it. message_read around s sound first count (locate_v2m offset width)))
  call_carries (WriteV2m first count offset width value) e =
      let n : ℕ = value % 2 ^ 32 in
      on_state_lem (λ k r. on_window (decoded_window k first count) r (λ w. write_message_access k w (locate_v2m offset width) n r))
      (on_window_lem around s sound first count (λ w. write_message_access shape w (locate_v2m offset width) n) (message_write around s sound first count (locate_v2m offset width) n))
  call_carries (IrqLevel v) e = on_state_lem (λ k r. looked_up true k v r (gave (bit_of (line_level k v r)) r)) (level_look around s sound v)
  call_carries (InterruptWord v n) e = on_state_lem (λ k. interrupt_at k v n) (interrupt_look around s sound v n)
  call_carries (Save buffer) e =
      let p = save_carries around s sound buffer in
      record {
        same = ap (λ (l : Option Shape). (saved_from l (wrap s) buffer).outcome) too ∙ p.same ∙ ap (λ (l : Option Shape). wrapped wrap (saved_from l s buffer).outcome) (sym valid);
        long = ap (λ (l : Option Shape). length (saved_from l s buffer).outcome.state) valid ∙ p.long;
      }
  call_carries (Load b) e = absurd (true≢false e)
