-- Every call but setup and load, to any words that pass the test of refusal 6, case by case of what kind it is: what it is refused by, what it
-- answers where nothing changes, and the four ways in which it changes something. What holds in each case holds of every call. Assumes nothing.
use Rattle.std.specs.Prelude.{Some, None, Result, Ok, Err, Option}
use mathlib.Core.Path.{◌≡◌, refl, sym, ap, subst, ◌∙◌}
use mathlib.Core.Bool.{Bool, true, false, not, cond, ◌&&◌, true≢false}
use mathlib.Core.List.{List, [], ◌∷◌, ◌++◌}
use Prim.Native.Nat.{ℕ, ◌%◌, ◌^◌, ◌≤◌, ◌<◌}
use native.Mathlib.Omega.{arith}
use lib.Dec.{leb, ltb}
use lib.ListN.{length, drop}
use borrow.Author.Tests.{ltb-true, lt-ltb, le-ltb}
use Rattle.register.specs.declared.frame.AccessWidth.{AccessWidth}
use Rattle.register.specs.declared.distributor.Place.{Place}
use Rattle.register.specs.declared.cpu_interface.CpuInterfaceRegister.{CpuInterfaceRegister}
use Rattle.register.specs.declared.distributor.DistributorAccess.{DistributorAccess}
use Rattle.register.specs.declared.distributor.DistributorAccess.TheVariants as distributor
use Rattle.register.specs.declared.frame.Refusal.TheVariants as refusal
use Rattle.register.specs.Distributor.{locate_distributor}
use Rattle.register.specs.CpuInterface.{locate_cpu_interface, register_at}
use Rattle.word.specs.Word.{bit_of, word_of}
use Rattle.state.specs.declared.layout.Shape.{Shape}
use Rattle.state.specs.Lent.{validated}
use Rattle.state.specs.Words.{RecordThere, record_at, changed, enabled_at}
use Rattle.state.proofs.Tests.{left_true, not_below}
use Rattle.state.proofs.Validated.{held_validated}
use Rattle.service.specs.Service as service
use Rattle.service.proofs.Soundness.{validated_sound}
use Rattle.acknowledge.specs.Acknowledge.{acknowledge, acknowledged}
use Rattle.wake.proofs.WakeSets.{none_wakes_nobody}
use Rattle.delivery.proofs.Registers.{each_read}
use Rattle.cpu_interface.specs.CpuInterface as interface-looks
use Rattle.places.specs.Places as places
use Rattle.answer.specs.Answer.{Outcome, refused, gave, went, absent, looked_up}
use Rattle.answer.proofs.Present.{present, found}
use Rattle.distributor_frame.specs.DistributorFrame as distributor-frame
use Rattle.distributor_frame.specs.DistributorFrame.{read_v2_distributor, write_v2_distributor}
use Rattle.distributor_frame.proofs.Passed.{place_written}
use Rattle.cpu_interface_frame.specs.CpuInterfaceFrame as interface-frame
use Rattle.cpu_interface_frame.specs.CpuInterfaceFrame.{read_v2_cpu_interface, write_v2_cpu_interface}
use Rattle.input.specs.declared.Signal.{Signal}
use Rattle.input.specs.declared.Signal.TheVariants.{Level, Edge}
use Rattle.input.specs.Input.{signalled, input_of, input_at, device_input}
use Rattle.input.proofs.Passed.{input_there}
use Rattle.message_frame.specs.declared.Window.{Window}
use Rattle.message_frame.specs.MessageFrame.{is_window, window_of, decoded_window, on_window, message_register_at, takes_width, locate_v2m, read_message, rings_spi, read_message_access, write_message_access, read_v2m, write_v2m}
use Rattle.message_frame.proofs.Windows.{rung_spi}
use Rattle.look.specs.Look.{line_level, irq_level, interrupt_word}
use Rattle.lawful_test.specs.LawfulTest.{is_lawful}
use Rattle.image.specs.Image.{image}
use Rattle.save.specs.Save.{Saved, into_buffer, saved_from, save}
use Rattle.lawful.specs.Lawful.{Controls}
use Rattle.history.specs.Refusals.{refusals, listed}
use Rattle.history.specs.History.{Ordinary, Call, Setup, ReadDistributor, WriteDistributor, ReadCpuInterface, WriteCpuInterface, SetLevel, Pulse, ReadV2m, WriteV2m, IrqLevel, InterruptWord, Save, Load, Looks, ReadsRegister, WritesRegister, WritesPlace, Signals, Deed, Starts, Acts, deed, starts_anew, is_start, called, message_action}
use Rattle.register.specs.declared.frame.Refusal.{Refusal}
use Rattle.register.specs.Frame.{refusal_number, is_dword, in_frame}
use Rattle.places.proofs.Fits.{refused_access}
use Rattle.message_frame.specs.declared.MessageRegister.{MessageRegister}
use Rattle.interrupt.specs.declared.types.IntId.{IntId}

pub few : {x : ℕ} → x ≤ 5 → Ordinary x
few b = record { not_6 = λ e. absurd (omega (arith, b, e)); not_7 = λ e. absurd (omega (arith, b, e)) }

pub many : {x : ℕ} → 8 ≤ x → Ordinary x
many b = record { not_6 = λ e. absurd (omega (arith, b, e)); not_7 = λ e. absurd (omega (arith, b, e)) }

-- the call c may be refused by x where its words are a state and it acknowledges nothing
pub record Refusable (c : Call) (x : ℕ) : Type 0 where
  pub ordinary : Ordinary x
  pub of_call : listed x (refusals c) ≡ true

-- a refusal has a number
pub some_refusal : (r : Refusal) → refusal_number r ≡ 0 → ⊥
some_refusal refusal.Access e = omega (arith, e)
some_refusal refusal.Width e = omega (arith, e)
some_refusal refusal.Vcpu e = omega (arith, e)
some_refusal refusal.Limits e = omega (arith, e)
some_refusal refusal.ShortState e = omega (arith, e)
some_refusal refusal.BrokenState e = omega (arith, e)
some_refusal refusal.FullStack e = omega (arith, e)
some_refusal refusal.Input e = omega (arith, e)
some_refusal refusal.Unlawful e = omega (arith, e)
some_refusal refusal.NoRoom e = omega (arith, e)
some_refusal refusal.Window e = omega (arith, e)

-- the refusals of an access by itself are 1, 2 and 3
small : (P : ℕ → Type 0) → P 1 → P 2 → P 3 → (r : Refusal) → refusal_number r ≤ 3 → P (refusal_number r)
small P one two three refusal.Access b = one
small P one two three refusal.Width b = two
small P one two three refusal.Vcpu b = three
small P one two three refusal.Limits b = absurd (omega (arith, b))
small P one two three refusal.ShortState b = absurd (omega (arith, b))
small P one two three refusal.BrokenState b = absurd (omega (arith, b))
small P one two three refusal.FullStack b = absurd (omega (arith, b))
small P one two three refusal.Input b = absurd (omega (arith, b))
small P one two three refusal.Unlawful b = absurd (omega (arith, b))
small P one two three refusal.NoRoom b = absurd (omega (arith, b))
small P one two three refusal.Window b = absurd (omega (arith, b))

-- an access, by any of them
access : {c : Call} {more : List ℕ} → refusals c ≡ 6 ∷ 1 ∷ 2 ∷ 3 ∷ more → (r : Refusal) → refusal_number r ≤ 3 → Refusable c (refusal_number r)
access {c} {more} p r b = record { ordinary = few (omega (arith, b)); of_call = rw p (small (λ x. listed x (6 ∷ 1 ∷ 2 ∷ 3 ∷ more) ≡ true) refl refl refl r b) }

-- .. and one to the message frame, which looks nobody up, by 1 or 2
message_access : {c : Call} → refusals c ≡ 6 ∷ 11 ∷ 1 ∷ 2 ∷ [] → (r : Refusal) → refusal_number r ≤ 2 → Refusable c (refusal_number r)
message_access {c} p r b = record {
  ordinary = few (omega (arith, b));
  of_call = rw p (small (λ x. x ≤ 2 → listed x (6 ∷ 11 ∷ 1 ∷ 2 ∷ []) ≡ true) (λ q. refl) (λ q. refl) (λ q. absurd (omega (arith, q))) r (omega (arith, b)) b);
}

-- what the CPU interface's map refuses it refuses by 1 or 2
abbrev Passes : Result CpuInterfaceRegister Refusal → Type 0
Passes (Err r) = refusal_number r ≤ 2
Passes (Ok register) = Unit

interface_access : (offset : ℕ) (width : AccessWidth) → Passes (locate_cpu_interface offset width)
unfolding locate_cpu_interface
interface_access offset width = go (in_frame 0x2000 offset width) (is_dword width)
  where
    go : (b c : Bool) → Passes (cond b (cond c (Ok (register_at offset)) (Err refusal.Width)) (Err refusal.Access))
    go true true = tt
    go true false = omega arith
    go false c = omega arith

abbrev MessagePasses : Result MessageRegister Refusal → Type 0
MessagePasses (Err r) = refusal_number r ≤ 2
MessagePasses (Ok register) = Unit

message_located : (offset : ℕ) (width : AccessWidth) → MessagePasses (locate_v2m offset width)
unfolding locate_v2m
message_located offset width = go (in_frame 0x1000 offset width) (takes_width (message_register_at offset) width)
  where
    go : (b c : Bool) → MessagePasses (cond b (cond c (Ok (message_register_at offset)) (Err refusal.Width)) (Err refusal.Access))
    go true true = tt
    go true false = omega arith
    go false c = omega arith

-- a read of a CPU interface may be refused by 7
read_by_7 : (v offset : ℕ) (width : AccessWidth) → listed 7 (refusals (ReadCpuInterface v offset width)) ≡ true
read_by_7 v offset width = refl

-- and an access to the message frame by 11
read_by_11 : (first count offset : ℕ) (width : AccessWidth) → listed 11 (refusals (ReadV2m first count offset width)) ≡ true
read_by_11 first count offset width = refl

written_by_11 : (first count offset : ℕ) (width : AccessWidth) (value : ℕ) → listed 11 (refusals (WriteV2m first count offset width value)) ≡ true
written_by_11 first count offset width value = refl

-- an input's number is that of the call, and no SGI's
abbrev IsInput : Shape → ℕ → Option IntId → Type 0
IsInput shape n (Some k) = (k.0 ≡ n) × (16 ≤ n)
IsInput shape n None = n < shape.limit → 16 ≤ n → ⊥

input_is : (shape : Shape) (n : ℕ) → IsInput shape n (input_of shape n)
unfolding input_of
input_is shape n = go (not (ltb n 16) && ltb n shape.limit) refl
  where
    go : (b : Bool) → (not (ltb n 16) && ltb n shape.limit) ≡ b → IsInput shape n (cond b (Some (record { 0 = n })) None)
    go true e = (refl, not_below n 16 (left_true (not (ltb n 16)) (ltb n shape.limit) e))
    go false e = λ below past. absurd (true≢false (simp (le-ltb n 16 past, lt-ltb n shape.limit below) at e))

-- a lent buffer has room for some bytes, or not
pub into_cases : (bytes s buffer : List ℕ) (P : Outcome → Type 0) → P (gave (length bytes) s) → P (refused refusal.NoRoom s) → P (into_buffer bytes s buffer).outcome
into_cases bytes s buffer P room full = go (leb (length bytes) (length buffer))
  where
    go : (b : Bool) → P (cond {A = Saved} b (record { outcome = gave (length bytes) s; buffer = bytes ++ drop (length bytes) buffer }) (record { outcome = refused refusal.NoRoom s; buffer = buffer })).outcome
    go true = room
    go false = full

-- a call starts a controller anew, or it acts on one
pub start_or_act : (P : Call → Type 0) → ((c : Call) → is_start c ≡ true → P c) → ((c : Call) → is_start c ≡ false → P c) → (c : Call) → P c
start_or_act P starts acts c = go (is_start c) refl
  where
    go : (b : Bool) → is_start c ≡ b → P c
    go true e = starts c e
    go false e = acts c e

-- what passes a test that no start passes is an act
pub is_act : (test : Deed → Bool) → ((count limit : ℕ) → test (Starts count limit) ≡ false) → (c : Call) → test (deed c) ≡ true → is_start c ≡ false
is_act test never c = go (deed c)
  where
    go : (d : Deed) → test d ≡ true → starts_anew d ≡ false
    go (Starts count limit) e = absurd (true≢false (sym e ∙ never count limit))
    go (Acts a) e = refl

-- case by case: a setup or a load starts one
pub setup_load_or_other : (P : Call → Type 0) → ((count limit : ℕ) → P (Setup count limit)) → ((bytes : List ℕ) → P (Load bytes)) → ((c : Call) → is_start c ≡ false → P c) → (c : Call) → P c
setup_load_or_other P setup load other (Setup count limit) = setup count limit
setup_load_or_other P setup load other (ReadDistributor v offset width) = other (ReadDistributor v offset width) refl
setup_load_or_other P setup load other (WriteDistributor v offset width value) = other (WriteDistributor v offset width value) refl
setup_load_or_other P setup load other (ReadCpuInterface v offset width) = other (ReadCpuInterface v offset width) refl
setup_load_or_other P setup load other (WriteCpuInterface v offset width value) = other (WriteCpuInterface v offset width value) refl
setup_load_or_other P setup load other (SetLevel v n asserted) = other (SetLevel v n asserted) refl
setup_load_or_other P setup load other (Pulse v n) = other (Pulse v n) refl
setup_load_or_other P setup load other (ReadV2m first count offset width) = other (ReadV2m first count offset width) refl
setup_load_or_other P setup load other (WriteV2m first count offset width value) = other (WriteV2m first count offset width value) refl
setup_load_or_other P setup load other (IrqLevel v) = other (IrqLevel v) refl
setup_load_or_other P setup load other (InterruptWord v n) = other (InterruptWord v n) refl
setup_load_or_other P setup load other (Save buffer) = other (Save buffer) refl
setup_load_or_other P setup load other (Load bytes) = load bytes

pub valid : (shape : Shape) (s : List ℕ) → Controls shape s → validated s ≡ Some shape
valid shape s h = held_validated s shape h.lawful.in_range

-- what a refused call asked for in vain, of the calls that could take something: it names a vCPU that there is not, or no device's number
abbrev pub Barred : Shape → Deed → Type 0
Barred shape (Starts count limit) = Unit
Barred shape (Acts (Looks by)) = Unit
Barred shape (Acts (ReadsRegister v a)) = Unit
Barred shape (Acts (WritesRegister v a value)) = Unit
Barred shape (Acts (WritesPlace v (distributor.Refused r) width value)) = Unit
Barred shape (Acts (WritesPlace v distributor.PrivateWidth width value)) = Unit
Barred shape (Acts (WritesPlace v (distributor.At place) width value)) =
    places.Located place width × ((places.write_place_looks_up place.class place.private value ≡ true → v < shape.count) → ⊥)
Barred shape (Acts (Signals v n (Level asserted))) = RecordThere shape v n → 16 ≤ n → ⊥
Barred shape (Acts (Signals v n Edge)) = Unit

signal_barred : {shape : Shape} (v n : ℕ) (signal : Signal) → (RecordThere shape v n → 16 ≤ n → ⊥) → Barred shape (Acts (Signals v n signal))
signal_barred v n (Level asserted) f = f
signal_barred v n Edge f = tt

message_barred : (shape : Shape) (w : Window) (a : Result MessageRegister Refusal) (n : ℕ) → Barred shape (Acts (message_action w a n))
message_barred shape w (Err r) n = tt
message_barred shape w (Ok register) n = go (rings_spi w register n)
  where
    go : (b : Bool) → Barred shape (Acts (cond b (Signals 0 n Edge) (Looks None)))
    go true = tt
    go false = tt

-- what a call comes to, by its kind: `P` is of the call, its kind and what it comes to
module _ (shape : Shape) (s : List ℕ) (h : validated s ≡ Some shape) (P : Call → Deed → Outcome → Type 0)
    (refuses : (c : Call) (d : Deed) (r : Refusal) → Refusable c (refusal_number r) → Barred shape d → P c d (refused r s))
    (looks : (c : Call) (by : Option ℕ) (x : ℕ) → P c (Acts (Looks by)) (gave x s))
    (reads : (c : Call) (v : ℕ) (register : CpuInterfaceRegister) (x : ℕ) → interface-looks.acknowledging register ≡ false → P c (Acts (ReadsRegister v (Ok register))) (gave x s))
    (acknowledges : (c : Call) (v : ℕ) (register : CpuInterfaceRegister) → interface-looks.acknowledging register ≡ true → (enabled_at shape s ≡ true → v < shape.count)
    → listed 7 (refusals c) ≡ true → P c (Acts (ReadsRegister v (Ok register))) (interface-frame.read_answer (acknowledge shape v s) s (acknowledged shape v s)))
    (writes : (c : Call) (v : ℕ) (register : CpuInterfaceRegister) (value : ℕ) → (interface-looks.write_register_looks_up register value ≡ true → v < shape.count)
    → P c (Acts (WritesRegister v (Ok register) value))
    (went shape (interface-looks.write_retired shape v register value s) s (interface-looks.write_register shape v register value s)))
    (places-write : (c : Call) (v : ℕ) (place : Place) (width : AccessWidth) (value : ℕ) → places.PlaceWritten shape v place width value s
    → P c (Acts (WritesPlace v (distributor.At place) width value)) (went shape 1023 s (places.write_place shape v place width value s)))
    (signals : (c : Call) (v n : ℕ) (signal : Signal) → RecordThere shape v n → 16 ≤ n → P c (Acts (Signals v n signal)) (went shape 1023 s (changed shape v n (signalled signal) s))) where
  sound : service.Sound shape s
  sound = validated_sound shape s h

  -- what looks up its vCPU and does not find it is refused by 3
  looked : (c : Call) (d : Deed) → Refusable c 3 → (looks_up : Bool) (v : ℕ) (out : Outcome) → (((looks_up ≡ true → v < shape.count) → ⊥) → Barred shape d)
      → (absent looks_up shape v ≡ false → P c d out) → P c d (looked_up looks_up shape v s out)
  looked c d may looks_up v out bar f = go (absent looks_up shape v) refl
    where
      go : (b : Bool) → absent looks_up shape v ≡ b → P c d (looked_up looks_up shape v s out)
      go true e = simp e (refuses c d refusal.Vcpu may (bar (λ there. true≢false (sym e ∙ found looks_up shape v there))))
      go false e = simp e (f e)

  -- an access: what it may be refused by is known of its call
  module _ (c : Call) (may : (r : Refusal) → refusal_number r ≤ 3 → Refusable c (refusal_number r)) where
    private_width_lem : (d : Deed) (v : ℕ) → Barred shape d → P c d (distributor-frame.private_width shape v s)
    private_width_lem d v bar = looked c d (may refusal.Vcpu (omega arith)) true v (refused refusal.Width s) (λ p. bar) (λ e. refuses c d refusal.Width (may refusal.Width (omega arith)) bar)

    interface_read : listed 7 (refusals c) ≡ true → (v : ℕ) (a : Result CpuInterfaceRegister Refusal) → Passes a → P c (Acts (ReadsRegister v a)) (interface-frame.read_interface_access shape v a s)
    interface_read full v (Err r) p = refuses c (Acts (ReadsRegister v (Err r))) r (may r (omega (arith, p))) tt
    interface_read full v (Ok register) p =
        each_read shape v s (λ k looks_up answer r. P c (Acts (ReadsRegister v (Ok k))) (looked_up looks_up shape v s (interface-frame.read_answer answer s r)))
        (λ k no looks_up x. looked c (Acts (ReadsRegister v (Ok k))) vcpu looks_up v (gave x s) (λ q. tt) (λ e. reads c v k x no))
        (λ k is. looked c (Acts (ReadsRegister v (Ok k))) vcpu (enabled_at shape s) v (interface-frame.read_answer (acknowledge shape v s) s (acknowledged shape v s)) (λ q. tt)
        (λ e. acknowledges c v k is (present (enabled_at shape s) shape v e) full))
        register
      where
        vcpu : Refusable c 3
        vcpu = may refusal.Vcpu (omega arith)

    interface_write : (v : ℕ) (a : Result CpuInterfaceRegister Refusal) (x : ℕ) → Passes a → P c (Acts (WritesRegister v a x)) (interface-frame.write_interface_access shape v a x s)
    interface_write v (Err r) x p = refuses c (Acts (WritesRegister v (Err r) x)) r (may r (omega (arith, p))) tt
    interface_write v (Ok register) x p =
        let looks_up : Bool = interface-looks.write_register_looks_up register x in
        looked c (Acts (WritesRegister v (Ok register) x)) (may refusal.Vcpu (omega arith)) looks_up v
        (went shape (interface-looks.write_retired shape v register x s) s (interface-looks.write_register shape v register x s)) (λ q. tt)
        (λ e. writes c v register x (present looks_up shape v e))

    module _ (v offset : ℕ) (width : AccessWidth) where
      distributor_read : (a : DistributorAccess) → locate_distributor offset width ≡ a → P c (Acts (Looks (Some v))) (distributor-frame.read_distributor_access shape v a width s)
      distributor_read (distributor.Refused r) p = refuses c (Acts (Looks (Some v))) r (may r (omega (arith, refused_access offset width r p))) tt
      distributor_read distributor.PrivateWidth p = private_width_lem (Acts (Looks (Some v))) v tt
      distributor_read (distributor.At place) p =
          let x : ℕ = places.read_place shape v place width s in
          looked c (Acts (Looks (Some v))) (may refusal.Vcpu (omega arith)) (places.read_place_looks_up place.class place.private) v (gave x s) (λ q. tt) (λ e. looks c (Some v) x)

      distributor_write : (a : DistributorAccess) (x : ℕ) → locate_distributor offset width ≡ a → P c (Acts (WritesPlace v a width x)) (distributor-frame.write_distributor_access shape v a width x s)
      distributor_write (distributor.Refused r) x p =
          refuses c (Acts (WritesPlace v (distributor.Refused r) width x)) r (may r (omega (arith, refused_access offset width r p))) tt
      distributor_write distributor.PrivateWidth x p = private_width_lem (Acts (WritesPlace v distributor.PrivateWidth width x)) v tt
      distributor_write (distributor.At place) x p =
          looked c (Acts (WritesPlace v (distributor.At place) width x)) (may refusal.Vcpu (omega arith)) (places.write_place_looks_up place.class place.private x) v
          (went shape 1023 s (places.write_place shape v place width x s)) (λ q. (record { offset = offset; at = p }, q))
          (λ e. places-write c v place width x (place_written v sound (record { offset = offset; at = p }) e))

  input : (c : Call) → listed 8 (refusals c) ≡ true → listed 3 (refusals c) ≡ true → (v n : ℕ) (signal : Signal) (a : Option IntId) → input_of shape n ≡ a → IsInput shape n a
      → P c (Acts (Signals v n signal)) (input_at shape v signal a s)
  input c by_8 by-3 v n signal None p is =
      refuses c (Acts (Signals v n signal)) refusal.Input (record { ordinary = many (omega arith); of_call = by_8 })
      (signal_barred v n signal (λ there past. is there.numbered past))
  input c by_8 by-3 v n signal (Some k) p is =
      looked c (Acts (Signals v n signal)) (record { ordinary = few (omega arith); of_call = by-3 }) (ltb k.0 32) v (went shape 1023 s (changed shape v k.0 (signalled signal) s))
      (λ q. signal_barred v n signal (λ there past. q (λ low. there.banked (rw is.0 at (ltb-true k.0 32 low)))))
      (λ e. rw is.0 (signals c v n signal (subst (RecordThere shape v) is.0 (input_there shape v n k p e)) is.1))

  -- the message frame: what it may be refused by is known of its call, and a window that is none comes first
  module _ (c : Call) (by-11 : listed 11 (refusals c) ≡ true) (may : (r : Refusal) → refusal_number r ≤ 2 → Refusable c (refusal_number r)) (first count : ℕ) where
    on_window_lem : (d : Deed) → Barred shape d → (f : Window → Outcome) → (is_window shape first count ≡ true → P c d (f (window_of first count))) → P c d (on_window (decoded_window shape first count) s f)
    unfolding decoded_window
    on_window_lem d bar f g = go (is_window shape first count) refl
      where
        go : (b : Bool) → is_window shape first count ≡ b → P c d (on_window (cond b (Some (window_of first count)) None) s f)
        go true e = g e
        go false e = refuses c d refusal.Window (record { ordinary = many (omega arith); of_call = by-11 }) bar

    message_read : (a : Result MessageRegister Refusal) → MessagePasses a → P c (Acts (Looks None)) (read_message_access (window_of first count) a s)
    message_read (Err r) p = refuses c (Acts (Looks None)) r (may r p) tt
    message_read (Ok register) p = looks c None (read_message (window_of first count) register)

    message_write : is_window shape first count ≡ true → (a : Result MessageRegister Refusal) (n : ℕ) → MessagePasses a
        → P c (Acts (message_action (window_of first count) a n)) (write_message_access shape (window_of first count) a n s)
    message_write it (Err r) n p = refuses c (Acts (Looks None)) r (may r p) tt
    message_write it (Ok register) n p = go (rings_spi (window_of first count) register n) refl
      where
        go : (b : Bool) → rings_spi (window_of first count) register n ≡ b
            → P c (Acts (cond b (Signals 0 n Edge) (Looks None))) (went shape 1023 s (cond b (changed shape 0 n (signalled Edge) s) s))
        go true e = let spi = rung_spi shape first count it register n e in signals c 0 n Edge (spi.there 0) (omega (arith, spi.from))
        go false e = rw none_wakes_nobody (looks c None 0)

  -- a host's look
  look : (c : Call) → listed 3 (refusals c) ≡ true → (v : ℕ) (looks_up : Bool) (x : ℕ) → P c (Acts (Looks None)) (looked_up looks_up shape v s (gave x s))
  look c by-3 v looks_up x = looked c (Acts (Looks None)) (record { ordinary = few (omega arith); of_call = by-3 }) looks_up v (gave x s) (λ q. tt) (λ e. looks c None x)

  -- a host's save
  saved : (buffer : List ℕ) (b : Bool) → P (Save buffer) (Acts (Looks None)) (cond {A = Saved} b (into_buffer (image shape s) s buffer) (record { outcome = refused refusal.Unlawful s; buffer = buffer })).outcome
  saved buffer true =
      into_cases (image shape s) s buffer (P (Save buffer) (Acts (Looks None))) (looks (Save buffer) None (length (image shape s)))
      (refuses (Save buffer) (Acts (Looks None)) refusal.NoRoom (record { ordinary = many (omega arith); of_call = refl }) tt)
  saved buffer false = refuses (Save buffer) (Acts (Looks None)) refusal.Unlawful (record { ordinary = many (omega arith); of_call = refl }) tt

  pub each_call : (c : Call) → is_start c ≡ false → P c (deed c) (called c s)
  unfolding read_v2_distributor write_v2_distributor read_v2_cpu_interface write_v2_cpu_interface device_input read_v2m write_v2m irq_level interrupt_word save
  each_call (Setup count limit) e = absurd (true≢false e)
  each_call (ReadDistributor v offset width) e = rw h (distributor_read (ReadDistributor v offset width) (access refl) v offset width (locate_distributor offset width) refl)
  each_call (WriteDistributor v offset width value) e =
      rw h (distributor_write (WriteDistributor v offset width value) (access refl) v offset width (locate_distributor offset width) (value % 2 ^ 32) refl)
  each_call (ReadCpuInterface v offset width) e = rw h (interface_read (ReadCpuInterface v offset width) (access refl) (read_by_7 v offset width) v (locate_cpu_interface offset width) (interface_access offset width))
  each_call (WriteCpuInterface v offset width value) e =
      rw h (interface_write (WriteCpuInterface v offset width value) (access refl) v (locate_cpu_interface offset width) (value % 2 ^ 32) (interface_access offset width))
  each_call (SetLevel v n asserted) e = rw h (input (SetLevel v n asserted) refl refl v n (Level asserted) (input_of shape n) refl (input_is shape n))
  each_call (Pulse v n) e = rw h (input (Pulse v n) refl refl v n Edge (input_of shape n) refl (input_is shape n))
  each_call (ReadV2m first count offset width) e =
      let c : Call = ReadV2m first count offset width in
      let by-11 = read_by_11 first count offset width in
      rw h (on_window_lem c by-11 (message_access refl) first count (Acts (Looks None)) tt (λ w. read_message_access w (locate_v2m offset width) s)
      (λ it. message_read c by-11 (message_access refl) first count (locate_v2m offset width) (message_located offset width)))
  each_call (WriteV2m first count offset width value) e =
      let c : Call = WriteV2m first count offset width value in
      let by-11 = written_by_11 first count offset width value in
      let n : ℕ = value % 2 ^ 32 in
      rw h (on_window_lem c by-11 (message_access refl) first count (deed c) (message_barred shape (window_of first count) (locate_v2m offset width) n)
      (λ w. write_message_access shape w (locate_v2m offset width) n s)
      (λ it. message_write c by-11 (message_access refl) first count it (locate_v2m offset width) n (message_located offset width)))
  each_call (IrqLevel v) e = rw h (look (IrqLevel v) refl v true (bit_of (line_level shape v s)))
  each_call (InterruptWord v n) e = rw h (at_number (ltb n shape.limit))
    where
      at_number : (b : Bool) → P (InterruptWord v n) (Acts (Looks None)) (cond b (looked_up (ltb n 32) shape v s (gave (word_of (record_at shape v n s)) s)) (gave 0 s))
      at_number true = look (InterruptWord v n) refl v (ltb n 32) (word_of (record_at shape v n s))
      at_number false = looks (InterruptWord v n) None 0
  each_call (Save buffer) e = subst (λ (l : Option Shape). P (Save buffer) (Acts (Looks None)) (saved_from l s buffer).outcome) (sym h) (saved buffer (is_lawful shape s))
  each_call (Load bytes) e = absurd (true≢false e)

-- words that are no state are refused by 6
pub broken_call : (c : Call) → is_start c ≡ false → (s : List ℕ) → validated s ≡ None → (called c s ≡ refused refusal.BrokenState s) × (listed 6 (refusals c) ≡ true)
unfolding read_v2_distributor write_v2_distributor read_v2_cpu_interface write_v2_cpu_interface device_input read_v2m write_v2m irq_level interrupt_word save
broken_call (Setup count limit) e s p = absurd (true≢false e)
broken_call (ReadDistributor v offset width) e s p = (rw p refl, refl)
broken_call (WriteDistributor v offset width value) e s p = (rw p refl, refl)
broken_call (ReadCpuInterface v offset width) e s p = (rw p refl, refl)
broken_call (WriteCpuInterface v offset width value) e s p = (rw p refl, refl)
broken_call (SetLevel v n asserted) e s p = (rw p refl, refl)
broken_call (Pulse v n) e s p = (rw p refl, refl)
broken_call (ReadV2m first count offset width) e s p = (rw p refl, refl)
broken_call (WriteV2m first count offset width value) e s p = (rw p refl, refl)
broken_call (IrqLevel v) e s p = (rw p refl, refl)
broken_call (InterruptWord v n) e s p = (rw p refl, refl)
broken_call (Save buffer) e s p = (ap (λ (l : Option Shape). (saved_from l s buffer).outcome) p, refl)
broken_call (Load bytes) e s p = absurd (true≢false e)

-- to any words at all
pub any_words : (s : List ℕ) (P : Call → Outcome → Type 0) → ((c : Call) → listed 6 (refusals c) ≡ true → P c (refused refusal.BrokenState s))
    → ((shape : Shape) → validated s ≡ Some shape → (c : Call) → is_start c ≡ false → P c (called c s)) → (c : Call) → is_start c ≡ false → P c (called c s)
any_words s P breaks holds c e = go (validated s) refl
  where
    go : (l : Option Shape) → validated s ≡ l → P c (called c s)
    go None p = let by_6 = broken_call c e s p in subst (P c) (sym by_6.0) (breaks c by_6.1)
    go (Some shape) p = holds shape p c e
