-- Who keeps the promises is of none of the five kinds: for each kind a history, computed, that it does not answer so; of the last two kinds
-- the theorems stand in TwoKinds.antt. Assumes nothing.
use mathlib.Core.Path.{◌≡◌, refl, sym, ap, ◌∙◌}
use mathlib.Core.Bool.{Bool, true, ◌&&◌}
use mathlib.Core.List.{List, [], ◌∷◌}
use mathlib.Core.Logic.{◌⊎◌, inl, inr}
use Prim.Native.Nat.{ℕ}
use native.Mathlib.Omega.{arith}
use Rattle.register.specs.declared.frame.AccessWidth.TheVariants.{Dword}
use Rattle.state.specs.Layout.{size}
use Rattle.state.specs.Lent.{shaped}
use Rattle.state.proofs.Tests.{left_true, right_true}
use Rattle.answer.specs.Answer.{Outcome, gave}
use Rattle.history.specs.History.{Call, Setup, ReadDistributor, WriteDistributor, WriteCpuInterface, called, iar_read}
use Rattle.corners.specs.Corners.{zeros}
use Rattle.corners.proofs.Started.{started, setup_started, computing}
use Rattle.shut_out.specs.ShutOut.{Behaviour, all_in_scope, admitted, KeepsPromises, behaved, History, words_after, Frame, Distributor, CpuInterface, Access, read_call, write_call, Refuser, ReadsNothing, IgnoresWrites, gave_number}

-- the calls of a row and then one more are such as the types admit
abbrev pub all_admitted : List Call → Call → List ℕ → Bool
all_admitted [] c s = admitted c s
all_admitted (d ∷ cs) c s = admitted d s && all_admitted cs c (called d s).state

-- who keeps the promises answers that one as they say
pub promised : (f : Behaviour) → KeepsPromises f → (cs : List Call) (c : Call) (s : List ℕ) → all_admitted cs c s ≡ true → f c (behaved f cs s) ≡ called c (behaved called cs s)
unfolding behaved
promised f m [] c s p = m c s p
promised f m (d ∷ cs) c s p =
    let rest : Bool = all_admitted cs c (called d s).state in
    rw (m d s (left_true (admitted d s) rest p)) (promised f m cs c (called d s).state (right_true (admitted d s) rest p))

-- one vCPU and no SPI, in words that were 0 and are just enough
abbrev pub words : List ℕ
words = zeros (size (shaped 1 32))

abbrev pub history : (cs : List Call) → all_in_scope cs ≡ true → History
history cs p = record { count = 1; limit = 32; lent = words; calls = cs; in_scope = p }

abbrev pub begun : List ℕ
begun = started (shaped 1 32) words

set_up : (f : Behaviour) → KeepsPromises f → f (Setup 1 32) words ≡ gave 0 begun
unfolding zeros
set_up f m = m (Setup 1 32) words refl ∙ setup_started 1 32 words refl refl

pub from_setup : (f : Behaviour) → KeepsPromises f → (cs : List Call) (within : all_in_scope cs ≡ true) (c : Call) → all_admitted cs c begun ≡ true
    → f c (words_after f (history cs within)) ≡ called c (behaved called cs begun)
unfolding behaved
from_setup f m cs within c p = rw (set_up f m) (promised f m cs c begun p)

typer : Call
typer = ReadDistributor 0 0x004 Dword

pub no_refuser : (f : Behaviour) → KeepsPromises f → Refuser f → ⊥
unfolding behaved typer zeros computing
no_refuser f m k = k (history [] refl) typer refl refl (ap (λ (o : Outcome). o.refusal) (from_setup f m [] refl typer refl))

-- CTLR of either frame, which keeps a 1
control : Access
control = record { vcpu = 0; offset = 0; width = Dword }

abbrev switch : Frame → List Call
switch frame = write_call frame control 1 ∷ []

switch_in_scope : (frame : Frame) → all_in_scope (switch frame) ≡ true
switch_in_scope Distributor = refl
switch_in_scope CpuInterface = refl

kept : (f : Behaviour) → KeepsPromises f → (frame : Frame) → (f (read_call frame control) (words_after f (history (switch frame) (switch_in_scope frame)))).value ≡ 1
unfolding behaved control zeros computing
kept f m Distributor = ap (λ (o : Outcome). o.value) (from_setup f m (switch Distributor) (switch_in_scope Distributor) (read_call Distributor control) refl)
kept f m CpuInterface = ap (λ (o : Outcome). o.value) (from_setup f m (switch CpuInterface) (switch_in_scope CpuInterface) (read_call CpuInterface control) refl)

cleared : (f : Behaviour) → KeepsPromises f → (frame : Frame) → (f (read_call frame control) (words_after f (history [] refl))).value ≡ 0
unfolding behaved control zeros computing
cleared f m Distributor = ap (λ (o : Outcome). o.value) (from_setup f m [] refl (read_call Distributor control) refl)
cleared f m CpuInterface = ap (λ (o : Outcome). o.value) (from_setup f m [] refl (read_call CpuInterface control) refl)

neither : (x : ℕ) → x ≡ 1 → (x ≡ 0) ⊎ (x ≡ 1023) → ⊥
neither x p (inl e) = omega (arith, p, e)
neither x p (inr e) = omega (arith, p, e)

pub no_constant_reader : (frame : Frame) (f : Behaviour) → KeepsPromises f → ReadsNothing frame f → ⊥
no_constant_reader frame f m k = neither _ (kept f m frame) (k (history (switch frame) (switch_in_scope frame)) control)

pub no_deaf_controller : (frame : Frame) (f : Behaviour) → KeepsPromises f → IgnoresWrites frame f → ⊥
unfolding behaved
no_deaf_controller frame f m k = differ (sym (kept f m frame) ∙ k (history [] refl) control control 1 ∙ cleared f m frame)
  where
    differ : ◌≡◌ {A = ℕ} 1 0 → ⊥
    differ e = omega (arith, e)

-- both CTLRs and PMR are written and SGI 5 is rung; it is given; it is ended and rung again; it is given again
unfoldable pub ring : Call
ring = WriteDistributor 0 0xf00 Dword 0x02000005

unfoldable pub before : List Call
before =
    WriteDistributor 0 0x000 Dword 1
    ∷ WriteCpuInterface 0 0x00 Dword 1
    ∷ WriteCpuInterface 0 0x04 Dword 255
    ∷ ring
    ∷ []

unfoldable pub between : List Call
between = WriteCpuInterface 0 0x10 Dword 5 ∷ ring ∷ []

abbrev pub first : Outcome
first = called (iar_read 0) (behaved called before begun)

abbrev pub second : Outcome
second = called (iar_read 0) (behaved called between first.state)

pub first_given : gave_number first ≡ true
unfolding behaved ring before zeros computing
first_given = refl

pub second_given : gave_number second ≡ true
unfolding behaved ring before between zeros computing
second_given = refl

-- SGI 5 of priority 4 is served, and SGI 6 of priority 5 waits: by binary point 0 they are of one group, by 2 the group of SGI 6 is 0
unfoldable pub serving : List Call
serving =
    WriteDistributor 0 0x000 Dword 1
    ∷ WriteCpuInterface 0 0x00 Dword 1
    ∷ WriteCpuInterface 0 0x04 Dword 255
    ∷ WriteDistributor 0 0x404 Dword 0x00050400
    ∷ ring
    ∷ iar_read 0
    ∷ WriteDistributor 0 0xf00 Dword 0x02000006
    ∷ []

unfoldable pub set_point : Call
set_point = WriteCpuInterface 0 0x08 Dword 2

pub given_by_2 : (called (iar_read 0) (called set_point (behaved called serving begun)).state).value ≡ 6
unfolding behaved ring serving set_point zeros computing
given_by_2 = refl

pub waits_by_0 : (called (iar_read 0) (behaved called serving begun)).value ≡ 1023
unfolding behaved ring serving zeros computing
waits_by_0 = refl

-- and the write itself wakes
a_bpr_write_wakes : (called set_point (behaved called serving begun)).wake ≡ 1
unfolding behaved ring serving set_point zeros computing
a_bpr_write_wakes = refl
