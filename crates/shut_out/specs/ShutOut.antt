-- What the promises of the public calls shut out: document 01, "What the promises have to hold": "Demand 2, whose calls demand 3 speaks of,
-- shuts out a controller that refuses everything, one that reads 1023 or 0 everywhere, one that ignores writes, and one that acknowledges the
-- first interrupt properly and answers 1023 ever after". A fifth is what document 02, Two, puts an end to: one that "keeps BPR for show". Each
-- kind is as wide as these words allow, so that the theorems shut out the most.
use Rattle.std.specs.Prelude.{◌≡◌, Bool, true, false, not, ◌&&◌, List, [], ◌∷◌, ◌⊎◌, ℕ, ◌^◌, eqb, ltb}
use Rattle.register.specs.declared.frame.AccessWidth.{AccessWidth}
use Rattle.register.specs.declared.frame.AccessWidth.TheVariants.{Dword}
use Rattle.answer.specs.Answer.{Outcome}
use Rattle.history.specs.History.{Call, Setup, ReadDistributor, WriteDistributor, ReadCpuInterface, WriteCpuInterface, SetLevel, Pulse, ReadV2m, WriteV2m, IrqLevel, InterruptWord, Save, Load, call_numbers, is_start, called, no_start, iar_read}

-- some controller: what it does with a call and lent words
abbrev pub Behaviour : Type 0
Behaviour = Call → List ℕ → Outcome

abbrev pub all_below : ℕ → List ℕ → Bool
all_below bound [] = true
all_below bound (x ∷ xs) = ltb x bound && all_below bound xs

-- document 01's calls: it has no look by a host, no save and no load
abbrev pub in_scope : Call → Bool
in_scope (Setup count limit) = true
in_scope (ReadDistributor v offset width) = true
in_scope (WriteDistributor v offset width value) = true
in_scope (ReadCpuInterface v offset width) = true
in_scope (WriteCpuInterface v offset width value) = true
in_scope (SetLevel v n asserted) = true
in_scope (Pulse v n) = true
in_scope (ReadV2m first count offset width) = false
in_scope (WriteV2m first count offset width value) = false
in_scope (IrqLevel v) = false
in_scope (InterruptWord v n) = false
in_scope (Save buffer) = false
in_scope (Load bytes) = false

abbrev pub all_in_scope : List Call → Bool
all_in_scope [] = true
all_in_scope (c ∷ cs) = in_scope c && all_in_scope cs

-- a promise speaks of what the types of its call admit: numbers of 64 bits, words of 32
abbrev pub admitted : Call → List ℕ → Bool
admitted c s = in_scope c && all_below (2 ^ 64) (call_numbers c) && all_below (2 ^ 32) s

-- it keeps the promises
abbrev pub KeepsPromises : Behaviour → Type 0
KeepsPromises f = (c : Call) (s : List ℕ) → admitted c s ≡ true → f c s ≡ called c s

-- the words that it leaves, call after call
unfoldable pub behaved : Behaviour → List Call → List ℕ → List ℕ
behaved f [] s = s
behaved f (c ∷ cs) s = behaved f cs (f c s).state

-- a history: a setup in lent words, and calls after it
pub record History : Type 0 where
  pub count : ℕ
  pub limit : ℕ
  pub lent : List ℕ
  pub calls : List Call
  pub in_scope : all_in_scope calls ≡ true

abbrev pub words_after : Behaviour → History → List ℕ
words_after f h = behaved f (Setup h.count h.limit ∷ h.calls) h.lent

-- an access to either frame
pub data Frame : Type 0 where
  Distributor : Frame
  CpuInterface : Frame

pub record Access : Type 0 where
  pub vcpu : ℕ
  pub offset : ℕ
  pub width : AccessWidth

abbrev pub read_call : Frame → Access → Call
read_call Distributor a = ReadDistributor a.vcpu a.offset a.width
read_call CpuInterface a = ReadCpuInterface a.vcpu a.offset a.width

abbrev pub write_call : Frame → Access → ℕ → Call
write_call Distributor a value = WriteDistributor a.vcpu a.offset a.width value
write_call CpuInterface a value = WriteCpuInterface a.vcpu a.offset a.width value

-- "refuses everything": it may accept setups
abbrev pub Refuser : Behaviour → Type 0
Refuser f = (h : History) (c : Call) → in_scope c ≡ true → is_start c ≡ false → (f c (words_after f h)).refusal ≡ 0 → ⊥

-- "reads 1023 or 0 everywhere": one frame is enough
abbrev pub ReadsNothing : Frame → Behaviour → Type 0
ReadsNothing frame f = (h : History) (a : Access) → let value : ℕ = (f (read_call frame a) (words_after f h)).value in (value ≡ 0) ⊎ (value ≡ 1023)

-- "ignores writes": in one frame a read has the same value after a write as without it, whatever becomes of the words
abbrev pub IgnoresWrites : Frame → Behaviour → Type 0
IgnoresWrites frame f =
    (h : History) (a b : Access) (value : ℕ)
    → (f (read_call frame b) (f (write_call frame a value) (words_after f h)).state).value
    ≡ (f (read_call frame b) (words_after f h)).value

-- an acknowledge is a read of IAR, and gives an interrupt if it is not refused and is not 1023
abbrev pub gave_number : Outcome → Bool
gave_number o = eqb o.refusal 0 && not (eqb o.value 1023)

-- "acknowledges the first interrupt properly and answers 1023 ever after": a vCPU that was given one is given none until a setup
abbrev pub OneShot : Behaviour → Type 0
OneShot f =
    (h : History) (v : ℕ) (later : List Call)
    → let first : Outcome = f (iar_read v) (words_after f h) in gave_number first ≡ true
    → all_in_scope later ≡ true
    → no_start later ≡ true
    → gave_number (f (iar_read v) (behaved f later first.state)) ≡ false

-- "keeps BPR for show": an acknowledge answers the same after a write to BPR as without it
abbrev pub PointForShow : Behaviour → Type 0
PointForShow f =
    (h : History) (v value : ℕ)
    → (f (iar_read v) (f (WriteCpuInterface v 0x08 Dword value) (words_after f h)).state).value
    ≡ (f (iar_read v) (words_after f h)).value
