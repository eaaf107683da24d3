-- The cases that document 01, "Corner list", marks P, as rows of calls and their answers, each case from its own setup in words that were 0.
use Rattle.std.specs.Prelude.{Bool, true, ◌&&◌, List, [], ◌∷◌, ℕ, zero, suc, ◌^◌, ◌-◌, eqb}
use Rattle.register.specs.declared.frame.AccessWidth.{AccessWidth}
use Rattle.register.specs.declared.frame.AccessWidth.TheVariants.{Byte, Word, Dword, Qword}
use Rattle.state.specs.Layout.{largest_size}
use Rattle.answer.specs.Answer.{Outcome}
use Rattle.history.specs.History.{Call, Setup, ReadDistributor, WriteDistributor, ReadCpuInterface, WriteCpuInterface, called}

-- a call and its answer: refusal, value, wake set, retired number
pub record Row : Type 0 where
  pub call : Call
  pub refusal : ℕ
  pub value : ℕ
  pub wake : ℕ
  pub retired : ℕ

abbrev pub row_matches : Row → Outcome → Bool
row_matches r o = eqb r.refusal o.refusal && eqb r.value o.value && eqb r.wake o.wake && eqb r.retired o.retired

unfoldable pub right : List Row → List ℕ → Bool
right [] s = true
right (r ∷ rs) s = let o : Outcome = called r.call s in row_matches r o && right rs o.state

unfoldable pub zeros : ℕ → List ℕ
zeros zero = []
zeros (suc n) = 0 ∷ zeros n

-- a case: a fresh controller, and calls to it
pub record Case : Type 0 where
  pub count : ℕ
  pub limit : ℕ
  pub rows : List Row

abbrev pub row : Call → ℕ → ℕ → ℕ → ℕ → Row
row call refusal value wake retired = record { call = call; refusal = refusal; value = value; wake = wake; retired = retired }

abbrev pub setup_row : Case → Row
setup_row c = row (Setup c.count c.limit) 0 0 0 1023

-- each in as many words as any state takes
abbrev pub lent_words : List ℕ
lent_words = zeros largest_size

abbrev pub case_right : Case → Bool
case_right c = right (setup_row c ∷ c.rows) lent_words

unfoldable pub all_right : List Case → Bool
all_right [] = true
all_right (c ∷ cs) = case_right c && all_right cs

abbrev of : ℕ → ℕ → List Row → Case
of count limit rows = record { count = count; limit = limit; rows = rows }

-- a Distributor read that gives a value, and one that is refused
abbrev d : ℕ → ℕ → AccessWidth → ℕ → Row
d v offset width value = row (ReadDistributor v offset width) 0 value 0 1023

abbrev refuses : ℕ → AccessWidth → ℕ → Row
refuses offset width refusal = row (ReadDistributor 0 offset width) refusal 0 0 1023

-- a Distributor write and whom it wakes
abbrev D : ℕ → ℕ → AccessWidth → ℕ → ℕ → Row
D v offset width value wake = row (WriteDistributor v offset width value) 0 0 wake 1023

abbrev c : ℕ → ℕ → ℕ → Row
c v offset value = row (ReadCpuInterface v offset Dword) 0 value 0 1023

abbrev C : ℕ → ℕ → ℕ → ℕ → ℕ → Row
C v offset value wake retired = row (WriteCpuInterface v offset Dword value) 0 0 wake retired

unfoldable pub corners : List Case
corners =
    -- "TYPER: count 4, limit 64: 0x61. P 8, 1020: 0xFF. P 1, 32: 0"
    of 4 64 (d 0 0x004 Dword 0x61 ∷ [])
    ∷ of 8 1020 (d 0 0x004 Dword 0xff ∷ [])
    ∷ of 1 32 (d 0 0x004 Dword 0 ∷ [])
    -- "Count 4, read 0x81C, width 4: vCPU 2 gives 0x04040404, P vCPU 7 0x80808080, P vCPU 8 0"
    ∷ of 4 64 (d 2 0x81c Dword 0x04040404 ∷ d 7 0x81c Dword 0x80808080 ∷ d 8 0x81c Dword 0 ∷ [])
    -- "Count 4, limit 34: writing 0xFFFF01F0 at 0x820 reads back 0x00000100"
    ∷ of 4 34 (D 0 0x820 Dword 0xffff01f0 0 ∷ d 0 0x820 Dword 0x00000100 ∷ [])
    -- "Refusals of Distributor reads: offset 2^64-1, width 1: 1. 0x801, width 2: 1. 0xFFF, width 1: 0. 0x1000: 1"
    ∷ of 1 32
    (refuses (2 ^ 64 - 1) Byte 1
    ∷ refuses 0x801 Word 1
    ∷ refuses 0xfff Byte 0
    ∷ refuses 0x1000 Byte 1
    ∷ refuses 0x1000 Word 1
    ∷ refuses 0x1000 Dword 1
    ∷ refuses 0x1000 Qword 1
    ∷ [])
    -- "vCPUs 0 and 1 send SGI 3 to vCPU 2: IAR 3, then 1023; after EOIR 3, IAR 0x403"
    ∷ of 3 32
    (D 0 0x000 Dword 1 0
    ∷ C 2 0x00 1 0 1023
    ∷ C 2 0x04 255 0 1023
    ∷ D 0 0xf00 Dword 0x00040003 4
    ∷ D 1 0xf00 Dword 0x00040003 0
    ∷ c 2 0x0c 3
    ∷ c 2 0x0c 1023
    ∷ C 2 0x10 3 4 3
    ∷ c 2 0x0c 0x403
    ∷ [])
    -- "PMR 0x80: .. P 0x7F is [offered]": SGI 5, since what always reads 0 would name SGI 0
    ∷ of 1 32
    (D 0 0x000 Dword 1 0
    ∷ C 0 0x00 1 0 1023
    ∷ C 0 0x04 0x80 0 1023
    ∷ D 0 0x405 Byte 0x7f 0
    ∷ D 0 0xf00 Dword 0x02000005 1
    ∷ c 0 0x18 5
    ∷ c 0 0x0c 5
    ∷ [])
    -- "Running 0x80, pending 0x80: IAR 1023, HPPIR names it": the pending number is the smaller, which does not help it
    ∷ of 1 32
    (D 0 0x000 Dword 1 0
    ∷ C 0 0x00 1 0 1023
    ∷ C 0 0x04 255 0 1023
    ∷ D 0 0x406 Word 0x8080 0
    ∷ D 0 0xf00 Dword 0x02000007 1
    ∷ c 0 0x0c 7
    ∷ c 0 0x14 0x80
    ∷ D 0 0xf00 Dword 0x02000006 0
    ∷ c 0 0x0c 1023
    ∷ c 0 0x18 6
    ∷ [])
    ∷ []
