-- How `highest_pending` goes about it: of a run of records the least key, where a key is the priority with the number below it; of the SPIs only
-- those whose bit is set, word by word of the summary. A reader need not believe any of it; the promise is in Select.antt.
use Rattle.std.specs.Prelude.{Bool, true, false, cond, List, [], ◌∷◌, ◌⊎◌, ◌≡◌, ℕ, zero, suc, ◌+◌, ◌*◌, ◌/◌, ◌%◌, ◌^◌, ◌≤◌, ◌<◌, eqb, ltb, length, get_or, Option, Some, None}
use Rattle.std.specs.Int.Bits.{bit_and}
use Rattle.word.specs.Word.{bit_of, flag}
use Rattle.state.specs.declared.layout.Shape.{Shape}
use Rattle.state.specs.declared.layout.InterfaceValue.TheVariants.{PriorityMask}
use Rattle.state.specs.Words.{ready_bit, interface_at}
use Rattle.select.specs.declared.WordTest.{WordTest}
use Rattle.select.specs.Select.{Looked}
use Rattle.select.specs.declared.Candidate.{Candidate}

-- a bit of a word, and how it is wanted
pub record WantedBit : Type 0 where
  pub place : ℕ
  pub set : Bool

abbrev pub want : ℕ → Bool → WantedBit
want i b = record { place = i; set = b }

-- of a private record, from the highest: not active, pending, enabled
abbrev pub private_bits : List WantedBit
private_bits = want 2 false ∷ want 1 true ∷ want 0 true ∷ []

-- of an SPI for the vCPU v: v in its mask, and the mask set; that it is ready its bit of the summary says
abbrev pub spi_bits : ℕ → List WantedBit
spi_bits v = want (16 + v) true ∷ want 7 true ∷ []

-- the test of a word that asks for them all at once
abbrev pub care_of : List WantedBit → ℕ
care_of [] = 0
care_of (b ∷ bs) = 1 * 2 ^ b.place + care_of bs

abbrev pub wanted_of : List WantedBit → ℕ
wanted_of [] = 0
wanted_of (b ∷ bs) = bit_of b.set * 2 ^ b.place + wanted_of bs

abbrev pub test_of : List WantedBit → WordTest
test_of bs = record { care = care_of bs; wanted = wanted_of bs }

abbrev pub ready_word : WordTest → ℕ → Bool
ready_word test w = eqb (bit_and w test.care) test.wanted

-- the key of a selection, `none` where there is none
abbrev pub key_of : ℕ → Option Candidate → ℕ
key_of none None = none
key_of none (Some c) = 1024 * c.priority.0 + c.intid.0

-- and back
abbrev pub selected_by : ℕ → ℕ → Option Candidate
selected_by none key = cond (ltb key none) (Some (record { intid = record { 0 = key % 1024 }; priority = record { 0 = key / 1024 } })) None

abbrev pub least : ℕ → ℕ → ℕ
least a b = cond (ltb a b) a b

-- one record more: the word w of the number n
abbrev pub with_word : WordTest → ℕ → ℕ → ℕ → ℕ
with_word test n w so_far = cond (ready_word test w) (least (1024 * (w / 256 % 256) + n) so_far) so_far

-- the least of `start` and the keys of those of the i numbers from `first` up that are asked
unfoldable pub least_key : (ℕ → Bool) → WordTest → ℕ → ℕ → List ℕ → ℕ → ℕ → ℕ
least_key asked test offset first s start zero = start
least_key asked test offset first s start (suc i) =
    cond (asked (first + i)) (with_word test (first + i) (get_or s (offset + (first + i)) 0) (least_key asked test offset first s start i)) (least_key asked test offset first s start i)

-- of the private records every one, of the SPIs those whose bit is set
abbrev pub every_number : ℕ → Bool
every_number n = true

abbrev pub bit_is_set : Shape → List ℕ → ℕ → Bool
bit_is_set shape s n = ready_bit shape n s

-- the step f at each set bit of x below k, the lowest first
unfoldable pub bits_walked : (ℕ → ℕ → ℕ) → ℕ → ℕ → ℕ → ℕ
bits_walked f x a zero = a
bits_walked f x a (suc i) = cond (flag i x) (f i (bits_walked f x a i)) (bits_walked f x a i)

-- one number more, if it is below the limit: the last word of the summary has bits to spare
abbrev pub with_spi : WordTest → ℕ → ℕ → List ℕ → ℕ → ℕ → ℕ
with_spi test offset limit s n so_far = cond (ltb n limit) (with_word test n (get_or s (offset + n) 0) so_far) so_far

-- the 32 numbers from `first` up, whose word of the summary is x
abbrev pub with_summary_word : WordTest → ℕ → ℕ → List ℕ → ℕ → ℕ → ℕ → ℕ
with_summary_word test offset limit s first x start = bits_walked (λ i. with_spi test offset limit s (first + i)) x start 32

-- a search that may stop early: r is the least key, or else both are low enough
abbrev pub LowEnough : ℕ → ℕ → ℕ → Type 0
LowEnough enough least-key r = (r ≡ least-key) ⊎ ((r < enough) × (least-key < enough))

-- a selection of a priority below b
abbrev pub urgent : ℕ → Option Candidate → Bool
urgent b None = false
urgent b (Some c) = ltb c.priority.0 b

-- the words hold a state with this vCPU, and `none` is the key where its mask begins
pub record Sought (shape : Shape) (v none : ℕ) (s : List ℕ) : Type 0 where
  pub looked : Looked shape v s
  pub masked : none ≡ 1024 * interface_at shape v PriorityMask s

-- records of the numbers below the limit
pub record NumbersAt (offset limit : ℕ) (s : List ℕ) : Type 0 where
  pub numbers : limit ≤ 1020
  pub inside : offset + limit ≤ length s

pub record KeyRun (offset first end : ℕ) (s : List ℕ) : Type 0 where
  pub order : first ≤ end
  pub numbers : end ≤ 1020
  pub inside : offset + end ≤ length s
