-- What writing a slot does to the bits of the SPIs: with a record its own is set anew, and every other stays. So the summary stays exact whatever is
-- written, and two slots may be written in either order. Assumes nothing.
use Rattle.std.specs.Prelude.{Option, None, Some}
use mathlib.Core.Path.{◌≡◌, refl, sym, ap, ◌∙◌, subst}
use mathlib.Core.Bool.{Bool, true, true≢false}
use mathlib.Core.List.{List}
use Prim.Native.Nat.{ℕ, ◌≤◌, ◌<◌, ◌^◌}
use native.Mathlib.Omega.{arith}
use lib.ListN.{length, get_or, set, length-set}
use lib.Seq.{get_or-set_other, set-set, set_comm}
use Rattle.interrupt.specs.Record.{is_ready}
use Rattle.word.specs.Word.{record_of}
use Rattle.state.specs.declared.layout.Shape.{Shape}
use Rattle.state.specs.Layout.{Slot, Spi, summary_place, stack_start, in_summary, place, Exists, Room, spi_of}
use Rattle.state.specs.Words.{word_at, put, ready_bit, summed, spis_in, Exact}
use Rattle.state.proofs.Accessors.{put_room, put_same, put_other, same_or_other}
use Rattle.state.proofs.Places.{place_apart, off_summary, bit_in_summary, spi_slot}
use Rattle.state.proofs.Summary.{SpiThere, spi_there, summed_set, ready_same, ready_other, ready_again, ready_spared, ready_comm}

-- of one SPI
abbrev pub ExactAt : Shape → ℕ → List ℕ → Type 0
ExactAt shape n s = ready_bit shape n s ≡ is_ready (record_of (word_at shape (Spi n) s))

module _ (shape : Shape) (s : List ℕ) (h : Room shape s) where
  written_long : (t : Slot) (w : ℕ) → stack_start shape ≤ length (set s (place shape t) w)
  written_long t w = rw (length-set s (place shape t) w) (let r = h.room in omega arith)

  -- a place in the summary is no slot's
  in_summary_apart : (t : Slot) (k : ℕ) → Exists shape t → in_summary shape k ≡ true → k ≡ place shape t → ⊥
  in_summary_apart t k e on p = true≢false (sym on ∙ ap (in_summary shape) p ∙ off_summary shape t e)

  -- a word at a slot, before its bit
  bit_stays : (n : ℕ) (t : Slot) (w : ℕ) → Exists shape (Spi n) → Exists shape t → ready_bit shape n (set s (place shape t) w) ≡ ready_bit shape n s
  unfolding ready_bit
  bit_stays n t w en et = rw (get_or-set_other s (place shape t) (summary_place shape n) w 0 (in_summary_apart t (summary_place shape n) et (bit_in_summary shape n en)))

  -- the record's own bit
  pub put_ready : (n w : ℕ) → Exists shape (Spi n) → ready_bit shape n (put shape (Spi n) w s) ≡ is_ready (record_of w)
  put_ready n w e = ready_same shape n (is_ready (record_of w)) (set s (place shape (Spi n)) w) e (written_long (Spi n) w)

  -- every other
  pub put_ready_other : (n : ℕ) (t : Slot) (w : ℕ) → Exists shape (Spi n) → Exists shape t → (Spi n ≡ t → ⊥) → ready_bit shape n (put shape t w s) ≡ ready_bit shape n s
  put_ready_other n t w en et apart = go (spi_of t) refl (spi_there shape t et) ∙ bit_stays n t w en et
    where
      go : (o : Option ℕ) → spi_of t ≡ o → SpiThere shape o → ready_bit shape n (summed shape o w (set s (place shape t) w)) ≡ ready_bit shape n (set s (place shape t) w)
      go None e there = refl
      go (Some m) e there =
          ready_other shape m (is_ready (record_of w)) (set s (place shape t) w) there (written_long t w) n en (λ p. apart (ap Spi p ∙ sym (spi_slot t m e)))

  -- so a bit that says what its record does goes on saying so, whatever is written; and with the record it is made to
  pub put_makes_exact : (n w : ℕ) → Exists shape (Spi n) → ExactAt shape n (put shape (Spi n) w s)
  put_makes_exact n w e = put_ready n w e ∙ ap (λ (y : ℕ). is_ready (record_of y)) (sym (put_same shape s (Spi n) w h e))

  pub put_exact_at : (n : ℕ) (t : Slot) (w : ℕ) → Exists shape (Spi n) → Exists shape t → ExactAt shape n s → ExactAt shape n (put shape t w s)
  put_exact_at n t w en et x =
      same_or_other shape s (Spi n) t en et
      (λ p. subst (λ (u : Slot). ExactAt shape n (put shape u w s)) p (put_makes_exact n w en))
      (λ apart. put_ready_other n t w en et apart ∙ x ∙ ap (λ (y : ℕ). is_ready (record_of y)) (sym (put_other shape s (Spi n) t w en et apart)))

  pub put_exact : (t : Slot) (w : ℕ) → Exists shape t → Exact shape s → Exact shape (put shape t w s)
  put_exact t w et x = record { exact = λ n en. put_exact_at n t w en et (x.exact n en) }

  -- bits that are of no SPI stay 0
  pub put_spared : (t : Slot) (w k : ℕ) → Exists shape t → in_summary shape k ≡ true → get_or s k 0 < 2 ^ spis_in shape k → get_or (put shape t w s) k 0 < 2 ^ spis_in shape k
  put_spared t w k et on b = go (spi_of t) (spi_there shape t et)
    where
      stays : get_or (set s (place shape t) w) k 0 < 2 ^ spis_in shape k
      stays = rw (get_or-set_other s (place shape t) k w 0 (in_summary_apart t k et on)) b

      go : (o : Option ℕ) → SpiThere shape o → get_or (summed shape o w (set s (place shape t) w)) k 0 < 2 ^ spis_in shape k
      go None there = stays
      go (Some n) there = ready_spared shape n (is_ready (record_of w)) (set s (place shape t) w) there (written_long t w) k stays

  -- the later of two counts, and at two slots the order does not
  pub put_put : (t : Slot) (w x : ℕ) → Exists shape t → put shape t x (put shape t w s) ≡ put shape t x s
  put_put t w x e = go (spi_of t) (spi_there shape t e)
    where
      k : ℕ
      k = place shape t

      again : (o : Option ℕ) → SpiThere shape o → summed shape o x (summed shape o w (set s k x)) ≡ summed shape o x (set s k x)
      again None there = refl
      again (Some n) there = ready_again shape n (is_ready (record_of w)) (set s k x) there (written_long t x) (is_ready (record_of x))

      go : (o : Option ℕ) → SpiThere shape o → summed shape o x (set (summed shape o w (set s k w)) k x) ≡ summed shape o x (set s k x)
      go o there =
          ap (summed shape o x) (sym (summed_set shape o w (set s k w) k x there (off_summary shape t e)) ∙ ap (summed shape o w) (set-set s k w x))
          ∙ again o there

  pub put_comm : (t u : Slot) (w x : ℕ) → Exists shape t → Exists shape u → (t ≡ u → ⊥) → put shape u x (put shape t w s) ≡ put shape t w (put shape u x s)
  put_comm t u w x et eu apart = go (spi_of t) (spi_of u) refl refl (spi_there shape t et) (spi_there shape u eu)
    where
      k : ℕ
      k = place shape t

      l : ℕ
      l = place shape u

      both : List ℕ
      both = set (set s k w) l x

      long : stack_start shape ≤ length both
      long = rw (length-set (set s k w) l x) (written_long t w)

      bits : (o p : Option ℕ) → spi_of t ≡ o → spi_of u ≡ p → SpiThere shape o → SpiThere shape p → summed shape p x (summed shape o w both) ≡ summed shape o w (summed shape p x both)
      bits None p e f a b = refl
      bits (Some n) None e f a b = refl
      bits (Some n) (Some m) e f a b =
          ready_comm shape m n (is_ready (record_of x)) (is_ready (record_of w)) both b a (λ q. apart (spi_slot t n e ∙ ap Spi (sym q) ∙ sym (spi_slot u m f))) long

      go : (o p : Option ℕ) → spi_of t ≡ o → spi_of u ≡ p → SpiThere shape o → SpiThere shape p
          → summed shape p x (set (summed shape o w (set s k w)) l x) ≡ summed shape o w (set (summed shape p x (set s l x)) k w)
      go o p e f a b =
          ap (summed shape p x) (sym (summed_set shape o w (set s k w) l x a (off_summary shape u eu)))
          ∙ bits o p e f a b
          ∙ ap (λ (r : List ℕ). summed shape o w (summed shape p x r)) (set_comm s k l w x (λ q. apart (place_apart shape t u et eu q)))
          ∙ ap (summed shape o w) (summed_set shape p x (set s l x) k w b (off_summary shape t et))

-- what every write of one of these slots keeps, and so whatever is done by such writes
abbrev pub PutKeeps : Shape → (Slot → Type 0) → (List ℕ → Type 0) → Type 0
PutKeeps shape Mine P = (t : Slot) (w : ℕ) (s : List ℕ) → Exists shape t → Mine t → P s → P (put shape t w s)

abbrev pub Anywhere : Slot → Type 0
Anywhere t = Unit

pub room_kept : (shape : Shape) (Mine : Slot → Type 0) → PutKeeps shape Mine (Room shape)
room_kept shape Mine t w s e m h = put_room shape s t w h

-- a state with an exact summary
abbrev pub Summed : Shape → List ℕ → Type 0
Summed shape s = Room shape s × Exact shape s

pub summed_kept : (shape : Shape) (Mine : Slot → Type 0) → PutKeeps shape Mine (Summed shape)
summed_kept shape Mine t w s e m h = (put_room shape s t w h.0, put_exact shape s h.0 t w e h.1)

-- a bit whose record is not among them
abbrev pub WithBit : Shape → ℕ → Bool → List ℕ → Type 0
WithBit shape n b s = Room shape s × (ready_bit shape n s ≡ b)

pub bit_kept : (shape : Shape) (Mine : Slot → Type 0) (n : ℕ) (b : Bool) → Exists shape (Spi n) → ((t : Slot) → Mine t → Spi n ≡ t → ⊥) → PutKeeps shape Mine (WithBit shape n b)
bit_kept shape Mine n b en away t w s e m h = (put_room shape s t w h.0, put_ready_other shape s h.0 n t w en e (away t m) ∙ h.1)

-- a bit that says what its record does
abbrev pub ExactBit : Shape → ℕ → List ℕ → Type 0
ExactBit shape n s = Room shape s × ExactAt shape n s

pub exact_kept : (shape : Shape) (Mine : Slot → Type 0) (n : ℕ) → Exists shape (Spi n) → PutKeeps shape Mine (ExactBit shape n)
exact_kept shape Mine n en t w s e m h = (put_room shape s t w h.0, put_exact_at shape s h.0 n t w en e h.1)
