-- A state after a move, put together from its parts: what the move does not touch is as it was. Assumes nothing.
use mathlib.Core.Path.{◌≡◌, refl, sym, ◌∙◌}
use mathlib.Core.List.{List}
use mathlib.Core.Logic.{inl, inr}
use Prim.Native.Nat.{ℕ, ◌<◌}
use native.Mathlib.Omega.{arith}
use Rattle.state.specs.declared.layout.Shape.{Shape}
use Rattle.state.specs.declared.layout.InterfaceValue.TheVariants.{Depth}
use Rattle.state.specs.Layout.{Slot, Count, Limit, Interface, Sources, Stack}
use Rattle.state.specs.Lent.{shaped}
use Rattle.state.specs.Words.{word_at, record_slot, RecordThere, record_at, Exact}
use Rattle.state.proofs.Accessors.{record_exists}
use Rattle.state.proofs.Numbers.{Of}
use Rattle.state.proofs.SlotKinds.{record_apart}
use Rattle.lawful.specs.Lawful.{Lawful}
use Rattle.moves.specs.Moves.{Move, moved, Open}
use Rattle.moves.proofs.Parts.{StackFine, SgiFine, parts_lawful, stack_kept, records_kept, sgis_kept, all_records, all_sgis}
use Rattle.moves.proofs.Records.{Fine}
use Rattle.moves.proofs.Slots.{StackOf, off_stack, Touches, move_room, move_others, touched_kind, move_exact}
use Rattle.moves.proofs.Sounds.{lawful_sound}

-- a record is on no stack
pub record_off_stack : (v u n : ℕ) → StackOf v (record_slot u n) → ⊥
record_off_stack v u n (inl p) = record_apart u n (Interface v Depth) refl p
record_off_stack v u n (inr e) = record_apart u n (Stack v e.index) refl e.is

module _ (shape : Shape) (s : List ℕ) (h : Lawful shape s) where
  module _ (m : Move) (o : Open shape m s) where
    abbrev r : List ℕ
    r = moved shape m s

    -- the stored count and limit stay, and so does any stack that is not touched
    pub stored : shape ≡ shaped (word_at shape Count r) (word_at shape Limit r)
    stored =
        let count = move_others shape s (lawful_sound h) m o Count tt (λ p. absurd (omega (arith, touched_kind m Count p))) in
        let limit = move_others shape s (lawful_sound h) m o Limit tt (λ p. absurd (omega (arith, touched_kind m Limit p))) in
        h.in_range.stored ∙ (λ i. shaped (sym count i) (sym limit i))

    pub stack : (v : ℕ) → v < shape.count → (Touches m (Interface v Depth) → ⊥) → ((i : ℕ) → Touches m (Stack v i) → ⊥) → StackFine shape v r
    stack v b depth entries = stack_kept shape v s r h b (move_others shape s (lawful_sound h) m o (Interface v Depth) b depth) (λ i c. move_others shape s (lawful_sound h) m o (Stack v i) (b, c) (entries i))

    summary : Exact shape r
    summary = move_exact shape s (lawful_sound h) m o h.orderly.summary

    pub record_stays : (v n : ℕ) → RecordThere shape v n → (Touches m (record_slot v n) → ⊥) → word_at shape (record_slot v n) r ≡ word_at shape (record_slot v n) s
    record_stays v n there away = move_others shape s (lawful_sound h) m o (record_slot v n) (record_exists shape v n there) away

    pub sources_stay : (v n : ℕ) → v < shape.count → n < 16 → (Touches m (Sources v n) → ⊥) → word_at shape (Sources v n) r ≡ word_at shape (Sources v n) s
    sources_stay v n b sgi away = move_others shape s (lawful_sound h) m o (Sources v n) (b, sgi) away

    -- a move that touches no record and no source set
    pub only_stacks : ((v n : ℕ) → Touches m (record_slot v n) → ⊥) → ((v n : ℕ) → Touches m (Sources v n) → ⊥) → ((v : ℕ) → v < shape.count → StackFine shape v r) → Lawful shape r
    only_stacks records sources stacks =
        parts_lawful shape r (move_room shape s (lawful_sound h) m o) stored stacks (all_records shape s r h same) (all_sgis shape s r h same (λ v n b sgi. sources_stay v n b sgi (sources v n)))
        summary
      where
        same : (v n : ℕ) → RecordThere shape v n → word_at shape (record_slot v n) r ≡ word_at shape (record_slot v n) s
        same v n there = record_stays v n there (records v n)

    -- one that touches one number's
    pub one_number : (v n : ℕ) → RecordThere shape v n → ((t : Slot) → (StackOf v t → ⊥) → Touches m t → Of v n t)
        → ((u : ℕ) → u < shape.count → StackFine shape u r) → Fine shape v n (record_at shape v n r) → (n < 16 → SgiFine shape v n r) → Lawful shape r
    one_number v n there touched stacks fine own =
        parts_lawful shape r (move_room shape s (lawful_sound h) m o) stored stacks
        (records_kept shape s r h v n there others fine)
        (sgis_kept shape s r h v n there others fine (λ u k b sgi away. sources_stay u k b sgi (λ p. away (touched (Sources u k) (off_stack v (Sources u k) refl) p))) own)
        summary
      where
        not_own : (u k : ℕ) → (record_slot u k ≡ record_slot v n → ⊥) → Of v n (record_slot u k) → ⊥
        not_own u k away (inl p) = away p
        not_own u k away (inr p) = record_apart u k (Sources v n) refl p

        others : (u k : ℕ) → RecordThere shape u k → (record_slot u k ≡ record_slot v n → ⊥) → word_at shape (record_slot u k) r ≡ word_at shape (record_slot u k) s
        others u k x away = record_stays u k x (λ p. not_own u k away (touched (record_slot u k) (record_off_stack v u k) p))
