-- A state as we write it stays one under every accessor's write; at a stack, as long as past the depth there is only 0. Assumes nothing.
use mathlib.Core.Path.{◌≡◌, refl, sym, ap, ◌∙◌, subst}
use mathlib.Core.Bool.{Bool, true, false, cond, true≢false}
use mathlib.Core.List.{List}
use Prim.Native.Nat.{ℕ, ◌≤◌, ◌<◌}
use native.Mathlib.Nat.{mod-eq_of_lt}
use native.Mathlib.Omega.{arith}
use lib.Dec.{ltb}
use Rattle.interrupt.specs.declared.record.InterruptRecord.{InterruptRecord}
use Rattle.word.specs.Word.{word_of, InRange}
use Rattle.word.proofs.RecordWord.{decode_encode}
use Rattle.state.specs.declared.layout.Shape.{Shape}
use Rattle.state.specs.declared.layout.InterfaceValue.{InterfaceValue}
use Rattle.state.specs.declared.layout.InterfaceValue.TheVariants.{Depth}
use Rattle.state.specs.declared.words.Entry.{Entry}
use Rattle.state.specs.Layout.{Slot, DistributorControl, Interface, Sources, Private, Spi, Stack, stack_capacity, Exists, Room, on_stack}
use Rattle.state.specs.Words.{word_at, put, record_slot, with_record, with_sources, kept, with_interface, kept_distributor_control, with_distributor_control, entry_word, with_entry, without_entry, CanonicalWord, Canonical}
use Rattle.state.proofs.Accessors.{put_same, put_other, same_or_other, put_written}
use Rattle.state.proofs.Places.{kept_kept}
use Rattle.state.proofs.Ready.{put_spared}

-- a slot that says nothing of what lies on a stack
abbrev pub OffStack : Slot → Type 0
OffStack t = on_stack t ≡ false

pub off_stack_apart : (t u : Slot) → on_stack t ≡ true → OffStack u → t ≡ u → ⊥
off_stack_apart t u on off p = true≢false (sym on ∙ ap on_stack p ∙ off)

module _ (shape : Shape) (s : List ℕ) (h : Room shape s) (c : Canonical shape s) where
  pub put_canonical : (u : Slot) (w : ℕ) → Exists shape u → OffStack u → CanonicalWord u w → Canonical shape (put shape u w s)
  put_canonical u w e off cw = record {
    written = put_written shape s u w h e cw c.written;
    cleared = λ v i b d l.
        put_other shape s (Stack v i) u w (b, l) e (off_stack_apart (Stack v i) u refl off)
        ∙ c.cleared v i b (rw (put_other shape s (Interface v Depth) u w b e (off_stack_apart (Interface v Depth) u refl off)) at d) l;
    spared = λ k on. put_spared shape s h u w k e on (c.spared k on);
  }

  record_off : (v n : ℕ) → OffStack (record_slot v n)
  unfolding record_slot
  record_off v n = go (ltb n 32)
    where
      go : (b : Bool) → OffStack (cond b (Private v n) (Spi n))
      go true = refl
      go false = refl

  record_word : (v n : ℕ) (r : InterruptRecord) → InRange r → CanonicalWord (record_slot v n) (word_of r)
  unfolding record_slot
  record_word v n r i = go (ltb n 32)
    where
      go : (b : Bool) → CanonicalWord (cond b (Private v n) (Spi n)) (word_of r)
      go true = ap word_of (decode_encode r i)
      go false = ap word_of (decode_encode r i)

  pub record_canonical : (v n : ℕ) (r : InterruptRecord) → Exists shape (record_slot v n) → InRange r → Canonical shape (with_record shape v n r s)
  record_canonical v n r e i = put_canonical (record_slot v n) (word_of r) e (record_off v n) (record_word v n r i)

  pub sources_canonical : (v n x : ℕ) → Exists shape (Sources v n) → x < 256 → Canonical shape (with_sources shape v n x s)
  sources_canonical v n x e b = put_canonical (Sources v n) x e refl (mod-eq_of_lt b)

  pub interface_canonical : (v : ℕ) (k : InterfaceValue) (x : ℕ) → v < shape.count → OffStack (Interface v k) → Canonical shape (with_interface shape v k x s)
  interface_canonical v k x e off = put_canonical (Interface v k) (kept k x) e off (kept_kept k x)

  pub control_canonical : (x : ℕ) → Canonical shape (with_distributor_control shape x s)
  control_canonical x = put_canonical DistributorControl (kept_distributor_control x) tt refl (omega arith)

  -- an entry of a stack: past the depth only 0 is written
  pub stack_canonical : (v i w : ℕ) → Exists shape (Stack v i) → CanonicalWord (Stack v i) w → (word_at shape (Interface v Depth) s ≤ i → w ≡ 0)
      → Canonical shape (put shape (Stack v i) w s)
  stack_canonical v i w x b dead = record {
    written = put_written shape s (Stack v i) w h x b c.written;
    cleared = λ u j bu d l.
        let old : word_at shape (Interface u Depth) s ≤ j = rw (depth_stays u bu) at d in
        same_or_other shape s (Stack u j) (Stack v i) (bu, l) x
        (λ p. subst (λ (t : Slot). word_at shape t (put shape (Stack v i) w s) ≡ 0) (sym p) (put_same shape s (Stack v i) w h x ∙ dead (below u j p old)))
        (λ apart. put_other shape s (Stack u j) (Stack v i) w (bu, l) x apart ∙ c.cleared u j bu old l);
    spared = λ k on. put_spared shape s h (Stack v i) w k x on (c.spared k on);
  }
    where
      depth_stays : (u : ℕ) → u < shape.count → word_at shape (Interface u Depth) (put shape (Stack v i) w s) ≡ word_at shape (Interface u Depth) s
      depth_stays u bu = put_other shape s (Interface u Depth) (Stack v i) w bu x (λ p. let z : ◌≡◌ {A = ℕ} 0 1 = cc in omega arith)

      below : (u j : ℕ) → Stack u j ≡ Stack v i → word_at shape (Interface u Depth) s ≤ j → word_at shape (Interface v Depth) s ≤ i
      below u j p d = let q : j ≡ i = cc in let r : u ≡ v = cc in rw (r, q) at d

  pub entry_canonical : (v i : ℕ) (e : Entry) → Exists shape (Stack v i) → i < word_at shape (Interface v Depth) s → e.priority.0 < 256
      → Canonical shape (with_entry shape v i e s)
  entry_canonical v i e x used b = stack_canonical v i (entry_word e) x (omega arith) (λ d. absurd (omega arith))

  pub cleared_canonical : (v i : ℕ) → Exists shape (Stack v i) → Canonical shape (without_entry shape v i s)
  cleared_canonical v i x = stack_canonical v i 0 x (omega arith) (λ d. refl)

  -- a depth below which nothing but 0 is left behind
  pub depth_canonical : (v d : ℕ) → v < shape.count → ((i : ℕ) → d ≤ i → i < stack_capacity → word_at shape (Stack v i) s ≡ 0) → Canonical shape (with_interface shape v Depth d s)
  depth_canonical v d b zeros = record {
    written = put_written shape s (Interface v Depth) d h b refl c.written;
    cleared = λ u j bu deep l. stack_stays u j bu l ∙ same_or_other shape s (Interface u Depth) (Interface v Depth) bu b
        (λ p. let r : u ≡ v = cc in rw r (zeros j (rw (r, put_same shape s (Interface v Depth) d h b) at deep) l))
        (λ apart. c.cleared u j bu (rw (put_other shape s (Interface u Depth) (Interface v Depth) d bu b apart) at deep) l);
    spared = λ k on. put_spared shape s h (Interface v Depth) d k b on (c.spared k on);
  }
    where
      stack_stays : (u j : ℕ) → u < shape.count → j < stack_capacity → word_at shape (Stack u j) (put shape (Interface v Depth) d s) ≡ word_at shape (Stack u j) s
      stack_stays u j bu l = put_other shape s (Stack u j) (Interface v Depth) d (bu, l) b (λ p. let z : ◌≡◌ {A = ℕ} 0 1 = cc in omega arith)
