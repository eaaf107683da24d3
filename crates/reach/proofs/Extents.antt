-- Words behind a call's extent: the call hands out the same without them, and leaves them as they are. Assumes nothing.
use Rattle.std.specs.Prelude.{Option, Some, None}
use mathlib.Core.Path.{◌≡◌, refl, sym, ap, ◌∙◌}
use mathlib.Core.Bool.{Bool, true, false, cond, ◌&&◌, true≢false}
use mathlib.Core.List.{List, ◌++◌}
use Prim.Native.Nat.{ℕ, zero, suc, ◌≤◌, ◌<◌}
use native.Mathlib.Omega.{arith}
use lib.Dec.{leb}
use lib.ListN.{length, get_or, length-append, length-set, get_or-append}
use lib.Seq.{set-append_left}
use borrow.Author.Tests.{le-leb}
use Rattle.register.specs.declared.frame.Refusal.TheVariants.{BrokenState, ShortState}
use Rattle.state.specs.declared.layout.Shape.{Shape}
use Rattle.state.specs.declared.layout.InterfaceValue.TheVariants.{Depth}
use Rattle.state.specs.Fresh.{started_at, fresh}
use Rattle.state.specs.Words.{start_at}
use Rattle.state.specs.Layout.{Interface, size, Room, stack_capacity}
use Rattle.state.specs.Lent.{limited, stored_shape, depth_fits, lent_as, validated}
use Rattle.state.specs.Loop.{up_to}
use Rattle.state.proofs.Starting.{fresh_length}
use Rattle.state.proofs.Validated.{limited_limits}
use Rattle.answer.specs.Answer.{refused, gave}
use Rattle.controller.specs.Start.{setup_of, setup}
use Rattle.load.specs.Load.{image_shape}
use Rattle.moving.proofs.Moving.{load_cases, size_in, load_beside}
use Rattle.history.specs.History.{Call, Load, Deed, Starts, Acts, deed, starts_anew, is_start, called}
use Rattle.history.proofs.Each.{setup_load_or_other, broken_call, any_words}
use Rattle.reach.specs.Reach.{size_or, stored_extent, extent_of, extent}
use Rattle.reach.proofs.Images.{every_same}
use Rattle.reach.proofs.Outcomes.{wrapped, Carries}
use Rattle.reach.proofs.Calls.{call_carries}
use Rattle.reach.proofs.Beside.{behind}

-- every other call has one extent
pub other_extent : (c : Call) (s : List ℕ) → is_start c ≡ false → extent c s ≡ stored_extent s
other_extent c s = go (deed c)
  where
    go : (d : Deed) → starts_anew d ≡ false → extent_of d s ≡ stored_extent s
    go (Starts count limit) e = absurd (true≢false e)
    go (Acts a) e = refl

two_words : (l : Option Shape) → 2 ≤ size_or 2 l
two_words None = omega arith
two_words (Some shape) = omega arith

size_in_lem : (l : Option Shape) → size_in l ≡ size_or 0 l
size_in_lem None = refl
size_in_lem (Some shape) = refl

load_long : (bytes s : List ℕ) → length (called (Load bytes) s).state ≡ length s
load_long bytes s = load_cases bytes s (λ o. length o.state ≡ length s) refl refl (λ after it. it.long)

module _ (a x : List ℕ) where
  longer : {n : ℕ} → n ≤ length a → n ≤ length (a ++ x)
  longer h = omega (arith, h, length-append a x)

  -- the test of refusal 6
  stored_same : 2 ≤ length a → stored_shape (a ++ x) ≡ stored_shape a
  stored_same h = λ i. limited (get_or-append a x 0 0 (omega (arith, h)) i) (get_or-append a x 0 1 (omega (arith, h)) i)

  tested_same : (l : Option Shape) → stored_shape a ≡ l → size_or 2 l ≤ length a → lent_as (a ++ x) l ≡ lent_as a l
  tested_same None p h = refl
  tested_same (Some shape) p h = λ i. cond (roomy i && every_same (depth_fits shape (a ++ x)) (depth_fits shape a) shape.count fits i) (Some shape) None
    where
      room : Room shape a
      room = record { limits = limited_limits (get_or a 0 0) (get_or a 1 0) shape p; room = h }

      roomy : leb (size shape) (length (a ++ x)) ≡ leb (size shape) (length a)
      roomy = le-leb (size shape) (length (a ++ x)) (longer h) ∙ sym (le-leb (size shape) (length a) h)

      fits : (v : ℕ) → v < shape.count → depth_fits shape (a ++ x) v ≡ depth_fits shape a v
      fits v exists = ap (λ (w : ℕ). leb w stack_capacity) (((behind shape x).alike a room).agree (Interface v Depth) exists (omega arith))

  -- a setup's fill
  module _ (shape : Shape) (h : size shape ≤ length a) where
    started_long : (n : ℕ) → length (up_to (started_at shape) n a) ≡ length a
    unfolding up_to
    started_long zero = refl
    started_long (suc n) = length-set (up_to (started_at shape) n a) n (start_at shape n) ∙ started_long n

    started_same : (n : ℕ) → n ≤ length a → up_to (started_at shape) n (a ++ x) ≡ up_to (started_at shape) n a ++ x
    unfolding up_to
    started_same zero k = refl
    started_same (suc n) k =
        ap (started_at shape n) (started_same n (omega arith))
        ∙ set-append_left (up_to (started_at shape) n a) x n (start_at shape n) (rw (started_long n) k)

    fresh_same : fresh shape (a ++ x) ≡ fresh shape a ++ x
    unfolding fresh
    fresh_same = started_same (size shape) h

  setup_carries : (l : Option Shape) → size_or 0 l ≤ length a → Carries (λ s. s ++ x) (setup_of l) a
  setup_carries None h = record { same = refl; long = refl }
  setup_carries (Some shape) h = record {
    same = simp (le-leb (size shape) (length (a ++ x)) (longer h), le-leb (size shape) (length a) h, fresh_same shape h);
    long = simp (le-leb (size shape) (length a) h, fresh_length shape a);
  }

  -- a load
  load_carries : (bytes : List ℕ) → extent (Load bytes) a ≤ length a → Carries (λ s. s ++ x) (called (Load bytes)) a
  load_carries bytes h = record { same = load_beside bytes a x (rw (size_in_lem (limited (image_shape bytes).count (image_shape bytes).limit)) h); long = load_long bytes a }

  module _ (c : Call) (other : is_start c ≡ false) (h : stored_extent a ≤ length a) where
    valid_same : validated (a ++ x) ≡ validated a
    unfolding validated
    valid_same = ap (lent_as (a ++ x)) (stored_same (omega (arith, two_words (stored_shape a), h))) ∙ tested_same (stored_shape a) refl h

    other_carries : Carries (λ s. s ++ x) (called c) a
    other_carries = go (validated a) refl
      where
        go : (l : Option Shape) → validated a ≡ l → Carries (λ s. s ++ x) (called c) a
        go (Some shape) p = call_carries (behind shape x) a p (valid_same ∙ p) c other
        go None p =
            let refuses : called c a ≡ refused BrokenState a = (broken_call c other a p).0 in
            record { same = (broken_call c other (a ++ x) (valid_same ∙ p)).0 ∙ ap (wrapped (λ s. s ++ x)) (sym refuses); long = ap (λ o. length o.state) refuses }

  pub within_extent : (c : Call) → extent c a ≤ length a → Carries (λ s. s ++ x) (called c) a
  unfolding setup
  within_extent =
      setup_load_or_other (λ d. extent d a ≤ length a → Carries (λ s. s ++ x) (called d) a) (λ count limit. setup_carries (limited count limit)) load_carries
      (λ d other h. other_carries d other (rw (other_extent d a other) at h))

  -- and the extent is the same
  pub same_extent : (c : Call) → extent c (a ++ x) ≤ length a → extent c (a ++ x) ≡ extent c a
  same_extent c = go (deed c)
    where
      go : (d : Deed) → extent_of d (a ++ x) ≤ length a → extent_of d (a ++ x) ≡ extent_of d a
      go (Starts count limit) h = refl
      go (Acts b) h = ap (size_or 2) (stored_same (omega (arith, two_words (stored_shape (a ++ x)), h)))

-- a call leaves as many words as there were
pub call_long : (c : Call) (s : List ℕ) → length (called c s).state ≡ length s
unfolding setup
call_long c s =
    setup_load_or_other (λ d. length (called d s).state ≡ length s) (λ count limit. setup_long (limited count limit)) (λ bytes. load_long bytes s) other_long c
  where
    setup_long : (l : Option Shape) → length (setup_of l s).state ≡ length s
    setup_long None = refl
    setup_long (Some shape) = go (leb (size shape) (length s))
      where
        go : (b : Bool) → length (cond b (gave 0 (fresh shape s)) (refused ShortState s)).state ≡ length s
        go true = fresh_length shape s
        go false = refl

    other_long : (d : Call) → is_start d ≡ false → length (called d s).state ≡ length s
    other_long =
        any_words s (λ d o. length o.state ≡ length s) (λ d e. refl)
        (λ shape p d e. (call_carries {shape = shape} {wrap = λ r. r} (record { alike = λ r h. record { agree = λ t x inner. refl; summary = λ k on. refl }; puts = λ r h t x inner w. refl }) s p p d e).long)
