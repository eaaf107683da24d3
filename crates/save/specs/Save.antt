-- Saving: document 02, request One: "Save a controller into a lent buffer"; "Saving answers the image's length and leaves the buffer past it";
-- "Refusals: saving 6, then 9 not lawful, then 10 no room (buffer untouched)".
use Rattle.std.specs.Prelude.{◌≡◌, cond, List, ◌++◌, ℕ, ◌+◌, ◌-◌, ◌*◌, leb, length, drop, Option, Some, None}
use Rattle.register.specs.declared.frame.Refusal.TheVariants.{BrokenState, Unlawful, NoRoom}
use Rattle.state.specs.declared.layout.Shape.{Shape}
use Rattle.state.specs.Lent.{validated}
use Rattle.answer.specs.Answer.{Answer, Outcome, outcome, refused, gave}
use Rattle.lawful_test.specs.LawfulTest.{is_lawful}
use Rattle.image.specs.Image.{image}

-- what saving comes to: its answer with the words, and the lent buffer
pub record Saved : Type 0 where
  pub outcome : Outcome
  pub buffer : List ℕ

-- "leaves the buffer past it"
abbrev pub into_buffer : List ℕ → List ℕ → List ℕ → Saved
into_buffer bytes s buffer =
    cond (leb (length bytes) (length buffer)) (record { outcome = gave (length bytes) s; buffer = bytes ++ drop (length bytes) buffer })
    (record { outcome = refused NoRoom s; buffer = buffer })

-- that the test is just `Lawful` is `lawful_passes` and `passes_lawful` (crates/lawful_test)
abbrev pub saved_from : Option Shape → List ℕ → List ℕ → Saved
saved_from None s buffer = record { outcome = refused BrokenState s; buffer = buffer }
saved_from (Some shape) s buffer = cond (is_lawful shape s) (into_buffer (image shape s) s buffer) (record { outcome = refused Unlawful s; buffer = buffer })

unfoldable pub save : List ℕ → List ℕ → Saved
save s buffer = saved_from (validated s) s buffer

-- what the call promises of its answer, the words and the buffer after it
abbrev pub SavePromise : List ℕ → List ℕ → Answer → List ℕ → List ℕ → Type 0
SavePromise s buffer answer after written = ◌≡◌ {A = Saved} (record { outcome = outcome answer after; buffer = written }) (save s buffer)

-- a room that suffices for any lawful state of the shape: 4 bytes at the start; of a vCPU 5 for its registers, 2 for its depth and 4 for
-- each of 128 entries, 5 for each SGI and 3 for each other private number; 6 for each SPI
abbrev pub image_bytes : Shape → ℕ
image_bytes shape = 4 + 647 * shape.count + 6 * (shape.limit - 32)
