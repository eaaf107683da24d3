-- Loading: document 02, request One: "loading answers 0, wakes nobody and does not read the old state. Refusals: .. loading 9 not an image,
-- then 5 (state untouched)". What is loaded is the state whose image the bytes are (crates/moving).
use Rattle.std.specs.Prelude.{Option, Some, None, ◌≡◌, cond, List, ℕ, ◌+◌, ◌*◌, ◌^◌, leb, ltb, length}
use Rattle.groups.specs.Groups.{found_at}
use Rattle.register.specs.declared.frame.Refusal.TheVariants.{ShortState, Unlawful}
use Rattle.state.specs.declared.layout.Shape.{Shape}
use Rattle.state.specs.Layout.{size}
use Rattle.state.specs.Lent.{limited, shaped, with_shape}
use Rattle.state.specs.Words.{with_distributor_control, without_summary}
use Rattle.answer.specs.Answer.{Answer, Outcome, outcome, refused, gave}
use Rattle.image.specs.Parts.{part_count}
use Rattle.load.specs.Reading.{then_number, number_up_to}
use Rattle.load.specs.Walking.{walked, parts_stored}

-- the count and the limit, the image's first numbers
abbrev pub shaped_at : Option Shape → ℕ → Option (Shape × ℕ)
shaped_at None next = None
shaped_at (Some shape) next = Some (shape, next)

unfoldable pub shape_found : List ℕ → Option (Shape × ℕ)
shape_found image =
    then_number None (found_at 2 image 0) (λ count a.
    then_number None (found_at 2 image a) (λ limit next. shaped_at (limited count limit) next))

abbrev pub then_shape : {A : Type 0} → A → Option (Shape × ℕ) → (Shape → ℕ → A) → A
then_shape nothing None f = nothing
then_shape nothing (Some (shape, next)) f = f shape next

-- the count and limit that an image states; 0 and 0, which are in neither range, where it states none
unfoldable pub image_shape : List ℕ → Shape
image_shape image = then_shape (shaped 0 0) (shape_found image) (λ shape next. shape)

-- and the Distributor's CTLR
unfoldable pub opened_as : List ℕ → Option (Shape × ℕ × ℕ)
opened_as image =
    then_shape None (shape_found image) (λ shape a.
    then_number None (number_up_to 1 image a) (λ control next. Some (shape, control, next)))

-- the whole state, over these words; "Images don't carry the bits; loading makes them" (document 02, Five): from none, each with its record
abbrev pub stored : Shape → ℕ → List ℕ → ℕ → List ℕ → List ℕ
stored shape control image start s = parts_stored shape image start (with_distributor_control shape control (without_summary shape (with_shape shape s)))

abbrev pub room_for : Shape → List ℕ → List ℕ → Outcome
room_for shape s r = cond (leb (size shape) (length s)) (gave 0 r) (refused ShortState s)

-- the walk has come to a place: it is an image if nothing is left over
abbrev pub loaded_to : Option ℕ → Shape → List ℕ → List ℕ → List ℕ → Outcome
loaded_to None shape image s r = refused Unlawful s
loaded_to (Some end) shape image s r = cond (ltb end (length image)) (refused Unlawful s) (room_for shape s r)

abbrev pub loaded_as : Option (Shape × ℕ × ℕ) → List ℕ → List ℕ → Outcome
loaded_as None image s = refused Unlawful s
loaded_as (Some (shape, control, start)) image s =
    loaded_to (walked shape image start (part_count shape)) shape image s (stored shape control image start s)

unfoldable pub load : List ℕ → List ℕ → Outcome
load image s = loaded_as (opened_as image) image s

-- what the call promises of its answer and the words after it
abbrev pub LoadPromise : List ℕ → List ℕ → Answer → List ℕ → Type 0
LoadPromise image before answer after = outcome answer after ≡ load image before

-- "the count and limit that an image states, from its first numbers": the count in the value's low half, the limit above it. It promises
-- nothing of the rest.
unfoldable pub shape_stated : List ℕ → Outcome
shape_stated image = then_shape (refused Unlawful image) (shape_found image) (λ shape next. gave (shape.count + 2 ^ 16 * shape.limit) image)

-- what the call promises of its answer and the image after it
abbrev pub ImageShapePromise : List ℕ → Answer → List ℕ → Type 0
ImageShapePromise image answer after = outcome answer after ≡ shape_stated image
