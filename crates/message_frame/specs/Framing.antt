-- What the functions of the message frame promise each other. A reader need not believe any of it; the promises are in MessageFrame.antt.
use Rattle.std.specs.Prelude.{List, ℕ, ◌+◌, ◌≤◌}
use Rattle.state.specs.declared.layout.Shape.{Shape}
use Rattle.service.specs.Service.{Sound}
use Rattle.message_frame.specs.declared.Window.{Window}

-- a window whose numbers fit TYPER's fields
pub record FitsTyper (window : Window) : Type 0 where
  pub few : window.first.0 + window.count ≤ 1020

-- a window of a controller's SPIs
pub record Framed (shape : Shape) (window : Window) (s : List ℕ) : Type 0 where
  pub sound : Sound shape s
  pub spis : 32 ≤ window.first.0
  pub end : window.first.0 + window.count ≤ shape.limit
