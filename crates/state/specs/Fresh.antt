-- What setup leaves: every word of the state as it starts (`start_at`), words past the state as they were. Document 01, "Numbers that stay
-- apart" (the starting record) and "CPU interface places" ("All start at 0").
use Rattle.std.specs.Prelude.{List, ℕ, set}
use Rattle.state.specs.declared.layout.Shape.{Shape}
use Rattle.state.specs.Layout.{size}
use Rattle.state.specs.Loop.{up_to}
use Rattle.state.specs.Words.{start_at}

abbrev pub started_at : Shape → ℕ → List ℕ → List ℕ
started_at shape k s = set s k (start_at shape k)

-- every word of the state as it starts
unfoldable pub fresh : Shape → List ℕ → List ℕ
fresh shape s = up_to (started_at shape) (size shape) s
