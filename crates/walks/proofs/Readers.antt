-- What the walks ask of `Reader` and of a byte. Assumes nothing.
use mathlib.Core.Path.{refl}
use mathlib.Core.List.{[]}
use mir.Syntax.{erased, w8, ty_int}
use denote.Builtin.{u8}
use denote.Plain.{uint_Lawful}
use Rattle.walks.specs.contracts.Reader as R
use Rattle.walks.specs.declared.Reader.{Reader}
use Rattle.walks.proofs.Cursor.{Cursor, Result}

abbrev pub readers : Cursor
readers = record {
  name = (R.struct (record { mir = erased; lft = [] })).name;
  D = Reader;
  image = λ d. d.image;
  at = λ d. d.at;
  make = λ s n. record { image = s; at = n };
  eta = λ d. refl;
  beta = λ v g. refl;
  propositions = R.the_propositions;
}

abbrev pub a_byte : Result
a_byte = record { row = u8; mir = ty_int w8; typed = λ 𝓛 r v is. ((uint_Lawful 𝓛 w8).typed r _ is).0 }
