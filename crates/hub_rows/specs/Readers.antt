-- How the requests of stations are read.
use Rattle.std.specs.Prelude.{ℕ, true, List, [], ◌∷◌, codes, Option, option_map, unwrap_or}
use Rattle.std.specs.Str.{bytes_eq}
use Rattle.ocpp_types.specs.Named.{names_of}
use Rattle.hub_rows.specs.declared.reader_row.Reader.{Reader}
use Rattle.hub_rows.specs.declared.reader_row.Reader.TheVariants.{Strict, Tolerant}
use Rattle.hub_rows.specs.declared.reader_row.ReaderRow.{ReaderRow}
use Rattle.hub_rows.specs.Keyed.{found, those}

abbrev pub reader_name : Reader → List ℕ
reader_name Strict = codes "strict"
reader_name Tolerant = codes "tolerant"

abbrev pub readers : List (List ℕ × Reader)
readers = names_of reader_name (Strict ∷ Tolerant ∷ [])

-- the reader that was chosen, strict where none was
abbrev pub chosen : Option ReaderRow → Reader
chosen row = unwrap_or (option_map (λ r. r.reader) row) Strict

-- how a station of operator b is read, among the readers of all
abbrev pub reader_in : List ℕ → List ℕ → List ReaderRow → Reader
reader_in b station rows = chosen (found (λ r. r.op) b (λ r. bytes_eq r.station station) rows)

-- the readers that operator b chose
abbrev pub readers_in : List ℕ → List ReaderRow → List ReaderRow
readers_in b rows = those (λ r. r.op) b (λ r. true) rows
