-- Worked plans: which pieces a bitfile comes to on three volumes of 424 bytes, with chunks of 1,000.
use Rattle.std.proofs.Common.{◌≡◌, refl, ap, ◌∙◌, ℕ, ◌+◌, false, None, List, [], ◌∷◌}
use Rattle.std.specs.List.{flat_map}
use Rattle.std.specs.FinMap as map
use Rattle.dm_base.specs.declared.volume.Piece.{Piece}
use Rattle.dm_durable.specs.declared.group.VolumeRow.{VolumeRow}
use Rattle.dm_durable.specs.Tables.{ByName}
use Rattle.dm_durable.specs.Volumes.{Usage, of_serial, planned_pieces, space_if}
use Rattle.dm_rules.specs.declared.space.Space.{Space}
use Rattle.dm_rules.specs.Plan.{pieces_of, rooms}
use Rattle.dm_rules.specs.Room.{room}
use Rattle.dm_tables.proofs.Entries.{entries-from_entries}
use Rattle.dm_tables.proofs.Orders.{paths}

-- the serial numbers AA0001 to AA0003
abbrev serial : ℕ → List ℕ
serial n = 65 ∷ 65 ∷ 48 ∷ 48 ∷ 48 ∷ (48 + n) ∷ []

abbrev volume : ℕ → ℕ → VolumeRow
volume slot version = record { slot = slot; version = version; size = 424; epoch = 1; end = 64; held = None }

abbrev rows : ℕ → List (List ℕ × VolumeRow)
rows version = (serial 1, volume 0 version) ∷ (serial 2, volume 1 version) ∷ (serial 3, volume 2 version) ∷ []

abbrev volumes : ℕ → ByName VolumeRow
volumes version = map.from_entries (rows version)

-- nothing is open on them
abbrev unused : ByName ℕ → Usage
unused tips = record { chunk = 1000; tips = tips; reserved = λ v. false; mounted = λ v. false; reused = λ v. false }

-- the volumes are found in the order of their serial numbers
in_order : (version : ℕ) → map.entries (volumes version) ≡ rows version
in_order version = entries-from_entries paths (rows version) tt

abbrev space : ℕ → ℕ → Space
space n version = record { vsn = record { 0 = serial n }; version = version; tip = 64; room = room version 424 64 1000 }

-- where no tip was moved, each takes a piece behind its label
spaces-found : (version : ℕ) (tips : ByName ℕ) → ((q : List ℕ) → map.get tips q ≡ None)
    → flat_map (λ e. of_serial e.0 (space_if (unused tips) e.0 e.1 e.1.held)) (rows version)
    ≡ space 1 version ∷ space 2 version ∷ space 3 version ∷ []
spaces-found version tips none = simp (none (serial 1), none (serial 2), none (serial 3)) refl

-- the pieces of so many bytes are those over these spaces
planned : (version len : ℕ) (tips : ByName ℕ) → ((q : List ℕ) → map.get tips q ≡ None)
    → planned_pieces (unused tips) (volumes version) len ≡ pieces_of (space 1 version ∷ space 2 version ∷ space 3 version ∷ []) 0 len
planned version len tips none =
    ap (λ es. pieces_of (flat_map (λ e. of_serial e.0 (space_if (unused tips) e.0 e.1 e.1.held)) es) 0 len) (in_order version)
    ∙ ap (λ xs. pieces_of xs 0 len) (spaces-found version tips none)

abbrev piece : ℕ → ℕ → ℕ → ℕ → Piece
piece n version offset len = record { vsn = record { 0 = serial n }; zone = 64; offset = offset; len = len; version = version }

-- 280 bytes fill the first volume of version 1, and one more goes to the second
planned-280 : pieces_of (space 1 1 ∷ space 2 1 ∷ space 3 1 ∷ []) 0 280 ≡ piece 1 1 0 280 ∷ []
unfolding pieces_of room
planned-280 = refl

planned-281 : pieces_of (space 1 1 ∷ space 2 1 ∷ space 3 1 ∷ []) 0 281 ≡ piece 1 1 0 280 ∷ piece 2 1 280 1 ∷ []
unfolding pieces_of room
planned-281 = refl

-- 840 bytes is all that they take
all_rooms : rooms (space 1 1 ∷ space 2 1 ∷ space 3 1 ∷ []) ≡ 840
unfolding room
all_rooms = refl

-- of version 2 the first takes 248 bytes
planned-248 : pieces_of (space 1 2 ∷ space 2 2 ∷ space 3 2 ∷ []) 0 248 ≡ piece 1 2 0 248 ∷ []
unfolding pieces_of room
planned-248 = refl

planned-249 : pieces_of (space 1 2 ∷ space 2 2 ∷ space 3 2 ∷ []) 0 249 ≡ piece 1 2 0 248 ∷ piece 2 2 248 1 ∷ []
unfolding pieces_of room
planned-249 = refl

-- no bitfile of no bytes has a piece
planned-0 : pieces_of (space 1 1 ∷ space 2 1 ∷ space 3 1 ∷ []) 0 0 ≡ []
unfolding pieces_of room
planned-0 = refl
