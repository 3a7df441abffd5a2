-- Tests: guards of events, each with what it is about, and refusals with their answers.
--
-- A guard is a test beside its name. Several tests may bear one name: then the guard holds where all of them do. Of the
-- guards that are false the one of the least number is named, whatever the order of the list is. Of refusals the order
-- decides.
use Rattle.std.specs.Prelude.{◌≡◌, ℕ, Bool, true, false, cond, Option, None, Some, List, [], ◌∷◌, nat_lt}
use Rattle.dm_model.specs.declared.guard.Guard.{Guard}
use Rattle.dm_model.specs.declared.guard.Guard.TheVariants as guard

abbrev pub number_of : Guard → ℕ
number_of guard.Configured = 1
number_of guard.Tokens = 2
number_of guard.InDoubt = 3
number_of guard.AskedGroups = 4
number_of guard.CopyCommitted = 5
number_of guard.NothingReserved = 6
number_of guard.RecallRead = 7
number_of guard.CopiesDeleted = 8
number_of guard.VolumeConfigured = 9
number_of guard.NewVolumeLabelled = 10
number_of guard.CopyWanted = 11
number_of guard.PieceReserved = 12
number_of guard.ChunkWanted = 13
number_of guard.PiecesWritten = 14
number_of guard.PiecesUnmounted = 15
number_of guard.HardDeleted = 16
number_of guard.SourceListed = 17
number_of guard.ChunkMoved = 18
number_of guard.VolumeKnown = 19
number_of guard.VolumeRelabelled = 20
number_of guard.NoMove = 21
number_of guard.ZonePlace = 22
number_of guard.RangeRead = 23
number_of guard.LabelPlanned = 24
number_of guard.DeviceUsed = 28

-- a test, and the guard that it is of
abbrev pub Guarded : Type 0
Guarded = Bool × Guard

-- the guard of the lesser number, of two that are false
abbrev pub lower_of : Guard → Option Guard → Guard
lower_of g None = g
lower_of g (Some h) = cond (nat_lt (number_of h) (number_of g)) h g

-- the guard of the least number whose test is false
abbrev pub lowest_false : List Guarded → Option Guard
lowest_false [] = None
lowest_false (t ∷ ts) = cond t.0 (lowest_false ts) (Some (lower_of t.1 (lowest_false ts)))

-- the first whose test is true
abbrev pub first_true : {X : Type 0} → List (Bool × X) → Option X
first_true [] = None
first_true (t ∷ ts) = cond t.0 (Some t.1) (first_true ts)

-- every test is true
abbrev pub AllHold : {X : Type 0} → List (Bool × X) → Type 0
AllHold [] = Unit {0}
AllHold (t ∷ ts) = (t.0 ≡ true) × AllHold ts

-- no test is true
abbrev pub NoneHold : {X : Type 0} → List (Bool × X) → Type 0
NoneHold [] = Unit {0}
NoneHold (t ∷ ts) = (t.0 ≡ false) × NoneHold ts
