-- What a reply prints: a line, ended by a line feed (10), and then what follows it. All numbers are decimal, without
-- leading zeros. docs/COMMANDS.md has each text beside the answer that it is of.
use Rattle.std.specs.Prelude.{ℕ, List, [], ◌∷◌, ◌++◌, length, codes, decimal, Option, Some, None}
use Rattle.std.specs.List.{flat_map}
use Rattle.std.specs.Option.{option_to_list}
use Rattle.dm_base.specs.Hexadecimal.{hexadecimal}
use Rattle.dm_base.specs.declared.identifier.Bfid.{Bfid}
use Rattle.dm_base.specs.declared.serial.Vsn.{Vsn}
use Rattle.dm_base.specs.declared.error.CopyFault.{CopyFault}
use Rattle.dm_base.specs.declared.request.FileRow.{FileRow}
use Rattle.dm_base.specs.declared.volume.VolRow.{VolRow}
use Rattle.dm_base.specs.declared.volume.VolState.{VolState}
use Rattle.dm_base.specs.declared.volume.VolState.TheVariants as volume
use Rattle.dm_base.specs.declared.finding.Finding.{Finding}
use Rattle.dm_base.specs.declared.finding.Finding.TheVariants as finding
use Rattle.dm_base.specs.declared.reply.FileState.{FileState}
use Rattle.dm_base.specs.declared.reply.FileState.TheVariants as state
use Rattle.dm_base.specs.declared.reply.Reply.{Reply}
use Rattle.dm_base.specs.declared.reply.Reply.TheVariants as reply
use Rattle.dm_reply.specs.Calendar.{right_in, time_text}

abbrev pub state_text : FileState → List ℕ
state_text state.Regular = codes "REG"
state_text state.Migrating = codes "MIG"
state_text state.Dual = codes "DUL"
state_text state.Offline = codes "OFL"
state_text state.Unmigrating = codes "UNM"

abbrev pub bfid_text : Bfid → List ℕ
bfid_text bfid = hexadecimal 32 bfid.0

-- a bitfile's identifier, or `-` for none
abbrev pub bfid_or_dash : Option Bfid → List ℕ
bfid_or_dash None = codes "-"
bfid_or_dash (Some bfid) = bfid_text bfid

-- a copy that could not be read: `GROUP:FAULTS`, or `GROUP:damaged` where a chunk of it was damaged
abbrev pub copy_text : CopyFault → List ℕ
copy_text copy = decimal copy.group.0 ++ codes ":" ++ reason_text copy.damaged copy.faults where
  reason_text : Option (Vsn × ℕ) → ℕ → List ℕ
  reason_text None faults = decimal faults
  reason_text (Some _) faults = codes "damaged"

-- the copies in the order in which they were asked for, a space before each
abbrev pub copies_text : List (Option CopyFault) → List ℕ
copies_text copies = flat_map (λ copy. codes " " ++ copy_text copy) (flat_map option_to_list copies)

-- of a file in a list: the state, the length right in 12 places, the path
abbrev pub file_text : FileRow → List ℕ
file_text row = state_text row.state ++ codes " " ++ right_in 32 12 (decimal row.len) ++ codes " " ++ row.path

-- of one file: the state, the length, the last change, the bitfile
abbrev pub attributes_text : FileRow → List ℕ
attributes_text row =
    state_text row.state ++ codes " " ++ decimal row.len ++ codes " " ++ decimal row.change ++ codes " " ++ bfid_or_dash row.bfid

-- the state of a volume, left in 5 places
abbrev pub volume_state_text : VolState → List ℕ
volume_state_text volume.Empty = codes "EMPTY"
volume_state_text volume.Filling = codes "FILL "
volume_state_text volume.Full = codes "FULL "
volume_state_text (volume.Held since) = codes "HELD "

-- the time from which a volume is held, or `-` for one that isn't
abbrev pub held_text : VolState → List ℕ
held_text (volume.Held since) = time_text since.0
held_text _ = codes "-"

-- of a volume: the serial number, the state, the tip and the live bytes right in 10 places, the time
abbrev pub volume_text : VolRow → List ℕ
volume_text row =
    row.vsn.0 ++ codes " " ++ volume_state_text row.state ++ codes " " ++ right_in 32 10 (decimal row.tip)
    ++ codes " " ++ right_in 32 10 (decimal row.live) ++ codes " " ++ held_text row.state

-- `WORD GROUP`, with a group's bitfile or volume behind it
abbrev pub of_bitfile : List ℕ → ℕ → Bfid → List ℕ
of_bitfile word group bfid = word ++ codes " " ++ decimal group ++ codes " " ++ bfid_text bfid

abbrev pub of_volume : List ℕ → ℕ → Vsn → List ℕ
of_volume word group vsn = word ++ codes " " ++ decimal group ++ codes " " ++ vsn.0

-- two numbers, with a space before each
abbrev pub two_numbers : ℕ → ℕ → List ℕ
two_numbers a b = codes " " ++ decimal a ++ codes " " ++ decimal b

abbrev pub finding_text : Finding → List ℕ
finding_text (finding.NoCopy group bfid) = of_bitfile (codes "nocopy") group.0 bfid
finding_text (finding.Stray group bfid) = of_bitfile (codes "stray") group.0 bfid
finding_text (finding.Short group bfid have need) = of_bitfile (codes "short") group.0 bfid ++ two_numbers have need
finding_text (finding.Overlap group vsn place other) = of_volume (codes "overlap") group.0 vsn ++ two_numbers place other
finding_text (finding.Beyond group vsn place tip) = of_volume (codes "beyond") group.0 vsn ++ two_numbers place tip
finding_text (finding.LiveSum group vsn kept total) = of_volume (codes "live") group.0 vsn ++ two_numbers kept total
finding_text (finding.NoEntry path bfid) = codes "noentry " ++ path ++ codes " " ++ bfid_text bfid
finding_text (finding.Gone path bfid) = codes "gone " ++ path ++ codes " " ++ bfid_text bfid
finding_text (finding.Lost name bfid) = codes "lost " ++ name ++ codes " " ++ bfid_text bfid
finding_text (finding.BadLabel group vsn) = of_volume (codes "label") group.0 vsn
finding_text (finding.BadChunk group vsn place) = of_volume (codes "chunk") group.0 vsn ++ codes " " ++ decimal place

-- the line of a reply, without the line feed that ends it
abbrev pub line_of : Reply → List ℕ
line_of reply.Done = codes "ok"
line_of (reply.Changed change) = codes "ok " ++ decimal change
line_of (reply.Stored bfid) = codes "ok " ++ bfid_text bfid
line_of (reply.Content bytes) = codes "ok " ++ decimal (length bytes)
line_of (reply.Files rows) = codes "ok " ++ decimal (length rows)
line_of (reply.File row) = codes "ok " ++ attributes_text row
line_of (reply.Dumped files) = codes "ok " ++ decimal files
line_of (reply.Deleted entries) = codes "ok " ++ decimal entries
line_of (reply.Merged moved freed) = codes "ok" ++ two_numbers moved freed
line_of reply.Queued = codes "ok queued"
line_of (reply.Reused volumes) = codes "ok " ++ decimal volumes
line_of (reply.Volumes rows) = codes "ok " ++ decimal (length rows)
line_of (reply.Findings rows) = codes "ok " ++ decimal (length rows)
line_of (reply.Spaced released stored skipped) = codes "ok" ++ two_numbers released stored ++ codes " " ++ decimal skipped
line_of (reply.Moved files bytes) = codes "ok" ++ two_numbers files bytes
line_of (reply.Saved bitfiles) = codes "ok " ++ decimal bitfiles
line_of reply.NoFile = codes "err nofile"
line_of (reply.WrongState found) = codes "err state " ++ state_text found
line_of (reply.ChangedMeanwhile was found) = codes "err changed" ++ two_numbers was found
line_of (reply.Full have need cap) = codes "err full" ++ two_numbers have need ++ codes " " ++ decimal cap
line_of reply.NoDump = codes "err nodump"
line_of (reply.Expired now made age) = codes "err expired" ++ two_numbers now.0 made.0 ++ codes " " ++ decimal age
line_of reply.Exists = codes "err exists"
line_of (reply.Limit limit) = codes "err limit " ++ decimal limit
line_of reply.DaemonFault = codes "err daemon"
line_of reply.NoMemory = codes "err memory"
line_of (reply.NoRoom have need) = codes "err room" ++ two_numbers have need
line_of (reply.GroupFault group) = codes "err group " ++ decimal group.0
line_of (reply.Damaged group vsn place) = codes "err " ++ of_volume (codes "damage") group.0 vsn ++ codes " " ++ decimal place
line_of (reply.AllCopies copies) = codes "err copies" ++ copies_text copies
line_of reply.NoGroup = codes "err nogroup"
line_of reply.QueueFull = codes "err queue 16"
line_of reply.NoSave = codes "err nosave"
line_of reply.NoBitfile = codes "err nobitfile"
line_of (reply.Rewritten vsn was found) = codes "err rewritten " ++ vsn.0 ++ two_numbers was found
line_of reply.Syntax = codes "err syntax"

-- rows, a line each
abbrev pub rows_text : {T : Type 0} → (T → List ℕ) → List T → List ℕ
rows_text text rows = flat_map (λ row. text row ++ 10 ∷ []) rows

-- what follows the line: of a file's bytes, these and a line feed; of rows, these
abbrev pub body_of : Reply → List ℕ
body_of (reply.Content bytes) = bytes ++ 10 ∷ []
body_of (reply.Files rows) = rows_text file_text rows
body_of (reply.Volumes rows) = rows_text volume_text rows
body_of (reply.Findings rows) = rows_text finding_text rows
body_of _ = []

abbrev pub text_of : Reply → List ℕ
text_of reply = line_of reply ++ 10 ∷ body_of reply
