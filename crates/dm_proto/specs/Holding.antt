-- What a reader holds, and what each of its steps leaves: for the contracts of private functions.
use Rattle.std.specs.Prelude.{◌≡◌, ℕ, ◌-◌, ◌<◌, ◌≤◌, Option, Some, None, List, [], ◌∷◌, ◌++◌, length, take, replicate, OnSome, IsSome}
use Rattle.std.specs.Option.{option_to_list}
use Rattle.dm_base.specs.Limits.{file_limit}
use Rattle.dm_proto.specs.Words.{words, ended, IsLine}
use Rattle.dm_proto.specs.Found.{found_in}
use Rattle.dm_proto.specs.Stream.{Consumes}
use Rattle.dm_proto.specs.declared.heard.Heard.{Heard}
use Rattle.dm_proto.specs.declared.line.Line.TheVariants as line
use Rattle.dm_proto.specs.declared.line.Opening.{Opening}
use Rattle.dm_proto.specs.declared.step.Payload.{Payload}
use Rattle.dm_proto.specs.declared.step.Payload.TheVariants.{Kept, Skipped}
use Rattle.dm_proto.specs.declared.step.Step.{Step}

-- the bytes of a payload so far; for bytes that were read off, zeros stand
abbrev pub payload_of : Payload → List ℕ
payload_of (Kept opening bytes) = bytes.items
payload_of (Skipped opening left) = replicate (opening.size - left) 0

-- the bytes of what is begun: those of the line and, behind its line feed, those of the payload
abbrev pub begun_of : List ℕ → Option Payload → List ℕ
begun_of text None = text
begun_of text (Some payload) = text ++ 10 ∷ payload_of payload

-- a payload follows its line, and something of it is missing; it is kept where a file may have so many bytes
abbrev pub IsMissing : Payload → Type 0
IsMissing (Kept opening bytes) = (opening.size ≤ file_limit) × (length bytes.items < opening.size)
IsMissing (Skipped opening left) = (file_limit < opening.size) × (0 < left) × (left ≤ opening.size)

abbrev pub opening_of : Payload → Opening
opening_of (Kept opening bytes) = opening
opening_of (Skipped opening left) = opening

pub record IsHeldPayload (text : List ℕ) (payload : Payload) : Type 0 where
  pub is_line : IsLine text
  pub opened : found_in (words text) ≡ line.Payload (opening_of payload)
  pub missing : IsMissing payload

abbrev pub IsHeld : List ℕ → Option Payload → Type 0
IsHeld text None = IsLine text
IsHeld text (Some payload) = IsHeldPayload text payload

-- what is left of a line and its line feed, and what they say: only a payload that is begun keeps the line
pub record IsEnded (old new : List ℕ) (payload : Option Payload) (ready : Option Heard) : Type 0 where
  pub heard : Consumes (ended old) (option_to_list ready) (begun_of new payload)
  pub held : IsHeld new payload
  pub idle : OnSome ready (begun_of new payload ≡ [])

-- what was begun and the bytes that the step took say what it ended, and what is begun now is left
pub record IsStep (begun bytes new : List ℕ) (step : Step) : Type 0 where
  pub fits : step.taken ≤ length bytes
  pub goes : 0 < length bytes → 0 < step.taken
  pub heard : Consumes (begun ++ take step.taken bytes) (option_to_list step.ready) (begun_of new step.payload)
  pub held : IsHeld new step.payload
  pub idle : OnSome step.ready (begun_of new step.payload ≡ [])

-- what a reader holds: where something is ready, nothing is begun
pub record IsReader (text : List ℕ) (payload : Option Payload) (ready : Option Heard) : Type 0 where
  pub held : IsHeld text payload
  pub idle : IsSome ready → begun_of text payload ≡ []
