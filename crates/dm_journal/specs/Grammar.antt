-- The payloads that a journal file stands for. A frame is the open gate 1, a length and a payload; the byte behind
-- the last frame is the next gate, which is closed: any other byte. What follows a closed gate has no meaning.
use Rattle.std.specs.Prelude.{◌≡◌, ◌≢◌, ◌⊎◌, ℕ, ◌≤◌, List, [], ◌∷◌, ◌++◌, length, flat_map}
use Rattle.std.specs.Int.{w32, to_be_bytes}
use Rattle.std.specs.List.{AllByRecursion}

-- the greatest length of a payload
abbrev pub longest : ℕ
longest = 20971520

-- what a journal's buffer has room for: the longest payload, its length and a gate
abbrev pub buffer_room : ℕ
buffer_room = 20971526

-- a payload that a journal takes
abbrev pub Fits : List ℕ → Type 0
Fits payload = length payload ≤ longest

-- what stands between two gates
abbrev pub inner : List ℕ → List ℕ
inner payload = to_be_bytes w32 (length payload) ++ payload

abbrev pub frame : List ℕ → List ℕ
frame payload = 1 ∷ inner payload

abbrev pub frames : List (List ℕ) → List ℕ
frames payloads = flat_map frame payloads

-- the frames of these payloads, and a closed gate
pub record AtRest (payloads : List (List ℕ)) (file : List ℕ) : Type 0 where
  pub gate : ℕ
  pub junk : List ℕ
  pub closed : gate ≢ 1
  pub is : file ≡ frames payloads ++ gate ∷ junk

-- One more is being written: behind the frames stands a closed gate, or an open one with that frame whole behind it.
pub record Pends (payloads : List (List ℕ)) (payload file : List ℕ) : Type 0 where
  pub gate : ℕ
  pub rest : List ℕ
  pub is : file ≡ frames payloads ++ gate ∷ rest
  pub whole : gate ≡ 1 → (junk : List ℕ) × (rest ≡ inner payload ++ 0 ∷ junk)

-- What a load finds in a file. One of at most a byte stands for no payload.
abbrev pub StandsFor : List (List ℕ) → List ℕ → Type 0
StandsFor payloads file = AllByRecursion Fits payloads × (((length file ≤ 1) × (payloads ≡ [])) ⊎ AtRest payloads file)

-- the payloads from before, or one more
abbrev pub BeforeOrAfter : List (List ℕ) → List ℕ → List ℕ → Type 0
BeforeOrAfter payloads payload file = StandsFor payloads file ⊎ StandsFor (payloads ++ payload ∷ []) file
