-- What a session hears: an input up to the first command that ends it.
use Rattle.std.specs.Prelude.{◌≡◌, ℕ, Bool, true, false, if◌then◌else◌, List, [], ◌∷◌}
use Rattle.std.specs.List.{AllByRecursion}
use Rattle.dm_base.specs.declared.command.Command.TheVariants.{Quit, Shutdown}
use Rattle.dm_proto.specs.Stream.{Ending, Hears}
use Rattle.dm_proto.specs.declared.heard.Heard.{Heard}
use Rattle.dm_proto.specs.declared.heard.Heard.TheVariants as heard

-- `quit` and `shutdown` end a session
abbrev pub is_closing : Heard → Bool
is_closing (heard.Command Quit) = true
is_closing (heard.Command Shutdown) = true
is_closing _ = false

-- how a session ends: at such a command, or with its input
pub data Closing : Type 0 where
  AtCommand : Closing
  WithInput : (ending : Ending) → Closing

-- the items up to the first that ends the session, and this one
abbrev pub up_to_closing : List Heard → List Heard
up_to_closing [] = []
up_to_closing (h ∷ hs) = if is_closing h then h ∷ [] else h ∷ up_to_closing hs

abbrev pub closing_of : List Heard → Ending → Closing
closing_of [] ending = WithInput ending
closing_of (h ∷ hs) ending = if is_closing h then AtCommand else closing_of hs ending

-- a session that is sent this input hears these, in this order, and then it ends so
pub record HearsSession (input : List ℕ) (items : List Heard) (closing : Closing) : Type 0 where
  pub all : List Heard
  pub ending : Ending
  pub hears : Hears input all ending
  pub is_front : items ≡ up_to_closing all
  pub ends : closing ≡ closing_of all ending

-- none of these ends a session
abbrev pub GoesOn : List Heard → Type 0
GoesOn items = AllByRecursion (λ h. is_closing h ≡ false) items
