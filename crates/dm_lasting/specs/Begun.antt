-- What the answer to a put that begins says.
use Rattle.std.specs.Prelude.{◌≡◌, ℕ, true, None, Some, List}
use Rattle.std.specs.FinMap as map
use Rattle.dm_durable.specs.DaemonConditions.{MayBeMade}
use Rattle.dm_durable.specs.Inodes.{bytes_online}
use Rattle.dm_model.specs.declared.state.Joint.{Joint}
use Rattle.dm_model.specs.declared.state.OpenRequest.{OpenRequest}
use Rattle.dm_model.specs.Files.{File, file_at, is_put}

-- the bytes are those of the file at the path, which has them on the disk, and the content of the bitfile in the state after it, in
-- which the request is the put of it; and the request and the bitfile are new in the state before it
pub record PutBegins (j k : Joint) (path : List ℕ) (n b : ℕ) (bytes : List ℕ) : Type 0 where
  pub file : File
  pub is : file_at j.daemon path ≡ Some file
  pub form : MayBeMade file.inode.contents
  pub online : bytes_online file.inode.contents ≡ bytes
  pub content : map.get k.history.contents b ≡ Some bytes
  pub request : OpenRequest
  pub opened : map.get k.daemon.requests n ≡ Some request
  pub put : is_put request.kind ≡ true
  pub made : request.bfid.0 ≡ b
  pub on : request.ino.0 ≡ file.number
  pub new_request : map.get j.daemon.requests n ≡ None
  pub new_entry : map.get j.daemon.tables.entries b ≡ None
  pub new_content : map.get j.history.contents b ≡ None
