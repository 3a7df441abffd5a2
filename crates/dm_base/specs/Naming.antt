-- The grammar of names.
use Rattle.std.specs.Prelude.{◌≡◌, ◌==◌, ℕ, ◌<◌, ◌≤◌, nat_le, nat_lt, Bool, true, false, ◌&&◌, ◌||◌, if◌then◌else◌, IsTrue, List, [], ◌∷◌, length}
use Rattle.std.specs.List.{AllByRecursion, flat_map}
use Rattle.dm_base.specs.Limits.{path_limit, dump_name_limit}

-- A-Z, a-z, 0-9, and `.` (46), `_` (95), `-` (45)
abbrev pub is_name_byte : ℕ → Bool
is_name_byte b = (nat_le 65 b && nat_le b 90) || (nat_le 97 b && nat_le b 122) || (nat_le 48 b && nat_le b 57) || b == 46 || b == 95 || b == 45

-- a name: one byte or more
pub record IsName (name : List ℕ) : Type 0 where
  pub some : 0 < length name
  pub bytes : AllByRecursion (λ b. IsTrue (is_name_byte b)) name

-- a path: a slash (47) and a name, once or more
pub record IsPath (text : List ℕ) : Type 0 where
  pub names : List (List ℕ)
  pub some : 0 < length names
  pub each : AllByRecursion IsName names
  pub spelled : text ≡ flat_map (λ name. 47 ∷ name) names
  pub fits : length text ≤ path_limit

-- what `Path::of_bytes` tests behind the first slash: names with one slash between them, of which the
-- first has begun where `named` is true
abbrev pub is_spelled : Bool → List ℕ → Bool
is_spelled named [] = named
is_spelled named (b ∷ bs) = if b == 47 then named && is_spelled false bs else is_name_byte b && is_spelled true bs

-- the same of a whole text: the invariant of a `Path`
abbrev pub is_path_text : List ℕ → Bool
is_path_text [] = false
is_path_text (first ∷ rest) = first == 47 && nat_le (length (first ∷ rest)) path_limit && is_spelled false rest

-- the name of a dump: 1 to 32 bytes of a name
pub record IsDumpName (text : List ℕ) : Type 0 where
  pub some : 0 < length text
  pub bytes : AllByRecursion (λ b. IsTrue (is_name_byte b)) text
  pub fits : length text ≤ dump_name_limit

abbrev pub is_all_name : List ℕ → Bool
is_all_name [] = true
is_all_name (b ∷ bs) = is_name_byte b && is_all_name bs

-- the same as a test: the invariant of a `DumpName`
abbrev pub is_dump_name_text : List ℕ → Bool
is_dump_name_text text = nat_lt 0 (length text) && nat_le (length text) dump_name_limit && is_all_name text

-- A-Z, 0-9
abbrev pub is_serial_byte : ℕ → Bool
is_serial_byte b = (nat_le 65 b && nat_le b 90) || (nat_le 48 b && nat_le b 57)

-- the serial number of a volume: six of these
pub record IsSerial (text : List ℕ) : Type 0 where
  pub six : length text ≡ 6
  pub bytes : AllByRecursion (λ b. IsTrue (is_serial_byte b)) text

abbrev pub is_all_serial : List ℕ → Bool
is_all_serial [] = true
is_all_serial (b ∷ bs) = is_serial_byte b && is_all_serial bs
