-- The log of a bay over memory: what each write overwrote, and which files were synced. The files as they are now
-- are the truth; what they were before is computed backwards. A log stands here with its newest change first.
use Rattle.std.specs.Prelude.{◌≡◌, ◌≢◌, ◌⊎◌, ℕ, zero, suc, ◌+◌, ◌-◌, ◌≤◌, ◌^◌, Bool, IsTrue, List, [], ◌∷◌, ◌++◌, length, take, drop, replicate, Vec, ◌==◌, if◌then◌else◌}
use Rattle.std.proofs.Common.{inl, inr, sym, ap, subst, arith}
use Rattle.std.specs.declared.alloc.Global.{Global}
use Rattle.dm_host.specs.declared.change.Change.{Change}
use Rattle.dm_host.specs.declared.change.Change.TheVariants.{Wrote, Synced}
use Rattle.dm_host.specs.Disk.{Disk, Image, Torn, Written}

-- the bytes of each file; a file that isn't there has none
abbrev pub contents : List (Vec ℕ Global) → Image
contents [] g = []
contents (file ∷ files) zero = file.items
contents (file ∷ files) (suc g) = contents files g

-- a file filled up with zeros to this length
abbrev pub lengthened : ℕ → List ℕ → List ℕ
lengthened end file = file ++ replicate (end - length file) 0

-- a file with these bytes written over those at a place
abbrev pub overlaid : ℕ → List ℕ → List ℕ → List ℕ
overlaid place bytes file = take place file ++ bytes ++ drop (place + length bytes) file

-- the file before a write, from what that overwrote and the length
abbrev pub restored : ℕ → ℕ → List ℕ → List ℕ → List ℕ
restored place end before now = take end (take place now ++ before ++ drop (place + length before) now)

-- the files before a change
abbrev pub undone : Change → Image → Image
undone (Wrote file place len end before) files = λ g. if g == file then restored place end before.items (files g) else files g
undone (Synced file) files = files

-- what a crash may leave of file f, which is `now`: since the last sync each write may have been cut short
abbrev pub Reaches : ℕ → List Change → List ℕ → List ℕ → Type 0
Reaches f [] now c = c ≡ now
Reaches f (Wrote file place len end before ∷ earlier) now c =
    ((f ≡ file) × ((d : List ℕ) × Reaches f earlier (restored place end before.items now) d × Torn place len d c)) ⊎ ((f ≢ file) × Reaches f earlier now c)
Reaches f (Synced file ∷ earlier) now c = ((f ≡ file) × (c ≡ now)) ⊎ ((f ≢ file) × Reaches f earlier now c)

-- what a crash may leave of file f
abbrev pub LeftOf : List Change → Image → ℕ → List ℕ → Type 0
LeftOf log files f c = (c ≡ files f) ⊎ Reaches f log (files f) c

-- an image that a crash may leave: of a file that isn't told anything
abbrev pub LeftNow : (ℕ → Bool) → List Change → Image → Image → Type 0
LeftNow told log files x = (g : ℕ) → IsTrue (told g) → LeftOf log files g (x g)

-- what a crash might have left when the log was at least t long
abbrev pub LeftSince : (ℕ → Bool) → List Change → Image → ℕ → Image → Type 0
LeftSince told [] files t x = LeftNow told [] files x
LeftSince told (change ∷ earlier) files t x =
    LeftNow told (change ∷ earlier) files x ⊎ ((t ≤ length earlier) × LeftSince told earlier (undone change files) t x)

-- the bytes of the files that are told
abbrev pub shown : (ℕ → Bool) → Image → Image
shown told files g = if told g then files g else []

-- the disk of these files with this log, of which these are told
abbrev pub disk_from : (ℕ → Bool) → List Change → Image → Disk
disk_from told log files = record {
  told = told;
  seen = shown told files;
  may_leave = λ g c. IsTrue (told g) → LeftOf log files g c;
  moment = length log;
  left_since = LeftSince told log files;
}

-- a write of these bytes to a file, and its note in the log
pub record Puts (file place : ℕ) (bytes : List ℕ) (log : List Change) (files : Image) (log' : List Change) (files' : Image) : Type 0 where
  pub before : Vec ℕ Global
  pub noted : log' ≡ Wrote file place (length bytes) (length (files file)) before ∷ log
  pub back : restored place (length (files file)) before.items (files' file) ≡ files file
  pub written : Written place bytes (files file) (files' file)
  pub others : (g : ℕ) → g ≢ file → files' g ≡ files g

pub now_counts : (told : ℕ → Bool) (log : List Change) (files : Image) (t : ℕ) (x : Image) → LeftNow told log files x → LeftSince told log files t x
now_counts told [] files t x now = now
now_counts told (change ∷ earlier) files t x now = inl now

pub now_alone : (told : ℕ → Bool) (log : List Change) (files : Image) (x : Image) → LeftSince told log files (length log) x → LeftNow told log files x
now_alone told [] files x now = now
now_alone told (change ∷ earlier) files x (inl now) = now
now_alone told (change ∷ earlier) files x (inr past) = absurd (omega (arith, past.0))

pub shown_told : (told : ℕ → Bool) (files : Image) (g : ℕ) → IsTrue (told g) → shown told files g ≡ files g
shown_told told files g is = ap (λ (b : Bool). if b then files g else []) is

pub shown_may_stay : (told : ℕ → Bool) (log : List Change) (files : Image) (g : ℕ) → IsTrue (told g) → LeftOf log files g (shown told files g)
shown_may_stay told log files g is = inl (shown_told told files g is)

pub shown_bounded : (told : ℕ → Bool) (files : Image) (g : ℕ) → IsTrue (told g) → length (files g) ≤ 2 ^ 62 → length (shown told files g) ≤ 2 ^ 62
shown_bounded told files g is small = subst (λ (l : List ℕ). length l ≤ 2 ^ 62) (sym (shown_told told files g is)) small
