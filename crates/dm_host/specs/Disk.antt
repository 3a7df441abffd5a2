-- Numbered files, what a crash may leave of them, and what a call does to one.
use Rattle.std.specs.Prelude.{◌≡◌, ℕ, ◌+◌, ◌≤◌, max, Bool, false, IsTrue, List, [], ◌++◌, length, take, drop, replicate}

-- the bytes of each file
abbrev pub Image : Type 0
Image = ℕ → List ℕ

-- A file that isn't told may hold anything: of it the parts say nothing.
pub record Disk : Type 1 where
  pub told : ℕ → Bool  -- what this file holds, and what a crash may do to it, is known
  pub seen : Image  -- what a read gives
  pub may_leave : ℕ → List ℕ → Type 0  -- what a crash now may leave of a file
  pub moment : ℕ  -- now, as a number that doesn't fall
  pub left_since : ℕ → Image → Type 0  -- what a crash at some moment since that one might have left

-- of a device that tells of no file
abbrev pub untold : Disk
untold = record {
  told = λ g. false;
  seen = λ g. [];
  may_leave = λ g c. Unit {0};
  moment = 0;
  left_since = λ t x. Unit {0};
}

-- what this file holds is known
abbrev pub Tells : Disk → ℕ → Type 0
Tells d g = IsTrue (d.told g)

-- the files are independent: each may be left by itself
abbrev pub MayLeave : Disk → Image → Type 0
MayLeave d x = (g : ℕ) → d.may_leave g (x g)

-- a crash leaves this and nothing else
abbrev pub Only : List ℕ → (List ℕ → Type 0) → Type 0
Only file outcomes = (c : List ℕ) → outcomes c → c ≡ file

-- each outcome of a crash for this file has P
abbrev pub Settled : Disk → ℕ → (List ℕ → Type 0) → Type 0
Settled d f P = (c : List ℕ) → d.may_leave f c → P c

-- A write of n bytes that may be cut short: any bytes in the range and past the old end, the same elsewhere.
pub record Torn (place n : ℕ) (old new : List ℕ) : Type 0 where
  pub before : place ≤ length old → take place new ≡ take place old
  pub past_end : length old ≤ place → take (length old) new ≡ old
  pub after : drop (place + n) new ≡ drop (place + n) old
  pub no_shorter : length old ≤ length new
  pub no_longer : length new ≤ max (length old) (place + n)

-- A write that was done: the bytes stand there.
pub record Written (place : ℕ) (bytes old new : List ℕ) : Type 0 where
  pub within : place + length bytes ≤ length new
  pub there : take (length bytes) (drop place new) ≡ bytes
  pub torn : Torn place (length bytes) old new

-- what a read of n bytes gives: zeros past the end
abbrev pub part : List ℕ → ℕ → ℕ → List ℕ
part file place n = take n (drop place file ++ replicate n 0)

abbrev pub Same : List ℕ → List ℕ → Type 0
Same old new = new ≡ old
