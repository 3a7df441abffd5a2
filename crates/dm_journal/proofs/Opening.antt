-- A file that is made ready to be read, in the disks before, after its sync, and after a gate was written into an empty one.
use Rattle.std.proofs.Common.{◌≡◌, inl, inr, ℕ, ◌<◌, ◌≤◌, List, [], ◌∷◌, length, refl, sym, subst, arith}
use Rattle.dm_host.specs.Disk.{Disk, Only, Same, Tells, Torn}
use Rattle.dm_host.specs.Works.{Works, File, Follows}
use Rattle.dm_host.proofs.Moments.{weaker, and_then, fewer_after}
use Rattle.dm_journal.specs.Load.{Reading, Reopens, loading_at}

pub record Front (file : List ℕ) : Type 0 where
  pub gate : ℕ
  pub rest : List ℕ
  pub is : file ≡ gate ∷ rest

pub front_of : (file : List ℕ) → 0 < length file → Front file
front_of [] long = absurd (omega arith)
front_of (a ∷ rest) long = record { gate = a; rest = rest; is = refl }

-- at the start of a file that has a gate and is synced
pub reading_start : (f : ℕ) (d : Disk) → Tells d f → (end : ℕ) → end ≡ length (d.seen f) → 0 < end → Only (d.seen f) (d.may_leave f) → Reading d (loading_at f 0 0 end) []
reading_start f d told end is long only =
    let front = front_of (d.seen f) (omega (arith, is, long)) in
    record { told = told; place = refl; fits = tt; gate = front.gate; rest = front.rest; is = front.is; end = is; synced = only }

pub opens_same : (f : ℕ) (d0 d1 : Disk) → Works (File f) d0 d1 (Follows Same f d0) → Works (File f) d0 d1 (Follows Reopens f d0)
opens_same f d0 d1 w = weaker (File f) d0 d1 (Follows Same f d0) (Follows Reopens f d0) w (λ x follows. (follows.0, follows.1, inl follows.2))

pub opens_written : (f : ℕ) (d0 d1 d2 : Disk) → Works (File f) d0 d1 (Follows Same f d0) → length (d1.seen f) ≤ 1 → Only (d1.seen f) (d1.may_leave f)
    → Works (File f) d1 d2 (Follows (Torn 0 1) f d1) → Works (File f) d0 d2 (Follows Reopens f d0)
opens_written f d0 d1 d2 w1 short only w2 =
    and_then (File f) d0 d1 d2 (Follows Reopens f d0) (opens_same f d0 d1 w1)
    (weaker (File f) d1 d2 (Follows (Torn 0 1) f d1) (Follows Reopens f d0) w2 (λ x follows.
    let small : length follows.0 ≤ 1 = subst (λ (l : List ℕ). length l ≤ 1) (sym (only follows.0 follows.1)) short in
    (follows.0, fewer_after f d0 d1 w1 follows.0 follows.1, inr (small, omega (arith, small, follows.2.no_longer)))))
