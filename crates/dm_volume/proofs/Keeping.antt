-- What a file keeps while it, or another one, is worked on.
use Rattle.std.proofs.Common.{◌≡◌, ℕ, List, length, Result, OnOk, OnErr, sym, subst}
use Rattle.dm_host.specs.declared.Failed.{Failed}
use Rattle.dm_host.specs.Disk.{Disk, Image, MayLeave, Settled, Same, Tells}
use Rattle.dm_host.specs.Works.{Works, File, Follows}
use Rattle.dm_host.proofs.Moments.{settled_still, fewer_after, each_moment}
use Rattle.dm_rules.specs.Known.{Known, known_with_write, known_without_range, HasKnown}
use Rattle.dm_rules.proofs.Knowledge.{holds-forgotten_same}
use Rattle.dm_volume.specs.Volume.{Replaces, Keeps}
use Rattle.dm_volume.proofs.Replacing.{so_err, both_ok}

module _ {T : Type 0} (file place : ℕ) (bytes : List ℕ) (old new : Disk) (result : Result T Failed) (w : Replaces file place bytes old new result) (told : Tells old file)
    (known : Known) (k : Keeps old file known) where
  -- the bytes of a write that was done are kept
  pub keeps_done : OnOk result (Keeps new file (known_with_write place bytes known))
  keeps_done = both_ok result (w.done told known k.seen) (w.kept told known k.seen) (λ seen left. record { seen = seen; left = left })

  -- one that failed leaves its range unknown, and keeps the rest
  pub keeps_failed : OnErr result (Keeps new file (known_without_range place (length bytes) known))
  keeps_failed = so_err result (w.failed told known k.seen) (λ seen. record {
    seen = seen;
    left = λ c left. (w.any_moment known k.left).now (λ g. c) (λ g is. subst (λ (h : ℕ). new.may_leave h c) (sym is) left);
  })

-- Each image that a crash since the start of a write may have left holds what was known outside its range.
pub left_since-holds : {T : Type 0} (file place : ℕ) (bytes : List ℕ) (old new : Disk) (result : Result T Failed) → Replaces file place bytes old new result
    → ((x : Image) → old.left_since old.moment x → MayLeave old x) → (known : Known) → Settled old file (HasKnown known) → (x : Image) → new.left_since old.moment x
    → HasKnown (known_without_range place (length bytes) known) (x file)
left_since-holds file place bytes old new result w only_now known settled =
    each_moment (File file) old new (λ x. HasKnown (known_without_range place (length bytes) known) (x file)) (w.any_moment known settled) only_now
    (λ x left. holds-forgotten_same place (length bytes) known (x file) (settled (x file) (left file)))

-- a call that changes no content
pub keeps_same : (file : ℕ) (old new : Disk) → Works (File file) old new (Follows Same file old) → new.seen file ≡ old.seen file → (known : Known) → Keeps old file known
    → Keeps new file known
keeps_same file old new w same known k = record {
  seen = subst (λ (l : List ℕ). HasKnown known l) (sym same) k.seen;
  left = λ c left. k.left c (fewer_after file old new w c left);
}

-- a work on another file
pub keeps_apart : (file other : ℕ) → (other ≡ file → ⊥) → (old new : Disk) (P : Image → Type 0) → Works (File file) old new P → (known : Known) → Keeps old other known
    → Keeps new other known
keeps_apart file other apart old new P w known k = record {
  seen = subst (λ (l : List ℕ). HasKnown known l) (sym (w.others other apart).seen) k.seen;
  left = settled_still file other apart old new P (HasKnown known) w k.left;
}
