-- Steps as they were spelled before there were versions and sums.
use Rattle.std.proofs.Common.{◌≡◌, ℕ, suc, List, [], ◌∷◌, ◌++◌, length, map, refl, sym, ap, subst, ◌∙◌}
use Rattle.std.specs.List.{AllByRecursion, flat_map}
use Rattle.dm_base.specs.Naming.{IsSerial}
use Rattle.dm_base.specs.declared.identifier.Bfid.{Bfid}
use Rattle.dm_base.specs.declared.serial.Vsn.{Vsn}
use Rattle.dm_base.specs.declared.volume.Chunk.{Chunk}
use Rattle.dm_durable.specs.Fields.{IsByte, IsWord, IsIdentifier, IsCount, FitsChunk, HasNoSum}
use Rattle.dm_durable.specs.declared.group.GroupStep.{GroupStep}
use Rattle.dm_durable.specs.declared.group.GroupStep.TheVariants.{Volume, Commit, Delete, Move, Free, Reuse}
use Rattle.dm_fields.specs.Fields.{byte_field, chunk_field, list_field}
use Rattle.dm_fields.specs.Numbers.{be32, be64}
use Rattle.dm_fields.specs.Once.{pair_once, bfid_once, vsn_once, old_chunk_once, list_once}
use Rattle.dm_fields.specs.Reading.{IsSpelledOnce}
use Rattle.dm_fields.specs.declared.chunks.OldChunk.{OldChunk}
use Rattle.dm_rules.specs.Version.{first_version}
use Rattle.dm_group_records.specs.declared.kinds.OldKind.{OldKind}
use Rattle.dm_group_records.specs.declared.kinds.OldKind.TheVariants as old
use Rattle.dm_group_records.specs.Chunks.{chunk_of}
use Rattle.dm_group_records.specs.OldSteps.{old_fields, IsOfOldKind}
use Rattle.dm_group_records.specs.Steps.{bfid_field, serial_field}
use Rattle.dm_group_records.proofs.StepOnce.{word_once, byte_field_once}

abbrev pub old_field : OldChunk → List ℕ
old_field c = chunk_field c.chunk

abbrev pub FitsOld : OldChunk → Type 0
FitsOld c = FitsChunk c.chunk × HasNoSum c.chunk

abbrev pub old_of : Chunk → OldChunk
old_of c = record { chunk = c }

-- chunks and their old spellings
pub olds_field : (cs : List Chunk) → flat_map chunk_field cs ≡ flat_map old_field (map old_of cs)
olds_field [] = refl
olds_field (c ∷ cs) = ap (λ l. chunk_field c ++ l) (olds_field cs)

pub olds_length : (cs : List Chunk) → length (map old_of cs) ≡ length cs
olds_length [] = refl
olds_length (c ∷ cs) = ap suc (olds_length cs)

pub olds_list : (cs : List Chunk) → list_field chunk_field cs ≡ list_field old_field (map old_of cs)
olds_list cs = (λ i. be32 (sym (olds_length cs) i) ++ flat_map chunk_field cs) ∙ ap (λ l. be32 (length (map old_of cs)) ++ l) (olds_field cs)

pub olds_fit : (cs : List Chunk) → AllByRecursion FitsChunk cs → AllByRecursion HasNoSum cs → AllByRecursion FitsOld (map old_of cs)
olds_fit [] p q = tt
olds_fit (c ∷ cs) p q = ((p.0, q.0), olds_fit cs p.1 q.1)

pub back : (cs : List Chunk) → map chunk_of (map old_of cs) ≡ cs
back [] = refl
back (c ∷ cs) = ap (c ∷◌) (back cs)

-- and the other way round
pub chunks_field : (os : List OldChunk) → flat_map old_field os ≡ flat_map chunk_field (map chunk_of os)
chunks_field [] = refl
chunks_field (o ∷ os) = ap (λ l. chunk_field o.chunk ++ l) (chunks_field os)

pub chunks_length : (os : List OldChunk) → length (map chunk_of os) ≡ length os
chunks_length [] = refl
chunks_length (o ∷ os) = ap suc (chunks_length os)

pub chunks_list : (os : List OldChunk) → list_field old_field os ≡ list_field chunk_field (map chunk_of os)
chunks_list os = (λ i. be32 (sym (chunks_length os) i) ++ flat_map old_field os) ∙ ap (λ l. be32 (length (map chunk_of os)) ++ l) (chunks_field os)

pub chunks_fit : (os : List OldChunk) → AllByRecursion FitsOld os → AllByRecursion FitsChunk (map chunk_of os) × AllByRecursion HasNoSum (map chunk_of os)
chunks_fit [] p = (tt, tt)
chunks_fit (o ∷ os) p = let rest = chunks_fit os p.1 in ((p.0.0, rest.0), (p.0.1, rest.1))

abbrev pub VolumeFields : Type 0
VolumeFields = Vsn × (ℕ × ℕ)

abbrev pub volume_spelling : VolumeFields → List ℕ
volume_spelling y = serial_field y.0 ++ (byte_field y.1.0 ++ be64 y.1.1)

abbrev pub VolumeFits : VolumeFields → Type 0
VolumeFits y = IsSerial y.0.0 × (IsByte y.1.0 × IsWord y.1.1)

abbrev pub CommitFields : Type 0
CommitFields = Bfid × (ℕ × List OldChunk)

abbrev pub commit_spelling : CommitFields → List ℕ
commit_spelling y = bfid_field y.0 ++ (be64 y.1.0 ++ list_field old_field y.1.1)

abbrev pub CommitFits : CommitFields → Type 0
CommitFits y = IsIdentifier y.0.0 × (IsWord y.1.0 × (IsCount (length y.1.1) × AllByRecursion FitsOld y.1.1))

abbrev pub MoveFields : Type 0
MoveFields = Bfid × (OldChunk × OldChunk)

abbrev pub move_spelling : MoveFields → List ℕ
move_spelling y = bfid_field y.0 ++ (old_field y.1.0 ++ old_field y.1.1)

abbrev pub MoveFits : MoveFields → Type 0
MoveFits y = IsIdentifier y.0.0 × (FitsOld y.1.0 × FitsOld y.1.1)

abbrev pub ReuseFields : Type 0
ReuseFields = Vsn × ℕ

abbrev pub reuse_spelling : ReuseFields → List ℕ
reuse_spelling y = serial_field y.0 ++ be64 y.1

abbrev pub ReuseFits : ReuseFields → Type 0
ReuseFits y = IsSerial y.0.0 × IsWord y.1

pub as_volume : (s : GroupStep) → IsOfOldKind old.Volume s → (y : VolumeFields) × (old_fields s ≡ volume_spelling y) × VolumeFits y
as_volume (Volume vsn slot version size) q = ((vsn, (slot, size)), refl, (q.1.0, (q.1.1, q.1.3)))
as_volume (Commit b len chunks) q = absurd (let e = q.0 in cc)
as_volume (Delete b) q = absurd (let e = q.0 in cc)
as_volume (Move b from to) q = absurd (let e = q.0 in cc)
as_volume (Free vsn) q = absurd (let e = q.0 in cc)
as_volume (Reuse vsn epoch version) q = absurd (let e = q.0 in cc)

pub as_commit : (s : GroupStep) → IsOfOldKind old.Commit s → (y : CommitFields) × (old_fields s ≡ commit_spelling y) × CommitFits y
as_commit (Volume vsn slot version size) q = absurd (let e = q.0 in cc)
as_commit (Commit b len chunks) q = ((b, (len, map old_of chunks)), ap (λ l. bfid_field b ++ (be64 len ++ l)) (olds_list chunks), (q.1.0, (q.1.1, (subst IsCount (sym (olds_length chunks)) q.1.2, olds_fit chunks q.1.3 q.2))))
as_commit (Delete b) q = absurd (let e = q.0 in cc)
as_commit (Move b from to) q = absurd (let e = q.0 in cc)
as_commit (Free vsn) q = absurd (let e = q.0 in cc)
as_commit (Reuse vsn epoch version) q = absurd (let e = q.0 in cc)

pub as_move : (s : GroupStep) → IsOfOldKind old.Move s → (y : MoveFields) × (old_fields s ≡ move_spelling y) × MoveFits y
as_move (Volume vsn slot version size) q = absurd (let e = q.0 in cc)
as_move (Commit b len chunks) q = absurd (let e = q.0 in cc)
as_move (Delete b) q = absurd (let e = q.0 in cc)
as_move (Move b from to) q = ((b, (old_of from, old_of to)), refl, (q.1.0, ((q.1.1, q.2.0), (q.1.2, q.2.1))))
as_move (Free vsn) q = absurd (let e = q.0 in cc)
as_move (Reuse vsn epoch version) q = absurd (let e = q.0 in cc)

pub as_reuse : (s : GroupStep) → IsOfOldKind old.Reuse s → (y : ReuseFields) × (old_fields s ≡ reuse_spelling y) × ReuseFits y
as_reuse (Volume vsn slot version size) q = absurd (let e = q.0 in cc)
as_reuse (Commit b len chunks) q = absurd (let e = q.0 in cc)
as_reuse (Delete b) q = absurd (let e = q.0 in cc)
as_reuse (Move b from to) q = absurd (let e = q.0 in cc)
as_reuse (Free vsn) q = absurd (let e = q.0 in cc)
as_reuse (Reuse vsn epoch version) q = ((vsn, epoch), refl, (q.1.0, q.1.1))

-- a commit that was read
pub commit_read : (b : Bfid) (len : ℕ) (os : List OldChunk) (cs : List Chunk) (bytes new : List ℕ) → cs ≡ map chunk_of os → (bytes ≡ commit_spelling (b, (len, os)) ++ new) × CommitFits (b, (len, os)) → (bytes ≡ old_fields (Commit b len cs) ++ new) × IsOfOldKind old.Commit (Commit b len cs)
commit_read b len os cs bytes new same is =
    let fit = chunks_fit os is.1.1.1.1 in (
      is.0 ∙ ap (λ l. (bfid_field b ++ (be64 len ++ l)) ++ new) (chunks_list os ∙ ap (list_field chunk_field) (sym same)),
      (
        refl,
        (is.1.0, is.1.1.0, subst IsCount (sym (chunks_length os) ∙ ap length (sym same)) is.1.1.1.0, subst (AllByRecursion FitsChunk) (sym same) fit.0),
        subst (AllByRecursion HasNoSum) (sym same) fit.1,
      ),
    )

-- ---- old steps tell what they are

volume_once : IsSpelledOnce volume_spelling VolumeFits
volume_once = pair_once serial_field (λ v. IsSerial v.0) (λ (t : ℕ × ℕ). byte_field t.0 ++ be64 t.1) (λ t. IsByte t.0 × IsWord t.1) vsn_once (pair_once byte_field IsByte be64 IsWord byte_field_once word_once)

pub commit_once : IsSpelledOnce commit_spelling CommitFits
commit_once = pair_once bfid_field (λ b. IsIdentifier b.0) _ _ bfid_once (pair_once be64 IsWord (list_field old_field) (λ cs. IsCount (length cs) × AllByRecursion FitsOld cs) word_once (list_once old_field FitsOld old_chunk_once))

move_once : IsSpelledOnce move_spelling MoveFits
move_once = pair_once bfid_field (λ b. IsIdentifier b.0) _ _ bfid_once (pair_once old_field FitsOld old_field FitsOld old_chunk_once old_chunk_once)

reuse_once : IsSpelledOnce reuse_spelling ReuseFits
reuse_once = pair_once serial_field (λ v. IsSerial v.0) be64 IsWord vsn_once word_once

-- the step of an old spelling
abbrev volume_step : VolumeFields → GroupStep
volume_step y = Volume y.0 y.1.0 first_version y.1.1

abbrev commit_step : CommitFields → GroupStep
commit_step y = Commit y.0 y.1.0 (map chunk_of y.1.1)

abbrev move_step : MoveFields → GroupStep
move_step y = Move y.0 y.1.0.chunk y.1.1.chunk

abbrev reuse_step : ReuseFields → GroupStep
reuse_step y = Reuse y.0 y.1 first_version

is_volume : (s : GroupStep) (q : IsOfOldKind old.Volume s) → s ≡ volume_step (as_volume s q).0
unfolding as_volume
is_volume (Volume vsn slot version size) q = ap (λ v. Volume vsn slot v size) q.2
is_volume (Commit b len chunks) q = absurd (let e = q.0 in cc)
is_volume (Delete b) q = absurd (let e = q.0 in cc)
is_volume (Move b from to) q = absurd (let e = q.0 in cc)
is_volume (Free vsn) q = absurd (let e = q.0 in cc)
is_volume (Reuse vsn epoch version) q = absurd (let e = q.0 in cc)

is_commit : (s : GroupStep) (q : IsOfOldKind old.Commit s) → s ≡ commit_step (as_commit s q).0
unfolding as_commit
is_commit (Volume vsn slot version size) q = absurd (let e = q.0 in cc)
is_commit (Commit b len chunks) q = ap (Commit b len) (sym (back chunks))
is_commit (Delete b) q = absurd (let e = q.0 in cc)
is_commit (Move b from to) q = absurd (let e = q.0 in cc)
is_commit (Free vsn) q = absurd (let e = q.0 in cc)
is_commit (Reuse vsn epoch version) q = absurd (let e = q.0 in cc)

is_move : (s : GroupStep) (q : IsOfOldKind old.Move s) → s ≡ move_step (as_move s q).0
unfolding as_move
is_move (Volume vsn slot version size) q = absurd (let e = q.0 in cc)
is_move (Commit b len chunks) q = absurd (let e = q.0 in cc)
is_move (Delete b) q = absurd (let e = q.0 in cc)
is_move (Move b from to) q = refl
is_move (Free vsn) q = absurd (let e = q.0 in cc)
is_move (Reuse vsn epoch version) q = absurd (let e = q.0 in cc)

is_reuse : (s : GroupStep) (q : IsOfOldKind old.Reuse s) → s ≡ reuse_step (as_reuse s q).0
unfolding as_reuse
is_reuse (Volume vsn slot version size) q = absurd (let e = q.0 in cc)
is_reuse (Commit b len chunks) q = absurd (let e = q.0 in cc)
is_reuse (Delete b) q = absurd (let e = q.0 in cc)
is_reuse (Move b from to) q = absurd (let e = q.0 in cc)
is_reuse (Free vsn) q = absurd (let e = q.0 in cc)
is_reuse (Reuse vsn epoch version) q = ap (Reuse vsn epoch) q.2

pub old_step_once : (k : OldKind) (a b : GroupStep) (r s : List ℕ) → IsOfOldKind k a → IsOfOldKind k b → old_fields a ++ r ≡ old_fields b ++ s → (a ≡ b) × (r ≡ s)
old_step_once old.Volume a b r s p q e =
    let x = as_volume a p in
    let y = as_volume b q in
    let both = volume_once x.0 y.0 r s x.2 y.2 (sym (ap (λ l. l ++ r) x.1) ∙ e ∙ ap (λ l. l ++ s) y.1) in
    (is_volume a p ∙ ap volume_step both.0 ∙ sym (is_volume b q), both.1)
old_step_once old.Commit a b r s p q e =
    let x = as_commit a p in
    let y = as_commit b q in
    let both = commit_once x.0 y.0 r s x.2 y.2 (sym (ap (λ l. l ++ r) x.1) ∙ e ∙ ap (λ l. l ++ s) y.1) in
    (is_commit a p ∙ ap commit_step both.0 ∙ sym (is_commit b q), both.1)
old_step_once old.Move a b r s p q e =
    let x = as_move a p in
    let y = as_move b q in
    let both = move_once x.0 y.0 r s x.2 y.2 (sym (ap (λ l. l ++ r) x.1) ∙ e ∙ ap (λ l. l ++ s) y.1) in
    (is_move a p ∙ ap move_step both.0 ∙ sym (is_move b q), both.1)
old_step_once old.Reuse a b r s p q e =
    let x = as_reuse a p in
    let y = as_reuse b q in
    let both = reuse_once x.0 y.0 r s x.2 y.2 (sym (ap (λ l. l ++ r) x.1) ∙ e ∙ ap (λ l. l ++ s) y.1) in
    (is_reuse a p ∙ ap reuse_step both.0 ∙ sym (is_reuse b q), both.1)
