-- Look-ups in lists, and the least slot that is free.
use Rattle.std.proofs.Common.{◌≡◌, ℕ, suc, ◌+◌, ◌-◌, List, [], ◌∷◌, sym, ap, ◌∙◌, cond, true, false, Option, Some, None, nat_eq}
use Rattle.std.proofs.lemmas.Bool.{eq-eqb, ne_eqb}
use Rattle.dm_base.specs.declared.volume.Chunk.{Chunk}
use Rattle.dm_base.specs.declared.volume.Piece.{Piece}
use Rattle.dm_durable.specs.declared.group.VolumeRow.{VolumeRow}
use Rattle.dm_durable.specs.Group.{chunk_at}
use Rattle.dm_durable.specs.Tables.{ByName}
use Rattle.dm_durable.specs.Volumes.{free_slot}
use Rattle.dm_model.specs.GroupCalls.{piece_at}
use Rattle.dm_tables.specs.Rows.{any}

-- ---- the chunk at an offset
pub chunk_on : (offset : ℕ) (cs rest : List Chunk) (c : Chunk) (whole : Option Chunk) → cs ≡ c ∷ rest → (c.offset ≡ offset → ⊥) → chunk_at offset cs ≡ whole → chunk_at offset rest ≡ whole
chunk_on offset cs rest c whole is other so = sym (ap (chunk_at offset) is ∙ ap (λ b. cond b (Some c) (chunk_at offset rest)) (ne_eqb c.offset offset other)) ∙ so

pub chunk_here : (offset : ℕ) (cs rest : List Chunk) (c : Chunk) (whole : Option Chunk) → cs ≡ c ∷ rest → c.offset ≡ offset → chunk_at offset cs ≡ whole → Some c ≡ whole
chunk_here offset cs rest c whole is here so = sym (ap (chunk_at offset) is ∙ ap (λ b. cond b (Some c) (chunk_at offset rest)) (eq-eqb c.offset offset here)) ∙ so

pub chunk_end : (offset : ℕ) (cs : List Chunk) (whole : Option Chunk) → cs ≡ [] → chunk_at offset cs ≡ whole → None ≡ whole
chunk_end offset cs whole none so = sym (ap (chunk_at offset) none) ∙ so

-- ---- the piece at a place
pub piece_on : (left : ℕ) (ps rest : List Piece) (p : Piece) (whole : Option Piece) → ps ≡ p ∷ rest → (left ≡ 0 → ⊥) → piece_at left ps ≡ whole → piece_at (left - 1) rest ≡ whole
piece_on left ps rest p whole is other so = sym (ap (piece_at left) is ∙ ap (λ b. cond b (Some p) (piece_at (left - 1) rest)) (ne_eqb left 0 other)) ∙ so

pub piece_here : (left : ℕ) (ps rest : List Piece) (p : Piece) (whole : Option Piece) → ps ≡ p ∷ rest → left ≡ 0 → piece_at left ps ≡ whole → Some p ≡ whole
piece_here left ps rest p whole is here so = sym (ap (piece_at left) is ∙ ap (λ b. cond b (Some p) (piece_at (left - 1) rest)) (eq-eqb left 0 here)) ∙ so

pub piece_end : (left : ℕ) (ps : List Piece) (whole : Option Piece) → ps ≡ [] → piece_at left ps ≡ whole → None ≡ whole
piece_end left ps whole none so = sym (ap (piece_at left) none) ∙ so

-- ---- the least slot that is free
pub slot_on : (volumes : ByName VolumeRow) (left more slot whole : ℕ) → left ≡ suc more → any (λ vsn v. nat_eq v.slot slot) volumes ≡ true → free_slot volumes left slot ≡ whole → free_slot volumes more (slot + 1) ≡ whole
unfolding free_slot
slot_on volumes left more slot whole is taken so = sym (ap (λ n. free_slot volumes n slot) is ∙ ap (λ b. cond b (free_slot volumes more (slot + 1)) slot) taken) ∙ so

pub slot_here : (volumes : ByName VolumeRow) (left more slot whole : ℕ) → left ≡ suc more → any (λ vsn v. nat_eq v.slot slot) volumes ≡ false → free_slot volumes left slot ≡ whole → slot ≡ whole
unfolding free_slot
slot_here volumes left more slot whole is free so = sym (ap (λ n. free_slot volumes n slot) is ∙ ap (λ b. cond b (free_slot volumes more (slot + 1)) slot) free) ∙ so

pub slot_end : (volumes : ByName VolumeRow) (left slot whole : ℕ) → left ≡ 0 → free_slot volumes left slot ≡ whole → slot ≡ whole
unfolding free_slot
slot_end volumes left slot whole none so = sym (ap (λ n. free_slot volumes n slot) none) ∙ so
