-- Loops over pieces: the zones that were written of them, their sums and their chunks.
use Rattle.std.proofs.Common.{◌≡◌, ℕ, ◌+◌, List, [], ◌∷◌, ◌++◌, length, drop, slice_get, refl, sym, ap, ◌∙◌, append_assoc, Bool, true, false, cond, ◌&&◌}
use Rattle.std.specs.Prelude as prelude
use Rattle.std.specs.FinMap as map
use Rattle.std.specs.List.{flat_map}
use Rattle.std.proofs.lemmas.List.{append-nil}
use Rattle.dm_base.specs.declared.volume.Chunk.{Chunk}
use Rattle.dm_base.specs.declared.volume.Piece.{Piece}
use Rattle.dm_durable.specs.Tables.{ByNumber}
use Rattle.dm_group_plans.specs.Found.{with_sum}
use Rattle.dm_model.specs.declared.state.Reserved.{Reserved}
use Rattle.dm_model.specs.declared.state.WrittenZone.{WrittenZone}
use Rattle.dm_model.specs.GroupCalls.{are_written, is_zone_of, summed_chunks, with_sums}
use Rattle.dm_rules.specs.Plan.{chunks_of}
use Rattle.dm_rules.specs.Version.{has_sum}

-- ---- written zones
pub written_on : (bytes : List ℕ) (r : Reserved) (written : ByNumber WrittenZone) (k : ℕ) (ps rest : List Piece) (p : Piece) (whole : Bool) → ps ≡ p ∷ rest → is_zone_of bytes r p (map.get written k) ≡ true → are_written bytes r written k ps ≡ whole → are_written bytes r written (k + 1) rest ≡ whole
written_on bytes r written k ps rest p whole is here so = sym (ap (are_written bytes r written k) is ∙ ap (λ b. b && are_written bytes r written (k + 1) rest) here) ∙ so

pub written_not : (bytes : List ℕ) (r : Reserved) (written : ByNumber WrittenZone) (k : ℕ) (ps rest : List Piece) (p : Piece) (whole : Bool) → ps ≡ p ∷ rest → is_zone_of bytes r p (map.get written k) ≡ false → are_written bytes r written k ps ≡ whole → false ≡ whole
written_not bytes r written k ps rest p whole is here so = sym (ap (are_written bytes r written k) is ∙ ap (λ b. b && are_written bytes r written (k + 1) rest) here) ∙ so

pub written_end : (bytes : List ℕ) (r : Reserved) (written : ByNumber WrittenZone) (k : ℕ) (ps : List Piece) (whole : Bool) → ps ≡ [] → are_written bytes r written k ps ≡ whole → true ≡ whole
written_end bytes r written k ps whole none so = sym (ap (are_written bytes r written k) none) ∙ so

-- ---- sums of all pieces
module _ {A B : Type 0} (f : A → List B) where
  -- what was put, with what is left to be, is all
  pub put_on : (out more : List B) (left rest : List A) (x : A) (whole : List B) → left ≡ x ∷ rest → more ≡ out ++ f x → out ++ flat_map f left ≡ whole → more ++ flat_map f rest ≡ whole
  put_on out more left rest x whole is grown so =
      ap (λ ys. ys ++ flat_map f rest) grown ∙ append_assoc out (f x) (flat_map f rest)
      ∙ sym (ap (λ xs. out ++ flat_map f xs) is) ∙ so

  pub put_end : (out : List B) (left : List A) (whole : List B) → left ≡ [] → out ++ flat_map f left ≡ whole → out ≡ whole
  put_end out left whole none so = sym (append-nil out) ∙ sym (ap (λ xs. out ++ flat_map f xs) none) ∙ so

-- ---- a list that is made one by one
module _ {A B : Type 0} (f : A → B) where
  pub mapped_on : (out more : List B) (left rest : List A) (x : A) (whole : List B) → left ≡ x ∷ rest → more ≡ out ++ (f x ∷ []) → out ++ prelude.map f left ≡ whole → more ++ prelude.map f rest ≡ whole
  mapped_on out more left rest x whole is grown so =
      ap (λ ys. ys ++ prelude.map f rest) grown ∙ append_assoc out (f x ∷ []) (prelude.map f rest)
      ∙ sym (ap (λ xs. out ++ prelude.map f xs) is) ∙ so

  pub mapped_end : (out : List B) (left : List A) (whole : List B) → left ≡ [] → out ++ prelude.map f left ≡ whole → out ≡ whole
  mapped_end out left whole none so = sym (append-nil out) ∙ sym (ap (λ xs. out ++ prelude.map f xs) none) ∙ so

-- ---- chunks with sums
-- the chunks that are left, with the sums that are left
pub summed_on : (chunk : ℕ) (out more own : List Chunk) (left rest : List Piece) (p : Piece) (sums behind : List (List ℕ)) (whole : List Chunk) → left ≡ p ∷ rest → own ≡ chunks_of chunk p → behind ≡ cond (has_sum p.version) (drop (length own) sums) sums → more ≡ out ++ cond (has_sum p.version) (with_sums own sums) own → out ++ summed_chunks chunk left sums ≡ whole → more ++ summed_chunks chunk rest behind ≡ whole
summed_on chunk out more own left rest p sums behind whole is are_own are grown so =
    ap (λ ss. more ++ summed_chunks chunk rest ss) are
    ∙ ap (λ cs. cs ++ summed_chunks chunk rest (cond (has_sum p.version) (drop (length own) sums) sums)) grown
    ∙ either (has_sum p.version)
    ∙ ap (λ (cs : List Chunk). out ++ cond (has_sum p.version) (with_sums cs sums ++ summed_chunks chunk rest (drop (length cs) sums)) (cs ++ summed_chunks chunk rest sums)) are_own
    ∙ sym (ap (λ ps. out ++ summed_chunks chunk ps sums) is)
    ∙ so
  where
    either : (b : Bool) → (out ++ cond b (with_sums own sums) own) ++ summed_chunks chunk rest (cond b (drop (length own) sums) sums) ≡ out ++ cond b (with_sums own sums ++ summed_chunks chunk rest (drop (length own) sums)) (own ++ summed_chunks chunk rest sums)
    either true = append_assoc out (with_sums own sums) (summed_chunks chunk rest (drop (length own) sums))
    either false = append_assoc out own (summed_chunks chunk rest sums)

pub summed_end : (chunk : ℕ) (out : List Chunk) (left : List Piece) (sums : List (List ℕ)) (whole : List Chunk) → left ≡ [] → out ++ summed_chunks chunk left sums ≡ whole → out ≡ whole
summed_end chunk out left sums whole none so = sym (append-nil out) ∙ sym (ap (λ ps. out ++ summed_chunks chunk ps sums) none) ∙ so

-- a chunk, the sum that is its, and those behind both
with_first : (c : Chunk) (cs : List Chunk) (sums : List (List ℕ)) → with_sums (c ∷ cs) sums ≡ with_sum c (slice_get sums 0) ∷ with_sums cs (drop 1 sums)
with_first c cs [] = refl
with_first c cs (s ∷ sums) = refl

pub with_on : (out more left rest : List Chunk) (c one : Chunk) (sums behind : List (List ℕ)) (whole : List Chunk) → left ≡ c ∷ rest → one ≡ with_sum c (slice_get sums 0) → behind ≡ drop 1 sums → more ≡ out ++ (one ∷ []) → out ++ with_sums left sums ≡ whole → more ++ with_sums rest behind ≡ whole
with_on out more left rest c one sums behind whole is is_one is_behind grown so =
    ap (λ ss. more ++ with_sums rest ss) is_behind
    ∙ ap (λ cs. cs ++ with_sums rest (drop 1 sums)) grown
    ∙ append_assoc out (one ∷ []) (with_sums rest (drop 1 sums))
    ∙ ap (λ o. out ++ (o ∷ with_sums rest (drop 1 sums))) is_one
    ∙ sym (ap (λ cs. out ++ with_sums cs sums) is ∙ ap (λ cs. out ++ cs) (with_first c rest sums)) ∙ so

pub with_end : (out : List Chunk) (left : List Chunk) (sums : List (List ℕ)) (whole : List Chunk) → left ≡ [] → out ++ with_sums left sums ≡ whole → out ≡ whole
with_end out left sums whole none so = sym (append-nil out) ∙ sym (ap (λ cs. out ++ with_sums cs sums) none) ∙ so
