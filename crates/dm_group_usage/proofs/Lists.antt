-- What is left of a list from an index on.
use Rattle.std.proofs.Common.{◌≡◌, ℕ, suc, ◌+◌, ◌<◌, List, [], ◌∷◌, length, get_or, drop, sym, ap, ◌∙◌, arith, None}
use Rattle.std.proofs.Math.Seq.{drop-cons}
use Rattle.dm_base.specs.declared.volume.Chunk.{Chunk}
use Rattle.dm_base.specs.declared.volume.Piece.{Piece}

-- the element at an index and those behind it
pub drop_next : {A : Type 0} (l : List A) (j : ℕ) (d : A) → j < length l → drop j l ≡ get_or l j d ∷ drop (j + 1) l
drop_next l j d h = drop-cons l j d h ∙ (let e : suc j ≡ j + 1 = omega arith in ap (λ n. get_or l j d ∷ drop n l) e)

-- the next element of a list by another name
pub drop_next_of : {A : Type 0} (xs ys : List A) (i : ℕ) (d : A) → xs ≡ ys → i < length xs → drop i ys ≡ get_or xs i d ∷ drop (i + 1) ys
drop_next_of xs ys i d same h = ap (drop i) (sym same) ∙ drop_next xs i d h ∙ ap (λ zs. get_or xs i d ∷ drop (i + 1) zs) same

-- some chunk and some piece
abbrev pub no_chunk : Chunk
no_chunk = record { offset = 0; len = 0; vsn = record { 0 = [] }; zone = 0; place = 0; sum = None }

abbrev pub no_piece : Piece
no_piece = record { vsn = record { 0 = [] }; version = 0; zone = 0; offset = 0; len = 0 }
