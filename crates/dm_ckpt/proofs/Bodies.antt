-- Bodies of rows.
use Rattle.std.proofs.Common.{◌≡◌, ℕ, ◌+◌, ◌<◌, ◌≤◌, List, [], ◌∷◌, ◌++◌, length, take, get_or, refl, sym, ◌∙◌, ap, arith, length-append}
use Rattle.std.proofs.lemmas.Grind.{flat_map-append}
use Rattle.std.proofs.lemmas.List.{append-nil, append_assoc, take_more, take_all}
use Rattle.dm_journal.specs.Grammar.{inner}
use Rattle.dm_ckpt.specs.Area.{body, body_length, header, content}

pub length-body : (rows : List (List ℕ)) → length (body rows) ≡ body_length rows
length-body [] = refl
length-body (row ∷ rows) = length-append (inner row) (body rows) ∙ omega (arith, length-body rows)

body_push : (rows : List (List ℕ)) (row : List ℕ) → body (rows ++ row ∷ []) ≡ body rows ++ inner row
body_push rows row = flat_map-append inner rows (row ∷ []) ∙ ap (λ (l : List ℕ). body rows ++ l) (append-nil (inner row))

pub body_more : (rows : List (List ℕ)) (k : ℕ) → k < length rows → body (take (k + 1) rows) ≡ body (take k rows) ++ inner (get_or rows k [])
body_more rows k below = ap body (take_more rows k [] below) ∙ body_push (take k rows) (get_or rows k [])

-- one row more behind a front
pub front_more : (front : List ℕ) (rows : List (List ℕ)) (k : ℕ) → k < length rows → front ++ body (take k rows) ++ inner (get_or rows k []) ≡ front ++ body (take (k + 1) rows)
front_more front rows k below = append_assoc front (body (take k rows)) (inner (get_or rows k [])) ∙ ap (λ (l : List ℕ). front ++ l) (sym (body_more rows k below))

-- all of them are a content
pub front_all : (generation size : ℕ) (rows : List (List ℕ)) (k : ℕ) → length rows ≤ k → size ≡ body_length rows → header generation size ++ body (take k rows) ≡ content generation rows
front_all generation size rows k past is =
    (λ i. header generation ((is ∙ sym (length-body rows)) i) ++ body (take_all k rows past i))
