-- Loops over the chunks of a bitfile.
use Rattle.std.proofs.Common.{◌≡◌, ℕ, zero, suc, ◌+◌, ◌<◌, ◌≤◌, List, [], ◌∷◌, length, drop, take, get_or, IsSome, refl, sym, ap, subst, ◌∙◌, arith}
use Rattle.std.proofs.lemmas.List.{drop_more, drop_all, take_all}
use Rattle.dm_base.specs.declared.volume.Chunk.{Chunk}
use Rattle.std.specs.FinMap.{get}
use Rattle.dm_durable.specs.Tables.{ByName}
use Rattle.dm_tables.specs.Rows.{adjust}
use Rattle.dm_catalogue.specs.declared.homes.Live.{Live}
use Rattle.dm_catalogue.specs.Sums.{Known, with_all, with_fewer, with_more, without_all}

-- an item that was read
pub read_again : {A : Type 0} (l : List A) (i : ℕ) (y : A) → i < length l → get_or l i y ≡ get_or l i (get_or l i y)
read_again [] i y small = absurd (omega arith)
read_again (x ∷ l) zero y small = refl
read_again (x ∷ l) (suc i) y small = read_again l i y (omega arith)

pub more_on : (chunks : List Chunk) (i : ℕ) (c : Chunk) (homes after whole : ByName Live) → i < length chunks → c ≡ get_or chunks i c
    → after ≡ adjust homes c.vsn.0 (with_more c.len) → with_all (drop i chunks) homes ≡ whole → with_all (drop (i + 1) chunks) after ≡ whole
unfolding with_all
more_on chunks i c homes after whole small is changed so_far =
    ap (with_all (drop (i + 1) chunks)) changed
    ∙ sym (ap (λ l. with_all l homes) (drop_more chunks i c small ∙ ap (λ d. d ∷ drop (i + 1) chunks) (sym is)))
    ∙ so_far

pub more_end : (chunks : List Chunk) (i : ℕ) (homes whole : ByName Live) → length chunks ≤ i → with_all (drop i chunks) homes ≡ whole → homes ≡ whole
unfolding with_all
more_end chunks i homes whole past so_far = sym (ap (λ l. with_all l homes) (drop_all i chunks past)) ∙ so_far

pub fewer_on : (chunks : List Chunk) (i : ℕ) (c : Chunk) (homes after whole : ByName Live) → i < length chunks → c ≡ get_or chunks i c
    → after ≡ adjust homes c.vsn.0 (with_fewer c.len) → without_all (drop i chunks) homes ≡ whole → without_all (drop (i + 1) chunks) after ≡ whole
unfolding without_all
fewer_on chunks i c homes after whole small is changed so_far =
    ap (without_all (drop (i + 1) chunks)) changed
    ∙ sym (ap (λ l. without_all l homes) (drop_more chunks i c small ∙ ap (λ d. d ∷ drop (i + 1) chunks) (sym is)))
    ∙ so_far

pub fewer_end : (chunks : List Chunk) (i : ℕ) (homes whole : ByName Live) → length chunks ≤ i → without_all (drop i chunks) homes ≡ whole → homes ≡ whole
unfolding without_all
fewer_end chunks i homes whole past so_far = sym (ap (λ l. without_all l homes) (drop_all i chunks past)) ∙ so_far

-- the chunks up to one more are known
known_next : (chunks : List Chunk) (i : ℕ) (c : Chunk) (homes : ByName Live) → i < length chunks → c ≡ get_or chunks i c → IsSome (get homes c.vsn.0)
    → Known homes (take i chunks) → Known homes (take (suc i) chunks)
known_next [] i c homes small is here known = absurd (omega arith)
known_next (x ∷ chunks) zero c homes small is here known = (subst (λ d. IsSome (get homes d.vsn.0)) is here, tt)
known_next (x ∷ chunks) (suc i) c homes small is here known = (known.0, known_next chunks i c homes (omega arith) is here known.1)

pub known_on : (chunks : List Chunk) (i : ℕ) (c : Chunk) (homes : ByName Live) → i < length chunks → c ≡ get_or chunks i c → IsSome (get homes c.vsn.0)
    → Known homes (take i chunks) → Known homes (take (i + 1) chunks)
known_on chunks i c homes small is here known =
    subst (λ n. Known homes (take n chunks)) (let e : suc i ≡ i + 1 = omega arith in e) (known_next chunks i c homes small is here known)

pub known_end : (chunks : List Chunk) (i : ℕ) (homes : ByName Live) → length chunks ≤ i → Known homes (take i chunks) → Known homes chunks
known_end chunks i homes past known = subst (Known homes) (take_all i chunks past) known
