-- Files stand for one list of payloads.
use Rattle.std.proofs.Common.{◌≡◌, inl, inr, ℕ, ◌+◌, ◌<◌, List, [], ◌∷◌, ◌++◌, length, take, drop, refl, sym, ◌∙◌, ap, subst, arith, length-append}
use Rattle.std.proofs.lemmas.List.{append_assoc, take_at, drop_at}
use Rattle.std.specs.List.{AllByRecursion}
use Rattle.dm_host.specs.Disk.{Disk, Image}
use Rattle.dm_journal.specs.Grammar.{Fits, inner, StandsFor as LogStandsFor}
use Rattle.dm_journal.proofs.Measuring.{same_number}
use Rattle.dm_journal.proofs.Unique.{one_meaning}
use Rattle.dm_ckpt.specs.declared.files.Index.{Index}
use Rattle.dm_ckpt.specs.declared.files.Index.TheVariants.{First, Second}
use Rattle.dm_ckpt.specs.Area.{body, HoldsRows}
use Rattle.dm_ckpt.specs.Files.{area_file, log_file, opposite}
use Rattle.dm_ckpt.specs.State.{InUse, IsBehind, StandsFor, At, Keeps}
use Rattle.dm_ckpt.proofs.Choosing.{one_generation}
use Rattle.dm_ckpt.proofs.Gates.{shut_or_holds}
use Rattle.dm_ckpt.proofs.Headers.{says_once, says_holds, behind_header}
use Rattle.dm_ckpt.proofs.Standing.{old_stands}

-- two bodies that begin with a row
same_row : (p q x y : List ℕ) → Fits p → Fits q → inner p ++ x ≡ inner q ++ y → (p ≡ q) × (x ≡ y)
same_row p q x y fp fq e =
    let size : length p ≡ length q = same_number (length p) (length q) (omega (arith, fp)) (omega (arith, fq)) (ap (λ (l : List ℕ). take 4 l) e) in
    let rest : p ++ x ≡ q ++ y = ap (λ (l : List ℕ). drop 4 l) e in (
      sym (take_at p x (length p) refl) ∙ ap (λ (l : List ℕ). take (length p) l) rest ∙ take_at q y (length p) (sym size),
      sym (drop_at p x (length p) refl) ∙ ap (λ (l : List ℕ). drop (length p) l) rest ∙ drop_at q y (length p) (sym size),
    )

long_body : (row : List ℕ) (rows : List (List ℕ)) → length (body (row ∷ rows)) ≡ 4 + length row + length (body rows)
long_body row rows =
    let long : length (inner row) ≡ 4 + length row = omega arith in
    length-append (inner row) (body rows) ∙ omega (arith, long)

same_rows : (ps qs : List (List ℕ)) (x y : List ℕ) → AllByRecursion Fits ps → AllByRecursion Fits qs → length (body ps) ≡ length (body qs) → body ps ++ x ≡ body qs ++ y → ps ≡ qs
same_rows [] [] x y fp fq size e = refl
same_rows [] (q ∷ qs) x y fp fq size e = absurd (omega (arith, size, long_body q qs))
same_rows (p ∷ ps) [] x y fp fq size e = absurd (omega (arith, size, long_body p ps))
same_rows (p ∷ ps) (q ∷ qs) x y fp fq size e =
    let parts : (p ≡ q) × (body ps ++ x ≡ body qs ++ y) =
    same_row p q (body ps ++ x) (body qs ++ y) fp.0 fq.0 (sym (append_assoc (inner p) (body ps) x) ∙ e ∙ append_assoc (inner q) (body qs) y) in
    let shorter : length (body ps) ≡ length (body qs) = omega (arith, size, long_body p ps, long_body q qs, ap (λ (l : List ℕ). length l) parts.0) in
    let rest : ps ≡ qs = same_rows ps qs x y fp.1 fq.1 shorter parts.1 in
    λ i. parts.0 i ∷ rest i

-- an area holds one list of rows
rows_once : (g h : ℕ) (rows more : List (List ℕ)) (area : List ℕ) → HoldsRows g rows area → HoldsRows h more area → rows ≡ more
rows_once g h rows more area a b =
    let size : length (body more) ≡ length (body rows) = (says_once g rows area 1 h (length (body more)) a b.number b.size (says_holds h more area b)).1.1 in
    same_rows rows more a.junk b.junk a.fits b.fits (sym size) (sym (behind_header g rows area a) ∙ behind_header h more area b)

in_use_once : (i j : Index) (g h : ℕ) (rows more : List (List ℕ)) (area : List ℕ) → InUse i g rows area → InUse j h more area → rows ≡ more
in_use_once i j g h rows more area (inl a) (inl b) = rows_once g h rows more area a b
in_use_once i j g h rows more area (inl a) (inr none) = absurd (shut_or_holds g rows area none.0 a)
in_use_once i j g h rows more area (inr none) (inl b) = absurd (shut_or_holds h more area none.0 b)
in_use_once i j g h rows more area (inr none) (inr none') = none.1.1.1 ∙ sym none'.1.1.1

-- what is in use by one reading isn't of an earlier generation than by the other
not_earlier : (g h : ℕ) (rows : List (List ℕ)) (area : List ℕ) → HoldsRows g rows area → IsBehind h area → g < h
not_earlier g h rows area a (inl shut) = absurd (shut_or_holds g rows area shut a)
not_earlier g h rows area a (inr earlier) = omega (arith, earlier.1.1.1, one_generation g earlier.0 rows earlier.1.0 area a earlier.1.1.0)

not_both : (g h : ℕ) (rows more : List (List ℕ)) (first second : List ℕ) → InUse First g rows first → IsBehind g second → InUse Second h more second → IsBehind h first → ⊥
not_both g h rows more first second a behind (inr none) behind' = absurd (cc (none.1.0))
not_both g h rows more first second (inl a) behind (inl b) behind' = absurd (omega (arith, not_earlier g h rows first a behind', not_earlier h g more second b behind))
not_both g h rows more first second (inr none) behind (inl b) behind' = absurd (omega (arith, none.1.1.0, not_earlier h g more second b behind))

both_lists : (rows more logged others : List (List ℕ)) → rows ≡ more → logged ≡ others → rows ++ logged ≡ more ++ others
both_lists rows more logged others a b = λ i. a i ++ b i

of_indexes : (c : ℕ) (i j : Index) (g h : ℕ) (rows more logged others : List (List ℕ)) (x : Image)
    → InUse i g rows (x (area_file c i)) → IsBehind g (x (area_file c (opposite i))) → LogStandsFor logged (x (log_file c i))
    → InUse j h more (x (area_file c j)) → IsBehind h (x (area_file c (opposite j))) → LogStandsFor others (x (log_file c j)) → rows ++ logged ≡ more ++ others
of_indexes c First First g h rows more logged others x a behind log b behind' log' =
    both_lists rows more logged others (in_use_once First First g h rows more _ a b) (one_meaning logged others _ log log')
of_indexes c Second Second g h rows more logged others x a behind log b behind' log' =
    both_lists rows more logged others (in_use_once Second Second g h rows more _ a b) (one_meaning logged others _ log log')
of_indexes c First Second g h rows more logged others x a behind log b behind' log' = absurd (not_both g h rows more _ _ a behind b behind')
of_indexes c Second First g h rows more logged others x a behind log b behind' log' = absurd (not_both h g more rows _ _ b behind' a behind)

-- an image stands for one list
pub one_list : (c : ℕ) (ps qs : List (List ℕ)) (x : Image) → StandsFor c ps x → StandsFor c qs x → ps ≡ qs
one_list c ps qs x s t =
    s.is ∙ of_indexes c s.index t.index s.generation t.generation s.rows t.rows s.logged t.logged x s.in_use s.behind s.log t.in_use t.behind t.log ∙ sym t.is

-- what a store keeps is what its files stand for
pub keeps_seen : (d : Disk) (s : At) (ps : List (List ℕ)) → Keeps d s ps → StandsFor s.component ps d.seen
keeps_seen d s ps k = old_stands s.component s.index s.generation s.place ps k.lists d.seen k.left.area (subst (λ (l : List ℕ). IsBehind s.generation l) (sym k.left.behind) k.behind) k.left.log

pub kept_once : (d : Disk) (s : At) (ps qs : List (List ℕ)) → Keeps d s ps → StandsFor s.component qs d.seen → ps ≡ qs
kept_once d s ps qs k t = one_list s.component ps qs d.seen (keeps_seen d s ps k) t
