-- The words of a run.
use Rattle.std.proofs.Common.{◌≡◌, ℕ, ◌<◌, Bool, true, List, [], ◌∷◌, length, refl, sym, ◌∙◌, ap, subst, arith}
use Rattle.std.specs.Prelude.{codes, map, IsTrue}
use Rattle.std.specs.Str.{bytes_eq}
use Rattle.std.proofs.lemmas.Slice.Eq.{bytes_eq-Decides}
use Rattle.dm_site.specs.Script.{AreRun}

pub too_few_none : AreRun [] → ⊥
too_few_none r = omega (arith, ap length r.spelled)

pub too_few_one : (texts : List (List ℕ)) (first : List ℕ) → texts ≡ first ∷ [] → AreRun texts → ⊥
too_few_one texts first e r = omega (arith, ap length (sym e ∙ r.spelled))

pub too_many : (texts : List (List ℕ)) (first folder : List ℕ) (more : List (List ℕ)) → texts ≡ first ∷ folder ∷ more → (more ≡ [] → ⊥) → AreRun texts → ⊥
too_many texts first folder more e some r = some (let both : first ∷ folder ∷ more ≡ codes "run" ∷ r.folder ∷ [] = sym e ∙ r.spelled in cc)

pub no_folder : (texts : List (List ℕ)) (first folder : List ℕ) (more : List (List ℕ)) → texts ≡ first ∷ folder ∷ more → length folder ≡ 0 → AreRun texts → ⊥
no_folder texts first folder more e empty r =
    let same : folder ≡ r.folder = (let both : first ∷ folder ∷ more ≡ codes "run" ∷ r.folder ∷ [] = sym e ∙ r.spelled in cc) in
    omega (arith, ap length same, r.some, empty)

pub run_decided : (texts : List (List ℕ)) (first folder : List ℕ) (more : List (List ℕ)) → texts ≡ first ∷ folder ∷ more → more ≡ [] → 0 < length folder
    → (AreRun texts → first ≡ codes "run") × (first ≡ codes "run" → AreRun texts)
run_decided texts first folder more e none some = (
  λ r. let both : first ∷ folder ∷ more ≡ codes "run" ∷ r.folder ∷ [] = sym e ∙ r.spelled in cc,
  λ same. record { folder = folder; some = some; spelled = e ∙ ap (λ (m : List (List ℕ)). first ∷ folder ∷ m) none ∙ ap (λ (f : List ℕ). f ∷ folder ∷ []) same },
)

no_elements : {A : Type 0} (xs : List A) → length xs ≡ 0 → xs ≡ []
no_elements [] e = refl
no_elements (x ∷ xs) e = absurd (omega (arith, e))

-- the code's tests of two words, the first of them in full
pub run_tested : {W : Type 0} (text : W → List ℕ) (words rest more : List W) (first folder : W) (r : Bool) → words ≡ first ∷ rest → rest ≡ folder ∷ more → length more ≡ 0 → 0 < length (text folder)
    → r ≡ bytes_eq (text first) (codes "run") → (IsTrue r → AreRun (map text words)) × (AreRun (map text words) → IsTrue r)
run_tested text words rest more first folder r e f none some is =
    let texts : map text words ≡ text first ∷ text folder ∷ map text more = ap (map text) (e ∙ ap (λ ws. first ∷ ws) f) in
    let nothing : map text more ≡ [] = ap (map text) (no_elements more none) in
    let d = run_decided (map text words) (text first) (text folder) (map text more) texts nothing some in
    let test = bytes_eq-Decides (text first) (codes "run") in
    (λ t. d.1 (test.0 (sym is ∙ t)), λ a. is ∙ test.1 (d.0 a))
