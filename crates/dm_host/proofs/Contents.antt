-- The bytes of files that are kept as a list.
use Rattle.std.proofs.Common.{◌≡◌, ◌≢◌, inl, inr, subst, ℕ, zero, suc, ◌<◌, ◌≤◌, List, [], ◌∷◌, ◌++◌, length, get_or, set, Vec, refl, sym, ◌∙◌, ap, arith}
use Rattle.std.proofs.lemmas.Bool.{cases_eq, cases_lt}
use Rattle.std.specs.declared.alloc.Global.{Global}
use Rattle.dm_host.specs.Past.{contents}

pub contents-at : (files : List (Vec ℕ Global)) (g : ℕ) (d : Vec ℕ Global) → g < length files → (get_or files g d).items ≡ contents files g
contents-at [] g d below = absurd (omega arith)
contents-at (file ∷ files) zero d below = refl
contents-at (file ∷ files) (suc g) d below = contents-at files g d (omega arith)

pub contents-past : (files : List (Vec ℕ Global)) (g : ℕ) → length files ≤ g → contents files g ≡ []
contents-past [] g past = refl
contents-past (file ∷ files) zero past = absurd (omega arith)
contents-past (file ∷ files) (suc g) past = contents-past files g (omega arith)

-- one more file with no bytes
pub contents-push : (files : List (Vec ℕ Global)) (file : Vec ℕ Global) → file.items ≡ [] → (g : ℕ) → contents (files ++ file ∷ []) g ≡ contents files g
contents-push [] file none zero = none
contents-push [] file none (suc g) = refl
contents-push (first ∷ files) file none zero = refl
contents-push (first ∷ files) file none (suc g) = contents-push files file none g

pub contents-set : (files : List (Vec ℕ Global)) (g : ℕ) (file : Vec ℕ Global) → g < length files → contents (set files g file) g ≡ file.items
contents-set [] g file below = absurd (omega arith)
contents-set (first ∷ files) zero file below = refl
contents-set (first ∷ files) (suc g) file below = contents-set files g file (omega arith)

pub contents-set_other : (files : List (Vec ℕ Global)) (i : ℕ) (file : Vec ℕ Global) (g : ℕ) → g ≢ i → contents (set files i file) g ≡ contents files g
contents-set_other [] i file g apart = refl
contents-set_other (first ∷ files) zero file zero apart = absurd (apart refl)
contents-set_other (first ∷ files) zero file (suc g) apart = refl
contents-set_other (first ∷ files) (suc i) file zero apart = refl
contents-set_other (first ∷ files) (suc i) file (suc g) apart = contents-set_other files i file g (λ e. apart (ap (λ (k : ℕ). suc k) e))

-- a file in the place of one with the same bytes
pub contents-set_same : (files : List (Vec ℕ Global)) (i : ℕ) (file : Vec ℕ Global) → i < length files → file.items ≡ contents files i → contents (set files i file) ≡ contents files
contents-set_same files i file below same = λ k g. each g k
  where
    each : (g : ℕ) → contents (set files i file) g ≡ contents files g
    each g = elim (cases_eq g i) [
      | inl is ↦ subst (λ (h : ℕ). contents (set files i file) h ≡ contents files h) (sym is) (contents-set files i file below ∙ same)
      | inr apart ↦ contents-set_other files i file g apart
    ]

-- a file that has a byte is there
pub contents-there : (files : List (Vec ℕ Global)) (g place : ℕ) → place < length (contents files g) → g < length files
contents-there files g place below = elim (cases_lt g (length files)) [
  | inl there ↦ there
  | inr past ↦ let none = ap length (contents-past files g past) in absurd (omega arith)
]
