-- A meaning for a value that stands for several is as lawful as the meaning for each of these.
use Rattle.std.specs.Prelude.{ℕ, ◌≤◌, List, length}
use Rattle.dm_spine.specs.Past.{In, IsPart, Lawful, Legal, Meaning}
use Rattle.dm_openings.specs.Every.{every}

module _ {S T N E : Type 0} (stands : S → T → Type 0) (fixed : S → List N) (m : Meaning T N E) where
  pub part_each : (xs ys : List (ℕ × E)) → IsPart (every stands fixed m) xs ys → IsPart m xs ys
  part_each xs ys part = record { rises = part.rises; ordered = part.ordered; within = part.within; chained = part.chained }

  pub legal_each : (s : S) (t : T) (xs : List (ℕ × E)) → stands s t → Legal (every stands fixed m) s xs → Legal m t xs
  legal_each s t xs is legal = λ n e h.
      let fits = legal n e h in record { needed = fits.needed t is; followed = λ x about. fits.followed x about t is }

  pub lawful_every : ((s : S) (n : ℕ) (e : E) (x : N) → In x (m.makes n e) → In x (fixed s) → ⊥) → ((s : S) → length (fixed s) ≤ 32768)
      → Lawful m → Lawful (every stands fixed m)
  lawful_every loose few lawful = record {
    same_is = lawful.same_is;
    same_self = lawful.same_self;
    home_about = lawful.home_about;
    ends_about = lawful.ends_about;
    makes_about = lawful.makes_about;
    makes_loose = loose;
    homes_stay = lawful.homes_stay;
    fixed_few = few;
    needs_grow = λ s xs ys e part legal more chains needs t is.
        lawful.needs_grow t xs ys e (part_each xs ys part) (legal_each s t xs is legal) (legal_each s t ys is more) chains (needs t is);
  }
