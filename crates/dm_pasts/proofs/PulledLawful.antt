-- A meaning by what a value stands for is as lawful as the meaning that it is taken from.
use Rattle.std.specs.Prelude.{ℕ, List}
use Rattle.dm_spine.specs.Past.{IsPart, Lawful, Legal, Meaning}
use Rattle.dm_pasts.specs.Pulled.{pulled}

module _ {S T N E : Type 0} (f : S → T) (m : Meaning T N E) where
  part_of : (xs ys : List (ℕ × E)) → IsPart (pulled f m) xs ys → IsPart m xs ys
  part_of xs ys part = record { rises = part.rises; ordered = part.ordered; within = part.within; chained = part.chained }

  legal_of : (s : S) (xs : List (ℕ × E)) → Legal (pulled f m) s xs → Legal m (f s) xs
  legal_of s xs legal = λ n e h. let fits = legal n e h in record { needed = fits.needed; followed = fits.followed }

  pub lawful_pulled : Lawful m → Lawful (pulled f m)
  lawful_pulled lawful = record {
    same_is = lawful.same_is;
    same_self = lawful.same_self;
    home_about = lawful.home_about;
    ends_about = lawful.ends_about;
    makes_about = lawful.makes_about;
    makes_loose = λ s n e x made fixed. lawful.makes_loose (f s) n e x made fixed;
    homes_stay = lawful.homes_stay;
    fixed_few = λ s. lawful.fixed_few (f s);
    needs_grow = λ s xs ys e part legal more chains needs.
        lawful.needs_grow (f s) xs ys e (part_of xs ys part) (legal_of s xs legal) (legal_of s ys more) chains needs;
  }
