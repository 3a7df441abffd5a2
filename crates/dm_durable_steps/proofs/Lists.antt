-- A list that is made of another's values one by one.
use Rattle.std.proofs.Common.{◌≡◌, ℕ, ◌≤◌, List, [], ◌∷◌, ◌++◌, length, map, drop, sym, ap, ◌∙◌, append_assoc}
use Rattle.std.proofs.lemmas.List.{append-nil}
use Rattle.std.proofs.Math.ListN.{drop_of_length-le}

-- one more value was made
pub made_more : {X Y : Type 0} (f : X → Y) (whole done new : List Y) (x : X) (y : Y) (left rest : List X) → whole ≡ done ++ map f left → left ≡ x ∷ rest → y ≡ f x → new ≡ done ++ y ∷ [] → whole ≡ new ++ map f rest
made_more f whole done new x y left rest was at is pushed =
    was ∙ ap (λ l. done ++ map f l) at ∙ sym (append_assoc done (f x ∷ []) (map f rest)) ∙ ap (λ v. (done ++ v ∷ []) ++ map f rest) (sym is) ∙ ap (λ l. l ++ map f rest) (sym pushed)

-- all were made
pub made_all : {X Y : Type 0} (f : X → Y) (whole done : List Y) (xs : List X) (i : ℕ) → whole ≡ done ++ map f (drop i xs) → length xs ≤ i → done ≡ whole
made_all f whole done xs i was end = sym (was ∙ ap (λ l. done ++ map f l) (drop_of_length-le xs end) ∙ append-nil done)
