-- The first row that is violated, of rows behind rows.
use Rattle.std.proofs.Common.{◌≡◌, Bool, true, false, cond, List, [], ◌∷◌, ◌++◌, Option, Some, None, refl}
use Rattle.dm_base.specs.declared.conf.ConfKey.{ConfKey}
use Rattle.dm_config.specs.Rows.{Row, first_violated}
use Rattle.dm_config.specs.declared.error.ConfigError.{ConfigError}
use Rattle.dm_config.specs.declared.error.ConfigError.TheVariants.{BadConfig, NoMemory}
use Rattle.dm_config.specs.Misses.{Misses}

go_on : (b : Bool) (k key : ConfKey) (x y : Option ConfKey) → cond b x (Some k) ≡ Some key → (x ≡ Some key → y ≡ Some key) → cond b y (Some k) ≡ Some key
go_on true k key x y h f = f h
go_on false k key x y h f = h

pub violated_here : (xs ys : List Row) (key : ConfKey) → first_violated xs ≡ Some key → first_violated (xs ++ ys) ≡ Some key
violated_here [] ys key h = cc
violated_here (r ∷ xs) ys key h = go_on r.1 r.0 key (first_violated xs) (first_violated (xs ++ ys)) h (violated_here xs ys key)

skip : (b : Bool) (k : ConfKey) (x y z : Option ConfKey) → cond b x (Some k) ≡ None → (x ≡ None → y ≡ z) → cond b y (Some k) ≡ z
skip true k x y z h f = f h
skip false k x y z h f = cc

pub violated_later : (xs ys : List Row) → first_violated xs ≡ None → first_violated (xs ++ ys) ≡ first_violated ys
violated_later [] ys h = refl
violated_later (r ∷ xs) ys h = skip r.1 r.0 (first_violated xs) (first_violated (xs ++ ys)) (first_violated ys) h (violated_later xs ys)

pub misses_here : (xs ys : List Row) (e : ConfigError) → Misses xs e → Misses (xs ++ ys) e
misses_here xs ys (BadConfig k) h = violated_here xs ys k h
misses_here xs ys NoMemory h = tt

pub misses_later : (xs ys : List Row) (e : ConfigError) → first_violated xs ≡ None → Misses ys e → Misses (xs ++ ys) e
misses_later xs ys (BadConfig k) h m = rw (violated_later xs ys h) m
misses_later xs ys NoMemory h m = tt
