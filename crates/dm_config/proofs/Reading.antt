-- The rows of a table in their parts, one behind another, and what a whole text is answered.
use Rattle.std.proofs.Common.{◌≡◌, inr, ◌≤◌, Bool, true, false, cond, List, [], ◌∷◌, ◌++◌, length, ℕ, Some, None, unwrap_or, Result, Ok, Err, IfOk, IfErr, OnOk, IsUtf8, ap, sym, subst, ◌∙◌}
use Rattle.dm_base.specs.declared.conf.ConfKey.{ConfKey}
use Rattle.dm_base.specs.declared.conf.ConfKey.TheVariants.{Unknown}
use Rattle.dm_base.specs.declared.conf.GroupConf.{GroupConf}
use Rattle.dm_base.specs.declared.conf.SpaceConf.{SpaceConf}
use Rattle.toml.specs.Data.{Members}
use Rattle.toml.specs.Parse.{parse_document}
use Rattle.dm_config.specs.declared.config.Config.{Config}
use Rattle.dm_config.specs.declared.error.ConfigError.{ConfigError}
use Rattle.dm_config.specs.declared.error.ConfigError.TheVariants.{BadConfig, NoMemory}
use Rattle.dm_config.specs.declared.top.Top.{Top}
use Rattle.dm_config.specs.Top.{IsTop}
use Rattle.dm_config.specs.Space.{HasSpace}
use Rattle.dm_config.specs.Groups.{AreGroups}
use Rattle.dm_config.specs.Misses.{Misses}
use Rattle.dm_config.specs.Config.{Configures, IsOf, RefusedFor}
use Rattle.dm_config.specs.Rows.{Row, first_violated, rows_of, top_rows, rows_of_groups, space_rows, groups_in, space_in, cap_in, is_known}
use Rattle.dm_config.proofs.Rows.{violated_here, violated_later, misses_here, misses_later}

abbrev numbers : List ℕ
numbers = 1 ∷ 2 ∷ 3 ∷ 4 ∷ []

abbrev groups_rows : Members → List Row
groups_rows g = rows_of_groups g [] numbers

abbrev last_rows : Members → List Row
last_rows t = (Unknown, is_known t) ∷ []

abbrev behind_groups : Members → List Row
behind_groups t = space_rows (unwrap_or (cap_in t) 0) (space_in t) ++ last_rows t

pub misses_top : (t : Members) (k : ConfKey) → first_violated (top_rows t) ≡ Some k → first_violated (rows_of t) ≡ Some k
misses_top t k h = violated_here (top_rows t) (groups_rows (groups_in t) ++ behind_groups t) k h

pub misses_groups : (t g : Members) (e : ConfigError) → g ≡ groups_in t → first_violated (top_rows t) ≡ None → Misses (rows_of_groups g [] (1 ∷ 2 ∷ 3 ∷ 4 ∷ [])) e → Misses (rows_of t) e
misses_groups t g e eg met m =
    let P : Members → Type 0 = λ ms. Misses (rows_of_groups ms [] numbers) e in
    misses_later (top_rows t) (groups_rows (groups_in t) ++ behind_groups t) e met (misses_here (groups_rows (groups_in t)) (behind_groups t) e (subst P eg m))

to_space : (t g s : Members) (cap : ℕ) → g ≡ groups_in t → s ≡ space_in t → cap_in t ≡ Some cap → first_violated (top_rows t) ≡ None
    → first_violated (rows_of_groups g [] (1 ∷ 2 ∷ 3 ∷ 4 ∷ [])) ≡ None → first_violated (rows_of t) ≡ first_violated (space_rows cap s ++ last_rows t)
to_space t g s cap eg es ecap met mg =
    let P : Members → Type 0 = λ ms. first_violated (rows_of_groups ms [] numbers) ≡ None in
    let here : first_violated (groups_rows (groups_in t)) ≡ None = subst P eg mg in
    let e : unwrap_or (cap_in t) 0 ≡ cap = ap (λ o. unwrap_or o 0) ecap in
    violated_later (top_rows t) (groups_rows (groups_in t) ++ behind_groups t) met
    ∙ violated_later (groups_rows (groups_in t)) (behind_groups t) here
    ∙ ap (λ n. first_violated (space_rows n (space_in t) ++ last_rows t)) e
    ∙ ap (λ m. first_violated (space_rows cap m ++ last_rows t)) (sym es)

pub misses_space : (t g s : Members) (cap : ℕ) (k : ConfKey) → g ≡ groups_in t → s ≡ space_in t → cap_in t ≡ Some cap → first_violated (top_rows t) ≡ None
    → first_violated (rows_of_groups g [] (1 ∷ 2 ∷ 3 ∷ 4 ∷ [])) ≡ None → first_violated (space_rows cap s) ≡ Some k → first_violated (rows_of t) ≡ Some k
misses_space t g s cap k eg es ecap met mg h = to_space t g s cap eg es ecap met mg ∙ violated_here (space_rows cap s) (last_rows t) k h

to_last : (t g s : Members) (cap : ℕ) (b : Bool) → g ≡ groups_in t → s ≡ space_in t → cap_in t ≡ Some cap → first_violated (top_rows t) ≡ None
    → first_violated (rows_of_groups g [] (1 ∷ 2 ∷ 3 ∷ 4 ∷ [])) ≡ None → first_violated (space_rows cap s) ≡ None → is_known t ≡ b
    → first_violated (rows_of t) ≡ cond b None (Some Unknown)
to_last t g s cap b eg es ecap met mg ms known =
    to_space t g s cap eg es ecap met mg ∙ violated_later (space_rows cap s) (last_rows t) ms ∙ ap (λ x. cond x None (Some Unknown)) known

pub misses_known : (t g s : Members) (cap : ℕ) → g ≡ groups_in t → s ≡ space_in t → cap_in t ≡ Some cap → first_violated (top_rows t) ≡ None
    → first_violated (rows_of_groups g [] (1 ∷ 2 ∷ 3 ∷ 4 ∷ [])) ≡ None → first_violated (space_rows cap s) ≡ None → is_known t ≡ false → first_violated (rows_of t) ≡ Some Unknown
misses_known t g s cap = to_last t g s cap false

pub all_met : (t g s : Members) (cap : ℕ) → g ≡ groups_in t → s ≡ space_in t → cap_in t ≡ Some cap → first_violated (top_rows t) ≡ None
    → first_violated (rows_of_groups g [] (1 ∷ 2 ∷ 3 ∷ 4 ∷ [])) ≡ None → first_violated (space_rows cap s) ≡ None → is_known t ≡ true → first_violated (rows_of t) ≡ None
all_met t g s cap = to_last t g s cap true

pub of_parts : (t g s : Members) (top : Top) (confs : List GroupConf) (space : SpaceConf) → g ≡ groups_in t → s ≡ space_in t → IsTop t top
    → AreGroups g (1 ∷ 2 ∷ 3 ∷ 4 ∷ []) [] confs → HasSpace top.daemon.cap s space
    → IsOf t (record { daemon = top.daemon; sessions = top.sessions; copies = top.copies; groups = confs; space = space })
of_parts t g s top confs space eg es is are has =
    let P : Members → Type 0 = λ ms. AreGroups ms (1 ∷ 2 ∷ 3 ∷ 4 ∷ []) [] confs in
    let Q : Members → Type 0 = λ ms. HasSpace top.daemon.cap ms space in
    let spaced : HasSpace top.daemon.cap (space_in t) space = subst Q es has in
    record {
      site = is.site;
      first = is.first;
      age = is.age;
      cap = is.cap;
      sessions = is.sessions;
      copies = is.copies;
      groups = subst P eg are;
      high = spaced.high;
      low = spaced.low;
      ahead = spaced.ahead;
      age_weight = spaced.age_weight;
      size_weight = spaced.size_weight;
    }

-- a text whose table was read is configured by it
pub configures : (text : List ℕ) (t : Members) (r : Result Config ConfigError) → length text ≤ 65536 → IsUtf8 text → parse_document text ≡ Some t
    → IfOk r (IsOf t) → OnOk r (first_violated (rows_of t) ≡ None) → IfOk r (Configures text)
configures text t (Ok c) short utf8 document is met = record { table = t; reads = record { short = short; is_text = utf8; document = document }; met = met; is_of = is }
configures text t (Err e) short utf8 document is met = tt

-- or refused for the row that it violates first
pub refuses : (text : List ℕ) (t : Members) (r : Result Config ConfigError) → length text ≤ 65536 → IsUtf8 text → parse_document text ≡ Some t
    → IfErr r (Misses (rows_of t)) → IfErr r (RefusedFor text)
refuses text t (Ok c) short utf8 document m = tt
refuses text t (Err NoMemory) short utf8 document m = tt
refuses text t (Err (BadConfig k)) short utf8 document m =
    inr (inr (record { table = t; reads = record { short = short; is_text = utf8; document = document }; first = m }))
